-- Numbers that stand one after the other on the stack. Assumes nothing.
use Prim.Native.Nat.{ℕ, zero, suc, ◌+◌, ◌-◌, ◌≤◌, ◌<◌}
use mathlib.Core.Path.{◌≡◌, ◌∙◌}
use mathlib.Core.List.{List, [], ◌∷◌}
use native.Mathlib.Omega.{arith}
use lib.ListN.{length, get_or, set}
use lib.Seq.{drop-cons, get_or-set_same, get_or-set_other}
use Rattle.judgments.specs.Below.words.specs.Parts.{part}

pub data Row (stack : List ℕ) : ℕ → List ℕ → Type 0 where
  no_words : {o : ℕ} → Row stack o []
  one_word : {o m : ℕ} {ms : List ℕ} → get_or stack o 0 ≡ m → Row stack (o + 1) ms → Row stack o (m ∷ ms)

-- They are a part of the stack.
pub row_part : {stack : List ℕ} {o : ℕ} {ms : List ℕ} (e : ℕ) → Row stack o ms → e ≡ o + length ms → e ≤ length stack → part o e stack ≡ ms
unfolding part
row_part {o} e no_words q l = let z : e - o ≡ 0 = omega arith in rw z
row_part {stack} {o} e (one_word {m} {ms} g r) q l =
    let z : e - o ≡ suc (e - (o + 1)) = omega arith in
    let y : suc o ≡ o + 1 = omega arith in
    rw (z, drop-cons stack o 0 (omega arith), y) (rw (g, ← row_part e r (omega arith) l))

pub row_set : {stack : List ℕ} {o : ℕ} {ms : List ℕ} (j v : ℕ) → j < o → Row stack o ms → Row (set stack j v) o ms
row_set j v l no_words = no_words
row_set {stack} {o} j v l (one_word g r) = one_word (get_or-set_other stack j o v 0 (λ e. omega arith) ∙ g) (row_set j v (omega arith) r)

pub row_first : {stack : List ℕ} (o v : ℕ) {ms : List ℕ} → o < length stack → Row stack (o + 1) ms → Row (set stack o v) o (v ∷ ms)
row_first {stack} o v l r = one_word (get_or-set_same stack o v 0 l) (row_set o v (omega arith) r)

-- The j-th of them.
pub row_at : {stack : List ℕ} {o : ℕ} {ms : List ℕ} (j : ℕ) → Row stack o ms → j < length ms → get_or stack (o + j) 0 ≡ get_or ms j 0
row_at j no_words l = absurd (omega arith)
row_at {o} zero (one_word g r) l = let z : o + 0 ≡ o = omega arith in rw z g
row_at {o} (suc j) (one_word g r) l = let z : o + suc j ≡ o + 1 + j = omega arith in rw z (row_at j r (omega arith))
