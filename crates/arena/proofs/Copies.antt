-- Words read from lists.
use Prim.Native.Nat.{ℕ, zero, suc, ◌+◌, ◌-◌, ◌≤◌, ◌<◌}
use mathlib.Core.Path.{◌≡◌, refl, sym, ◌∙◌}
use mathlib.Core.List.{List}
use native.Mathlib.Omega.{arith}
use lib.ListN.{length, get_or, take, drop}
use lib.Seq.{drop-cons, take-length}
use Rattle.words.specs.Parts.{part}
use Rattle.arena.specs.Store.{words_at}

pub words_at_same : (a b : List ℕ) (i j n : ℕ) → ((d : ℕ) → d < n → get_or a (i + d) 0 ≡ get_or b (j + d) 0) → words_at a i n ≡ words_at b j n
unfolding words_at
words_at_same a b i j zero same = refl
words_at_same a b i j (suc n) same =
    let i0 : i + 0 ≡ i = omega arith in
    let j0 : j + 0 ≡ j = omega arith in
    let here : get_or a i 0 ≡ get_or b j 0 = rw (i0, j0) at (same 0 (omega arith)) in
    let rest = words_at_same a b (i + 1) (j + 1) n (λ d h.
    let p : i + 1 + d ≡ i + suc d = omega arith in
    let q : j + 1 + d ≡ j + suc d = omega arith in
    rw (p, q) (same (suc d) (omega arith))) in
    cc

pub words_at_slice : (s : List ℕ) (i n : ℕ) → i + n ≤ length s → words_at s i n ≡ take n (drop i s)
unfolding words_at
words_at_slice s i zero h = refl
words_at_slice s i (suc n) h =
    rw (drop-cons s i 0 (omega arith), ← native.Mathlib.Numerals.add-one i, words_at_slice s (i + 1) n (omega arith))

pub words_at_all : (s : List ℕ) → words_at s 0 (length s) ≡ s
words_at_all s = words_at_slice s 0 (length s) (omega arith) ∙ take-length s

pub words_at-part : (s : List ℕ) (i j n : ℕ) → j ≡ i + n → j ≤ length s → part i j s ≡ words_at s i n
unfolding part
words_at-part s i j n e h =
    let d : j - i ≡ n = omega arith in
    rw d (sym (words_at_slice s i n (omega arith)))

pub get_d_words_at : (s : List ℕ) (i n d : ℕ) → d < n → get_or (words_at s i n) d 0 ≡ get_or s (i + d) 0
unfolding words_at
get_d_words_at s i zero d h = absurd (omega arith)
get_d_words_at s i (suc n) zero h = let z : i + 0 ≡ i = omega arith in rw z
get_d_words_at s i (suc n) (suc d) h = let z : i + 1 + d ≡ i + suc d = omega arith in rw (get_d_words_at s (i + 1) n d (omega arith), z)
