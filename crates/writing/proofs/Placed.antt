-- A buffer with bytes placed in it: the laws for every writer. Assumes nothing.
use Prim.Native.Nat.{ℕ, suc, ◌+◌, ◌≤◌, ◌<◌, min}
use native.Mathlib.Omega.{arith}
use native.Mathlib.Nat.{min-eq_left, min-eq_right}
use mathlib.Core.Path.{◌≡◌, refl, sym, ap, ap₂, ◌∙◌}
use mathlib.Core.List.{List, [], ◌∷◌, ◌++◌, append_assoc}
use lib.Dec.{leb}
use lib.ListN.{length, get_or, set, take, drop}
use lib.Seq.{sets, length-sets, sets-eq, set_out, get_or-set_other}
use borrow.Author.Tests.{leb-true, leb-false}
use Rattle.horn.proofs.Equality.{case}
use Rattle.std.proofs.Common.{◌-◌, length-take, length-drop, replicate}
use Rattle.std.proofs.lemmas.List.{take-append-drop, take-replicate, length-replicate}
use borrow.Rule.Slice.PartMut.{put_mid, Post-is}
use Rattle.horn.specs.Output.{written, spaces}
use Rattle.writing.specs.Buffer.{placed}

-- Nothing grows or shrinks.
pub length-placed : (start : ℕ) (bytes out : List ℕ) → length (placed start bytes out) ≡ length out
unfolding placed
length-placed start bytes out = length-sets out start bytes

-- No byte, and one.
pub placed_none : (start : ℕ) (out : List ℕ) → placed start [] out ≡ out
unfolding placed
placed_none start out = refl

pub placed-cons : (start b : ℕ) (bytes out : List ℕ) → placed start (b ∷ bytes) out ≡ placed (suc start) bytes (set out start b)
unfolding placed
placed-cons start b bytes out = refl

pub placed_one : (start b : ℕ) (out : List ℕ) → placed start (b ∷ []) out ≡ set out start b
unfolding placed
placed_one start b out = refl

-- One text behind another.
pub placed-append : (start : ℕ) (xs ys out : List ℕ) → placed (start + length xs) ys (placed start xs out) ≡ placed start (xs ++ ys) out
unfolding placed
placed-append start [] ys out = ap (λ p. sets out p ys) (omega arith)
placed-append start (x ∷ xs) ys out =
    ap (λ p. sets (sets (set out start x) (suc start) xs) p ys) {x = start + suc (length xs)} {y = suc start + length xs} (omega arith)
    ∙ placed-append (suc start) xs ys (set out start x)

-- The same where the place behind the first is known by its number.
pub placed_then : (start : ℕ) (xs ys out : List ℕ) {n : ℕ} {o q : List ℕ} → o ≡ placed start xs out → n ≡ length xs
    → q ≡ placed (start + n) ys o
    → q ≡ placed start (xs ++ ys) out
placed_then start xs ys out e l f = f ∙ ap₂ (λ m t. placed (start + m) ys t) l e ∙ placed-append start xs ys out

-- Outside the buffer nothing is written.
pub placed_out : (start : ℕ) (bytes out : List ℕ) → length out ≤ start → placed start bytes out ≡ out
unfolding placed
placed_out start [] out h = refl
placed_out start (b ∷ bytes) out h =
    rw (set_out out start b h) (placed_out (suc start) bytes out (omega arith))

-- So a place beyond the buffer may be taken for its end.
pub placed_clamped : (start : ℕ) (bytes out : List ℕ) → placed (min start (length out)) bytes out ≡ placed start bytes out
placed_clamped start bytes out =
    case (leb start (length out))
    (λ e. ap (λ p. placed p bytes out) (min-eq_left (leb-true start (length out) e)))
    (λ e. let h = leb-false start (length out) e in
    ap (λ p. placed p bytes out) (min-eq_right {n = length out} {m = start} (omega arith))
    ∙ placed_out (length out) bytes out (omega arith)
    ∙ sym (placed_out start bytes out (omega arith)))

-- Where there is room, what stands before, the bytes, and what stood behind them.
pub placed_parts : (start : ℕ) (bytes out : List ℕ) → start + length bytes ≤ length out
    → placed start bytes out ≡ take start out ++ bytes ++ drop (start + length bytes) out
unfolding placed
placed_parts start bytes out h = sets-eq bytes out start h

-- "Bytes of the lent buffer beyond a written text are untouched": at its front.
pub placed_front : (text out : List ℕ) → length text ≤ length out → placed 0 text out ≡ written text out
unfolding written
placed_front text out h =
    let e : 0 + length text ≡ length text = omega arith in
    placed_parts 0 text out (omega arith) ∙ ap (λ n. text ++ drop n out) e

-- The same place by place.
pub placed_before : (start : ℕ) (bytes out : List ℕ) (i : ℕ) → i < start → get_or (placed start bytes out) i 0 ≡ get_or out i 0
unfolding placed
placed_before start [] out i h = refl
placed_before start (b ∷ bytes) out i h =
    placed_before (suc start) bytes (set out start b) i (omega arith) ∙ get_or-set_other out start i b 0 (λ e. omega arith)

pub placed_behind : (start : ℕ) (bytes out : List ℕ) (i : ℕ) → start + length bytes ≤ i → get_or (placed start bytes out) i 0 ≡ get_or out i 0
unfolding placed
placed_behind start [] out i h = refl
placed_behind start (b ∷ bytes) out i h =
    placed_behind (suc start) bytes (set out start b) i (omega arith) ∙ get_or-set_other out start i b 0 (λ e. omega arith)

-- As many of the bytes as there is room for, written over the buffer.
pub placed_cut : (start n : ℕ) (bytes out : List ℕ) → start ≤ length out → n ≡ min (length bytes) (length out - start)
    → take start out ++ take n bytes ++ drop (start + n) out ≡ placed start bytes out
placed_cut start n bytes out h e =
    ap (λ m. take start out ++ take n bytes ++ drop (start + m) out) (sym l)
    ∙ sym (placed_parts start (take n bytes) out (omega (arith, l)))
    ∙ sym (nothing_behind (drop n bytes) refl)
    ∙ placed-append start (take n bytes) (drop n bytes) out
    ∙ ap (λ (t : List ℕ). placed start t out) (take-append-drop n bytes) where
      l : length (take n bytes) ≡ n
      l = length-take n bytes ∙ omega (arith, e, h)

      nothing_behind : (more : List ℕ) → more ≡ drop n bytes
          → placed (start + length (take n bytes)) more (placed start (take n bytes) out) ≡ placed start (take n bytes) out
      nothing_behind [] d = placed_none _ _
      nothing_behind (b ∷ more) d =
          let left : suc (length more) ≡ length bytes - n = ap length d ∙ length-drop n bytes in
          placed_out _ (b ∷ more) _ (rw (length-placed start (take n bytes) out, l) (omega arith))

-- The same as the code writes it, into the part that has room.
pub placed_mid : (start n : ℕ) (bytes out new : List ℕ) → start ≤ length out → n ≡ min (length bytes) (length out - start) → new ≡ take n bytes
    → put_mid start (start + n - start) out new ≡ placed start bytes out
placed_mid start n bytes out new h e i =
    ap₂ (λ (t u : List ℕ). take start out ++ (t ++ u)) i (Post-is start (start + n) out (omega arith))
    ∙ sym (append_assoc (take start out) (take n bytes) (drop (start + n) out))
    ∙ placed_cut start n bytes out h e

-- The same where all bytes are spaces.
pub spaces_mid : (start n m count : ℕ) (out new : List ℕ) → start ≤ length out → n ≡ min count (length out - start) → m ≡ n → new ≡ replicate m 0x20
    → put_mid start (start + n - start) out new ≡ placed start (spaces count) out
unfolding spaces
spaces_mid start n m count out new h e k i =
    placed_mid start n (replicate count 0x20) out new h (rw (length-replicate {A = ℕ} count 0x20) e)
    (i ∙ ap (λ (j : ℕ). replicate j 0x20) k ∙ sym (take-replicate n count 0x20 (omega arith)))
