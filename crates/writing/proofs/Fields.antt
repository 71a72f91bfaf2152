-- A field is written in two pieces, one behind the other. Assumes nothing.
use Prim.Native.Nat.{ℕ, ◌+◌, ◌-◌, min}
use native.Mathlib.Omega.{arith}
use mathlib.Core.Path.{◌≡◌, refl, sym, ap, ◌∙◌}
use mathlib.Core.List.{List, ◌++◌}
use lib.ListN.{length, take, drop, length-drop}
use lib.Seq.{take_all}
use Rattle.words.specs.Parts.{part}
use Rattle.horn.specs.Layout.{plain}
use Rattle.horn.specs.Output.{spaces, padded, right_aligned, cut, name_field}
use Rattle.horn.proofs.Output.{length-spaces, cut_front}
use Rattle.writing.specs.Buffer.{placed}
use Rattle.writing.proofs.Placed.{placed_then, placed_clamped}

-- Behind so many bytes, which `behind` finds.
two_pieces : (start : ℕ) (xs ys out : List ℕ) {n p : ℕ} {o q : List ℕ} → o ≡ placed start xs out → n ≡ length xs → p ≡ min (start + n) (length o)
    → q ≡ placed p ys o
    → q ≡ placed start (xs ++ ys) out
two_pieces start xs ys out {n} {p} {o} e l b f =
    placed_then start xs ys out e l (f ∙ ap (λ s. placed s ys o) b ∙ placed_clamped (start + n) ys o)

-- A name, and the spaces behind it.
module _ (start width : ℕ) (name out : List ℕ) where
  front : part 0 (length (cut width name)) name ≡ cut width name
  unfolding part
  front = ap (λ m. take m name) {x = length (cut width name) - 0} {y = length (cut width name)} (omega arith) ∙ sym (cut_front width name)

  pub name_written : placed start (name_field width name) out
      ≡ placed (min (start + length (cut width name)) (length (placed start (part 0 (length (cut width name)) name) out)))
      (spaces (width - length (cut width name))) (placed start (part 0 (length (cut width name)) name) out)
  unfolding name_field padded
  name_written =
      sym (two_pieces start (cut width name) (spaces (width - length (cut width name))) out (ap (λ t. placed start t out) front) refl refl refl)

-- The spaces before a number, and its digits.
module _ (text : List ℕ) (from : ℕ) (l : length text ≡ 10) where
  pub text_rest : take (10 - from) (drop from text) ≡ drop from text
  text_rest = take_all (10 - from) (drop from text) (omega (arith, length-drop from text))

  pub text_long : length (drop from text) ≡ 10 - from
  text_long = length-drop from text ∙ omega arith

pub number_written : (start width n : ℕ) (out : List ℕ)
    → placed start (right_aligned width n) out
    ≡ placed (min (start + (width - length (plain n))) (length (placed start (spaces (width - length (plain n))) out))) (plain n)
    (placed start (spaces (width - length (plain n))) out)
unfolding right_aligned
number_written start width n out =
    sym (two_pieces start (spaces (width - length (plain n))) (plain n) out refl (sym (length-spaces (width - length (plain n)))) refl refl)

pub ruleset numbers = (text_rest, text_long, number_written)
