-- A turn of each loop leaves the answer as it is: as much fuel as there is text, or more, gives the same. Assumes nothing.
use Rattle.std.specs.Prelude.{Some, None}
use mathlib.Core.Path.{◌≡◌, ◌∙◌, refl, sym, ap}
use mathlib.Core.List.{List}
use Prim.Native.Nat.{ℕ, zero, suc, ◌+◌, ◌-◌, ◌≤◌, ◌<◌}
use native.Mathlib.Omega.{arith}
use borrow.Author.Tests.{eqb-true, eqb-false, ltb-true, ltb-false}
use lib.Dec.{eqb, ltb}
use lib.ListN.{length, get_or, drop}
use Rattle.utf8.specs.Below.horn.proofs.Equality.{case}
use Rattle.utf8.specs.Classes.{is_ordinary, is_white, is_comment, never}
use Rattle.utf8.specs.Characters.{first, width, kind_at}
use Rattle.utf8.proofs.Looks.{kind_steps, width_steps}
use Rattle.utf8.proofs.Plain.{plain_wide, plain_ordinary}
use Rattle.scanning.specs.Scan.{stopped, blanks, atom_end, line_end}
use Rattle.scanning.proofs.Turns.{atom_stop, atom_step, atom_over, blank_stop, comment_stop, blank_stopped}
use Rattle.scanning.proofs.Turns.{blank_step, blank_over, line_stop, line_bad, line_step, line_over}

-- A character's width: a step over it goes on and stays in the text.
module _ (text : List ℕ) (q : ℕ) (d : kind_at (first (drop q text)) ≡ never → ⊥) where
  pub kind_within : q + width (first (drop q text)) ≤ length text
  kind_within = (kind_steps text q _ refl _ refl d).0

  pub kind_wide : 0 < width (first (drop q text))
  kind_wide = let s = (kind_steps text q _ refl _ refl d).1 in omega arith

pub first_within : (text : List ℕ) (q : ℕ) → (width (first (drop q text)) ≡ 0 → ⊥) → q + width (first (drop q text)) ≤ length text
first_within text q d = (width_steps text q _ refl d).0

module _ (text : List ℕ) (end : ℕ) where
  -- An atom's characters.
  atom_like : (f g q : ℕ) → ((p : ℕ) → q < p → p ≤ length text → atom_end f text end p ≡ atom_end g text end p)
      → atom_end (suc f) text end q ≡ atom_end (suc g) text end q
  atom_like f g q same =
      case (ltb q end)
      (λ t. let h = ltb-true q end t in
      case (eqb (kind_at (first (drop q text))) is_ordinary)
      (λ y. let e = eqb-true _ _ y in
      let s = kind_steps text q _ refl _ refl (λ z. omega (arith, e, z)) in
      atom_step text end q _ refl h _ refl f e ∙ same _ s.1 s.0 ∙ sym (atom_step text end q _ refl h _ refl g e))
      (λ n. let d = eqb-false _ _ n in atom_stop text end q _ refl h f d ∙ sym (atom_stop text end q _ refl h g d)))
      (λ o. let h = ltb-false q end o in atom_over text end q f h ∙ sym (atom_over text end q g h))

  atom_fuel : (f g q : ℕ) → length text - q ≤ f → length text - q ≤ g → atom_end (suc f) text end q ≡ atom_end (suc g) text end q
  atom_fuel zero zero q l m = refl
  atom_fuel zero (suc g) q l m = atom_like zero (suc g) q (λ p h k. absurd (omega arith))
  atom_fuel (suc f) zero q l m = atom_like (suc f) zero q (λ p h k. absurd (omega arith))
  atom_fuel (suc f) (suc g) q l m = atom_like (suc f) (suc g) q (λ p h k. atom_fuel f g p (omega arith) (omega arith))

  pub atom_turn : (q : ℕ) → q < end → kind_at (first (drop q text)) ≡ is_ordinary
      → atom_end (suc (length text)) text end q ≡ atom_end (suc (length text)) text end (q + width (first (drop q text)))
  atom_turn q h e =
      let s = kind_steps text q _ refl _ refl (λ z. omega (arith, e, z)) in
      let l : length text ≡ suc (length text - 1) = omega arith in
      atom_step text end q _ refl h _ refl (length text) e
      ∙ ap (λ n. atom_end n text end (q + width (first (drop q text)))) l
      ∙ atom_fuel (length text - 1) (length text) _ (omega arith) (omega arith)

  pub atom_here : (q : ℕ) → q < end → (kind_at (first (drop q text)) ≡ is_ordinary → ⊥) → atom_end (suc (length text)) text end q ≡ q
  atom_here q h d = atom_stop text end q _ refl h (length text) d

  -- White space.
  blank_like : (f g q : ℕ) → ((p : ℕ) → q < p → p ≤ length text → blanks f text end p ≡ blanks g text end p)
      → blanks (suc f) text end q ≡ blanks (suc g) text end q
  blank_like f g q same =
      case (ltb q end)
      (λ t. let h = ltb-true q end t in
      case (eqb (kind_at (first (drop q text))) is_white)
      (λ y. let e = eqb-true _ _ y in
      let s = kind_steps text q _ refl _ refl (λ z. omega (arith, e, z)) in
      blank_step text end q _ refl h _ refl f e ∙ same _ s.1 s.0 ∙ sym (blank_step text end q _ refl h _ refl g e))
      (λ n. let d = eqb-false _ _ n in blank_stopped text end q _ refl h f d ∙ sym (blank_stopped text end q _ refl h g d)))
      (λ o. let h = ltb-false q end o in blank_over text end q f h ∙ sym (blank_over text end q g h))

  blank_fuel : (f g q : ℕ) → length text - q ≤ f → length text - q ≤ g → blanks (suc f) text end q ≡ blanks (suc g) text end q
  blank_fuel zero zero q l m = refl
  blank_fuel zero (suc g) q l m = blank_like zero (suc g) q (λ p h k. absurd (omega arith))
  blank_fuel (suc f) zero q l m = blank_like (suc f) zero q (λ p h k. absurd (omega arith))
  blank_fuel (suc f) (suc g) q l m = blank_like (suc f) (suc g) q (λ p h k. blank_fuel f g p (omega arith) (omega arith))

  pub blank_turn : (q : ℕ) → q < end → kind_at (first (drop q text)) ≡ is_white
      → blanks (suc (length text)) text end q ≡ blanks (suc (length text)) text end (q + width (first (drop q text)))
  blank_turn q h e =
      let s = kind_steps text q _ refl _ refl (λ z. omega (arith, e, z)) in
      let l : length text ≡ suc (length text - 1) = omega arith in
      blank_step text end q _ refl h _ refl (length text) e
      ∙ ap (λ n. blanks n text end (q + width (first (drop q text)))) l
      ∙ blank_fuel (length text - 1) (length text) _ (omega arith) (omega arith)

  pub blank_here : (q : ℕ) → q < end → (kind_at (first (drop q text)) ≡ is_white → ⊥)
      → blanks (suc (length text)) text end q ≡ stopped (kind_at (first (drop q text))) end q
  blank_here q h d = blank_stopped text end q _ refl h (length text) d

  pub blank_comment : (q : ℕ) → q < end → kind_at (first (drop q text)) ≡ is_comment → blanks (suc (length text)) text end q ≡ end
  blank_comment q h e = comment_stop text end q _ refl h (length text) e

  pub blank_other : (q : ℕ) → q < end → (kind_at (first (drop q text)) ≡ is_comment → ⊥) → (kind_at (first (drop q text)) ≡ is_white → ⊥)
      → blanks (suc (length text)) text end q ≡ q
  blank_other q h d e = blank_stop text end q _ refl h (length text) d e

module _ (text : List ℕ) where
  -- A line.
  line_like : (f g q : ℕ) → ((p : ℕ) → q < p → p ≤ length text → line_end f text p ≡ line_end g text p)
      → line_end (suc f) text q ≡ line_end (suc g) text q
  line_like f g q same =
      case (ltb q (length text))
      (λ t. let h = ltb-true q (length text) t in
      case (eqb (get_or text q 0) 0x0A)
      (λ y. let e = eqb-true _ _ y in line_stop text q h f e ∙ sym (line_stop text q h g e))
      (λ n. let d = eqb-false _ _ n in
      case (eqb (width (first (drop q text))) 0)
      (λ y. let e = eqb-true _ _ y in line_bad text q h d _ refl f e ∙ sym (line_bad text q h d _ refl g e))
      (λ k. let w = eqb-false _ _ k in
      let s = width_steps text q _ refl w in
      line_step text q h d _ refl f w ∙ same _ s.1 s.0 ∙ sym (line_step text q h d _ refl g w))))
      (λ o. let h = ltb-false q (length text) o in line_over text q f h ∙ sym (line_over text q g h))

  line_fuel : (f g q : ℕ) → length text - q ≤ f → length text - q ≤ g → line_end (suc f) text q ≡ line_end (suc g) text q
  line_fuel zero zero q l m = refl
  line_fuel zero (suc g) q l m = line_like zero (suc g) q (λ p h k. absurd (omega arith))
  line_fuel (suc f) zero q l m = line_like (suc f) zero q (λ p h k. absurd (omega arith))
  line_fuel (suc f) (suc g) q l m = line_like (suc f) (suc g) q (λ p h k. line_fuel f g p (omega arith) (omega arith))

  module _ (q : ℕ) (h : q < length text) where
    pub line_break : get_or text q 0 ≡ 0x0A → line_end (suc (length text)) text q ≡ Some (q + 1)
    line_break e = line_stop text q h (length text) e

    module _ (d : get_or text q 0 ≡ 0x0A → ⊥) where
      pub line_broken : width (first (drop q text)) ≡ 0 → line_end (suc (length text)) text q ≡ None
      line_broken e = line_bad text q h d _ refl (length text) e

      pub line_turn : (width (first (drop q text)) ≡ 0 → ⊥)
          → line_end (suc (length text)) text q ≡ line_end (suc (length text)) text (q + width (first (drop q text)))
      line_turn w =
          let s = width_steps text q _ refl w in
          let l : length text ≡ suc (length text - 1) = omega arith in
          line_step text q h d _ refl (length text) w
          ∙ ap (λ n. line_end n text (q + width (first (drop q text)))) l
          ∙ line_fuel (length text - 1) (length text) _ (omega arith) (omega arith)

pub ruleset atoms = (kind_within, kind_wide, atom_turn, atom_here, atom_over, plain_wide, plain_ordinary)

pub ruleset blankness = (kind_within, kind_wide, blank_turn, blank_here, blank_comment, blank_other, blank_over)

pub ruleset lines = (first_within, line_break, line_broken, line_turn, line_over)
