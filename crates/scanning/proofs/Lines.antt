-- A line of whole characters in a text, and what the tokens are while it is read. Assumes nothing.
use mathlib.Core.Path.{◌≡◌, ◌∙◌, refl, ap, sym}
use mathlib.Core.List.{List, [], ◌∷◌, ◌++◌}
use Prim.Native.Nat.{ℕ, zero, suc, ◌+◌, ◌-◌, ◌≤◌, ◌<◌}
use native.Mathlib.Numerals.{add-one}
use native.Mathlib.Omega.{arith}
use borrow.Author.Tests.{eqb-true, eqb-false, ltb-true, ltb-false}
use lib.Dec.{eqb, ltb}
use lib.ListN.{length, get_or, take, drop, length-drop, drop_of_length-le}
use lib.Seq.{drop-drop, drop-cons}
use Rattle.utf8.specs.Below.horn.specs.Utf8.{Char, char}
use Rattle.utf8.specs.Below.horn.specs.Tokens.{Stream, end, ◌▹◌, before, lines, characters}
use Rattle.utf8.specs.Characters.{First, broken, found, first, width}
use Rattle.scanning.specs.Scan.{line_end}
use Rattle.std.specs.Prelude.{Some, None}
use Rattle.utf8.specs.Below.horn.proofs.Equality.{case}
use Rattle.utf8.specs.Below.horn.proofs.CompleteLines.{before-append}
use Rattle.utf8.proofs.Looks.{at_drop, Sound, sound, width_zero, width_steps}
use Rattle.scanning.proofs.Turns.{line_stop, line_bad, line_step, line_over}
use Rattle.scanning.proofs.Streams.{GoodLine, BadLine, good_end, good_newline, good_on, bad_on, head_broken}
use Rattle.scanning.proofs.Streams.{stream_newline, stream_on, value_on}

-- From p a line of whole characters runs to e: to the end of the text, or to just after its first byte 0A.
pub data Clean (text : List ℕ) : ℕ → ℕ → Type 0 where
  over : {p e : ℕ} → p ≡ e → p ≡ length text → Clean text p e
  newline : {p e : ℕ} → p < length text → get_or text p 0 ≡ 0x0A → p + 1 ≡ e → Clean text p e
  on : {p e : ℕ} (n v : ℕ) → p < length text → (get_or text p 0 ≡ 0x0A → ⊥) → first (drop p text) ≡ found n v
      → Clean text (p + n) e → Clean text p e

-- The characters and the tokens from a place of a text.
abbrev pub chars_at : List ℕ → ℕ → Stream Char
chars_at text p = characters (lines (drop p text))

module _ (text : List ℕ) where
  pub found_steps : (p n v : ℕ) → first (drop p text) ≡ found n v → (0 < n) × (p + n ≤ length text)
  unfolding Sound
  found_steps p n v e =
      let s : Sound (found n v) (length (drop p text)) = rw e at (sound (drop p text)) in
      let l : length (drop p text) ≡ length text - p = length-drop p text in
      (omega arith, omega arith)

  pub clean_le : {p e : ℕ} → Clean text p e → (p ≤ e) × (e ≤ length text)
  clean_le (over q l) = (omega arith, omega arith)
  clean_le (newline h b q) = (omega arith, omega arith)
  clean_le (on n v h d f c) = let i = clean_le c in (omega arith, i.1)

  pub at_newline : (p : ℕ) → p < length text → get_or text p 0 ≡ 0x0A → drop p text ≡ 0x0A ∷ drop (p + 1) text
  at_newline p h b = drop-cons text p 0 h ∙ rw (b, add-one p)

  not_newline : (p : ℕ) → (get_or text p 0 ≡ 0x0A → ⊥) → get_or (drop p text) 0 0 ≡ 0x0A → ⊥
  not_newline p d z = d (sym (at_drop text p) ∙ z)

  some_left : (p : ℕ) → p < length text → 0 < length (drop p text)
  some_left p h = simp length-drop (omega arith)

  pub clean_good : {p e : ℕ} → Clean text p e → GoodLine (drop p text)
  clean_good {p} (over q l) = rw (drop_of_length-le text {i = p} (omega arith)) good_end
  clean_good {p} (newline h b q) = rw (at_newline p h b) (good_newline (drop (p + 1) text))
  clean_good {p} (on n v h d f c) =
      good_on (drop p text) n v (some_left p h) (not_newline p d) f (rw (drop-drop n p text) (clean_good c))

  pub at_end_lem : (p : ℕ) → length text ≤ p → chars_at text p ≡ end
  unfolding characters lines
  at_end_lem p h = rw (drop_of_length-le text {i = p} h)

  pub over_newline : (p : ℕ) → p < length text → get_or text p 0 ≡ 0x0A → chars_at text p ≡ char (0x0A ∷ []) 0x0A ▹ chars_at text (p + 1)
  over_newline p h b = rw (at_newline p h b) (stream_newline (drop (p + 1) text))

  module _ (p n v e : ℕ) (h : p < length text) (d : get_or text p 0 ≡ 0x0A → ⊥) (f : first (drop p text) ≡ found n v) (c : Clean text (p + n) e) where
    pub over_char : chars_at text p ≡ char (take n (drop p text)) v ▹ chars_at text (p + n)
    over_char =
        rw (← drop-drop n p text)
        (stream_on (drop p text) n v (some_left p h) (not_newline p d) f (rw (drop-drop n p text) (clean_good c)))

    pub value_inner : v ≡ 0x0A → ⊥
    value_inner = value_on (drop p text) n v (some_left p h) (not_newline p d) f

seen : (f : First) → (width f ≡ 0 → ⊥) → (v : ℕ) × (f ≡ found (width f) v)
unfolding width
seen broken d = absurd (d refl)
seen (found n v) d = (v, refl)

-- The test of a line finds what the definition says of it.
module _ (text : List ℕ) where
  pub line_clean : (f q n : ℕ) → length text - q ≤ f → q ≤ length text → line_end (suc f) text q ≡ Some n → Clean text q n
  line_clean zero q n l h e =
      let g : Some q ≡ Some n = sym (line_over text q zero (omega arith)) ∙ e in
      let k : q ≡ n = cc in
      over k (omega arith)
  line_clean (suc f) q n l h e =
      case (ltb q (length text))
      (λ i. case (eqb (get_or text q 0) 0x0A)
      (λ t.
      let g : Some (q + 1) ≡ Some n = sym (line_stop text q (ltb-true _ _ i) (suc f) (eqb-true _ _ t)) ∙ e in
      let k : q + 1 ≡ n = cc in
      newline (ltb-true _ _ i) (eqb-true _ _ t) k)
      (λ t. case (eqb (width (first (drop q text))) 0)
      (λ z.
      let g : None ≡ Some n =
      sym (line_bad text q (ltb-true _ _ i) (eqb-false _ _ t) _ refl (suc f) (eqb-true _ _ z)) ∙ e in
      let k : ◌≡◌ {A = ℕ} 0 1 = cc in
      absurd (omega arith))
      (λ z.
      let s = width_steps text q (width (first (drop q text))) refl (eqb-false _ _ z) in
      let w = seen (first (drop q text)) (eqb-false _ _ z) in
      on (width (first (drop q text))) w.0 (ltb-true _ _ i) (eqb-false _ _ t) w.1
      (line_clean f (q + width (first (drop q text))) n (omega arith) (omega arith)
      (sym (line_step text q (ltb-true _ _ i) (eqb-false _ _ t) _ refl (suc f) (eqb-false _ _ z)) ∙ e)))))
      (λ i. let g : Some q ≡ Some n = sym (line_over text q (suc f) (ltb-false _ _ i)) ∙ e in
      let k : length text ≤ q = ltb-false _ _ i in
      let m : q ≡ n = cc in
      over m (omega arith))

  pub line_broken : (f q : ℕ) → length text - q ≤ f → line_end (suc f) text q ≡ None → BadLine (drop q text)
  line_broken zero q l e =
      let g : Some q ≡ None = sym (line_over text q zero (omega arith)) ∙ e in
      let k : ◌≡◌ {A = ℕ} 0 1 = cc in
      absurd (omega arith)
  line_broken (suc f) q l e =
      case (ltb q (length text))
      (λ i. case (eqb (get_or text q 0) 0x0A)
      (λ t.
      let g : Some (q + 1) ≡ None = sym (line_stop text q (ltb-true _ _ i) (suc f) (eqb-true _ _ t)) ∙ e in
      let k : ◌≡◌ {A = ℕ} 0 1 = cc in
      absurd (omega arith))
      (λ t. case (eqb (width (first (drop q text))) 0)
      (λ z.
      head_broken (drop q text) (some_left text q (ltb-true _ _ i))
      (width_zero (length (drop q text)) (first (drop q text)) (sound (drop q text)) (eqb-true _ _ z)))
      (λ z.
      let s = width_steps text q (width (first (drop q text))) refl (eqb-false _ _ z) in
      let w = seen (first (drop q text)) (eqb-false _ _ z) in
      bad_on (drop q text) (width (first (drop q text))) w.0 (some_left text q (ltb-true _ _ i))
      (not_newline text q (eqb-false _ _ t)) w.1
      (rw (drop-drop (width (first (drop q text))) q text)
      (line_broken f (q + width (first (drop q text))) (omega arith)
      (sym (line_step text q (ltb-true _ _ i) (eqb-false _ _ t) _ refl (suc f) (eqb-false _ _ z)) ∙ e))))))
      (λ i.
      let g : Some q ≡ None = sym (line_over text q (suc f) (ltb-false _ _ i)) ∙ e in
      let k : ◌≡◌ {A = ℕ} 0 1 = cc in
      absurd (omega arith))

-- The definition's characters of the text reach a place, so no line before it is bad: a bad one would have ended them.
pub record Passed (text : List ℕ) (p : ℕ) : Type 0 where
  pub behind : List Char
  pub reach : characters (lines text) ≡ before behind (chars_at text p)

module _ (text : List ℕ) where
  pub passed_start : Passed text 0
  unfolding before
  passed_start = record { behind = []; reach = refl }

  clean_run : {p e : ℕ} → Clean text p e → (cs : List Char) × (chars_at text p ≡ before cs (chars_at text e))
  unfolding before
  clean_run (over q l) = ([], rw q)
  clean_run {p} (newline h b q) = (char (0x0A ∷ []) 0x0A ∷ [], over_newline text p h b ∙ rw q)
  clean_run {p} {e} (on n v h d f c) =
      let i = clean_run c in
      (char (take n (drop p text)) v ∷ i.0, over_char text p n v e h d f c ∙ ap (λ s. char (take n (drop p text)) v ▹ s) i.1)

  pub passed_on : {p e : ℕ} → Passed text p → Clean text p e → Passed text e
  passed_on w c =
      let i = clean_run c in
      record { behind = w.behind ++ i.0; reach = w.reach ∙ rw i.1 (sym (before-append w.behind i.0 _)) }
