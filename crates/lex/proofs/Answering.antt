-- One turn of the scan for a token, and the token at a place. Assumes nothing.
use Rattle.std.specs.Prelude.{Option, None, Some}
use mathlib.Core.Path.{◌≡◌, ◌∙◌, refl, sym, ap}
use mathlib.Core.List.{List}
use Prim.Native.Nat.{ℕ, zero, suc, ◌+◌, ◌-◌, ◌≤◌, ◌<◌}
use native.Mathlib.Omega.{arith}
use borrow.Author.Tests.{lt-leb, le-leb, eq-eqb, ne_eqb, eqb-true, eqb-false, ltb-true, ltb-false, leb-true, leb-false}
use lib.Dec.{eqb, leb, ltb}
use lib.ListN.{length, get_or, drop}
use Rattle.utf8.specs.Below.horn.specs.Refusals.{number, not_utf8}
use Rattle.utf8.specs.Classes.{is_ordinary, is_opening, is_closing}
use Rattle.utf8.specs.Characters.{first, width, kind_at}
use Rattle.scanning.specs.Scan.{blanks, atom_end, line_end}
use Rattle.lex.specs.Answers.{holding, peeked, peeked_by, scanned, token, ended, refused, after, token_at, scanned_on}
use Rattle.lex.specs.declared.Token.{Token}
use Rattle.lex.specs.declared.Reader.{Reader}
use Rattle.lex.specs.declared.Token.TheVariants.{Opening, Closing, Atom}
use Rattle.utf8.specs.Below.horn.proofs.Equality.{case}
use Rattle.utf8.proofs.Looks.{width_steps}
use Rattle.scanning.proofs.Going.{atom_turn}
use Rattle.scanning.proofs.Turns.{atom_over, line_stop, line_bad, line_step, line_over}

-- A good line ends after its start and within the text.
pub line_bounds : (text : List ℕ) (f q n : ℕ) → length text - q ≤ f → q < length text → line_end (suc f) text q ≡ Some n
    → (q < n) × (n ≤ length text)
line_bounds text zero q n l h e = absurd (omega arith)
line_bounds text (suc f) q n l h e =
    case (eqb (get_or text q 0) 0x0A)
    (λ t.
    let g : Some (q + 1) ≡ Some n = sym (line_stop text q h (suc f) (eqb-true _ _ t)) ∙ e in
    let k : q + 1 ≡ n = cc in
    (omega arith, omega arith))
    (λ t. case (eqb (width (first (drop q text))) 0)
    (λ z.
    let g : None ≡ Some n = sym (line_bad text q h (eqb-false _ _ t) _ refl (suc f) (eqb-true _ _ z)) ∙ e in
    let k : ◌≡◌ {A = ℕ} 0 1 = cc in
    absurd (omega arith))
    (λ z.
    let s = width_steps text q (width (first (drop q text))) refl (eqb-false _ _ z) in
    let g = sym (line_step text q h (eqb-false _ _ t) _ refl (suc f) (eqb-false _ _ z)) ∙ e in
    case (ltb (q + width (first (drop q text))) (length text))
    (λ b.
    let r = line_bounds text f (q + width (first (drop q text))) n (omega arith) (ltb-true _ _ b) g in
    (omega arith, omega arith))
    (λ b.
    let k : Some (q + width (first (drop q text))) ≡ Some n = sym (line_over text _ f (ltb-false _ _ b)) ∙ g in
    let m : q + width (first (drop q text)) ≡ n = cc in
    (omega arith, omega arith))))

module _ (text : List ℕ) (e q : ℕ) where
  pub scan_token : (f : ℕ) → q < e → scanned_on (suc f) text e q ≡ token_at text e q
  unfolding scanned_on
  scan_token f h = rw (lt-leb e q h, scanned_on)

  pub scan_ended : (f : ℕ) → e ≤ q → length text ≤ q → scanned_on (suc f) text e q ≡ ended
  unfolding scanned_on
  scan_ended f h k = rw (le-leb e q h, le-leb (length text) q k, scanned_on)

  pub scan_bad : (f : ℕ) → e ≤ q → q < length text → line_end (suc (length text)) text q ≡ None
      → scanned_on (suc f) text e q ≡ refused (number not_utf8)
  unfolding scanned_on
  scan_bad f h k b = rw (le-leb e q h, lt-leb (length text) q k, b, scanned_on)

  pub scan_step : (f n : ℕ) → e ≤ q → q < length text → line_end (suc (length text)) text q ≡ Some n
      → scanned_on (suc f) text e q ≡ scanned_on f text n (blanks (suc (length text)) text n q)
  unfolding scanned_on
  scan_step f n h k b = rw (le-leb e q h, lt-leb (length text) q k, b, scanned_on)

-- As much fuel as there is text behind the tested lines, or more, gives the same.
module _ (text : List ℕ) where
  scan_like : (f g e q : ℕ)
      → ((n : ℕ) → e < n → n ≤ length text → scanned_on f text n (blanks (suc (length text)) text n q) ≡ scanned_on g text n (blanks (suc (length text)) text n q))
      → scanned_on (suc f) text e q ≡ scanned_on (suc g) text e q
  scan_like f g e q same =
      case (leb e q)
      (λ t. let h = leb-true e q t in
      case (leb (length text) q)
      (λ y. let k = leb-true _ _ y in scan_ended text e q f h k ∙ sym (scan_ended text e q g h k))
      (λ o. let k = leb-false (length text) q o in
      by h k (line_end (suc (length text)) text q) refl))
      (λ o. let h = leb-false e q o in scan_token text e q f h ∙ sym (scan_token text e q g h)) where
        by : e ≤ q → q < length text → (o : Option ℕ) → line_end (suc (length text)) text q ≡ o → scanned_on (suc f) text e q ≡ scanned_on (suc g) text e q
        by h k None b = scan_bad text e q f h k b ∙ sym (scan_bad text e q g h k b)
        by h k (Some n) b =
            let s = line_bounds text (length text) q n (omega arith) k b in
            scan_step text e q f n h k b ∙ same n (omega arith) s.1 ∙ sym (scan_step text e q g n h k b)

  scan_fuel : (f g e q : ℕ) → length text - e ≤ f → length text - e ≤ g → scanned_on (suc f) text e q ≡ scanned_on (suc g) text e q
  scan_fuel zero zero e q l m = refl
  scan_fuel zero (suc g) e q l m = scan_like zero (suc g) e q (λ n h k. absurd (omega arith))
  scan_fuel (suc f) zero e q l m = scan_like (suc f) zero e q (λ n h k. absurd (omega arith))
  scan_fuel (suc f) (suc g) e q l m = scan_like (suc f) (suc g) e q (λ n h k. scan_fuel f g n _ (omega arith) (omega arith))

  -- A turn leaves the answer as it is.
  pub scan_turn : (e q n : ℕ) → e ≤ q → q < length text → line_end (suc (length text)) text q ≡ Some n
      → scanned_on (suc (length text)) text e q ≡ scanned_on (suc (length text)) text n (blanks (suc (length text)) text n q)
  scan_turn e q n h k b =
      let s = line_bounds text (length text) q n (omega arith) k b in
      let l : length text ≡ suc (length text - 1) = omega arith in
      scan_step text e q (length text) n h k b
      ∙ ap (λ f. scanned_on f text n (blanks (suc (length text)) text n q)) l
      ∙ scan_fuel (length text - 1) (length text) n _ (omega arith) (omega arith)

-- The token at a place, by the kind of the character there.
module _ (text : List ℕ) (end p k : ℕ) (ek : k ≡ kind_at (first (drop p text))) where
  pub at_atom : (q : ℕ) → k ≡ is_ordinary → q ≡ atom_end (suc (length text)) text end p
      → token (Atom p q) (after q end None) ≡ token_at text end p
  unfolding token_at
  at_atom q e h = rw (← ek, eq-eqb k is_ordinary e, ← h, token_at)

  module _ (n : ℕ) (en : n ≡ width (first (drop p text))) where
    pub at_opening : k ≡ is_opening → token Opening (after (p + n) end None) ≡ token_at text end p
    unfolding token_at
    at_opening e = rw (en, ← ek, ne_eqb k is_ordinary (λ z. omega arith), ← ek, eq-eqb k is_opening e, token_at)

    pub at_closing : k ≡ is_closing → token Closing (after (p + n) end None) ≡ token_at text end p
    unfolding token_at
    at_closing e =
        rw (en, ← ek, ne_eqb k is_ordinary (λ z. omega arith), ← ek, ne_eqb k is_opening (λ z. omega arith), ← ek, eq-eqb k is_closing e, token_at)

  pub at_none : (k ≡ is_ordinary → ⊥) → (k ≡ is_opening → ⊥) → (k ≡ is_closing → ⊥) → refused (number not_utf8) ≡ token_at text end p
  unfolding token_at
  at_none a b c = rw (← ek, ne_eqb k is_ordinary a, ← ek, ne_eqb k is_opening b, ← ek, ne_eqb k is_closing c, token_at)

module _ (text : List ℕ) (end p : ℕ) where
  pub token_atom : kind_at (first (drop p text)) ≡ is_ordinary
      → token_at text end p
      ≡ token (Atom p (atom_end (suc (length text)) text end p)) (after (atom_end (suc (length text)) text end p) end None)
  token_atom e = sym (at_atom text end p _ refl _ e refl)

  -- An atom goes on behind its first character.
  pub token_letters : p < end → kind_at (first (drop p text)) ≡ is_ordinary
      → token_at text end p
      ≡ token (Atom p (atom_end (suc (length text)) text end (p + width (first (drop p text)))))
      (after (atom_end (suc (length text)) text end (p + width (first (drop p text)))) end None)
  token_letters h e = token_atom e ∙ ap (λ q. token (Atom p q) (after q end None)) (atom_turn text end p h e)

  -- Behind the line's end nothing goes on.
  pub token_beyond : end ≤ p → kind_at (first (drop p text)) ≡ is_ordinary → token_at text end p ≡ token (Atom p p) (after p end None)
  token_beyond h e = token_atom e ∙ ap (λ q. token (Atom p q) (after q end None)) (atom_over text end p (length text) h)

  pub token_opening : kind_at (first (drop p text)) ≡ is_opening
      → token_at text end p ≡ token Opening (after (p + width (first (drop p text))) end None)
  token_opening e = sym (at_opening text end p _ refl _ refl e)

  pub token_closing : kind_at (first (drop p text)) ≡ is_closing
      → token_at text end p ≡ token Closing (after (p + width (first (drop p text))) end None)
  token_closing e = sym (at_closing text end p _ refl _ refl e)

  pub token_none : (kind_at (first (drop p text)) ≡ is_ordinary → ⊥) → (kind_at (first (drop p text)) ≡ is_opening → ⊥)
      → (kind_at (first (drop p text)) ≡ is_closing → ⊥) → token_at text end p ≡ refused (number not_utf8)
  token_none a b c = sym (at_none text end p _ refl a b c)

-- A look ahead: the token that is held, or the next one, held from now on.
pub peeked_held : (text : List ℕ) (r : Reader) (t : Token) → r.ahead ≡ Some t → peeked text r ≡ token t r
unfolding peeked peeked_by
peeked_held text r t e = rw e

pub peeked_next : (text : List ℕ) (r : Reader) → r.ahead ≡ None → peeked text r ≡ holding (scanned (suc (length text)) text r.end r.at)
unfolding peeked peeked_by
peeked_next text r e = rw e

pub holding_token : (t : Token) (r : Reader) → holding (token t r) ≡ token t (after r.at r.end (Some t))
unfolding holding
holding_token t r = refl

pub holding_ended : holding ended ≡ ended
unfolding holding
holding_ended = refl

pub holding_refused : (n : ℕ) → holding (refused n) ≡ refused n
unfolding holding
holding_refused n = refl

pub ruleset scans = (scan_token, scan_ended, scan_bad, scan_turn)

pub ruleset tokens = (token_letters, token_beyond, token_opening, token_closing, token_none)

pub ruleset peeking = (peeked_held, peeked_next, holding_token, holding_ended, holding_refused)
