-- White space, comments and atoms: what the tokens are while a line is read. Assumes nothing.
use mathlib.Core.Path.{◌≡◌, ◌∙◌, refl, ap, sym}
use mathlib.Core.List.{List, [], ◌∷◌, ◌++◌}
use Prim.Native.Nat.{ℕ, zero, suc, ◌+◌, ◌-◌, ◌≤◌, ◌<◌}
use native.Mathlib.Omega.{arith}
use borrow.Author.Tests.{ne_eqb, eqb-true, eqb-false}
use lib.Dec.{eqb}
use lib.ListN.{length, get_or, take, drop}
use lib.Seq.{drop-drop, take-add}
use Rattle.utf8.specs.Below.horn.specs.Utf8.{Char, char, within}
use Rattle.utf8.specs.Below.horn.specs.Tokens.{Stream, ◌▹◌, before, Token, opening, closing, atom}
use Rattle.utf8.specs.Below.horn.specs.Tokens.{kind, Kind, blank, opens, closes, comments, ordinary, white, white_ranges, in_some}
use Rattle.utf8.specs.Below.horn.specs.Tokens.{Place, between, in_comment, in_atom, begins, continues, ends_comment, move, unended, tokens_from}
use Rattle.utf8.specs.Below.words.specs.Parts.{part}
use Rattle.utf8.specs.Classes.{is_ordinary, is_white, is_comment, kind_number}
use Rattle.utf8.specs.Characters.{found, first, width, kind_at}
use Rattle.scanning.specs.Scan.{blanks, atom_end}
use Rattle.utf8.specs.Below.horn.proofs.Equality.{case}
use Rattle.utf8.proofs.Sixteen.{kind_at_lem}
use Rattle.scanning.proofs.Turns.{atom_stop, atom_step, atom_over, blank_stop, blank_step, blank_over, comment_stop}
use Rattle.scanning.proofs.Streams.{first_newline}
use Rattle.scanning.proofs.Lines.{Clean, over, newline, on, chars_at, found_steps, clean_le, at_newline, at_end_lem, over_newline, over_char, value_inner}

abbrev pub tokens_at : List ℕ → Place → ℕ → Stream Token
tokens_at text place p = tokens_from place (chars_at text p)

-- What one character does.
module _ (bytes : List ℕ) (v : ℕ) (cs : Stream Char) where
  blank_move : kind v ≡ blank → tokens_from between (char bytes v ▹ cs) ≡ tokens_from between cs
  unfolding tokens_from move begins before
  blank_move k = rw k

  comment_move : kind v ≡ comments → tokens_from between (char bytes v ▹ cs) ≡ tokens_from in_comment cs
  unfolding tokens_from move begins before
  comment_move k = rw k

  pub opening_move : kind v ≡ opens → tokens_from between (char bytes v ▹ cs) ≡ opening ▹ tokens_from between cs
  unfolding tokens_from move begins before
  opening_move k = rw k

  pub closing_move : kind v ≡ closes → tokens_from between (char bytes v ▹ cs) ≡ closing ▹ tokens_from between cs
  unfolding tokens_from move begins before
  closing_move k = rw k

  pub atom_move : kind v ≡ ordinary → tokens_from between (char bytes v ▹ cs) ≡ tokens_from (in_atom []) (char bytes v ▹ cs)
  unfolding tokens_from move begins continues before
  atom_move k = rw k

  more_move : (ab : List ℕ) → kind v ≡ ordinary → tokens_from (in_atom ab) (char bytes v ▹ cs) ≡ tokens_from (in_atom (ab ++ bytes)) cs
  unfolding tokens_from move continues before
  more_move ab k = rw k

  end_move : (ab : List ℕ) → (kind v ≡ ordinary → ⊥)
      → tokens_from (in_atom ab) (char bytes v ▹ cs) ≡ atom ab ▹ tokens_from between (char bytes v ▹ cs)
  unfolding tokens_from move continues begins before
  end_move ab d = by (kind v) d where
    by : (k : Kind) → (k ≡ ordinary → ⊥)
        → before (continues ab k bytes).0 (tokens_from (continues ab k bytes).1 cs)
        ≡ atom ab ▹ before (begins k bytes).0 (tokens_from (begins k bytes).1 cs)
    by blank d = refl
    by opens d = refl
    by closes d = refl
    by comments d = refl
    by ordinary d = absurd (d refl)

  in_comment_move : (v ≡ 0x0A → ⊥) → tokens_from in_comment (char bytes v ▹ cs) ≡ tokens_from in_comment cs
  unfolding tokens_from move ends_comment before
  in_comment_move d = rw (ne_eqb v 0x0A d, move)

  out_move : v ≡ 0x0A → tokens_from in_comment (char bytes v ▹ cs) ≡ tokens_from between cs
  unfolding tokens_from move ends_comment before
  out_move e = rw (e, move)

module _ (text : List ℕ) where
  -- A comment runs to the end of its line.
  pub past_comment : {p e : ℕ} → Clean text p e → tokens_at text in_comment p ≡ tokens_at text between e
  unfolding tokens_from unended before
  past_comment {p} (over q l) = rw (← q, at_end_lem text p (omega arith))
  past_comment {p} (newline h b q) = rw (← q, over_newline text p h b) (out_move (0x0A ∷ []) 0x0A (chars_at text (p + 1)) refl)
  past_comment {p} {e} (on n v h d f c) =
      rw (over_char text p n v e h d f c)
      (in_comment_move (take n (drop p text)) v (chars_at text (p + n)) (value_inner text p n v e h d f c) ∙ past_comment c)

kind_blank : (k : Kind) → kind_number k ≡ is_white → k ≡ blank
unfolding kind_number
kind_blank blank e = refl
kind_blank ordinary e = absurd (omega arith)
kind_blank opens e = absurd (omega arith)
kind_blank closes e = absurd (omega arith)
kind_blank comments e = absurd (omega arith)

kind_comments : (k : Kind) → kind_number k ≡ is_comment → k ≡ comments
unfolding kind_number
kind_comments comments e = refl
kind_comments ordinary e = absurd (omega arith)
kind_comments opens e = absurd (omega arith)
kind_comments closes e = absurd (omega arith)
kind_comments blank e = absurd (omega arith)

pub kind_ordinary : (k : Kind) → kind_number k ≡ is_ordinary → k ≡ ordinary
unfolding kind_number
kind_ordinary ordinary e = refl
kind_ordinary comments e = absurd (omega arith)
kind_ordinary opens e = absurd (omega arith)
kind_ordinary closes e = absurd (omega arith)
kind_ordinary blank e = absurd (omega arith)

ordinary_kind : (k : Kind) → k ≡ ordinary → kind_number k ≡ is_ordinary
unfolding kind_number
ordinary_kind k e = rw e

-- The kind and the width of the character at a place.
module _ (text : List ℕ) (p n v : ℕ) (f : first (drop p text) ≡ found n v) where
  pub kind_here : kind_number (kind v) ≡ kind_at (first (drop p text))
  kind_here = sym (kind_at_lem (drop p text) f)

  pub width_here : n ≡ width (first (drop p text))
  unfolding width
  width_here = rw f

pub newline_kind : (text : List ℕ) (p : ℕ) → p < length text → get_or text p 0 ≡ 0x0A
    → (is_white ≡ kind_at (first (drop p text))) × (1 ≡ width (first (drop p text)))
unfolding kind_at width kind_number kind white white_ranges in_some within
newline_kind text p h b =
    let e : first (drop p text) ≡ found 1 0x0A = ap first (at_newline text p h b) ∙ first_newline (drop (p + 1) text) in
    (rw e, rw e)

newline_blank : kind 0x0A ≡ blank
unfolding kind white white_ranges in_some within
newline_blank = refl

-- Past white space and comments: at the line's end, or at a character that is neither.
pub data Reached (text : List ℕ) (e p q : ℕ) : Type 0 where
  at_line_end : q ≡ e → p ≤ q → tokens_at text between p ≡ tokens_at text between q → Reached text e p q
  at_token : Clean text q e → q < e → p ≤ q → (kind_at (first (drop q text)) ≡ is_white → ⊥) → (kind_at (first (drop q text)) ≡ is_comment → ⊥)
      → tokens_at text between p ≡ tokens_at text between q → Reached text e p q

pub step_reached : (text : List ℕ) (e p m q : ℕ) → p ≤ m → tokens_at text between p ≡ tokens_at text between m → Reached text e m q → Reached text e p q
step_reached text e p m q l s (at_line_end x y z) = at_line_end x (omega arith) (s ∙ z)
step_reached text e p m q l s (at_token c h y k j z) = at_token c h (omega arith) k j (s ∙ z)

module _ (text : List ℕ) where
  -- The character at p is not the last of its line, which ends at e.
  before_end : (p n v e : ℕ) → first (drop p text) ≡ found n v → Clean text (p + n) e → p < e
  before_end p n v e g c =
      let s = found_steps text p n v g in
      let l = clean_le text c in
      omega arith

  pub past_blanks : (f p e : ℕ) → length text - p ≤ f → Clean text p e → Reached text e p (blanks (suc f) text e p)
  past_blanks f p e l (over q m) = rw (blank_over text e p f (omega arith)) (at_line_end q (omega arith) refl)
  past_blanks zero p e l (newline h b q) = absurd (omega arith)
  past_blanks zero p e l (on n v h d g c) = absurd (omega arith)
  past_blanks (suc f) p e l (newline h b q) =
      let k = newline_kind text p h b in
      rw (blank_step text e p is_white k.0 (omega arith) 1 k.1 (suc f) refl, blank_over text e (p + 1) f (omega arith))
      (at_line_end q (omega arith)
      (ap (λ (s : Stream Char). tokens_from between s) (over_newline text p h b)
      ∙ blank_move (0x0A ∷ []) 0x0A (chars_at text (p + 1)) newline_blank))
  past_blanks (suc f) p e l (on n v h d g c) =
      let i = before_end p n v e g c in
      let s = found_steps text p n v g in
      let k = kind_here text p n v g in
      let o : tokens_at text between p ≡ tokens_from between (char (take n (drop p text)) v ▹ chars_at text (p + n)) =
      ap (λ (s : Stream Char). tokens_from between s) (over_char text p n v e h d g c) in
      case (eqb (kind_number (kind v)) is_white)
      (λ t.
      rw (blank_step text e p (kind_number (kind v)) k i n (width_here text p n v g) (suc f) (eqb-true _ _ t))
      (step_reached text e p (p + n) (blanks (suc f) text e (p + n)) (omega arith)
      (o ∙ blank_move (take n (drop p text)) v (chars_at text (p + n)) (kind_blank (kind v) (eqb-true _ _ t)))
      (past_blanks f (p + n) e (omega arith) c)))
      (λ t. case (eqb (kind_number (kind v)) is_comment)
      (λ u.
      rw (comment_stop text e p (kind_number (kind v)) k i (suc f) (eqb-true _ _ u))
      (at_line_end refl (omega arith)
      (o
      ∙ comment_move (take n (drop p text)) v (chars_at text (p + n)) (kind_comments (kind v) (eqb-true _ _ u))
      ∙ past_comment text c)))
      (λ u.
      rw (blank_stop text e p (kind_number (kind v)) k i (suc f) (eqb-false _ _ u) (eqb-false _ _ t))
      (at_token (on n v h d g c) i (omega arith) (λ z. eqb-false _ _ t (k ∙ z)) (λ z. eqb-false _ _ u (k ∙ z)) refl)))

  part_more : (s p n : ℕ) → s ≤ p → part s p text ++ take n (drop p text) ≡ part s (p + n) text
  unfolding part
  part_more s p n h =
      let a : s + (p - s) ≡ p = omega arith in
      let b : p + n - s ≡ p - s + n = omega arith in
      rw (b, take-add (p - s) n (drop s text), drop-drop (p - s) s text, a)

  -- An atom, of which the bytes from s are read: it ends at q, where no ordinary character stands.
  pub record Atomic (s p q e : ℕ) : Type 0 where
    pub clean : Clean text q e
    pub after : p ≤ q
    pub stops : q < length text → kind_at (first (drop q text)) ≡ is_ordinary → ⊥
    pub reads : tokens_at text (in_atom (part s p text)) p ≡ atom (part s q text) ▹ tokens_at text between q

  pub past_atom : (f s p e : ℕ) → length text - p ≤ f → s ≤ p → Clean text p e → Atomic s p (atom_end (suc f) text e p) e
  unfolding tokens_from unended before
  past_atom f s p e l m (over q z) =
      rw (atom_over text e p f (omega arith))
      record {
        clean = over q z;
        after = omega arith;
        stops = λ h k. omega arith;
        reads = rw (at_end_lem text p (omega arith));
      }
  past_atom f s p e l m (newline h b q) =
      let k = newline_kind text p h b in
      rw (atom_stop text e p is_white k.0 (omega arith) f (λ z. omega arith))
      record {
        clean = newline h b q;
        after = omega arith;
        stops = λ i z. omega (arith, k.0);
        reads = rw (over_newline text p h b)
            (end_move (0x0A ∷ []) 0x0A (chars_at text (p + 1)) (part s p text)
            (λ z. let y : ◌≡◌ {A = Kind} blank ordinary = sym newline_blank ∙ z in let x : ◌≡◌ {A = ℕ} 0 1 = cc in omega arith));
      }
  past_atom zero s p e l m (on n v h d g c) = absurd (omega arith)
  past_atom (suc f) s p e l m (on n v h d g c) =
      let i = before_end p n v e g c in
      let t = found_steps text p n v g in
      let k = kind_here text p n v g in
      let o = over_char text p n v e h d g c in
      case (eqb (kind_number (kind v)) is_ordinary)
      (λ y.
      let j = past_atom f s (p + n) e (omega arith) (omega arith) c in
      rw (atom_step text e p (kind_number (kind v)) k i n (width_here text p n v g) (suc f) (eqb-true _ _ y))
      record {
        clean = j.clean;
        after = omega (arith, j.after);
        stops = j.stops;
        reads =
            ap (λ (x : Stream Char). tokens_from (in_atom (part s p text)) x) o
            ∙ more_move (take n (drop p text)) v (chars_at text (p + n)) (part s p text) (kind_ordinary (kind v) (eqb-true _ _ y))
            ∙ ap (λ (x : List ℕ). tokens_from (in_atom x) (chars_at text (p + n))) (part_more s p n m)
            ∙ j.reads;
      })
      (λ y.
      rw (atom_stop text e p (kind_number (kind v)) k i (suc f) (eqb-false _ _ y))
      record {
        clean = on n v h d g c;
        after = omega arith;
        stops = λ _ z. eqb-false _ _ y (k ∙ z);
        reads =
            ap (λ (x : Stream Char). tokens_from (in_atom (part s p text)) x) o
            ∙ end_move (take n (drop p text)) v (chars_at text (p + n)) (part s p text)
            (λ z. eqb-false _ _ y (ordinary_kind (kind v) z))
            ∙ ap (λ (x : Stream Char). atom (part s p text) ▹ tokens_from between x) (sym o);
      })
