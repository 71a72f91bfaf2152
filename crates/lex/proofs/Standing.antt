-- Where a reader stands: the law that joins the reader to the definition's tokens. Assumes nothing.
use Rattle.std.specs.Prelude.{None, Option, Some}
use mathlib.Core.Path.{◌≡◌, ◌∙◌, refl, ap, sym}
use mathlib.Core.List.{List, []}
use mathlib.Core.Logic.{◌⊎◌, inl, inr}
use Prim.Native.Nat.{ℕ, zero, suc, ◌+◌, ◌-◌, ◌≤◌, ◌<◌}
use native.Mathlib.Nat.{sub_self}
use native.Mathlib.Omega.{arith}
use borrow.Author.Tests.{ltb-true, ltb-false}
use lib.Dec.{ltb}
use lib.ListN.{length, take, drop}
use Rattle.utf8.specs.Below.horn.specs.Refusals.{number, not_utf8}
use Rattle.utf8.specs.Below.horn.specs.Utf8.{Char, char}
use Rattle.utf8.specs.Below.horn.specs.Tokens.{Stream, end, bad, ◌▹◌, before, between, in_atom, unended, tokens_from, tokens}
use Rattle.utf8.specs.Below.horn.specs.Tokens.{kind, Kind, blank, opens, closes, comments, ordinary}
use Rattle.utf8.specs.Below.horn.specs.Tokens as horn
use Rattle.utf8.specs.Below.words.specs.Parts.{part}
use Rattle.utf8.specs.Classes.{is_ordinary, is_white, is_opening, is_closing, is_comment, kind_number}
use Rattle.utf8.specs.Characters.{first, kind_at}
use Rattle.scanning.specs.Scan.{blanks, atom_end, line_end}
use Rattle.lex.specs.Answers.{Answer, token, ended, refused, after, token_at, scanned_on, scanned, holding, peeked, peeked_by, taken, taken_by, start}
use Rattle.lex.specs.declared.Token.{Token}
use Rattle.lex.specs.declared.Token.TheVariants.{Opening, Closing, Atom}
use Rattle.lex.specs.declared.Reader.{Reader}
use Rattle.utf8.specs.Below.horn.proofs.Equality.{case}
use Rattle.utf8.proofs.Grammar.{lt_of_le_of_ne}
use Rattle.lex.proofs.Answering.{line_bounds, scan_token, scan_ended, scan_bad, scan_step, at_atom, at_opening, at_closing}
use Rattle.scanning.proofs.Streams.{stream_bad}
use Rattle.scanning.proofs.Lines.{Clean, over, newline, on, chars_at, found_steps, clean_le, at_end_lem, over_char, line_clean, line_broken}
use Rattle.scanning.proofs.Lines.{Passed, passed_start, passed_on}
use Rattle.scanning.proofs.Skipping.{tokens_at, kind_here, width_here, opening_move, closing_move, atom_move}
use Rattle.scanning.proofs.Turns.{blank_over}
use Rattle.scanning.proofs.Skipping.{Reached, at_line_end, at_token, step_reached, past_blanks, past_atom, newline_kind}

-- The definition's token that a token with bounds stands for: an atom's bounds cut out its bytes.
unfoldable pub meant : List ℕ → Token → horn.Token
meant text Opening = horn.opening
meant text Closing = horn.closing
meant text (Atom a b) = horn.atom (part a b text)

-- How far an atom reaches that a scan from p finds: it has a byte, it begins with an ordinary character, and none stands
-- where it ends.
pub record AtomMoved (text : List ℕ) (p a b e : ℕ) : Type 0 where
  pub from : p ≤ a
  pub some : a < b
  pub to : b ≡ e
  pub begins : kind_at (first (drop a text)) ≡ is_ordinary
  pub stops : b < length text → kind_at (first (drop b text)) ≡ is_ordinary → ⊥

-- A token that is found from p moves the reader to e.
unfoldable pub Moved : List ℕ → ℕ → Token → ℕ → Type 0
Moved text p Opening e = p < e
Moved text p Closing e = p < e
Moved text p (Atom a b) e = AtomMoved text p a b e

-- Where a token begins that ends at e.
unfoldable pub start_of : Token → ℕ → ℕ
start_of Opening e = e - 1
start_of Closing e = e - 1
start_of (Atom a b) e = a

-- The place of a reader: before the token that it holds.
unfoldable pub place_of : Option Token → ℕ → ℕ
place_of None at = at
place_of (Some t) at = start_of t at

unfoldable pub place : Reader → ℕ
place r = place_of r.ahead r.at

unfoldable pub HeldMoved : List ℕ → Option Token → ℕ → Type 0
HeldMoved text None at = Unit {0}
HeldMoved text (Some t) at = Moved text (start_of t at) t at

-- A token held ahead comes first.
unfoldable pub with_ahead : List ℕ → Option Token → Stream horn.Token → Stream horn.Token
with_ahead text None s = s
with_ahead text (Some t) s = meant text t ▹ s

-- A reader stands before some tokens of a text: within the text, between tokens, in a line that is tested up to its end
-- or at the end of such a line.
pub record Stands (text : List ℕ) (r : Reader) (s : Stream horn.Token) : Type 0 where
  pub line : (r.at ≡ r.end) ⊎ Clean text r.at r.end
  pub inside : r.end ≤ length text
  pub passed : Passed text r.end
  pub held : HeldMoved text r.ahead r.at
  pub stream : s ≡ with_ahead text r.ahead (tokens_at text between r.at)

-- A token was taken from place p: the next of the tokens, a reader before the others that holds none, moved on.
pub record Took (text : List ℕ) (p : ℕ) (t : Token) (r : Reader) (s : Stream horn.Token) : Type 0 where
  pub others : Stream horn.Token
  pub next : s ≡ meant text t ▹ others
  pub stands : Stands text r others
  pub cleared : r.ahead ≡ None
  pub moved : Moved text p t r.at

-- A token was seen from place p: the reader still stands before all of them, and holds it.
pub record Saw (text : List ℕ) (p : ℕ) (t : Token) (r : Reader) (s : Stream horn.Token) : Type 0 where
  pub others : Stream horn.Token
  pub next : s ≡ meant text t ▹ others
  pub stands : Stands text r s
  pub holds : r.ahead ≡ Some t
  pub moved : Moved text p t r.at

-- What an answer says of the tokens before which the reader stood, at place p: a token was taken; there is none; or the
-- next line is not UTF-8, which is refusal 3.
unfoldable pub TakenFrom : List ℕ → ℕ → Answer → Stream horn.Token → Type 0
TakenFrom text p (token t r) s = Took text p t r s
TakenFrom text p ended s = s ≡ end
TakenFrom text p (refused n) s = (s ≡ bad) × (n ≡ number not_utf8)

-- The same of a look.
unfoldable pub SeenFrom : List ℕ → ℕ → Answer → Stream horn.Token → Type 0
SeenFrom text p (token t r) s = Saw text p t r s
SeenFrom text p ended s = s ≡ end
SeenFrom text p (refused n) s = (s ≡ bad) × (n ≡ number not_utf8)

-- At the start it is all of the text's tokens.
pub start_stands : (text : List ℕ) → Stands text start (tokens text)
unfolding start tokens with_ahead HeldMoved
start_stands text = record { line = inl refl; inside = omega arith; passed = passed_start text; held = tt; stream = refl }

line_case : {C : Type 0} (x : Option ℕ) → (x ≡ None → C) → ((n : ℕ) → x ≡ Some n → C) → C
line_case None f g = f refl
line_case (Some n) f g = g n refl

part_empty : (text : List ℕ) (p : ℕ) → part p p text ≡ []
unfolding part
part_empty text p = rw (sub_self p)

module _ (text : List ℕ) where
  -- A reader in the line that it was in, at a place after a token.
  stands_at : (p e : ℕ) → Passed text e → Clean text p e → Stands text (after p e None) (tokens_at text between p)
  unfolding with_ahead HeldMoved
  stands_at p e w c = record { line = inr c; inside = (clean_le text c).1; passed = w; held = tt; stream = refl }

  -- The token at a place where a character stands that is neither white nor `;`.
  token_takes : (p q e : ℕ) → Passed text e → p ≤ q → Clean text q e → q < e → (kind_at (first (drop q text)) ≡ is_white → ⊥)
      → (kind_at (first (drop q text)) ≡ is_comment → ⊥) → TakenFrom text p (token_at text e q) (tokens_at text between q)
  unfolding TakenFrom Moved meant kind_number
  token_takes p q e w l (over z m) h i j = absurd (omega arith)
  token_takes p q e w l (newline k b z) h i j = absurd (i (sym (newline_kind text q k b).0))
  token_takes p q e w l (on n v k d g c) h i j = by (kind v) refl where
    o : tokens_at text between q ≡ tokens_from between (char (take n (drop q text)) v ▹ chars_at text (q + n))
    o = ap (λ (x : Stream Char). tokens_from between x) (over_char text q n v e k d g c)

    number_here : (m : Kind) → kind v ≡ m → kind_number m ≡ kind_at (first (drop q text))
    number_here m z = rw (← z) (kind_here text q n v g)

    by : (m : Kind) → kind v ≡ m → TakenFrom text p (token_at text e q) (tokens_at text between q)
    by blank z = absurd (i (sym (number_here blank z)))
    by comments z = absurd (j (sym (number_here comments z)))
    by opens z =
        rw (← at_opening text e q is_opening (number_here opens z) n (width_here text q n v g) refl)
        record {
          others = tokens_at text between (q + n);
          next = o ∙ opening_move (take n (drop q text)) v (chars_at text (q + n)) z;
          stands = stands_at (q + n) e w c;
          cleared = refl;
          moved = omega (arith, found_steps text q n v g);
        }
    by closes z =
        rw (← at_closing text e q is_closing (number_here closes z) n (width_here text q n v g) refl)
        record {
          others = tokens_at text between (q + n);
          next = o ∙ closing_move (take n (drop q text)) v (chars_at text (q + n)) z;
          stands = stands_at (q + n) e w c;
          cleared = refl;
          moved = omega (arith, found_steps text q n v g);
        }
    by ordinary z =
        let a = past_atom text (length text) q q e (omega arith) (omega arith) (on n v k d g c) in
        let m = number_here ordinary z in
        rw (← at_atom text e q is_ordinary m (atom_end (suc (length text)) text e q) refl refl)
        record {
          others = tokens_at text between (atom_end (suc (length text)) text e q);
          next =
              o
              ∙ atom_move (take n (drop q text)) v (chars_at text (q + n)) z
              ∙ ap (λ (x : Stream Char). tokens_from (in_atom []) x) (sym (over_char text q n v e k d g c))
              ∙ ap (λ (x : List ℕ). tokens_from (in_atom x) (chars_at text q)) (sym (part_empty text q))
              ∙ a.reads;
          stands = stands_at (atom_end (suc (length text)) text e q) e w a.clean;
          cleared = refl;
          moved = record {
            from = l;
            some = lt_of_le_of_ne a.after (λ x. a.stops (rw x k) (rw x (sym m)));
            to = refl;
            begins = sym m;
            stops = a.stops;
          };
        }

  -- A scan from a place that the reader reached.
  scanned_takes : (f p e q : ℕ) → Passed text e → length text - e ≤ f → e ≤ length text → Reached text e p q
      → TakenFrom text p (scanned_on (suc f) text e q) (tokens_at text between p)
  unfolding TakenFrom tokens_from unended before
  scanned_takes zero p e q w l m (at_token c h y i j z) = rw (scan_token text e q zero h, z) (token_takes p q e w y c h i j)
  scanned_takes (suc f) p e q w l m (at_token c h y i j z) = rw (scan_token text e q (suc f) h, z) (token_takes p q e w y c h i j)
  scanned_takes zero p e q w l m (at_line_end x y z) =
      rw (scan_ended text e q zero (omega arith) (omega arith))
      (z ∙ ap (λ (t : Stream Char). tokens_from between t) (at_end_lem text q (omega arith)))
  scanned_takes (suc f) p e q w l m (at_line_end x y z) =
      case (ltb q (length text))
      (λ h. line_case (line_end (suc (length text)) text q)
      (λ b.
      rw (scan_bad text e q (suc f) (omega arith) (ltb-true _ _ h) b) (
        z
            ∙ ap (λ (t : Stream Char). tokens_from between t)
            (stream_bad (drop q text) (line_broken text (length text) q (omega arith) b)),
        refl,
      ))
      (λ n b.
      let s = line_bounds text (length text) q n (omega arith) (ltb-true _ _ h) b in
      let c = line_clean text (length text) q n (omega arith) (omega arith) b in
      rw (scan_step text e q (suc f) n (omega arith) (ltb-true _ _ h) b)
      (scanned_takes f p n (blanks (suc (length text)) text n q) (passed_on text (rw (← x) at w) c) (omega arith) s.1
      (step_reached text n p q (blanks (suc (length text)) text n q) y z (past_blanks text (length text) q n (omega arith) c)))))
      (λ h.
      rw (scan_ended text e q (suc f) (omega arith) (ltb-false _ _ h))
      (z ∙ ap (λ (t : Stream Char). tokens_from between t) (at_end_lem text q (ltb-false _ _ h))))

  scan_takes : (p e : ℕ) → Passed text e → (p ≡ e) ⊎ Clean text p e → e ≤ length text
      → TakenFrom text p (scanned (suc (length text)) text e p) (tokens_at text between p)
  unfolding scanned
  scan_takes p e w (inl x) m =
      scanned_takes (length text) p e (blanks (suc (length text)) text e p) w (omega arith) m
      (rw (blank_over text e p (length text) (omega arith)) (at_line_end x (omega arith) refl))
  scan_takes p e w (inr c) m =
      scanned_takes (length text) p e (blanks (suc (length text)) text e p) w (omega arith) m
      (past_blanks text (length text) p e (omega arith) c)

  -- `token` takes the first of the tokens before which the reader stands.
  takes_by : (r : Reader) (a : Option Token) (s : Stream horn.Token) → (r.at ≡ r.end) ⊎ Clean text r.at r.end → r.end ≤ length text
      → Passed text r.end → HeldMoved text a r.at → s ≡ with_ahead text a (tokens_at text between r.at)
      → TakenFrom text (place_of a r.at) (taken_by text r a) s
  unfolding taken_by with_ahead HeldMoved place_of TakenFrom
  takes_by r None s l m w h e = rw e (scan_takes r.at r.end w l m)
  takes_by r (Some t) s l m w h e =
      record {
        others = tokens_at text between r.at;
        next = e;
        stands = record { line = l; inside = m; passed = w; held = tt; stream = refl };
        cleared = refl;
        moved = h;
      }

  pub token_law : (r : Reader) (s : Stream horn.Token) → Stands text r s → TakenFrom text (place r) (taken text r) s
  unfolding place taken
  token_law r s st = takes_by r r.ahead s st.line st.inside st.passed st.held st.stream

  start_moved : (p : ℕ) (t : Token) (e : ℕ) → Moved text p t e → Moved text (start_of t e) t e
  unfolding Moved start_of
  start_moved p Opening e h = omega arith
  start_moved p Closing e h = omega arith
  start_moved p (Atom a b) e h =
      record { from = omega arith; some = h.some; to = h.to; begins = h.begins; stops = h.stops }

  holding_sees : (p : ℕ) (a : Answer) (s : Stream horn.Token) → TakenFrom text p a s → SeenFrom text p (holding a) s
  unfolding TakenFrom SeenFrom holding with_ahead HeldMoved
  holding_sees p (token t r) s k =
      let e : k.others ≡ tokens_at text between r.at = rw k.cleared at k.stands.stream in
      record {
        others = k.others;
        next = k.next;
        stands =
            record {
              line = k.stands.line;
              inside = k.stands.inside;
              passed = k.stands.passed;
              held = start_moved p t r.at k.moved;
              stream = k.next ∙ rw e;
            };
        holds = refl;
        moved = k.moved;
      }
  holding_sees p ended s k = k
  holding_sees p (refused n) s k = k

  -- `peek` looks at it.
  sees_by : (r : Reader) (a : Option Token) (s : Stream horn.Token) → r.ahead ≡ a → Stands text r s
      → HeldMoved text a r.at → s ≡ with_ahead text a (tokens_at text between r.at)
      → SeenFrom text (place_of a r.at) (peeked_by text r a) s
  unfolding peeked_by with_ahead HeldMoved place_of SeenFrom
  sees_by r None s i st h e =
      holding_sees r.at (scanned (suc (length text)) text r.end r.at) s
      (rw e (scan_takes r.at r.end st.passed st.line st.inside))
  sees_by r (Some t) s i st h e =
      record { others = tokens_at text between r.at; next = e; stands = st; holds = i; moved = h }

  pub peek_law : (r : Reader) (s : Stream horn.Token) → Stands text r s → SeenFrom text (place r) (peeked text r) s
  unfolding place peeked
  peek_law r s st = sees_by r r.ahead s refl st st.held st.stream
