-- What a reader answers.
use Rattle.std.specs.Prelude.{ℕ, zero, suc, ◌+◌, true, false, List, eqb, leb, length, drop, None, Option, Some}
use Rattle.utf8.specs.Below.horn.specs.Refusals.{number, not_utf8}
use Rattle.utf8.specs.Classes.{is_ordinary, is_opening, is_closing}
use Rattle.utf8.specs.Characters.{first, width, kind_at}
use Rattle.scanning.specs.Scan.{blanks, atom_end, line_end}
use Rattle.lex.specs.declared.Token.{Token}
use Rattle.lex.specs.declared.Token.TheVariants.{Opening, Closing, Atom}
use Rattle.lex.specs.declared.Reader.{Reader}
use Rattle.lex.specs.declared.Read.{Read}
use Rattle.lex.specs.declared.Read.TheVariants.{Got, End, Bad}
use Rattle.lex.specs.declared.Scanned.{Scanned}
use Rattle.lex.specs.declared.Scanned.TheVariants as scans

-- An answer in 01's words: a token with the reader after it, the end of the text, or a refusal by its number.
pub data Answer : Type 0 where
  token : Token → Reader → Answer
  ended : Answer
  refused : ℕ → Answer

-- What each case of the enum says: a bad line is refusal 3.
unfoldable pub answer : Read → Answer
answer (Got t r) = token t r
answer End = ended
answer Bad = refused (number not_utf8)

-- A reader at a place, in a line that is tested up to `end`, that looked at this.
abbrev pub after : ℕ → ℕ → Option Token → Reader
after at end ahead = record { at = at; end = end; ahead = ahead }

-- What each case of a scan says: the reader after the token has looked at nothing.
unfoldable pub found : Scanned → Answer
found (scans.Opening at end) = token Opening (after at end None)
found (scans.Closing at end) = token Closing (after at end None)
found (scans.Atom s t end) = token (Atom s t) (after t end None)
found scans.End = ended
found scans.Bad = refused (number not_utf8)

-- The token at a place where a character stands that is neither white nor `;`.
unfoldable pub token_at : List ℕ → ℕ → ℕ → Answer
token_at text end p =
    elim (eqb (kind_at (first (drop p text))) is_ordinary) [
      | true ↦ token (Atom p (atom_end (suc (length text)) text end p)) (after (atom_end (suc (length text)) text end p) end None)
      | false ↦ elim (eqb (kind_at (first (drop p text))) is_opening) [
        | true ↦ token Opening (after (p + width (first (drop p text))) end None)
        | false ↦ elim (eqb (kind_at (first (drop p text))) is_closing) [
          | true ↦ token Closing (after (p + width (first (drop p text))) end None)
          | false ↦ refused (number not_utf8)
        ]
      ]
    ]

-- The next token from a place in a line that is tested up to `end`, with white space and comments behind it: each
-- further line is tested when it is needed.
unfoldable pub scanned_on : ℕ → List ℕ → ℕ → ℕ → Answer
scanned_on zero text end q = ended
scanned_on (suc fuel) text end q =
    elim (leb end q) [
      | false ↦ token_at text end q
      | true ↦ elim (leb (length text) q) [
        | true ↦ ended
        | false ↦ elim (line_end (suc (length text)) text q) [
          | None ↦ refused (number not_utf8)
          | Some e ↦ scanned_on fuel text e (blanks (suc (length text)) text e q)
        ]
      ]
    ]

unfoldable pub scanned : ℕ → List ℕ → ℕ → ℕ → Answer
scanned fuel text end p = scanned_on fuel text end (blanks (suc (length text)) text end p)

-- The answer with its token held ahead.
unfoldable pub holding : Answer → Answer
holding (token t r) = token t (after r.at r.end (Some t))
holding ended = ended
holding (refused n) = refused n

unfoldable pub peeked_by : List ℕ → Reader → Option Token → Answer
peeked_by text r (Some t) = token t r
peeked_by text r None = holding (scanned (suc (length text)) text r.end r.at)

unfoldable pub taken_by : List ℕ → Reader → Option Token → Answer
taken_by text r (Some t) = token t (after r.at r.end None)
taken_by text r None = scanned (suc (length text)) text r.end r.at

-- What a look at the next token answers, and what taking it answers.
unfoldable pub peeked : List ℕ → Reader → Answer
peeked text r = peeked_by text r r.ahead

unfoldable pub taken : List ℕ → Reader → Answer
taken text r = taken_by text r r.ahead

-- The reader before a text's first token.
unfoldable pub start : Reader
start = after 0 0 None
