-- What is asked of a reader, and what it answers: a value with the reader after it, or a refusal by document 01's number.
use Rattle.std.specs.Prelude.{ℕ, not, List, eqb, Option, Some, None}
use Rattle.lex.specs.Answers as lex
use Rattle.lex.specs.Answers.{Answer, taken, peeked}
use Rattle.lex.specs.declared.Reader.{Reader}
use Rattle.lex.specs.declared.Token.TheVariants as tokens
use Rattle.outcomes.specs.Outcomes.{Outcome, ok, refused, ◌>>=◌, need}
use Rattle.asking.specs.declared.Item.{Item}
use Rattle.asking.specs.declared.Item.TheVariants as items
use Rattle.asking.specs.declared.Look.{Look}
use Rattle.asking.specs.declared.Look.TheVariants as looks

-- What is left for the members of a form, which are at depth 1.
abbrev pub in_form : ℕ
in_form = 256

-- What is left for the members of a list within a form, which are at depth 2.
abbrev pub in_list : ℕ
in_list = 255

-- An atom with its bounds, or a list, its opening taken; and the reader after it.
pub data Met : Type 0 where
  atom : ℕ → ℕ → Reader → Met
  list : Reader → Met

-- A closing that was next, taken, or a member to be asked for; and the reader.
pub data Ahead : Type 0 where
  closing : Reader → Ahead
  member : Reader → Ahead

-- At top level: the end of the text, or a form, its opening taken.
pub data Top : Type 0 where
  over : Top
  form : Reader → Top

-- What each case of a value says; refusals are said by `told_as` (crate outcomes).
abbrev pub met : Item → Met
met (items.Atom s t r) = atom s t r
met (items.List r) = list r

abbrev pub looked : Look → Ahead
looked (looks.Closing r) = closing r
looked (looks.Member r) = member r

abbrev pub begun : Option Reader → Top
begun None = over
begun (Some r) = form r

-- The item that a token begins: "end of text is 5, a closing 6".
abbrev pub item_from : Answer → Outcome Met
item_from (lex.token tokens.Opening r) = ok (list r)
item_from (lex.token tokens.Closing r) = refused 6
item_from (lex.token (tokens.Atom s t) r) = ok (atom s t r)
item_from lex.ended = refused 5
item_from (lex.refused n) = refused n

-- "Asking for an item at depth 257 is refusal 4, before its token is taken": `left` is 257 less the depth.
unfoldable pub item_due : List ℕ → ℕ → Reader → Outcome Met
item_due text left r = do
  _ ← need (not (eqb left 0)) 4
  item_from (taken text r)

abbrev pub atom_only : Met → Outcome (ℕ × ℕ × Reader)
atom_only (atom s t r) = ok (s, t, r)
atom_only (list r) = refused 7

abbrev pub list_only : Met → Outcome Reader
list_only (atom s t r) = refused 7
list_only (list r) = ok r

-- "A list where an atom is due, or the reverse, is 7."
unfoldable pub atom_due : List ℕ → ℕ → Reader → Outcome (ℕ × ℕ × Reader)
atom_due text left r = item_due text left r >>= atom_only

unfoldable pub list_due : List ℕ → ℕ → Reader → Outcome Reader
list_due text left r = item_due text left r >>= list_only

abbrev pub closed_from : Answer → Outcome Reader
closed_from (lex.token tokens.Opening r) = refused 10
closed_from (lex.token tokens.Closing r) = ok r
closed_from (lex.token (tokens.Atom s t) r) = refused 10
closed_from lex.ended = refused 5
closed_from (lex.refused n) = refused n

-- "Where a closing is due, end of text is 5 and any other token 10."
unfoldable pub closing_due : List ℕ → Reader → Outcome Reader
closing_due text r = closed_from (taken text r)

-- "That look ahead comes first, so a bad line found by it is 3, not 4". At the end of the text a member is asked for.
abbrev pub next_from : List ℕ → Reader → Answer → Outcome Ahead
next_from text r (lex.token tokens.Opening held) = ok (member held)
next_from text r (lex.token tokens.Closing held) = closing_due text held >>= λ after. ok (closing after)
next_from text r (lex.token (tokens.Atom s t) held) = ok (member held)
next_from text r lex.ended = ok (member r)
next_from text r (lex.refused n) = refused n

unfoldable pub closing_next : List ℕ → Reader → Outcome Ahead
closing_next text r = next_from text r (peeked text r)

-- At top level the text may end; a form is a list.
abbrev pub form_from : Answer → Outcome Top
form_from (lex.token tokens.Opening r) = ok (form r)
form_from (lex.token tokens.Closing r) = refused 6
form_from (lex.token (tokens.Atom s t) r) = refused 7
form_from lex.ended = ok over
form_from (lex.refused n) = refused n

unfoldable pub form_due : List ℕ → Reader → Outcome Top
form_due text r = form_from (taken text r)
