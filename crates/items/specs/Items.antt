-- The next item of a list that was read whole before, and what is due there.
use Rattle.std.specs.Prelude.{ℕ, Bool, not, List, eqb, get_or, set}
use Rattle.words.specs.Sums.{sum32}
use Rattle.lex.specs.Answers as lex
use Rattle.lex.specs.Answers.{Answer, taken}
use Rattle.lex.specs.declared.Reader.{Reader}
use Rattle.lex.specs.declared.Token.TheVariants as tokens
use Rattle.outcomes.specs.Outcomes.{Outcome, ok, refused, ◌>>=◌, need}
use Rattle.outcomes.specs.Leaving.{Did, ◌leaving◌}
use Rattle.items.specs.declared.Walk.{Walk}
use Rattle.items.specs.declared.Item.{Item}
use Rattle.items.specs.declared.Item.TheVariants as items

-- An atom with its bounds, or a list with the number of its members; and the walk after it.
pub data Met : Type 0 where
  atom : ℕ → ℕ → Walk → Met
  list : ℕ → Walk → Met

-- What each case of an item says.
abbrev pub met : Item → Met
met (items.Atom s t w) = atom s t w
met (items.List n w) = list n w

-- A walk with its reader moved on,
abbrev pub read_on : Walk → Reader → Walk
read_on w r = record { reader = r; opened = w.opened; top = w.top; variables = w.variables }

-- with one more list opened,
abbrev pub opened_one : Walk → Reader → Walk
opened_one w r = record { reader = r; opened = sum32 w.opened 1; top = w.top; variables = w.variables }

-- or with words of the theory taken.
abbrev pub with_top : Walk → ℕ → Walk
with_top w top = record { reader = w.reader; opened = w.opened; top = top; variables = w.variables }

-- One word more in the theory.
unfoldable pub pushed : ℕ → Walk → List ℕ → Did (List ℕ) Walk
pushed word w heap = ok (with_top w (sum32 w.top 1)) leaving set heap w.top word

-- The item that a token begins: "end of text is 5, a closing 6".
abbrev pub item_from : List ℕ → Walk → Answer → Outcome Met
item_from counts w (lex.token tokens.Opening r) = ok (list (get_or counts w.opened 0) (opened_one w r))
item_from counts w (lex.token tokens.Closing r) = refused 6
item_from counts w (lex.token (tokens.Atom s t) r) = ok (atom s t (read_on w r))
item_from counts w lex.ended = refused 5
item_from counts w (lex.refused n) = refused n

unfoldable pub item_due : List ℕ → List ℕ → Walk → Outcome Met
item_due text counts w = item_from counts w (taken text w.reader)

abbrev pub atom_only : Met → Outcome (ℕ × ℕ × Walk)
atom_only (atom s t w) = ok (s, t, w)
atom_only (list n w) = refused 7

-- An atom where one is due: a list there is 7.
unfoldable pub atom_due : List ℕ → List ℕ → Walk → Outcome (ℕ × ℕ × Walk)
atom_due text counts w = item_due text counts w >>= atom_only

abbrev pub list_only : Met → Outcome (ℕ × Walk)
list_only (atom s t w) = refused 7
list_only (list n w) = ok (n, w)

-- A list where one is due: an atom there is 7. Its opening is taken, and its members are counted.
unfoldable pub list_due : List ℕ → List ℕ → Walk → Outcome (ℕ × Walk)
list_due text counts w = item_due text counts w >>= list_only

abbrev pub closed_from : Walk → Answer → Outcome Walk
closed_from w (lex.token tokens.Opening r) = refused 10
closed_from w (lex.token tokens.Closing r) = ok (read_on w r)
closed_from w (lex.token (tokens.Atom s t) r) = refused 10
closed_from w lex.ended = refused 5
closed_from w (lex.refused n) = refused n

-- "Where a closing is due, end of text is 5 and any other token 10."
unfoldable pub closing_due : List ℕ → Walk → Outcome Walk
closing_due text w = closed_from w (taken text w.reader)

-- Whether an atom that starts here has a leading `?`.
unfoldable pub question : List ℕ → ℕ → Bool
question text s = eqb (get_or text s 0) 0x3F

-- "N or S as a list is 7, with a leading `?` 11".
unfoldable pub declared_name : List ℕ → List ℕ → Walk → Outcome (ℕ × ℕ × Walk)
declared_name text counts w = do
  (s, t, q) ← atom_due text counts w
  _ ← need (not (question text s)) 11
  ok (s, t, q)

-- The head of a list: "not empty (8), its head an atom (7)".
unfoldable pub head_due : List ℕ → List ℕ → ℕ → Walk → Outcome (ℕ × ℕ × Walk)
head_due text counts members w = do
  _ ← need (not (eqb members 0)) 8
  atom_due text counts w
