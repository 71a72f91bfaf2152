-- What the first walk answers, and what it leaves in the lent words.
use Rattle.std.specs.Prelude.{ℕ, zero, suc, ◌+◌, ◌-◌, ◌%◌, true, false, List, ◌==◌, nat_lt, slice_index, slice_set}
use Rattle.lex.specs.Below.horn.specs.Refusals.{number, text_long, nesting, text_ends, stray_closing}
use Rattle.lex.specs.Answers as lexed
use Rattle.lex.specs.declared.Token.{Token}
use Rattle.lex.specs.declared.Token.TheVariants.{Opening, Closing, Atom}
use Rattle.lex.specs.declared.Reader.{Reader}
use Rattle.sexp.specs.declared.Place.{Place}
use Rattle.std.specs.declared.result.Result.{Result}
use Rattle.std.specs.declared.result.Result.TheVariants.{Ok, Err}
use Rattle.outcomes.specs.Told as told
use Rattle.outcomes.specs.declared.Refusal as code
use Rattle.sexp.specs.Steps.{Step, On, Refused}

-- An answer in 01's words: a text read whole with so many openings, or a refusal by its number.
pub data Walked : Type 0 where
  whole refused : ℕ → Walked

-- What each case of the code's answer says.
unfoldable pub walk_answer : Result ℕ code.Refusal → Walked
walk_answer (Ok n) = whole n
walk_answer (Err e) = refused (told.number e)

abbrev pub place : ℕ → ℕ → Place
place n d = record { openings = n; depth = d }

-- The depth of the deepest items.
abbrev pub deepest : ℕ
deepest = 256

-- The lists that are open stand from here on, the innermost of n of them at `before_open + n`.
abbrev pub open_lists : ℕ
open_lists = 8_192

abbrev pub before_open : ℕ
before_open = 8_191

-- The turns of the walk: a text of at most 8,192 bytes has no more tokens, and one turn more finds its end.
abbrev pub turns : ℕ
turns = 8_193

-- One member more of a list, in 32 bits.
unfoldable pub counted : List ℕ → ℕ → List ℕ
counted area i = slice_set area i ((slice_index area i + 1) % 4_294_967_296)

-- One member more of the innermost list: the place of its count stands with the open lists.
unfoldable pub member_added : ℕ → List ℕ → List ℕ
member_added d area = elim (d == 0) [ true ↦ area | false ↦ counted area (slice_index area (before_open + d)) ]

-- List n is opened in so many lists.
unfoldable pub list_opened : ℕ → ℕ → List ℕ → List ℕ
list_opened n d area = slice_set (slice_set (member_added d area) n 0) (open_lists + d) n

-- What a token does at a place, and to the words.
unfoldable pub stepped : Token → Place → Step
stepped Closing p = elim (p.depth == 0) [ true ↦ Refused (number stray_closing) | false ↦ On (place p.openings (p.depth - 1)) ]
stepped (Atom s e) p = elim (nat_lt deepest p.depth) [ true ↦ Refused (number nesting) | false ↦ On p ]
stepped Opening p =
    elim (nat_lt deepest p.depth) [
      | true ↦ Refused (number nesting)
      | false ↦ On (place ((p.openings + 1) % 4_294_967_296) (p.depth + 1))
    ]

unfoldable pub area_stepped : Token → Place → List ℕ → List ℕ
area_stepped Closing p area = area
area_stepped (Atom s e) p area = elim (nat_lt deepest p.depth) [ true ↦ area | false ↦ member_added p.depth area ]
area_stepped Opening p area = elim (nat_lt deepest p.depth) [ true ↦ area | false ↦ list_opened p.openings p.depth area ]

-- The end of the text at a place.
unfoldable pub ended_at : Place → Walked
ended_at p =
    elim (p.depth == 0) [
      | true ↦ whole p.openings
      | false ↦ elim (nat_lt deepest p.depth) [ true ↦ refused (number nesting) | false ↦ refused (number text_ends) ]
    ]

-- The answer and the words afterwards.
pub record AnswerAndArea : Type 0 where
  pub answer : Walked
  pub area : List ℕ

abbrev pub answering : Walked → List ℕ → AnswerAndArea
answering w a = record { answer = w; area = a }

-- One turn: what the reader answered, what the token did, and the walk that goes on.
unfoldable pub goes_on : (Reader → Place → List ℕ → AnswerAndArea) → Reader → List ℕ → Step → AnswerAndArea
goes_on on r area (Refused n) = answering (refused n) area
goes_on on r area (On p) = on r p area

unfoldable pub turn : (Reader → Place → List ℕ → AnswerAndArea) → Place → List ℕ → lexed.Answer → AnswerAndArea
turn on p area (lexed.refused n) = answering (refused n) area
turn on p area lexed.ended = answering (ended_at p) area
turn on p area (lexed.token t r) = goes_on on r (area_stepped t p area) (stepped t p)

-- The walk from a reader and a place. `fuel` is one more than the tokens that a text may have.
unfoldable pub walk : ℕ → List ℕ → Reader → Place → List ℕ → AnswerAndArea
walk zero text r p area = answering (refused (number text_long)) area
walk (suc fuel) text r p area = turn (walk fuel text) p area (lexed.taken text r)

unfoldable pub walked : List ℕ → List ℕ → AnswerAndArea
walked text area = walk turns text lexed.start (place 0 0) area
