-- The first walk leaves as many words as it was lent. Assumes nothing.
use Rattle.std.proofs.Common.{◌≡◌, ℕ, zero, suc, ◌+◌, eqb, ltb, List, length, set, refl, ◌∙◌, length-set}
use Rattle.lex.specs.Below.horn.proofs.Post.{either}
use Rattle.lex.specs.Answers as lexed
use Rattle.lex.specs.declared.Token.{Token}
use Rattle.lex.specs.declared.Token.TheVariants.{Opening, Closing, Atom}
use Rattle.lex.specs.declared.Reader.{Reader}
use Rattle.sexp.specs.declared.Place.{Place}
use Rattle.sexp.specs.Steps.{Step}
use Rattle.sexp.specs.Steps.{On, Refused}
use Rattle.sexp.specs.Walk.{deepest, open_lists, turns, place, counted, member_added, list_opened}
use Rattle.sexp.specs.Walk.{stepped, area_stepped, AnswerAndArea, goes_on, turn, walk, walked}

abbrev Same : List ℕ → List ℕ → Type 0
Same area left = length left ≡ length area

added_length : (d : ℕ) (area : List ℕ) → Same area (member_added d area)
unfolding member_added counted
added_length d area = either (Same area) (eqb d 0) refl (length-set area _ _)

opened_length : (n d : ℕ) (area : List ℕ) → Same area (list_opened n d area)
unfolding list_opened
opened_length n d area =
    length-set (set (member_added d area) n 0) (open_lists + d) n ∙ length-set (member_added d area) n 0 ∙ added_length d area

stepped_length : (t : Token) (p : Place) (area : List ℕ) → Same area (area_stepped t p area)
unfolding area_stepped
stepped_length Closing p area = refl
stepped_length (Atom s e) p area = either (Same area) (ltb deepest p.depth) refl (added_length p.depth area)
stepped_length Opening p area = either (Same area) (ltb deepest p.depth) refl (opened_length p.openings p.depth area)

went : (on : Reader → Place → List ℕ → AnswerAndArea) → ((r : Reader) (p : Place) (area : List ℕ) → Same area (on r p area).area)
    → (area : List ℕ) (r : Reader) (after : List ℕ) → Same area after → (s : Step) → Same area (goes_on on r after s).area
unfolding goes_on
went on h area r after e (Refused n) = e
went on h area r after e (On p) = h r p after ∙ e

turned : (on : Reader → Place → List ℕ → AnswerAndArea) → ((r : Reader) (p : Place) (area : List ℕ) → Same area (on r p area).area)
    → (p : Place) (area : List ℕ) (a : lexed.Answer) → Same area (turn on p area a).area
unfolding turn
turned on h p area (lexed.refused n) = refl
turned on h p area lexed.ended = refl
turned on h p area (lexed.token t r) = went on h area r (area_stepped t p area) (stepped_length t p area) (stepped t p)

walk_length : (fuel : ℕ) (text : List ℕ) (r : Reader) (p : Place) (area : List ℕ) → Same area (walk fuel text r p area).area
unfolding walk
walk_length zero text r p area = refl
walk_length (suc fuel) text r p area = turned (walk fuel text) (walk_length fuel text) p area (lexed.taken text r)

pub walked-length : (text area : List ℕ) → length (walked text area).area ≡ length area
unfolding walked
walked-length text area = walk_length turns text lexed.start (place 0 0) area
