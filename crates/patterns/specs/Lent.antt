-- The walk that all levels of a term are lent, and what one function takes of the text there.
use Rattle.std.specs.Prelude.{ℕ, List}
use Rattle.std.specs.declared.option.Option as code
use Rattle.std.specs.declared.option.Option.TheVariants.{Some, None}
use Rattle.std.specs.declared.result.Result.{Result}
use Rattle.std.specs.declared.result.Result.TheVariants.{Ok, Err}
use Rattle.outcomes.specs.Outcomes.{Outcome, ok, refused}
use Rattle.outcomes.specs.Leaving.{Did, ◌leaving◌, ◌>>=◌, beside}
use Rattle.outcomes.specs.Told.{number}
use Rattle.outcomes.specs.declared.Refusal.{Refusal}
use Rattle.items.specs.Items.{Met, atom, list, item_due, closing_due}
use Rattle.items.specs.declared.Walk.{Walk}
use Rattle.variables.specs.Variables.{Areas}
use Rattle.leaves.specs.Leaves.{compound_head}
use Rattle.patterns.specs.Patterns.{leaf}

-- All that was due, or a list's head: its address and the walk behind it.
pub data Part : Type 0 where
  whole : Walk → Part
  head : ℕ × Walk → Part

abbrev pub after : Part → Walk
after (whole w) = w
after (head (c, w)) = w

abbrev pub mapped : {A B : Type 0} → (A → B) → Outcome A → Outcome B
mapped f (ok a) = ok (f a)
mapped f (refused n) = refused n

abbrev pub each : {S A B : Type 0} → (A → B) → Did S A → Did S B
each f (o leaving s) = mapped f o leaving s

-- What each case of an answer says, with the walk as it is then.
abbrev pub taken_part : Result (code.Option ℕ) Refusal → Walk → Outcome Part
taken_part (Ok None) w = ok (whole w)
taken_part (Ok (Some c)) w = ok (head (c, w))
taken_part (Err e) w = refused (number e)

abbrev pub done : Result (Unit {0}) Refusal → Walk → Outcome Walk
done (Ok _) w = ok w
done (Err e) w = refused (number e)

abbrev pub term_from : List ℕ → List ℕ → ℕ → Met → List ℕ → List ℕ → Did Areas Part
term_from text counts sort (atom s t w) vars heap = each whole (leaf text s t sort w vars heap)
term_from text counts sort (list members w) vars heap = each head (beside vars (compound_head text counts sort members w heap))

-- A term as far as its head, or a closing.
unfoldable pub part_due : code.Option ℕ → List ℕ → List ℕ → Walk → List ℕ → List ℕ → Did Areas Part
part_due None text counts w vars heap = each whole (closing_due text w leaving (vars, heap))
part_due (Some sort) text counts w vars heap = do
  (i, (vars, heap)) ← item_due text counts w leaving (vars, heap)
  term_from text counts sort i vars heap
