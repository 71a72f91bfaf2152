-- A step that is read: what each function answers, and what it leaves of the store, of the stack and of the theory's area with its bindings.
use Rattle.std.specs.Prelude.{ℕ, List}
use Rattle.lex.specs.declared.Reader.{Reader}
use Rattle.outcomes.specs.Outcomes.{ok}
use Rattle.outcomes.specs.Leaving.{Did, ◌leaving◌, ◌>>=◌, beside}
use Rattle.theory_reading.specs.Reading.{variable_count}
use Rattle.theory_reading.specs.Storing.{before}
use Rattle.concluding.specs.Concluding.{unbound, step_concluded}
use Rattle.references.specs.References.{rule_due, counted_references}
use Rattle.step_items.specs.Below.step_bindings.specs.StepBindings.{Worked}
use Rattle.step_items.specs.StepItems.{items}
use Rattle.nodes.specs.Limits.{node_limit, word_limit, index_places}

-- "Items; matching": no variable is bound before.
unfoldable pub items_judged : List ℕ → List ℕ → List ℕ → ℕ → ℕ → ℕ → Reader → List ℕ → List ℕ → List ℕ → Did Worked (ℕ × Reader)
items_judged text rules table steps rule n r store stack heap = do
  ((word, r), ((store, stack), heap)) ← items text rules table rule n r store stack (unbound (variable_count heap rule) heap)
  (j, areas) ← step_concluded node_limit word_limit index_places table steps rule word stack store heap
  ok (j, r) leaving areas

-- "`(step I R (I...) item...)`", behind its head.
unfoldable pub step : List ℕ → List ℕ → List ℕ → ℕ → Reader → List ℕ → List ℕ → List ℕ → Did Worked (ℕ × ℕ × ℕ × ℕ × Reader)
step text rules table steps r store stack heap = do
  ((e, r), _) ← rule_due text rules heap steps r leaving ((store, stack), heap)
  ((n, q), ((store, stack), heap)) ← before heap (beside store (counted_references text heap e r stack))
  ((j, q), areas) ← items_judged text rules table steps e n q store stack heap
  ok (j, e, r.at, r.end, q) leaving areas
