-- A binding among the items of a step: what is answered, and what is left of the store, of the stack and of the theory's area with its bindings.
use Rattle.std.specs.Prelude.{ℕ, List, eqb, set}
use Rattle.words.specs.Parts.{part}
use Rattle.words.specs.Sums.{sum32}
use Rattle.lex.specs.declared.Reader.{Reader}
use Rattle.outcomes.specs.Outcomes.{ok, need, or_else}
use Rattle.outcomes.specs.Leaving.{Did, ◌leaving◌, ◌>>=◌}
use Rattle.theory_reading.specs.Reading.{variable_found, sort_of_variable}
use Rattle.theory_reading.specs.Storing.{Areas, before}
use Rattle.asking.specs.Asking.{in_list, closing_due}
use Rattle.nodes.specs.Nodes.{sort_of}
use Rattle.terms.specs.Terms.{term}
use Rattle.matching.specs.Matching.{binding_of, binding_at}

-- The store and the stack, then the theory's area with its bindings.
abbrev pub Worked : Type 0
Worked = Areas × List ℕ

-- "`(?v T)`: unknown v 12, T, closing 10, bound already or wrong sort 21." The name v was asked for.
unfoldable pub binding : List ℕ → List ℕ → List ℕ → ℕ → ℕ → ℕ → ℕ → Reader → List ℕ → List ℕ → List ℕ → Did Worked Reader
binding text rules table rule top s t r store stack heap = do
  (v, _) ← or_else (variable_found heap rules rule (part s t text)) 12 leaving ((store, stack), heap)
  ((k, r), ((store, stack), heap)) ← before heap (term in_list text rules heap table top r store stack)
  (r, _) ← closing_due text r leaving ((store, stack), heap)
  _ ← need (eqb (binding_of heap v) 0) 21 leaving ((store, stack), heap)
  _ ← need (eqb (sort_of heap store k) (sort_of_variable heap rule v)) 21 leaving ((store, stack), heap)
  ok r leaving ((store, stack), set heap (binding_at v) (sum32 k 1))
