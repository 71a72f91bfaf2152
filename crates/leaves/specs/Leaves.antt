-- Constants and heads in a rule's patterns: what each function answers, and what it leaves of the theory.
use Rattle.std.specs.Prelude.{ℕ, ◌+◌, not, List, eqb, get_or}
use Rattle.words.specs.Parts.{part}
use Rattle.names.specs.Chains.{found}
use Rattle.items.specs.Places as places
use Rattle.outcomes.specs.Outcomes.{ok, need, or_else}
use Rattle.outcomes.specs.Leaving.{Did, ◌leaving◌, ◌>>=◌}
use Rattle.items.specs.Items.{pushed, head_due}
use Rattle.items.specs.declared.Walk.{Walk}

-- A symbol with these buckets: unknown is 12, then output sort and length (of the list, its head included) 15.
unfoldable pub applied : List ℕ → ℕ → ℕ → ℕ → ℕ → ℕ → Walk → List ℕ → Did (List ℕ) (ℕ × Walk)
applied text buckets sort members s t w heap = do
  (c, heap) ← or_else (found heap buckets places.buckets text (part s t text)) 12 leaving heap
  _ ← need (eqb (get_or heap (c + places.output) 0) sort) 15 leaving heap
  _ ← need (eqb (get_or heap (c + places.arity) 0 + 1) members) 15 leaving heap
  (q, heap) ← pushed c w heap
  ok (c, q) leaving heap

-- "An atom is a constructor (12)."
unfoldable pub constant : List ℕ → ℕ → ℕ → ℕ → Walk → List ℕ → Did (List ℕ) Walk
constant text s t sort w heap = do
  ((c, q), heap) ← applied text places.constructors sort 1 s t w heap
  ok q leaving heap

-- "A list: empty 8, head not an atom 7, length one 16, unknown 12. Then, atom or list, output sort and length, 15, before the arguments."
unfoldable pub compound_head : List ℕ → List ℕ → ℕ → ℕ → Walk → List ℕ → Did (List ℕ) (ℕ × Walk)
compound_head text counts sort members w heap = do
  ((s, t, q), heap) ← head_due text counts members w leaving heap
  _ ← need (not (eqb members 1)) 16 leaving heap
  applied text places.constructors sort members s t q heap
