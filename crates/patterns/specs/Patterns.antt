-- Terms and judgments as flat words: what each function answers, and what it leaves of a rule's variables and of the theory.
use Rattle.std.specs.Prelude.{ℕ, zero, suc, ◌+◌, List, get_or}
use Rattle.items.specs.Places as places
use Rattle.outcomes.specs.Outcomes.{refused, pick}
use Rattle.outcomes.specs.Leaving.{Did, ◌leaving◌, ◌>>=◌, beside}
use Rattle.items.specs.Items.{Met, atom, list, item_due, list_due, closing_due, head_due, question}
use Rattle.items.specs.declared.Walk.{Walk}
use Rattle.variables.specs.Variables.{Areas, variable_pattern}
use Rattle.leaves.specs.Leaves.{applied, constant, compound_head}

-- An atom at a place of a sort.
unfoldable pub leaf : List ℕ → ℕ → ℕ → ℕ → Walk → List ℕ → List ℕ → Did Areas Walk
leaf text s t sort w vars heap =
    pick (question text s)
    (λ _. variable_pattern text s t sort w vars heap)
    (λ _. beside vars (constant text s t sort w heap))

-- The arguments of the symbol at c from the k-th on, each read at its input's sort, then the closing.
unfoldable pub arguments_from : (ℕ → Walk → List ℕ → List ℕ → Did Areas Walk) → ℕ → List ℕ → ℕ → ℕ → Walk → List ℕ → List ℕ → Did Areas Walk
arguments_from read zero text c k w vars heap = closing_due text w leaving (vars, heap)
arguments_from read (suc left) text c k w vars heap = do
  (q, (vars, heap)) ← read (get_or heap (c + places.inputs + k) 0) w vars heap
  arguments_from read left text c (k + 1) q vars heap

-- A term by its first item: an atom whole, a list by its head and then its arguments, each read by `read`.
abbrev pub pattern_of : (ℕ → Walk → List ℕ → List ℕ → Did Areas Walk) → List ℕ → List ℕ → ℕ → Met → List ℕ → List ℕ → Did Areas Walk
pattern_of read text counts sort (atom s t w) vars heap = leaf text s t sort w vars heap
pattern_of read text counts sort (list members w) vars heap = do
  ((c, q), (vars, heap)) ← beside vars (compound_head text counts sort members w heap)
  arguments_from read (get_or heap (c + places.arity) 0) text c 0 q vars heap

-- A term at a place of a sort, with that much depth left.
unfoldable pub pattern : ℕ → List ℕ → List ℕ → ℕ → Walk → List ℕ → List ℕ → Did Areas Walk
pattern zero text counts sort w vars heap = refused 4 leaving (vars, heap)
pattern (suc left) text counts sort w vars heap = do
  (i, (vars, heap)) ← item_due text counts w leaving (vars, heap)
  pattern_of (pattern left text counts) text counts sort i vars heap

-- All arguments of the symbol at c.
unfoldable pub arguments : ℕ → List ℕ → List ℕ → ℕ → Walk → List ℕ → List ℕ → Did Areas Walk
arguments left text counts c w vars heap = arguments_from (pattern left text counts) (get_or heap (c + places.arity) 0) text c 0 w vars heap

-- How many levels a term may have: more than any has in a text that was read whole, where a term has a depth of 2 at least and nothing a
-- depth above 256.
abbrev pub levels : ℕ
levels = 257

-- "A judgment J is a list (else 7), not empty (8), its head an atom (7) and a predicate (12), its length right (15),
-- then its terms."
unfoldable pub judgment : List ℕ → List ℕ → Walk → List ℕ → List ℕ → Did Areas Walk
judgment text counts w vars heap = do
  ((members, q), (vars, heap)) ← list_due text counts w leaving (vars, heap)
  ((s, t, q), (vars, heap)) ← head_due text counts members q leaving (vars, heap)
  ((c, q), (vars, heap)) ← beside vars (applied text places.predicates 0 members s t q heap)
  arguments levels text counts c q vars heap

-- "Premises left to right", then the closing.
unfoldable pub judgments : ℕ → List ℕ → List ℕ → Walk → List ℕ → List ℕ → Did Areas Walk
judgments zero text counts w vars heap = closing_due text w leaving (vars, heap)
judgments (suc left) text counts w vars heap = do
  (q, (vars, heap)) ← judgment text counts w vars heap
  judgments left text counts q vars heap
