-- Declarations of sorts, constructors and predicates: what each function answers, and what it leaves of the theory.
use Rattle.std.specs.Prelude.{ℕ, zero, suc, ◌+◌, not, List, set}
use Rattle.words.specs.Parts.{part}
use Rattle.names.specs.Chains.{found, added}
use Rattle.names.specs.Tables.{present}
use Rattle.items.specs.Places as places
use Rattle.outcomes.specs.Outcomes.{Outcome, ok, refused, need, or_else}
use Rattle.outcomes.specs.Outcomes as outcomes
use Rattle.outcomes.specs.Leaving.{Did, ◌leaving◌, ◌>>=◌}
use Rattle.words.specs.Sums.{sum32}
use Rattle.items.specs.Items.{with_top, pushed, list_due, closing_due, declared_name}
use Rattle.items.specs.declared.Walk.{Walk}

-- A walk with words of the theory kept free.
unfoldable pub reserved : Walk → ℕ → Walk
reserved w n = with_top w (sum32 w.top n)

-- "S unknown is 12."
unfoldable pub sort_from : List ℕ → List ℕ → ℕ × ℕ × Walk → Outcome (ℕ × Walk)
sort_from text heap (s, t, q) = outcomes.◌>>=◌ (or_else (found heap places.sorts places.buckets text (part s t text)) 12) (λ a. ok (a, q))

unfoldable pub sort_named : List ℕ → List ℕ → List ℕ → Walk → Outcome (ℕ × Walk)
sort_named text counts heap w = outcomes.◌>>=◌ (declared_name text counts w) (sort_from text heap)

-- A new entry at e, found by its name from now on; a duplicate is 13.
unfoldable pub entered : List ℕ → ℕ → ℕ → ℕ → ℕ → Walk → List ℕ → Did (List ℕ) Walk
entered text buckets e s t w heap = do
  _ ← need (not (present (found heap buckets places.buckets text (part s t text)))) 13 leaving heap
  ok w leaving added heap buckets places.buckets e text s t

-- The two words behind an entry's name.
unfoldable pub described : ℕ → ℕ → ℕ → List ℕ → List ℕ
described e a b heap = set (set heap (e + places.output) a) (e + places.arity) b

-- "`(sort N)`: N, then duplicate."
unfoldable pub sort_declared : List ℕ → List ℕ → Walk → List ℕ → Did (List ℕ) Walk
sort_declared text counts w heap = do
  ((s, t, q), heap) ← declared_name text counts w leaving heap
  (q, heap) ← entered text places.sorts w.top s t q heap
  closing_due text (reserved q places.sort_words) leaving heap

-- "Inputs left to right", then the closing.
unfoldable pub inputs : ℕ → List ℕ → List ℕ → Walk → List ℕ → Did (List ℕ) Walk
inputs zero text counts w heap = closing_due text w leaving heap
inputs (suc left) text counts w heap = do
  ((a, q), heap) ← sort_named text counts heap w leaving heap
  (q, heap) ← pushed a q heap
  inputs left text counts q heap

-- N and the inputs, which stand behind five words of a symbol's entry. "Inputs or premises given as an atom 7".
unfoldable pub signature : List ℕ → List ℕ → Walk → List ℕ → Did (List ℕ) (ℕ × ℕ × ℕ × Walk)
signature text counts w heap = do
  ((s, t, q), heap) ← declared_name text counts w leaving heap
  ((n, q), heap) ← list_due text counts q leaving heap
  (q, heap) ← inputs n text counts (reserved q places.inputs) heap
  ok (s, t, n, q) leaving heap

-- A symbol's entry, then the closing of its declaration.
unfoldable pub symbol_entered : List ℕ → ℕ → ℕ → ℕ → ℕ → ℕ → ℕ → Walk → List ℕ → Did (List ℕ) Walk
symbol_entered text buckets e s t output n w heap = do
  (q, heap) ← entered text buckets e s t w heap
  closing_due text q leaving described e output n heap

-- `(ctor N (S...) S)`: "N, inputs left to right, output, duplicate."
unfoldable pub constructor_declared : List ℕ → List ℕ → Walk → List ℕ → Did (List ℕ) Walk
constructor_declared text counts w heap = do
  ((s, t, n, q), heap) ← signature text counts w heap
  ((output, q), heap) ← sort_named text counts heap q leaving heap
  symbol_entered text places.constructors w.top s t output n q heap

-- `(pred N (S...))`: the same, without an output.
unfoldable pub predicate_declared : List ℕ → List ℕ → Walk → List ℕ → Did (List ℕ) Walk
predicate_declared text counts w heap = do
  ((s, t, n, q), heap) ← signature text counts w heap
  symbol_entered text places.predicates w.top s t 0 n q heap
