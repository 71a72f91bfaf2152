-- Judgments that are read: what each function answers, and what it leaves of the store and of the stack.
use Rattle.std.specs.Prelude.{ℕ, zero, suc, List}
use Rattle.words.specs.Sums.{sum32}
use Rattle.lex.specs.declared.Reader.{Reader}
use Rattle.outcomes.specs.Outcomes.{refused}
use Rattle.outcomes.specs.Leaving.{Did, ◌leaving◌, ◌>>=◌}
use Rattle.nodes.specs.Below.theory_reading.specs.Storing.{Areas}
use Rattle.asking.specs.Asking.{atom_due, list_due}
use Rattle.nodes.specs.Nodes.{make, predicate_due}
use Rattle.terms.specs.Terms.{arguments}

-- "Judgment: list, head a predicate (12), arguments, 15, store." Here its head was asked for.
unfoldable pub headed_judgment : ℕ → List ℕ → List ℕ → List ℕ → List ℕ → ℕ → ℕ → ℕ → Reader → List ℕ → List ℕ → Did Areas (ℕ × Reader)
headed_judgment left text rules heap table top s t r store stack = do
  ((c, r), (store, stack)) ← predicate_due text rules heap s t r leaving (store, stack)
  ((n, r), (store, stack)) ← arguments left text rules heap table (sum32 top 1) r store stack
  make heap c top n r store stack

-- A judgment, asked for with that much depth left.
unfoldable pub judgment : ℕ → List ℕ → List ℕ → List ℕ → List ℕ → ℕ → Reader → List ℕ → List ℕ → Did Areas (ℕ × Reader)
judgment zero text rules heap table top r store stack = refused 4 leaving (store, stack)
judgment (suc left) text rules heap table top r store stack = do
  (r, (store, stack)) ← list_due text (suc left) r leaving (store, stack)
  ((s, t, r), (store, stack)) ← atom_due text left r leaving (store, stack)
  headed_judgment left text rules heap table top s t r store stack
