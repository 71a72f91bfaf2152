-- The three texts one after the other: what is answered, and what is left of the four areas.
use Rattle.std.specs.Prelude.{ℕ, ◌+◌, List}
use Rattle.theory.specs.Below.words.specs.Parts.{cleared}
use Rattle.arena.specs.Store.{count}
use Rattle.requests.specs.Requests.{emptied, requested_of}
use Rattle.outcomes.specs.Outcomes.{ok}
use Rattle.outcomes.specs.Leaving.{Did, ◌leaving◌, ◌>>=◌}
use Rattle.theory.specs.Walks as walks
use Rattle.theory.specs.Walks.{theory}
use Rattle.tables.specs.Words.{goal_buckets, none_yet}
use Rattle.tables.specs.declared.Tally.{Tally}
use Rattle.goals.specs.Goals as goals
use Rattle.certificates.specs.Certificates.{AllAreas, around, certificate}
use Rattle.checker.specs.declared.Counts.{Counts}
use Rattle.nodes.specs.Limits.{node_limit, word_limit, index_places, def_buckets}

-- The rulebook's walks are lent the table, the stack and the theory's area, and not the store.
abbrev pub beside_store : {A : Type 0} → List ℕ → Did walks.AllAreas A → Did AllAreas A
beside_store store (o leaving (table, stack, heap)) = o leaving (((store, stack), heap), table)

-- "Terms" is what the store holds at the end; L1: "nodes requested" is what was asked of it.
abbrev pub counts_of : Tally → List ℕ → Counts
counts_of tally store =
    record {
      steps = tally.steps;
      goals = tally.goals;
      terms = count store;
      requested = requested_of store node_limit word_limit index_places;
    }

-- "The rulebook whole, the goals whole, the certificate." The store and the table begin empty; the table's area was the rulebook's.
unfoldable pub check : List ℕ → List ℕ → List ℕ → List ℕ → List ℕ → List ℕ → List ℕ → Did AllAreas Counts
check rulebook text certificate_text store table stack heap = do
  (_, (((store, stack), heap), table)) ← beside_store store (theory rulebook table stack heap)
  (tally, (((store, stack), heap), table)) ← around heap
      (goals.goals text rulebook heap (none_yet def_buckets) (emptied store node_limit word_limit index_places) stack (cleared (goal_buckets + def_buckets) table))
  (tally, (((store, stack), heap), table)) ← certificate certificate_text text rulebook tally store stack heap table
  ok (counts_of tally store) leaving (((store, stack), heap), table)
