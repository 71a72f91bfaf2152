-- Nodes: what each function answers, and what it leaves of the store and of the stack.
use Rattle.std.specs.Prelude.{ℕ, ◌+◌, List, get_or, set}
use Rattle.words.specs.Parts.{part}
use Rattle.words.specs.Sums.{sum32}
use Rattle.lex.specs.declared.Reader.{Reader}
use Rattle.std.specs.declared.option.Option as code
use Rattle.std.specs.declared.option.Option.TheVariants as options
use Rattle.arena.specs.Store.{Answer, Found, Made, Full, head_of, intern_answer}
use Rattle.requests.specs.Requests.{requested_area}
use Rattle.tables.specs.Words.{def_meaning}
use Rattle.outcomes.specs.Outcomes.{Outcome, ok, need, or_else, pick}
use Rattle.outcomes.specs.Outcomes as outcomes
use Rattle.outcomes.specs.Leaving.{Did, ◌leaving◌, ◌>>=◌}
use Rattle.items.specs.Items.{question}
use Rattle.theory_reading.specs.Reading.{constructor_found, predicate_found, output_of, accepted}
use Rattle.theory_reading.specs.Storing as storing
use Rattle.theory_reading.specs.Storing.{Areas}
use Rattle.asking.specs.Asking.{atom_due}
use Rattle.nodes.specs.Limits.{node_limit, word_limit, index_places, def_buckets}

-- The sort of a term is what its head gives.
unfoldable pub sort_of : List ℕ → List ℕ → ℕ → ℕ
sort_of heap store k = output_of heap (head_of store node_limit index_places k)

-- The heads of the terms that stand on the stack from a place on.
abbrev pub head_on : List ℕ → List ℕ → ℕ → ℕ → ℕ
head_on store stack from i = head_of store node_limit index_places (get_or stack (from + i) 0)

-- The number of a node that the store answers, found or made, if there is room.
abbrev pub numbered : Answer → code.Option ℕ
numbered (Found k) = options.Some k
numbered (Made k) = options.Some k
numbered Full = options.None

-- A request for a node with these words.
unfoldable pub interned : List ℕ → Reader → List ℕ → List ℕ → Did Areas (ℕ × Reader)
interned key r store stack =
    storing.numbered r (intern_answer store node_limit word_limit index_places key)
    leaving (requested_area store node_limit word_limit index_places key, stack)

-- "Then 15 for arity and sorts, then the store."
unfoldable pub make : List ℕ → ℕ → ℕ → ℕ → Reader → List ℕ → List ℕ → Did Areas (ℕ × Reader)
make heap c top n r store stack = do
  _ ← need (accepted (head_on store stack (sum32 top 1)) heap c n) 15 leaving (store, stack)
  interned (part top (top + 1 + n) (set stack top c)) r store (set stack top c)

-- A constructor by its name: unknown is 12.
unfoldable pub constructor_due : List ℕ → List ℕ → List ℕ → ℕ → ℕ → Reader → Outcome (ℕ × Reader)
constructor_due text rules heap s t r =
    outcomes.◌>>=◌ (or_else (constructor_found heap rules (part s t text)) 12) (λ c. ok (c, r))

-- The same of a predicate.
unfoldable pub predicate_due : List ℕ → List ℕ → List ℕ → ℕ → ℕ → Reader → Outcome (ℕ × Reader)
predicate_due text rules heap s t r =
    outcomes.◌>>=◌ (or_else (predicate_found heap rules (part s t text)) 12) (λ c. ok (c, r))

-- "An atom with a leading `?`, `?` alone too, is an earlier abbreviation (12). An atom or head is a constructor (12)."
unfoldable pub atom_term : List ℕ → List ℕ → List ℕ → List ℕ → ℕ → ℕ → ℕ → Reader → List ℕ → List ℕ → Did Areas (ℕ × Reader)
atom_term text rules heap table top s t r store stack =
    pick (question text s)
    (λ _. do
      (k, (store, stack)) ← or_else (def_meaning def_buckets text (part s t text) table) 12 leaving (store, stack)
      ok (k, r) leaving (store, stack))
    (λ _. do
      ((c, q), (store, stack)) ← constructor_due text rules heap s t r leaving (store, stack)
      make heap c top 0 q store stack)

-- The head of a list, asked for without a look ahead.
unfoldable pub head_due : List ℕ → List ℕ → List ℕ → ℕ → Reader → Outcome (ℕ × Reader)
head_due text rules heap left r =
    outcomes.◌>>=◌ (atom_due text left r) (λ p. constructor_due text rules heap p.0 p.1 p.2)
