-- Terms that are read: what each function answers, and what it leaves of the store and of the stack.
use Rattle.std.specs.Prelude.{ℕ, zero, suc, ◌+◌, not, List, eqb, length, set}
use Rattle.words.specs.Sums.{sum32}
use Rattle.lex.specs.declared.Reader.{Reader}
use Rattle.outcomes.specs.Outcomes.{ok, refused, need}
use Rattle.outcomes.specs.Leaving.{Did, ◌leaving◌, ◌>>=◌}
use Rattle.nodes.specs.Below.theory_reading.specs.Storing.{Areas}
use Rattle.nodes.specs.Below.asking.specs.Asking.{Met, atom, list, Ahead, closing, member, item_due, closing_next}
use Rattle.nodes.specs.Nodes.{make, atom_term, head_due}

-- What reads a term on top of the stack.
abbrev pub Reading : Type 0
Reading = ℕ → Reader → List ℕ → List ℕ → Did Areas (ℕ × Reader)

-- One argument more, and those behind it.
abbrev pub one_more : Reading → (ℕ → Reader → List ℕ → List ℕ → Did Areas (ℕ × Reader)) → ℕ → ℕ → Ahead → List ℕ → List ℕ → Did Areas (ℕ × Reader)
one_more read on top n (closing r) store stack = ok (n, r) leaving (store, stack)
one_more read on top n (member r) store stack = do
  ((k, r), (store, stack)) ← read (sum32 top n) r store stack
  on (sum32 n 1) r store (set stack (sum32 top n) k)

-- Arguments from the n-th on, "asked for until a closing is next". `fuel` is a bound on their number.
unfoldable pub arguments_from : Reading → ℕ → List ℕ → ℕ → ℕ → Reader → List ℕ → List ℕ → Did Areas (ℕ × Reader)
arguments_from read zero text top n r store stack = refused 2 leaving (store, stack)
arguments_from read (suc fuel) text top n r store stack = do
  (next, (store, stack)) ← closing_next text r leaving (store, stack)
  one_more read (arguments_from read fuel text top) top n next store stack

-- "After the closing come 16 for a bracketed constructor without arguments, then 15 for arity and sorts, then the store."
abbrev pub term_of : Reading → ℕ → List ℕ → List ℕ → List ℕ → List ℕ → ℕ → Met → List ℕ → List ℕ → Did Areas (ℕ × Reader)
term_of read left text rules heap table top (atom s t r) store stack = atom_term text rules heap table top s t r store stack
term_of read left text rules heap table top (list r) store stack = do
  ((c, r), (store, stack)) ← head_due text rules heap left r leaving (store, stack)
  ((n, r), (store, stack)) ← arguments_from read (length text + 1) text (sum32 top 1) 0 r store stack
  _ ← need (not (eqb n 0)) 16 leaving (store, stack)
  make heap c top n r store stack

-- A term, asked for with that much depth left.
unfoldable pub term : ℕ → List ℕ → List ℕ → List ℕ → List ℕ → ℕ → Reader → List ℕ → List ℕ → Did Areas (ℕ × Reader)
term zero text rules heap table top r store stack = refused 4 leaving (store, stack)
term (suc left) text rules heap table top r store stack = do
  (i, (store, stack)) ← item_due text (suc left) r leaving (store, stack)
  term_of (term left text rules heap table) left text rules heap table top i store stack

-- All arguments, up to the closing.
unfoldable pub arguments : ℕ → List ℕ → List ℕ → List ℕ → List ℕ → ℕ → Reader → List ℕ → List ℕ → Did Areas (ℕ × Reader)
arguments left text rules heap table top r store stack =
    arguments_from (term left text rules heap table) (length text + 1) text top 0 r store stack
