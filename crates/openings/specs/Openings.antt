-- How a term begins: what each function answers, and what it leaves of the store and of the stack.
use Rattle.std.specs.Prelude.{ℕ, ◌-◌, Bool, true, false, List}
use Rattle.lex.specs.declared.Reader.{Reader}
use Rattle.outcomes.specs.Outcomes.{Outcome, ok}
use Rattle.outcomes.specs.Leaving.{Did, ◌leaving◌, ◌>>=◌}
use Rattle.nodes.specs.Below.theory_reading.specs.Storing.{Areas}
use Rattle.asking.specs.Asking as asking
use Rattle.asking.specs.Asking.{Met, item_due, closing_next}
use Rattle.nodes.specs.Nodes.{atom_term, head_due}
use Rattle.openings.specs.declared.Begun.{Begun}
use Rattle.openings.specs.declared.Begun.TheVariants as starts

-- What may begin: a closing, a term by its node, a list by its head.
pub data Start : Type 0 where
  closed : Start
  whole : ℕ → Start
  opened : ℕ → Start

-- What each case says, beside the reader that is lent. A refusal has none.
abbrev pub begins : Reader → Begun → Start × Reader
begins r starts.Closing = (closed, r)
begins r (starts.Whole k) = (whole k, r)
begins r (starts.Opened c) = (opened c, r)

-- Whether a closing is next, asked only for a member of a list.
abbrev pub look_for : List ℕ → Bool → Reader → Outcome asking.Ahead
look_for text true r = closing_next text r
look_for text false r = ok (asking.member r)

module _ (left : ℕ) (text rules heap table : List ℕ) (top : ℕ) where
  -- A term, up to its arguments if it has any.
  abbrev pub begun_by : Met → List ℕ → List ℕ → Did Areas (Start × Reader)
  begun_by (asking.atom s t r) store stack = do
    ((k, r), (store, stack)) ← atom_term text rules heap table top s t r store stack
    ok (whole k, r) leaving (store, stack)
  begun_by (asking.list r) store stack = do
    ((c, r), (store, stack)) ← head_due text rules heap (left - 1) r leaving (store, stack)
    ok (opened c, r) leaving (store, stack)

  abbrev pub begun_at : asking.Ahead → List ℕ → List ℕ → Did Areas (Start × Reader)
  begun_at (asking.closing r) store stack = ok (closed, r) leaving (store, stack)
  begun_at (asking.member r) store stack = do
    (i, (store, stack)) ← item_due text left r leaving (store, stack)
    begun_by i store stack

unfoldable pub begun : Bool → ℕ → List ℕ → List ℕ → List ℕ → List ℕ → ℕ → Reader → List ℕ → List ℕ → Did Areas (Start × Reader)
begun member left text rules heap table top r store stack = do
  (a, (store, stack)) ← look_for text member r leaving (store, stack)
  begun_at left text rules heap table top a store stack
