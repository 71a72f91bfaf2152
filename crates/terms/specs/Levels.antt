-- One level of a term within terms, with the reader lent: what each function of the cycle answers.
use Rattle.std.specs.Prelude.{ℕ, List, Option, Some, None}
use Rattle.lex.specs.declared.Reader.{Reader}
use Rattle.outcomes.specs.Outcomes.{ok}
use Rattle.outcomes.specs.Leaving.{Did, ◌leaving◌, ◌>>=◌}
use Rattle.nodes.specs.Below.theory_reading.specs.Storing.{Areas}
use Rattle.nodes.specs.Below.asking.specs.Asking as asking
use Rattle.nodes.specs.Below.asking.specs.Asking.{closing_next}
use Rattle.terms.specs.Terms.{term}

-- What an argument may be: none where a closing is next.
pub data Next : Type 0 where
  none : Next
  one : ℕ → Next

-- What the code's answer says, beside the reader that is lent. A refusal has none.
abbrev pub argues : Reader → Option ℕ → Next × Reader
argues r None = (none, r)
argues r (Some k) = (one k, r)

module _ (left : ℕ) (text rules heap table : List ℕ) (top : ℕ) where
  -- An argument is a term; a closing ends them.
  abbrev pub argument_at : asking.Ahead → List ℕ → List ℕ → Did Areas (Next × Reader)
  argument_at (asking.closing r) store stack = ok (none, r) leaving (store, stack)
  argument_at (asking.member r) store stack = do
    ((k, r), (store, stack)) ← term left text rules heap table top r store stack
    ok (one k, r) leaving (store, stack)

unfoldable pub argument : ℕ → List ℕ → List ℕ → List ℕ → List ℕ → ℕ → Reader → List ℕ → List ℕ → Did Areas (Next × Reader)
argument left text rules heap table top r store stack = do
  (a, (store, stack)) ← closing_next text r leaving (store, stack)
  argument_at left text rules heap table top a store stack
