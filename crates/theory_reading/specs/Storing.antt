-- What a node's number is to its caller, and the areas in which nodes are made.
use Rattle.std.specs.Prelude.{ℕ, List}
use Rattle.requests.specs.Below.arena.specs.Store.{Answer}
use Rattle.requests.specs.Below.arena.specs.Store.{Found, Made, Full}
use Rattle.items.specs.Below.outcomes.specs.Outcomes.{Outcome, ok, refused}
use Rattle.items.specs.Below.outcomes.specs.Leaving.{Did, ◌leaving◌}

-- The number of a node that was stored, beside something else; or 28.
abbrev pub numbered : {A : Type 0} → A → Answer → Outcome (ℕ × A)
numbered a (Found k) = ok (k, a)
numbered a (Made k) = ok (k, a)
numbered a Full = refused 28

-- The store and the stack, on which a node is under construction.
abbrev pub Areas : Type 0
Areas = List ℕ × List ℕ

-- What leaves some areas, with another that it is not lent behind them.
abbrev pub before : {R S A : Type 0} → S → Did R A → Did (R × S) A
before s (o leaving r) = o leaving (r, s)
