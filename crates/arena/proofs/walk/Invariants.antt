use Rattle.std.proofs.Common.{◌≡◌, ℕ, ◌-◌, get_or}
use Rattle.arena.specs.Probing.{probe}
use Rattle.arena.specs.Store.{place_at, is_key, searched}
use Rattle.arena.proofs.walk.Given as goal

abbrev pub invariant-loop : goal.invariant-loop
invariant-loop l =
    searched l.a l.limits.nodes l.limits.places l.key
    ≡ probe l.limits.places (l.limits.places - l.counter) (λ (p : ℕ). get_or l.a (place_at l.limits.nodes p) 0) (is_key l.a l.limits.nodes l.limits.places l.key)
    l.i
