-- One turn of filling and of testing. Assumes nothing.
use lib.ListN.{length-set}
use Rattle.std.proofs.Common.{◌≡◌, ℕ, suc, ◌+◌, ◌-◌, ◌%◌, ◌^◌, ◌<◌, ◌≤◌, true, false, List, get_or, set, refl, arith, eq-eqb, ne_eqb}
use Rattle.areas.specs.Filling.{filled, due, held}

-- One place more is left before place i than after it.
left : (e i : ℕ) → i < e → e - i ≡ suc (e - (i + 1))
left e i h = omega arith

none_left : (e i : ℕ) → e ≤ i → e - i ≡ 0
none_left e i h = omega arith

pub filled_on : (e i w step : ℕ) (s : List ℕ) → i < e → filled (e - i) i w step s ≡ filled (e - (i + 1)) (i + 1) ((w + step) % 2 ^ 32) step (set s i w)
unfolding filled
filled_on e i w step s h = rw (left e i h, filled) refl

pub filled_end : (e i w step : ℕ) (s : List ℕ) → e ≤ i → filled (e - i) i w step s ≡ s
unfolding filled
filled_end e i w step s h = rw (none_left e i h, filled) refl

pub ruleset fills = (filled_on, filled_end, length-set)

pub held_on : (e i n w step : ℕ) (s : List ℕ) → i < e → get_or s i 0 ≡ due i n w
    → held (e - i) i n w step s ≡ held (e - (i + 1)) (i + 1) n ((w + step) % 2 ^ 32) step s
unfolding held
held_on e i n w step s h p = rw (left e i h, held) (rw (eq-eqb _ _ p) refl)

pub held_off : (e i n w step : ℕ) (s : List ℕ) → i < e → (get_or s i 0 ≡ due i n w → ⊥) → held (e - i) i n w step s ≡ false
unfolding held
held_off e i n w step s h p = rw (left e i h, held) (rw (ne_eqb _ _ p) refl)

pub held_end : (e i n w step : ℕ) (s : List ℕ) → e ≤ i → held (e - i) i n w step s ≡ true
unfolding held
held_end e i n w step s h = rw (none_left e i h, held) refl

pub ruleset holds = (held_on, held_off, held_end)
