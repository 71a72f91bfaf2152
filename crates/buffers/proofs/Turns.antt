-- One turn of filling and of testing. Assumes nothing.
use lib.ListN.{length-set}
use Rattle.std.proofs.Common.{◌≡◌, ℕ, suc, ◌+◌, ◌-◌, ◌<◌, ◌≤◌, true, false, List, get_or, set, refl, arith, eq-eqb, ne_eqb}
use Rattle.buffers.specs.Filling.{unwritten, filled, due, held}

-- One place more is left before place i than after it.
left : (e i : ℕ) → i < e → e - i ≡ suc (e - (i + 1))
left e i h = omega arith

none_left : (e i : ℕ) → e ≤ i → e - i ≡ 0
none_left e i h = omega arith

pub filled_on : (e i : ℕ) (s : List ℕ) → i < e → filled (e - i) i s ≡ filled (e - (i + 1)) (i + 1) (set s i (unwritten i))
unfolding filled
filled_on e i s h = rw (left e i h, filled) refl

pub filled_end : (e i : ℕ) (s : List ℕ) → e ≤ i → filled (e - i) i s ≡ s
unfolding filled
filled_end e i s h = rw (none_left e i h, filled) refl

pub ruleset fills = (filled_on, filled_end, length-set)

pub held_on : (e i start : ℕ) (text s : List ℕ) → i < e → get_or s i 0 ≡ due i start text
    → held (e - i) i start text s ≡ held (e - (i + 1)) (i + 1) start text s
unfolding held
held_on e i start text s h p = rw (left e i h, held) (rw (eq-eqb _ _ p) refl)

pub held_off : (e i start : ℕ) (text s : List ℕ) → i < e → (get_or s i 0 ≡ due i start text → ⊥) → held (e - i) i start text s ≡ false
unfolding held
held_off e i start text s h p = rw (left e i h, held) (rw (ne_eqb _ _ p) refl)

pub held_end : (e i start : ℕ) (text s : List ℕ) → e ≤ i → held (e - i) i start text s ≡ true
unfolding held
held_end e i start text s h = rw (none_left e i h, held) refl

pub ruleset holds = (held_on, held_off, held_end)
