-- The index: places that hold 0 or a node's number plus 1, walked upward from a start place, from last to first.
use Rattle.std.specs.Prelude.{ℕ, zero, suc, ◌+◌, ◌-◌, ◌/◌, ◌%◌, ◌^◌, Bool, true, false, eqb}
use Rattle.std.specs.Int.Count.{count_trailing_zeros}
use Rattle.arena.specs.declared.Probe.{Probe}
use Rattle.arena.specs.declared.Probe.TheVariants.{Held, Free, Nowhere}

-- "The walk starts at h shifted right by 64 - 12, 12 being the count of trailing zeros of 4,096": of any length of the index.
unfoldable pub start_place : ℕ → ℕ → ℕ
start_place h places =
    elim (eqb (count_trailing_zeros 32 places) 0) [ true ↦ 0 | false ↦ h / 2 ^ (64 - count_trailing_zeros 32 places) ]

-- Where the walk from place i on ends, in at most so many turns: at the node that is asked for, at a free place, or nowhere. A place is free
-- where it reads 0; else it holds a node, and the walk goes on unless that is the one.
unfoldable pub probe : ℕ → ℕ → (ℕ → ℕ) → (ℕ → Bool) → ℕ → Probe
probe places zero read asked i = Nowhere
probe places (suc fuel) read asked i =
    elim (read i) [
      | zero ↦ Free i
      | suc v ↦ elim (asked v) [ true ↦ Held v | false ↦ probe places fuel read asked ((i + 1) % places) ]
    ]
