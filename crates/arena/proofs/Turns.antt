-- The turns of the walk, as the code computes them, and the start place by its test.
use Prim.Native.Nat.{ℕ, suc, ◌+◌, ◌-◌, ◌/◌, ◌%◌, ◌^◌, ◌≤◌, ◌<◌}
use mathlib.Core.Path.{◌≡◌, sym, ◌∙◌}
use mathlib.Core.Bool.{Bool, true, false}
use native.Mathlib.Omega.{arith}
use native.Mathlib.Nat.{lt_of_lt_of_le}
use borrow.Author.Tests.{ne_eqb}
use lib.Count.{count_trailing_zeros, trailing_le}
use lib.Pow.{shr_lt, pow_mono}
use Rattle.arena.specs.Probing.{probe, start_place}
use Rattle.arena.specs.declared.Probe.TheVariants.{Held, Free, Nowhere}
use Rattle.arena.proofs.Walks.{turn_none, turn_free, turn_held, turn_on}

pub place_none : (h places : ℕ) → count_trailing_zeros 32 places ≡ 0 → 0 ≡ start_place h places
unfolding start_place
place_none h places e = rw (e, start_place)

pub place_some : (h places : ℕ) → (count_trailing_zeros 32 places ≡ 0 → ⊥) → h / 2 ^ (64 - count_trailing_zeros 32 places) ≡ start_place h places
unfolding start_place
place_some h places ne = rw (ne_eqb (count_trailing_zeros 32 places) 0 ne, start_place)

pub place_fits : (h places : ℕ) → h < 2 ^ 64 → h / 2 ^ (64 - count_trailing_zeros 32 places) < 2 ^ 32
place_fits h places b =
    let t = count_trailing_zeros 32 places in
    let most = trailing_le 32 places in
    let sum : t + (64 - t) ≡ 64 = omega arith in
    lt_of_lt_of_le (shr_lt t (64 - t) (rw sum b)) (pow_mono most)

module _ (places : ℕ) (r : ℕ → ℕ) (q : ℕ → Bool) where
  pub walk_end : (c i : ℕ) → places ≤ c → probe places (places - c) r q i ≡ Nowhere
  walk_end c i h = let e : places - c ≡ 0 = omega arith in rw e (turn_none places r q i)

  -- One turn of the walk, its c-th, where place i reads v.
  module _ (c i v : ℕ) (h : c < places) (e : v ≡ r i) where
    left : places - c ≡ suc (places - (c + 1))
    left = omega arith

    pub walk_free : v ≡ 0 → probe places (places - c) r q i ≡ Free i
    walk_free z = rw left (turn_free places (places - (c + 1)) r q i (sym e ∙ z))

    module _ (n : v ≡ 0 → ⊥) where
      some : r i ≡ suc (v - 1)
      some = sym e ∙ omega (arith, n)

      pub walk_held : q (v - 1) ≡ true → probe places (places - c) r q i ≡ Held (v - 1)
      walk_held t = rw left (turn_held places (places - (c + 1)) r q i (v - 1) some t)

      pub walk_on_lem : q (v - 1) ≡ false → probe places (places - c) r q i ≡ probe places (places - (c + 1)) r q ((i + 1) % places)
      walk_on_lem t = rw left (turn_on places (places - (c + 1)) r q i (v - 1) some t)

-- The most trailing zeros that 32 bits have.
pub zeros_fit : (places : ℕ) → count_trailing_zeros 32 places ≤ 32
zeros_fit places = trailing_le 32 places

pub ruleset starting = (place_none, place_some, place_fits, zeros_fit)

pub ruleset walking = (walk_end, walk_free, walk_held, walk_on_lem)
