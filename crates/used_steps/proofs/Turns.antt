-- One turn of each loop, on the side of the models. Assumes nothing.
use Prim.Native.Nat.{ℕ, zero, suc, ◌-◌, ◌<◌, ◌≤◌}
use mathlib.Core.Path.{◌≡◌, refl}
use mathlib.Core.List.{List}
use native.Mathlib.Omega.{arith}
use borrow.Author.Tests.{eq-eqb, ne_eqb}
use lib.ListN.{get_or, set}
use Rattle.words.specs.Sums.{sum32}
use Rattle.used_steps.specs.Marks.{marked_by, leaned, counted}

pub marked_on : (f : ℕ → ℕ) (n : ℕ) (marks : List ℕ) → 0 < n → marked_by f n marks ≡ marked_by f (n - 1) (set marks (f (n - 1)) 1)
unfolding marked_by
marked_on f zero marks l = absurd (omega arith)
marked_on f (suc n) marks l = let e : suc n - 1 ≡ n = omega arith in rw e

pub marked_end : (f : ℕ → ℕ) (n : ℕ) (marks : List ℕ) → n ≤ 0 → marked_by f n marks ≡ marks
unfolding marked_by
marked_end f zero marks l = refl
marked_end f (suc n) marks l = absurd (omega arith)

pub counted_on : (n : ℕ) (certificate table : List ℕ) (used : ℕ) (areas : List ℕ × List ℕ) → 0 < n → (get_or areas.1 (n - 1) 0 ≡ 0 → ⊥)
    → counted n certificate table used areas ≡ counted (n - 1) certificate table (sum32 used 1) (leaned certificate table (n - 1) areas)
unfolding counted
counted_on zero certificate table used areas l d = absurd (omega arith)
counted_on (suc n) certificate table used areas l d =
    let e : suc n - 1 ≡ n = omega arith in
    rw e (let d' : get_or areas.1 n 0 ≡ 0 → ⊥ = rw e at d in rw (ne_eqb _ _ d', counted))

pub counted_past : (n : ℕ) (certificate table : List ℕ) (used : ℕ) (areas : List ℕ × List ℕ) → 0 < n → get_or areas.1 (n - 1) 0 ≡ 0
    → counted n certificate table used areas ≡ counted (n - 1) certificate table used areas
unfolding counted
counted_past zero certificate table used areas l d = absurd (omega arith)
counted_past (suc n) certificate table used areas l d =
    let e : suc n - 1 ≡ n = omega arith in
    rw e (let d' : get_or areas.1 n 0 ≡ 0 = rw e at d in rw (eq-eqb _ _ d', counted))

pub counted_end : (n : ℕ) (certificate table : List ℕ) (used : ℕ) (areas : List ℕ × List ℕ) → n ≤ 0
    → counted n certificate table used areas ≡ (used, areas.0, areas.1)
unfolding counted
counted_end zero certificate table used areas l = refl
counted_end (suc n) certificate table used areas l = absurd (omega arith)

pub ruleset turns = (marked_on, marked_end, counted_on, counted_past, counted_end)
