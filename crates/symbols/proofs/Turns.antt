-- One turn of the loop over inputs, on the side of the models.
use Prim.Native.Nat.{ℕ, suc, ◌+◌, ◌-◌, ◌<◌, ◌≤◌}
use mathlib.Core.Path.{◌≡◌}
use mathlib.Core.List.{List}
use native.Mathlib.Omega.{arith}
use Rattle.outcomes.specs.Outcomes.{ok, refused}
use Rattle.outcomes.specs.Leaving.{◌leaving◌}
use Rattle.items.specs.Items.{pushed, closing_due}
use Rattle.items.specs.declared.Walk.{Walk}
use Rattle.symbols.specs.Symbols.{sort_named, inputs}

pub inputs_on : (text counts : List ℕ) (n i : ℕ) (w : Walk) (heap : List ℕ) {a : ℕ} {q v : Walk} {heap' : List ℕ} → i < n
    → sort_named text counts heap w ≡ ok (a, q) → pushed a q heap ≡ (ok v leaving heap') → inputs (n - i) text counts w heap ≡ inputs (n - (i + 1)) text counts v heap'
unfolding inputs
inputs_on text counts n i w heap l h g = let e : n - i ≡ suc (n - (i + 1)) = omega arith in rw (e, h, g)

pub input_refused : (text counts : List ℕ) (n i : ℕ) (w : Walk) (heap : List ℕ) {m : ℕ} → i < n → sort_named text counts heap w ≡ refused m
    → inputs (n - i) text counts w heap ≡ (refused m leaving heap)
unfolding inputs
input_refused text counts n i w heap l h = let e : n - i ≡ suc (n - (i + 1)) = omega arith in rw (e, h)

pub inputs_end : (text counts : List ℕ) (n i : ℕ) (w : Walk) (heap : List ℕ) → n ≤ i → inputs (n - i) text counts w heap ≡ (closing_due text w leaving heap)
unfolding inputs
inputs_end text counts n i w heap l = let e : n - i ≡ 0 = omega arith in rw e

pub ruleset turns = (inputs_on, input_refused, inputs_end)
