-- A test has one value.
use Prim.Native.Nat.{ℕ}
use mathlib.Core.Path.{◌≡◌}
use mathlib.Core.Bool.{Bool, true, false}
use native.Mathlib.Omega.{arith}

pub not_both {ℓ} : {C : Type ℓ} {b : Bool} → b ≡ true → b ≡ false → C
not_both p q = let z : ◌≡◌ {A = Bool} true false = cc in let w : ◌≡◌ {A = ℕ} 0 1 = cc in absurd (omega arith)
