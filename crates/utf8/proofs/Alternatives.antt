-- What every alternative of RFC 3629's grammar passes, as a test that antt computes, the alternative that a byte begins passes. Assumes nothing.
use mathlib.Core.Path.{◌≡◌}
use mathlib.Core.Bool.{Bool, true, ◌&&◌}
use mathlib.Core.List.{List, [], ◌∷◌}
use mathlib.Core.Option.{some}
use Prim.Native.Nat.{ℕ}
use native.Mathlib.Omega.{arith}
use lib.Dec.{T}
use Rattle.horn.specs.Utf8.{within, Sequence, sequence, started_by}
use Rattle.horn.proofs.Equality.{case}
use Rattle.utf8.proofs.Table.{and_left, and_right}

-- Whether a byte may begin an alternative.
unfoldable pub starts : Sequence → ℕ → Bool
starts (sequence r mark rs) b = within r b

module _ (test : Sequence → Bool) where
  unfoldable pub all_pass : List Sequence → Bool
  all_pass [] = true
  all_pass (s ∷ ss) = test s && all_pass ss

  pub started : (b : ℕ) (ss : List Sequence) (s : Sequence) → T (all_pass ss) → started_by b ss ≡ some s → T (test s) × (starts s b ≡ true)
  unfolding all_pass started_by starts
  started b [] s t e = let z : ◌≡◌ {A = ℕ} 0 1 = cc in absurd (omega arith)
  started b (sequence r m rs ∷ ss) s t e =
      case (within r b)
      (λ y.
      let g : some (sequence r m rs) ≡ some s = rw (y, started_by) at e in
      let k : sequence r m rs ≡ s = cc in
      (rw (← k) (and_left (test (sequence r m rs)) (all_pass ss) t), rw (← k) y))
      (λ n. started b ss s (and_right (test (sequence r m rs)) (all_pass ss) t) (rw (n, started_by) at e))
