-- One turn of the loops over the premises and over the bindings, on the side of the models. Assumes nothing.
use Prim.Native.Nat.{ℕ, zero, suc, ◌+◌, ◌-◌, ◌<◌, ◌≤◌}
use mathlib.Core.Path.{◌≡◌, refl}
use mathlib.Core.List.{List}
use mathlib.Core.Option.{none, some}
use native.Mathlib.Omega.{arith}
use borrow.Author.Tests.{lt-ltb, le-ltb}
use lib.ListN.{get_or, set}
use Rattle.outcomes.specs.Outcomes.{ok, refused}
use Rattle.outcomes.specs.Leaving.{◌leaving◌}
use Rattle.matching.specs.Matching.{◌keeping◌, binding_at, matched}
use Rattle.concluding.specs.Concluding.{levels, step_judgment, premises_matched, unbound}

module _ (nodes places : ℕ) (store table stack : List ℕ) (steps n : ℕ) (o : ℕ) (heap : List ℕ) where
  pub premises_first : premises_matched nodes places store table stack steps n 0 o heap ≡ premises_matched nodes places store table stack steps (n - 0) 0 o heap
  premises_first = let e : n - 0 ≡ n = omega arith in rw e

  pub premises_on : (k : ℕ) {o' : ℕ} {heap' : List ℕ} → k < n → get_or stack k 0 < steps
      → matched nodes places store levels o (step_judgment table (get_or stack k 0)) heap ≡ (some o' keeping heap')
      → premises_matched nodes places store table stack steps (n - k) k o heap ≡ premises_matched nodes places store table stack steps (n - (k + 1))
      (k + 1) o' heap'
  unfolding premises_matched
  premises_on k l b h = let e : n - k ≡ suc (n - (k + 1)) = omega arith in rw (e, lt-ltb _ _ b, h)

  pub premise_differs : (k : ℕ) {heap' : List ℕ} → k < n → get_or stack k 0 < steps
      → matched nodes places store levels o (step_judgment table (get_or stack k 0)) heap ≡ (none keeping heap')
      → premises_matched nodes places store table stack steps (n - k) k o heap ≡ (refused 25 leaving heap')
  unfolding premises_matched
  premise_differs k l b h = let e : n - k ≡ suc (n - (k + 1)) = omega arith in rw (e, lt-ltb _ _ b, h)

  pub no_step : (k : ℕ) → k < n → steps ≤ get_or stack k 0
      → premises_matched nodes places store table stack steps (n - k) k o heap ≡ (refused 24 leaving heap)
  unfolding premises_matched
  no_step k l b = let e : n - k ≡ suc (n - (k + 1)) = omega arith in rw (e, le-ltb _ _ b)

  pub premises_end : (k : ℕ) → n ≤ k → premises_matched nodes places store table stack steps (n - k) k o heap ≡ (ok o leaving heap)
  unfolding premises_matched
  premises_end k l = let e : n - k ≡ 0 = omega arith in rw e

pub unbound_on : (n : ℕ) (heap : List ℕ) → 0 < n → unbound n heap ≡ unbound (n - 1) (set heap (binding_at (n - 1)) 0)
unfolding unbound
unbound_on zero heap l = absurd (omega arith)
unbound_on (suc n) heap l = let e : suc n - 1 ≡ n = omega arith in rw e

pub unbound_end : (n : ℕ) (heap : List ℕ) → n ≤ 0 → unbound n heap ≡ heap
unfolding unbound
unbound_end zero heap l = refl
unbound_end (suc n) heap l = absurd (omega arith)

pub ruleset premising = (premises_first, premises_on, premise_differs, no_step, premises_end)

pub ruleset unbinding = (unbound_on, unbound_end)
