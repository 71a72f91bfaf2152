-- One turn of the loop of `skip`, on the side of the models.
use Prim.Native.Nat.{ℕ, zero, suc, ◌+◌, ◌-◌, ◌<◌, ◌≤◌}
use mathlib.Core.Path.{◌≡◌, ◌∙◌}
use mathlib.Core.List.{List}
use native.Mathlib.Omega.{arith}
use borrow.Author.Tests.{lt-ltb, le-ltb}
use Rattle.outcomes.specs.Outcomes.{ok, refused}
use Rattle.words.specs.Sums.{sum32}
use Rattle.items.specs.declared.Walk.{Walk}
use Rattle.rule_names.specs.RuleNames.{passed, skipped}

pub skip_done : (fuel depth : ℕ) (text : List ℕ) (w : Walk) → depth ≤ 0 → skipped fuel depth text w ≡ ok w
unfolding skipped
skip_done zero depth text w l = rw (le-ltb 0 depth l)
skip_done (suc fuel) depth text w l = rw (le-ltb 0 depth l)

pub skip_short : (n i depth : ℕ) (text : List ℕ) (w : Walk) → n ≤ i → 0 < depth → skipped (n - i) depth text w ≡ refused 4
unfolding skipped
skip_short n i depth text w l p = let e : n - i ≡ 0 = omega arith in rw (e, lt-ltb 0 depth p)

pub skip_on : (n i depth : ℕ) (text : List ℕ) (w : Walk) {k : ℕ} {q : Walk} → i < n → 0 < depth → passed text w ≡ ok (k, q)
    → skipped (n - i) depth text w ≡ skipped (n - (i + 1)) (sum32 (depth - 1) k) text q
unfolding skipped
skip_on n i depth text w l p h = let e : n - i ≡ suc (n - (i + 1)) = omega arith in rw (e, lt-ltb 0 depth p, h)

pub skip_refused : (n i depth : ℕ) (text : List ℕ) (w : Walk) {m : ℕ} → i < n → 0 < depth → passed text w ≡ refused m
    → skipped (n - i) depth text w ≡ refused m
unfolding skipped
skip_refused n i depth text w l p h = let e : n - i ≡ suc (n - (i + 1)) = omega arith in rw (e, lt-ltb 0 depth p, h)

pub skip_out : (n i depth : ℕ) (text : List ℕ) (w : Walk) {k : ℕ} {q : Walk} → i < n → 0 < depth → passed text w ≡ ok (k, q) → sum32 (depth - 1) k ≡ 0
    → skipped (n - i) depth text w ≡ ok q
skip_out n i depth text w {k} {q} l p h z = skip_on n i depth text w l p h ∙ skip_done (n - (i + 1)) (sum32 (depth - 1) k) text q (omega arith)

pub ruleset turns = (skip_out, skip_short, skip_on, skip_refused)
