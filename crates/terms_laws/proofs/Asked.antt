-- Whether an item may be asked for at a depth. Assumes nothing.
use Prim.Native.Nat.{ℕ, suc, ◌+◌}
use mathlib.Core.Path.{◌≡◌}
use native.Mathlib.Omega.{arith}
use borrow.Author.Tests.{le-leb, lt-leb}
use lib.Dec.{leb}
use Rattle.asking_laws.specs.Below.horn.specs.Refusals as refusals
use Rattle.asking_laws.specs.Below.horn.specs.Refusals.{Result, nesting}
use Rattle.asking_laws.specs.Below.horn.specs.NestedLists.{asked_at}
use Rattle.asking_laws.specs.Below.horn.specs.StoredTerms.{Store}
use Rattle.asking_laws.specs.Below.horn.proofs.Equality.{case}

-- What is asked for, then read.
pub asked_then : {A B : Type 0} (depth : ℕ) (ts : Store) (m : Result A) (f : A → Result B) (g : Unit {0} × Store → Result B)
    → g (tt, ts) ≡ refusals.◌>>=◌ m f
    → refusals.◌>>=◌ {A = Unit {0} × Store} (refusals.◌>>=◌ (asked_at depth) (λ a. refusals.ok (a, ts))) g
    ≡ refusals.◌>>=◌ (refusals.◌>>=◌ (asked_at depth) (λ _. m)) f
unfolding asked_at refusals.need refusals.◌>>=◌
asked_then depth ts m f g e = case (leb depth 256) (λ t. rw t e) (λ t. rw t)

pub asked_no : (depth : ℕ) → depth + 0 ≡ 257 → asked_at depth ≡ refusals.refused nesting
unfolding asked_at refusals.need
asked_no depth e = rw (lt-leb depth 256 (omega arith))

pub asked_yes : (left depth : ℕ) → depth + suc left ≡ 257 → asked_at depth ≡ refusals.ok tt
unfolding asked_at refusals.need
asked_yes left depth e = rw (le-leb depth 256 (omega arith))
