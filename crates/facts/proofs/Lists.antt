-- Lists by places: one element more, and what stands nowhere. Assumes nothing.
use Prim.Native.Nat.{ℕ, zero, suc, ◌+◌, ◌≤◌, ◌<◌}
use mathlib.Core.Path.{◌≡◌, refl}
use mathlib.Core.List.{List, [], ◌∷◌, ◌++◌}
use mathlib.Core.Option.{none, some}
use native.Mathlib.Omega.{arith}
use lib.ListN.{length, get_elem?, length-append}

pub one_more : {A : Type 0} (xs : List A) (x : A) → length (xs ++ (x ∷ [])) ≡ length xs + 1
one_more xs x = length-append xs (x ∷ [])

pub last_is : {A : Type 0} (xs : List A) (x : A) (n : ℕ) → n ≡ length xs → get_elem? (xs ++ (x ∷ [])) n ≡ some x
last_is [] x zero h = refl
last_is [] x (suc n) h = absurd (omega arith)
last_is (y ∷ xs) x zero h = absurd (omega arith)
last_is (y ∷ xs) x (suc n) h = last_is xs x n (omega arith)

pub before_last : {A : Type 0} (xs : List A) (x : A) (n : ℕ) → n < length xs → get_elem? (xs ++ (x ∷ [])) n ≡ get_elem? xs n
before_last [] x n h = absurd (omega arith)
before_last (y ∷ xs) x zero h = refl
before_last (y ∷ xs) x (suc n) h = before_last xs x n (omega arith)

pub beyond : {A : Type 0} (xs : List A) (n : ℕ) → length xs ≤ n → get_elem? xs n ≡ none
beyond [] n h = refl
beyond (x ∷ xs) zero h = absurd (omega arith)
beyond (x ∷ xs) (suc n) h = beyond xs n (omega arith)
