-- Of two lists without repetition, the one whose members are among those of the other is no longer, and no larger in words. `distinct`
-- gives a list without repetition that has the same members.
use Prim.Native.Nat.{ℕ, ◌+◌, ◌≤◌}
use native.Mathlib.Omega.{arith}
use mathlib.Core.Path.{◌≡◌, refl, sym, ap, subst, ◌∙◌}
use mathlib.Core.Bool.{true, false}
use mathlib.Core.List.{List, [], ◌∷◌, ◌++◌, Memᴰ}
use lib.ListN.{length}
use Rattle.horn.specs.Names.{some_of}
use Rattle.horn.specs.StoredTerms.{Term, node_size, size, same_term}
use Rattle.horn.specs.Layout.{distinct}
use Rattle.horn.proofs.Equality.{case, same_term_decides, some_of_true, some_of_false, differ, in_cons, in_or_last}

abbrev pub ◌⊆◌ : {A : Type 0} → List A → List A → Type 0
◌⊆◌ {A} xs ys = (t : A) → Memᴰ t xs → Memᴰ t ys

infixl 20 ◌⊆◌
-- No entry twice.
abbrev pub Distinct : {A : Type 0} → List A → Type 0
Distinct [] = Unit
Distinct (x ∷ xs) = (Memᴰ x xs → ⊥) × Distinct xs

pub distinct_more : {A : Type 0} (xs : List A) (t : A) → Distinct xs → (Memᴰ t xs → ⊥) → Distinct (xs ++ (t ∷ []))
distinct_more [] t d n = (λ m. elim m [ ], tt)
distinct_more (x ∷ xs) t d n = (
  λ m. in_or_last xs m d.0 (λ e. n (Memᴰ.head (sym e))),
  distinct_more xs t d.1 (λ m. n (Memᴰ.tail m)),
)

-- A sum over a list, by what each entry counts.
module _ {A : Type 0} (w : A → ℕ) where
  total : List A → ℕ
  total [] = 0
  total (x ∷ xs) = w x + total xs

  rest : {t : A} {xs : List A} → Memᴰ t xs → List A
  rest (Memᴰ.head {x} {xs} e) = xs
  rest (Memᴰ.tail {x} {xs} m) = x ∷ rest m

  rest-total : {t : A} {xs : List A} (m : Memᴰ t xs) → total xs ≡ w t + total (rest m)
  unfolding total rest
  rest-total (Memᴰ.head {x} {xs} e) = ap (λ u. w u + total xs) (sym e)
  rest-total (Memᴰ.tail {x} {xs} m) = let h = rest-total m in omega arith

  rest_keeps : {t u : A} {xs : List A} (m : Memᴰ t xs) → (u ≡ t → ⊥) → Memᴰ u xs → Memᴰ u (rest m)
  unfolding rest
  rest_keeps (Memᴰ.head e) n (Memᴰ.head f) = absurd (n (f ∙ sym e))
  rest_keeps (Memᴰ.head e) n (Memᴰ.tail k) = k
  rest_keeps (Memᴰ.tail m) n (Memᴰ.head f) = Memᴰ.head f
  rest_keeps (Memᴰ.tail m) n (Memᴰ.tail k) = Memᴰ.tail (rest_keeps m n k)

  total_below : (xs ys : List A) → Distinct xs → xs ⊆ ys → total xs ≤ total ys
  unfolding total
  total_below [] ys d s = omega arith
  total_below (x ∷ xs) ys d s =
      let m = s x (Memᴰ.head refl) in
      let h = rest-total m in
      let below = total_below xs (rest m) d.1
      (λ t k. rest_keeps m (λ e. d.0 (subst (λ z. Memᴰ z xs) e k)) (s t (Memᴰ.tail k))) in
      omega arith

one : {A : Type 0} → A → ℕ
one t = 1

length-total : {A : Type 0} (xs : List A) → length xs ≡ total one xs
unfolding total one
length-total [] = refl
length-total (x ∷ xs) = let h = length-total xs in omega arith

size-total : (xs : List Term) → size xs ≡ total node_size xs
unfolding total size
size-total [] = refl
size-total (x ∷ xs) = ap (node_size x +◌) (size-total xs)

pub length_below : {A : Type 0} (xs ys : List A) → Distinct xs → xs ⊆ ys → length xs ≤ length ys
length_below xs ys d s = rw (length-total xs, length-total ys) (total_below one xs ys d s)

pub size_below : (xs ys : List Term) → Distinct xs → xs ⊆ ys → size xs ≤ size ys
size_below xs ys d s = rw (size-total xs, size-total ys) (total_below node_size xs ys d s)

pub length_same : {A : Type 0} (xs ys : List A) → Distinct xs → Distinct ys → xs ⊆ ys → ys ⊆ xs → length xs ≡ length ys
length_same xs ys d e s t = let h = length_below xs ys d s in let k = length_below ys xs e t in omega arith

-- What the test for a member says.
pub held_member : (t : Term) (xs : List Term) → some_of (same_term t) xs ≡ true → Memᴰ t xs
held_member t xs e =
    let (u, m, h) = some_of_true (same_term t) xs e in
    subst (λ z. Memᴰ z xs) (sym (same_term_decides.equal t u h)) m

pub not_held : (t : Term) (xs : List Term) → some_of (same_term t) xs ≡ false → Memᴰ t xs → ⊥
not_held t xs e m = differ same_term_decides t t (some_of_false (same_term t) xs e t m) refl

-- What `distinct` gives.
pub from_distinct : (xs : List Term) → distinct xs ⊆ xs
unfolding distinct
from_distinct [] t m = m
from_distinct (x ∷ xs) t m =
    case (some_of (same_term x) xs)
    (λ e. Memᴰ.tail (from_distinct xs t (rw (e, distinct) at m)))
    (λ e. in_cons (from_distinct xs t) (rw (e, distinct) at m))

pub to_distinct : (xs : List Term) → xs ⊆ distinct xs
unfolding distinct
to_distinct (x ∷ xs) t (Memᴰ.head h) =
    case (some_of (same_term x) xs)
    (λ e. rw (e, distinct) (subst (λ z. Memᴰ z (distinct xs)) (sym h) (to_distinct xs x (held_member x xs e))))
    (λ e. rw (e, distinct) (Memᴰ.head h))
to_distinct [] t x' = elim x' [ ]
to_distinct (x ∷ xs) t (Memᴰ.tail m) =
    case (some_of (same_term x) xs)
    (λ e. rw (e, distinct) (to_distinct xs t m))
    (λ e. rw (e, distinct) (Memᴰ.tail (to_distinct xs t m)))

pub distinct-distinct : (xs : List Term) → Distinct (distinct xs)
unfolding distinct
distinct-distinct [] = tt
distinct-distinct (x ∷ xs) =
    case (some_of (same_term x) xs)
    (λ e. rw (e, distinct) (distinct-distinct xs))
    (λ e. rw (e, distinct) (λ m. not_held x xs e (from_distinct xs x m), distinct-distinct xs))
