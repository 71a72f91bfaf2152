-- What an answer that is no refusal says of the parts that it came from. Each theorem hands what it has found to a continuation, so that
-- a proof reads downwards as the definition does. Names with ᵣ are of results, without the store.
use Prim.Native.Nat.{ℕ}
use mathlib.Core.Path.{◌≡◌, refl, ap, ◌∙◌}
use mathlib.Core.Bool.{Bool, true, false, true≢false}
use mathlib.Core.Option.{Option, none, some}
use Rattle.horn.specs.Refusals.{Refusal, Result, ok, refused, need, found, ◌>>=◌ as ◌>>=ᵣ◌}
use Rattle.horn.specs.NestedLists.{absent, Sexp, Sexps, []ₛ, ◌∷ₛ◌}
use Rattle.horn.specs.Rulebook.{one_member, two_members, three_members}
use Rattle.horn.specs.StoredTerms.{Store}
use Rattle.horn.specs.Checker.{Reading, ◌>>=◌, give, lift}

-- No refusal is an answer.
pub not_ok {ℓ} : {A : Type 0} {C : Type ℓ} {r : Refusal} {a : A} → refused r ≡ ok a → C
not_ok {A} {a} e = let z : ◌≡◌ {A = Bool} true false = cc in absurd (true≢false z)

pub none-some {ℓ} : {A : Type 0} {C : Type ℓ} {a : A} → none ≡ some a → C
none-some e = let z : ◌≡◌ {A = Bool} true false = cc in absurd (true≢false z)

pub ok_equal : {A : Type 0} {a b : A} → ok a ≡ ok b → a ≡ b
ok_equal e = cc

pub some_equal : {A : Type 0} {a b : A} → some a ≡ some b → a ≡ b
some_equal e = cc

-- One result after another.
pub afterᵣ {ℓ} : {A B : Type 0} {C : Type ℓ} (m : Result A) {f : A → Result B} {b : B} → (m >>=ᵣ f) ≡ ok b
    → ((a : A) → m ≡ ok a → f a ≡ ok b → C)
    → C
unfolding ◌>>=ᵣ◌
afterᵣ (ok a) e k = k a refl e
afterᵣ (refused r) e k = not_ok e

pub onᵣ : {A B : Type 0} {m : Result A} {a : A} (f : A → Result B) → m ≡ ok a → (m >>=ᵣ f) ≡ f a
unfolding ◌>>=ᵣ◌
onᵣ f e = rw e

-- One reading after another.
pub after {ℓ} : {A B : Type 0} {C : Type ℓ} (m : Reading A) {f : A → Reading B} {s s'' : Store} {b : B}
    → (m >>= f) s ≡ ok (b, s'')
    → ((a : A) (s' : Store) → m s ≡ ok (a, s') → f a s' ≡ ok (b, s'') → C)
    → C
unfolding ◌>>=◌
after m {s} e k = afterᵣ (m s) e (λ p e₁ e₂. k p.0 p.1 e₁ e₂)

pub on : {A B : Type 0} (m : Reading A) {s' : Store} {a : A} (f : A → Reading B) (s : Store) → m s ≡ ok (a, s')
    → (m >>= f) s ≡ f a s'
unfolding ◌>>=◌
on m f s e = onᵣ (λ p. f p.0 p.1) e

-- A value that is given without reading.
pub given_is {ℓ} : {A : Type 0} {C : Type ℓ} {a b : A} {s s' : Store} → give a s ≡ ok (b, s') → (a ≡ b → s ≡ s' → C) → C
unfolding give
given_is e k = let p = ok_equal e in k (ap (λ q. q.0) p) (ap (λ q. q.1) p)

-- A result that does not touch the store.
pub lifted {ℓ} : {A : Type 0} {C : Type ℓ} (r : Result A) {s s' : Store} {a : A} → lift r s ≡ ok (a, s')
    → (r ≡ ok a → s ≡ s' → C)
    → C
unfolding lift
lifted r e k =
    afterᵣ r e (λ a e₁ e₂. let p = ok_equal e₂ in k (e₁ ∙ ap ok (ap (λ q. q.0) p)) (ap (λ q. q.1) p))

pub lift_on : {A : Type 0} {r : Result A} {a : A} (s : Store) → r ≡ ok a → lift r s ≡ ok (a, s)
unfolding lift
lift_on s e = onᵣ (λ b. ok (b, s)) e

-- A test that was passed, and a search that has found something.
pub needed {ℓ} : {C : Type ℓ} (b : Bool) (r : Refusal) {u : Unit {0}} → need b r ≡ ok u → (b ≡ true → C) → C
unfolding need
needed true r e k = k refl
needed false r e k = not_ok e

pub need_on : {b : Bool} (r : Refusal) → b ≡ true → need b r ≡ ok tt
unfolding need
need_on r e = rw e

pub was_found_lem {ℓ} : {A : Type 0} {C : Type ℓ} (o : Option A) (r : Refusal) {a : A} → found o r ≡ ok a → (o ≡ some a → C) → C
unfolding found
was_found_lem (some a) r e k = k (ap some (ok_equal e))
was_found_lem none r e k = not_ok e

pub found_on : {A : Type 0} {o : Option A} {a : A} (r : Refusal) → o ≡ some a → found o r ≡ ok a
unfolding found
found_on r e = rw e

-- A result, test or search that does not touch the store, and what follows it in the same store.
pub afterₗ {ℓ} : {A B : Type 0} {C : Type ℓ} (r : Result A) (f : A → Reading B) (s : Store) {s' : Store} {b : B}
    → (lift r >>= f) s ≡ ok (b, s')
    → ((a : A) → r ≡ ok a → f a s ≡ ok (b, s') → C)
    → C
afterₗ r f s e k = after (lift r) e λ a s₁ e₁ e₂. lifted r e₁ λ p q. k a p (ap (f a) q ∙ e₂)

pub after_need {ℓ} : {B : Type 0} {C : Type ℓ} (b : Bool) (r : Refusal) (f : Unit {0} → Reading B) (s : Store) {s' : Store} {z : B}
    → (lift (need b r) >>= f) s ≡ ok (z, s')
    → (b ≡ true → f tt s ≡ ok (z, s') → C)
    → C
after_need b r f s e k = afterₗ (need b r) f s e λ u p e₁. needed b r p λ q. k q e₁

pub after_found {ℓ} : {A B : Type 0} {C : Type ℓ} (o : Option A) (r : Refusal) (f : A → Reading B) (s : Store) {s' : Store} {z : B}
    → (lift (found o r) >>= f) s ≡ ok (z, s')
    → ((a : A) → o ≡ some a → f a s ≡ ok (z, s') → C)
    → C
after_found o r f s e k = afterₗ (found o r) f s e λ a p e₁. was_found_lem o r p λ q. k a q e₁

-- The same without a store.
pub after_needᵣ {ℓ} : {B : Type 0} {C : Type ℓ} (b : Bool) (r : Refusal) (f : Unit {0} → Result B) {z : B}
    → (need b r >>=ᵣ f) ≡ ok z
    → (b ≡ true → f tt ≡ ok z → C)
    → C
after_needᵣ b r f e k = afterᵣ (need b r) e λ u p e₁. needed b r p λ q. k q e₁

pub after_foundᵣ {ℓ} : {A B : Type 0} {C : Type ℓ} (o : Option A) (r : Refusal) (f : A → Result B) {z : B}
    → (found o r >>=ᵣ f) ≡ ok z
    → ((a : A) → o ≡ some a → f a ≡ ok z → C)
    → C
after_foundᵣ o r f e k = afterᵣ (found o r) e λ a p e₁. was_found_lem o r p λ q. k a q e₁

-- Where an item is absent, or something is refused, there is no answer.
pub absent_not {ℓ} : {A : Type 0} {C : Type ℓ} (depth : ℕ) (r : Refusal) {a : A} → absent depth r ≡ ok a → C
unfolding absent
absent_not depth r e = afterᵣ _ e λ u e₁ e₂. not_ok e₂

pub lift-absent {ℓ} : {A : Type 0} {C : Type ℓ} (depth : ℕ) (r : Refusal) (s : Store) {s' : Store} {a : A}
    → lift (absent depth r) s ≡ ok (a, s')
    → C
lift-absent depth r s e = lifted _ e λ h q. absent_not depth r h

pub lift-refused {ℓ} : {A : Type 0} {C : Type ℓ} (r : Refusal) (s : Store) {s' : Store} {a : A}
    → lift (refused r) s ≡ ok (a, s')
    → C
lift-refused r s e = lifted _ e λ h q. not_ok h

-- The two cases of an option.
pub case_option {ℓ} : {A : Type 0} {C : Type ℓ} (o : Option A) → (o ≡ none → C) → ((a : A) → o ≡ some a → C) → C
case_option none x y = x refl
case_option (some a) x y = y a refl

pub chosen_option {ℓ} : {A B : Type 0} {C : Type ℓ} (o : Option A) {x : B} {y : A → B} {z : B} → (elim o [ none ↦ x | some a ↦ y a ]) ≡ z
    → (o ≡ none → x ≡ z → C)
    → ((a : A) → o ≡ some a → y a ≡ z → C)
    → C
chosen_option none e f g = f refl e
chosen_option (some a) e f g = g a refl e

-- A form with one, two or three members after its head.
pub after_one {ℓ} : {A : Type 0} {C : Type ℓ} (xs : Sexps) (f : Sexp → Result A) {a : A} → one_member xs f ≡ ok a
    → ((x : Sexp) → xs ≡ x ∷ₛ []ₛ → f x ≡ ok a → C)
    → C
unfolding one_member
after_one []ₛ f e k = not_ok e
after_one (x ∷ₛ []ₛ) f e k = k x refl e
after_one (x ∷ₛ y ∷ₛ xs) f e k = not_ok e

pub after_two {ℓ} : {A : Type 0} {C : Type ℓ} (xs : Sexps) (f : Sexp → Sexp → Result A) {a : A} → two_members xs f ≡ ok a
    → ((x y : Sexp) → xs ≡ x ∷ₛ y ∷ₛ []ₛ → f x y ≡ ok a → C)
    → C
unfolding two_members
after_two []ₛ f e k = not_ok e
after_two (x ∷ₛ xs) f e k = after_one xs (f x) e λ y p e₁. k x y (ap (λ ys. x ∷ₛ ys) p) e₁

pub after_three {ℓ} : {A : Type 0} {C : Type ℓ} (xs : Sexps) (f : Sexp → Sexp → Sexp → Result A) {a : A}
    → three_members xs f ≡ ok a
    → ((x y z : Sexp) → xs ≡ x ∷ₛ y ∷ₛ z ∷ₛ []ₛ → f x y z ≡ ok a → C)
    → C
unfolding three_members
after_three []ₛ f e k = not_ok e
after_three (x ∷ₛ xs) f e k = after_two xs (f x) e λ y z p e₁. k x y z (ap (λ ys. x ∷ₛ ys) p) e₁
