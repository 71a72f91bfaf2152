-- Something holds of a result's value, if it is no refusal; this is carried through the ways in which the definition is put together.
use mathlib.Core.Path.{◌≡◌, subst}
use mathlib.Core.Bool.{Bool, true, false}
use Rattle.horn.specs.Refusals.{Refusal, Result, ok, refused, ◌>>=◌}
use Rattle.horn.proofs.Inversion.{not_ok, ok_equal}

pub data Post {A : Type 0} (Q : A → Type 0) : Result A → Type 0 where
  post_ok : {a : A} → Q a → Post Q (ok a)
  post_refused : {r : Refusal} → Post Q (refused r)

pub post_at : {A : Type 0} {Q : A → Type 0} {m : Result A} {a : A} → m ≡ ok a → Post Q m → Q a
post_at {Q} e (post_ok q) = subst Q (ok_equal e) q
post_at e post_refused = not_ok e

pub post_bind : {A B : Type 0} {P : A → Type 0} {Q : B → Type 0} {m : Result A} (f : A → Result B) → Post P m
    → ((a : A) → P a → Post Q (f a)) → Post Q (m >>= f)
unfolding ◌>>=◌
post_bind f (post_ok {a} h) k = k a h
post_bind f post_refused k = post_refused

-- The same where nothing is known of the first part.
pub post_after : {A B : Type 0} {Q : B → Type 0} (m : Result A) (f : A → Result B) → ((a : A) → Post Q (f a)) → Post Q (m >>= f)
unfolding ◌>>=◌
post_after (ok a) f k = k a
post_after (refused r) f k = post_refused

-- What holds of both branches of a choice holds of the choice.
pub either {ℓ κ} : {A : Type ℓ} (P : A → Type κ) (b : Bool) {x y : A} → P x → P y → P (elim b [ true ↦ x | false ↦ y ])
either P true p q = p
either P false p q = q
