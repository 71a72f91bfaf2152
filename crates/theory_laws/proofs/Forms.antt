-- The form of a declaration, by its head and its length: the walk's is the definition's. Assumes nothing.
use mathlib.Core.Path.{◌≡◌, refl, ap}
use mathlib.Core.Bool.{Bool, true, false}
use mathlib.Core.List.{[], ◌∷◌}
use Prim.Native.Nat.{ℕ, suc}
use native.Mathlib.Omega.{arith}
use borrow.Author.Tests.{ne_eqb}
use lib.Dec.{eqb}
use lib.ListN.{length}
use Rattle.capacity.specs.Below.horn.specs.Refusals.{form, refused}
use Rattle.capacity.specs.Below.horn.specs.Names.{Name, named, codes}
use Rattle.capacity.specs.Below.horn.specs.NestedLists.{Sexp, Sexps, []ₛ, ◌∷ₛ◌}
use Rattle.capacity.specs.Below.horn.specs.Rulebook.{Theory, DeclarationWord, sort_word, ctor_word, pred_word, rule_word, other_declaration, declaration_word, declare, one_member, count}
use Rattle.capacity.specs.Below.horn.specs.Rulebook.{two_members, three_members}
use Rattle.capacity.specs.Below.horn.proofs.Equality.{named_decides}
use Rattle.theory.specs.Below.outcomes.specs.Outcomes.{pick}
use Rattle.theory.specs.Declarations as walk
use Rattle.theory.specs.Declarations.{sized, form_named}
use Rattle.theory.specs.declared.Form.{Form}
use Rattle.theory.specs.declared.Form.TheVariants.{Sort, Constructor, Predicate, Rule, Other}
use Rattle.theory.specs.Below.facts.proofs.Comparing.{same_named}

-- What a form and a keyword say of what follows the head.
pub data Formed (name : Name) : Sexps → Form → DeclarationWord → Type 0 where
  is_sort : {x : Sexp} → length name ≡ 4 → Formed name (x ∷ₛ []ₛ) Sort sort_word
  is_constructor : {x y z : Sexp} → length name ≡ 4 → Formed name (x ∷ₛ y ∷ₛ z ∷ₛ []ₛ) Constructor ctor_word
  is_predicate : {x y : Sexp} → length name ≡ 4 → Formed name (x ∷ₛ y ∷ₛ []ₛ) Predicate pred_word
  is_rule : {x y z : Sexp} → length name ≡ 4 → Formed name (x ∷ₛ y ∷ₛ z ∷ₛ []ₛ) Rule rule_word
  is_other : {xs : Sexps} {k : DeclarationWord} → ((th : Theory) → declare th k xs ≡ refused form) → Formed name xs Other k

module _ (name : Name) (four : length name ≡ 4) where
  sort_shape : (xs : Sexps) → Formed name xs (sized (eqb (suc (count xs)) 2) Sort) sort_word
  unfolding count declare one_member
  sort_shape []ₛ = is_other (λ th. refl)
  sort_shape (x ∷ₛ []ₛ) = is_sort four
  sort_shape (x ∷ₛ y ∷ₛ xs) = rw (ne_eqb (suc (suc (suc (count xs)))) 2 (λ e. omega arith)) (is_other (λ th. refl))

  predicate_shape : (xs : Sexps) → Formed name xs (sized (eqb (suc (count xs)) 3) Predicate) pred_word
  unfolding count declare one_member two_members
  predicate_shape []ₛ = is_other (λ th. refl)
  predicate_shape (x ∷ₛ []ₛ) = is_other (λ th. refl)
  predicate_shape (x ∷ₛ y ∷ₛ []ₛ) = is_predicate four
  predicate_shape (x ∷ₛ y ∷ₛ z ∷ₛ xs) = rw (ne_eqb (suc (suc (suc (suc (count xs))))) 3 (λ e. omega arith)) (is_other (λ th. refl))

  constructor_shape : (xs : Sexps) → Formed name xs (sized (eqb (suc (count xs)) 4) Constructor) ctor_word
  unfolding count declare one_member two_members three_members
  constructor_shape []ₛ = is_other (λ th. refl)
  constructor_shape (x ∷ₛ []ₛ) = is_other (λ th. refl)
  constructor_shape (x ∷ₛ y ∷ₛ []ₛ) = is_other (λ th. refl)
  constructor_shape (x ∷ₛ y ∷ₛ z ∷ₛ []ₛ) = is_constructor four
  constructor_shape (x ∷ₛ y ∷ₛ z ∷ₛ u ∷ₛ xs) = rw (ne_eqb (suc (suc (suc (suc (suc (count xs)))))) 4 (λ e. omega arith)) (is_other (λ th. refl))

  rule_shape : (xs : Sexps) → Formed name xs (sized (eqb (suc (count xs)) 4) Rule) rule_word
  unfolding count declare one_member two_members three_members
  rule_shape []ₛ = is_other (λ th. refl)
  rule_shape (x ∷ₛ []ₛ) = is_other (λ th. refl)
  rule_shape (x ∷ₛ y ∷ₛ []ₛ) = is_other (λ th. refl)
  rule_shape (x ∷ₛ y ∷ₛ z ∷ₛ []ₛ) = is_rule four
  rule_shape (x ∷ₛ y ∷ₛ z ∷ₛ u ∷ₛ xs) = rw (ne_eqb (suc (suc (suc (suc (suc (count xs)))))) 4 (λ e. omega arith)) (is_other (λ th. refl))

-- The four heads are those of the definition.
four_bytes : (name : Name) (a b c d : ℕ) → named name (a ∷ b ∷ c ∷ d ∷ []) ≡ true → length name ≡ 4
four_bytes name a b c d e = ap length (named_decides.equal name (a ∷ b ∷ c ∷ d ∷ []) e)

by_tests : (name : Name) (xs : Sexps) (a b c d : Bool) → (a ≡ true → length name ≡ 4) → (b ≡ true → length name ≡ 4) → (c ≡ true → length name ≡ 4)
    → (d ≡ true → length name ≡ 4)
    → Formed name xs
    (pick a (λ _. sized (eqb (suc (count xs)) 2) Sort)
    (λ _. pick b (λ _. sized (eqb (suc (count xs)) 4) Constructor)
    (λ _. pick c (λ _. sized (eqb (suc (count xs)) 3) Predicate)
    (λ _. pick d (λ _. sized (eqb (suc (count xs)) 4) Rule) (λ _. Other)))))
    (elim a [
      | true ↦ sort_word
      | false ↦ elim b [ true ↦ ctor_word | false ↦ elim c [ true ↦ pred_word | false ↦ elim d [ true ↦ rule_word | false ↦ other_declaration ] ] ]
    ])
unfolding declare
by_tests name xs true b c d p q r s = sort_shape name (p refl) xs
by_tests name xs false true c d p q r s = constructor_shape name (q refl) xs
by_tests name xs false false true d p q r s = predicate_shape name (r refl) xs
by_tests name xs false false false true p q r s = rule_shape name (s refl) xs
by_tests name xs false false false false p q r s = is_other (λ th. refl)

pub formed : (name : Name) (xs : Sexps) → Formed name xs (form_named name (suc (count xs))) (declaration_word name)
unfolding form_named declaration_word codes
formed name xs =
    rw (same_named name walk.sort_word, same_named name walk.ctor_word, same_named name walk.pred_word, same_named name walk.rule_word)
    (by_tests name xs (named name (codes "sort")) (named name (codes "ctor")) (named name (codes "pred")) (named name (codes "rule"))
    (four_bytes name 0x73 0x6F 0x72 0x74) (four_bytes name 0x63 0x74 0x6F 0x72) (four_bytes name 0x70 0x72 0x65 0x64) (four_bytes name 0x72 0x75 0x6C 0x65))
