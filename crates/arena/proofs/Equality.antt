-- What stands at a place of a store.
use Prim.Native.Nat.{ℕ, zero, suc, ◌<◌}
use mathlib.Core.Path.{◌≡◌, refl, sym, ap, ◌∙◌}
use mathlib.Core.Bool.{Bool, true, false}
use mathlib.Core.List.{List, [], ◌∷◌}
use native.Mathlib.Omega.{arith}
use native.Mathlib.Nat.{le_of_suc-le-suc}
use lib.ListN.{length, get_or}
use Rattle.facts.specs.Below.horn.specs.Names.{some_of}
use Rattle.facts.specs.Below.horn.specs.StoredTerms.{Term, same_term, holds}
use Rattle.facts.specs.Below.horn.proofs.Equality.{same_term_decides}
use Rattle.arena.proofs.Cases.{not_both}

-- A term is held exactly when it stands at some place of the store.
pub held_place : (t d : Term) (ts : List Term) → holds ts t ≡ true → (k : ℕ) × (k < length ts) × (get_or ts k d ≡ t)
unfolding holds some_of
held_place t d [] e = not_both e refl
held_place t d (u ∷ ts) e = go (same_term t u) refl e (held_place t d ts)
  where
    go : (b : Bool) → same_term t u ≡ b → elim b [ true ↦ true | false ↦ some_of (same_term t) ts ] ≡ true →
        (some_of (same_term t) ts ≡ true → (k : ℕ) × (k < length ts) × (get_or ts k d ≡ t)) →
        (k : ℕ) × (k < length (u ∷ ts)) × (get_or (u ∷ ts) k d ≡ t)
    go true p e ih = (0, omega arith, sym (same_term_decides.equal t u p))
    go false p e ih = let r = ih e in (suc r.0, omega arith, r.2)

pub place_held : (t d : Term) (ts : List Term) (k : ℕ) → k < length ts → get_or ts k d ≡ t → holds ts t ≡ true
unfolding holds some_of
place_held t d [] k h e = absurd (omega arith)
place_held t d (u ∷ ts) zero h e = rw (ap (same_term t) e ∙ same_term_decides.same t, some_of)
place_held t d (u ∷ ts) (suc k) h e = go (same_term t u) refl (place_held t d ts k (le_of_suc-le-suc h) e)
  where
    go : (b : Bool) → same_term t u ≡ b → some_of (same_term t) ts ≡ true → elim b [ true ↦ true | false ↦ some_of (same_term t) ts ] ≡ true
    go true p ih = refl
    go false p ih = ih
