-- The variables of a rule have different names, so that a name and a number say the same. Assumes nothing.
use mathlib.Core.Path.{◌≡◌, refl, ap, sym, subst, ◌∙◌}
use mathlib.Core.List.{List, ◌∷◌}
use mathlib.Core.Option.{none, some}
use Prim.Native.Nat.{ℕ, suc}
use Rattle.names.specs.Below.horn.specs.Names.{Name, first}
use Rattle.names.specs.Below.horn.specs.Rulebook.{Variable, variable, is_variable}
use Rattle.names.specs.Below.horn.proofs.Equality.{named_decides, decides_false}
use Rattle.names.specs.Below.horn.proofs.Inversion.{none-some}
use Rattle.names.specs.Below.horn.proofs.SoundnessWords.{Apart, name_apart}
use Rattle.names.proofs.Holds.{by_name}
use Rattle.theory_laws.specs.Representation.{Nth, here, there}

module _ (key name s : Name) (vs : List Variable) where
  first_here : key ≡ name → first (is_variable key) (variable name s ∷ vs) ≡ some (variable name s)
  unfolding first is_variable
  first_here e = rw (e, named_decides.same name, first)

  first_on : (key ≡ name → ⊥) → first (is_variable key) (variable name s ∷ vs) ≡ first (is_variable key) vs
  unfolding first is_variable
  first_on n = rw (decides_false named_decides key name n, first)

-- A name that a variable has is found.
nth_found : {vs : List Variable} {v : ℕ} {key : Name} → Nth vs v key → first (is_variable key) vs ≡ none → ⊥
nth_found (here {name} {s} {vs}) e = none-some (sym e ∙ first_here name name s vs refl)
nth_found {key} (there {x = variable name s} {vs} n) e =
    by_name key name
    (λ q. none-some (sym e ∙ first_here key name s vs q))
    (λ q. nth_found n (sym (first_on key name s vs q) ∙ e))

nth_same : {vs : List Variable} {v w : ℕ} {m n : Name} → Apart vs → Nth vs v m → Nth vs w n → m ≡ n → v ≡ w
nth_same a here here e = refl
nth_same (name_apart f a) (here {name} {s} {vs}) (there {v = v} n) e = absurd (nth_found (subst (λ (q : Name). Nth vs v q) (sym e) n) f)
nth_same (name_apart f a) (there {vs = vs} {v = v} n) here e = absurd (nth_found (subst (λ (q : Name). Nth vs v q) e n) f)
nth_same (name_apart f a) (there n) (there m) e = ap suc (nth_same a n m e)

-- One name, one number.
pub nth_one : {vs : List Variable} {v w : ℕ} {key : Name} → Apart vs → Nth vs v key → Nth vs w key → v ≡ w
nth_one a n m = nth_same a n m refl

-- One number, one name.
pub nth_name : {vs : List Variable} {v : ℕ} {m n : Name} → Nth vs v m → Nth vs v n → m ≡ n
nth_name here here = refl
nth_name (there x) (there y) = nth_name x y
