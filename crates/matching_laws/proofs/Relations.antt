-- What it means that words hold the terms, the bindings of a step, its references and the steps. Assumes nothing.
use mathlib.Core.Path.{◌≡◌}
use mathlib.Core.List.{List, [], ◌∷◌}
use mathlib.Core.Option.{Option, none, some}
use Prim.Native.Nat.{ℕ, zero, suc, ◌+◌, ◌≤◌, ◌<◌}
use lib.ListN.{length, get_or, get_elem?}
use Rattle.numerals.specs.Below.horn.specs.Names.{Name}
use Rattle.numerals.specs.Below.horn.specs.Rulebook.{Symbol, inputs, Variable, Pattern, var, app, Patterns, []ₚ, ◌∷ₚ◌, Theory}
use Rattle.numerals.specs.Below.horn.specs.StoredTerms.{Term, Store}
use Rattle.numerals.specs.Below.horn.specs.Matching.{Bind, lookup, Step, judgment_of}
use Rattle.concluding.specs.Below.theory_laws.specs.Representation.{Entries, Nth}
use Rattle.nodes.specs.Below.theory_reading.proofs.Stored.{Means}
use Rattle.concluding.specs.Below.matching.specs.Matching.{binding_of}
use Rattle.concluding.specs.Concluding.{step_judgment}

-- A pattern has, at each of its nodes, as many arguments as the symbol has inputs.
unfoldable pub width_of : Patterns → ℕ
width_of []ₚ = zero
width_of (p ∷ₚ ps) = suc (width_of ps)

mutual
  pub data Full : Pattern → Type 0 where
    full_variable : {name : Name} → Full (var name)
    full_symbol : {c : Symbol} {ps : Patterns} → width_of ps ≡ length (inputs c) → Fulls ps → Full (app c ps)

  pub data Fulls : Patterns → Type 0 where
    full_none : Fulls []ₚ
    full_next : {p : Pattern} {ps : Patterns} → Full p → Fulls ps → Fulls (p ∷ₚ ps)

module _ (es : Entries) (th : Theory) where
  -- A word holds a term that may be missing: 0, or its number plus 1.
  pub data Bound (ts : Store) (word : ℕ) : Option Term → Type 0 where
    not_bound : word ≡ 0 → Bound ts word none
    bound_to : {t : Term} (k : ℕ) → word ≡ k + 1 → Means es th ts k t → Bound ts word (some t)

  -- The bindings of a step, by number in the words `now`, by name in the definition: each variable of the rule is bound alike. Nothing is
  -- said of their order, nor of names that the rule does not have.
  pub record Binds (ts : Store) (vs : List Variable) (now : List ℕ) (binds : List Bind) : Type 0 where
    pub each : (v : ℕ) (name : Name) → Nth vs v name → Bound ts (binding_of now v) (lookup name binds)

  -- The judgments of the steps.
  pub record StepsAt (ts : Store) (table : List ℕ) (steps : List Step) : Type 0 where
    pub few : length steps < 4294967295
    pub each : (i : ℕ) (s : Step) → get_elem? steps i ≡ some s
        → Means es th ts (step_judgment table i) (judgment_of s)

-- A reference as a word: cut to 2^32 - 1 where it is larger.
pub data Saturates (word n : ℕ) : Type 0 where
  as_it_is : word ≡ n → n < 4294967295 → Saturates word n
  at_most : word ≡ 4294967295 → 4294967295 ≤ n → Saturates word n

-- References, one after the other.
pub data ReferencesAt (stack : List ℕ) : ℕ → List ℕ → Type 0 where
  no_references : {k : ℕ} → ReferencesAt stack k []
  one_reference : {k n : ℕ} {ns : List ℕ} → Saturates (get_or stack k 0) n → ReferencesAt stack (k + 1) ns → ReferencesAt stack k (n ∷ ns)
