-- Well-formed rules and theories. `Derivable` is what 01 calls forced: it is closed under the rules, it lies in every closed set, and in a
-- well-formed theory its members are well-sorted.
use mathlib.Core.Path.{◌≡◌, refl, sym, subst}
use mathlib.Core.Logic.{Lift}
use mathlib.Core.List.{List, [], ◌∷◌, Memᴰ}
use mathlib.Core.Option.{none}
use Rattle.horn.specs.Names.{Name, first}
use Rattle.horn.specs.Rulebook.{Symbol, symbol, sort, judgment, Variable, variable, Pattern, var, app, Patterns, []ₚ, ◌∷ₚ◌}
use Rattle.horn.specs.Rulebook.{is_variable, Rule, Theory, variables_of, premises_of, conclusion_of}
use Rattle.horn.specs.StoredTerms.{Term}
use Rattle.horn.specs.Forced.{Ground, ground, Grounds, no_ground, ground_then, WellSorted, well_sorted, Assignment, substitute}
use Rattle.horn.specs.Forced.{substitute_all, Instance, IsInstance, premises, conclusion, Each, IsClosed, Forced, ForcedAmongSorted, Derivable}
use Rattle.horn.specs.Forced.{derive, Derivables, all_derived, derived}

-- A pattern is well-sorted, by the symbols that are declared and the variables of its rule: as a term of a sort, as arguments, as a
-- judgment.
mutual
  pub data Sorted (symbols : List Symbol) (vs : List Variable) : Name → Pattern → Type 0 where
    a_variable : {name s : Name} → Memᴰ (variable name s) vs → Sorted symbols vs s (var name)
    a_term : {name s : Name} {ins : List Name} {ps : Patterns}
        → Memᴰ (symbol name ins (sort s)) symbols → AllSorted symbols vs ins ps → Sorted symbols vs s (app (symbol name ins (sort s)) ps)

  pub data AllSorted (symbols : List Symbol) (vs : List Variable) : List Name → Patterns → Type 0 where
    no_pattern : AllSorted symbols vs [] []ₚ
    pattern_then : {s : Name} {ss : List Name} {p : Pattern} {ps : Patterns}
        → Sorted symbols vs s p → AllSorted symbols vs ss ps → AllSorted symbols vs (s ∷ ss) (p ∷ₚ ps)

pub data SortedJudgment (symbols : List Symbol) (vs : List Variable) : Pattern → Type 0 where
  a_judgment : {name : Name} {ins : List Name} {ps : Patterns}
      → Memᴰ (symbol name ins judgment) symbols → AllSorted symbols vs ins ps → SortedJudgment symbols vs (app (symbol name ins judgment) ps)

-- A pattern that is well-sorted stays so where there are more symbols and more variables.
module _ {symbols more : List Symbol} {vs ws : List Variable}
    (f : (c : Symbol) → Memᴰ c symbols → Memᴰ c more) (g : (v : Variable) → Memᴰ v vs → Memᴰ v ws) where
  mutual
    pub sorted_in_more : {s : Name} {p : Pattern} → Sorted symbols vs s p → Sorted more ws s p
    sorted_in_more (a_variable m) = a_variable (g _ m)
    sorted_in_more (a_term m ps) = a_term (f _ m) (all_sorted_in_more ps)

    pub all_sorted_in_more : {ss : List Name} {ps : Patterns} → AllSorted symbols vs ss ps → AllSorted more ws ss ps
    all_sorted_in_more no_pattern = no_pattern
    all_sorted_in_more (pattern_then p ps) = pattern_then (sorted_in_more p) (all_sorted_in_more ps)

  pub judgment_in_more : {p : Pattern} → SortedJudgment symbols vs p → SortedJudgment more ws p
  judgment_in_more (a_judgment m ps) = a_judgment (f _ m) (all_sorted_in_more ps)

-- Something holds of the name of each variable in a pattern.
mutual
  pub data Throughout (P : Name → Type 0) : Pattern → Type 0 where
    at_variable : {name : Name} → P name → Throughout P (var name)
    in_term : {c : Symbol} {ps : Patterns} → ThroughoutAll P ps → Throughout P (app c ps)

  pub data ThroughoutAll (P : Name → Type 0) : Patterns → Type 0 where
    in_none : ThroughoutAll P []ₚ
    in_next : {p : Pattern} {ps : Patterns} → Throughout P p → ThroughoutAll P ps → ThroughoutAll P (p ∷ₚ ps)

module _ {P Q : Name → Type 0} (f : (name : Name) → P name → Q name) where
  mutual
    pub throughout_by : {p : Pattern} → Throughout P p → Throughout Q p
    throughout_by (at_variable h) = at_variable (f _ h)
    throughout_by (in_term hs) = in_term (throughout_all_by hs)

    pub throughout_all_by : {ps : Patterns} → ThroughoutAll P ps → ThroughoutAll Q ps
    throughout_all_by in_none = in_none
    throughout_all_by (in_next h hs) = in_next (throughout_by h) (throughout_all_by hs)

abbrev pub Covers : (Name → Type 0) → List Variable → Type 0
Covers P vs = (name s : Name) → Memᴰ (variable name s) vs → P name

-- A variable has one sort.
abbrev pub OneSort : List Variable → Type 0
OneSort vs = (name s t : Name) → Memᴰ (variable name s) vs → Memᴰ (variable name t) vs → s ≡ t

-- The names of a rule's variables are pairwise different: none is met again behind it.
pub data Apart : List Variable → Type 0 where
  no_names : Apart []
  name_apart : {name s : Name} {vs : List Variable} → first (is_variable name) vs ≡ none → Apart vs → Apart (variable name s ∷ vs)

-- A rule is well-formed: its judgments are well-sorted by its variables; a variable has one sort; no two have one name; and each variable
-- occurs in the judgments. The last is said so (`occur`): if something holds of each name that stands in them as a variable, it holds of
-- each of the rule's variables.
pub record RuleFormed (symbols : List Symbol) (r : Rule) : Type 1 where
  pub sorted_premises : (p : Pattern) → Memᴰ p (premises_of r) → SortedJudgment symbols (variables_of r) p
  pub sorted_conclusion : SortedJudgment symbols (variables_of r) (conclusion_of r)
  pub one_sort : OneSort (variables_of r)
  pub apart : Apart (variables_of r)
  pub occur : (P : Name → Type 0) → ((p : Pattern) → Memᴰ p (premises_of r) → Throughout P p)
      → Throughout P (conclusion_of r)
      → Covers P (variables_of r)

pub record WellFormed (th : Theory) : Type 1 where
  pub formed : (r : Rule) → Memᴰ r th.rules → RuleFormed th.symbols r

-- A well-sorted pattern becomes a ground term, where ground terms are put for its variables.
module _ {th : Theory} {vs : List Variable} (σ : Assignment)
    (sorted : (name s : Name) → Memᴰ (variable name s) vs → Ground th s (σ name)) where
  mutual
    unfolding substitute

    pub substitute_ground : {s : Name} {p : Pattern} → Sorted th.symbols vs s p → Ground th s (substitute σ p)
    substitute_ground (a_variable m) = sorted _ _ m
    substitute_ground (a_term m ps) = ground m (substitute_grounds ps)

    pub substitute_grounds : {ss : List Name} {ps : Patterns} → AllSorted th.symbols vs ss ps
        → Grounds th ss (substitute_all σ ps)
    substitute_grounds no_pattern = no_ground
    substitute_grounds (pattern_then p ps) = ground_then (substitute_ground p) (substitute_grounds ps)

  pub substitute_judgment : {p : Pattern} → SortedJudgment th.symbols vs p → WellSorted th (substitute σ p)
  unfolding substitute
  substitute_judgment (a_judgment m ps) = well_sorted m (substitute_grounds ps)

pub conclusion_well_sorted : {th : Theory} → WellFormed th → (i : Instance) → IsInstance th i → WellSorted th (conclusion i)
unfolding conclusion
conclusion_well_sorted w i is =
    substitute_judgment i.assignment is.sorted (w.formed i.by_rule is.declared).sorted_conclusion

-- Derivable judgments are in every set that is closed under the rules, whatever else it holds.
module _ {ℓ} {th : Theory} (S : Term → Type ℓ) (set : IsClosed th S) where
  mutual
    pub derivable_least : {j : Term} → Derivable th j → S j
    derivable_least (derive i is ds e) = subst S (sym e) (set.has_conclusion i is (derivables_least ds))

    pub derivables_least : {js : List Term} → Derivables th js → Each S js
    derivables_least all_derived = tt
    derivables_least (derived d ds) = (derivable_least d, derivables_least ds)

pub forced {ℓ} : {th : Theory} {j : Term} → Derivable th j → Forced {ℓ} th j
forced d S set = derivable_least S set d

pub forced_among_sorted {ℓ} : {th : Theory} {j : Term} → Forced {ℓ} th j → ForcedAmongSorted {ℓ} th j
forced_among_sorted f S set sorted = f S set

-- The derivable judgments are closed under the rules, and well-sorted.
pub derivables : {th : Theory} (js : List Term) → Each (Derivable th) js → Derivables th js
derivables [] ds = all_derived
derivables (j ∷ js) ds = derived ds.0 (derivables js ds.1)

pub derivable_well_sorted : {th : Theory} → WellFormed th → (j : Term) → Derivable th j → WellSorted th j
derivable_well_sorted {th} w j (derive i is ds e) = subst (WellSorted th) (sym e) (conclusion_well_sorted w i is)

pub derivable_closed : {th : Theory} → IsClosed th (Derivable th)
derivable_closed = record { has_conclusion = λ i is ds. derive i is (derivables (premises i) ds) refl }

-- The derivable judgments are a closed set at every level. So what is forced among well-sorted judgments, at any level, is derivable:
-- derivable, forced, and forced among well-sorted judgments are one.
lowered {ℓ} : (th : Theory) (js : List Term) → Each (λ j. Lift {0, ℓ} (Derivable th j)) js → Each (Derivable th) js
lowered th [] ds = tt
lowered th (j ∷ js) ds = (ds.0.lower, lowered th js ds.1)

derivable_closed_at {ℓ} : (th : Theory) → IsClosed th (λ j. Lift {0, ℓ} (Derivable th j))
derivable_closed_at th =
    record { has_conclusion = λ i is ds. record { lower = derivable_closed.has_conclusion i is (lowered th (premises i) ds) } }

pub derivable_of_forced {ℓ} : {th : Theory} {j : Term} → WellFormed th → ForcedAmongSorted {ℓ} th j → Derivable th j
derivable_of_forced {th} w f =
    (f (λ j. Lift (Derivable th j)) (derivable_closed_at th) (λ k d. derivable_well_sorted w k d.lower)).lower
