-- "Words of demand 3" in document 01. "They are fixed by the texts, not by the store": no store, no matching and no
-- building stands in what is said of terms and instances here.
use Rattle.std.specs.Prelude.{ℕ, ◌≤◌, ◌≡◌, ◌≢◌, length}
use mathlib.Core.List.{List, [], ◌∷◌, map, Memᴰ}
use Rattle.horn.specs.Refusals.{Refusal, refused}
use Rattle.horn.specs.Setting.{Setting}
use Rattle.horn.specs.Names.{Name}
use Rattle.horn.specs.Tokens.{tokens}
use Rattle.horn.specs.NestedLists.{items, top_items}
use Rattle.horn.specs.Rulebook.{symbol, sort, judgment, variable, Pattern, var, app, Patterns, []ₚ, ◌∷ₚ◌}
use Rattle.horn.specs.Rulebook.{Rule, Theory, variables_of, premises_of, conclusion_of}
use Rattle.horn.specs.StoredTerms.{Term, node, Terms, []ₜ, ◌∷ₜ◌, empty_store}
use Rattle.horn.specs.Checker.{Goal, goal_judgment, goals_of}
use Rattle.horn.specs.Calls.{rulebook_call}
use Rattle.horn.specs.Written.{goal_sexp}

-- "A ground term of a sort is a constructor declared with that output and, for each input in order, a ground term of the
-- input's sort; it is finite."
mutual
  pub data Ground (th : Theory) : Name → Term → Type 0 where
    ground : {name s : Name} {ins : List Name} {ts : Terms}
        → Memᴰ (symbol name ins (sort s)) th.symbols → Grounds th ins ts → Ground th s (node (symbol name ins (sort s)) ts)

  -- "For each input in order, a ground term of the input's sort".
  pub data Grounds (th : Theory) : List Name → Terms → Type 0 where
    no_ground : Grounds th [] []ₜ
    ground_then : {s : Name} {ss : List Name} {t : Term} {ts : Terms} → Ground th s t → Grounds th ss ts → Grounds th (s ∷ ss) (t ∷ₜ ts)

-- "A well-sorted ground judgment is a declared predicate with such terms for its inputs."
pub data WellSorted (th : Theory) : Term → Type 0 where
  well_sorted : {name : Name} {ins : List Name} {ts : Terms}
      → Memᴰ (symbol name ins judgment) th.symbols → Grounds th ins ts → WellSorted th (node (symbol name ins judgment) ts)

-- A term for each variable, "the same at all its places".
abbrev pub Assignment : Type 0
Assignment = Name → Term

-- A pattern with the terms in place of its variables.
unfoldable mutual
  pub substitute : Assignment → Pattern → Term
  substitute σ (var name) = σ name
  substitute σ (app c ps) = node c (substitute_all σ ps)

  -- The same of arguments.
  pub substitute_all : Assignment → Patterns → Terms
  substitute_all σ []ₚ = []ₜ
  substitute_all σ (p ∷ₚ ps) = substitute σ p ∷ₜ substitute_all σ ps

-- A rule with a term for each variable.
pub record Instance : Type 0 where
  pub by_rule : Rule
  pub assignment : Assignment

-- The premises of an instance.
unfoldable pub premises : Instance → List Term
premises i = map (substitute i.assignment) (premises_of i.by_rule)

-- The conclusion of an instance.
unfoldable pub conclusion : Instance → Term
conclusion i = substitute i.assignment (conclusion_of i.by_rule)

-- "A well-sorted rule instance is a rule with one ground term of its sort for each variable".
pub record IsInstance (th : Theory) (i : Instance) : Type 0 where
  pub declared : Memᴰ i.by_rule th.rules
  pub sorted : (name s : Name) → Memᴰ (variable name s) (variables_of i.by_rule) → Ground th s (i.assignment name)

-- Each term of a list is in a set: "whose premises it has".
abbrev pub Each {ℓ} : (Term → Type ℓ) → List Term → Type ℓ
Each S [] = Unit
Each S (j ∷ js) = S j × Each S js

-- "A set, finite or not, is closed under the rules if it has the conclusion of every such instance whose premises it
-- has", whatever else it has.
pub record IsClosed {ℓ} (th : Theory) (S : Term → Type ℓ) : Type ℓ where
  pub has_conclusion : (i : Instance) → IsInstance th i → Each S (premises i) → S (conclusion i)

-- "A judgment is forced if it lies in every such set."
abbrev pub Forced {ℓ} : Theory → Term → Type (ℓ + 1)
Forced th j = (S : Term → Type ℓ) → IsClosed th S → S j

-- The narrower reading of "forced": a judgment lies in every closed set that has only well-sorted ground judgments.
abbrev pub ForcedAmongSorted {ℓ} : Theory → Term → Type (ℓ + 1)
ForcedAmongSorted th j = (S : Term → Type ℓ) → IsClosed th S → ((k : Term) → S k → WellSorted th k) → S j

-- The least closed set, as a type that a contract may name. It is proved that it is closed and lies in every closed set (`derivable_closed`,
-- `derivable_least` in proofs/SoundnessWords), and, for the theory of a rulebook, that its members are well-sorted and that all that is
-- forced among well-sorted judgments is in it (`derivable_is_sorted`, `forced_is_derivable` in proofs/Soundness).
mutual
  pub data Derivable (th : Theory) : Term → Type 0 where
    derive : {j : Term} (i : Instance) → IsInstance th i → Derivables th (premises i) → j ≡ conclusion i → Derivable th j

  -- Each judgment of a list is derivable.
  pub data Derivables (th : Theory) : List Term → Type 0 where
    all_derived : Derivables th []
    derived : {j : Term} {js : List Term} → Derivable th j → Derivables th js → Derivables th (j ∷ js)

-- What is proved of each step of an accepted release (proofs/SoundnessOfSteps): an instance of its own rule concludes it, and the
-- premises of that instance are derivable.
pub record Concluded (th : Theory) (j : Term) (r : Rule) : Type 0 where
  pub by : Instance
  pub own : by.by_rule ≡ r
  pub is : IsInstance th by
  pub from : Derivables th (premises by)
  pub equal : j ≡ conclusion by

-- The judgments of goals.
unfoldable pub judgments : List Goal → List Term
judgments = map goal_judgment

-- "A goal's judgment is the J of its form": a goals text has these goals if it consists of their forms `(goal N J)`, in this
-- order, each J a well-sorted ground judgment written out. No store and no limit is in it, and under one rulebook a text
-- has at most one list of goals (proofs/GoalsFixed).
pub record HasGoals (th : Theory) (text : List ℕ) (goals : List Goal) : Type 0 where
  pub forms : items (tokens text) ≡ top_items (map goal_sexp goals)
  pub sorted_judgments : Each (WellSorted th) (judgments goals)

-- "Areas long enough".
pub record LongEnough (limits : Setting) (a b c d : ℕ) : Type 0 where
  pub first_area : limits.area_words ≤ a
  pub second_area : limits.area_words ≤ b
  pub third_area : limits.area_words ≤ c
  pub fourth_area : limits.last_area_words ≤ d

-- "A rulebook is accepted if this paper's rules, whatever a program says, give 0 for the call with it alone on areas long
-- enough", on any such areas. Exactly then it is short enough and gives a theory (proofs/Accepting).
pub record Accepted (limits : Setting) (rulebook : List ℕ) : Type 0 where
  pub answers_zero : (a b c d : ℕ) → LongEnough limits a b c d → (rulebook_call limits a b c d rulebook).number ≡ 0

-- "A goals text is read without refusal if by the same rules none is met in it under that rulebook, 2 and 17 included."
pub record ReadWithoutRefusal (limits : Setting) (th : Theory) (text : List ℕ) : Type 0 where
  pub short : length text ≤ limits.goals_bytes
  pub none_met : (r : Refusal) → goals_of limits th text empty_store ≢ refused r
