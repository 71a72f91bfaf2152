-- One turn of each loop, and one level of a pattern, on the side of the models. Assumes nothing.
use Prim.Native.Nat.{ℕ, zero, suc, ◌+◌, ◌-◌, ◌<◌, ◌≤◌}
use mathlib.Core.Path.{◌≡◌, refl}
use mathlib.Core.List.{List}
use mathlib.Core.Option.{none, some}
use native.Mathlib.Omega.{arith}
use lib.Dec.{leb}
use lib.ListN.{get_or, set}
use Rattle.arena.specs.Store.{argument_of}
use Rattle.outcomes.specs.Outcomes.{ok, refused, pick}
use Rattle.outcomes.specs.Leaving.{Did, ◌leaving◌}
use Rattle.words.specs.Sums.{sum32}
use Rattle.theory_reading.specs.Reading.{arity_of}
use Rattle.theory_reading.specs.Storing.{Areas, before}
use Rattle.matching.specs.Matching.{Tried, ◌keeping◌, variable_matched, arguments_matched, symbol_matched, matched}
use Rattle.matching.specs.Matching.{bound_term, node_made, arguments_built, term_built}
use Rattle.items.specs.Places as layout

module _ (nodes places : ℕ) (store : List ℕ) where
  pub matched_none : (left o t : ℕ) (heap : List ℕ) → left ≡ 0 → (none keeping heap) ≡ matched nodes places store left o t heap
  unfolding matched
  matched_none left o t heap e = rw e

  pub matched_within : (left o t : ℕ) (heap : List ℕ) → (left ≡ 0 → ⊥) → matched nodes places store left o t heap ≡
      pick (leb layout.variable (get_or heap o 0))
      (λ _. variable_matched heap (get_or heap o 0 - layout.variable) t o)
      (λ _. symbol_matched nodes places store (matched nodes places store (left - 1)) (get_or heap o 0) o t heap)
  unfolding matched
  matched_within zero o t heap n = absurd (n refl)
  matched_within (suc left) o t heap n = let e : suc left - 1 ≡ left = omega arith in rw e

  module _ (one : ℕ → ℕ → List ℕ → Tried ℕ) (n t : ℕ) (o : ℕ) (heap : List ℕ) where
    pub arguments_first : arguments_matched nodes places store one n t 0 o heap ≡ arguments_matched nodes places store one (n - 0) t 0 o heap
    arguments_first = let e : n - 0 ≡ n = omega arith in rw e

    pub arguments_on : (j : ℕ) {o' : ℕ} {heap' : List ℕ} → j < n → one o (argument_of store nodes places t j) heap ≡ (some o' keeping heap')
        → arguments_matched nodes places store one (n - j) t j o heap ≡ arguments_matched nodes places store one (n - (j + 1)) t (j + 1) o' heap'
    unfolding arguments_matched
    arguments_on j l h = let e : n - j ≡ suc (n - (j + 1)) = omega arith in rw (e, h)

    pub argument_differs : (j : ℕ) {heap' : List ℕ} → j < n → one o (argument_of store nodes places t j) heap ≡ (none keeping heap')
        → arguments_matched nodes places store one (n - j) t j o heap ≡ (none keeping heap')
    unfolding arguments_matched
    argument_differs j l h = let e : n - j ≡ suc (n - (j + 1)) = omega arith in rw (e, h)

    pub arguments_end : (j : ℕ) → n ≤ j → arguments_matched nodes places store one (n - j) t j o heap ≡ (some o keeping heap)
    unfolding arguments_matched
    arguments_end j l = let e : n - j ≡ 0 = omega arith in rw e

module _ (nodes limit places : ℕ) where
  pub built_none : (heap : List ℕ) (left o p : ℕ) (stack store : List ℕ) → left ≡ 0
      → (refused 26 leaving (store, stack)) ≡ term_built nodes limit places heap left o p stack store
  unfolding term_built
  built_none heap left o p stack store e = rw e

  pub built_within : (heap : List ℕ) (left o p : ℕ) (stack store : List ℕ) → (left ≡ 0 → ⊥) → term_built nodes limit places heap left o p stack store ≡
      pick (leb layout.variable (get_or heap o 0))
      (λ _. bound_term heap (get_or heap o 0 - layout.variable) o leaving (store, stack))
      (λ _. arguments_built nodes limit places (term_built nodes limit places heap (left - 1)) (arity_of heap (get_or heap o 0)) p (sum32 o 1)
      (sum32 p 1) (set stack p (get_or heap o 0)) store)
  unfolding term_built
  built_within heap zero o p stack store n = absurd (n refl)
  built_within heap (suc left) o p stack store n = let e : suc left - 1 ≡ left = omega arith in rw e

  module _ (one : ℕ → ℕ → List ℕ → List ℕ → Did Areas (ℕ × ℕ)) (n from o p : ℕ) (stack store : List ℕ) where
    pub building_first : arguments_built nodes limit places one n from o p stack store ≡ arguments_built nodes limit places one (n - 0) from o p stack store
    building_first = let e : n - 0 ≡ n = omega arith in rw e

    pub building_on : (j : ℕ) {k o' p' : ℕ} {stack' stack'' store' : List ℕ} → j < n → (ok (k, o') leaving (store', stack')) ≡ one o p stack store
        → p' ≡ sum32 p 1
        → stack'' ≡ set stack' p k
        → arguments_built nodes limit places one (n - j) from o p stack store ≡ arguments_built nodes limit places one (n - (j + 1)) from o' p' stack'' store'
    unfolding arguments_built
    building_on j l h q s = let e : n - j ≡ suc (n - (j + 1)) = omega arith in rw (e, ← h, q, s)

    pub building_refused : (j : ℕ) {m : ℕ} {left : Areas} → j < n → one o p stack store ≡ (refused m leaving left)
        → arguments_built nodes limit places one (n - j) from o p stack store ≡ (refused m leaving left)
    unfolding arguments_built
    building_refused j l h = let e : n - j ≡ suc (n - (j + 1)) = omega arith in rw (e, h)

    pub building_end : (j : ℕ) → n ≤ j
        → arguments_built nodes limit places one (n - j) from o p stack store ≡ before stack (node_made nodes limit places from p o stack store)
    unfolding arguments_built
    building_end j l = let e : n - j ≡ 0 = omega arith in rw e

pub ruleset matching = (matched_none, matched_within, arguments_first, arguments_on, argument_differs, arguments_end)

pub ruleset building = (built_none, built_within, building_first, building_on, building_refused, building_end)
