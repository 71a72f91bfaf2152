-- Of an accepted release `used_steps` lists the used steps, which are the least set that has the results' steps and, with a step, those that it refers to: each
-- of them once and no other, from the last to the first. So their number is the least that any such set has.
use Prim.Native.Nat.{ℕ, zero, suc, ◌≤◌, ◌<◌}
use mathlib.Core.Path.{◌≡◌, refl, sym, ap, subst, ◌∙◌}
use mathlib.Core.Bool.{true, false, true≢false}
use mathlib.Core.List.Memᴰ
use mathlib.Core.List.{List, [], ◌∷◌, ◌++◌, map, Memᴰ}
use mathlib.Core.Logic.{⊎_elim}
use mathlib.Core.Option.{Option, none, some}
use native.Mathlib.Omega.{arith}
use lib.Dec.{eqb, ltb}
use lib.ListN.{length, get_elem?}
use borrow.Author.Tests.{ltb-true, ltb-false}
use Rattle.horn.specs.Setting.{Setting}
use Rattle.horn.specs.Names.{Name, some_of}
use Rattle.horn.specs.StoredTerms.{Term}
use Rattle.horn.specs.Checker.{goal}
use Rattle.horn.specs.Matching.{Step, references_of}
use Rattle.horn.specs.Certificate.{Witness, witness, Progress}
use Rattle.horn.specs.Calls.{Release}
use Rattle.horn.specs.Used.{result_step, Used, by_result, by_step, references_at, used_below, used_steps}
use Rattle.horn.specs.Page.{is_result_of}
use Rattle.horn.proofs.Equality.{case, chose_true, chose_false, eqb_decides, first-some, some_of_true, some_of_member}
use Rattle.horn.proofs.CompleteCount.{Distinct, length_below}
use Rattle.horn.proofs.Accepting.{ReadRun}
use Rattle.horn.proofs.Progressing.{RefersBack, StepsThere, run_progressing, goal_shown, a_goal}

-- What is referred to at a step that is there.
at_step : (steps : List Step) (n : ℕ) {s : Step} → get_elem? steps n ≡ some s → references_at steps n ≡ references_of s
unfolding references_at
at_step steps n e = rw (e, references_at)

from_step {ℓ} : {C : Type ℓ} (steps : List Step) (n : ℕ) {m : ℕ} → Memᴰ m (references_at steps n)
    → ((s : Step) → get_elem? steps n ≡ some s → Memᴰ m (references_of s) → C)
    → C
unfolding references_at
from_step {C} steps n {m} i k = of_option (get_elem? steps n) i k where
  of_option : (o : Option Step) → Memᴰ m (elim o [ none ↦ [] | some s ↦ references_of s ])
      → ((s : Step) → o ≡ some s → Memᴰ m (references_of s) → C)
      → C
  of_option none i k = elim i [ ]
  of_option (some s) i k = k s refl i

-- The two ways of going back by one step.
leaned_on : (steps : List Step) (n : ℕ) (leaned : List ℕ) → some_of (eqb n) leaned ≡ true
    → used_below steps (suc n) leaned ≡ n ∷ used_below steps n (references_at steps n ++ leaned)
unfolding used_below
leaned_on steps n leaned e = chose_true _ _ e

passed_over : (steps : List Step) (n : ℕ) (leaned : List ℕ) → some_of (eqb n) leaned ≡ false
    → used_below steps (suc n) leaned ≡ used_below steps n leaned
unfolding used_below
passed_over steps n leaned e = chose_false _ _ e

-- Whether a step is leaned on.
is_leaned : (n : ℕ) (leaned : List ℕ) → some_of (eqb n) leaned ≡ true → Memᴰ n leaned
is_leaned n leaned e =
    let (m, i, h) = some_of_true (eqb n) leaned e in
    subst (λ k. Memᴰ k leaned) (sym (eqb_decides.equal n m h)) i

not_leaned : (n : ℕ) (leaned : List ℕ) → some_of (eqb n) leaned ≡ false → Memᴰ n leaned → ⊥
not_leaned n leaned e i = true≢false (sym (some_of_member (eqb n) leaned n i (eqb_decides.same n)) ∙ e)

same_or_below {ℓ} : {C : Type ℓ} (n m : ℕ) → m < suc n → (m ≡ n → C) → (m < n → C) → C
same_or_below n m h f g = case (ltb m n) (λ e. g (ltb-true m n e)) (λ e. let k = ltb-false m n e in f (omega arith))

-- Only numbers below the one gone back from are listed.
pub below_used : (steps : List Step) (n : ℕ) (leaned : List ℕ) (m : ℕ) → Memᴰ m (used_below steps n leaned) → m < n
unfolding used_below
below_used steps (suc n) leaned m i =
    case (some_of (eqb n) leaned)
    (λ e.
    ⊎_elim (λ p. omega arith) (λ k. let h = below_used steps n (references_at steps n ++ leaned) m k in omega arith)
    (Memᴰ.cases_cons (subst (Memᴰ m) (leaned_on steps n leaned e) i)))
    (λ e. let h = below_used steps n leaned m (subst (Memᴰ m) (passed_over steps n leaned e) i) in omega arith)
-- Each number is larger than those behind it.
below_used steps zero leaned m i = elim i [ ]

abbrev pub Falling : List ℕ → Type 0
Falling [] = Unit
Falling (n ∷ ns) = ((m : ℕ) → Memᴰ m ns → m < n) × Falling ns

falling_below : (steps : List Step) (n : ℕ) (leaned : List ℕ) → Falling (used_below steps n leaned)
unfolding used_below
falling_below steps zero leaned = tt
falling_below steps (suc n) leaned =
    case (some_of (eqb n) leaned)
    (λ e.
    subst Falling (sym (leaned_on steps n leaned e))
    (below_used steps n (references_at steps n ++ leaned), falling_below steps n (references_at steps n ++ leaned)))
    (λ e. subst Falling (sym (passed_over steps n leaned e)) (falling_below steps n leaned))

falling_distinct : (ns : List ℕ) → Falling ns → Distinct ns
falling_distinct [] f = tt
falling_distinct (n ∷ ns) f = (λ i. let h = f.0 n i in omega arith, falling_distinct ns f.1)

few_below : (steps : List Step) (n : ℕ) (leaned : List ℕ) → length (used_below steps n leaned) ≤ n
unfolding used_below
few_below steps zero leaned = omega arith
few_below steps (suc n) leaned =
    case (some_of (eqb n) leaned)
    (λ e. let h = few_below steps n (references_at steps n ++ leaned) in omega (arith, ap length (leaned_on steps n leaned e)))
    (λ e. let h = few_below steps n leaned in omega (arith, ap length (passed_over steps n leaned e)))

module _ (last : Progress) where
  used_below_lem : (n : ℕ) (leaned : List ℕ) → ((m : ℕ) → Memᴰ m leaned → Used last m)
      → (m : ℕ)
      → Memᴰ m (used_below last.steps n leaned)
      → Used last m
  unfolding used_below
  used_below_lem (suc n) leaned u m i =
      case (some_of (eqb n) leaned)
      (λ e.
      let here = u n (is_leaned n leaned e) in
      ⊎_elim (λ p. subst (Used last) (sym p) here)
      (λ k.
      used_below_lem n (references_at last.steps n ++ leaned)
      (λ l j.
      ⊎_elim (λ x. from_step last.steps n x (λ s at r. by_step here at r)) (λ y. u l y)
      (Memᴰ.append_cases (references_at last.steps n) j)) m k)
      (Memᴰ.cases_cons (subst (Memᴰ m) (leaned_on last.steps n leaned e) i)))
      (λ e. used_below_lem n leaned u m (subst (Memᴰ m) (passed_over last.steps n leaned e) i))
  -- What is listed is used.
  used_below_lem zero leaned u m i = elim i [ ]

  pub listed_used : (n : ℕ) → Memᴰ n (used_steps last) → Used last n
  unfolding used_steps
  listed_used n i = used_below_lem (length last.steps) (map result_step last.results) (λ m j. by_result j) n i

  -- What is leaned on is listed, and so is what a listed step refers to.
  leaned_listed : (n : ℕ) (leaned : List ℕ) (m : ℕ) → Memᴰ m leaned → m < n → Memᴰ m (used_below last.steps n leaned)
  unfolding used_below
  leaned_listed zero leaned m i h = absurd (omega arith)
  leaned_listed (suc n) leaned m i h =
      case (some_of (eqb n) leaned)
      (λ e.
      subst (Memᴰ m) (sym (leaned_on last.steps n leaned e))
      (same_or_below n m h (λ p. Memᴰ.head p)
      (λ k. Memᴰ.tail (leaned_listed n (references_at last.steps n ++ leaned) m (Memᴰ.append_right (references_at last.steps n) i) k))))
      (λ e.
      subst (Memᴰ m) (sym (passed_over last.steps n leaned e))
      (same_or_below n m h (λ p. absurd (not_leaned n leaned e (subst (λ k. Memᴰ k leaned) p i))) (λ k. leaned_listed n leaned m i k)))

  referred_listed : RefersBack last.steps → (n : ℕ) (leaned : List ℕ) (k m : ℕ) {s : Step} → Memᴰ k (used_below last.steps n leaned)
      → get_elem? last.steps k ≡ some s
      → Memᴰ m (references_of s)
      → Memᴰ m (used_below last.steps n leaned)
  unfolding used_below
  referred_listed back (suc n) leaned k m {s} i at r =
      case (some_of (eqb n) leaned)
      (λ e.
      let more = references_at last.steps n ++ leaned in
      subst (Memᴰ m) (sym (leaned_on last.steps n leaned e))
      (⊎_elim
      (λ p.
      let here = subst (λ z. get_elem? last.steps z ≡ some s) p at in
      Memᴰ.tail
      (leaned_listed n more m (Memᴰ.append_left leaned (subst (Memᴰ m) (sym (at_step last.steps n here)) r)) (back n s here m r)))
      (λ j. Memᴰ.tail (referred_listed back n more k m j at r))
      (Memᴰ.cases_cons (subst (Memᴰ k) (leaned_on last.steps n leaned e) i))))
      (λ e.
      subst (Memᴰ m) (sym (passed_over last.steps n leaned e))
      (referred_listed back n leaned k m (subst (Memᴰ k) (passed_over last.steps n leaned e) i) at r))
  -- What is used is listed, where steps refer back and the results' steps are there.
  referred_listed back zero leaned k m i at r = elim i [ ]

  pub used_listed : RefersBack last.steps → StepsThere last → (n : ℕ) → Used last n → Memᴰ n (used_steps last)
  unfolding used_steps result_step
  used_listed back there n (by_result i) = leaned_listed (length last.steps) (map result_step last.results) n i (result_below i) where
    result_below : Memᴰ n (map result_step last.results) → n < length last.steps
    result_below i = of_witness (Memᴰ.of_map result_step last.results i) where
      of_witness : (w : Witness) × Memᴰ w last.results × (result_step w ≡ n) → n < length last.steps
      of_witness (witness name k, m, e) = subst (λ z. z < length last.steps) e (there name k m)
  used_listed back there n (by_step {n = k} {s = s} u at r) =
      referred_listed back (length last.steps) (map result_step last.results) k n (used_listed back there k u) at r

  -- No number is listed twice: the steps are listed from the last to the first.
  pub listed_falling : Falling (used_steps last)
  unfolding used_steps
  listed_falling = falling_below last.steps (length last.steps) (map result_step last.results)

  -- The same as of any list.
  pub listed_once : Distinct (used_steps last)
  listed_once = falling_distinct (used_steps last) listed_falling

  -- Only steps that are there are listed.
  pub listed_there : (n : ℕ) → Memᴰ n (used_steps last) → n < length last.steps
  unfolding used_steps
  listed_there n i = below_used last.steps (length last.steps) (map result_step last.results) n i

  -- So they are at most as many as the steps.
  pub few_used : length (used_steps last) ≤ length last.steps
  unfolding used_steps
  few_used = few_below last.steps (length last.steps) (map result_step last.results)

-- A set of numbers that has the results' steps and, with a step, those that it refers to.
pub record Closed (last : Progress) (P : ℕ → Type 0) : Type 0 where
  pub has_results : (n : ℕ) → Memᴰ n (map result_step last.results) → P n
  pub has_references : (n m : ℕ) (s : Step) → P n → get_elem? last.steps n ≡ some s → Memᴰ m (references_of s) → P m

-- The used steps are such a set.
pub used_closed : (last : Progress) → Closed last (Used last)
used_closed last = record { has_results = λ n i. by_result i; has_references = λ n m s u at r. by_step u at r }

-- Every such set has all used steps.
pub used_least : {last : Progress} {P : ℕ → Type 0} → Closed last P → {n : ℕ} → Used last n → P n
used_least c (by_result {n = n} i) = c.has_results n i
used_least c (by_step {n = n} {m = m} {s = s} u at r) = c.has_references n m s (used_least c u) at r

-- So no list of numbers that is closed like this is shorter than that of the used steps.
pub fewest_used : (last : Progress) (ns : List ℕ) → Closed last (λ n. Memᴰ n ns) → length (used_steps last) ≤ length ns
fewest_used last ns c = length_below (used_steps last) ns (listed_once last) (λ n i. used_least c (listed_used last n i))

module _ {limits : Setting} {rulebook text certificate : List ℕ} {r : Release} (run : ReadRun limits rulebook text certificate r) where
  -- Each used step of an accepted release is listed.
  pub run_listed : (n : ℕ) → Used r.progress n → Memᴰ n (used_steps r.progress)
  run_listed n u = let pr = run_progressing run in used_listed r.progress pr.refers_back pr.steps_there n u

  -- The step of each goal's result is used.
  pub goal_used : (name : Name) (j : Term) (m : Memᴰ (goal name j) r.goals) → Used r.progress (goal_shown run name j m).number
  unfolding result_step
  goal_used name j m =
      by_result (Memᴰ.map result_step (first-some (is_result_of name) r.progress.results (goal_shown run name j m).shown).0)

  -- So an accepted release has a used step.
  pub some_used : 1 ≤ length (used_steps r.progress)
  some_used = a_goal run λ name j m. counted (run_listed (goal_shown run name j m).number (goal_used name j m)) where
    counted : {ns : List ℕ} {n : ℕ} → Memᴰ n ns → 1 ≤ length ns
    counted (Memᴰ.head e) = omega arith
    counted (Memᴰ.tail i) = omega arith
