-- Each form of the layout is accepted: a step concludes its instance's conclusion, a result closes its goal.
use Prim.Native.Nat.{ℕ, suc, ◌^◌, ◌≤◌, ◌<◌}
use native.Mathlib.Omega.{arith}
use mathlib.Core.Path.{◌≡◌, refl, ap, ◌∙◌}
use mathlib.Core.Bool.{true}
use mathlib.Core.List.{List, [], ◌∷◌, ◌++◌, map, Memᴰ}
use mathlib.Core.Option.{none, some}
use lib.ListN.{length, length-map}
use borrow.Author.Tests.{eq-eqb}
use Rattle.horn.specs.Refusals.{ok}
use Rattle.horn.specs.Setting.{Setting}
use Rattle.horn.specs.Names.{Name, named, same_list, codes, first}
use Rattle.horn.specs.NestedLists.{as_item, as_items, Item, word, group, Items, closed, ◌then◌}
use Rattle.horn.specs.Rulebook.{symbol, judgment, Rule, rule, premises_of, conclusion_of, Theory, is_rule, rule_named}
use Rattle.horn.specs.StoredTerms.{Term, Store, within_limits, same_term}
use Rattle.horn.specs.Checker.{Reading, give, word_due, group_due, ask, ask_word, ask_group, ask_number, closing_due}
use Rattle.horn.specs.Checker.{Goal, goal, goal_judgment, is_goal}
use Rattle.horn.specs.Matching.{Step, step, judgment_of}
use Rattle.horn.specs.Certificate
use Rattle.horn.specs.Certificate.{Progress, Witness, witness, Given, given, step_word, result_word, form_word, is_stated, without}
use Rattle.horn.specs.Forced.{WellSorted, well_sorted, Instance, IsInstance, premises, conclusion, Each, substitute}
use Rattle.horn.specs.Layout
use Rattle.horn.specs.Written.{symbol_name, term_sexps, judgment_sexp}
use Rattle.horn.specs.Layout.{plain, plain_all, rule_name, lowest, height, subterms}
use Rattle.horn.proofs.Equality.{case, chose_true, chose_false, named_decides, same_term_decides}
use Rattle.horn.proofs.Inversion.{onᵣ, on, need_on, found_on}
use Rattle.horn.proofs.SoundnessReading.{GoalsApart}
use Rattle.horn.proofs.CompleteUtf8.{All}
use Rattle.horn.proofs.CompleteTheory.{Lookups}
use Rattle.horn.proofs.CompleteCount.{◌⊆◌}
use Rattle.horn.proofs.CompleteStore.{with_term, DrawnFrom}
use Rattle.horn.proofs.CompleteTerms.{on_lift, asked_ok, judgment_back}
use Rattle.horn.proofs.CompleteMatching.{pattern_matches, lowest_step, lowest_below, premises_match, number_due-plain, references_back}

-- An item that is there is found, at depth 1 or 2.
asked : (depth : ℕ) (item : Item) (rest : Items) → depth ≤ 2 → ask depth (item then rest) ≡ ok (item, rest)
unfolding ask
asked depth item rest h = onᵣ _ (asked_ok depth (omega arith))

asked_name : (depth : ℕ) (name : Name) (rest : Items) → depth ≤ 2 → ask_word depth (word name then rest) ≡ ok (name, rest)
unfolding ask_word word_due
asked_name depth name rest h = onᵣ _ (asked depth (word name) rest h) ∙ onᵣ _ refl

asked_group : (depth : ℕ) (inner rest : Items) → depth ≤ 2 → ask_group depth (group inner then rest) ≡ ok (inner, rest)
unfolding ask_group group_due
asked_group depth inner rest h = onᵣ _ (asked depth (group inner) rest h) ∙ onᵣ _ refl

asked_number : (depth n : ℕ) (rest : Items) → depth ≤ 2 → n < 2 ^ 64 → ask_number depth (word (plain n) then rest) ≡ ok (n, rest)
unfolding ask_number
asked_number depth n rest h b = onᵣ _ (asked depth (word (plain n)) rest h) ∙ onᵣ _ (number_due-plain n b)

form_word_step : form_word (codes "step") ≡ step_word
unfolding form_word named same_list codes
form_word_step = refl

form_word_result : form_word (codes "result") ≡ result_word
unfolding form_word named same_list codes
form_word_result = refl

-- Progress without an abbreviation.
abbrev pub progress : List Goal → List Step → List Witness → Progress
progress goals steps results = record { defs = []; open_goals = goals; steps = steps; results = results }

-- The step that the form of an instance comes to, after some steps.
abbrev pub step_made : List Step → Instance → Step
step_made steps i = step (conclusion i) i.by_rule (map (lowest (map judgment_of steps)) (premises i))

-- The result that the form of a goal comes to, after steps with these conclusions.
unfoldable pub result_made : List Term → Goal → Witness
result_made conclusions (goal n j) = witness n (lowest conclusions j)

module _ (limits : Setting) (th : Theory) where
  form_headed : (head : Name) (now : Progress) (rest : Items) (store : Store)
      → Certificate.certificate_form limits th now (group (word head then rest)) store
      ≡ Certificate.headed_form limits th (form_word head) now rest store
  unfolding Certificate.certificate_form group_due
  form_headed head now rest store = on_lift _ _ _ refl ∙ on_lift _ _ _ (asked_name 1 head rest (omega arith))

  -- A result closes its goal, and leaves the others open.
  without_others : (n : Name) (gs : List Goal) → ((h : Goal) → Memᴰ h gs → is_goal n h ≡ true → ⊥) → without n gs ≡ gs
  unfolding without
  without_others n [] a = refl
  without_others n (g ∷ gs) a =
      chose_false _ _ (case (is_goal n g) (λ t. absurd (a g (Memᴰ.head refl) t)) (λ f. f))
      ∙ ap (g ∷◌) (without_others n gs (λ h m. a h (Memᴰ.tail m)))

  own_name : (n : Name) (j : Term) → is_goal n (goal n j) ≡ true
  unfolding is_goal
  own_name n j = named_decides.same n

  pub result_back : (g : Goal) (gs : List Goal) (steps : List Step) (results : List Witness) (store : Store) → GoalsApart (g ∷ gs) → length steps ≤ 2 ^ 64
      → Memᴰ (goal_judgment g) (map judgment_of steps)
      → Certificate.certificate_form limits th (progress (g ∷ gs) steps results) (as_item (Layout.result_sexp (map judgment_of steps) g)) store
      ≡ ok (progress gs steps (results ++ (result_made (map judgment_of steps) g ∷ [])), store)
  unfolding Layout.result_sexp as_item Certificate.headed_form Certificate.result_form result_made first without goal_judgment closing_due give
  result_back (goal n j) gs steps results store a b m =
      let k = lowest (map judgment_of steps) j in
      let h = lowest_below (map judgment_of steps) j m in
      let l = length-map steps judgment_of in
      let c = lowest_step steps j m in
      form_headed (codes "result") (progress (goal n j ∷ gs) steps results) _ store
      ∙ ap (λ w. Certificate.headed_form limits th w (progress (goal n j ∷ gs) steps results) (word n then word (plain k) then closed) store) form_word_result
      ∙ on_lift _ _ _ (asked_name 1 n (word (plain k) then closed) (omega arith))
      ∙ on_lift _ _ _ (found_on _ (chose_true _ _ (own_name n j)))
      ∙ on_lift _ _ _ (asked_number 1 k closed (omega arith) (omega arith))
      ∙ on_lift _ _ _ (found_on _ c.there)
      ∙ on_lift _ _ _ (need_on _ (ap (λ x. same_term x j) c.concludes ∙ same_term_decides.same j))
      ∙ on_lift _ _ _ refl
      ∙ ap (λ x. ok (progress x steps (results ++ (witness n k ∷ [])), store)) (chose_true _ _ (own_name n j) ∙ without_others n gs (λ h m. a.0 h m n (own_name n j)))

  -- A stated conclusion matches, and then the premises do.
  conclude_back : (i : Instance) (steps : List Step) (store : Store)
      → Each (λ j. Memᴰ j (map judgment_of steps)) (premises i)
      → Certificate.conclude limits th steps i.by_rule (map (lowest (map judgment_of steps)) (premises i)) (given [] (some (conclusion i))) store
      ≡ ok (conclusion i, store)
  unfolding Certificate.conclude premises conclusion give
  conclude_back i steps store e =
      let m = pattern_matches (conclusion_of i.by_rule) i.assignment [] tt in
      let p = premises_match steps i.assignment (premises_of i.by_rule) m.binds m.by e in
      on_lift _ _ _ (found_on _ m.found_some) ∙ on_lift _ _ _ p.answered

  module _ (l : Lookups th) (us : List Term) (within : within_limits limits us ≡ true) where
    -- The one item of a laid-out step: its conclusion.
    item_back : {j : Term} → WellSorted th j → (r : Rule) (store : Store) → suc (height (judgment_sexp j)) ≤ 256
        → subterms j ⊆ us
        → DrawnFrom us store
        → Certificate.step_items limits th [] r (as_item (judgment_sexp j) then closed) (given [] none) store
        ≡ ok (given [] (some j), with_term j store)
    unfolding Certificate.step_items Certificate.step_item Certificate.conclusion_item judgment_sexp symbol_name as_item group_due height is_stated give
    item_back (well_sorted {name = name} {ins = ins} {ts = ts} m gs) r store h sub f =
        on_lift _ _ _ (asked_ok 1 (omega arith))
        ∙ on _ _ _
        (on_lift _ _ _ refl
        ∙ on_lift _ _ _ (asked_name 2 name (as_items (term_sexps ts)) (omega arith))
        ∙ ap (λ (x : Reading Given). x store) (chose_false _ _ (l.symbol_is_word (symbol name ins judgment) m).1)
        ∙ on _ _ _ (judgment_back limits th l us within name ins ts m gs 2 store (omega arith) sub f)
        ∙ on_lift _ _ _ (need_on _ refl))

    own_rule : (r : Rule) → is_rule (rule_name r) r ≡ true
    unfolding is_rule rule_name
    own_rule (rule n vs ps c) = named_decides.same n

    rule_ok : (r : Rule) → Memᴰ r th.rules → rule_named th (rule_name r) ≡ ok r
    unfolding rule_named
    rule_ok r m = found_on _ (l.finds_rule r m (own_rule r))

    references_small : (cs js : List Term) → Each (λ j. Memᴰ j cs) js → length cs ≤ 2 ^ 64 → All (λ n. n < 2 ^ 64) (map (lowest cs) js)
    references_small cs [] e b = tt
    references_small cs (j ∷ js) e b = (let h = lowest_below cs j e.0 in omega arith, references_small cs js e.1 b)

    references_counted : (i : Instance) (cs : List Term) → length (map (lowest cs) (premises i)) ≡ length (premises_of i.by_rule)
    unfolding premises
    references_counted i cs =
        length-map (map (substitute i.assignment) (premises_of i.by_rule)) (lowest cs)
        ∙ length-map (premises_of i.by_rule) (substitute i.assignment)

    pub step_back : (i : Instance) (goals : List Goal) (steps : List Step) (results : List Witness) (store : Store) → IsInstance th i
        → WellSorted th (conclusion i)
        → length steps < 2 ^ 64
        → subterms (conclusion i) ⊆ us
        → DrawnFrom us store
        → Each (λ j. Memᴰ j (map judgment_of steps)) (premises i)
        → height (Layout.step_sexp (map judgment_of steps) i) ≤ 256
        → Certificate.certificate_form limits th (progress goals steps results) (as_item (Layout.step_sexp (map judgment_of steps) i)) store
        ≡ ok (progress goals (steps ++ (step_made steps i ∷ [])) results, with_term (conclusion i) store)
    unfolding Layout.step_sexp as_item Certificate.headed_form Certificate.step_form height give
    step_back i goals steps results store is w b sub f e h =
        let cs = map judgment_of steps in
        let n = length cs in
        let r = i.by_rule in
        let refs = map (lowest cs) (premises i) in
        let k = length-map steps judgment_of in
        let item = as_item (judgment_sexp (conclusion i)) in
        let is₂ = group (as_items (plain_all refs)) then item then closed in
        let is₁ = word (rule_name r) then is₂ in
        form_headed (codes "step") (progress goals steps results) _ store
        ∙ ap (λ x. Certificate.headed_form limits th x (progress goals steps results) (word (plain n) then is₁) store) form_word_step
        ∙ on_lift _ _ _ (asked_number 1 n is₁ (omega arith) (omega arith))
        ∙ on_lift _ _ _ (need_on _ (eq-eqb n (length steps) k))
        ∙ on_lift _ _ _ (asked_name 1 (rule_name r) is₂ (omega arith))
        ∙ on_lift _ _ _ (rule_ok r is.declared)
        ∙ on_lift _ _ _ (asked_group 1 (as_items (plain_all refs)) (item then closed) (omega arith))
        ∙ on_lift _ _ _ (references_back refs (references_small cs (premises i) e (omega arith)))
        ∙ on_lift _ _ _ (need_on _ (eq-eqb (length refs) (length (premises_of r)) (references_counted i cs)))
        ∙ on _ _ _ (item_back w r store (omega arith) sub f)
        ∙ on _ _ _ (conclude_back i steps (with_term (conclusion i) store) e)
