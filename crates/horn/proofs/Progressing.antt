-- What holds of a certificate's steps and results at every moment: a step refers to steps before it, the step of a result is there, and
-- each goal is open or has one result, whose step concludes the goal's judgment. So at the end of an accepted release each goal has a line.
use Prim.Native.Nat.{ℕ, ◌<◌}
use mathlib.Core.Path.{◌≡◌, refl, sym, ap, subst, ◌∙◌}
use mathlib.Core.Bool.{true, false, not, true≢false}
use mathlib.Core.List.Memᴰ
use mathlib.Core.List.{List, [], ◌∷◌, ◌++◌, map, map-append, Memᴰ}
use mathlib.Core.Logic.{◌⊎◌, inl, inr, ⊎_elim}
use mathlib.Core.Option.{none, some}
use native.Mathlib.Omega.{arith}
use lib.ListN.{length, get_elem?, length-append}
use Rattle.horn.specs.Refusals.{ok}
use Rattle.horn.specs.Setting.{Setting}
use Rattle.horn.specs.Names.{Name, named, first, some_of, is_zero}
use Rattle.horn.specs.NestedLists.{Items}
use Rattle.horn.specs.Rulebook.{Pattern, Rule, premises_of, Theory}
use Rattle.horn.specs.StoredTerms.{Term, same_term, Store, empty_store}
use Rattle.horn.specs.Checker.{Goal, goal, is_goal, goal_judgment, goals_of}
use Rattle.horn.specs.Matching.{Step, step, judgment_of, rule_of, references_of, Bind, match_premises}
use Rattle.horn.specs.Certificate.{Witness, witness, Progress, begun, with_result, without, Given, given, conclude}
use Rattle.horn.specs.Arising.{Proceeds, proceeds_none, proceeds_next, ProgressArises}
use Rattle.horn.specs.Calls.{Release}
use Rattle.horn.specs.Layout.{rule_name}
use Rattle.horn.specs.Used.{result_step}
use Rattle.horn.specs.Page.{goal_line, is_result_of, line_of}
use Rattle.horn.proofs.Equality.{case, chose_true, chose_false, named_decides, same_term_decides, decides_false, first-some, some_of_true, in_or_last}
use Rattle.horn.proofs.Equality.{at_below, at_longer, at_or_last}
use Rattle.horn.proofs.Inversion.{not_ok, none-some, after, given_is, afterₗ, after_need, after_foundᵣ}
use Rattle.horn.proofs.Taken.{Taken, def_taken, step_taken, result_taken, form_taken, certificate_proceeds}
use Rattle.horn.proofs.CompleteTheory.{first_longer, first_last}
use Rattle.horn.proofs.CompleteCount.{Distinct, distinct_more}
use Rattle.horn.proofs.SoundnessReading.{OneEach, text_apart, apart_one_each}
use Rattle.horn.proofs.SoundnessCertificate.{named_or_kept, was_there, none_open}
use Rattle.horn.proofs.Accepting.{ReadRun}

-- The name of a result's goal.
unfoldable pub result_name : Witness → Name
result_name (witness name n) = name

-- Premises that are matched are steps that are there.
matched_below : (steps : List Step) (ps : List Pattern) (refs : List ℕ) (binds : List Bind) {more : List Bind}
    → match_premises steps ps refs binds ≡ ok more
    → (m : ℕ)
    → Memᴰ m refs
    → m < length steps
unfolding match_premises
matched_below steps [] (n ∷ ns) binds e m i = not_ok e
matched_below steps [] [] binds e m i = elim i [ ]
matched_below steps (p ∷ ps) [] binds e m i = elim i [ ]
matched_below steps (p ∷ ps) (n ∷ ns) binds e m (Memᴰ.head h) =
    after_foundᵣ _ _ _ e λ s f e₁. subst (λ k. k < length steps) (sym h) (at_below steps n f)
matched_below steps (p ∷ ps) (n ∷ ns) binds e m (Memᴰ.tail i) =
    after_foundᵣ _ _ _ e λ s f e₁. after_foundᵣ _ _ _ e₁ λ b f₁ e₂. matched_below steps ps ns b e₂ m i

concluded_below : (limits : Setting) (th : Theory) (steps : List Step) (r : Rule) (refs : List ℕ) (g : Given) (s : Store) {j : Term} {s' : Store}
    → conclude limits th steps r refs g s ≡ ok (j, s')
    → (m : ℕ)
    → Memᴰ m refs
    → m < length steps
unfolding conclude
concluded_below limits th steps r refs (given binds (some j)) s e m i =
    afterₗ _ _ _ e λ b e₁ e₂. afterₗ _ _ _ e₂ λ c e₃ e₄. matched_below steps (premises_of r) refs b e₃ m i
concluded_below limits th steps r refs (given binds none) s e m i =
    afterₗ _ _ _ e λ b e₁ e₂. matched_below steps (premises_of r) refs binds e₁ m i

-- A goal's result: the first of its name, whose step is there and concludes the goal's judgment.
pub record Shown (steps : List Step) (results : List Witness) (name : Name) (j : Term) : Type 0 where
  pub number : ℕ
  pub by : Step
  pub shown : first (is_result_of name) results ≡ some (witness name number)
  pub there : get_elem? steps number ≡ some by
  pub concludes : judgment_of by ≡ j

-- No form takes back what is shown.
shown_steps : {steps : List Step} {results : List Witness} {name : Name} {j : Term} (ss : List Step) → Shown steps results name j
    → Shown (steps ++ ss) results name j
shown_steps {steps} ss sh =
    record { number = sh.number; by = sh.by; shown = sh.shown; there = at_longer steps ss sh.number sh.there; concludes = sh.concludes }

shown_results : {steps : List Step} {results : List Witness} {name : Name} {j : Term} (rs : List Witness) → Shown steps results name j
    → Shown steps (results ++ rs) name j
shown_results {results} {name} rs sh =
    record {
      number = sh.number;
      by = sh.by;
      shown = first_longer (is_result_of name) results rs sh.shown;
      there = sh.there;
      concludes = sh.concludes;
    }

-- Each step refers to steps before it.
abbrev pub RefersBack : List Step → Type 0
RefersBack steps = (n : ℕ) (s : Step) → get_elem? steps n ≡ some s → (m : ℕ) → Memᴰ m (references_of s) → m < n

-- The step of each result is there.
abbrev pub StepsThere : Progress → Type 0
StepsThere now = (name : Name) (n : ℕ) → Memᴰ (witness name n) now.results → n < length now.steps

-- A result is of one of the goals, and the first of its name.
pub record OfGoal (goals : List Goal) (results : List Witness) (name : Name) (n : ℕ) : Type 0 where
  pub judgment : Term
  pub among : Memᴰ (goal name judgment) goals
  pub is_shown : first (is_result_of name) results ≡ some (witness name n)

-- What holds between the forms, for goals of which no two have one name.
pub record Progressing (goals : List Goal) (now : Progress) : Type 0 where
  pub refers_back : RefersBack now.steps
  pub steps_there : StepsThere now
  -- "A goal still open" is one of the goals and has no result yet.
  pub open_goals_lem : (g : Goal) → Memᴰ g now.open_goals → Memᴰ g goals
  pub open_unshown : (name : Name) (j : Term) → Memᴰ (goal name j) now.open_goals
      → (w : Witness)
      → Memᴰ w now.results
      → is_result_of name w ≡ false
  pub open_or_shown : (name : Name) (j : Term) → Memᴰ (goal name j) goals
      → Memᴰ (goal name j) now.open_goals ⊎ Shown now.steps now.results name j
  -- No two results are of one goal.
  pub one_result : Distinct (map result_name now.results)
  pub results-goals : (name : Name) (n : ℕ) → Memᴰ (witness name n) now.results → OfGoal goals now.results name n

-- A new step, whose references were matched.
refers_back_more : (steps : List Step) (j : Term) (r : Rule) (refs : List ℕ) → RefersBack steps → ((m : ℕ) → Memᴰ m refs → m < length steps)
    → RefersBack (steps ++ (step j r refs ∷ []))
unfolding references_of
refers_back_more steps j r refs back below n s e m i =
    at_or_last steps n e
    (λ f. back n s f m i)
    (λ p q. subst (λ k. m < k) (sym p) (below m (subst (λ z. Memᴰ m (references_of z)) q i)))

-- A result that no other has been of the same goal.
first_new : (name : Name) (n : ℕ) (results : List Witness) → ((w : Witness) → Memᴰ w results → is_result_of name w ≡ false)
    → first (is_result_of name) (results ++ (witness name n ∷ [])) ≡ some (witness name n)
unfolding is_result_of
first_new name n results none_yet =
    first_last (is_result_of name) results (witness name n) (none_of results none_yet) (named_decides.same name) where
      none_of : (ws : List Witness) → ((w : Witness) → Memᴰ w ws → is_result_of name w ≡ false) → some_of (is_result_of name) ws ≡ false
      none_of ws h =
          case (some_of (is_result_of name) ws)
          (λ p. let (w, m, q) = some_of_true (is_result_of name) ws p in absurd (true≢false (sym q ∙ h w m)))
          (λ p. p)

name_new : (name : Name) (results : List Witness) → ((w : Witness) → Memᴰ w results → is_result_of name w ≡ false)
    → Memᴰ name (map result_name results)
    → ⊥
unfolding is_result_of result_name
name_new name results none_yet i =
    let (w, m, e) = Memᴰ.of_map result_name results i in
    true≢false (sym (is_of w e) ∙ none_yet w m) where
      is_of : (w : Witness) → result_name w ≡ name → is_result_of name w ≡ true
      is_of (witness shown k) e = ap (is_result_of name) (ap (λ z. witness z k) e) ∙ named_decides.same name

-- A goal that stays does not have the name of those that are taken out.
other_name : (name : Name) (gs : List Goal) {g : Goal} → Memᴰ g (without name gs) → is_goal name g ≡ false
unfolding without
other_name name (x ∷ gs) {g} m =
    case (is_goal name x)
    (λ p. other_name name gs (subst (Memᴰ g) (chose_true _ _ p) m))
    (λ p.
    ⊎_elim (λ e. ap (is_goal name) e ∙ p) (λ k. other_name name gs k) (Memᴰ.cases_cons (subst (Memᴰ g) (chose_false _ _ p) m)))
-- The result of an open goal: the goal has its result, and every other that was open stays so.
other_name name [] m = elim m [ ]

module _ (goals : List Goal) (one : OneEach goals) {now : Progress} (pr : Progressing goals now) (name : Name) (n : ℕ) (g : Goal) (t : Step)
    (is_first : first (is_goal name) now.open_goals ≡ some g) (at : get_elem? now.steps n ≡ some t)
    (same : same_term (judgment_of t) (goal_judgment g) ≡ true) where
  -- No result has been of this name.
  unshown_yet : (w : Witness) → Memᴰ w now.results → is_result_of name w ≡ false
  unfolding is_goal
  unshown_yet w i = of_goal g (first-some (is_goal name) now.open_goals is_first) where
    of_goal : (x : Goal) → Memᴰ x now.open_goals × (is_goal name x ≡ true) → is_result_of name w ≡ false
    of_goal (goal gname j) (m, e) = subst (λ z. is_result_of z w ≡ false) (sym (named_decides.equal name gname e)) (pr.open_unshown gname j m w i)

  shown_now : (gname : Name) (j : Term) → Memᴰ (goal gname j) now.open_goals → is_goal name (goal gname j) ≡ true
      → Shown now.steps (now.results ++ (witness name n ∷ [])) gname j
  unfolding is_goal goal_judgment
  shown_now gname j m e =
      let here = first-some (is_goal name) now.open_goals is_first in
      let equal = one name g (goal gname j) (pr.open_goals_lem g here.0) (pr.open_goals_lem (goal gname j) m) here.1 e in
      let names = named_decides.equal name gname e in
      subst (λ z. Shown now.steps (now.results ++ (witness name n ∷ [])) z j) names
      record {
        number = n;
        by = t;
        shown = first_new name n now.results unshown_yet;
        there = at;
        concludes = same_term_decides.equal (judgment_of t) (goal_judgment g) same ∙ ap goal_judgment equal;
      }

  own_goal : OfGoal goals (now.results ++ (witness name n ∷ [])) name n
  unfolding is_goal
  own_goal = of_goal g (first-some (is_goal name) now.open_goals is_first) where
    of_goal : (x : Goal) → Memᴰ x now.open_goals × (is_goal name x ≡ true) → OfGoal goals (now.results ++ (witness name n ∷ [])) name n
    of_goal (goal gname j) (m, e) =
        record {
          judgment = j;
          among = subst (λ z. Memᴰ (goal z j) goals) (sym (named_decides.equal name gname e)) (pr.open_goals_lem (goal gname j) m);
          is_shown = first_new name n now.results unshown_yet;
        }

  result_progressing : Progressing goals (with_result now name n)
  unfolding is_goal is_result_of result_name result_step
  result_progressing =
      record {
        refers_back = pr.refers_back;
        steps_there = λ shown k m.
            in_or_last now.results m (pr.steps_there shown k)
            (λ e. subst (λ i. i < length now.steps) (sym (ap result_step e)) (at_below now.steps n at));
        open_goals_lem = λ x m. pr.open_goals_lem x (was_there name now.open_goals m);
        open_unshown = λ gname j m w i.
            in_or_last now.results i (pr.open_unshown gname j (was_there name now.open_goals m) w)
            (λ e. ap (is_result_of gname) e ∙ apart gname j (other_name name now.open_goals m));
        open_or_shown = λ gname j m.
            ⊎_elim
            (λ o. named_or_kept name now.open_goals o (λ e. inr (shown_now gname j o e)) (λ o'. inl o'))
            (λ sh. inr (shown_results (witness name n ∷ []) sh))
            (pr.open_or_shown gname j m);
        one_result =
            subst Distinct (sym (map-append result_name now.results (witness name n ∷ [])))
            (distinct_more (map result_name now.results) name pr.one_result (name_new name now.results unshown_yet));
        results-goals = λ shown k m.
            in_or_last now.results m
            (λ i.
            let o = pr.results-goals shown k i in
            record { judgment = o.judgment; among = o.among; is_shown = first_longer (is_result_of shown) now.results (witness name n ∷ []) o.is_shown })
            (λ e.
            subst (λ z. OfGoal goals (now.results ++ (witness name n ∷ [])) z k) (sym (ap result_name e))
            (subst (λ i. OfGoal goals (now.results ++ (witness name n ∷ [])) name i) (sym (ap result_step e)) own_goal));
      } where
        apart : (gname : Name) (j : Term) → is_goal name (goal gname j) ≡ false → is_result_of gname (witness name n) ≡ false
        apart gname j e = decides_false named_decides gname name (λ p. true≢false (sym (named_decides.same name) ∙ ap (named name) (sym p) ∙ e))

module _ (limits : Setting) (th : Theory) (goals : List Goal) (one : OneEach goals) where
  taken_progressing : {now next : Progress} {s : Store} → Progressing goals now → Taken limits th now s next → Progressing goals next
  taken_progressing pr (def_taken name is e) =
      record {
        refers_back = pr.refers_back;
        steps_there = pr.steps_there;
        open_goals_lem = pr.open_goals_lem;
        open_unshown = pr.open_unshown;
        open_or_shown = pr.open_or_shown;
        one_result = pr.one_result;
        results-goals = pr.results-goals;
      }
  taken_progressing {now} pr (step_taken name is refs {r = r} {g = g} {j = j} {s₁ = s₁} e e₁ e₂) =
      record {
        refers_back = refers_back_more now.steps j r refs pr.refers_back (concluded_below limits th now.steps r refs g s₁ e₂);
        steps_there = λ shown k m. let h = pr.steps_there shown k m in omega (arith, length-append now.steps (step j r refs ∷ []));
        open_goals_lem = pr.open_goals_lem;
        open_unshown = pr.open_unshown;
        open_or_shown = λ gname k m. ⊎_elim (λ o. inl o) (λ sh. inr (shown_steps (step j r refs ∷ []) sh)) (pr.open_or_shown gname k m);
        one_result = pr.one_result;
        results-goals = pr.results-goals;
      }
  taken_progressing pr (result_taken name n {g = g} {t = t} f h k) = result_progressing goals one pr name n g t f h k

  begun_progressing : Progressing goals (begun goals)
  begun_progressing =
      record {
        refers_back = λ n s e m i. none-some e;
        steps_there = λ name n m. elim m [ ];
        open_goals_lem = λ g m. m;
        open_unshown = λ name j m w i. elim i [ ];
        open_or_shown = λ name j m. inl m;
        one_result = tt;
        results-goals = λ name n m. elim m [ ];
      }

  proceeds_progressing : {now later : Progress} {is : Items} {s u : Store} → Progressing goals now → Proceeds limits th now is s later u
      → Progressing goals later
  proceeds_progressing pr proceeds_none = pr
  proceeds_progressing {now} pr (proceeds_next {item = item} {s = s} e p) =
      proceeds_progressing (taken_progressing pr (form_taken limits th now item s e)) p

  -- It holds between any two forms, where no two goals have one name.
  forms_progressing : {later : Progress} {is : Items} {s u : Store} → Proceeds limits th (begun goals) is s later u → Progressing goals later
  forms_progressing p = proceeds_progressing begun_progressing p

one_each_read : (limits : Setting) (th : Theory) (text : List ℕ) {store : Store} {goals : List Goal}
    → goals_of limits th text empty_store ≡ ok (goals, store)
    → OneEach goals
one_each_read limits th text {goals = goals} e = apart_one_each goals (text_apart limits th text e)

-- It holds at every moment of a run, whether the run is accepted or refused.
pub arising_progressing : {limits : Setting} {rulebook text certificate : List ℕ} {now : Progress}
    (a : ProgressArises limits rulebook text certificate now)
    → Progressing a.goals now
arising_progressing {limits} {text = text} a = forms_progressing limits a.th a.goals (one_each_read limits a.th text a.read) a.proceeds

-- The line of a goal that has a result.
pub shown_line : (last : Progress) {name : Name} {j : Term} (sh : Shown last.steps last.results name j)
    → line_of last (goal name j) ≡ goal_line name sh.number (rule_name (rule_of sh.by))
unfolding line_of
shown_line last sh = rw (sh.shown, line_of, sh.there)

module _ {limits : Setting} {rulebook text certificate : List ℕ} {r : Release} (run : ReadRun limits rulebook text certificate r) where
  -- It holds of an accepted release.
  pub run_progressing : Progressing r.goals r.progress
  run_progressing =
      forms_progressing limits run.th r.goals (one_each_read limits run.th text run.read)
      (certificate_proceeds limits run.th r.goals certificate run.store run.taken).0

  -- Each goal of an accepted release has a result, whose step concludes the goal's judgment.
  pub goal_shown : (name : Name) (j : Term) → Memᴰ (goal name j) r.goals → Shown r.progress.steps r.progress.results name j
  goal_shown name j m =
      let none = (certificate_proceeds limits run.th r.goals certificate run.store run.taken).1 in
      ⊎_elim (λ o. none_open _ none o) (λ sh. sh) (run_progressing.open_or_shown name j m)

  -- An accepted release has a goal.
  pub some_goal : 0 < length r.goals
  unfolding goals_of is_zero
  some_goal =
      after _ run.read λ goals s e e₁.
      after_need _ _ _ _ e₁ λ h e₂.
      given_is e₂ λ same z. subst (λ gs. 0 < length gs) same (counted goals h) where
        counted : (gs : List Goal) → not (is_zero (length gs)) ≡ true → 0 < length gs
        counted [] e = absurd (true≢false (sym e))
        counted (g ∷ gs) e = omega arith

  -- One of its goals, to start from.
  pub a_goal : {C : Type 0} → ((name : Name) (j : Term) → Memᴰ (goal name j) r.goals → C) → C
  a_goal f = of_goals r.goals some_goal f where
    of_goals : {C : Type 0} (gs : List Goal) → 0 < length gs → ((name : Name) (j : Term) → Memᴰ (goal name j) gs → C) → C
    of_goals [] h f = absurd (omega arith)
    of_goals (goal name j ∷ gs) h f = f name j (Memᴰ.head refl)

  -- So it has a step.
  pub some_step : 0 < length r.progress.steps
  some_step =
      a_goal λ name j m.
      let sh = goal_shown name j m in
      let h = at_below r.progress.steps sh.number sh.there in
      omega arith

  -- The line of a goal is that of its result's step and of the rule that this step names.
  pub goal_line_lem : (name : Name) (j : Term) (m : Memᴰ (goal name j) r.goals)
      → line_of r.progress (goal name j) ≡ goal_line name (goal_shown name j m).number (rule_name (rule_of (goal_shown name j m).by))
  goal_line_lem name j m = shown_line r.progress (goal_shown name j m)
