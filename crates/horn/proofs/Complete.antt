-- Completeness: the certificate that is laid out for instances which prove the goals is accepted, if it is within the limits.
use Prim.Native.Nat.{ℕ, ◌+◌, ◌^◌, ◌≤◌}
use native.Mathlib.Omega.{arith}
use mathlib.Core.Path.{◌≡◌, refl, sym, ap, subst, ◌∙◌}
use mathlib.Core.Bool.{true}
use mathlib.Core.List.Memᴰ
use mathlib.Core.List.{List, [], ◌∷◌, ◌++◌, map, map-append, Memᴰ, append_assoc, append-nil}
use mathlib.Core.Logic.{⊎_elim}
use lib.ListN.{length, length-append}
use Rattle.horn.specs.Refusals.{ok}
use Rattle.horn.specs.Setting.{Setting, document01}
use Rattle.horn.specs.Names.{is_zero}
use Rattle.horn.specs.NestedLists.{Sexp, as_item, top_items}
use Rattle.horn.specs.Rulebook.{Theory, theory}
use Rattle.horn.specs.StoredTerms.{Term, Store, empty_store, within_limits}
use Rattle.horn.specs.Checker.{Goal, goal_judgment, goals_of, give}
use Rattle.horn.specs.Matching.{Step, judgment_of}
use Rattle.horn.specs.Certificate.{Witness, certificate_form, certificate_forms, certificate_of}
use Rattle.horn.specs.Calls.{report, report_of, release_judged, release_answer, release_call}
use Rattle.horn.specs.Forced.{Instance, premises, conclusion, Each, judgments}
use Rattle.horn.specs.Layout
use Rattle.horn.specs.Layout.{step_sexps, layout_forms, laid_out, height, depth}
use Rattle.horn.specs.Layout.{subterms, all_subterms, distinct, distinct_terms, requested_nodes, WithinLimits, Supported, no_instance, instance_then, Proves}
use Rattle.horn.specs.Demand3.{Complete}
use Rattle.horn.proofs.Inversion.{onᵣ, on, need_on}
use Rattle.horn.proofs.Accepting.{accepted_gives, read_on_lem}
use Rattle.horn.proofs.GoalsWritten.{read_has, reading_gives}
use Rattle.horn.proofs.GoalsFixed.{goals_fixed}
use Rattle.horn.proofs.SoundnessWords.{WellFormed, conclusion_well_sorted}
use Rattle.horn.proofs.SoundnessRulebook.{theory_formed}
use Rattle.horn.proofs.SoundnessReading.{GoalsApart, text_apart}
use Rattle.horn.proofs.CompleteItems.{items_printed}
use Rattle.horn.proofs.CompleteTheory.{Lookups, theory_looks}
use Rattle.horn.proofs.CompleteCount.{◌⊆◌, to_distinct}
use Rattle.horn.proofs.CompleteStore.{within_limits_holds, with_term, with_all, with_all-append, DrawnFrom, drawn_none, drawn_term, drawn_all, stored_count, requests_all}
use Rattle.horn.proofs.CompleteTerms.{on_lift}
use Rattle.horn.proofs.CompleteGoals.{Known, read_known}
use Rattle.horn.proofs.CompleteSteps.{progress, step_made, result_made, result_back, step_back}
use Rattle.horn.proofs.CompleteLayout.{forms_words, layout_long}

-- The steps that the forms laid out for instances come to, after some steps.
steps_made : List Step → List Instance → List Step
steps_made steps [] = steps
steps_made steps (i ∷ is) = steps_made (steps ++ (step_made steps i ∷ [])) is

steps_made-length : (steps : List Step) (is : List Instance) → length (steps_made steps is) ≡ length steps + length is
unfolding steps_made
steps_made-length steps [] = omega arith
steps_made-length steps (i ∷ is) =
    let h = steps_made-length (steps ++ (step_made steps i ∷ [])) is in
    omega (arith, length-append steps (step_made steps i ∷ []))

conclusions_more : (steps : List Step) (i : Instance) {earlier : List Term} → map judgment_of steps ≡ earlier
    → map judgment_of (steps ++ (step_made steps i ∷ [])) ≡ earlier ++ (conclusion i ∷ [])
unfolding judgment_of
conclusions_more steps i e = map-append judgment_of steps _ ∙ ap (◌++ (conclusion i ∷ [])) e

steps_made_conclusions : (steps : List Step) (is : List Instance) (earlier : List Term) → map judgment_of steps ≡ earlier
    → map judgment_of (steps_made steps is) ≡ earlier ++ map conclusion is
unfolding steps_made
steps_made_conclusions steps [] earlier e = e ∙ sym (append-nil earlier)
steps_made_conclusions steps (i ∷ is) earlier e =
    steps_made_conclusions (steps ++ (step_made steps i ∷ [])) is (earlier ++ (conclusion i ∷ [])) (conclusions_more steps i e)
    ∙ append_assoc earlier (conclusion i ∷ []) (map conclusion is)

module _ (limits : Setting) (th : Theory) (l : Lookups th) (formed : WellFormed th) (us : List Term)
    (within : within_limits limits us ≡ true) where
  steps_back : {earlier : List Term} {is : List Instance} → Supported th earlier is
      → (goals : List Goal) (steps : List Step) (rest : List Sexp) (store : Store)
      → map judgment_of steps ≡ earlier
      → length steps + length is ≤ 2 ^ 64
      → depth (step_sexps earlier is ++ rest) ≤ 256
      → all_subterms (map conclusion is) ⊆ us
      → DrawnFrom us store
      → certificate_forms limits th (progress goals steps []) (top_items (step_sexps earlier is ++ rest)) store
      ≡ certificate_forms limits th (progress goals (steps_made steps is) []) (top_items rest) (with_all (map conclusion is) store)
  unfolding step_sexps steps_made with_all top_items certificate_forms depth all_subterms
  steps_back no_instance goals steps rest store e n d sub f = refl
  steps_back (instance_then {earlier = earlier} {i = i} {is = is} inst prem s) goals steps rest store e n d sub f =
      let j = conclusion i in
      let sub_here : subterms j ⊆ us = λ u m. sub u (Memᴰ.append_left (all_subterms (map conclusion is)) m) in
      let form = step_back limits th l us within i goals steps [] store inst (conclusion_well_sorted formed i inst) (omega arith) sub_here f in
      let next = steps ++ (step_made steps i ∷ []) in
      on _ _ _
      (subst
      (λ x. Each (λ k. Memᴰ k x) (premises i) → height (Layout.step_sexp x i) ≤ 256
      → certificate_form limits th (progress goals steps []) (as_item (Layout.step_sexp x i)) store
      ≡ ok (progress goals next [], with_term j store))
      e form prem (omega arith))
      ∙ steps_back s goals next rest (with_term j store) (conclusions_more steps i e)
      (omega (arith, length-append steps (step_made steps i ∷ []))) (omega arith)
      (λ u m. sub u (Memᴰ.append_right (subterms j) m)) (drawn_term us j store f sub_here)

  results_back : (goals : List Goal) (steps : List Step) (results : List Witness) (store : Store) → GoalsApart goals → length steps ≤ 2 ^ 64
      → Each (λ j. Memᴰ j (map judgment_of steps)) (map goal_judgment goals)
      → certificate_forms limits th (progress goals steps results) (top_items (map (Layout.result_sexp (map judgment_of steps)) goals)) store
      ≡ ok (progress [] steps (results ++ map (result_made (map judgment_of steps)) goals), store)
  unfolding certificate_forms top_items give
  results_back [] steps results store a n e = ap (λ x. ok (progress [] steps x, store)) (sym (append-nil results))
  results_back (g ∷ gs) steps results store a n e =
      let w = result_made (map judgment_of steps) g in
      on _ _ _ (result_back limits th g gs steps results store a n e.0)
      ∙ results_back gs steps (results ++ (w ∷ [])) store a.1 n e.1
      ∙ ap (λ x. ok (progress [] steps x, store)) (append_assoc results (w ∷ []) (map (result_made (map judgment_of steps)) gs))

  -- The whole certificate is read, after goals whose judgments are among the instances' conclusions.
  certificate_back : (goals : List Goal) (is : List Instance) (store : Store) → Proves th goals is → Known goals store
      → GoalsApart goals
      → length is ≤ 2 ^ 64
      → depth (layout_forms goals is) ≤ 256
      → all_subterms (map conclusion is) ⊆ us
      → DrawnFrom us store
      → certificate_of limits th goals (laid_out goals is) store ≡ ok (progress [] (steps_made [] is) (map (result_made (map conclusion is)) goals), with_all (map conclusion is) store)
  unfolding certificate_of laid_out layout_forms judgments is_zero give
  certificate_back goals is store p k apart n d sub f =
      let cs = map conclusion is in
      let results = map (Layout.result_sexp cs) goals in
      let final = with_all cs store in
      let concluded : map judgment_of (steps_made [] is) ≡ cs = steps_made_conclusions [] is [] refl in
      let count = steps_made-length [] is in
      let closing =
      subst
      (λ x. Each (λ j. Memᴰ j x) (map goal_judgment goals)
      → certificate_forms limits th (progress goals (steps_made [] is) []) (top_items (map (Layout.result_sexp x) goals)) final
      ≡ ok (progress [] (steps_made [] is) (map (result_made x) goals), final))
      concluded (results_back goals (steps_made [] is) [] final apart (omega arith)) p.reached in
      on _ _ _
      (ap (λ x. certificate_forms limits th (progress goals [] []) x store)
      (items_printed (layout_forms goals is) (forms_words th l formed goals p.supported k.words))
      ∙ steps_back p.supported goals [] results store refl (omega arith) d sub f
      ∙ closing)
      ∙ on_lift _ _ _ (need_on _ refl)

-- The subterms of a part of a list are among those of the whole.
first_part : (xs ys : List Term) → all_subterms xs ⊆ all_subterms (xs ++ ys)
unfolding all_subterms
first_part [] ys u m = elim m [ ]
first_part (x ∷ xs) ys u m =
    ⊎_elim
    (λ k. Memᴰ.append_left (all_subterms (xs ++ ys)) k)
    (λ k. Memᴰ.append_right (subterms x) (first_part xs ys u k))
    (Memᴰ.append_cases (subterms x) m)

second_part : (xs ys : List Term) → all_subterms ys ⊆ all_subterms (xs ++ ys)
unfolding all_subterms
second_part [] ys u m = m
second_part (x ∷ xs) ys u m = Memᴰ.append_right (subterms x) (second_part xs ys u m)

module _ (limits : Setting) (a b c d : ℕ) (rulebook text : List ℕ) {th : Theory} {goals : List Goal} {store : Store} (is : List Instance)
    (short : length rulebook ≤ limits.rulebook_bytes) (e : theory rulebook ≡ ok th) where
  -- The report, for goals that reading gives with the store that it leaves.
  complete_read : limits.certificate_bytes ≤ 2 ^ 64 → length text ≤ limits.goals_bytes
      → goals_of limits th text empty_store ≡ ok (goals, store)
      → Proves th goals is
      → WithinLimits limits a b c d goals is
      → release_call limits a b c d rulebook text (laid_out goals is)
      ≡ report 0 (length is) (length goals) (length (distinct_terms goals is)) (length (laid_out goals is)) (requested_nodes goals is)
  unfolding release_call release_judged report_of release_answer distinct_terms requested_nodes
  complete_read bound short_text read p w =
      let js = judgments goals ++ map conclusion is in
      let us = distinct (all_subterms js) in
      let k = read_known limits th text read in
      let in_us : all_subterms js ⊆ us = to_distinct (all_subterms js) in
      let f : DrawnFrom us store =
      subst (DrawnFrom us) (sym k.has)
      (drawn_all us (judgments goals) empty_store (drawn_none us) (λ u m. in_us u (first_part (judgments goals) (map conclusion is) u m))) in
      let n : length is ≤ 2 ^ 64 = omega (arith, layout_long goals is, w.short) in
      let certificate =
      certificate_back limits th (theory_looks rulebook e) (theory_formed rulebook e) us
      (within_limits_holds limits us w.few w.small) goals is store p k (text_apart limits th text read) n w.shallow
      (λ u m. in_us u (second_part (judgments goals) (map conclusion is) u m)) f in
      let final = ap (with_all (map conclusion is)) k.has ∙ sym (with_all-append (judgments goals) (map conclusion is) empty_store) in
      let count : length (steps_made [] is) ≡ length is = let h = steps_made-length [] is in omega arith in
      ap release_answer
      (onᵣ _ (read_on_lem rulebook text (laid_out goals is) w.areas short short_text w.short e read certificate))
      ∙ ap
      (λ x. report 0 x (length goals) (length (with_all (map conclusion is) store).terms) (length (laid_out goals is))
      (length (with_all (map conclusion is) store).requests))
      count
      ∙ ap
      (λ (x : Store). report 0 (length is) (length goals) (length x.terms) (length (laid_out goals is)) (length x.requests))
      final
      ∙ ap
      (λ x. report 0 (length is) (length goals) x (length (laid_out goals is)) (length (with_all js empty_store).requests))
      (stored_count js)
      ∙ ap (report 0 (length is) (length goals) (length us) (length (laid_out goals is))) (let h = requests_all js empty_store in omega arith)

-- The second half of demand 3, with the counts of the report. A number of a certificate is below 2 to the 64, so a setting may let
-- a certificate have no more bytes than that.
pub complete : (limits : Setting) → limits.certificate_bytes ≤ 2 ^ 64 → (a b c d : ℕ) (rulebook text certificate : List ℕ)
    → Complete limits a b c d rulebook text certificate (release_call limits a b c d rulebook text certificate)
complete limits bound a b c d rulebook text certificate =
    record {
      accepts_layout = λ th goals is acc e r has p w same.
          let (th', g) = accepted_gives acc in
          let (q, read) = reading_gives limits th text r in
          let fixed = goals_fixed rulebook text e (read_has limits th text read) has in
          rw same
          (complete_read limits a b c d rulebook text is g.short e bound r.short
          (subst (λ gs. goals_of limits th text empty_store ≡ ok (gs, q.1)) fixed read) p w);
    }

-- Under 01's own limits.
pub complete_01 : (a b c d : ℕ) (rulebook text certificate : List ℕ)
    → Complete document01 a b c d rulebook text certificate (release_call document01 a b c d rulebook text certificate)
complete_01 = complete document01 (unfold document01 in omega arith)
