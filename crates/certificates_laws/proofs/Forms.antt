-- The forms of a certificate, in order. Assumes nothing.
use Prim.Native.Nat.{ℕ, zero, suc, ◌≤◌}
use mathlib.Core.Path.{◌≡◌, refl}
use mathlib.Core.List.{List}
use native.Mathlib.Omega.{arith}
use lib.ListN.{length}
use Rattle.certificates.specs.Below.horn.specs.Refusals as refusals
use Rattle.certificates.specs.Below.horn.specs.Refusals.{number}
use Rattle.certificates.specs.Below.horn.specs.Setting.{document01}
use Rattle.certificates.specs.Below.horn.specs.NestedLists.{group, Items, ◌then◌}
use Rattle.certificates.specs.Below.horn.specs.Rulebook.{Theory}
use Rattle.certificates.specs.Below.horn.specs.StoredTerms.{Store}
use Rattle.certificates.specs.Below.horn.specs.Checker as checker
use Rattle.certificates.specs.Below.horn.specs.Checker.{Goal}
use Rattle.certificates.specs.Below.horn.specs.Certificate as definition
use Rattle.certificates.specs.Below.horn.specs.Certificate.{Progress}
use Rattle.certificates.specs.Below.horn.proofs.Counts.{item_count}
use Rattle.certificates.specs.Below.horn.proofs.SoundnessWords.{WellFormed}
use Rattle.certificates.specs.Below.lex.specs.declared.Reader.{Reader}
use Rattle.certificates.specs.Below.outcomes.specs.Outcomes.{Outcome}
use Rattle.certificates.specs.Below.outcomes.specs.Leaving as leaving
use Rattle.certificates.specs.Below.outcomes.specs.Leaving.{◌leaving◌}
use Rattle.certificates.specs.Below.outcomes.specs.Simulation.{Simulates, refuse, leave, bind, knowing_answer}
use Rattle.certificates.specs.Below.items.specs.Places as places
use Rattle.certificates.specs.Below.theory_laws.specs.Representation.{Entries, Holds}
use Rattle.certificates.specs.Below.tables.specs.declared.Tally.{Tally}
use Rattle.certificates.specs.Below.asking.specs.Asking.{Top}
use Rattle.steps_laws.specs.Below.asking_laws.proofs.Places.{RestComes, Any, At, at_less}
use Rattle.steps_laws.specs.Below.asking_laws.proofs.Asking.{FormMet, form_over, form_bad, form_closing, form_atom, form_list}
use Rattle.steps_laws.specs.Below.asking_laws.proofs.Asking as asking
use Rattle.steps_laws.specs.Below.terms_laws.proofs.Judgments.{lifted}
use Rattle.steps_laws.proofs.Whole.{step_law}
use Rattle.certificates.specs.Certificates as walk
use Rattle.certificates.specs.Certificates.{AllAreas}
use Rattle.certificates.specs.Below.forms.specs.declared.Keyword as walk_keyword
use Rattle.certificates_laws.proofs.Heads.{Headed, is_step_lem, is_result, is_def_lem, is_other, headed}
use Rattle.certificates_laws.proofs.Asked.{member_law}
use Rattle.certificates_laws.proofs.Standing.{StepRecorded, Standing, Finished}
use Rattle.certificates_laws.proofs.Defs.{def_law}
use Rattle.certificates_laws.proofs.Results.{result_law}
use Rattle.certificates_laws.proofs.Recording.{step_form_law}

-- From a reader before some forms, with so many turns.
abbrev pub Reads : List ℕ → List ℕ → Entries → ℕ → Theory → List ℕ → List ℕ → List Goal → ℕ → Type 0
Reads rules heap es bound th goals_text certificate goals fuel =
    (is : Items) (tally : Tally) (r : Reader) (areas : AllAreas) (now : Progress) (ts : Store) → suc (item_count is) ≤ fuel
    → Standing rules heap es bound th goals_text certificate goals is (tally, r) areas (now, ts)
    → Simulates (Finished rules heap es bound th goals_text certificate goals)
    (walk.forms_from fuel certificate goals_text rules tally r areas.0.0.0 areas.0.0.1 areas.0.1 areas.1)
    (definition.certificate_forms document01 th now is ts)

module _ {rules heap : List ℕ} {es : Entries} {bound : ℕ} {th : Theory} (h : Holds rules heap es bound th) (high : bound ≤ places.theory_end)
    (w : WellFormed th) (goals_text certificate : List ℕ) (short : length certificate ≤ 32768) {goals : List Goal} where
  module _ (inner rest : Items) {tally : Tally} {r : Reader} {areas : AllAreas} {now : Progress} {ts : Store}
      (s : Standing rules heap es bound th goals_text certificate goals (group inner then rest) (tally, r) areas (now, ts)) where
    -- The form by its head.
    by_head : {k : walk_keyword.Keyword} {k' : definition.FormWord} (is : Items) (q : Reader) → Headed k k'
        → definition.certificate_form document01 th now (group inner) ts ≡ definition.headed_form document01 th k' now is ts
        → At certificate (RestComes is (RestComes rest Any)) 0 q
        → Simulates (Standing rules heap es bound th goals_text certificate goals rest)
        (walk.headed_form k certificate goals_text rules tally q areas.0.0.0 areas.0.0.1 areas.0.1 areas.1)
        (definition.headed_form document01 th k' now is ts)
    unfolding definition.headed_form checker.lift refusals.◌>>=◌ number
    by_head is q is_step_lem e at_items =
        step_form_law goals_text certificate now areas.0.0.0 areas.0.0.1 areas.0.1 (group inner) rest is q s.between e
        (step_law h high w goals_text certificate short now (StepRecorded rules heap es bound th certificate ts) (λ j e p q c k. k.means) s.between.tables
        (RestComes rest Any) is q
        areas.0.0.1 s.stored s.long s.keeps at_items)
    by_head is q is_result e at_items =
        result_law h goals_text certificate now areas.0.0.1 s.stored s.long s.keeps (group inner) rest is q s.between e at_items
    by_head is q is_def_lem e at_items =
        def_law h high goals_text certificate short now areas.0.0.1 s.stored s.long s.keeps (group inner) rest is q s.between e at_items
    by_head is q is_other e at_items = refuse refl

    -- A form, its opening taken.
    pub form_law : (q : Reader) → At certificate (RestComes inner (RestComes rest Any)) 0 q
        → Simulates (Standing rules heap es bound th goals_text certificate goals rest)
        (walk.form_read certificate goals_text rules tally q areas.0.0.0 areas.0.0.1 areas.0.1 areas.1)
        (definition.certificate_form document01 th now (group inner) ts)
    unfolding walk.form_read definition.certificate_form checker.◌>>=◌ checker.lift checker.group_due refusals.◌>>=◌
    form_law q at_items =
        lifted ts _ _ (knowing_answer (member_law certificate (RestComes rest Any) 0 inner at_items)) (λ x y p.
        rw p.0.name
        (by_head y.1 x.2 (headed y.0) (rw p.1) (at_less 0 (omega arith) p.0.reader)))

  -- One turn, by what comes at top level.
  one_turn : (fuel : ℕ) → Reads rules heap es bound th goals_text certificate goals fuel
      → {is : Items} {o : Outcome Top} (tally : Tally) (r : Reader) (areas : AllAreas) (now : Progress) (ts : Store) → item_count is ≤ fuel
      → Standing rules heap es bound th goals_text certificate goals is (tally, r) areas (now, ts)
      → FormMet certificate Any 0 is o
      → Simulates (Finished rules heap es bound th goals_text certificate goals)
      (leaving.◌>>=◌ (o leaving areas)
      (λ p. walk.one_form (walk.forms_from fuel certificate goals_text rules) certificate goals_text rules tally p.0 areas.0.0.0 areas.0.0.1
      areas.0.1 areas.1))
      (definition.certificate_forms document01 th now is ts)
  unfolding definition.certificate_forms checker.◌>>=◌ checker.lift checker.give checker.group_due definition.certificate_form refusals.◌>>=◌ number item_count
  one_turn fuel on tally r areas now ts l s form_over =
      let b = s.between.budget.bound in
      leave record { tables = s.between.tables; stored = s.stored; long = s.long; keeps = s.keeps; few_goals = s.between.few; few_steps = omega arith }
  one_turn fuel on tally r areas now ts l s form_bad = refuse refl
  one_turn fuel on tally r areas now ts l s form_closing = refuse refl
  one_turn fuel on tally r areas now ts l s form_atom = refuse refl
  one_turn fuel on tally r areas now ts l s (form_list {q} {inner} {rest} there) =
      bind _ _ (form_law inner rest s q there) (λ x left y k. on rest x.0 x.1 left y.0 y.1 l k)

  -- All forms, in order: a turn for each, and one that sees the end.
  pub forms_law : (fuel : ℕ) → Reads rules heap es bound th goals_text certificate goals fuel
  unfolding walk.forms_from
  forms_law zero is tally r areas now ts l s = absurd (omega arith)
  forms_law (suc fuel) is tally r areas now ts l s =
      one_turn fuel (forms_law fuel) tally r areas now ts (omega arith) s (asking.form_law certificate Any 0 is s.reader)
