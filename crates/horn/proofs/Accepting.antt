-- What acceptance means for the definition. A rulebook is accepted exactly if it is short enough and gives a theory, and one answer 0,
-- on areas of whatever lengths, is enough for it. A release with number 0 has met a theory, goals and steps on its way.
use Prim.Native.Nat.{ℕ, ◌≤◌, ◌<◌}
use mathlib.Core.Path.{◌≡◌, refl, ap, subst, ◌∙◌}
use mathlib.Core.List.{List}
use native.Mathlib.Omega.{arith}
use lib.ListN.{length}
use borrow.Author.Tests.{le-leb, leb-true}
use Rattle.horn.specs.Refusals.{Refusal, number, Result, ok, refused}
use Rattle.horn.specs.Setting.{Setting}
use Rattle.horn.specs.Rulebook.{Theory, theory}
use Rattle.horn.specs.StoredTerms.{Store, empty_store}
use Rattle.horn.specs.Checker.{Goal, goals_of}
use Rattle.horn.specs.Certificate.{Progress, certificate_of}
use Rattle.horn.specs.Calls.{areas_long, rulebook_judged, rulebook_answer, rulebook_call, Report, Release, report_of, release_read, release_judged}
use Rattle.horn.specs.Calls.{release_answer, release_call}
use Rattle.horn.specs.Forced.{LongEnough, Accepted}
use Rattle.horn.proofs.Inversion.{ok_equal, afterᵣ, after_needᵣ, onᵣ, need_on}

-- No refusal has the number of acceptance.
pub number_positive : (r : Refusal) → 0 < number r
unfolding number
number_positive Refusal.area_short = omega arith
number_positive Refusal.text_long = omega arith
number_positive Refusal.not_utf8 = omega arith
number_positive Refusal.nesting = omega arith
number_positive Refusal.text_ends = omega arith
number_positive Refusal.stray_closing = omega arith
number_positive Refusal.atom_or_list = omega arith
number_positive Refusal.empty_list = omega arith
number_positive Refusal.form = omega arith
number_positive Refusal.excess = omega arith
number_positive Refusal.variable_name = omega arith
number_positive Refusal.unknown = omega arith
number_positive Refusal.duplicate = omega arith
number_positive Refusal.two_sorts = omega arith
number_positive Refusal.sort_arity = omega arith
number_positive Refusal.bracketed_constant = omega arith
number_positive Refusal.no_goal = omega arith
number_positive Refusal.not_number = omega arith
number_positive Refusal.step_order = omega arith
number_positive Refusal.reference_count = omega arith
number_positive Refusal.bad_binding = omega arith
number_positive Refusal.second_conclusion = omega arith
number_positive Refusal.bad_conclusion = omega arith
number_positive Refusal.no_such_step = omega arith
number_positive Refusal.bad_premise = omega arith
number_positive Refusal.unbound = omega arith
number_positive Refusal.other_judgment = omega arith
number_positive Refusal.store_full = omega arith
number_positive Refusal.goal_open = omega arith
number_positive Refusal.not_opened = omega arith
number_positive Refusal.output_long = omega arith

-- The rulebook is short enough, and this is its theory.
pub record Gives (limits : Setting) (rulebook : List ℕ) (th : Theory) : Type 0 where
  pub short : length rulebook ≤ limits.rulebook_bytes
  pub gives : theory rulebook ≡ ok th

pub areas_long-ok : {limits : Setting} {a b c d : ℕ} → LongEnough limits a b c d → areas_long limits a b c d ≡ ok tt
unfolding areas_long
areas_long-ok {limits} {a} {b} {c} {d} l =
    onᵣ _ (need_on _ (le-leb limits.area_words a l.first_area))
    ∙ onᵣ _ (need_on _ (le-leb limits.area_words b l.second_area))
    ∙ onᵣ _ (need_on _ (le-leb limits.area_words c l.third_area))
    ∙ need_on _ (le-leb limits.last_area_words d l.fourth_area)

answered_ok : (r : Result Theory) → (rulebook_answer r).number ≡ 0 → (th : Theory) × (r ≡ ok th)
unfolding rulebook_answer
answered_ok (ok th) e = (th, refl)
answered_ok (refused r) e = let h = number_positive r in absurd (omega arith)

-- A rulebook that gives a theory is accepted.
pub gives_accepted : {limits : Setting} {rulebook : List ℕ} {th : Theory} → Gives limits rulebook th → Accepted limits rulebook
unfolding rulebook_call rulebook_judged rulebook_answer
gives_accepted {limits} {rulebook} g =
    record {
      answers_zero = λ a b c d l.
          ap (λ r. (rulebook_answer r).number)
          (onᵣ _ (areas_long-ok l) ∙ onᵣ _ (need_on _ (le-leb (length rulebook) limits.rulebook_bytes g.short)) ∙ g.gives);
    }

-- A rulebook that is answered 0 once gives a theory.
pub judged_gives : (limits : Setting) (a b c d : ℕ) (rulebook : List ℕ) {th : Theory} → rulebook_judged limits a b c d rulebook ≡ ok th
    → Gives limits rulebook th
unfolding rulebook_judged
judged_gives limits a b c d rulebook e = afterᵣ _ e λ u e₁ e₂. after_needᵣ _ _ _ e₂ λ h e₃. record { short = leb-true _ _ h; gives = e₃ }

pub answer_gives : (limits : Setting) (a b c d : ℕ) (rulebook : List ℕ) → (rulebook_call limits a b c d rulebook).number ≡ 0
    → (th : Theory) × Gives limits rulebook th
unfolding rulebook_call
answer_gives limits a b c d rulebook e =
    let (th, p) = answered_ok (rulebook_judged limits a b c d rulebook) e in
    (th, judged_gives limits a b c d rulebook p)

-- So a rulebook that is accepted gives a theory.
pub accepted_gives : {limits : Setting} {rulebook : List ℕ} → Accepted limits rulebook → (th : Theory) × Gives limits rulebook th
accepted_gives {limits} {rulebook} acc =
    answer_gives limits limits.area_words limits.area_words limits.area_words limits.last_area_words rulebook
    (acc.answers_zero _ _ _ _ record { first_area = omega arith; second_area = omega arith; third_area = omega arith; fourth_area = omega arith })

-- What a call with three texts has met on its way to a release that is not refused.
pub record ReadRun (limits : Setting) (rulebook text certificate : List ℕ) (r : Release) : Type 0 where
  pub th : Theory
  pub store : Store
  pub short : length rulebook ≤ limits.rulebook_bytes
  pub short_text : length text ≤ limits.goals_bytes
  pub short_certificate : length certificate ≤ limits.certificate_bytes
  pub gives : theory rulebook ≡ ok th
  pub read : goals_of limits th text empty_store ≡ ok (r.goals, store)
  pub taken : certificate_of limits th r.goals certificate store ≡ ok (r.progress, r.store)

pub read_run : (limits : Setting) (a b c d : ℕ) (rulebook text certificate : List ℕ) {r : Release}
    → release_read limits a b c d rulebook text certificate ≡ ok r
    → ReadRun limits rulebook text certificate r
unfolding release_read
read_run limits a b c d rulebook text certificate e =
    afterᵣ _ e λ u e₁ e₂.
    after_needᵣ _ _ _ e₂ λ short e₃.
    after_needᵣ _ _ _ e₃ λ short_text e₄.
    after_needᵣ _ _ _ e₄ λ short_certificate e₅.
    afterᵣ _ e₅ λ th e₆ e₇.
    afterᵣ _ e₇ λ p e₈ e₉.
    afterᵣ _ e₉ λ q f f₁.
    subst (ReadRun limits rulebook text certificate) (ok_equal f₁)
    record {
      th = th;
      store = p.1;
      short = leb-true _ _ short;
      short_text = leb-true _ _ short_text;
      short_certificate = leb-true _ _ short_certificate;
      gives = e₆;
      read = e₈;
      taken = f;
    }

-- The way back: areas long enough, texts short enough, a theory, goals and a certificate that is taken give the release.
pub read_on_lem : {limits : Setting} {a b c d : ℕ} (rulebook text certificate : List ℕ) {th : Theory} {goals : List Goal} {s t : Store} {last : Progress}
    → LongEnough limits a b c d
    → length rulebook ≤ limits.rulebook_bytes
    → length text ≤ limits.goals_bytes
    → length certificate ≤ limits.certificate_bytes
    → theory rulebook ≡ ok th
    → goals_of limits th text empty_store ≡ ok (goals, s)
    → certificate_of limits th goals certificate s ≡ ok (last, t)
    → release_read limits a b c d rulebook text certificate ≡ ok record { goals = goals; progress = last; store = t }
unfolding release_read
read_on_lem {limits} rulebook text certificate l short short_text short_certificate gives read taken =
    onᵣ _ (areas_long-ok l)
    ∙ onᵣ _ (need_on _ (le-leb (length rulebook) limits.rulebook_bytes short))
    ∙ onᵣ _ (need_on _ (le-leb (length text) limits.goals_bytes short_text))
    ∙ onᵣ _ (need_on _ (le-leb (length certificate) limits.certificate_bytes short_certificate))
    ∙ onᵣ _ gives
    ∙ onᵣ _ read
    ∙ onᵣ _ taken

-- The same of a report.
pub record AcceptedRun (limits : Setting) (rulebook text certificate : List ℕ) (answer : Report) : Type 0 where
  pub release : Release
  pub met : ReadRun limits rulebook text certificate release
  pub answers : report_of (length certificate) release ≡ answer

pub judged_run : (limits : Setting) (a b c d : ℕ) (rulebook text certificate : List ℕ) {answer : Report}
    → release_judged limits a b c d rulebook text certificate ≡ ok answer
    → AcceptedRun limits rulebook text certificate answer
unfolding release_judged
judged_run limits a b c d rulebook text certificate e =
    afterᵣ _ e λ r e₁ e₂. record { release = r; met = read_run limits a b c d rulebook text certificate e₁; answers = ok_equal e₂ }

pub accepted_answer : (r : Result Report) → (release_answer r).number ≡ 0 → r ≡ ok (release_answer r)
unfolding release_answer
accepted_answer (refused r) e = let h = number_positive r in absurd (omega arith)
accepted_answer (ok a) e = refl

pub accepted_run : (limits : Setting) (a b c d : ℕ) (rulebook text certificate : List ℕ)
    → (release_call limits a b c d rulebook text certificate).number ≡ 0
    → AcceptedRun limits rulebook text certificate (release_call limits a b c d rulebook text certificate)
unfolding release_call
accepted_run limits a b c d rulebook text certificate zero_number =
    judged_run limits a b c d rulebook text certificate (accepted_answer (release_judged limits a b c d rulebook text certificate) zero_number)
