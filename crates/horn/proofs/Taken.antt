-- What a form of a certificate that is not refused has done: an abbreviation more, a step more, or a goal that is open no longer.
-- All that is proved of a certificate's forms goes over these.
use Prim.Native.Nat.{ℕ}
use mathlib.Core.Path.{◌≡◌, subst}
use mathlib.Core.Bool.{true}
use mathlib.Core.List.{List, []}
use mathlib.Core.Option.{none, some}
use lib.ListN.{length, get_elem?}
use Rattle.horn.specs.Refusals.{ok}
use Rattle.horn.specs.Setting.{Setting}
use Rattle.horn.specs.Names.{Name, first, is_zero}
use Rattle.horn.specs.Tokens.{tokens}
use Rattle.horn.specs.NestedLists.{Item, Items, closed, ended, bad_line, ◌then◌, items}
use Rattle.horn.specs.Rulebook.{Rule, Theory, rule_named}
use Rattle.horn.specs.StoredTerms.{Term, same_term, Store}
use Rattle.horn.specs.Checker.{def, Goal, is_goal, goal_judgment, ask_term}
use Rattle.horn.specs.Matching.{Step, step, judgment_of}
use Rattle.horn.specs.Certificate
use Rattle.horn.specs.Certificate.{Progress, begun, with_def, with_step, with_result, Given, given, step_items, conclude, certificate_form, certificate_forms}
use Rattle.horn.specs.Certificate.{certificate_of}
use Rattle.horn.specs.Certificate.{FormWord, step_word, result_word, def_word, other_form}
use Rattle.horn.specs.Arising.{Proceeds, proceeds_none, proceeds_next}
use Rattle.horn.proofs.Inversion.{after, given_is, afterₗ, after_need, after_found, lift-refused}

module _ (limits : Setting) (th : Theory) where
  pub data Taken (now : Progress) (s : Store) : Progress → Type 0 where
    def_taken : (name : Name) (is : Items) {q : Term × Items} {s₁ : Store} → ask_term limits th now.defs 1 is s ≡ ok (q, s₁)
        → Taken now s (with_def now (def name q.0))
    step_taken : (name : Name) (is : Items) (refs : List ℕ) {r : Rule} {g : Given} {j : Term} {s₁ s₂ : Store} → rule_named th name ≡ ok r
        → step_items limits th now.defs r is (given [] none) s ≡ ok (g, s₁)
        → conclude limits th now.steps r refs g s₁ ≡ ok (j, s₂)
        → Taken now s (with_step now (step j r refs))
    result_taken : (name : Name) (n : ℕ) {g : Goal} {t : Step} → first (is_goal name) now.open_goals ≡ some g
        → get_elem? now.steps n ≡ some t
        → same_term (judgment_of t) (goal_judgment g) ≡ true
        → Taken now s (with_result now name n)

  def_is : (now : Progress) (is : Items) (s : Store) {s' : Store} {next : Progress} → Certificate.def_form limits th now is s ≡ ok (next, s')
      → Taken now s next
  unfolding Certificate.def_form
  def_is now is s e =
      afterₗ _ _ _ e λ p e₁ e₂.
      after_need _ _ _ _ e₂ λ h e₃.
      after _ e₃ λ q s₁ e₄ e₅.
      after_need _ _ _ _ e₅ λ h₁ e₆.
      afterₗ _ _ _ e₆ λ u e₇ e₈.
      given_is e₈ λ same z. subst (Taken now s) same (def_taken p.0 p.1 e₄)

  step_is : (now : Progress) (is : Items) (s : Store) {s' : Store} {next : Progress} → Certificate.step_form limits th now is s ≡ ok (next, s')
      → Taken now s next
  unfolding Certificate.step_form
  step_is now is s e =
      afterₗ _ _ _ e λ p e₁ e₂.
      after_need _ _ _ _ e₂ λ h e₃.
      afterₗ _ _ _ e₃ λ p₁ e₄ e₅.
      afterₗ _ _ _ e₅ λ r e₆ e₇.
      afterₗ _ _ _ e₇ λ p₂ e₈ e₉.
      afterₗ _ _ _ e₉ λ refs f f₁.
      after_need _ _ _ _ f₁ λ h₁ f₂.
      after _ f₂ λ g s₁ f₃ f₄.
      after _ f₄ λ j s₂ f₅ f₆.
      given_is f₆ λ same z. subst (Taken now s) same (step_taken p₁.0 p₂.1 refs e₆ f₃ f₅)

  result_is : (now : Progress) (is : Items) (s : Store) {s' : Store} {next : Progress} → Certificate.result_form limits th now is s ≡ ok (next, s')
      → Taken now s next
  unfolding Certificate.result_form
  result_is now is s e =
      afterₗ _ _ _ e λ p e₁ e₂.
      after_found _ _ _ _ e₂ λ g f e₃.
      afterₗ _ _ _ e₃ λ q e₄ e₅.
      after_found _ _ _ _ e₅ λ t h e₆.
      after_need _ _ _ _ e₆ λ k e₇.
      afterₗ _ _ _ e₇ λ u e₈ e₉.
      given_is e₉ λ same z. subst (Taken now s) same (result_taken p.0 q.0 f h k)

  headed_is : (k : FormWord) (now : Progress) (is : Items) (s : Store) {s' : Store} {next : Progress}
      → Certificate.headed_form limits th k now is s ≡ ok (next, s')
      → Taken now s next
  unfolding Certificate.headed_form
  headed_is step_word now is s e = step_is now is s e
  headed_is result_word now is s e = result_is now is s e
  headed_is def_word now is s e = def_is now is s e
  headed_is other_form now is s e = lift-refused _ _ e

  pub form_taken : (now : Progress) (item : Item) (s : Store) {s' : Store} {next : Progress} → certificate_form limits th now item s ≡ ok (next, s')
      → Taken now s next
  unfolding certificate_form
  form_taken now item s e = afterₗ _ _ _ e λ inner e₁ e₂. afterₗ _ _ _ e₂ λ p e₃ e₄. headed_is _ now p.1 s e₄

  -- The forms of a certificate, one after another.
  pub proceeds_last : (is : Items) (now : Progress) (s : Store) {t : Store} {last : Progress} → certificate_forms limits th now is s ≡ ok (last, t)
      → Proceeds limits th now is s last t
  unfolding certificate_forms
  proceeds_last ended now s {t} e =
      given_is e λ same q. subst (λ (x : Progress). Proceeds limits th now ended s x t) same (subst (Proceeds limits th now ended s now) q proceeds_none)
  proceeds_last bad_line now s e = lift-refused _ _ e
  proceeds_last closed now s e = lift-refused _ _ e
  proceeds_last (item then rest) now s e = after _ e λ next t e₁ e₂. proceeds_next e₁ (proceeds_last rest next t e₂)

  -- A certificate that is not refused: its forms proceed to the last, and no goal is open then.
  pub certificate_proceeds : (goals : List Goal) (text : List ℕ) (s : Store) {t : Store} {last : Progress} → certificate_of limits th goals text s ≡ ok (last, t)
      → Proceeds limits th (begun goals) (items (tokens text)) s last t × (is_zero (length last.open_goals) ≡ true)
  unfolding certificate_of
  certificate_proceeds goals text s {t = u} {last = last} e =
      after _ e λ final t e₁ e₂.
      after_need _ _ _ _ e₂ λ h e₃.
      given_is e₃ λ same q.
      let is = items (tokens text) in
      let p : Proceeds limits th (begun goals) is s final u = subst (Proceeds limits th (begun goals) is s final) q (proceeds_last is (begun goals) s e₁) in
      (subst (λ (x : Progress). Proceeds limits th (begun goals) is s x u) same p, subst (λ (x : Progress). is_zero (length x.open_goals) ≡ true) same h)
