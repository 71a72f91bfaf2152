-- What one form takes: 11 bytes for a goal, 10 for an abbreviation, 12 for a step, at the least. So the budgets are kept. Assumes nothing.
use Prim.Native.Nat.{ℕ, ◌+◌, ◌*◌, ◌≤◌}
use mathlib.Core.Path.{◌≡◌, refl, ap, sym, ◌∙◌}
use mathlib.Core.Bool.{Bool, true, false, not, ◌&&◌, true≢false}
use mathlib.Core.List.{List, [], ◌∷◌}
use mathlib.Core.Option.{none}
use native.Mathlib.Omega.{arith}
use borrow.Author.Tests.{eqb-true}
use lib.ListN.{length, length-append}
use Rattle.horn.specs.Refusals.{ok}
use Rattle.horn.specs.Setting.{Setting}
use Rattle.horn.specs.Names.{Name, named, same_list, codes, questioned, bare}
use Rattle.horn.specs.NestedLists.{Item, word, group, Items, closed, ended, bad_line, ◌then◌}
use Rattle.horn.specs.Rulebook.{Theory, Rule}
use Rattle.horn.specs.StoredTerms.{Term, Terms, Store}
use Rattle.horn.specs.Matching.{step}
use Rattle.horn.specs.Checker as checker
use Rattle.horn.specs.Checker.{Def, def, Goal, goal}
use Rattle.horn.specs.Certificate as certificate
use Rattle.horn.specs.Certificate.{Progress, Given, given, FormWord, step_word, result_word, def_word, other_form}
use Rattle.horn.proofs.Equality.{case, both, not-true, named_decides}
use Rattle.horn.proofs.Inversion.{not_ok, ok_equal, afterᵣ, after, given_is, afterₗ, after_need, after_found}
use Rattle.horn.proofs.Inversion.{absent_not, lift-absent, lift-refused}
use Rattle.horn.proofs.WasRead.{is_word_lem, is_group, is_asked, is_asked_word, is_asked_group, is_at_closing, ReadTerms, read_none, read_next, read_judgment}
use Rattle.horn.proofs.WasRead.{ReadGoal, read_goal, goal_read}
use Rattle.capacity.specs.Costs.{wide, is_word, word_first, item_cost, items_cost, gap, atom_bytes, item_bytes, items_bytes}
use Rattle.capacity.specs.Budgets.{GoalBudget, Budget}
use Rattle.capacity.proofs.Characters.{wide_some}

-- The items of a number that was asked for.
is_asked_number {ℓ} : {C : Type ℓ} (depth : ℕ) (is : Items) {p : ℕ × Items} → checker.ask_number depth is ≡ ok p
    → ((name : Name) → is ≡ word name then p.1 → C)
    → C
unfolding checker.ask_number checker.number_due
is_asked_number depth is e k =
    afterᵣ _ e λ q e₁ e₂. afterᵣ _ e₂ λ n e₃ e₄. afterᵣ _ e₃ λ name e₅ e₆.
    k name (is_asked depth is e₁ ∙ ap (λ (x : Item). x then q.1) (is_word_lem q.0 e₅) ∙ ap (λ (x : ℕ × Items). word name then x.1) (ok_equal e₄))

-- An item has a byte at least, a list that was read to its closing too.
pub item_some : (item : Item) (b : Bool) → 1 ≤ item_bytes item b
unfolding item_cost atom_bytes
item_some (word bs) b = omega (arith, wide_some bs)
item_some (group inner) b = omega arith

pub more_some : (item : Item) (rest : Items) → 1 ≤ items_bytes (item then rest)
unfolding items_cost
more_some item rest = let h = item_some item (word_first rest) in omega arith

module _ (limits : Setting) (th : Theory) where
  pub references_some : (is : Items) {ns : List ℕ} → certificate.references is ≡ ok ns → 1 ≤ items_bytes is
  unfolding certificate.references items_cost
  references_some closed e = omega arith
  references_some bad_line e = not_ok e
  references_some ended e = absent_not _ _ e
  references_some (item then rest) e = more_some item rest

  pub items_some : (defs : List Def) (r : Rule) (is : Items) (g : Given) (s : Store) {s' : Store} {g' : Given}
      → certificate.step_items limits th defs r is g s ≡ ok (g', s')
      → 1 ≤ items_bytes is
  unfolding certificate.step_items items_cost
  items_some defs r closed g s e = omega arith
  items_some defs r bad_line g s e = lift-refused _ _ e
  items_some defs r ended g s e = lift-absent _ _ _ e
  items_some defs r (item then rest) g s e = more_some item rest

  -- A term has two bytes at least where an atom stands before it, with the byte that parts them.
  pub term_two : (defs : List Def) (depth : ℕ) (item : Item) (b : Bool) (s : Store) {s' : Store} {t : Term}
      → checker.term limits th defs depth item s ≡ ok (t, s')
      → 2 ≤ gap (is_word item) + item_bytes item b
  unfolding checker.term checker.compound_term item_cost is_word gap
  term_two defs depth (word name) b s e = let h = item_some (word name) b in omega arith
  term_two defs depth (group closed) b s e = lift-absent _ _ _ e
  term_two defs depth (group ended) b s e = lift-absent _ _ _ e
  term_two defs depth (group bad_line) b s e = lift-absent _ _ _ e
  term_two defs depth (group (item then rest)) b s e = let h = more_some item rest in omega arith

  pub asked_term {ℓ} : {C : Type ℓ} (defs : List Def) (depth : ℕ) (is : Items) (s : Store) {s' : Store} {q : Term × Items}
      → checker.ask_term limits th defs depth is s ≡ ok (q, s')
      → ((item : Item) → is ≡ item then q.1 → ((b : Bool) → 2 ≤ gap (is_word item) + item_bytes item b) → C)
      → C
  unfolding checker.ask_term
  asked_term defs depth is s e k =
      afterₗ _ _ _ e λ p e₁ e₂. after _ e₂ λ t s₁ e₃ e₄. given_is e₄ λ same u.
      k p.0 (is_asked depth is e₁ ∙ ap (λ (x : Term × Items). p.0 then x.1) same) (λ b. term_two defs depth p.0 b s e₃)

-- The bytes of names.
pub wide_name : (name : Name) (n : ℕ) (key : Name) → named name key ≡ true → wide key ≡ n → wide name ≡ n
wide_name name n key h z = ap wide (named_decides.equal name key h) ∙ z

pub wide_goal : wide (codes "goal") ≡ 4
unfolding wide codes
wide_goal = refl

pub wide_def : wide (codes "def") ≡ 3
unfolding wide codes
wide_def = refl

pub wide_step : wide (codes "step") ≡ 4
unfolding wide codes
wide_step = refl

pub wide_variable : (name : Name) → (questioned name && not (bare name)) ≡ true → 2 ≤ wide name
unfolding wide questioned bare codes named same_list
wide_variable [] h = absurd (true≢false (sym h))
wide_variable (b ∷ []) h =
    let (p, q) = both (questioned (b ∷ [])) (not (bare (b ∷ []))) h in
    let k : b ≡ 0x3F = eqb-true b 0x3F p in
    let z : bare (b ∷ []) ≡ true = rw k refl in
    absurd (true≢false (sym z ∙ not-true (bare (b ∷ [])) q))
wide_variable (b ∷ c ∷ bs) h = omega arith

-- Which head a form has.
by_keyword {ℓ} : {C : Type ℓ} (name : Name) (k : FormWord) → certificate.form_word name ≡ k
    → (k ≡ step_word → wide name ≡ 4 → C)
    → (k ≡ result_word → C)
    → (k ≡ def_word → wide name ≡ 3 → C)
    → (k ≡ other_form → C)
    → C
unfolding certificate.form_word
by_keyword name k e a b c d =
    case (named name (codes "step"))
    (λ p. a (sym (sym (rw (p, certificate.form_word)) ∙ e)) (wide_name name 4 (codes "step") p wide_step))
    (λ p. case (named name (codes "result"))
    (λ q. b (sym (sym (rw (p, certificate.form_word, q)) ∙ e)))
    (λ q. case (named name (codes "def"))
    (λ r. c (sym (sym (rw (p, certificate.form_word, q, r)) ∙ e)) (wide_name name 3 (codes "def") r wide_def))
    (λ r. d (sym (sym (rw (p, certificate.form_word, q, r)) ∙ e)))))

other_keyword {ℓ} : {C : Type ℓ} (f : FormWord → Bool) {a b : FormWord} → a ≡ b → f a ≡ true → f b ≡ false → C
other_keyword f e p q = absurd (true≢false (sym p ∙ ap f e ∙ q))

is_step : FormWord → Bool
is_step step_word = true
is_step result_word = false
is_step def_word = false
is_step other_form = false

is_def : FormWord → Bool
is_def step_word = false
is_def result_word = false
is_def def_word = true
is_def other_form = false

pub is_step_lem : (name : Name) → certificate.form_word name ≡ step_word → wide name ≡ 4
unfolding is_step
is_step_lem name e =
    by_keyword name step_word e (λ k w. w) (λ k. other_keyword is_step k refl refl) (λ k w. other_keyword is_step k refl refl)
    (λ k. other_keyword is_step k refl refl)

pub is_def_lem : (name : Name) → certificate.form_word name ≡ def_word → wide name ≡ 3
unfolding is_def
is_def_lem name e =
    by_keyword name def_word e (λ k w. other_keyword is_def k refl refl) (λ k. other_keyword is_def k refl refl) (λ k w. w) (λ k. other_keyword is_def k refl refl)

module _ (limits : Setting) (th : Theory) where
  -- "(goal N J)". A judgment has three bytes: brackets and a head.
  terms_some : {defs : List Def} {is : Items} {s s' : Store} {ts : Terms} → ReadTerms limits th defs is s ts s' → 1 ≤ items_bytes is
  unfolding items_cost
  terms_some read_none = omega arith
  terms_some (read_next {item} {rest} t ts) = more_some item rest

  goal_some : {goals : List Goal} {item : Item} {s s' : Store} {g : Goal} (b : Bool) → ReadGoal limits th goals item s g s' → 11 ≤ item_bytes item b
  unfolding item_cost items_cost word_first is_word atom_bytes gap
  goal_some b (read_goal {name} {head} new (read_judgment p ts a i)) = omega (arith, wide_goal, wide_some name, wide_some head, terms_some ts)

  pub goal_takes : (goals : List Goal) (item : Item) (b : Bool) (s : Store) {s' : Store} {more : List Goal}
      → checker.goal_form limits th goals item s ≡ ok (more, s')
      → (length more ≡ length goals + 1) × (11 ≤ item_bytes item b)
  goal_takes goals item b s e =
      let (g, added, r) = goal_read limits th goals item s e in
      (ap length (sym added) ∙ length-append goals (g ∷ []), goal_some b r)

  -- "(def ?a T)", behind its head.
  pub def_takes : (now : Progress) (is : Items) (s : Store) {s' : Store} {next : Progress} → certificate.def_form limits th now is s ≡ ok (next, s')
      → (length next.defs ≡ length now.defs + 1) × (length next.steps ≡ length now.steps) × (6 ≤ gap (word_first is) + items_bytes is)
  unfolding certificate.def_form item_cost items_cost word_first is_word atom_bytes gap
  def_takes now is s e =
      afterₗ _ _ _ e λ p e₁ e₂.
      after_need _ _ _ _ e₂ λ h e₃.
      after _ e₃ λ p₁ s₁ e₄ e₅.
      after_need _ _ _ _ e₅ λ new e₆.
      afterₗ _ _ _ e₆ λ u e₇ e₈.
      given_is e₈ λ same q.
      asked_term limits th now.defs 1 p.1 s e₄ λ item i₂ two.
      let w = wide_variable p.0 h in
      let t = two false in (
        ap (λ (x : Progress). length x.defs) (sym same) ∙ length-append now.defs (def p.0 p₁.0 ∷ []),
        ap (λ (x : Progress). length x.steps) (sym same),
        rw (is_asked_word 1 is e₁, i₂, is_at_closing p₁.1 e₇) (omega arith),
      )

  -- "(step I R (I...) item...)", behind its head.
  pub step_takes : (now : Progress) (is : Items) (s : Store) {s' : Store} {next : Progress} → certificate.step_form limits th now is s ≡ ok (next, s')
      → (length next.defs ≡ length now.defs) × (length next.steps ≡ length now.steps + 1) × (7 ≤ gap (word_first is) + items_bytes is)
  unfolding certificate.step_form item_cost items_cost word_first is_word atom_bytes gap
  step_takes now is s e =
      afterₗ _ _ _ e λ p e₁ e₂.
      after_need _ _ _ _ e₂ λ h e₃.
      afterₗ _ _ _ e₃ λ p₁ e₄ e₅.
      afterₗ _ _ _ e₅ λ r e₆ e₇.
      afterₗ _ _ _ e₇ λ p₂ e₈ e₉.
      afterₗ _ _ _ e₉ λ refs f f₁.
      after_need _ _ _ _ f₁ λ n f₂.
      after _ f₂ λ g s₁ f₃ f₄.
      after _ f₄ λ j s₂ f₅ f₆.
      given_is f₆ λ same q.
      is_asked_number 1 is e₁ λ name i₁.
      let a = wide_some name in
      let b = wide_some p₁.0 in
      let c = references_some limits th p₂.0 f in
      let d = items_some limits th now.defs r p₂.1 (given [] none) s f₃ in (
        ap (λ (x : Progress). length x.defs) (sym same),
        ap (λ (x : Progress). length x.steps) (sym same) ∙ length-append now.steps (step j r refs ∷ []),
        rw (i₁, is_asked_word 1 p.1 e₄, is_asked_group 1 p₁.1 e₈) (omega arith),
      )

  pub result_takes : (now : Progress) (is : Items) (s : Store) {s' : Store} {next : Progress} → certificate.result_form limits th now is s ≡ ok (next, s')
      → (length next.defs ≡ length now.defs) × (length next.steps ≡ length now.steps)
  unfolding certificate.result_form
  result_takes now is s e =
      afterₗ _ _ _ e λ p e₁ e₂.
      after_found _ _ _ _ e₂ λ g f₁ e₃.
      afterₗ _ _ _ e₃ λ n e₄ e₅.
      after_found _ _ _ _ e₅ λ st f₂ e₆.
      after_need _ _ _ _ e₆ λ h e₇.
      afterₗ _ _ _ e₇ λ u e₈ e₉.
      given_is e₉ λ same q.
      (ap (λ (x : Progress). length x.defs) (sym same), ap (λ (x : Progress). length x.steps) (sym same))

  -- Any form of a certificate.
  form_takes : (k : FormWord) (now : Progress) (name : Name) (is : Items) (s : Store) {s' : Store} {next : Progress} → certificate.form_word name ≡ k
      → certificate.headed_form limits th k now is s ≡ ok (next, s')
      → 10 * length next.defs + 12 * length next.steps ≤ 10 * length now.defs + 12 * length now.steps +
      (1 + (wide name + gap (word_first is) + items_bytes is))
  unfolding certificate.headed_form
  form_takes step_word now name is s k e =
      let w = is_step_lem name k in let (a, b, c) = step_takes now is s e in omega arith
  form_takes def_word now name is s k e =
      let w = is_def_lem name k in let (a, b, c) = def_takes now is s e in omega arith
  form_takes result_word now name is s k e = let (a, b) = result_takes now is s e in omega arith
  form_takes other_form now name is s k e = lift-refused _ _ e

  pub certificate_takes : (now : Progress) (item : Item) (b : Bool) (s : Store) {s' : Store} {next : Progress}
      → certificate.certificate_form limits th now item s ≡ ok (next, s')
      → 10 * length next.defs + 12 * length next.steps ≤ 10 * length now.defs + 12 * length now.steps + item_bytes item b
  unfolding certificate.certificate_form item_cost items_cost atom_bytes
  certificate_takes now item b s e =
      afterₗ _ _ _ e λ inner e₁ e₂.
      afterₗ _ _ _ e₂ λ p e₃ e₄.
      rw (is_group item e₁, is_asked_word 1 inner e₃) (form_takes (certificate.form_word p.0) now p.0 p.1 s refl e₄)

  -- So each form keeps the budget, whatever comes behind it.
  pub goal_keeps : {limit : ℕ} (goals : List Goal) (item : Item) (rest : Items) (s : Store) {s' : Store} {more : List Goal}
      → checker.goal_form limits th goals item s ≡ ok (more, s')
      → GoalBudget limit goals (item then rest)
      → GoalBudget limit more rest
  unfolding items_cost
  goal_keeps goals item rest s e g =
      let (a, b) = goal_takes goals item (word_first rest) s e in let h = g.bound in record { bound = omega arith }

  pub certificate_keeps : {limit : ℕ} (now : Progress) (item : Item) (rest : Items) (s : Store) {s' : Store} {next : Progress}
      → certificate.certificate_form limits th now item s ≡ ok (next, s')
      → Budget limit now (item then rest)
      → Budget limit next rest
  unfolding items_cost
  certificate_keeps now item rest s e g =
      let a = certificate_takes now item (word_first rest) s e in let h = g.bound in record { bound = omega arith }
