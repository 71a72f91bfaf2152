-- No release fills the table. Assumes nothing.
use Prim.Native.Nat.{ℕ, ◌+◌, ◌*◌, ◌≤◌}
use mathlib.Core.Path.{◌≡◌, ap}
use mathlib.Core.List.{List, []}
use native.Mathlib.Omega.{arith}
use lib.ListN.{length}
use Rattle.horn.specs.Refusals.{ok}
use Rattle.horn.specs.Setting.{Setting, document01}
use Rattle.horn.specs.Tokens.{tokens}
use Rattle.horn.specs.NestedLists.{Item, Items, closed, ended, bad_line, ◌then◌, items}
use Rattle.horn.specs.Rulebook.{Theory}
use Rattle.horn.specs.StoredTerms.{Store}
use Rattle.horn.specs.Checker as checker
use Rattle.horn.specs.Checker.{Goal}
use Rattle.horn.specs.Certificate as certificate
use Rattle.horn.specs.Certificate.{Progress}
use Rattle.horn.proofs.Inversion.{after, given_is}
use Rattle.horn.proofs.Inversion.{lift-refused}
use Rattle.capacity.specs.Budgets.{GoalBudget, Budget, Roomy}
use Rattle.capacity.proofs.Shapes.{items_bytes_lem}
use Rattle.capacity.proofs.Forms.{goal_keeps, certificate_keeps}

-- At the start of a text the budget is its length.
pub goals_start : (text : List ℕ) (limit : ℕ) → length text ≤ limit → GoalBudget limit [] (items (tokens text))
goals_start text limit h = record { bound = let a = items_bytes_lem text in omega arith }

pub certificate_start : (text : List ℕ) (limit : ℕ) (goals : List Goal) → length text ≤ limit
    → Budget limit (certificate.begun goals) (items (tokens text))
certificate_start text limit goals h = record { bound = let a = items_bytes_lem text in omega arith }

-- All goals of a goals text.
goals_few : (limits : Setting) (th : Theory) {limit : ℕ} (is : Items) (goals : List Goal) (s : Store) {s' : Store} {more : List Goal}
    → checker.goal_forms limits th goals is s ≡ ok (more, s')
    → GoalBudget limit goals is
    → 11 * length more ≤ limit
unfolding checker.goal_forms
goals_few limits th ended goals s e g = given_is e λ same q. let h = g.bound in let k = ap length same in omega arith
goals_few limits th bad_line goals s e g = lift-refused _ _ e
goals_few limits th closed goals s e g = lift-refused _ _ e
goals_few limits th (item then rest) goals s e g =
    after _ e λ more s₁ e₁ e₂. goals_few limits th rest more s₁ e₂ (goal_keeps limits th goals item rest s e₁ g)

-- What the table holds fits it: goals while they are read, then goals, abbreviations and steps.
pub goals_fit : {base goals_bytes certificate_bytes words : ℕ} {goals : List Goal} {left : Items} → Roomy base goals_bytes certificate_bytes words
    → GoalBudget goals_bytes goals left
    → base + 4 * length goals ≤ words
goals_fit r g = let h = g.bound in let k = r.fits in omega arith

pub tables_fit : {base goals_bytes certificate_bytes words : ℕ} {now : Progress} {left : Items} (goals : ℕ) → Roomy base goals_bytes certificate_bytes words
    → 11 * goals ≤ goals_bytes
    → Budget certificate_bytes now left
    → base + 4 * goals + 4 * length now.defs + 4 * length now.steps ≤ words
tables_fit goals r g b = let h = b.bound in let k = r.fits in omega arith

-- The states that the definition comes to between two forms of a certificate.
pub data Reached (limits : Setting) (th : Theory) (goals : List Goal) (text : List ℕ) : Progress → Items → Store → Type 0 where
  at_start : {left : Items} {s : Store} → left ≡ items (tokens text)
      → Reached limits th goals text (certificate.begun goals) left s
  by_form : {now next : Progress} {item : Item} {rest : Items} {s s' : Store} → Reached limits th goals text now (item then rest) s
      → certificate.certificate_form limits th now item s ≡ ok (next, s')
      → Reached limits th goals text next rest s'

pub reached_budget : {limits : Setting} {th : Theory} {goals : List Goal} {text : List ℕ} {now : Progress} {left : Items} {s : Store} (limit : ℕ)
    → length text ≤ limit
    → Reached limits th goals text now left s
    → Budget limit now left
reached_budget {goals} {text} limit h (at_start e) = rw e (certificate_start text limit goals h)
reached_budget {limits} {th} limit h (by_form {now} {item} {rest} {s} r e) =
    certificate_keeps limits th now item rest s e (reached_budget limit h r)

-- No release fills the table: the goals of a goals text, and what stands in the table between two forms of a certificate. For a reader of these
-- files; no other theorem uses it.
pub never_full : {limits : Setting} {th : Theory} {goals : List Goal} (goals_text : List ℕ) {text : List ℕ} {now : Progress} {left : Items} (s : Store)
    {s₁ s₂ : Store} {base goals_bytes certificate_bytes words : ℕ}
    → Roomy base goals_bytes certificate_bytes words
    → length goals_text ≤ goals_bytes
    → checker.goal_forms limits th [] (items (tokens goals_text)) s ≡ ok (goals, s₁)
    → length text ≤ certificate_bytes
    → Reached limits th goals text now left s₂
    → base + 4 * length goals + 4 * length now.defs + 4 * length now.steps ≤ words
never_full {limits} {th} {goals} goals_text s {goals_bytes} {certificate_bytes} r g e h reached =
    tables_fit (length goals) r
    (goals_few limits th (items (tokens goals_text)) [] s e (goals_start goals_text goals_bytes g))
    (reached_budget certificate_bytes h reached)

-- Document 01's setting, with 64 buckets of goals and 192 of abbreviations.
pub roomy_01 : Roomy (64 + 192) document01.goals_bytes document01.certificate_bytes document01.area_words
unfolding document01
roomy_01 = record { fits = omega arith }
