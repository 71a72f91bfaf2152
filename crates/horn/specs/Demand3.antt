-- Demand 3 in the words of "Words of demand 3" and "Layout for the converse" in document 01: what the contract of the call with three
-- texts says of its report, besides which report it is.
use Rattle.std.specs.Prelude.{ℕ, ◌≤◌, ◌≡◌, length}
use mathlib.Core.List.{List, Memᴰ}
use Rattle.horn.specs.Refusals.{ok}
use Rattle.horn.specs.Setting.{Setting}
use Rattle.horn.specs.Rulebook.{Theory, theory}
use Rattle.horn.specs.StoredTerms.{Term}
use Rattle.horn.specs.Checker.{Goal, goal_judgment}
use Rattle.horn.specs.Calls.{Report, report}
use Rattle.horn.specs.Forced.{Instance, Derivable, Accepted, ReadWithoutRefusal, HasGoals}
use Rattle.horn.specs.Layout.{laid_out, distinct_terms, requested_nodes, Proves, WithinLimits}

-- What is said of a rulebook and a goals text: the rulebook is accepted and gives a theory; the goals text is read without refusal under it
-- and has goals, at least one; and `Said` holds of each goal's judgment.
pub record Established {ℓ} (limits : Setting) (rulebook text : List ℕ) (Said : Theory → Term → Type ℓ) : Type ℓ where
  pub th : Theory
  pub gives : theory rulebook ≡ ok th
  pub accepted : Accepted limits rulebook
  pub without_refusal : ReadWithoutRefusal limits th text
  pub goals : List Goal
  pub has : HasGoals th text goals
  pub some_goal : 1 ≤ length goals
  pub each : (g : Goal) → Memᴰ g goals → Said th (goal_judgment g)

-- "Both halves of demand 3 speak of the whole call, from bytes to report." The first half, sound: a report with number 0 means that each
-- goal's judgment is derivable. That it then lies in every closed set is a theorem (`soundness_forced` in proofs/Soundness), since a contract
-- cannot speak of sets of any size.
pub record Sound (limits : Setting) (rulebook text : List ℕ) (answer : Report) : Type 0 where
  pub established : answer.number ≡ 0 → Established limits rulebook text Derivable

-- The second half, complete, "from bytes to report" too: the laid-out certificate of any list of instances that proves the goals, if it is
-- within the limits, is accepted. Its report has as many steps as there are instances, as many goals as the goals text has, as many terms as
-- there are distinct judgments of goals and conclusions, with all their subterms, as its bytes the certificate's length, and as the nodes
-- requested the sizes, as trees, of all judgments of goals and all conclusions.
pub record Complete (limits : Setting) (a b c d : ℕ) (rulebook text certificate : List ℕ) (answer : Report) : Type 0 where
  pub accepts_layout : (th : Theory) (goals : List Goal) (is : List Instance)
      → Accepted limits rulebook
      → theory rulebook ≡ ok th
      → ReadWithoutRefusal limits th text
      → HasGoals th text goals
      → Proves th goals is
      → WithinLimits limits a b c d goals is
      → certificate ≡ laid_out goals is
      → answer
      ≡ report 0 (length is) (length goals) (length (distinct_terms goals is)) (length certificate) (requested_nodes goals is)
