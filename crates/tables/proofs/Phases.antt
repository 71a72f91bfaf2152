-- One form more, in each phase: no room is asked for. Assumes nothing.
use mathlib.Core.Path.{◌≡◌, refl}
use mathlib.Core.Bool.{false}
use mathlib.Core.List.{List, [], ◌∷◌, ◌++◌}
use Prim.Native.Nat.{ℕ, ◌+◌, ◌≤◌, ◌<◌}
use native.Mathlib.Omega.{arith}
use lib.ListN.{length, length-set}
use Rattle.words.specs.Parts.{part, cleared}
use Rattle.capacity.specs.Below.horn.specs.Refusals.{ok}
use Rattle.capacity.specs.Below.horn.specs.Setting.{Setting}
use Rattle.capacity.specs.Below.horn.specs.Names.{Name, some_of}
use Rattle.capacity.specs.Below.horn.specs.Tokens.{tokens}
use Rattle.capacity.specs.Below.horn.specs.NestedLists.{Item, Items, ◌then◌, items}
use Rattle.capacity.specs.Below.horn.specs.Rulebook.{Theory}
use Rattle.capacity.specs.Below.horn.specs.StoredTerms.{Term, Store}
use Rattle.capacity.specs.Below.horn.specs.Checker.{def, is_def, Goal, goal, is_goal, goal_form}
use Rattle.capacity.specs.Below.horn.specs.Matching.{Step}
use Rattle.capacity.specs.Below.horn.specs.Certificate.{Progress, begun, with_def, with_step, with_result, certificate_form}
use Rattle.capacity.specs.Budgets.{Roomy}
use Rattle.capacity.proofs.Forms.{goal_keeps, certificate_keeps}
use Rattle.capacity.proofs.Rooms.{goals_start, certificate_start}
use Rattle.tables.specs.declared.Tally.{Tally}
use Rattle.words.specs.Sums.{sum32}
use Rattle.tables.specs.Words.{goal_buckets, value_offset, closed_from, none_yet, goal_added, goal_counted, goal_closed, goal_done, def_added, def_counted}
use Rattle.tables.specs.Words.{step_added, step_counted}
use Rattle.tables.specs.Representation.{OpenAt}
use Rattle.tables.specs.Phases.{Gathering, Between}
use Rattle.names.specs.Below.facts.proofs.Lists.{one_more}
use Rattle.tables.proofs.Areas.{length-entered}
use Rattle.tables.proofs.Steps.{step_added_length}
use Rattle.words.proofs.Writing.{length-cleared}
use Rattle.tables.proofs.Laws.{begin_holds, add_goal_lem, add_def_lem, add_step_lem, close_goal_lem, means_more}
use Rattle.tables.proofs.Rooms.{goal_room, def_room, step_room}

-- The same room in an area of the same length.
same_room : {base goals_bytes certificate_bytes words : ℕ} (words' : ℕ) → words' ≡ words → Roomy base goals_bytes certificate_bytes words
    → Roomy base goals_bytes certificate_bytes words'
same_room words' e r = rw e r

-- What numbers mean may grow, as the store does.
module _ {goals_text certificate : List ℕ} {goals_bytes certificate_bytes buckets : ℕ} {Means : ℕ → Term → Type 0} {Recorded : ℕ → ℕ → ℕ → ℕ → Step → Type 0}
    (Means' : ℕ → Term → Type 0) (Recorded' : ℕ → ℕ → ℕ → ℕ → Step → Type 0)
    (f : (w : ℕ) (t : Term) → Means w t → Means' w t) (g : (j r p q : ℕ) (s : Step) → Recorded j r p q s → Recorded' j r p q s) where
  pub gathering_more : {table : List ℕ} {tally : Tally} {goals : List Goal} {left : Items}
      → Gathering goals_text certificate goals_bytes certificate_bytes buckets Means Recorded table tally goals left
      → Gathering goals_text certificate goals_bytes certificate_bytes buckets Means' Recorded' table tally goals left
  gathering_more x = record { tables = means_more x.tables Means' Recorded' f g; roomy = x.roomy; budget = x.budget }

  pub between_more : {table : List ℕ} {tally : Tally} {goals : List Goal} {now : Progress} {left : Items}
      → Between goals_text certificate goals_bytes certificate_bytes buckets Means Recorded table tally goals now left
      → Between goals_text certificate goals_bytes certificate_bytes buckets Means' Recorded' table tally goals now left
  between_more x = record { tables = means_more x.tables Means' Recorded' f g; roomy = x.roomy; few = x.few; budget = x.budget }

module _ (goals_text certificate : List ℕ) (goals_bytes certificate_bytes buckets : ℕ) (Means : ℕ → Term → Type 0) (Recorded : ℕ → ℕ → ℕ → ℕ → Step → Type 0)
    (limits : Setting) (th : Theory) where
  abbrev GoalsSoFar : List ℕ → Tally → List Goal → Items → Type 0
  GoalsSoFar = Gathering goals_text certificate goals_bytes certificate_bytes buckets Means Recorded

  abbrev SoFar : List ℕ → Tally → List Goal → Progress → Items → Type 0
  SoFar = Between goals_text certificate goals_bytes certificate_bytes buckets Means Recorded

  -- Before the first goal.
  pub first_goal : (table : List ℕ) → 0 < buckets → goal_buckets + buckets ≤ length table → length table < 4294967296 → length goals_text ≤ goals_bytes
      → Roomy (goal_buckets + buckets) goals_bytes certificate_bytes (length table)
      → GoalsSoFar (cleared (goal_buckets + buckets) table) (none_yet buckets) [] (items (tokens goals_text))
  first_goal table p f small short r =
      record {
        tables = begin_holds goals_text certificate table buckets Means Recorded p f small;
        roomy = same_room _ (length-cleared (goal_buckets + buckets) table) r;
        budget = goals_start goals_text goals_bytes short;
      }

  -- "(goal N J)".
  pub next_goal : {table : List ℕ} {tally : Tally} {goals : List Goal} {item : Item} {rest : Items} (store : Store) {store' : Store} (s t w : ℕ) (j : Term)
      → GoalsSoFar table tally goals (item then rest)
      → goal_form limits th goals item store ≡ ok (goals ++ (goal (part s t goals_text) j ∷ []), store')
      → s < 4294967296
      → t < 4294967296
      → w < closed_from
      → Means w j
      → some_of (is_goal (part s t goals_text)) goals ≡ false
      → GoalsSoFar (goal_added goals_text s t w tally table) (goal_counted tally) (goals ++ (goal (part s t goals_text) j ∷ [])) rest
  unfolding goal_added
  next_goal {table} {tally} {goals} {item} {rest} store s t w j g e x y z m n =
      let b = goal_keeps limits th goals item rest store e g.budget in
      let room = goal_room g.roomy g.tables b (one_more goals (goal (part s t goals_text) j)) in
      record {
        tables = add_goal_lem s t w j g.tables room x y z m n;
        roomy = same_room _ (length-entered table 0 goal_buckets tally.top goals_text s t w) g.roomy;
        budget = b;
      }

  -- Before the first form of the certificate.
  pub first_form : {table : List ℕ} {tally : Tally} {goals : List Goal} {left : Items} → length certificate ≤ certificate_bytes
      → GoalsSoFar table tally goals left
      → SoFar table tally goals (begun goals) (items (tokens certificate))
  first_form {goals} short g =
      record {
        tables = g.tables;
        roomy = g.roomy;
        few = let h = g.budget.bound in omega arith;
        budget = certificate_start certificate certificate_bytes goals short;
      }

  module _ {table : List ℕ} {tally : Tally} {goals : List Goal} {now : Progress} {item : Item} {rest : Items} (store : Store) {store' : Store}
      (g : SoFar table tally goals now (item then rest)) where
    -- "(def ?a T)".
    pub next_def : (s t w : ℕ) (u : Term)
        → certificate_form limits th now item store
        ≡ ok (with_def now (def (part s t certificate) u), store')
        → s < 4294967296
        → t < 4294967296
        → Means w u
        → some_of (is_def (part s t certificate)) now.defs ≡ false
        → SoFar (def_added buckets certificate s t w tally table) (def_counted tally) goals
        (with_def now (def (part s t certificate) u)) rest
    unfolding def_added
    next_def s t w u e x y m n =
        let b = certificate_keeps limits th now item rest store e g.budget in
        let room = def_room g.roomy g.tables g.few b (one_more now.defs (def (part s t certificate) u)) refl in
        record {
          tables = add_def_lem g.tables s t w u room x y m n;
          roomy = same_room _ (length-entered table goal_buckets buckets tally.top certificate s t w) g.roomy;
          few = g.few;
          budget = b;
        }

    -- "(step I R (I...) item...)".
    pub next_step : (j r place tested : ℕ) (s : Step)
        → certificate_form limits th now item store ≡ ok (with_step now s, store')
        → place < 4294967296
        → tested < 4294967296
        → Recorded j r place tested s
        → SoFar (step_added j r place tested tally table) (step_counted tally) goals (with_step now s) rest
    next_step j r place tested s e x y m =
        let b = certificate_keeps limits th now item rest store e g.budget in
        let room = step_room g.roomy g.tables g.few b refl (one_more now.steps s) in
        record {
          tables = add_step_lem g.tables j r place tested s room x y m;
          roomy = same_room _ (step_added_length table j r place tested tally) g.roomy;
          few = g.few;
          budget = b;
        }

    -- "(result N I)".
    pub next_result : (key : Name) (e w n : ℕ) (a : Goal)
        → certificate_form limits th now item store ≡ ok (with_result now key n, store')
        → OpenAt table (goal_buckets + buckets) Means goals key e w a
        → n < closed_from
        → SoFar (goal_closed e n table) (goal_done tally) goals (with_result now key n) rest
    unfolding goal_closed
    next_result key e w n a f o small =
        record {
          tables = close_goal_lem g.tables key e w n a o small;
          roomy = same_room _ (length-set table (e + value_offset) (sum32 closed_from n)) g.roomy;
          few = g.few;
          budget = certificate_keeps limits th now item rest store f g.budget;
        }
