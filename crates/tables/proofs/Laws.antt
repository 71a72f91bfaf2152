-- The laws of the whole area: each function against the definition, under one relation. Assumes nothing.
use mathlib.Core.Path.{◌≡◌, refl, sym}
use mathlib.Core.Bool.{false}
use mathlib.Core.List.{List, [], ◌∷◌, ◌++◌}
use Prim.Native.Nat.{ℕ, suc, ◌+◌, ◌*◌, ◌-◌, ◌≤◌, ◌<◌}
use native.Mathlib.Omega.{arith}
use borrow.Author.Tests.{ne_eqb}
use lib.Dec.{eqb}
use lib.ListN.{length, set, get_elem?, length-set}
use Rattle.words.specs.Parts.{part, cleared}
use Rattle.capacity.specs.Below.horn.specs.Names.{Name, first, is_zero, some_of}
use Rattle.capacity.specs.Below.horn.specs.StoredTerms.{Term}
use Rattle.capacity.specs.Below.horn.specs.Checker.{Def, def, is_def, Goal, goal, is_goal}
use Rattle.capacity.specs.Below.horn.specs.Matching.{Step}
use Rattle.capacity.specs.Below.horn.specs.Certificate.{Witness, witness, without}
use Rattle.capacity.specs.Below.horn.proofs.Inversion.{none-some}
use Rattle.names.specs.Tables.{top, nothing_yet, present}
use Rattle.names.proofs.Kept.{empty_table}
use Rattle.words.proofs.Writing.{length-cleared, get_d_cleared}
use Rattle.words.specs.Sums.{sum32}
use Rattle.tables.specs.Words.{goal_buckets, entry_words, value_offset, closed_from, step_words, none_yet, entered, goal_found, goal_open, goal_added}
use Rattle.tables.specs.Words.{goal_counted, goal_closed, goal_done, def_found, def_added, def_counted, step_added, step_counted, step_word}
use Rattle.tables.specs.declared.Tally.{Tally}
use Rattle.tables.specs.Representation.{GoalsAt, no_goal, still_open, is_closed, StepAt, Tables, OpenAt, OpenAgree, StepAgree}
use Rattle.words.proofs.Sums.{sum_small}
use Rattle.names.specs.Below.facts.proofs.Lists.{one_more}
use Rattle.tables.proofs.Areas.{length-entered, entered_same, entered_above, entered_below, set_same}
use Rattle.tables.proofs.Goals.{sits_bounds, goals_kept, goals_add, goal_known, open_agrees, goals_close}
use Rattle.tables.proofs.Defs.{defs_kept, defs_add, defs_raised, def_known, defs_mean}
use Rattle.tables.proofs.Steps.{steps_kept, steps_add, step_agrees, step_added_length, step_added_below}

empty_counts : (gs : List Goal) → is_zero (length gs) ≡ eqb (length gs) 0
unfolding is_zero
empty_counts [] = refl
empty_counts (g ∷ gs) = sym (ne_eqb (suc (length gs)) 0 (λ (z : suc (length gs) ≡ 0). omega arith))

-- No more goals are open than there are.
open_few : {table : List ℕ} {Means : ℕ → Term → Type 0} {results : List Witness} {b : ℕ} {goals open_goals : List Goal}
    → GoalsAt table Means results b goals open_goals
    → length open_goals ≤ length goals
open_few no_goal = omega arith
open_few (still_open v m n g) = omega (arith, open_few g)
open_few (is_closed v n g) = omega (arith, open_few g)

-- At the start nothing is held.
pub begin_holds : (goals_text certificate table : List ℕ) (buckets : ℕ) (Means : ℕ → Term → Type 0) (Recorded : ℕ → ℕ → ℕ → ℕ → Step → Type 0)
    → 0 < buckets
    → goal_buckets + buckets ≤ length table
    → length table < 4294967296
    → Tables goals_text certificate (cleared (goal_buckets + buckets) table) buckets Means Recorded (none_yet buckets) [] [] [] [] []
unfolding none_yet top
begin_holds goals_text certificate table buckets Means Recorded p f small =
    let l = length-cleared (goal_buckets + buckets) table in
    let z = sum_small goal_buckets buckets (omega arith) in
    record {
      goal_part =
          record {
            entries = [];
            names = empty_table goals_text (omega arith) (omega arith) (omega arith) (λ i x y. get_d_cleared (goal_buckets + buckets) table i (omega arith));
            below = omega arith;
            inside = omega arith;
            stands = nothing_yet;
            values = no_goal;
          };
      def_part =
          record {
            entries = [];
            names = empty_table certificate p (omega arith) (omega arith) (λ i x y. get_d_cleared (goal_buckets + buckets) table i y);
            below = omega arith;
            stands = nothing_yet;
          };
      step_part = record { inside = omega arith; words = λ n s h. none-some h };
      small = omega arith;
      room = omega arith;
      top_is = omega arith;
      goals_is = refl;
      left_is = refl;
      steps_is = refl;
    }

module _ {goals_text certificate table : List ℕ} {buckets : ℕ} {Means : ℕ → Term → Type 0} {Recorded : ℕ → ℕ → ℕ → ℕ → Step → Type 0} {tally : Tally}
    {goals open_goals : List Goal} {defs : List Def} {steps : List Step} {results : List Witness}
    (h : Tables goals_text certificate table buckets Means Recorded tally goals open_goals defs steps results) where
  -- What is asked: a duplicate goal, a goal still open, a duplicate abbreviation, a step, whether a goal is left open.
  pub known_goal : (key : Name) → present (goal_found goals_text key table) ≡ some_of (is_goal key) goals
  known_goal key = goal_known h.goal_part key

  pub open_goal_lem : (key : Name) → OpenAgree table (goal_buckets + buckets) Means goals key (goal_open goals_text key table) (first (is_goal key) open_goals)
  open_goal_lem key = open_agrees h.goal_part key

  pub known_def : (key : Name) → present (def_found buckets certificate key table) ≡ some_of (is_def key) defs
  known_def key = def_known key h.def_part

  pub step_of : (n : ℕ) → StepAgree Recorded (step_word n 0 tally table) (get_elem? steps n)
  step_of n = step_agrees n tally h.step_part h.steps_is

  pub none_left : is_zero (length open_goals) ≡ eqb tally.left 0
  none_left = rw h.left_is (empty_counts open_goals)

  -- One abbreviation more.
  pub add_def_lem : (s t w : ℕ) (u : Term)
      → tally.top + entry_words + step_words * length steps ≤ length table
      → s < 4294967296
      → t < 4294967296
      → Means w u
      → some_of (is_def (part s t certificate)) defs ≡ false
      → Tables goals_text certificate (def_added buckets certificate s t w tally table) buckets Means Recorded (def_counted tally)
      goals open_goals (defs ++ (def (part s t certificate) u ∷ [])) steps results
  unfolding def_added def_counted
  add_def_lem s t w u room x y m n =
      let e : ℕ = tally.top in
      let q = h.top_is in
      let i = h.step_part.inside in
      let k = h.small in
      let p = h.def_part.names.some_bucket in
      let l = length-entered table goal_buckets buckets e certificate s t w in
      let z = sum_small e entry_words (omega arith) in
      let o = one_more defs (def (part s t certificate) u) in
      record {
        goal_part =
            goals_kept (entered goal_buckets buckets e certificate s t w table) h.goal_part l
            (entered_below table goal_buckets buckets e certificate s t w p 0 goal_buckets (omega arith) (omega arith))
            (entered_same table goal_buckets buckets e certificate s t w p (goal_buckets + buckets) (goal_buckets + buckets + entry_words * length goals)
            (omega arith) (omega arith));
        def_part = rw q (defs_add s t w u h.def_part (omega arith) x y m n);
        step_part =
            steps_kept (entered goal_buckets buckets e certificate s t w table) h.step_part l
            (entered_above table goal_buckets buckets e certificate s t w p (length table - step_words * length steps) (length table) (omega arith)
            (omega arith));
        small = omega arith;
        room = omega arith;
        top_is = omega arith;
        goals_is = h.goals_is;
        left_is = h.left_is;
        steps_is = h.steps_is;
      }

  -- One step more.
  pub add_step_lem : (j r place tested : ℕ) (s : Step)
      → tally.top + step_words * length steps + step_words ≤ length table
      → place < 4294967296
      → tested < 4294967296
      → Recorded j r place tested s
      → Tables goals_text certificate (step_added j r place tested tally table) buckets Means Recorded (step_counted tally)
      goals open_goals defs (steps ++ (s ∷ [])) results
  unfolding step_counted
  add_step_lem j r place tested s room x y m =
      let q = h.top_is in
      let k = h.small in
      let c = h.steps_is in
      let l = step_added_length table j r place tested tally in
      let z = sum_small tally.steps 1 (omega arith) in
      let o = one_more steps s in
      record {
        goal_part =
            goals_kept (step_added j r place tested tally table) h.goal_part l
            (step_added_below table j r place tested tally 0 goal_buckets (omega arith))
            (step_added_below table j r place tested tally (goal_buckets + buckets) (goal_buckets + buckets + entry_words * length goals) (omega arith));
        def_part =
            defs_kept (step_added j r place tested tally table) h.def_part l
            (step_added_below table j r place tested tally goal_buckets (goal_buckets + buckets) (omega arith))
            (step_added_below table j r place tested tally (goal_buckets + buckets + entry_words * length goals)
            (goal_buckets + buckets + entry_words * length goals + entry_words * length defs)
            (omega arith));
        step_part = steps_add j r place tested s tally h.step_part c (omega arith) x y m;
        small = omega arith;
        room = omega arith;
        top_is = q;
        goals_is = h.goals_is;
        left_is = h.left_is;
        steps_is = omega arith;
      }

  -- A goal closed: "(result N I)".
  pub close_goal_lem : (key : Name) (e w n : ℕ) (g : Goal) → OpenAt table (goal_buckets + buckets) Means goals key e w g
      → n < closed_from
      → Tables goals_text certificate (goal_closed e n table) buckets Means Recorded (goal_done tally) goals (without key open_goals) defs steps
      (results ++ (witness key n ∷ []))
  unfolding goal_closed goal_done
  close_goal_lem key e w n g a small =
      let v : ℕ = sum32 closed_from n in
      let q = h.top_is in
      let k = h.room in
      let (low, high) = sits_bounds a.sits in
      let l = length-set table (e + value_offset) v in
      let c = h.left_is in
      let (p, o) = goals_close h.goal_part key e w n v g a (sum_small closed_from n (omega arith)) in
      record {
        goal_part = p;
        def_part =
            defs_kept (set table (e + value_offset) v) h.def_part l
            (set_same table (e + value_offset) v goal_buckets (goal_buckets + buckets) (λ x y. omega arith))
            (set_same table (e + value_offset) v (goal_buckets + buckets + entry_words * length goals)
            (goal_buckets + buckets + entry_words * length goals + entry_words * length defs)
            (λ x y. omega arith));
        step_part =
            steps_kept (set table (e + value_offset) v) h.step_part l
            (set_same table (e + value_offset) v (length table - step_words * length steps) (length table) (λ x y. omega arith));
        small = let i = h.small in omega arith;
        room = omega arith;
        top_is = q;
        goals_is = h.goals_is;
        left_is = omega arith;
        steps_is = h.steps_is;
      }

  -- What numbers mean may grow, as the store does.
  pub means_more : (Means' : ℕ → Term → Type 0) (Recorded' : ℕ → ℕ → ℕ → ℕ → Step → Type 0)
      → ((w : ℕ) (t : Term) → Means w t → Means' w t)
      → ((j r p q : ℕ) (s : Step) → Recorded j r p q s → Recorded' j r p q s)
      → Tables goals_text certificate table buckets Means' Recorded' tally goals open_goals defs steps results
  unfolding StepAt
  means_more Means' Recorded' f g =
      record {
        goal_part =
            record {
              entries = h.goal_part.entries;
              names = h.goal_part.names;
              below = h.goal_part.below;
              inside = h.goal_part.inside;
              stands = h.goal_part.stands;
              values = more h.goal_part.values;
            };
        def_part = defs_mean Means' f h.def_part;
        step_part = record { inside = h.step_part.inside; words = λ n s k. g _ _ _ _ s (h.step_part.words n s k) };
        small = h.small;
        room = h.room;
        top_is = h.top_is;
        goals_is = h.goals_is;
        left_is = h.left_is;
        steps_is = h.steps_is;
      } where
        more : {b : ℕ} {gs os : List Goal} → GoalsAt table Means results b gs os → GoalsAt table Means' results b gs os
        more no_goal = no_goal
        more (still_open {b} {w} v m n k) = still_open {w = w} v (f w _ m) n (more k)
        more (is_closed v n k) = is_closed v n (more k)

-- One goal more, before any abbreviation.
pub add_goal_lem : {goals_text certificate table : List ℕ} {buckets : ℕ} {Means : ℕ → Term → Type 0} {Recorded : ℕ → ℕ → ℕ → ℕ → Step → Type 0} {tally : Tally}
    {goals open_goals : List Goal} {steps : List Step} (s t w : ℕ) (j : Term)
    → Tables goals_text certificate table buckets Means Recorded tally goals open_goals [] steps []
    → tally.top + entry_words + step_words * length steps ≤ length table
    → s < 4294967296
    → t < 4294967296
    → w < closed_from
    → Means w j
    → some_of (is_goal (part s t goals_text)) goals ≡ false
    → Tables goals_text certificate (goal_added goals_text s t w tally table) buckets Means Recorded (goal_counted tally)
    (goals ++ (goal (part s t goals_text) j ∷ [])) (open_goals ++ (goal (part s t goals_text) j ∷ [])) [] steps []
unfolding goal_added goal_counted
add_goal_lem {goals_text} {certificate} {table} {buckets} {tally} {goals} {open_goals} {steps} s t w j h room x y z m n =
    let e : ℕ = tally.top in
    let g : Goal = goal (part s t goals_text) j in
    let q : e ≡ goal_buckets + buckets + entry_words * length goals = let u = h.top_is in omega arith in
    let i = h.step_part.inside in
    let k = h.small in
    let c = h.goals_is in
    let d = h.left_is in
    let shorter = open_few h.goal_part.values in
    let l = length-entered table 0 goal_buckets e goals_text s t w in
    let u₁ = sum_small e entry_words (omega arith) in
    let u₂ = sum_small tally.goals 1 (omega arith) in
    let u₃ = sum_small tally.left 1 (omega arith) in
    let o₁ = one_more goals g in
    let o₂ = one_more open_goals g in
    record {
      goal_part = rw q (goals_add s t w j h.goal_part (omega arith) x y z m n);
      def_part =
          defs_raised (goal_buckets + buckets + entry_words * length (goals ++ (g ∷ [])))
          (defs_kept (entered 0 goal_buckets e goals_text s t w table) h.def_part l
          (entered_same table 0 goal_buckets e goals_text s t w (omega arith) goal_buckets (goal_buckets + buckets) (omega arith) (omega arith))
          (entered_same table 0 goal_buckets e goals_text s t w (omega arith) (goal_buckets + buckets + entry_words * length goals)
          (goal_buckets + buckets + entry_words * length goals + 0) (omega arith) (omega arith)))
          (omega arith);
      step_part =
          steps_kept (entered 0 goal_buckets e goals_text s t w table) h.step_part l
          (entered_above table 0 goal_buckets e goals_text s t w (omega arith) (length table - step_words * length steps) (length table) (omega arith)
          (omega arith));
      small = omega arith;
      room = omega arith;
      top_is = omega arith;
      goals_is = omega arith;
      left_is = omega arith;
      steps_is = h.steps_is;
    }
