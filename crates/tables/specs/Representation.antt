-- What the words of the area hold, in the definition's words: goals, goals still open, abbreviations and steps. Terms are trees there and
-- numbers here; `Means` says which number stands for which tree, `Recorded` what the four words of a step say of it.
use Rattle.std.specs.Prelude.{ℕ, ◌+◌, ◌*◌, ◌≤◌, ◌<◌, ◌≡◌, false, List, [], ◌∷◌, length, get_or}
use Rattle.std.proofs.Math.Option.{Option, none, some}
use Rattle.std.proofs.Math.ListN.{get_elem?}
use Rattle.capacity.specs.Below.horn.specs.Names.{Name, first, some_of}
use Rattle.capacity.specs.Below.horn.specs.StoredTerms.{Term}
use Rattle.capacity.specs.Below.horn.specs.Checker.{Def, meaning, is_def, Goal, goal, is_goal}
use Rattle.capacity.specs.Below.horn.specs.Matching.{Step}
use Rattle.capacity.specs.Below.horn.specs.Certificate.{Witness, witness}
use Rattle.capacity.specs.Below.horn.specs.Page.{is_result_of}
use Rattle.names.specs.Tables.{Entry, top, Table, Stands}
use Rattle.tables.specs.Words.{goal_buckets, entry_words, value_offset, closed_from, step_words, step_at}
use Rattle.tables.specs.declared.Tally.{Tally}

-- The address of each of some things, an entry apart, from an address on.
pub data Sits {A : Type 0} : ℕ → List A → ℕ → A → Type 0 where
  here : {b e : ℕ} {a : A} {things : List A} → e ≡ b → Sits b (a ∷ things) e a
  there : {b e : ℕ} {a c : A} {things : List A} → Sits (b + entry_words) things e a → Sits b (c ∷ things) e a

-- The values of the goals, in order, from an address on: the judgment's number of a goal still open, which has no result yet, and the number
-- of its result's step of a closed one. No two goals have one name.
pub data GoalsAt (table : List ℕ) (Means : ℕ → Term → Type 0) (results : List Witness) : ℕ → List Goal → List Goal → Type 0 where
  no_goal : {b : ℕ} → GoalsAt table Means results b [] []
  still_open : {b w : ℕ} {name : Name} {j : Term} {goals open_goals : List Goal}
      → (get_or table (b + value_offset) 0 ≡ w) × (w < closed_from) × (first (is_result_of name) results ≡ none)
      → Means w j
      → some_of (is_goal name) goals ≡ false
      → GoalsAt table Means results (b + entry_words) goals open_goals
      → GoalsAt table Means results b (goal name j ∷ goals) (goal name j ∷ open_goals)
  is_closed : {b n : ℕ} {name : Name} {j : Term} {goals open_goals : List Goal}
      → (get_or table (b + value_offset) 0 ≡ closed_from + n) × (first (is_result_of name) results ≡ some (witness name n))
      → some_of (is_goal name) goals ≡ false
      → GoalsAt table Means results (b + entry_words) goals open_goals
      → GoalsAt table Means results b (goal name j ∷ goals) open_goals

-- The goals: found by name, in order from `base` on, each open or closed.
pub record Goals (text table : List ℕ) (base : ℕ) (Means : ℕ → Term → Type 0) (goals open_goals : List Goal) (results : List Witness) : Type 0 where
  pub entries : List Entry
  pub names : Table table 0 goal_buckets base text entries
  pub below : top base entries ≤ base + entry_words * length goals
  pub inside : base + entry_words * length goals ≤ length table
  pub stands : Stands is_goal (Sits base goals) entries goals
  pub values : GoalsAt table Means results base goals open_goals

-- An abbreviation's entry.
pub record DefAt (table : List ℕ) (Means : ℕ → Term → Type 0) (low high e : ℕ) (d : Def) : Type 0 where
  pub above : low ≤ e
  pub below : e + entry_words ≤ high
  pub value : Means (get_or table (e + value_offset) 0) (meaning d)

-- The abbreviations, which stand from `base` on.
pub record Defs (text table : List ℕ) (buckets base : ℕ) (Means : ℕ → Term → Type 0) (defs : List Def) : Type 0 where
  pub entries : List Entry
  pub names : Table table goal_buckets buckets base text entries
  pub below : top base entries ≤ base + entry_words * length defs
  pub stands : Stands is_def (DefAt table Means base (base + entry_words * length defs)) entries defs

-- The words of step n.
unfoldable pub StepAt : List ℕ → (ℕ → ℕ → ℕ → ℕ → Step → Type 0) → ℕ → Step → Type 0
StepAt table Recorded n s =
    Recorded (get_or table (step_at (length table) n) 0) (get_or table (step_at (length table) n + 1) 0) (get_or table (step_at (length table) n + 2) 0)
    (get_or table (step_at (length table) n + 3) 0) s

-- The steps, downward from the end.
pub record Steps (table : List ℕ) (Recorded : ℕ → ℕ → ℕ → ℕ → Step → Type 0) (steps : List Step) : Type 0 where
  pub inside : step_words * length steps ≤ length table
  pub words : (n : ℕ) (s : Step) → get_elem? steps n ≡ some s → StepAt table Recorded n s

-- All of them in one area, and how many there are.
pub record Tables (goals_text certificate table : List ℕ) (buckets : ℕ) (Means : ℕ → Term → Type 0) (Recorded : ℕ → ℕ → ℕ → ℕ → Step → Type 0)
    (tally : Tally) (goals open_goals : List Goal) (defs : List Def) (steps : List Step) (results : List Witness) : Type 0 where
  pub goal_part : Goals goals_text table (goal_buckets + buckets) Means goals open_goals results
  pub def_part : Defs certificate table buckets (goal_buckets + buckets + entry_words * length goals) Means defs
  pub step_part : Steps table Recorded steps
  pub small : length table < 4294967296
  pub room : tally.top + step_words * length steps ≤ length table
  pub top_is : tally.top ≡ goal_buckets + buckets + entry_words * length goals + entry_words * length defs
  pub goals_is : tally.goals ≡ length goals
  pub left_is : tally.left ≡ length open_goals
  pub steps_is : tally.steps ≡ length steps

-- A goal still open as it is found: its entry's address, its judgment's number, and the definition's goal.
pub record OpenAt (table : List ℕ) (base : ℕ) (Means : ℕ → Term → Type 0) (goals : List Goal) (key : Name) (e w : ℕ) (g : Goal) : Type 0 where
  pub judgment : Term
  pub is_goal_lem : g ≡ goal key judgment
  pub sits : Sits base goals e g
  pub value : (get_or table (e + value_offset) 0 ≡ w) × (w < closed_from)
  pub means : Means w judgment

-- A search for a goal still open and the definition's: both find none, or the same goal.
pub data OpenAgree (table : List ℕ) (base : ℕ) (Means : ℕ → Term → Type 0) (goals : List Goal) (key : Name) : Option (ℕ × ℕ) → Option Goal → Type 0 where
  none_open : OpenAgree table base Means goals key none none
  one_open : {e w : ℕ} {g : Goal} → OpenAt table base Means goals key e w g → OpenAgree table base Means goals key (some (e, w)) (some g)

-- The judgment's word of a step and the definition's step: none, or words that are recorded of it.
pub data StepAgree (Recorded : ℕ → ℕ → ℕ → ℕ → Step → Type 0) : Option ℕ → Option Step → Type 0 where
  no_step : StepAgree Recorded none none
  one_step : {j r p q : ℕ} {s : Step} → Recorded j r p q s → StepAgree Recorded (some j) (some s)
