-- What each function answers and leaves in the area, for any words.
use Rattle.std.specs.Prelude.{ℕ, ◌+◌, ◌*◌, ◌-◌, true, false, List, leb, length, get_or, set}
use Rattle.std.proofs.Math.Option.{Option, none, some}
use Rattle.words.specs.Sums.{low32, sum32}
use Rattle.names.specs.Chains.{found, added}
use Rattle.tables.specs.declared.Tally.{Tally}
use Rattle.tables.specs.declared.StepPart.{StepPart}
use Rattle.tables.specs.declared.StepPart.TheVariants as parts

-- Buckets of goals; those of abbreviations stand behind them.
abbrev pub goal_buckets : ℕ
goal_buckets = 64

-- Words of an entry, and which of them is its value.
abbrev pub entry_words : ℕ
entry_words = 4

abbrev pub value_offset : ℕ
value_offset = 3

-- Words of a step.
abbrev pub step_words : ℕ
step_words = 4

-- The value of a goal that has its result: so much, and the number of the result's step.
abbrev pub closed_from : ℕ
closed_from = 2147483648

unfoldable pub none_yet : ℕ → Tally
none_yet buckets = record { top = sum32 goal_buckets buckets; goals = 0; left = 0; steps = 0 }

-- A new entry with its value.
unfoldable pub entered : ℕ → ℕ → ℕ → List ℕ → ℕ → ℕ → ℕ → List ℕ → List ℕ
entered buckets count e text s t value table = set (added table buckets count e text s t) (e + value_offset) value

-- Goals.
unfoldable pub goal_found : List ℕ → List ℕ → List ℕ → Option ℕ
goal_found goals key table = found table 0 goal_buckets goals key

unfoldable pub open_at : List ℕ → ℕ → Option (ℕ × ℕ)
open_at table e = elim (leb closed_from (get_or table (e + value_offset) 0)) [ true ↦ none | false ↦ some (e, get_or table (e + value_offset) 0) ]

unfoldable pub goal_open : List ℕ → List ℕ → List ℕ → Option (ℕ × ℕ)
goal_open goals key table = elim (goal_found goals key table) [ none ↦ none | some e ↦ open_at table e ]

unfoldable pub goal_added : List ℕ → ℕ → ℕ → ℕ → Tally → List ℕ → List ℕ
goal_added goals s t judgment tally table = entered 0 goal_buckets tally.top goals s t judgment table

unfoldable pub goal_counted : Tally → Tally
goal_counted tally =
    record { top = sum32 tally.top entry_words; goals = sum32 tally.goals 1; left = sum32 tally.left 1; steps = tally.steps }

unfoldable pub goal_closed : ℕ → ℕ → List ℕ → List ℕ
goal_closed e n table = set table (e + value_offset) (sum32 closed_from n)

unfoldable pub goal_at : ℕ → ℕ → ℕ
goal_at buckets k = low32 (goal_buckets + buckets + entry_words * k)

unfoldable pub goal_result : ℕ → List ℕ → ℕ
goal_result e table = get_or table (e + value_offset) 0 - closed_from

unfoldable pub goal_done : Tally → Tally
goal_done tally = record { top = tally.top; goals = tally.goals; left = tally.left - 1; steps = tally.steps }

-- Abbreviations.
unfoldable pub def_found : ℕ → List ℕ → List ℕ → List ℕ → Option ℕ
def_found buckets certificate key table = found table goal_buckets buckets certificate key

unfoldable pub def_meaning : ℕ → List ℕ → List ℕ → List ℕ → Option ℕ
def_meaning buckets certificate key table =
    elim (def_found buckets certificate key table) [ none ↦ none | some e ↦ some (get_or table (e + value_offset) 0) ]

unfoldable pub def_added : ℕ → List ℕ → ℕ → ℕ → ℕ → Tally → List ℕ → List ℕ
def_added buckets certificate s t term tally table = entered goal_buckets buckets tally.top certificate s t term table

unfoldable pub def_counted : Tally → Tally
def_counted tally = record { top = sum32 tally.top entry_words; goals = tally.goals; left = tally.left; steps = tally.steps }

-- Steps: where the words of step n begin in an area of so many words.
unfoldable pub step_at : ℕ → ℕ → ℕ
step_at words n = words - step_words * (n + 1)

unfoldable pub step_added : ℕ → ℕ → ℕ → ℕ → Tally → List ℕ → List ℕ
step_added judgment rule place tested tally table =
    set (set (set (set table a judgment) (a + 1) rule) (a + 2) (low32 place)) (a + 3) (low32 tested) where
      a : ℕ
      a = step_at (length table) tally.steps

unfoldable pub step_counted : Tally → Tally
step_counted tally = record { top = tally.top; goals = tally.goals; left = tally.left; steps = sum32 tally.steps 1 }

-- Which of a step's words is what.
abbrev pub offset : StepPart → ℕ
offset parts.Judgment = 0
offset parts.Rule = 1
offset parts.Place = 2
offset parts.Tested = 3

-- A word of step n, which is there.
unfoldable pub step_kept : List ℕ → ℕ → ℕ → ℕ
step_kept table n which = get_or table (step_at (length table) n + which) 0

-- A word of step n, if there is such a step.
unfoldable pub step_word : ℕ → ℕ → Tally → List ℕ → Option ℕ
step_word n which tally table =
    elim (leb tally.steps n) [ true ↦ none | false ↦ some (get_or table (step_at (length table) n + which) 0) ]
