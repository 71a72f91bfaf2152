-- The goals that are read: what each function answers, and what it leaves of the store, of the stack and of the table.
use Rattle.std.specs.Prelude.{ℕ, zero, suc, ◌+◌, not, List, [], ◌∷◌, eqb, length}
use Rattle.words.specs.Parts.{part, same_bytes}
use Rattle.lex.specs.Answers.{start}
use Rattle.lex.specs.declared.Reader.{Reader}
use Rattle.names.specs.Tables.{present}
use Rattle.outcomes.specs.Outcomes.{Outcome, ok, refused, need}
use Rattle.outcomes.specs.Outcomes as outcomes
use Rattle.outcomes.specs.Leaving.{Did, ◌leaving◌, ◌>>=◌}
use Rattle.items.specs.Items.{question}
use Rattle.nodes.specs.Below.theory_reading.specs.Storing.{Areas, before}
use Rattle.tables.specs.declared.Tally.{Tally}
use Rattle.tables.specs.Words.{goal_found, goal_added, goal_counted}
use Rattle.asking.specs.Asking.{in_form, Top, over, form, atom_due, closing_due, form_due}
use Rattle.judgments.specs.Judgments.{judgment}

-- The store and the stack, then the table.
abbrev pub Gathered : Type 0
Gathered = Areas × List ℕ

-- `goal`.
abbrev pub goal_word : List ℕ
goal_word = 103 ∷ 111 ∷ 97 ∷ 108 ∷ []

-- "`(goal N J)`: another head is 9, N with `?` 11": the bounds of N, and the reader after it. The form's opening was taken.
unfoldable pub goal_name : List ℕ → Reader → Outcome (ℕ × ℕ × Reader)
goal_name text r =
    outcomes.◌>>=◌ (atom_due text in_form r) (λ p.
    outcomes.◌>>=◌ (need (same_bytes (part p.0 p.1 text) goal_word) 9) (λ _.
    outcomes.◌>>=◌ (atom_due text in_form p.2) (λ q.
    outcomes.◌>>=◌ (need (not (question text q.0)) 11) (λ _. ok q))))

-- "J; closing (else 10); duplicate 13."
unfoldable pub goal : List ℕ → List ℕ → List ℕ → Tally → Reader → List ℕ → List ℕ → List ℕ → Did Gathered (Tally × Reader)
goal text rules heap tally r store stack table = do
  ((s, t, r), _) ← goal_name text r leaving ((store, stack), table)
  ((k, r), ((store, stack), table)) ← before table (judgment in_form text rules heap table 0 r store stack)
  (r, _) ← closing_due text r leaving ((store, stack), table)
  _ ← need (not (present (goal_found text (part s t text) table))) 13 leaving ((store, stack), table)
  ok (goal_counted tally, r) leaving ((store, stack), goal_added text s t k tally table)

-- One goal more, and those behind it.
abbrev pub one_goal : (Tally → Reader → List ℕ → List ℕ → List ℕ → Did Gathered Tally) → List ℕ → List ℕ → List ℕ → Tally → Top → List ℕ → List ℕ → List ℕ
    → Did Gathered Tally
one_goal on text rules heap tally over store stack table = ok tally leaving ((store, stack), table)
one_goal on text rules heap tally (form r) store stack table = do
  ((tally, r), ((store, stack), table)) ← goal text rules heap tally r store stack table
  on tally r store stack table

-- All goals, in order. `fuel` is a bound on their number.
unfoldable pub goals_from : ℕ → List ℕ → List ℕ → List ℕ → Tally → Reader → List ℕ → List ℕ → List ℕ → Did Gathered Tally
goals_from zero text rules heap tally r store stack table = refused 2 leaving ((store, stack), table)
goals_from (suc fuel) text rules heap tally r store stack table = do
  (next, _) ← form_due text r leaving ((store, stack), table)
  one_goal (goals_from fuel text rules heap) text rules heap tally next store stack table

-- "After all goals, none is 17."
unfoldable pub goals : List ℕ → List ℕ → List ℕ → Tally → List ℕ → List ℕ → List ℕ → Did Gathered Tally
goals text rules heap tally store stack table = do
  (tally, areas) ← goals_from (length text + 1) text rules heap tally start store stack table
  _ ← need (not (eqb tally.goals 0)) 17 leaving areas
  ok tally leaving areas
