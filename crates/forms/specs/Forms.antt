-- Two forms of the certificate: what each function answers, and what it leaves of the store, the stack and the table.
use Rattle.std.specs.Prelude.{ℕ, ◌-◌, not, List, [], ◌∷◌, eqb}
use Rattle.words.specs.Parts.{part, same_bytes}
use Rattle.lex.specs.declared.Reader.{Reader}
use Rattle.names.specs.Tables.{present}
use Rattle.numerals.specs.Numbers.{saturated}
use Rattle.outcomes.specs.Outcomes.{Outcome, ok, need, or_else, pick}
use Rattle.outcomes.specs.Outcomes as outcomes
use Rattle.outcomes.specs.Leaving.{Did, ◌leaving◌, ◌>>=◌}
use Rattle.items.specs.Items.{question}
use Rattle.nodes.specs.Below.theory_reading.specs.Storing.{Areas, before}
use Rattle.tables.specs.declared.Tally.{Tally}
use Rattle.tables.specs.Words.{goal_open, goal_closed, goal_done, def_found, def_added, def_counted, step_word}
use Rattle.asking.specs.Asking.{in_form, atom_due, closing_due}
use Rattle.nodes.specs.Limits.{def_buckets}
use Rattle.terms.specs.Terms.{term}
use Rattle.references.specs.References.{number_due}
use Rattle.forms.specs.declared.Keyword.{Keyword}
use Rattle.forms.specs.declared.Keyword.TheVariants.{Step, Result, Def, Other}

-- `step`, `result`, `def`.
abbrev pub step_name : List ℕ
step_name = 115 ∷ 116 ∷ 101 ∷ 112 ∷ []

abbrev pub result_name : List ℕ
result_name = 114 ∷ 101 ∷ 115 ∷ 117 ∷ 108 ∷ 116 ∷ []

abbrev pub def_name : List ℕ
def_name = 100 ∷ 101 ∷ 102 ∷ []

-- The three forms by their heads.
unfoldable pub keyword_of : List ℕ → Keyword
keyword_of name =
    pick (same_bytes name step_name) (λ _. Step)
    (λ _. pick (same_bytes name result_name) (λ _. Result)
    (λ _. pick (same_bytes name def_name) (λ _. Def) (λ _. Other)))

-- "Name without `?`, or `?` alone, 11": the bounds of the name, and the reader after it.
unfoldable pub def_named : List ℕ → Reader → Outcome (ℕ × ℕ × Reader)
def_named text r =
    outcomes.◌>>=◌ (atom_due text in_form r) (λ p.
    outcomes.◌>>=◌ (need (question text p.0) 11) (λ _.
    outcomes.◌>>=◌ (need (not (eqb (p.1 - p.0) 1)) 11) (λ _. ok p)))

-- "`(def ?a T)`: name without `?`, or `?` alone, 11; T; duplicate 13; closing."
unfoldable pub def_form : List ℕ → List ℕ → List ℕ → Tally → Reader → List ℕ → List ℕ → List ℕ → Did (Areas × List ℕ) (Tally × Reader)
def_form text rules heap tally r store stack table = do
  ((s, t, r), _) ← def_named text r leaving ((store, stack), table)
  ((k, r), ((store, stack), table)) ← before table (term in_form text rules heap table 0 r store stack)
  _ ← need (not (present (def_found def_buckets text (part s t text) table))) 13 leaving ((store, stack), table)
  (r, _) ← closing_due text r leaving ((store, stack), table)
  ok (def_counted tally, r) leaving ((store, stack), def_added def_buckets text s t k tally table)

-- "`(result N I)`: N not a goal still open, 12; I as a number, 18; no such step yet, 24; other judgment, 27; closing."
unfoldable pub result_form : List ℕ → List ℕ → Tally → Reader → List ℕ → Did (List ℕ) (Tally × Reader)
result_form text goals tally r table = do
  ((s, t, r), _) ← atom_due text in_form r leaving table
  ((e, j), _) ← or_else (goal_open goals (part s t text) table) 12 leaving table
  ((n, r), _) ← number_due text in_form r leaving table
  (k, _) ← or_else (step_word n 0 tally table) 24 leaving table
  _ ← need (eqb k j) 27 leaving table
  (r, _) ← closing_due text r leaving table
  ok (goal_done tally, r) leaving goal_closed e (saturated n) table
