-- The certificate that is read: what each function answers, and what it leaves of the four areas.
use Rattle.std.specs.Prelude.{ℕ, zero, suc, ◌+◌, List, eqb, length}
use Rattle.goals.specs.Below.words.specs.Parts.{part}
use Rattle.lex.specs.Answers.{start}
use Rattle.lex.specs.declared.Reader.{Reader}
use Rattle.outcomes.specs.Outcomes.{ok, refused, need}
use Rattle.outcomes.specs.Leaving.{Did, ◌leaving◌, ◌>>=◌, beside}
use Rattle.steps.specs.Below.theory_reading.specs.Storing.{Areas, before}
use Rattle.tables.specs.declared.Tally.{Tally}
use Rattle.tables.specs.Words.{step_added, step_counted}
use Rattle.asking.specs.Asking.{in_form, Top, over, form, atom_due, form_due}
use Rattle.steps.specs.Below.step_bindings.specs.StepBindings.{Worked}
use Rattle.steps.specs.Steps as steps
use Rattle.forms.specs.Forms.{keyword_of, def_form, result_form}
use Rattle.forms.specs.declared.Keyword.{Keyword}
use Rattle.forms.specs.declared.Keyword.TheVariants.{Step, Result, Def, Other}

-- The store and the stack, the theory's area with its bindings, then the table.
abbrev pub AllAreas : Type 0
AllAreas = Worked × List ℕ

-- "`(step I R (I...) item...)`": the step that was read and judged, recorded.
unfoldable pub step_form : List ℕ → List ℕ → Tally → Reader → List ℕ → List ℕ → List ℕ → List ℕ → Did AllAreas (Tally × Reader)
step_form text rules tally r store stack heap table = do
  ((j, e, place, tested, r), (areas, table)) ← before table (steps.step text rules table tally.steps r store stack heap)
  ok (step_counted tally, r) leaving (areas, step_added j e place tested tally table)

-- What leaves the store, the stack and the table, beside the theory's area that it only reads.
abbrev pub around : {A : Type 0} → List ℕ → Did (Areas × List ℕ) A → Did AllAreas A
around heap (o leaving (areas, table)) = o leaving ((areas, heap), table)

-- A form by its head. "Another head is 9."
abbrev pub headed_form : Keyword → List ℕ → List ℕ → List ℕ → Tally → Reader → List ℕ → List ℕ → List ℕ → List ℕ → Did AllAreas (Tally × Reader)
headed_form Step text goals rules tally r store stack heap table = step_form text rules tally r store stack heap table
headed_form Result text goals rules tally r store stack heap table = beside ((store, stack), heap) (result_form text goals tally r table)
headed_form Def text goals rules tally r store stack heap table = around heap (def_form text rules heap tally r store stack table)
headed_form Other text goals rules tally r store stack heap table = refused 9 leaving (((store, stack), heap), table)

-- One form, its opening taken.
unfoldable pub form_read : List ℕ → List ℕ → List ℕ → Tally → Reader → List ℕ → List ℕ → List ℕ → List ℕ → Did AllAreas (Tally × Reader)
form_read text goals rules tally r store stack heap table = do
  ((s, t, r), _) ← atom_due text in_form r leaving (((store, stack), heap), table)
  headed_form (keyword_of (part s t text)) text goals rules tally r store stack heap table

-- One form more, and those behind it.
abbrev pub one_form : (Tally → Reader → List ℕ → List ℕ → List ℕ → List ℕ → Did AllAreas Tally) → List ℕ → List ℕ → List ℕ → Tally → Top → List ℕ → List ℕ
    → List ℕ → List ℕ → Did AllAreas Tally
one_form on text goals rules tally over store stack heap table = ok tally leaving (((store, stack), heap), table)
one_form on text goals rules tally (form r) store stack heap table = do
  ((tally, r), (((store, stack), heap), table)) ← form_read text goals rules tally r store stack heap table
  on tally r store stack heap table

-- All forms, in order. `fuel` is a bound on their number.
unfoldable pub forms_from : ℕ → List ℕ → List ℕ → List ℕ → Tally → Reader → List ℕ → List ℕ → List ℕ → List ℕ → Did AllAreas Tally
forms_from zero text goals rules tally r store stack heap table = refused 2 leaving (((store, stack), heap), table)
forms_from (suc fuel) text goals rules tally r store stack heap table = do
  (next, _) ← form_due text r leaving (((store, stack), heap), table)
  one_form (forms_from fuel text goals rules) text goals rules tally next store stack heap table

-- The certificate. "At the end an open goal is 29."
unfoldable pub certificate : List ℕ → List ℕ → List ℕ → Tally → List ℕ → List ℕ → List ℕ → List ℕ → Did AllAreas Tally
certificate text goals rules tally store stack heap table = do
  (tally, areas) ← forms_from (length text + 1) text goals rules tally start store stack heap table
  _ ← need (eqb tally.left 0) 29 leaving areas
  ok tally leaving areas
