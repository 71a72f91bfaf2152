-- What each function answers and leaves, for any words: the marks of the steps, and the area where references are read to.
use Rattle.std.specs.Prelude.{ℕ, zero, suc, true, false, List, eqb, get_or, set, None}
use Rattle.words.specs.Parts.{cleared}
use Rattle.words.specs.Sums.{sum32}
use Rattle.lex.specs.Answers.{after}
use Rattle.lex.specs.declared.Reader.{Reader}
use Rattle.nodes.specs.Below.outcomes.specs.Outcomes.{ok, refused}
use Rattle.nodes.specs.Below.outcomes.specs.Leaving.{Did, ◌leaving◌}
use Rattle.tables.specs.Words.{goal_at, goal_result, step_kept}
use Rattle.nodes.specs.Limits.{def_buckets}
use Rattle.references.specs.References.{references}

-- The first n steps that `f` names are marked.
unfoldable pub marked_by : (ℕ → ℕ) → ℕ → List ℕ → List ℕ
marked_by f zero marks = marks
marked_by f (suc k) marks = marked_by f k (set marks (f k) 1)

-- Those that the first n words of an area name.
abbrev pub marked : ℕ → List ℕ → List ℕ → List ℕ
marked n named marks = marked_by (λ k. get_or named k 0) n marks

-- The results' steps of the first n goals.
abbrev pub results_marked : ℕ → List ℕ → List ℕ → List ℕ
results_marked n table marks = marked_by (λ k. goal_result (goal_at def_buckets k) table) n marks

-- What was read of a list of references is marked.
abbrev pub marking : Did (List ℕ) (ℕ × Reader) → List ℕ → List ℕ × List ℕ
marking (ok (k, r) leaving refs) marks = (refs, marked k refs marks)
marking (refused m leaving refs) marks = (refs, marks)

-- The steps that step n refers to are marked: its list is read again from its place.
unfoldable pub leaned : List ℕ → List ℕ → ℕ → List ℕ × List ℕ → List ℕ × List ℕ
leaned certificate table n areas =
    marking (references certificate (after (step_kept table n 2) (step_kept table n 3) None) areas.0) areas.1

-- Back over the first n steps: how many are marked when they are come to.
unfoldable pub counted : ℕ → List ℕ → List ℕ → ℕ → List ℕ × List ℕ → ℕ × List ℕ × List ℕ
counted zero certificate table used areas = (used, areas.0, areas.1)
counted (suc n) certificate table used areas =
    elim (eqb (get_or areas.1 n 0) 0) [
      | true ↦ counted n certificate table used areas
      | false ↦ counted n certificate table (sum32 used 1) (leaned certificate table n areas)
    ]

-- The used ones of so many steps, where so many goals have their results.
unfoldable pub used_count : List ℕ → List ℕ → ℕ → ℕ → List ℕ × List ℕ → ℕ × List ℕ × List ℕ
used_count certificate table goals steps areas =
    counted steps certificate table 0 (areas.0, results_marked goals table (cleared steps areas.1))
