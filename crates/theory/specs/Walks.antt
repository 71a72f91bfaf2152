-- Both walks over a rulebook: what is answered, and what is left of the variables, of the member counts and of the theory.
use Rattle.std.specs.Prelude.{ℕ, List}
use Rattle.words.specs.Parts.{cleared}
use Rattle.sexp.specs.Walk as sexp
use Rattle.sexp.specs.Walk.{walked}
use Rattle.items.specs.Places as places
use Rattle.outcomes.specs.Outcomes.{refused}
use Rattle.outcomes.specs.Leaving.{Did, ◌leaving◌}
use Rattle.rules.specs.Below.variables.specs.Variables.{Areas}
use Rattle.theory.specs.Declarations.{declarations}
use Rattle.theory.specs.declared.Counts.{Counts}

-- A rule's variables, the member counts and the theory.
abbrev pub AllAreas : Type 0
AllAreas = List ℕ × List ℕ × List ℕ

-- The second walk only reads the member counts.
abbrev pub with_counts : List ℕ → Did Areas Counts → Did AllAreas Counts
with_counts counts (o leaving (vars, heap)) = o leaving (vars, counts, heap)

-- "All of the rulebook is read so before any declaration is judged."
abbrev pub theory_from : sexp.Walked → List ℕ → List ℕ → List ℕ → List ℕ → Did AllAreas Counts
theory_from (sexp.whole n) text vars counts heap = with_counts counts (declarations text counts vars (cleared places.entries heap))
theory_from (sexp.refused n) text vars counts heap = refused n leaving (vars, counts, heap)

unfoldable pub theory : List ℕ → List ℕ → List ℕ → List ℕ → Did AllAreas Counts
theory text vars counts heap = theory_from (walked text counts).answer text vars (walked text counts).area heap
