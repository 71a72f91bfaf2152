-- What is answered of what the walks over three texts answer, for any words, and what is left of the buffer and of two areas.
use Rattle.std.specs.Prelude.{ℕ, ◌+◌, ◌*◌, true, false, List, ltb, length}
use Rattle.clearing.specs.Below.horn.specs.Output.{Output, output}
use Rattle.words.specs.Sums.{low32}
use Rattle.checker.specs.Below.outcomes.specs.Outcomes.{Outcome, ok, refused}
use Rattle.checker.specs.Below.outcomes.specs.Leaving.{Did, ◌leaving◌}
use Rattle.checker.specs.Below.certificates.specs.Certificates.{AllAreas}
use Rattle.checker.specs.declared.Counts.{Counts}
use Rattle.pages.specs.Pages.{page_from}

-- The answer and the buffer, and what is left of the store's area and of the stack.
unfoldable pub answered : Outcome Counts → List ℕ → List ℕ → List ℕ → List ℕ → List ℕ → List ℕ → List ℕ → List ℕ → Output × List ℕ × List ℕ
answered (refused n) rulebook text certificate table heap store stack out = (output n 0 out, store, stack)
answered (ok c) rulebook text certificate table heap store stack out =
    elim (ltb (length out) (65 * (c.goals + 1))) [
      | true ↦ (output 31 0 out, store, stack)
      | false ↦
          let p = page_from rulebook text certificate table heap c.goals c.steps store stack out in
          (output 0 (low32 (65 * (c.goals + 1))) p.0, p.1, p.2)
    ]

-- The answer and the buffer alone.
unfoldable pub page_by : List ℕ → List ℕ → List ℕ → Did AllAreas Counts → List ℕ → Output
page_by rulebook text certificate (o leaving areas) out =
    (answered o rulebook text certificate areas.1 areas.0.1 areas.0.0.0 areas.0.0.1 out).0
