-- What each function leaves of the buffer and of the areas, for any words.
use Rattle.std.specs.Prelude.{ℕ, zero, suc, ◌*◌, ◌%◌, List}
use Rattle.page_lines.specs.Below.horn.specs.Page.{goal_line}
use Rattle.nodes.specs.Below.names.specs.Chains.{name_at}
use Rattle.tables.specs.Words.{goal_at, goal_result, step_kept}
use Rattle.nodes.specs.Limits.{def_buckets}
use Rattle.page_lines.specs.Below.writing.specs.Buffer.{placed}
use Rattle.used_steps.specs.Marks.{used_count}
use Rattle.page_lines.specs.Lines.{percent, used_line}

-- The line of goal k.
unfoldable pub line_at : List ℕ → List ℕ → List ℕ → List ℕ → ℕ → List ℕ → List ℕ
line_at rulebook goals table heap k out =
    let e = goal_at def_buckets k in
    let n = goal_result e table in
    placed (65 * k) (goal_line (name_at table goals e) (n % 100000000) (name_at heap rulebook (step_kept table n 1))) out

-- Those of the first n goals.
unfoldable pub lines_to : ℕ → List ℕ → List ℕ → List ℕ → List ℕ → List ℕ → List ℕ
lines_to zero rulebook goals table heap out = out
lines_to (suc k) rulebook goals table heap out = line_at rulebook goals table heap k (lines_to k rulebook goals table heap out)

-- The page, and what is left of the two areas that are written.
unfoldable pub page_from : List ℕ → List ℕ → List ℕ → List ℕ → List ℕ → ℕ → ℕ → List ℕ → List ℕ → List ℕ → List ℕ × List ℕ × List ℕ
page_from rulebook text certificate table heap goals steps store stack out =
    let u = used_count certificate table goals steps (stack, store) in
    (placed (65 * goals) (used_line (percent u.0 steps)) (lines_to goals rulebook text table heap out), u.2, u.1)
