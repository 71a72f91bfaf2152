-- L2 in document 02: the release page, and the call that writes it.
use Rattle.std.specs.Prelude.{ℕ, ◌+◌, ◌*◌, ◌/◌, Bool, List, [], ◌∷◌, ◌++◌, length}
use Rattle.std.proofs.Math.Option.{none, some}
use Rattle.std.proofs.Math.ListN.{get_elem?}
use Rattle.horn.specs.Refusals.{Result, ◌>>=◌}
use Rattle.horn.specs.Setting.{Setting}
use Rattle.horn.specs.Names.{Name, named, codes, first}
use Rattle.horn.specs.Checker.{Goal, goal}
use Rattle.horn.specs.Matching.{rule_of}
use Rattle.horn.specs.Certificate.{Witness, witness, Progress}
use Rattle.horn.specs.Calls.{Release, release_read, Called, leaving}
use Rattle.horn.specs.Layout.{rule_name}
use Rattle.horn.specs.Output.{Output, fitting, output_of, spaces, padded, right_aligned, name_field}
use Rattle.horn.specs.Used.{used_steps}

-- "Goal name in 32 bytes, a space, the result's step number right-aligned in 8, a space, the rule's name in 22, then 0A."
unfoldable pub goal_line : Name → ℕ → Name → List ℕ
goal_line name n rule = name_field 32 name ++ spaces 1 ++ right_aligned 8 n ++ spaces 1 ++ name_field 22 rule ++ 0x0A ∷ []

-- Whether a result is that of the goal of this name.
unfoldable pub is_result_of : Name → Witness → Bool
is_result_of name (witness n i) = named name n

-- The line of a goal: of its result, and of the rule that the result's step names. Each goal of an accepted release has one result, whose step
-- is there, so that the other cases are never met (proofs/Progressing).
unfoldable pub line_of : Progress → Goal → List ℕ
line_of last (goal name j) =
    elim (first (is_result_of name) last.results) [
      | none ↦ []
      | some (witness shown n) ↦ elim (get_elem? last.steps n) [ none ↦ [] | some s ↦ goal_line name n (rule_name (rule_of s)) ]
    ]

-- "One line for each goal in goals order".
unfoldable pub goal_lines : Progress → List Goal → List ℕ
goal_lines last [] = []
goal_lines last (g ∷ gs) = line_of last g ++ goal_lines last gs

-- "The percentage is 100 times used divided by steps, halves up": the whole part of 100 × used / steps + 1/2 (`halves_up` in proofs/Page). An
-- accepted release has a step.
unfoldable pub percentage : ℕ → ℕ → ℕ
percentage used steps = (200 * used + steps) / (2 * steps)

-- "A last line gives `used `, then a whole percentage in 3 bytes, right-aligned, and `%`, padded to 64 bytes before 0A."
unfoldable pub last_line : ℕ → ℕ → List ℕ
last_line used steps = padded 64 (codes "used " ++ right_aligned 3 (percentage used steps) ++ codes "%") ++ 0x0A ∷ []

-- "For an accepted release": its page.
unfoldable pub page_of : Release → List ℕ
page_of r = goal_lines r.progress r.goals ++ last_line (length (used_steps r.progress)) (length r.progress.steps)

-- "31, output longer than the lent buffer, after all of 1 to 29": the page for a buffer of so many bytes.
unfoldable pub page_judged : Setting → ℕ → ℕ → ℕ → ℕ → List ℕ → List ℕ → List ℕ → ℕ → Result (List ℕ)
page_judged limits a b c d rulebook goals certificate room = do
  r ← release_read limits a b c d rulebook goals certificate
  fitting room (page_of r)

-- The call, from the lengths of the areas, the texts and the buffer to its answer and the buffer afterwards.
unfoldable pub page_call : Setting → ℕ → ℕ → ℕ → ℕ → List ℕ → List ℕ → List ℕ → List ℕ → Output
page_call limits a b c d rulebook goals certificate buffer =
    output_of (page_judged limits a b c d rulebook goals certificate (length buffer)) buffer

-- The call from the areas, the texts and the buffer, with what it leaves in all of them. Its areas are as the other calls leave theirs.
unfoldable pub page_left : Setting → List ℕ → List ℕ → List ℕ → List ℕ → List ℕ → List ℕ → List ℕ → List ℕ → Called Output
page_left limits a b c d rulebook goals certificate buffer =
    let o = page_call limits (length a) (length b) (length c) (length d) rulebook goals certificate buffer in
    leaving limits o o.number a b c d
