-- The text of two that a name is a part of.
use Rattle.std.specs.Prelude.{Bool, true, false, ℕ, List}

abbrev pub of_two : Bool → List ℕ → List ℕ → List ℕ
of_two true rulebook goals = rulebook
of_two false rulebook goals = goals
