-- One turn of the loop over the goals, on the side of the models. Assumes nothing.
use Prim.Native.Nat.{ℕ, ◌+◌}
use native.Mathlib.Numerals.{add-one}
use mathlib.Core.Path.{◌≡◌, refl}
use mathlib.Core.List.{List}
use Rattle.pages.specs.Pages.{line_at, lines_to}

module _ (rulebook goals table heap out : List ℕ) where
  pub lines_first : lines_to 0 rulebook goals table heap out ≡ out
  unfolding lines_to
  lines_first = refl

  pub lines_on : (k : ℕ) → lines_to (k + 1) rulebook goals table heap out ≡ line_at rulebook goals table heap k (lines_to k rulebook goals table heap out)
  unfolding lines_to
  lines_on k = rw (add-one k)

pub ruleset turns = (lines_first, lines_on)
