-- Whether a page fits its buffer: what the code tests, in the words of the model. Assumes nothing.
use Prim.Native.Nat.{ℕ, ◌+◌, ◌*◌, ◌≤◌, ◌<◌}
use mathlib.Core.Path.{◌≡◌}
use mathlib.Core.Bool.{true, false}
use mathlib.Core.List.{List}
use borrow.Author.Tests.{lt-ltb, le-ltb}
use lib.Dec.{ltb}
use lib.ListN.{length}

pub too_long : (out : List ℕ) (goals : ℕ) → length out < 65 * (goals + 1) → ltb (length out) (65 * (goals + 1)) ≡ true
too_long out goals h = lt-ltb _ _ h

pub long_enough_lem : (out : List ℕ) (goals : ℕ) → 65 * (goals + 1) ≤ length out → ltb (length out) (65 * (goals + 1)) ≡ false
long_enough_lem out goals h = le-ltb _ _ h

pub ruleset room = (too_long, long_enough_lem)
