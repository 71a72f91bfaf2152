-- Definitions of the store, each as an equation: an attribute that uses these need not open them all by name. Assumes nothing.
use mathlib.Core.Path.{◌≡◌, refl}
use mathlib.Core.List.{List}
use Prim.Native.Nat.{ℕ, ◌+◌}
use lib.ListN.{get_or}
use Rattle.arena.specs.Store.{count, start, answer_at, area_at, searched, intern_answer, intern_area, answered, intern_report}

pub counted : (a : List ℕ) → count a ≡ get_or a 0 0
unfolding count
counted a = refl

pub started : (a : List ℕ) (k : ℕ) → start a k ≡ get_or a (k + 1) 0
unfolding start
started a k = refl

pub ruleset node = (counted, started)

module _ (a : List ℕ) (nodes words places : ℕ) (key : List ℕ) where
  pub answer_is : intern_answer a nodes words places key ≡ answer_at a nodes words key (searched a nodes places key)
  unfolding intern_answer
  answer_is = refl

  pub area_is : intern_area a nodes words places key ≡ area_at a nodes words places key (searched a nodes places key)
  unfolding intern_area
  area_is = refl

  pub report_is : intern_report a nodes words places key ≡ answered (intern_answer a nodes words places key)
  unfolding intern_report
  report_is = refl

pub ruleset intern = (answer_is, area_is, report_is)
