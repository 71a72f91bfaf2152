-- One turn of the loop over items on the side of the models, and none left. Assumes nothing.
use Prim.Native.Nat.{ℕ, suc, ◌+◌, ◌-◌, ◌<◌, ◌≤◌}
use mathlib.Core.Path.{◌≡◌, refl}
use mathlib.Core.List.{List}
use native.Mathlib.Omega.{arith}
use Rattle.lex.specs.declared.Reader.{Reader}
use Rattle.outcomes.specs.Outcomes.{refused}
use Rattle.outcomes.specs.Leaving.{◌leaving◌, ◌>>=◌}
use Rattle.asking.specs.Asking.{closing_next}
use Rattle.step_items.specs.StepItems.{one_item, items_from}

module _ (text rules table : List ℕ) (e i rule top word : ℕ) (r : Reader) (store stack heap : List ℕ) where
  pub turn : i < e → items_from (e - i) text rules table rule top word r store stack heap
      ≡ ((closing_next text r leaving ((store, stack), heap)) >>= λ x. one_item (items_from (e - (i + 1)) text rules table rule top) text rules table rule top word x.0 store stack heap)
  unfolding items_from
  turn l = let z : e - i ≡ suc (e - (i + 1)) = omega arith in rw z refl

  pub over : e ≤ i → items_from (e - i) text rules table rule top word r store stack heap ≡ (refused 2 leaving ((store, stack), heap))
  unfolding items_from
  over l = let z : e - i ≡ 0 = omega arith in rw z refl

pub ruleset turns = (turn, over)
