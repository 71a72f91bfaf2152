-- One turn of the loop over the forms on the side of the models, and none left. Assumes nothing.
use Prim.Native.Nat.{ℕ, suc, ◌+◌, ◌-◌, ◌<◌, ◌≤◌}
use mathlib.Core.Path.{◌≡◌, refl}
use mathlib.Core.List.{List}
use native.Mathlib.Omega.{arith}
use Rattle.lex.specs.declared.Reader.{Reader}
use Rattle.outcomes.specs.Outcomes.{refused}
use Rattle.outcomes.specs.Leaving.{◌leaving◌, ◌>>=◌}
use Rattle.tables.specs.declared.Tally.{Tally}
use Rattle.asking.specs.Asking.{form_due}
use Rattle.certificates.specs.Certificates.{one_form, forms_from}

module _ (text goals rules : List ℕ) (e i : ℕ) (tally : Tally) (r : Reader) (store stack heap table : List ℕ) where
  pub turn : i < e → forms_from (e - i) text goals rules tally r store stack heap table
      ≡ ((form_due text r leaving (((store, stack), heap), table)) >>= λ x. one_form (forms_from (e - (i + 1)) text goals rules) text goals rules tally x.0 store stack heap table)
  unfolding forms_from
  turn l = let z : e - i ≡ suc (e - (i + 1)) = omega arith in rw z refl

  pub over : e ≤ i → forms_from (e - i) text goals rules tally r store stack heap table ≡ (refused 2 leaving (((store, stack), heap), table))
  unfolding forms_from
  over l = let z : e - i ≡ 0 = omega arith in rw z refl

pub ruleset turns = (turn, over)
