-- One turn of the loop over the references, on the side of the model.
use Prim.Native.Nat.{ℕ, zero, suc, ◌+◌, ◌-◌, ◌<◌, ◌≤◌}
use mathlib.Core.Path.{◌≡◌}
use mathlib.Core.List.{List}
use native.Mathlib.Omega.{arith}
use Rattle.lex.specs.declared.Reader.{Reader}
use Rattle.outcomes.specs.Outcomes.{ok, refused}
use Rattle.outcomes.specs.Leaving.{◌leaving◌, ◌>>=◌}
use Rattle.asking.specs.Asking.{closing, closing_next}
use Rattle.references.specs.References.{one_reference, references_from}

module _ (text : List ℕ) (n : ℕ) (r : Reader) (stack : List ℕ) (e t : ℕ) where
  pub turn : t < e → references_from (e - t) text n r stack
      ≡ (closing_next text r leaving stack >>= λ x. one_reference (references_from (e - (t + 1)) text) text n x.0 x.1)
  unfolding references_from
  turn l = let z : e - t ≡ suc (e - (t + 1)) = omega arith in rw z

  -- A closing that is next ends the list.
  pub references_closed : (fuel : ℕ) {q : Reader} → 0 < fuel → closing_next text r ≡ ok (closing q)
      → references_from fuel text n r stack ≡ (ok (n, q) leaving stack)
  unfolding references_from
  references_closed zero l e = absurd (omega arith)
  references_closed (suc fuel) l e = rw e

  pub over : e ≤ t → references_from (e - t) text n r stack ≡ (refused 2 leaving stack)
  unfolding references_from
  over l = let z : e - t ≡ 0 = omega arith in rw z

pub ruleset turns = (turn, over)
