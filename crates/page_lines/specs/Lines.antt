-- What each function answers, for any words: a percentage of three digits at most, and its line.
use Rattle.std.specs.Prelude.{ℕ, ◌%◌, true, false, List, [], ◌∷◌, ◌++◌, eqb}
use Rattle.horn.specs.Names.{codes}
use Rattle.horn.specs.Output.{padded, right_aligned}
use Rattle.horn.specs.Page.{percentage}

-- The percentage by its last three digits; 0 where there are no steps.
unfoldable pub percent : ℕ → ℕ → ℕ
percent used steps = elim (eqb steps 0) [ true ↦ 0 | false ↦ percentage used steps % 1000 ]

-- The last line with a percentage.
unfoldable pub used_line : ℕ → List ℕ
used_line p = padded 64 (codes "used " ++ right_aligned 3 p ++ codes "%") ++ 0x0A ∷ []
