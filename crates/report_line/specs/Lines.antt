-- The line that the program prints for a report.
use Rattle.std.specs.Prelude.{ℕ, List, [], ◌∷◌, ◌++◌}
use Rattle.horn.specs.Calls.{Report}
use Rattle.horn.specs.Layout.{plain}

-- A number, in plain decimal digits, and the byte that ends it.
unfoldable pub field : ℕ → ℕ → List ℕ
field n end = plain n ++ (end ∷ [])

-- It "prints number, steps, goals, terms, bytes, parted by tabs, ended by 0A". L1: it "gains" requested "as a last field".
unfoldable pub line : Report → List ℕ
line r =
    field r.number 0x09
    ++ field r.steps 0x09
    ++ field r.goals 0x09
    ++ field r.terms 0x09
    ++ field r.bytes 0x09
    ++ field r.requested 0x0A
