-- The table of white space in src/lib.rt.
use Rattle.std.specs.Prelude.{ℕ, ◌*◌, ◌/◌, ◌%◌, ◌^◌, List, [], ◌∷◌, get_or}

-- Rows of four places, that of the lowest last. That it has each white-space character at its place and nothing else is proved once, over all of it.
unfoldable pub white_rows : List ℕ
white_rows =
    0x2005200400202003
    ∷ 0x002020072006202F
    ∷ 0x200A002020092008
    ∷ 0x000A205F00090085
    ∷ 0x0020000C0020000B
    ∷ 0x002000A00020000D
    ∷ 0x2029300020280020
    ∷ 0x2002168020012000
    ∷ []

-- The place of a value.
unfoldable pub place_of : ℕ → ℕ
place_of v = v * 3151 / 2048 % 32

-- What the table has at a place.
unfoldable pub held_at : ℕ → ℕ
held_at p = get_or white_rows (p / 4) 0 / 2 ^ (p % 4 * 16) % 65536
