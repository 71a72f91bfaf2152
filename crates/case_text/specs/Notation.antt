-- The digits of the notation.
use Rattle.std.specs.Prelude.{ℕ, ◌-◌, true, false, leb, ltb}

-- The value of a hexadecimal digit, 0 to 9 or a to f; 0 of any other byte.
unfoldable pub hex_digit : ℕ → ℕ
hex_digit b =
    elim (ltb b 0x30) [
      | true ↦ 0
      | false ↦ elim (leb b 0x39) [
        | true ↦ b - 0x30
        | false ↦ elim (ltb b 0x61) [ true ↦ 0 | false ↦ elim (leb b 0x66) [ true ↦ b - 0x57 | false ↦ 0 ] ]
      ]
    ]
