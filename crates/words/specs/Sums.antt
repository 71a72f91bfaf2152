-- Words: what 32 bits keep.
use Rattle.std.specs.Prelude.{ℕ, ◌+◌, ◌%◌}

-- The low 32 bits of a number.
abbrev pub low32 : ℕ → ℕ
low32 x = x % 4294967296

-- A sum in 32 bits.
unfoldable pub sum32 : ℕ → ℕ → ℕ
sum32 a b = low32 (a + b)
