-- "Four work areas of 32-bit words are lent, each of at least 16,384 words."
use Rattle.std.specs.Prelude.{ℕ, Bool, ◌&&◌, leb}

-- The words of each area that a call reads and writes.
abbrev pub area_words : ℕ
area_words = 16384

-- Whether the areas are long enough.
unfoldable pub long_enough : ℕ → ℕ → ℕ → ℕ → Bool
long_enough a b c d = leb area_words a && (leb area_words b && (leb area_words c && leb area_words d))
