-- A sum that fits does not wrap. Assumes nothing.
use Rattle.std.proofs.Common.{◌≡◌, ℕ, ◌+◌, ◌<◌, mod-eq_of_lt}
use Rattle.words.specs.Sums.{sum32}

pub sum_small : (a b : ℕ) → a + b < 4294967296 → sum32 a b ≡ a + b
unfolding sum32
sum_small a b h = mod-eq_of_lt h
