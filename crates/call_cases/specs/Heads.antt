-- Numbers of two and of four bytes, and the head that twenty bytes are.
use Rattle.std.specs.Prelude.{ℕ, ◌+◌, ◌*◌, List, get_or}
use Rattle.call_cases.specs.declared.Head.{Head}

-- The byte at i, then the byte at j.
unfoldable pub pair_at : List ℕ → ℕ → ℕ → ℕ
pair_at b i j = get_or b i 0 * 256 + get_or b j 0

-- The bytes at i, j, k and l, one after the other.
unfoldable pub four_at : List ℕ → ℕ → ℕ → ℕ → ℕ → ℕ
four_at b i j k l = (get_or b i 0 * 256 + get_or b j 0) * 65536 + (get_or b k 0 * 256 + get_or b l 0)

-- What the first bytes of a case say of it.
abbrev pub head_from : List ℕ → Head
head_from b = record {
  label = get_or b 0 0;
  rulebook = pair_at b 1 2;
  goals = pair_at b 3 4;
  certificate = pair_at b 5 6;
  own = get_or b 7 0;
  first = pair_at b 8 9;
  second = pair_at b 10 11;
  third = pair_at b 12 13;
  fourth = pair_at b 14 15;
  fifth = four_at b 16 17 18 19;
}
