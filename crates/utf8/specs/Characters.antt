-- The first character of some bytes, by RFC 3629's grammar.
use Rattle.std.specs.Prelude.{ℕ, suc, ◌+◌, ◌*◌, ◌-◌, ◌%◌, true, false, List, [], ◌∷◌, eqb, ltb, get_or}
use Rattle.std.proofs.Math.Option.{none, some}
use Rattle.horn.specs.Utf8.{Range, within, sequence, sequences, started_by}
use Rattle.horn.specs.Tokens.{kind}
use Rattle.utf8.specs.Classes.{is_ordinary, kind_number, never, leads_two, leads_plain, leads_f0, low_of, high_of}

-- A character of so many bytes with this value, or none.
pub data First : Type 0 where
  broken : First
  found : ℕ → ℕ → First

unfoldable pub one_more : First → First
one_more broken = broken
one_more (found width value) = found (suc width) value

-- In the midst of a character: its value so far and the ranges of its bytes to come.
unfoldable pub rest : ℕ → List Range → List ℕ → First
rest value [] bs = found 0 value
rest value (r ∷ rs) [] = broken
rest value (r ∷ rs) (b ∷ bs) =
    elim (within r b) [ true ↦ one_more (rest (value * 0x40 + (b - 0x80)) rs bs) | false ↦ broken ]

unfoldable pub first : List ℕ → First
first [] = broken
first (b ∷ bs) =
    elim (started_by b sequences) [ none ↦ broken | some (sequence r mark rs) ↦ one_more (rest (b - mark) rs bs) ]

-- Its width, 0 where there is none.
unfoldable pub width : First → ℕ
width broken = 0
width (found n v) = n

-- Its value in 16 bits, 0 where there is none. One of four bytes, which lies above FFFF, is not put together: 0 too.
unfoldable pub value : First → ℕ
value broken = 0
value (found n v) = elim (eqb n 4) [ true ↦ 0 | false ↦ v ]

-- The number of its kind. One of four bytes is answered before it is put together. That it is the definition's kind for every character is proved
-- in Sixteen.
unfoldable pub kind_at : First → ℕ
kind_at broken = never
kind_at (found n v) = elim (eqb n 4) [ true ↦ is_ordinary | false ↦ kind_number (kind v) ]

-- The same by the class of the first byte, for the classes above `never`: a byte outside its range breaks the character.
unfoldable pub in_range : ℕ → ℕ → ℕ → First → First
in_range low high b f = elim (ltb b low) [ true ↦ broken | false ↦ elim (ltb high b) [ true ↦ broken | false ↦ f ] ]

unfoldable pub longer_by : ℕ → ℕ → List ℕ → First
longer_by c b bs =
    in_range (low_of c) (high_of c) (get_or bs 1 0)
    (elim (eqb c leads_two) [
      | true ↦ found 2 (b % 32 * 64 + get_or bs 1 0 % 64)
      | false ↦ in_range 0x80 0xBF (get_or bs 2 0)
          (elim (ltb c leads_f0) [
            | true ↦ found 3 ((b % 16 * 64 + get_or bs 1 0 % 64) * 64 + get_or bs 2 0 % 64)
            | false ↦ in_range 0x80 0xBF (get_or bs 3 0)
                (found 4 (((b % 8 * 64 + get_or bs 1 0 % 64) * 64 + get_or bs 2 0 % 64) * 64 + get_or bs 3 0 % 64))
          ])
    ])

-- The same for the classes from `never` on: a byte of that one begins no character.
unfoldable pub by_class : ℕ → List ℕ → First
by_class c bs = elim (eqb c never) [ true ↦ broken | false ↦ longer_by c (get_or bs 0 0) bs ]

-- The value of the first character where its first byte is of the class whose later bytes have no range of their own; 0 for any other class.
unfoldable pub plain_value : ℕ → List ℕ → ℕ
plain_value c bs = elim (eqb c leads_plain) [ true ↦ value (by_class c bs) | false ↦ 0 ]
