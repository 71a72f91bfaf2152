-- UTF-8: which bytes are characters, by the grammar of RFC 3629, section 4, and which value a character has, by its
-- section 3.
use Rattle.std.specs.Prelude.{ℕ, ◌+◌, ◌*◌, ◌-◌, Bool, true, false, ◌&&◌, List, [], ◌∷◌, ◌++◌, leb}
use Rattle.std.proofs.Math.Option.{Option, none, some, map}

-- A range of byte values with both ends, written %x80-BF in the grammar.
pub data Range : Type 0 where
  range : ℕ → ℕ → Range

-- Whether a number lies in a range.
unfoldable pub within : Range → ℕ → Bool
within (range low high) n = leb low n && leb n high

-- One alternative of UTF8-char: the range of the first byte, the bits that mark it as such, and the ranges of the
-- bytes after it.
pub data Sequence : Type 0 where
  sequence : Range → ℕ → List Range → Sequence

-- UTF8-tail of the grammar, %x80-BF.
unfoldable pub tail : Range
tail = range 0x80 0xBF

-- UTF8-1, UTF8-2, UTF8-3 and UTF8-4, alternative by alternative.
unfoldable pub sequences : List Sequence
sequences =
    sequence (range 0x00 0x7F) 0x00 []
    ∷ sequence (range 0xC2 0xDF) 0xC0 (tail ∷ [])
    ∷ sequence (range 0xE0 0xE0) 0xE0 (range 0xA0 0xBF ∷ tail ∷ [])
    ∷ sequence (range 0xE1 0xEC) 0xE0 (tail ∷ tail ∷ [])
    ∷ sequence (range 0xED 0xED) 0xE0 (range 0x80 0x9F ∷ tail ∷ [])
    ∷ sequence (range 0xEE 0xEF) 0xE0 (tail ∷ tail ∷ [])
    ∷ sequence (range 0xF0 0xF0) 0xF0 (range 0x90 0xBF ∷ tail ∷ tail ∷ [])
    ∷ sequence (range 0xF1 0xF3) 0xF0 (tail ∷ tail ∷ tail ∷ [])
    ∷ sequence (range 0xF4 0xF4) 0xF0 (range 0x80 0x8F ∷ tail ∷ tail ∷ [])
    ∷ []

-- The alternative that a first byte begins. No two share a first byte.
unfoldable pub started_by : ℕ → List Sequence → Option Sequence
started_by b [] = none
started_by b (sequence first mark rest ∷ others) =
    elim (within first b) [ true ↦ some (sequence first mark rest) | false ↦ started_by b others ]

-- A character: its bytes and its value.
pub data Char : Type 0 where
  char : List ℕ → ℕ → Char

-- The characters of bytes that begin in the midst of a character, of which are given: its bytes so far, its value so far, and the ranges
-- of its bytes to come. `none` if this is not UTF-8. Each byte after the first brings six bits.
unfoldable pub resumed : List ℕ → ℕ → List Range → List ℕ → Option (List Char)
resumed taken value (r ∷ rs) [] = none
resumed taken value (r ∷ rs) (b ∷ bs) =
    elim (within r b) [ true ↦ resumed (taken ++ (b ∷ [])) (value * 0x40 + (b - 0x80)) rs bs | false ↦ none ]
resumed taken value [] [] = some (char taken value ∷ [])
resumed taken value [] (b ∷ bs) =
    elim (started_by b sequences) [
      | none ↦ none
      | some (sequence first mark rest) ↦ map (λ cs. char taken value ∷ cs) (resumed (b ∷ []) (b - mark) rest bs)
    ]

-- The characters of some bytes; `none` if they are not UTF-8.
unfoldable pub decoded : List ℕ → Option (List Char)
decoded [] = some []
decoded (b ∷ bs) =
    elim (started_by b sequences) [ none ↦ none | some (sequence first mark rest) ↦ resumed (b ∷ []) (b - mark) rest bs ]
