-- L2 in document 02, what it says of "every later writer" too: a text in a lent buffer, and fields of a fixed width.
use Rattle.std.specs.Prelude.{ℕ, zero, suc, ◌-◌, Bool, true, false, List, [], ◌++◌, leb, length, get_or, take, drop, replicate}
use Rattle.horn.specs.Refusals.{number, Result, ok, refused, ◌>>=◌, need, output_long}
use Rattle.horn.specs.Utf8.{within, tail}
use Rattle.horn.specs.Names.{Name}
use Rattle.horn.specs.Layout.{plain}

-- "Each answers its number and the length of each text written", and what the lent buffer holds afterwards.
pub record Output : Type 0 where
  pub number : ℕ
  pub bytes : ℕ
  pub buffer : List ℕ

-- An output by its parts.
abbrev pub output : ℕ → ℕ → List ℕ → Output
output n k buffer = record { number = n; bytes = k; buffer = buffer }

-- "31, output longer than the lent buffer": a text for a buffer of so many bytes.
unfoldable pub fitting : ℕ → List ℕ → Result (List ℕ)
fitting room text = need (leb (length text) room) output_long >>= λ _. ok text

-- "Bytes of the lent buffer beyond a written text are untouched": a text at the front of a buffer.
unfoldable pub written : List ℕ → List ℕ → List ℕ
written text buffer = text ++ drop (length text) buffer

-- "Zero if refused", and "a release that is refused writes no byte".
unfoldable pub output_of : Result (List ℕ) → List ℕ → Output
output_of (refused r) buffer = output (number r) 0 buffer
output_of (ok text) buffer = output 0 (length text) (written text buffer)

-- "All filling is with spaces".
unfoldable pub spaces : ℕ → List ℕ
spaces n = replicate n 0x20

-- "A name's behind it", "padded to 64 bytes": bytes in a field, the spaces behind them.
unfoldable pub padded : ℕ → List ℕ → List ℕ
padded width bytes = bytes ++ spaces (width - length bytes)

-- "Right-aligned": a plain decimal number in a field, the spaces before it.
unfoldable pub right_aligned : ℕ → ℕ → List ℕ
right_aligned width n = spaces (width - length (plain n)) ++ plain n

-- Whether the character before a place of a name goes on there: its bytes behind the first, and no first byte, are UTF8-tail. Behind
-- the name none goes on.
unfoldable pub goes_on : ℕ → Name → Bool
goes_on k name = within tail (get_or name k 0)

-- "A long name is cut after the last whole character that fits": so many bytes of a name, or fewer, until no character goes on behind them.
unfoldable pub cut : ℕ → Name → Name
cut zero name = []
cut (suc k) name = elim (goes_on (suc k) name) [ true ↦ cut k name | false ↦ take (suc k) name ]

-- "Goal name in 32 bytes", "the rule's name in 22": a name in a field.
unfoldable pub name_field : ℕ → Name → List ℕ
name_field width name = padded width (cut width name)
