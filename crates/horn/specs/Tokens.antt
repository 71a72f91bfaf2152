-- "Tokens" in document 01.
use Rattle.std.specs.Prelude.{ℕ, Bool, true, false, ◌||◌, List, [], ◌∷◌, ◌++◌, eqb}
use Rattle.std.proofs.Math.Option.{none, some}
use Rattle.horn.specs.Utf8.{Range, range, within, Char, char, decoded}

-- What is read in order, up to the end of the text or up to its first line that is not UTF-8.
pub data Stream (A : Type 0) : Type 0 where
  end bad : Stream A
  ◌▹◌ : A → Stream A → Stream A

infixr 20 ◌▹◌
-- A list put before what is read after it.
unfoldable pub before : {A : Type 0} → List A → Stream A → Stream A
before [] s = s
before (a ∷ as') s = a ▹ before as' s

-- Lines with a byte put at the beginning of the first line. Where there is no line, the byte makes one.
unfoldable pub onto_first_line : ℕ → List (List ℕ) → List (List ℕ)
onto_first_line b [] = (b ∷ []) ∷ []
onto_first_line b (line ∷ rest) = (b ∷ line) ∷ rest

-- "A text is read by lines, each up to and with byte 0A (hexadecimal) or to the end."
unfoldable pub lines : List ℕ → List (List ℕ)
lines [] = []
lines (b ∷ bs) = elim (eqb b 0x0A) [ true ↦ (b ∷ []) ∷ lines bs | false ↦ onto_first_line b (lines bs) ]

-- "A line is tested as UTF-8 when it is first needed; a bad one is refusal 3, after anything refused earlier": the
-- characters of all lines before the first bad one. Refusal 3 is given where what stands behind them is asked for.
unfoldable pub characters : List (List ℕ) → Stream Char
characters [] = end
characters (line ∷ rest) = elim (decoded line) [ none ↦ bad | some cs ↦ before cs (characters rest) ]

-- "White space (hexadecimal): 9 to D, 20, 85, A0, 1680, 2000 to 200A, 2028, 2029, 202F, 205F, 3000."
unfoldable pub white_ranges : List Range
white_ranges =
    range 0x9 0xD
    ∷ range 0x20 0x20
    ∷ range 0x85 0x85
    ∷ range 0xA0 0xA0
    ∷ range 0x1680 0x1680
    ∷ range 0x2000 0x200A
    ∷ range 0x2028 0x2029
    ∷ range 0x202F 0x202F
    ∷ range 0x205F 0x205F
    ∷ range 0x3000 0x3000
    ∷ []

-- Whether a value lies in one of some ranges.
unfoldable pub in_some : List Range → ℕ → Bool
in_some [] value = false
in_some (r ∷ rs) value = within r value || in_some rs value

-- Whether a character is white space, by its value.
unfoldable pub white : ℕ → Bool
white value = in_some white_ranges value

-- The kinds of characters: white space, `(`, `)`, `;` and all others.
pub data Kind : Type 0 where
  blank opens closes comments ordinary : Kind

-- The kind of a character, by its value. "FEFF and 0 are atom characters."
unfoldable pub kind : ℕ → Kind
kind value =
    elim (white value) [
      | true ↦ blank
      | false ↦ elim (eqb value 0x28) [
        | true ↦ opens
        | false ↦ elim (eqb value 0x29) [
          | true ↦ closes
          | false ↦ elim (eqb value 0x3B) [ true ↦ comments | false ↦ ordinary ]
        ]
      ]
    ]

-- "A token is an opening, a closing or an atom", and an atom has its bytes here.
pub data Token : Type 0 where
  opening closing : Token
  atom : List ℕ → Token

-- Where a reader stands: between tokens, in a comment, or in an atom whose bytes so far are given.
pub data Place : Type 0 where
  between in_comment : Place
  in_atom : List ℕ → Place

-- What one character does: the tokens that end with it or before it, and where the reader stands after it.
abbrev pub Move : Type 0
Move = List Token × Place

-- What a character does between tokens, by its kind.
unfoldable pub begins : Kind → List ℕ → Move
begins blank bytes = ([], between)
begins opens bytes = (opening ∷ [], between)
begins closes bytes = (closing ∷ [], between)
begins comments bytes = ([], in_comment)
begins ordinary bytes = ([], in_atom bytes)

-- "An atom runs to white space, a bracket or `;`."
unfoldable pub continues : List ℕ → Kind → List ℕ → Move
continues atom_bytes ordinary bytes = ([], in_atom (atom_bytes ++ bytes))
continues atom_bytes blank bytes = (atom atom_bytes ∷ [], between)
continues atom_bytes opens bytes = (atom atom_bytes ∷ opening ∷ [], between)
continues atom_bytes closes bytes = (atom atom_bytes ∷ closing ∷ [], between)
continues atom_bytes comments bytes = (atom atom_bytes ∷ [], in_comment)

-- "`;` runs to the end of its line": whether a character, by its value, ends the comment that it stands in.
unfoldable pub ends_comment : ℕ → Bool
ends_comment value = eqb value 0x0A

-- One character, wherever the reader stands.
unfoldable pub move : Place → Char → Move
move between (char bytes value) = begins (kind value) bytes
move (in_atom atom_bytes) (char bytes value) = continues atom_bytes (kind value) bytes
move in_comment (char bytes value) = elim (ends_comment value) [ true ↦ ([], between) | false ↦ ([], in_comment) ]

-- The atom that the end of the text ends, if the reader stands in one: an atom runs to that end too.
unfoldable pub unended : Place → List Token
unended between = []
unended in_comment = []
unended (in_atom atom_bytes) = atom atom_bytes ∷ []

-- The tokens of what is left of a text, from where the reader stands. A bad line never follows an atom directly, since only
-- 0A, which is white space, ends a line before it.
unfoldable pub tokens_from : Place → Stream Char → Stream Token
tokens_from place end = before (unended place) end
tokens_from place bad = before (unended place) bad
tokens_from place (c ▹ cs) = before (move place c).0 (tokens_from (move place c).1 cs)

-- The tokens of a text, ended by its end or by its first line that is not UTF-8.
unfoldable pub tokens : List ℕ → Stream Token
tokens text = tokens_from between (characters (lines text))
