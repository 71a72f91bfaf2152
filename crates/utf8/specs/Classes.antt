-- "The first byte of a character is looked up in a table of 256 classes, one for each byte."
use Rattle.std.specs.Prelude.{ℕ, true, false, List, [], ◌∷◌, eqb, length}
use Rattle.std.proofs.Math.Option.{none, some}
use Rattle.horn.specs.Utf8.{range, sequence, sequences, started_by}
use Rattle.horn.specs.Tokens.{Kind, blank, opens, closes, comments, ordinary, kind}

-- The classes of bytes that are a character, which are also the kinds of all characters.
abbrev pub is_ordinary : ℕ
is_ordinary = 0

abbrev pub is_white : ℕ
is_white = 1

abbrev pub is_opening : ℕ
is_opening = 2

abbrev pub is_closing : ℕ
is_closing = 3

abbrev pub is_comment : ℕ
is_comment = 4

unfoldable pub kind_number : Kind → ℕ
kind_number ordinary = is_ordinary
kind_number blank = is_white
kind_number opens = is_opening
kind_number closes = is_closing
kind_number comments = is_comment

-- The class of bytes that begin no character.
abbrev pub never : ℕ
never = 5

-- The classes of first bytes of longer characters: C2 to DF; E0; E1 to EC, EE, EF; ED; F0; F1 to F3; F4.
abbrev pub leads_two : ℕ
leads_two = 6

abbrev pub leads_e0 : ℕ
leads_e0 = 7

abbrev pub leads_plain : ℕ
leads_plain = 8

abbrev pub leads_ed : ℕ
leads_ed = 9

abbrev pub leads_f0 : ℕ
leads_f0 = 10

abbrev pub leads_f1 : ℕ
leads_f1 = 11

abbrev pub leads_f4 : ℕ
leads_f4 = 12

-- They are told apart by the range of the second byte and the number of bytes after it.
unfoldable pub lead_number : ℕ → ℕ → ℕ → ℕ
lead_number low high more =
    elim (eqb more 0) [
      | true ↦ leads_two
      | false ↦ elim (eqb more 1) [
        | true ↦ elim (eqb low 0xA0) [ true ↦ leads_e0 | false ↦ elim (eqb high 0x9F) [ true ↦ leads_ed | false ↦ leads_plain ] ]
        | false ↦ elim (eqb low 0x90) [ true ↦ leads_f0 | false ↦ elim (eqb high 0x8F) [ true ↦ leads_f4 | false ↦ leads_f1 ] ]
      ]
    ]

-- The class of a byte, by RFC 3629's grammar and 01's kinds of characters.
unfoldable pub class_of : ℕ → ℕ
class_of b =
    elim (started_by b sequences) [
      | none ↦ never
      | some (sequence first mark []) ↦ kind_number (kind b)
      | some (sequence first mark (range low high ∷ rest)) ↦ lead_number low high (length rest)
    ]

-- What a class of longer characters says of the second byte: the least, and the greatest.
unfoldable pub low_of : ℕ → ℕ
low_of c = elim (eqb c leads_e0) [ true ↦ 0xA0 | false ↦ elim (eqb c leads_f0) [ true ↦ 0x90 | false ↦ 0x80 ] ]

unfoldable pub high_of : ℕ → ℕ
high_of c = elim (eqb c leads_ed) [ true ↦ 0x9F | false ↦ elim (eqb c leads_f4) [ true ↦ 0x8F | false ↦ 0xBF ] ]

-- The table of src/classes.rt: a row for each high half of a byte, in it a digit for each low half, that of 0 last. That each digit
-- is the class of its byte is proved once, over all of it.
unfoldable pub rows : List ℕ
rows =
    0x0011111000000000
    ∷ 0x0000000000000000
    ∷ 0x0000003200000001
    ∷ 0x0000400000000000
    ∷ 0x0000000000000000
    ∷ 0x0000000000000000
    ∷ 0x0000000000000000
    ∷ 0x0000000000000000
    ∷ 0x5555555555555555
    ∷ 0x5555555555555555
    ∷ 0x5555555555555555
    ∷ 0x5555555555555555
    ∷ 0x6666666666666655
    ∷ 0x6666666666666666
    ∷ 0x8898888888888887
    ∷ 0x55555555555CBBBA
    ∷ []
