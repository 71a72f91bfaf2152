-- Where the parts of a text end: white space and comments, an atom, a line. A step goes over one character; `fuel` is a
-- bound on the steps, and any that is not less than what is left of the text gives the same.
use Rattle.std.specs.Prelude.{ℕ, zero, suc, ◌+◌, true, false, List, eqb, ltb, length, get_or, drop, Option, Some, None}
use Rattle.utf8.specs.Classes.{is_ordinary, is_white, is_comment}
use Rattle.utf8.specs.Characters.{first, width, kind_at}

-- Where white space ends at a character of another kind: a comment runs to the end of its line.
unfoldable pub stopped : ℕ → ℕ → ℕ → ℕ
stopped k end p = elim (eqb k is_comment) [ true ↦ end | false ↦ p ]

-- Past white space and comments, within a line that ends at `end`.
unfoldable pub blanks : ℕ → List ℕ → ℕ → ℕ → ℕ
blanks zero text end p = p
blanks (suc fuel) text end p =
    elim (ltb p end) [
      | false ↦ p
      | true ↦ elim (eqb (kind_at (first (drop p text))) is_white) [
        | true ↦ blanks fuel text end (p + width (first (drop p text)))
        | false ↦ elim (eqb (kind_at (first (drop p text))) is_comment) [ true ↦ end | false ↦ p ]
      ]
    ]

-- Past an atom's characters.
unfoldable pub atom_end : ℕ → List ℕ → ℕ → ℕ → ℕ
atom_end zero text end p = p
atom_end (suc fuel) text end p =
    elim (ltb p end) [
      | false ↦ p
      | true ↦ elim (eqb (kind_at (first (drop p text))) is_ordinary) [
        | true ↦ atom_end fuel text end (p + width (first (drop p text)))
        | false ↦ p
      ]
    ]

-- The end of the line that starts at a place, if it is UTF-8.
unfoldable pub line_end : ℕ → List ℕ → ℕ → Option ℕ
line_end zero text p = Some p
line_end (suc fuel) text p =
    elim (ltb p (length text)) [
      | false ↦ Some p
      | true ↦ elim (eqb (get_or text p 0) 0x0A) [
        | true ↦ Some (p + 1)
        | false ↦ elim (eqb (width (first (drop p text))) 0) [
          | true ↦ None
          | false ↦ line_end fuel text (p + width (first (drop p text)))
        ]
      ]
    ]
