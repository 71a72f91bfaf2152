-- One turn of each loop. Assumes nothing.
use mathlib.Core.Path.{◌≡◌, ◌∙◌}
use mathlib.Core.List.{List}
use Prim.Native.Nat.{ℕ, suc, ◌+◌, ◌≤◌, ◌<◌}
use native.Mathlib.Omega.{arith}
use borrow.Author.Tests.{lt-ltb, le-ltb, eq-eqb, ne_eqb}
use lib.ListN.{length, get_or, drop}
use Rattle.utf8.specs.Classes.{is_ordinary, is_white, is_comment}
use Rattle.utf8.specs.Characters.{first, width, kind_at}
use Rattle.scanning.specs.Scan.{stopped, blanks, atom_end, line_end}
use Rattle.std.specs.Prelude.{Some, None}

-- The scans of white space and of an atom: a stop, and a turn over one character.
module _ (text : List ℕ) (end q k : ℕ) (ek : k ≡ kind_at (first (drop q text))) (h : q < end) where
  pub atom_stop : (f : ℕ) → (k ≡ is_ordinary → ⊥) → atom_end (suc f) text end q ≡ q
  unfolding atom_end
  atom_stop f d = rw (lt-ltb q end h, ← ek, ne_eqb k is_ordinary d, atom_end)

  pub blank_stop : (f : ℕ) → (k ≡ is_comment → ⊥) → (k ≡ is_white → ⊥) → blanks (suc f) text end q ≡ q
  unfolding blanks
  blank_stop f d e = rw (lt-ltb q end h, ← ek, ne_eqb k is_white e, ← ek, ne_eqb k is_comment d, blanks)

  pub blank_stopped : (f : ℕ) → (k ≡ is_white → ⊥) → blanks (suc f) text end q ≡ stopped k end q
  unfolding blanks stopped
  blank_stopped f e = rw (lt-ltb q end h, ← ek, ne_eqb k is_white e, ← ek, blanks)

  pub comment_stop : (f : ℕ) → k ≡ is_comment → blanks (suc f) text end q ≡ end
  unfolding blanks
  comment_stop f e = rw (lt-ltb q end h, ← ek, ne_eqb k is_white (λ z. omega arith), ← ek, eq-eqb k is_comment e, blanks)

  module _ (n : ℕ) (en : n ≡ width (first (drop q text))) where
    pub atom_step : (f : ℕ) → k ≡ is_ordinary → atom_end (suc f) text end q ≡ atom_end f text end (q + n)
    unfolding atom_end
    atom_step f e = rw (en, lt-ltb q end h, ← ek, e, atom_end)

    pub blank_step : (f : ℕ) → k ≡ is_white → blanks (suc f) text end q ≡ blanks f text end (q + n)
    unfolding blanks
    blank_step f e = rw (en, lt-ltb q end h, ← ek, e, blanks)

pub atom_over : (text : List ℕ) (end q f : ℕ) → end ≤ q → atom_end (suc f) text end q ≡ q
unfolding atom_end
atom_over text end q f h = rw (le-ltb q end h, atom_end)

pub blank_over : (text : List ℕ) (end q f : ℕ) → end ≤ q → blanks (suc f) text end q ≡ q
unfolding blanks
blank_over text end q f h = rw (le-ltb q end h, blanks)

-- The scan of a line.
module _ (text : List ℕ) (q : ℕ) (h : q < length text) where
  pub line_stop : (f : ℕ) → get_or text q 0 ≡ 0x0A → line_end (suc f) text q ≡ Some (q + 1)
  unfolding line_end
  line_stop f e = rw (lt-ltb q (length text) h, eq-eqb (get_or text q 0) 0x0A e, line_end)

  module _ (d : get_or text q 0 ≡ 0x0A → ⊥) (n : ℕ) (en : n ≡ width (first (drop q text))) where
    pub line_bad : (f : ℕ) → n ≡ 0 → line_end (suc f) text q ≡ None
    unfolding line_end
    line_bad f e = rw (lt-ltb q (length text) h, ne_eqb (get_or text q 0) 0x0A d, ← en, e, line_end)

    pub line_step : (f : ℕ) → (n ≡ 0 → ⊥) → line_end (suc f) text q ≡ line_end f text (q + n)
    unfolding line_end
    line_step f e =
        rw (en, lt-ltb q (length text) h, ne_eqb (get_or text q 0) 0x0A d, ne_eqb (width (first (drop q text))) 0 (λ z. e (en ∙ z)), line_end)

pub line_over : (text : List ℕ) (q f : ℕ) → length text ≤ q → line_end (suc f) text q ≡ Some q
unfolding line_end
line_over text q f h = rw (le-ltb q (length text) h, line_end)
