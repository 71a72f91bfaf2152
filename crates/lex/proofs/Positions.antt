-- What the reader's position says: atoms are parted, and no reader passes the end of its text. Assumes nothing.
use mathlib.Core.Path.{◌≡◌, refl, sym}
use mathlib.Core.List.{List}
use mathlib.Core.Logic.{◌⊎◌, inl, inr}
use Prim.Native.Nat.{ℕ, ◌≤◌, ◌<◌}
use native.Mathlib.Omega.{arith}
use lib.ListN.{length, drop}
use Rattle.utf8.specs.Below.horn.specs.Tokens.{Stream, Token}
use Rattle.utf8.specs.Classes.{is_ordinary}
use Rattle.utf8.specs.Characters.{first, width}
use Rattle.lex.specs.declared.Reader.{Reader}
use Rattle.utf8.proofs.Grammar.{lt_of_le_of_ne}
use Rattle.utf8.proofs.Looks.{kind_steps}
use Rattle.scanning.proofs.Lines.{Clean, clean_le}
use Rattle.lex.proofs.Standing.{AtomMoved, Stands}

module _ (text : List ℕ) where
  -- For a reader: two atoms are parted by a byte at least, since an atom goes on as far as its characters do.
  pub apart : (p a b e q c d f : ℕ) → AtomMoved text p a b e → AtomMoved text q c d f → b ≤ q → b < c
  apart p a b e q c d f m n h =
      lt_of_le_of_ne (omega (arith, n.from))
      (λ z.
      let s = kind_steps text c (width (first (drop c text))) refl is_ordinary (sym n.begins) (λ x. omega arith) in
      m.stops (omega arith) (rw z at n.begins))

  -- A reader never passes the text's end.
  pub never_past : (r : Reader) (s : Stream Token) → Stands text r s → r.at ≤ length text
  never_past r s st = by st.line where
    by : (r.at ≡ r.end) ⊎ Clean text r.at r.end → r.at ≤ length text
    by (inl e) = omega (arith, st.inside)
    by (inr c) = omega (arith, clean_le text c)
