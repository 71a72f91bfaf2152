-- The items that stand in a text cost no more than its tokens. Assumes nothing.
use Prim.Native.Nat.{ℕ, ◌+◌, ◌≤◌}
use mathlib.Core.Path.{◌≡◌, refl}
use mathlib.Core.Bool.{Bool}
use mathlib.Core.List.{List}
use native.Mathlib.Omega.{arith}
use lib.ListN.{length}
use Rattle.horn.specs.Tokens.{Stream, end, bad, ◌▹◌, Token, opening, closing, atom, tokens}
use Rattle.horn.specs.NestedLists.{Around, at_end, at_bad_line, ◌inside◌, innermost, outer, add, around, items}
use Rattle.capacity.specs.Costs.{atom_first, is_word, word_first, cost, items_cost, around_cost, atom_bytes, items_bytes}
use Rattle.capacity.proofs.Texts.{text_bytes}

module _ (of_atom : List ℕ → Bool → ℕ) (of_opening of_closing : ℕ) where
  parted : (a : Around)
      → around_cost of_atom of_opening of_closing a ≡ items_cost of_atom of_opening of_closing (innermost a) + around_cost of_atom of_opening of_closing (outer a)
  unfolding around_cost items_cost innermost outer
  parted at_end = refl
  parted at_bad_line = refl
  parted (is inside a) = refl

  first_alike : (ts : Stream Token) → word_first (innermost (around ts)) ≡ atom_first ts
  unfolding word_first is_word atom_first innermost around add
  first_alike end = refl
  first_alike bad = refl
  first_alike (opening ▹ ts) = refl
  first_alike (closing ▹ ts) = refl
  first_alike (atom bs ▹ ts) = refl

  around-cost : (ts : Stream Token) → around_cost of_atom of_opening of_closing (around ts) ≡ cost of_atom of_opening of_closing ts
  unfolding around add around_cost items_cost cost
  around-cost end = refl
  around-cost bad = refl
  around-cost (opening ▹ ts) =
      let h = around-cost ts in
      let p = parted (around ts) in
      let q = parted (outer (around ts)) in
      omega arith
  around-cost (closing ▹ ts) = let h = around-cost ts in omega arith
  around-cost (atom bs ▹ ts) =
      let h = around-cost ts in
      let p = parted (around ts) in
      rw (first_alike ts) (omega arith)

  pub items-cost : (ts : Stream Token) → items_cost of_atom of_opening of_closing (items ts) ≤ cost of_atom of_opening of_closing ts
  unfolding items
  items-cost ts =
      let h = around-cost ts in
      let p = parted (around ts) in
      omega arith

-- All items of a text.
pub items_bytes_lem : (text : List ℕ) → items_bytes (items (tokens text)) ≤ length text
items_bytes_lem text = let a = items-cost atom_bytes 1 1 (tokens text) in let b = text_bytes text in omega arith
