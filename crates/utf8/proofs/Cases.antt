-- What the code answers in each of its cases is what the models say. Assumes nothing.
use mathlib.Core.Path.{◌≡◌, ◌∙◌, sym}
use mathlib.Core.Bool.{false}
use mathlib.Core.List.{List}
use Prim.Native.Nat.{ℕ, ◌+◌, ◌*◌, ◌/◌, ◌%◌, ◌^◌, ◌≤◌, ◌<◌}
use borrow.Author.Tests.{lt-ltb, le-ltb, ne_eqb}
use lib.Dec.{eqb}
use lib.ListN.{length, get_or}
use Rattle.horn.specs.Tokens.{white}
use Rattle.utf8.specs.Classes.{rows, never, leads_two, leads_f0, class_of, low_of, high_of}
use Rattle.utf8.specs.White.{white_rows, place_of, held_at}
use Rattle.utf8.specs.Characters.{broken, found, first, longer_by}
use Rattle.utf8.proofs.Table.{digit, class_at}
use Rattle.utf8.proofs.Whiteness.{white_above, white_held}
use Rattle.utf8.proofs.Grammar.{first_one, first-none, first_longer, empty, lt_of_le_of_ne, below_range, above_range, in_range_lem, later, no_later, two_bytes}

-- The table of classes.
pub row_class : (b r : ℕ) → r ≡ get_or rows (b / 16) 0 → b < 256 → r / 2 ^ (4 * (b % 16)) % 16 ≡ class_of b
unfolding digit
row_class b r e h = rw e (class_at b h)

-- The table of white space.
pub not_white : (v : ℕ) → 0x3000 < v → false ≡ white v
not_white v h = sym (white_above v h)

pub row_white : (v r : ℕ) → r ≡ get_or white_rows (v * 3151 / 2048 % 32 / 4) 0 → eqb (r / 2 ^ (v * 3151 / 2048 % 32 % 4 * 16) % 65536) v ≡ white v
unfolding place_of held_at
row_white v r e = rw e (white_held v)

pub ruleset whites = (not_white, row_white)

-- The first character, by the class of its first byte.
module _ (bs : List ℕ) where
  pub first_nothing : length bs ≡ 0 → first bs ≡ broken
  unfolding first
  first_nothing h = rw (empty bs h)

  pub first_above : 0 < length bs → get_or bs 0 0 < 256 → never ≤ class_of (get_or bs 0 0) → (class_of (get_or bs 0 0) ≡ never → ⊥)
      → first bs ≡ longer_by (class_of (get_or bs 0 0)) (get_or bs 0 0) bs
  first_above h u l d = first_longer bs h u (lt_of_le_of_ne l d)

pub ruleset firsts = (first_nothing, first_one, first-none, first_above)

-- A character of two bytes, of three and of four.
module _ (c b : ℕ) (bs : List ℕ) where
  pub longer_two : c ≡ leads_two → get_or bs 1 0 / 64 ≡ 2 → longer_by c b bs ≡ found 2 (b % 32 * 64 + get_or bs 1 0 % 64)
  longer_two e h = two_bytes c b bs e ∙ later _ h _

  pub not_two : c ≡ leads_two → (get_or bs 1 0 / 64 ≡ 2 → ⊥) → longer_by c b bs ≡ broken
  not_two e h = two_bytes c b bs e ∙ no_later _ h _

  pub longer_below : get_or bs 1 0 < low_of c → longer_by c b bs ≡ broken
  unfolding longer_by
  longer_below l = below_range l _ _

  pub longer_above : low_of c ≤ get_or bs 1 0 → high_of c < get_or bs 1 0 → longer_by c b bs ≡ broken
  unfolding longer_by
  longer_above l h = above_range l h _

  module _ (l : low_of c ≤ get_or bs 1 0) (h : get_or bs 1 0 ≤ high_of c) (n : c ≡ leads_two → ⊥) where
    pub not_third : (get_or bs 2 0 / 64 ≡ 2 → ⊥) → longer_by c b bs ≡ broken
    unfolding longer_by
    not_third k = in_range_lem l h _ ∙ rw (ne_eqb c leads_two n) (no_later _ k _)

    module _ (k : get_or bs 2 0 / 64 ≡ 2) where
      pub longer_three : c < leads_f0
          → longer_by c b bs ≡ found 3 ((b % 16 * 64 + get_or bs 1 0 % 64) * 64 + get_or bs 2 0 % 64)
      unfolding longer_by
      longer_three m = in_range_lem l h _ ∙ rw (ne_eqb c leads_two n, lt-ltb c leads_f0 m) (later _ k _)

      pub not_fourth : leads_f0 ≤ c → (get_or bs 3 0 / 64 ≡ 2 → ⊥) → longer_by c b bs ≡ broken
      unfolding longer_by
      not_fourth m d = in_range_lem l h _ ∙ rw (ne_eqb c leads_two n, le-ltb c leads_f0 m) (later _ k _ ∙ no_later _ d _)

      pub longer_four : leads_f0 ≤ c → get_or bs 3 0 / 64 ≡ 2
          → longer_by c b bs ≡ found 4 (((b % 8 * 64 + get_or bs 1 0 % 64) * 64 + get_or bs 2 0 % 64) * 64 + get_or bs 3 0 % 64)
      unfolding longer_by
      longer_four m d = in_range_lem l h _ ∙ rw (ne_eqb c leads_two n, le-ltb c leads_f0 m) (later _ k _ ∙ later _ d _)

pub ruleset longers = (longer_two, not_two, longer_below, longer_above, not_third, longer_three, not_fourth, longer_four)
