-- What tokens cost at the least, in bytes, and the same of the definition's items. No reader and no position is spoken of: what is
-- still to be read, by the definition, costs at most what the text has.
use Rattle.std.specs.Prelude.{ℕ, suc, ◌+◌, Bool, true, false, List, [], ◌∷◌, length}
use Rattle.horn.specs.Tokens.{Stream, end, bad, ◌▹◌, Token, opening, closing, atom}
use Rattle.horn.specs.NestedLists.{Item, word, group, Items, closed, ended, bad_line, ◌then◌, Around, at_end, at_bad_line, ◌inside◌}

-- An atom has a byte at least.
unfoldable pub wide : List ℕ → ℕ
wide [] = 1
wide (b ∷ bs) = suc (length bs)

-- Whether an atom comes first.
unfoldable pub atom_first : Stream Token → Bool
atom_first end = false
atom_first bad = false
atom_first (opening ▹ ts) = false
atom_first (closing ▹ ts) = false
atom_first (atom bytes ▹ ts) = true

unfoldable pub is_word : Item → Bool
is_word (word bytes) = true
is_word (group inner) = false

unfoldable pub word_first : Items → Bool
word_first closed = false
word_first ended = false
word_first bad_line = false
word_first (item then rest) = is_word item

-- Some cost: of an atom by its bytes and by whether another follows it directly, of an opening, of a closing.
module _ (of_atom : List ℕ → Bool → ℕ) (of_opening of_closing : ℕ) where
  unfoldable pub cost : Stream Token → ℕ
  cost end = 0
  cost bad = 0
  cost (opening ▹ ts) = of_opening + cost ts
  cost (closing ▹ ts) = of_closing + cost ts
  cost (atom bytes ▹ ts) = of_atom bytes (atom_first ts) + cost ts

  unfoldable mutual
    pub item_cost : Item → Bool → ℕ
    item_cost (word bytes) next = of_atom bytes next
    item_cost (group inner) next = of_opening + items_cost inner

    pub items_cost : Items → ℕ
    items_cost closed = of_closing
    items_cost ended = 0
    items_cost bad_line = 0
    items_cost (item then rest) = item_cost item (word_first rest) + items_cost rest

  unfoldable pub around_cost : Around → ℕ
  around_cost at_end = 0
  around_cost at_bad_line = 0
  around_cost (items inside around) = items_cost items + around_cost around

-- One byte parts two atoms.
unfoldable pub gap : Bool → ℕ
gap true = 1
gap false = 0

unfoldable pub atom_bytes : List ℕ → Bool → ℕ
atom_bytes bytes next = wide bytes + gap next

-- The bytes that tokens and items take at the least.
abbrev pub bytes : Stream Token → ℕ
bytes = cost atom_bytes 1 1

abbrev pub item_bytes : Item → Bool → ℕ
item_bytes = item_cost atom_bytes 1 1

abbrev pub items_bytes : Items → ℕ
items_bytes = items_cost atom_bytes 1 1
