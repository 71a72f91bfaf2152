-- Parts of lent words and bytes.
use Rattle.std.specs.Prelude.{ℕ, zero, suc, ◌+◌, Bool, true, false, List, [], ◌∷◌, ◌==◌, slice_index, slice_range, slice_set}

-- What stands from `start` up to `end`, as far as it is there.
unfoldable pub part : {A : Type 0} → ℕ → ℕ → List A → List A
part start end s = slice_range s start end

-- Whether two byte strings are equal, or two lists of words.
unfoldable pub same_bytes : List ℕ → List ℕ → Bool
same_bytes [] [] = true
same_bytes [] (b ∷ bs) = false
same_bytes (a ∷ as') [] = false
same_bytes (a ∷ as') (b ∷ bs) = elim (a == b) [ true ↦ same_bytes as' bs | false ↦ false ]

-- A list with n words at i taken from those at j of another.
unfoldable pub copied : List ℕ → ℕ → List ℕ → ℕ → ℕ → List ℕ
copied a i s j zero = a
copied a i s j (suc n) = copied (slice_set a i (slice_index s j)) (i + 1) s (j + 1) n

-- The first n words set to 0, or all of them where there are fewer.
unfoldable pub cleared : ℕ → List ℕ → List ℕ
cleared zero s = s
cleared (suc n) [] = []
cleared (suc n) (w ∷ s) = 0 ∷ cleared n s
