-- The store with a count of the requests that found their node, in the word behind its regions.
use Rattle.std.specs.Prelude.{ℕ, List, get_or, set}
use Rattle.words.specs.Sums.{sum32}
use Rattle.arena.specs.Store as store
use Rattle.arena.specs.Store.{area_words, count, intern_answer, intern_area}
use Rattle.arena.specs.Store.{Answer}
use Rattle.arena.specs.Store.{Found, Made, Full}

-- The word that counts them.
abbrev pub found_of : List ℕ → ℕ → ℕ → ℕ → ℕ
found_of a nodes words places = get_or a (area_words nodes words places) 0

-- What the store's answer adds to it: 1 for a node that was found, 0 for one that was made or refused.
unfoldable pub found_by : Answer → ℕ
found_by (Found k) = 1
found_by (Made k) = 0
found_by Full = 0

-- The area with so many more counted, in 32 bits.
unfoldable pub with_found : ℕ → List ℕ → ℕ → ℕ → ℕ → List ℕ
with_found n a nodes words places = set a (area_words nodes words places) (sum32 (found_of a nodes words places) n)

-- The area after a request.
unfoldable pub requested_area : List ℕ → ℕ → ℕ → ℕ → List ℕ → List ℕ
requested_area a nodes words places key =
    with_found (found_by (intern_answer a nodes words places key)) (intern_area a nodes words places key) nodes words places

-- The area before the first request.
unfoldable pub emptied : List ℕ → ℕ → ℕ → ℕ → List ℕ
emptied a nodes words places = set (store.emptied a nodes places) (area_words nodes words places) 0

-- L1: "every request to the store that was met, found or made", in 32 bits.
unfoldable pub requested_of : List ℕ → ℕ → ℕ → ℕ → ℕ
requested_of a nodes words places = sum32 (found_of a nodes words places) (count a)
