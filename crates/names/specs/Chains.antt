-- What each function answers and leaves, for any words. An entry at address e: the words at e and e + 1 are the bounds of its
-- name in a text, the word at e + 2 is the address of the last entry before it in its bucket.
use Rattle.std.specs.Prelude.{ℕ, zero, suc, ◌+◌, ◌*◌, ◌%◌, true, false, List, [], ◌∷◌, eqb, ltb, get_or, set}
use Rattle.std.proofs.Math.Option.{Option, none, some}
use Rattle.words.specs.Parts.{part, same_bytes}
use Rattle.words.specs.Sums.{low32}
use Rattle.std.specs.declared.option.Option as code
use Rattle.std.specs.declared.option.Option.TheVariants.{Some, None}

-- What the code's answer says: a value, as the address of an entry, or that there is none.
abbrev pub answered : {A : Type 0} → code.Option A → Option A
answered (Some a) = some a
answered None = none

unfoldable pub hashed_all : ℕ → List ℕ → ℕ
hashed_all h [] = h
hashed_all h (b ∷ bs) = hashed_all ((h * 31 + b) % 4294967296) bs

unfoldable pub hash_of : List ℕ → ℕ
hash_of name = hashed_all 0 name

-- The number of a name's bucket, 0 where there are no buckets.
unfoldable pub bucket_of : ℕ → List ℕ → ℕ
bucket_of count name = elim (eqb count 0) [ true ↦ 0 | false ↦ hash_of name % count ]

-- The name of the entry at e.
unfoldable pub name_at : List ℕ → List ℕ → ℕ → List ℕ
name_at area text e = part (get_or area e 0) (get_or area (e + 1) 0) text

-- The entry before the one at e in its bucket. A link that does not fall is none.
unfoldable pub before : List ℕ → ℕ → ℕ
before area e = elim (ltb (get_or area (e + 2) 0) e) [ true ↦ get_or area (e + 2) 0 | false ↦ 0 ]

-- The first entry that has the name, along the chain from e. A chain falls, so that its fuel is its first address.
unfoldable pub searched : ℕ → List ℕ → List ℕ → List ℕ → ℕ → Option ℕ
searched zero area text key e = none
searched (suc fuel) area text key e =
    elim (eqb e 0) [
      | true ↦ none
      | false ↦ elim (same_bytes (name_at area text e) key) [
        | true ↦ some e
        | false ↦ searched fuel area text key (before area e)
      ]
    ]

unfoldable pub chased : List ℕ → List ℕ → List ℕ → ℕ → Option ℕ
chased area text key e = searched e area text key e

-- The address of the entry that has the name `key`, in the buckets that stand from `buckets` on.
unfoldable pub found : List ℕ → ℕ → ℕ → List ℕ → List ℕ → Option ℕ
found area buckets count text key = chased area text key (get_or area (buckets + bucket_of count key) 0)

-- The three words of an entry, and the word of its bucket.
unfoldable pub linked : List ℕ → ℕ → ℕ → ℕ → ℕ → List ℕ
linked area place e start end = set (set (set (set area e start) (e + 1) end) (e + 2) (get_or area place 0)) place e

-- The area with one more entry, at e. Words hold the low 32 bits of a place in a text.
unfoldable pub added : List ℕ → ℕ → ℕ → ℕ → List ℕ → ℕ → ℕ → List ℕ
added area buckets count e text start end =
    linked area (buckets + bucket_of count (part start end text)) e (low32 start) (low32 end)
