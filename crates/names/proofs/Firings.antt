-- Tables that are there: one bucket, so that all entries are in one chain, and two tables in one area. Assumes nothing.
use Prim.Native.Nat.{ℕ}
use mathlib.Core.Path.{◌≡◌, refl}
use mathlib.Core.List.{List, [], ◌∷◌}
use mathlib.Core.Option.{none, some}
use native.Mathlib.Omega.{arith}
use lib.ListN.{length, replicate, get_or-replicate}
use Rattle.words.specs.Parts.{part, same_bytes}
use Rattle.names.specs.Chains.{hashed_all, hash_of, bucket_of, name_at, before, searched, chased, found, linked, added}
use Rattle.names.specs.Tables.{entry, top, Table}
use Rattle.names.proofs.Kept.{empty_table, add_law, kept_added_above, length-added}

-- The text `ab`, and a bucket for each of two tables in front of the entries.
abbrev text : List ℕ
text = 97 ∷ 98 ∷ []

abbrev zeros : List ℕ
zeros = replicate 12 0

abbrev once : List ℕ
once = added zeros 0 1 2 text 0 1

abbrev twice : List ℕ
twice = added once 0 1 5 text 1 2

abbrev thrice : List ℕ
thrice = added twice 1 1 8 text 0 2

-- The two entries of the first table, and the one of the second, with the words that they leave.
words : thrice ≡ 5 ∷ 8 ∷ 0 ∷ 1 ∷ 0 ∷ 1 ∷ 2 ∷ 2 ∷ 0 ∷ 2 ∷ 0 ∷ 0 ∷ []
unfolding added linked bucket_of hash_of hashed_all part
words = refl

both_found : (found thrice 0 1 text (97 ∷ []) ≡ some 2) × (found thrice 0 1 text (98 ∷ []) ≡ some 5) × (found thrice 0 1 text (97 ∷ 98 ∷ []) ≡ none)
unfolding found chased searched name_at before same_bytes added linked bucket_of hash_of hashed_all part
both_found = (refl, refl, refl)

other_found : (found thrice 1 1 text (97 ∷ 98 ∷ []) ≡ some 8) × (found thrice 1 1 text (97 ∷ []) ≡ none)
unfolding found chased searched name_at before same_bytes added linked bucket_of hash_of hashed_all part
other_found = (refl, refl)

-- The laws reach them: the first table is kept by what is added to the second.
none_held : Table zeros 0 1 2 text []
none_held = empty_table text (omega arith) (omega arith) (omega arith) (λ i low high. get_or-replicate 12 i 0 0 (omega arith))

one_held : Table once 0 1 2 text (entry 2 (part 0 1 text) ∷ [])
unfolding top
one_held = add_law 2 0 1 none_held (omega arith) (omega arith) (omega arith) (omega arith)

two_held : Table twice 0 1 2 text (entry 5 (part 1 2 text) ∷ entry 2 (part 0 1 text) ∷ [])
unfolding top
two_held =
    let n : length once ≡ 12 = length-added zeros 0 1 2 text 0 1 in
    add_law 5 1 2 one_held (omega arith) (omega arith) (omega arith) (omega arith)

still_held : Table thrice 0 1 2 text (entry 5 (98 ∷ []) ∷ entry 2 (97 ∷ []) ∷ [])
unfolding top part
still_held = kept_added_above 1 1 8 text 0 2 two_held (omega arith) (λ i p q r s. omega arith) (omega arith) (omega arith)
