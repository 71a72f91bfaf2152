-- The store in one area, in this order: the number of nodes; the nodes' starts, one more than there may be nodes, the last in use being
-- the number of words; the index; the nodes' words. In an empty store the first two words are 0. A key is a node's words, head first, lent
-- as a part of other words.
use Rattle.std.specs.Prelude.{ℕ, zero, suc, ◌+◌, ◌-◌, Bool, true, false, List, [], ◌∷◌, leb, ltb, length, get_or, set}
use Rattle.words.specs.Choice.{pick}
use Rattle.words.specs.Parts.{part, same_bytes, copied, cleared}
use Rattle.words.specs.Hash.{hash}
use Rattle.facts.specs.Below.horn.specs.Refusals.{number, store_full}
use Rattle.arena.specs.Probing.{probe, start_place}
use Rattle.arena.specs.declared.Probe.{Probe}
use Rattle.arena.specs.declared.Probe.TheVariants.{Held, Free, Nowhere}
use Rattle.std.specs.declared.result.Result.{Result}
use Rattle.std.specs.declared.result.Result.TheVariants.{Ok, Err}
use Rattle.arena.specs.declared.Interned.{Interned}
use Rattle.arena.specs.declared.Interned.TheVariants as interned
use Rattle.arena.specs.declared.Full as full

abbrev pub start_at : ℕ → ℕ
start_at k = k + 1

abbrev pub place_at : ℕ → ℕ → ℕ
place_at nodes i = 2 + nodes + i

abbrev pub word_at : ℕ → ℕ → ℕ → ℕ
word_at nodes places w = 2 + nodes + places + w

-- The words that the regions take up.
abbrev pub area_words : ℕ → ℕ → ℕ → ℕ
area_words nodes words places = 2 + nodes + places + words

-- n words from a place on.
unfoldable pub words_at : List ℕ → ℕ → ℕ → List ℕ
words_at s i zero = []
words_at s i (suc n) = get_or s i 0 ∷ words_at s (i + 1) n

unfoldable pub count : List ℕ → ℕ
count a = get_or a 0 0

unfoldable pub start : List ℕ → ℕ → ℕ
start a k = get_or a (start_at k) 0

-- Whether node k is the key.
unfoldable pub is_key : List ℕ → ℕ → ℕ → List ℕ → ℕ → Bool
is_key a nodes places key k = same_bytes (part (word_at nodes places (start a k)) (word_at nodes places (start a (k + 1))) a) key

-- Where probing for a key ends.
unfoldable pub searched : List ℕ → ℕ → ℕ → List ℕ → Probe
searched a nodes places key =
    probe places places (λ (p : ℕ). get_or a (place_at nodes p) 0) (is_key a nodes places key) (start_place (hash key) places)

-- The answer to a node: its number, of a node held before or of a new one, or that the store has no room for it.
pub data Answer : Type 0 where
  Found : ℕ → Answer
  Made : ℕ → Answer
  Full : Answer

-- What each case of the code's answer says.
abbrev pub answer : Result Interned full.Full → Answer
answer (Ok (interned.Found k)) = Found k
answer (Ok (interned.Made k)) = Made k
answer (Err e) = Full

-- "Refusal 28 comes when a node not yet held would pass either, and otherwise never."
unfoldable pub added_answer : List ℕ → ℕ → ℕ → List ℕ → Answer
added_answer a nodes words key =
    pick (leb nodes (count a)) (λ _. Full) (λ _.
    pick (ltb words (start a (count a))) (λ _. Full) (λ _.
    pick (ltb (words - start a (count a)) (length key)) (λ _. Full) (λ _. Made (count a))))

-- The area with the key as the last node, whose number plus 1 stands at place p of the index.
unfoldable pub with_node : List ℕ → ℕ → ℕ → List ℕ → ℕ → List ℕ
with_node a nodes places key p =
    set
    (set
    (set (copied a (word_at nodes places (start a (count a))) key 0 (length key)) (start_at (count a + 1)) (start a (count a) + length key))
    0
    (count a + 1))
    (place_at nodes p)
    (count a + 1)

unfoldable pub added_area : List ℕ → ℕ → ℕ → ℕ → List ℕ → ℕ → List ℕ
added_area a nodes words places key p =
    pick (leb nodes (count a)) (λ _. a) (λ _.
    pick (ltb words (start a (count a))) (λ _. a) (λ _.
    pick (ltb (words - start a (count a)) (length key)) (λ _. a) (λ _. with_node a nodes places key p)))

-- What follows from where probing ended.
unfoldable pub answer_at : List ℕ → ℕ → ℕ → List ℕ → Probe → Answer
answer_at a nodes words key (Held k) = Found k
answer_at a nodes words key (Free p) = added_answer a nodes words key
answer_at a nodes words key Nowhere = Full

unfoldable pub area_at : List ℕ → ℕ → ℕ → ℕ → List ℕ → Probe → List ℕ
area_at a nodes words places key (Held k) = a
area_at a nodes words places key (Free p) = added_area a nodes words places key p
area_at a nodes words places key Nowhere = a

unfoldable pub intern_answer : List ℕ → ℕ → ℕ → ℕ → List ℕ → Answer
intern_answer a nodes words places key = answer_at a nodes words key (searched a nodes places key)

unfoldable pub intern_area : List ℕ → ℕ → ℕ → ℕ → List ℕ → List ℕ
intern_area a nodes words places key = area_at a nodes words places key (searched a nodes places key)

unfoldable pub emptied : List ℕ → ℕ → ℕ → List ℕ
emptied a nodes places = cleared (place_at nodes places) a

-- A node's words, by its number: how many there are, its head, and an argument.
unfoldable pub size_of : List ℕ → ℕ → ℕ
size_of a k = start a (k + 1) - start a k

unfoldable pub head_of : List ℕ → ℕ → ℕ → ℕ → ℕ
head_of a nodes places k = get_or a (word_at nodes places (start a k)) 0

unfoldable pub argument_of : List ℕ → ℕ → ℕ → ℕ → ℕ → ℕ
argument_of a nodes places k j = get_or a (word_at nodes places (start a k) + 1 + j) 0

-- 01's number and values for each answer: 0 and the node's number, with whether the node is new; or 28, and no value.
pub record Reported : Type 0 where
  pub number : ℕ
  pub value : ℕ
  pub fresh : Bool

unfoldable pub answered : Answer → Reported
answered (Found k) = record { number = 0; value = k; fresh = false }
answered (Made k) = record { number = 0; value = k; fresh = true }
answered Full = record { number = number store_full; value = 0; fresh = false }

unfoldable pub intern_report : List ℕ → ℕ → ℕ → ℕ → List ℕ → Reported
intern_report a nodes words places key = answered (intern_answer a nodes words places key)
