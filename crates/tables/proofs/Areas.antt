-- What an entry with its value leaves of the area. Assumes nothing.
use mathlib.Core.Path.{◌≡◌, ◌∙◌}
use mathlib.Core.List.{List}
use Prim.Native.Nat.{ℕ, ◌+◌, ◌≤◌, ◌<◌}
use native.Mathlib.Omega.{arith}
use lib.ListN.{length, get_or, set, length-set}
use lib.Seq.{get_or-set_same, get_or-set_other}
use Rattle.names.specs.Chains.{added}
use Rattle.names.proofs.Kept.{length-added, added_other}
use Rattle.tables.specs.Words.{entry_words, value_offset, entered}

-- The words of two areas are the same from one place up to another.
pub record Same (table table' : List ℕ) (low high : ℕ) : Type 0 where
  pub words : (i : ℕ) → low ≤ i → i < high → get_or table' i 0 ≡ get_or table i 0

module _ (table : List ℕ) (buckets count e : ℕ) (text : List ℕ) (s t value : ℕ) where
  pub length-entered : length (entered buckets count e text s t value table) ≡ length table
  unfolding entered
  length-entered = length-set (added table buckets count e text s t) (e + value_offset) value ∙ length-added table buckets count e text s t

  pub entered_other : 0 < count → (i : ℕ) → (buckets ≤ i → i < buckets + count → ⊥) → (e ≤ i → i < e + entry_words → ⊥)
      → get_or (entered buckets count e text s t value table) i 0 ≡ get_or table i 0
  unfolding entered
  entered_other p i n h =
      get_or-set_other (added table buckets count e text s t) (e + value_offset) i value 0 (λ q. h (omega arith) (omega arith))
      ∙ added_other table buckets count e text s t p i n (λ q r. h q (omega arith))

  pub entered-value : e + entry_words ≤ length table → get_or (entered buckets count e text s t value table) (e + value_offset) 0 ≡ value
  unfolding entered
  entered-value h =
      get_or-set_same (added table buckets count e text s t) (e + value_offset) value 0 (let k = length-added table buckets count e text s t in omega arith)

  -- All words but those of the buckets and of the entry.
  pub entered_same : 0 < count → (low high : ℕ) → buckets + count ≤ low → high ≤ e → Same table (entered buckets count e text s t value table) low high
  entered_same p low high h k =
      record { words = λ i l r. entered_other p i (λ x y. omega arith) (λ x y. omega arith) }

  pub entered_above : 0 < count → (low high : ℕ) → buckets + count ≤ low → e + entry_words ≤ low
      → Same table (entered buckets count e text s t value table) low high
  entered_above p low high h k =
      record { words = λ i l r. entered_other p i (λ x y. omega arith) (λ x y. omega arith) }

  pub entered_below : 0 < count → (low high : ℕ) → high ≤ buckets → high ≤ e → Same table (entered buckets count e text s t value table) low high
  entered_below p low high h k =
      record { words = λ i l r. entered_other p i (λ x y. omega arith) (λ x y. omega arith) }

-- One word written elsewhere.
pub set_same : (table : List ℕ) (p v low high : ℕ) → (low ≤ p → p < high → ⊥) → Same table (set table p v) low high
set_same table p v low high n =
    record { words = λ i l r. get_or-set_other table p i v 0 (λ q. n (omega arith) (omega arith)) }

-- A list with one element more.
