-- What the readers of a node give, for an area that holds nodes, and for one that holds trees.
use Prim.Native.Nat.{ℕ, ◌+◌, ◌≤◌, ◌<◌}
use mathlib.Core.Path.{◌≡◌, sym, ap, ◌∙◌}
use mathlib.Core.List.{List, []}
use native.Mathlib.Omega.{arith}
use lib.ListN.{length, get_or, take}
use Rattle.facts.specs.Below.horn.specs.Rulebook.{Symbol}
use Rattle.facts.specs.Below.horn.specs.StoredTerms.{Term}
use Rattle.arena.specs.Store.{area_words, word_at, words_at, count, start, size_of, head_of, argument_of, emptied}
use Rattle.arena.proofs.Copies.{get_d_words_at}
use Rattle.arena.proofs.Nodes.{Node, Nodes, node_of, total, total_next}
use Rattle.arena.proofs.Limits.{Limits}
use Rattle.arena.proofs.Interning.{Kept, kept_emptied}
use Rattle.arena.proofs.Trees.{Trees, tree_of, stand_empty}

module _ (nodes words places : ℕ) (a : List ℕ) (s : Nodes) (h : Kept nodes words places a s) (k : ℕ) (b : k < length s) where
  start_read : start a k ≡ total (take k s)
  start_read = h.starts k (omega arith)

  pub size_read : size_of a k ≡ length (node_of s k)
  unfolding size_of
  size_read = let next = h.starts (k + 1) (omega arith) ∙ total_next s k b in omega (arith, start_read)

  -- Number k stands for the k-th node.
  pub node_read : words_at a (word_at nodes places (start a k)) (size_of a k) ≡ node_of s k
  node_read = rw (size_read, start_read) (h.contents k b)

  word_read : (d : ℕ) → d < length (node_of s k) → get_or a (word_at nodes places (start a k) + d) 0 ≡ get_or (node_of s k) d 0
  word_read d i =
      sym (get_d_words_at a (word_at nodes places (start a k)) (length (node_of s k)) d i) ∙
      ap (λ (x : Node). get_or x d 0) (ap (words_at a (word_at nodes places (start a k))) (sym size_read) ∙ node_read)

  pub head_read : 0 < length (node_of s k) → head_of a nodes places k ≡ get_or (node_of s k) 0 0
  unfolding head_of
  head_read i = let z : word_at nodes places (start a k) + 0 ≡ word_at nodes places (start a k) = omega arith in rw z at (word_read 0 i)

  pub argument_read : (j : ℕ) → 1 + j < length (node_of s k) → argument_of a nodes places k j ≡ get_or (node_of s k) (1 + j) 0
  unfolding argument_of
  argument_read j i =
      let z : word_at nodes places (start a k) + (1 + j) ≡ word_at nodes places (start a k) + 1 + j = omega arith in
      rw z at (word_read (1 + j) i)

module _ (symbol_at : ℕ → Symbol) (used : ℕ → Type 0) (nodes words places : ℕ) where
  -- An area that was emptied holds no tree.
  pub trees_emptied : Limits nodes words places → (a : List ℕ) → area_words nodes words places ≤ length a →
      Trees symbol_at used nodes words places (emptied a nodes places) []
  trees_emptied l a long = record { nodes_of = []; kept = kept_emptied nodes words places l a long; stand = stand_empty symbol_at used }

  module _ (a : List ℕ) (ts : List Term) (t : Trees symbol_at used nodes words places a ts) where
    pub trees_counted : count a ≡ length ts
    trees_counted = t.kept.counted ∙ sym t.stand.same

    -- Numbers are equal exactly when trees are.
    pub one_tree : (j k : ℕ) → j < length ts → k < length ts → tree_of symbol_at ts j ≡ tree_of symbol_at ts k → j ≡ k
    one_tree j k bj bk e = t.stand.apart j k (omega (arith, t.stand.same)) (omega (arith, t.stand.same)) e
