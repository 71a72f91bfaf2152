-- What `intern` answers and leaves, for an area that holds a list of nodes.
use Prim.Native.Nat.{ℕ, ◌+◌, ◌-◌, ◌≤◌, ◌<◌}
use mathlib.Core.Path.{◌≡◌, refl, sym, ◌∙◌}
use mathlib.Core.List.{List, [], ◌∷◌, ◌++◌}
use native.Mathlib.Omega.{arith}
use borrow.Author.Tests.{le-leb, lt-leb, lt-ltb, le-ltb}
use native.Mathlib.Decide.{dec_le}
use lib.ListN.{length, get_or}
use Rattle.words.specs.Hash.{hash}
use Rattle.words.specs.Parts.{cleared}
use Rattle.words.proofs.Writing.{length-cleared, get_d_cleared}
use Rattle.arena.specs.Probing.{probe, start_place}
use Rattle.arena.specs.Store.{area_words, place_at, count, start, searched, added_answer, added_area, answer_at, area_at, intern_answer, intern_area, emptied}
use Rattle.arena.specs.declared.Probe.{Probe}
use Rattle.arena.specs.declared.Probe.TheVariants.{Held, Free, Nowhere}
use Rattle.arena.specs.Store.{Answer}
use Rattle.arena.specs.Store.{Found, Made, Full}
use Rattle.arena.proofs.Nodes.{Node, Nodes, node_of, total, asked}
use Rattle.arena.proofs.Limits.{Limits, places_positive, few_nodes, place_below}
use Rattle.arena.proofs.Holds.{Holds}
use Rattle.arena.proofs.Holds as H
use Rattle.arena.proofs.Nodes as N

-- 01's start place of a node.
abbrev pub place : ℕ → Node → ℕ
place places x = start_place (hash x) places

abbrev pub Kept : (nodes words places : ℕ) → List ℕ → Nodes → Type 0
Kept nodes words places a s = Holds nodes words places (place places) a s

-- That a node is not among the nodes.
abbrev pub Absent : Nodes → Node → Type 0
Absent s x = (k : ℕ) → k < length s → node_of s k ≡ x → ⊥

-- The three answers, each with what it says of the nodes and with the area that it leaves.
pub data Interned (nodes words places : ℕ) (a : List ℕ) (s : Nodes) (x : Node) (answer : Answer) (left : List ℕ) : Type 0 where
  found : (k : ℕ) → answer ≡ Found k → left ≡ a → k < length s → node_of s k ≡ x → Interned nodes words places a s x answer left
  made : answer ≡ Made (length s) → Kept nodes words places left (s ++ (x ∷ [])) → Absent s x →
      length s + 1 ≤ nodes → total s + length x ≤ words → Interned nodes words places a s x answer left
  full : answer ≡ Full → left ≡ a → Absent s x → (length s + 1 ≤ nodes → total s + length x ≤ words → ⊥) →
      Interned nodes words places a s x answer left

-- Where probing may end, for `probing_ends`: at the node, or at a free place when the node is not held.
pub data Ending (s : Nodes) (x : Node) : Probe → Type 0 where
  at_node : (k : ℕ) → k < length s → node_of s k ≡ x → Ending s x (Held k)
  at_free : (p : ℕ) → Absent s x → Ending s x (Free p)

module _ (nodes words places : ℕ) (l : Limits nodes words places) where
  -- An area whose counts and index are zero holds the empty store, whatever its other words are.
  pub kept_empty : (a : List ℕ) → area_words nodes words places ≤ length a → count a ≡ 0 → start a 0 ≡ 0 →
      ((i : ℕ) → i < places → get_or a (place_at nodes i) 0 ≡ 0) → Kept nodes words places a []
  kept_empty = H.holds_empty nodes words places (places_positive nodes words places l) (place places) (place_below nodes words places l)

  pub kept_emptied : (a : List ℕ) → area_words nodes words places ≤ length a → Kept nodes words places (emptied a nodes places) []
  unfolding emptied count start
  kept_emptied a long =
      kept_empty (cleared (place_at nodes places) a) (rw (length-cleared (place_at nodes places) a) long)
      (get_d_cleared (place_at nodes places) a 0 (omega arith)) (get_d_cleared (place_at nodes places) a 1 (omega arith))
      (λ i h. get_d_cleared (place_at nodes places) a (place_at nodes i) (omega arith))

  module _ (a : List ℕ) (s : Nodes) (h : Kept nodes words places a s) where
    abbrev places_read : ℕ → ℕ
    places_read p = get_or a (place_at nodes p) 0

    -- Numbers are equal exactly when nodes are.
    pub one_number : (j k : ℕ) → j < length s → k < length s → node_of s j ≡ node_of s k → j ≡ k
    one_number = N.same_number places (places_positive nodes words places l) (place places) (place_below nodes words places l)
        (λ (p : ℕ). get_or a (place_at nodes p) 0) s h.index

    module _ (x : Node) where
      walk : Probe
      walk = probe places places (λ (p : ℕ). get_or a (place_at nodes p) 0) (asked s x) (place places x)

      searched_is : searched a nodes places x ≡ walk
      unfolding searched walk
      searched_is = H.search_is nodes words places (places_positive nodes words places l) (place places) (place_below nodes words places l) a s h x

      node_found : (k : ℕ) → walk ≡ Held k → (k < length s) × (node_of s k ≡ x)
      unfolding walk
      node_found k e = N.found places (places_positive nodes words places l) (place places) (place_below nodes words places l) places_read s h.index x k e

      node_absent : (p : ℕ) → walk ≡ Free p → Absent s x
      unfolding walk
      node_absent p e = N.absent places (places_positive nodes words places l) (place places) (place_below nodes words places l) places_read s h.index x p e

      not_nowhere : walk ≡ Nowhere → ⊥
      unfolding walk
      not_nowhere e =
          N.ends places (places_positive nodes words places l) (place places) (place_below nodes words places l) places_read s h.index x
          (omega (arith, few_nodes nodes words places l, h.nodes_fit)) e

      -- For a reader: probing ends at the node or at a free place, and never without either, since the index is never full.
      pub probing_ends : Ending s x (searched a nodes places x)
      unfolding walk
      probing_ends = rw searched_is (go walk refl)
        where
          go : (w : Probe) → walk ≡ w → Ending s x w
          go (Held k) e = let f = node_found k e in at_node k f.0 f.1
          go (Free p) e = at_free p (node_absent p e)
          go Nowhere e = absurd (not_nowhere e)

      -- Full exactly when a node not yet held would pass the node limit or the word limit.
      added : (p : ℕ) → walk ≡ Free p → Interned nodes words places a s x (added_answer a nodes words x) (added_area a nodes words places x p)
      unfolding walk added_answer added_area
      added p e = nodes_left (dec_le nodes (length s))
        where
          absent : Absent s x
          absent = node_absent p e

          counted : count a ≡ length s
          counted = h.counted

          used : start a (count a) ≡ total s
          used = H.last_start nodes words places (places_positive nodes words places l) (place places) (place_below nodes words places l) a s h x

          fits : total s ≤ words
          fits = h.words_fit

          words_left : length s < nodes → Dec (length x ≤ words - total s) →
              Interned nodes words places a s x (added_answer a nodes words x) (added_area a nodes words places x p)
          words_left room (yes space) =
              let t1 = lt-leb nodes (count a) (omega (arith, counted)) in
              let t2 = le-ltb words (start a (count a)) (omega (arith, used, fits)) in
              let t3 = le-ltb (words - start a (count a)) (length x) (omega (arith, used, fits)) in
              made
              (rw (t1, t2, t3, counted))
              (rw (t1, t2, t3)
              (H.holds_more nodes words places (places_positive nodes words places l) (place places) (place_below nodes words places l) a s h x p e room
              (omega (arith, fits))))
              absent
              (omega arith)
              (omega (arith, fits))
          words_left room (no more) =
              let over : words - total s < length x = omega arith in
              let t1 = lt-leb nodes (count a) (omega (arith, counted)) in
              let t2 = le-ltb words (start a (count a)) (omega (arith, used, fits)) in
              let t3 = lt-ltb (words - start a (count a)) (length x) (omega (arith, used, fits)) in
              full (rw (t1, t2, t3)) (rw (t1, t2, t3)) absent (λ _ i. omega (arith, fits))

          nodes_left : Dec (nodes ≤ length s) → Interned nodes words places a s x (added_answer a nodes words x) (added_area a nodes words places x p)
          nodes_left (yes none) =
              let t1 = le-leb nodes (count a) (omega (arith, counted)) in
              full (rw t1) (rw t1) absent (λ i _. omega arith)
          nodes_left (no some) = words_left (omega arith) (dec_le (length x) (words - total s))

      -- The law of the store: found where the node is held, else added last where both limits allow it, else refused.
      pub interned : Interned nodes words places a s x (intern_answer a nodes words places x) (intern_area a nodes words places x)
      unfolding intern_answer intern_area answer_at area_at walk
      interned = go walk refl
        where
          go : (w : Probe) → walk ≡ w → Interned nodes words places a s x (intern_answer a nodes words places x) (intern_area a nodes words places x)
          go (Held k) e =
              let f = node_found k e in
              found k (rw (searched_is ∙ e)) (rw (searched_is ∙ e)) f.0 f.1
          go (Free p) e = rw (searched_is ∙ e) (added p e)
          go Nowhere e = absurd (not_nowhere e)

  -- For a reader: where probing ends never shows in the answer, since areas that hold the same nodes give the same answers.
  pub one_answer : (a b : List ℕ) (s : Nodes) → Kept nodes words places a s → Kept nodes words places b s → (x : Node) →
      intern_answer a nodes words places x ≡ intern_answer b nodes words places x
  one_answer a b s ha hb x = go (interned a s ha x) (interned b s hb x)
    where
      go : {p q : Answer} {c d : List ℕ} → Interned nodes words places a s x p c → Interned nodes words places b s x q d → p ≡ q
      go (found k e _ h t) (found j f _ i u) = let n : k ≡ j = one_number a s ha k j h i (t ∙ sym u) in cc
      go (found k e _ h t) (made f _ none _ _) = absurd (none k h t)
      go (found k e _ h t) (full f _ none _) = absurd (none k h t)
      go (made e _ none _ _) (found j f _ i u) = absurd (none j i u)
      go (made e _ _ _ _) (made f _ _ _ _) = e ∙ sym f
      go (made e _ _ i j) (full f _ _ over) = absurd (over i j)
      go (full e _ none _) (found j f _ i u) = absurd (none j i u)
      go (full e _ _ over) (made f _ _ i j) = absurd (over i j)
      go (full e _ _ _) (full f _ _ _) = e ∙ sym f
