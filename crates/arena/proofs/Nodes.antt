-- The store as a list of nodes, each a list of words, with an index over their numbers. No layout yet.
use Prim.Native.Nat.{ℕ, zero, suc, ◌+◌, ◌≤◌, ◌<◌}
use mathlib.Core.Path.{◌≡◌}
use mathlib.Core.Bool.{Bool, true}
use mathlib.Core.List.{List, [], ◌∷◌, ◌++◌}
use mathlib.Core.Logic.{⊎_elim}
use native.Mathlib.Omega.{arith}
use native.Mathlib.Nat.{eq-or-lt_of_le}
use lib.ListN.{length, get_or, take, length-append, get_or-append}
use lib.Seq.{get_or-append_seam, take-suc}
use Rattle.words.specs.Parts.{same_bytes}
use Rattle.arena.specs.Probing.{probe}
use Rattle.arena.specs.declared.Probe.TheVariants.{Held, Free, Nowhere}
use Rattle.facts.proofs.Comparing.{words_decide}
use Rattle.arena.proofs.Walks

abbrev pub Node : Type 0
Node = List ℕ

abbrev pub Nodes : Type 0
Nodes = List Node

abbrev pub node_of : Nodes → ℕ → Node
node_of s k = get_or s k []

-- The words of all nodes.
unfoldable pub total : Nodes → ℕ
total [] = 0
total (x ∷ s) = length x + total s

pub total-append : (s t : Nodes) → total (s ++ t) ≡ total s + total t
unfolding total
total-append [] t = omega arith
total-append (x ∷ s) t = rw (total-append s t) (omega arith)

pub total_one_more : (s : Nodes) (x : Node) → total (s ++ (x ∷ [])) ≡ total s + length x
unfolding total
total_one_more s x = rw (total-append s (x ∷ [])) (omega arith)

pub total_next : (s : Nodes) (k : ℕ) → k < length s → total (take (k + 1) s) ≡ total (take k s) + length (node_of s k)
total_next s k h = rw (native.Mathlib.Numerals.add-one k, take-suc s k [] h) (total_one_more (take k s) (node_of s k))

pub total_most : (s : Nodes) (k : ℕ) → total (take k s) ≤ total s
unfolding total
total_most [] zero = omega arith
total_most [] (suc k) = omega arith
total_most (x ∷ s) zero = omega arith
total_most (x ∷ s) (suc k) = omega (arith, total_most s k)

pub last_or_before : {C : Type 0} (s : Nodes) (x : Node) (k : ℕ) → k < length (s ++ (x ∷ [])) → (k < length s → C) → (k ≡ length s → C) → C
last_or_before s x k h before last =
    ⊎_elim last before
    (eq-or-lt_of_le
    (let n : length (s ++ (x ∷ [])) ≡ length s + 1 = length-append s (x ∷ []) in
    let b : k ≤ length s = omega arith in
    b))

-- Whether node k is the key x.
unfoldable pub asked : Nodes → Node → ℕ → Bool
asked s x k = same_bytes (node_of s k) x

pub asked_more : (s : Nodes) (y x : Node) (k : ℕ) → k < length s → asked (s ++ (y ∷ [])) x k ≡ asked s x k
unfolding asked
asked_more s y x k h = rw (get_or-append s (y ∷ []) [] k h)

-- Each node's walk finds its number; a place holds 0 or a number in use plus 1; no more places are in use than there are nodes.
pub record Indexed (places : ℕ) (start : Node → ℕ) (r : ℕ → ℕ) (s : Nodes) : Type 0 where
  pub each : (k : ℕ) → k < length s → probe places places r (asked s (node_of s k)) (start (node_of s k)) ≡ Held k
  pub bounded : (i : ℕ) → i < places → r i ≤ length s
  pub few : Walks.occupied r places ≤ length s

module _ (places : ℕ) (pos : 0 < places) (start : Node → ℕ) (start_below : (x : Node) → start x < places) where
  pub indexed_empty : (r : ℕ → ℕ) → ((i : ℕ) → i < places → r i ≡ 0) → Indexed places start r []
  indexed_empty r zeros =
      record {
        each = λ k h. absurd (omega arith);
        bounded = λ i h. omega (arith, zeros i h);
        few = omega (arith, Walks.occupied_none r places zeros);
      }

  module _ (r : ℕ → ℕ) (s : Nodes) (index : Indexed places start r s) where
    -- "Equal nodes get one number": numbers are equal exactly when nodes are.
    pub same_number : (j k : ℕ) → j < length s → k < length s → node_of s j ≡ node_of s k → j ≡ k
    same_number j k hj hk e =
        let a = index.each j hj in
        let b = index.each k hk in
        let c : probe places places r (asked s (node_of s j)) (start (node_of s j)) ≡ Held k = rw e b in
        cc

    in_use : (i v : ℕ) → i < places → r i ≡ suc v → v < length s
    in_use i v h e = omega (arith, index.bounded i h)

    module _ (x : Node) where
      -- A number that is found is that of the key.
      pub found : (k : ℕ) → probe places places r (asked s x) (start x) ≡ Held k → (k < length s) × (node_of s k ≡ x)
      unfolding asked
      found k e =
          let at = Walks.held_at places pos r (asked s x) k places (start x) (start_below x) e in
          (in_use at.1.0 k at.1.1 at.1.2, words_decide.equal (node_of s k) x at.0)

      pub found_again : (k : ℕ) → k < length s → node_of s k ≡ x → probe places places r (asked s x) (start x) ≡ Held k
      found_again k h e = rw e at (index.each k h)

      -- A walk that ends at a free place shows that the key is not held.
      pub absent : (p : ℕ) → probe places places r (asked s x) (start x) ≡ Free p → (k : ℕ) → k < length s → node_of s k ≡ x → ⊥
      absent p e k h same =
          let f = found_again k h same in
          let z : ◌≡◌ {A = ℕ} 0 1 = cc in
          omega arith

      -- Probing always ends at the node or at a free place.
      pub ends : length s < places → probe places places r (asked s x) (start x) ≡ Nowhere → ⊥
      ends room e =
          let all = Walks.occupied_all r places (Walks.all_used places pos r (asked s x) (start x) (start_below x) e) in
          omega (arith, index.few)

      pub indexed_more : (r' : ℕ → ℕ) (p : ℕ) → probe places places r (asked s x) (start x) ≡ Free p →
          ((i : ℕ) → i < places → (i ≡ p → ⊥) → r' i ≡ r i) → r' p ≡ suc (length s) → Indexed places start r' (s ++ (x ∷ []))
      unfolding asked
      indexed_more r' p e others here =
          record {
            each = λ k h. last_or_before s x k h (old k) new;
            bounded = bounded;
            few = omega (arith, Walks.occupied_one_more r r' p places others, index.few, length-append s (x ∷ []));
          }
        where
          free : (p < places) × (r p ≡ 0)
          free = Walks.free_at places pos r (asked s x) p places (start x) (start_below x) e

          more : (y : Node) (i v : ℕ) → i < places → r i ≡ suc v → asked (s ++ (x ∷ [])) y v ≡ asked s y v
          more y i v b h = asked_more s x y v (in_use i v b h)

          old : (k : ℕ) → k < length s →
              probe places places r' (asked (s ++ (x ∷ [])) (node_of (s ++ (x ∷ [])) k)) (start (node_of (s ++ (x ∷ [])) k)) ≡ Held k
          old k h =
              rw (get_or-append s (x ∷ []) [] k h)
              (Walks.still_held places pos r r' (length s) p others here free.1
              (asked s (node_of s k)) (asked (s ++ (x ∷ [])) (node_of s k)) (more (node_of s k)) k places (start (node_of s k)) (start_below (node_of s k))
              (index.each k h))

          itself : asked (s ++ (x ∷ [])) x (length s) ≡ true
          itself = rw (get_or-append_seam s x [] []) (words_decide.same x)

          new : {k : ℕ} → k ≡ length s →
              probe places places r' (asked (s ++ (x ∷ [])) (node_of (s ++ (x ∷ [])) k)) (start (node_of (s ++ (x ∷ [])) k)) ≡ Held k
          new h =
              rw (h, get_or-append_seam s x [] [])
              (Walks.now_held places pos r r' (length s) p others here free.1
              (asked s x) (asked (s ++ (x ∷ [])) x) (more x) itself places (start x) (start_below x) e)

          bounded : (i : ℕ) → i < places → r' i ≤ length (s ++ (x ∷ []))
          bounded i h = go (native.Mathlib.Decide.ℕ_discrete i p)
            where
              go : Dec (i ≡ p) → r' i ≤ length (s ++ (x ∷ []))
              go (yes same) = rw same (omega (arith, length-append s (x ∷ [])))
              go (no ne) = omega (arith, others i h ne, index.bounded i h, length-append s (x ∷ []))
