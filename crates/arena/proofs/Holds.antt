-- An area holds a list of nodes: what its words say, region by region; what one more node does to them; what `intern` answers and leaves.
use Prim.Native.Nat.{ℕ, ◌+◌, ◌≤◌, ◌<◌}
use mathlib.Core.Path.{◌≡◌, refl, sym, ap, ◌∙◌}
use mathlib.Core.List.{List, [], ◌∷◌, ◌++◌}
use native.Mathlib.Omega.{arith}
use native.Mathlib.Decide.{ℕ_discrete}
use lib.ListN.{length, get_or, set, take, length-set, length-append, get_or-append}
use lib.Seq.{get_or-append_seam, get_or-set_same, get_or-set_other, take-append-le, take_all, take-length}
use Rattle.words.specs.Parts.{part, same_bytes, copied}
use Rattle.words.proofs.Writing.{length-copied, copied_before, copied_there}
use Rattle.arena.specs.Probing.{probe}
use Rattle.arena.specs.Store.{start_at, place_at, word_at, area_words, words_at, count, start, is_key, with_node}
use Rattle.arena.specs.declared.Probe.TheVariants.{Free}
use Rattle.arena.proofs.Copies.{words_at_same, words_at_all, words_at-part}
use Rattle.arena.proofs.Nodes.{Node, Nodes, node_of, total, total_next, total_most, total_one_more, asked, last_or_before, Indexed}
use Rattle.arena.proofs.Walks
use Rattle.arena.proofs.Nodes as N

pub record Holds (nodes words places : ℕ) (place : Node → ℕ) (a : List ℕ) (s : Nodes) : Type 0 where
  pub long : area_words nodes words places ≤ length a
  pub counted : count a ≡ length s
  pub starts : (k : ℕ) → k ≤ length s → start a k ≡ total (take k s)
  pub contents : (k : ℕ) → k < length s → words_at a (word_at nodes places (total (take k s))) (length (node_of s k)) ≡ node_of s k
  pub index : Indexed places place (λ (p : ℕ). get_or a (place_at nodes p) 0) s
  pub nodes_fit : length s ≤ nodes
  pub words_fit : total s ≤ words

-- The three writes behind the copied words, and the places that they leave.
module _ (nodes : ℕ) (c : List ℕ) (n v p : ℕ) where
  grown : List ℕ
  grown = set (set (set c (start_at (n + 1)) v) 0 (n + 1)) (place_at nodes p) (n + 1)

  grown-length : length grown ≡ length c
  unfolding grown
  grown-length = simp length-set

  grown_else : (m : ℕ) → (m ≡ place_at nodes p → ⊥) → (m ≡ 0 → ⊥) → (m ≡ start_at (n + 1) → ⊥) → get_or grown m 0 ≡ get_or c m 0
  unfolding grown
  grown_else m x y z =
      get_or-set_other (set (set c (start_at (n + 1)) v) 0 (n + 1)) (place_at nodes p) m (n + 1) 0 x ∙
      get_or-set_other (set c (start_at (n + 1)) v) 0 m (n + 1) 0 y ∙
      get_or-set_other c (start_at (n + 1)) m v 0 z

  grown_count : 0 < length c → get_or grown 0 0 ≡ n + 1
  unfolding grown
  grown_count h =
      get_or-set_other (set (set c (start_at (n + 1)) v) 0 (n + 1)) (place_at nodes p) 0 (n + 1) 0 (λ e. omega arith) ∙
      get_or-set_same (set c (start_at (n + 1)) v) 0 (n + 1) 0 (rw (length-set c (start_at (n + 1)) v) h)

  grown_start : n < nodes → start_at (n + 1) < length c → get_or grown (start_at (n + 1)) 0 ≡ v
  unfolding grown
  grown_start room h =
      get_or-set_other (set (set c (start_at (n + 1)) v) 0 (n + 1)) (place_at nodes p) (start_at (n + 1)) (n + 1) 0 (λ e. omega arith) ∙
      get_or-set_other (set c (start_at (n + 1)) v) 0 (start_at (n + 1)) (n + 1) 0 (λ e. omega arith) ∙
      get_or-set_same c (start_at (n + 1)) v 0 h

  grown_place : place_at nodes p < length c → get_or grown (place_at nodes p) 0 ≡ n + 1
  unfolding grown
  grown_place h =
      get_or-set_same (set (set c (start_at (n + 1)) v) 0 (n + 1)) (place_at nodes p) (n + 1) 0
      (rw (length-set (set c (start_at (n + 1)) v) 0 (n + 1), length-set c (start_at (n + 1)) v) h)

with_node_lem : (a : List ℕ) (nodes places : ℕ) (key : List ℕ) (p : ℕ) →
    with_node a nodes places key p ≡ grown nodes (copied a (word_at nodes places (start a (count a))) key 0 (length key)) (count a)
    (start a (count a) + length key) p
unfolding with_node grown
with_node_lem a nodes places key p = refl

module _ (nodes words places : ℕ) (pos : 0 < places) (place : Node → ℕ) (place_below : (x : Node) → place x < places) where
  -- An area whose counts and index are zero holds the empty store, whatever its other words are.
  pub holds_empty : (a : List ℕ) → area_words nodes words places ≤ length a → count a ≡ 0 → start a 0 ≡ 0 →
      ((i : ℕ) → i < places → get_or a (place_at nodes i) 0 ≡ 0) → Holds nodes words places place a []
  unfolding total
  holds_empty a long none first zeros =
      record {
        long = long;
        counted = none;
        starts = λ k h. let z : k ≡ 0 = omega arith in rw z first;
        contents = λ k h. absurd (omega arith);
        index = N.indexed_empty places pos place place_below (λ (p : ℕ). get_or a (place_at nodes p) 0) zeros;
        nodes_fit = omega arith;
        words_fit = omega arith;
      }

  module _ (a : List ℕ) (s : Nodes) (h : Holds nodes words places place a s) where
    -- Number k stands for the k-th node.
    pub node_part : (k : ℕ) → k < length s → part (word_at nodes places (start a k)) (word_at nodes places (start a (k + 1))) a ≡ node_of s k
    node_part k b =
        words_at-part a (word_at nodes places (start a k)) (word_at nodes places (start a (k + 1))) (length (node_of s k))
        (omega (arith, first, next)) (omega (arith, h.long, next, total_next s k b, total_most s (k + 1), h.words_fit)) ∙
        rw first (h.contents k b)
      where
        first : start a k ≡ total (take k s)
        first = h.starts k (omega arith)

        next : start a (k + 1) ≡ total (take k s) + length (node_of s k)
        next = h.starts (k + 1) (omega arith) ∙ total_next s k b

    module _ (key : Node) where
      -- Probing the words is probing the nodes.
      pub search_is : probe places places (λ (p : ℕ). get_or a (place_at nodes p) 0) (is_key a nodes places key) (place key) ≡
          probe places places (λ (p : ℕ). get_or a (place_at nodes p) 0) (asked s key) (place key)
      unfolding is_key asked
      search_is =
          Walks.same_walk places pos (λ (p : ℕ). get_or a (place_at nodes p) 0) (is_key a nodes places key) (asked s key)
          (λ i v b e. ap (λ (x : Node). same_bytes x key) (node_part v (omega (arith, h.index.bounded i b))))
          places (place key) (place_below key)

      pub last_start : start a (count a) ≡ total s
      last_start = rw h.counted (h.starts (length s) (omega arith) ∙ ap total (take-length s))

      -- After the writes the area holds the store with the node added last.
      module _ (p : ℕ) (free : probe places places (λ (p : ℕ). get_or a (place_at nodes p) 0) (asked s key) (place key) ≡ Free p)
          (room : length s < nodes) (space : total s + length key ≤ words) where
        copy : List ℕ
        copy = copied a (word_at nodes places (total s)) key 0 (length key)

        new : List ℕ
        new = grown nodes copy (length s) (total s + length key) p

        copy-length : length copy ≡ length a
        unfolding copy
        copy-length = length-copied (length key) a (word_at nodes places (total s)) key 0

        before : (m : ℕ) → m < word_at nodes places (total s) → get_or copy m 0 ≡ get_or a m 0
        unfolding copy
        before m b = copied_before (length key) a (word_at nodes places (total s)) key 0 m b

        p_below : p < places
        p_below = (Walks.free_at places pos (λ (p : ℕ). get_or a (place_at nodes p) 0) (asked s key) p places (place key) (place_below key) free).0

        long : area_words nodes words places ≤ length a
        long = h.long

        new_else : (m : ℕ) → (m ≡ place_at nodes p → ⊥) → (m ≡ 0 → ⊥) → (m ≡ start_at (length s + 1) → ⊥) → get_or new m 0 ≡ get_or copy m 0
        unfolding new
        new_else m x y z = grown_else nodes copy (length s) (total s + length key) p m x y z

        size_new : length (s ++ (key ∷ [])) ≡ length s + 1
        size_new = length-append s (key ∷ [])

        new-count : count new ≡ length (s ++ (key ∷ []))
        unfolding count new
        new-count = grown_count nodes copy (length s) (total s + length key) p (omega (arith, copy-length, long)) ∙ sym size_new

        new_starts : (k : ℕ) → k ≤ length (s ++ (key ∷ [])) → start new k ≡ total (take k (s ++ (key ∷ [])))
        unfolding start new
        new_starts k b = go (ℕ_discrete k (length s + 1))
          where
            go : Dec (k ≡ length s + 1) → start new k ≡ total (take k (s ++ (key ∷ [])))
            go (yes same) =
                rw (same, take_all (length s + 1) (s ++ (key ∷ [])) (omega (arith, size_new)), total_one_more s key)
                (grown_start nodes copy (length s) (total s + length key) p room (omega (arith, copy-length, long)))
            go (no ne) =
                let old : k ≤ length s = omega (arith, size_new) in
                rw (take-append-le k s (key ∷ []) old)
                (new_else (start_at k) (λ e. omega arith) (λ e. omega arith) (λ e. omega arith) ∙
                before (start_at k) (omega arith) ∙
                h.starts k old)

        new_words : (m : ℕ) → get_or new (word_at nodes places m) 0 ≡ get_or copy (word_at nodes places m) 0
        new_words m = new_else (word_at nodes places m) (λ e. omega (arith, p_below)) (λ e. omega arith) (λ e. omega arith)

        new_contents : (k : ℕ) → k < length (s ++ (key ∷ [])) →
            words_at new (word_at nodes places (total (take k (s ++ (key ∷ []))))) (length (node_of (s ++ (key ∷ [])) k)) ≡ node_of (s ++ (key ∷ [])) k
        unfolding copy
        new_contents k b = last_or_before s key k b old latest
          where
            old : k < length s →
                words_at new (word_at nodes places (total (take k (s ++ (key ∷ []))))) (length (node_of (s ++ (key ∷ [])) k)) ≡ node_of (s ++ (key ∷ [])) k
            old b =
                let below : total (take k s) + length (node_of s k) ≤ total s = omega (arith, total_next s k b, total_most s (k + 1)) in
                rw (take-append-le k s (key ∷ []) (omega arith), get_or-append s (key ∷ []) [] k b)
                (words_at_same new a (word_at nodes places (total (take k s))) (word_at nodes places (total (take k s))) (length (node_of s k))
                (λ d i.
                let sum : word_at nodes places (total (take k s)) + d ≡ word_at nodes places (total (take k s) + d) = omega arith in
                rw sum (new_words (total (take k s) + d) ∙ before (word_at nodes places (total (take k s) + d)) (omega arith))) ∙
                h.contents k b)

            latest : k ≡ length s →
                words_at new (word_at nodes places (total (take k (s ++ (key ∷ []))))) (length (node_of (s ++ (key ∷ [])) k)) ≡ node_of (s ++ (key ∷ [])) k
            latest e =
                rw (e, take-append-le (length s) s (key ∷ []) (omega arith), take-length s, get_or-append_seam s key [] [])
                (words_at_same new key (word_at nodes places (total s)) 0 (length key)
                (λ d i.
                let sum : word_at nodes places (total s) + d ≡ word_at nodes places (total s + d) = omega arith in
                let there : get_or copy (word_at nodes places (total s + d)) 0 ≡ get_or key (0 + d) 0 =
                rw sum at (copied_there (length key) a (word_at nodes places (total s)) key 0 d (omega (arith, long)) i) in
                rw sum (new_words (total s + d) ∙ there)) ∙
                words_at_all key)

        new_index : Indexed places place (λ (p : ℕ). get_or new (place_at nodes p) 0) (s ++ (key ∷ []))
        unfolding new
        new_index =
            N.indexed_more places pos place place_below (λ (p : ℕ). get_or a (place_at nodes p) 0) s h.index key
            (λ (p : ℕ). get_or new (place_at nodes p) 0) p free
            (λ i b ne.
            new_else (place_at nodes i) (λ e. ne (omega arith)) (λ e. omega arith) (λ e. omega arith) ∙ before (place_at nodes i) (omega arith))
            (grown_place nodes copy (length s) (total s + length key) p (omega (arith, copy-length, long, p_below))
            ∙ native.Mathlib.Numerals.add-one (length s))

        new-length : length new ≡ length a
        unfolding new
        new-length = grown-length nodes copy (length s) (total s + length key) p ∙ copy-length

        new_holds : Holds nodes words places place new (s ++ (key ∷ []))
        new_holds =
            record {
              long = rw new-length long;
              counted = new-count;
              starts = new_starts;
              contents = new_contents;
              index = new_index;
              nodes_fit = omega (arith, size_new);
              words_fit = omega (arith, total_one_more s key);
            }

        pub holds_more : Holds nodes words places place (with_node a nodes places key p) (s ++ (key ∷ []))
        unfolding new copy
        holds_more = rw (with_node_lem a nodes places key p, last_start, h.counted) new_holds
