-- Words behind the store's regions: the nodes that an area holds do not depend on them, and `intern` does not touch them.
use Prim.Native.Nat.{ℕ, zero, suc, ◌+◌, ◌-◌, ◌%◌, ◌≤◌, ◌<◌}
use mathlib.Core.Path.{◌≡◌, refl, ap, ◌∙◌}
use mathlib.Core.Bool.{Bool, true, false}
use mathlib.Core.List.{List}
use native.Mathlib.Omega.{arith}
use native.Mathlib.Nat.{mod-lt}
use borrow.Author.Tests.{ltb-false, leb-false}
use lib.Dec.{leb, ltb}
use lib.ListN.{length, get_or, set, take, length-set}
use lib.Seq.{get_or-set_other}
use Rattle.words.specs.Parts.{copied}
use Rattle.words.specs.Hash.{hash}
use Rattle.words.proofs.Writing.{length-copied, copied_behind}
use Rattle.facts.specs.Below.horn.specs.Rulebook.{Symbol}
use Rattle.facts.specs.Below.horn.specs.StoredTerms.{Term}
use Rattle.arena.specs.Probing.{probe, start_place}
use Rattle.arena.specs.Store.{start_at, place_at, word_at, area_words, count, start, is_key, searched, with_node, added_area, area_at, intern_area}
use Rattle.arena.specs.declared.Probe.{Probe}
use Rattle.arena.specs.declared.Probe.TheVariants.{Held, Free, Nowhere}
use Rattle.arena.proofs.Copies.{words_at_same}
use Rattle.arena.proofs.Nodes.{Nodes, node_of, total, total_next, total_most, asked}
use Rattle.arena.proofs.Limits.{Limits, places_positive, place_below}
use Rattle.arena.proofs.Interning.{Kept, place}
use Rattle.arena.proofs.Trees.{Trees}
use Rattle.arena.proofs.Walks

-- A walk depends only on what it reads below `places`.
same_reads : (places : ℕ) → 0 < places → (r r' : ℕ → ℕ) (q : ℕ → Bool) → ((i : ℕ) → i < places → r' i ≡ r i) →
    (f i : ℕ) → i < places → probe places f r' q i ≡ probe places f r q i
unfolding probe
same_reads places pos r r' q same zero i b = refl
same_reads places pos r r' q same (suc f) i b =
    rw (same i b, probe) (go (r i) (same_reads places pos r r' q same f ((i + 1) % places) (mod-lt (i + 1) pos)))
  where
    go : (v : ℕ) {x y : Probe} → x ≡ y →
        ◌≡◌ {A = Probe}
        (elim v [ zero ↦ Free i | suc w ↦ elim (q w) [ true ↦ Held w | false ↦ x ] ])
        (elim v [ zero ↦ Free i | suc w ↦ elim (q w) [ true ↦ Held w | false ↦ y ] ])
    go zero e = refl
    go (suc w) e = ap (λ (x : Probe). elim (q w) [ true ↦ Held w | false ↦ x ]) e

module _ (nodes words places : ℕ) (l : Limits nodes words places) (m : ℕ) (behind : area_words nodes words places ≤ m) where
  -- A word behind the regions may be anything.
  module _ (a : List ℕ) (v : ℕ) (s : Nodes) (h : Kept nodes words places a s) where
    other : (i : ℕ) → i < area_words nodes words places → get_or (set a m v) i 0 ≡ get_or a i 0
    other i b = get_or-set_other a m i v 0 (λ e. omega arith)

    reads : (p : ℕ) → p < places → get_or (set a m v) (place_at nodes p) 0 ≡ get_or a (place_at nodes p) 0
    reads p b = other (place_at nodes p) (omega arith)

    kept_behind : Kept nodes words places (set a m v) s
    unfolding count start
    kept_behind =
        record {
          long = rw (length-set a m v) h.long;
          counted = other 0 (omega arith) ∙ h.counted;
          starts = λ k b. let f = h.nodes_fit in other (start_at k) (omega arith) ∙ h.starts k b;
          contents = λ k b.
              let f = h.words_fit in
              let n = total_next s k b in
              let t = total_most s (k + 1) in
              words_at_same (set a m v) a (word_at nodes places (total (take k s))) (word_at nodes places (total (take k s))) (length (node_of s k))
              (λ d i. other (word_at nodes places (total (take k s)) + d) (omega arith)) ∙
              h.contents k b;
          index = record {
            each = λ k b.
                same_reads places (places_positive nodes words places l) (λ (p : ℕ). get_or a (place_at nodes p) 0)
                (λ (p : ℕ). get_or (set a m v) (place_at nodes p) 0)
                (asked s (node_of s k)) reads places (place places (node_of s k)) (place_below nodes words places l (node_of s k)) ∙
                h.index.each k b;
            bounded = λ i b. rw (reads i b) (h.index.bounded i b);
            few = rw (Walks.occupied_same (λ (p : ℕ). get_or a (place_at nodes p) 0) (λ (p : ℕ). get_or (set a m v) (place_at nodes p) 0) places reads)
                h.index.few;
          };
          nodes_fit = h.nodes_fit;
          words_fit = h.words_fit;
        }

  module _ (a key : List ℕ) where
    -- One node more leaves the words behind the regions, and as many words as there were.
    node_behind : (p : ℕ) → p < places → count a < nodes → start a (count a) + length key ≤ words →
        get_or (with_node a nodes places key p) m 0 ≡ get_or a m 0
    unfolding with_node
    node_behind p b c w =
        let base = copied a (word_at nodes places (start a (count a))) key 0 (length key) in
        let first = set base (start_at (count a + 1)) (start a (count a) + length key) in
        get_or-set_other (set first 0 (count a + 1)) (place_at nodes p) m (count a + 1) 0 (λ e. omega arith) ∙
        get_or-set_other first 0 m (count a + 1) 0 (λ e. omega arith) ∙
        get_or-set_other base (start_at (count a + 1)) m (start a (count a) + length key) 0 (λ e. omega arith) ∙
        copied_behind (length key) a (word_at nodes places (start a (count a))) key 0 m (omega arith)

    length_node : (p : ℕ) → length (with_node a nodes places key p) ≡ length a
    unfolding with_node
    length_node p = simp (length-set, length-copied)

    -- The word behind is the same, and as many words are there.
    pub record SameBehind (b : List ℕ) : Type 0 where
      pub same_word : get_or b m 0 ≡ get_or a m 0
      pub same_length : length b ≡ length a

    unchanged : SameBehind a
    unchanged = record { same_word = refl; same_length = refl }

    added_behind : (p : ℕ) → p < places → SameBehind (added_area a nodes words places key p)
    unfolding added_area
    added_behind p b = nodes_left (leb nodes (count a)) refl
      where
        space : (t : Bool) → ltb (words - start a (count a)) (length key) ≡ t → leb nodes (count a) ≡ false →
            ltb words (start a (count a)) ≡ false → SameBehind (added_area a nodes words places key p)
        space true e f g = rw (f, g, e) unchanged
        space false e f g =
            let c = leb-false nodes (count a) f in
            let w = ltb-false words (start a (count a)) g in
            let k = ltb-false (words - start a (count a)) (length key) e in
            rw (f, g, e) record { same_word = node_behind p b (omega arith) (omega arith); same_length = length_node p }

        words_left : (t : Bool) → ltb words (start a (count a)) ≡ t → leb nodes (count a) ≡ false → SameBehind (added_area a nodes words places key p)
        words_left true e f = rw (f, e) unchanged
        words_left false e f = space (ltb (words - start a (count a)) (length key)) refl f e

        nodes_left : (t : Bool) → leb nodes (count a) ≡ t → SameBehind (added_area a nodes words places key p)
        nodes_left true e = rw e unchanged
        nodes_left false e = words_left (ltb words (start a (count a))) refl e

    -- So does `intern`, wherever its search ends.
    pub intern_behind : SameBehind (intern_area a nodes words places key)
    unfolding intern_area area_at searched
    intern_behind = go (searched a nodes places key) refl
      where
        go : (w : Probe) → searched a nodes places key ≡ w → SameBehind (intern_area a nodes words places key)
        go (Held k) e = rw e unchanged
        go Nowhere e = rw e unchanged
        go (Free p) e =
            let f = Walks.free_at places (places_positive nodes words places l) (λ (i : ℕ). get_or a (place_at nodes i) 0) (is_key a nodes places key) p places
            (start_place (hash key) places) (place_below nodes words places l key) e in
            rw e (added_behind p f.0)

module _ (symbol_at : ℕ → Symbol) (used : ℕ → Type 0) (nodes words places : ℕ) (l : Limits nodes words places) where
  -- So an area that holds trees still holds them.
  pub trees_behind : (m v : ℕ) → area_words nodes words places ≤ m → (a : List ℕ) (ts : List Term) → Trees symbol_at used nodes words places a ts →
      Trees symbol_at used nodes words places (set a m v) ts
  trees_behind m v behind a ts t =
      record { nodes_of = t.nodes_of; kept = kept_behind nodes words places l m behind a v t.nodes_of t.kept; stand = t.stand }
