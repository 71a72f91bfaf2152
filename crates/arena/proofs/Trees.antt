-- The law of the store on trees: heads are words that stand for symbols, argument numbers stand for earlier trees.
use Prim.Native.Nat.{ℕ, suc, ◌+◌, ◌≤◌, ◌<◌}
use mathlib.Core.Path.{◌≡◌, refl, sym, ap, ◌∙◌}
use mathlib.Core.Bool.{true, false, ◌&&◌}
use mathlib.Core.List.{List, [], ◌∷◌, ◌++◌}
use native.Mathlib.Omega.{arith}
use native.Mathlib.Nat.{lt_of_not-le}
use native.Mathlib.Decide.{dec_le}
use borrow.Author.Tests.{le-leb, lt-leb}
use lib.Dec.{leb}
use lib.ListN.{length, get_or, length-append, get_or-append}
use lib.Seq.{get_or-append_seam}
use Rattle.facts.specs.Below.horn.specs.Refusals.{ok, refused, ◌>>=◌, need, store_full}
use Rattle.facts.specs.Below.horn.specs.Setting.{Setting}
use Rattle.facts.specs.Below.horn.specs.Rulebook.{Symbol}
use Rattle.facts.specs.Below.horn.specs.StoredTerms.{Term, node, Terms, []ₜ, ◌∷ₜ◌, width, node_size, size, holds, within_limits, intern}
use Rattle.arena.specs.Store.{intern_answer, intern_area}
use Rattle.arena.specs.Store.{Answer}
use Rattle.arena.specs.Store.{Found, Made, Full}
use Rattle.facts.specs.Below.horn.proofs.Equality.{case}
use Rattle.arena.proofs.Cases.{not_both}
use Rattle.arena.proofs.Equality.{held_place, place_held}
use Rattle.arena.proofs.Nodes.{Node, Nodes, node_of, total, last_or_before}
use Rattle.arena.proofs.Limits.{Limits}
use Rattle.arena.proofs.Interning.{Kept, Absent, Interned, found, made, full, interned}

-- Numbers that are all below n.
pub data Below (n : ℕ) : List ℕ → Type 0 where
  none : Below n []
  both : {m : ℕ} {ms : List ℕ} → m < n → Below n ms → Below n (m ∷ ms)

pub below_more : {n : ℕ} {ms : List ℕ} (n' : ℕ) → n ≤ n' → Below n ms → Below n' ms
below_more n' h none = none
below_more n' h (both {m = m} b bs) = both {m = m} (omega arith) (below_more n' h bs)

-- A head in use with argument numbers below n.
pub data Formed (used : ℕ → Type 0) (n : ℕ) : Node → Type 0 where
  formed : {head : ℕ} {arguments : List ℕ} → used head → Below n arguments → Formed used n (head ∷ arguments)

pub formed_more : {used : ℕ → Type 0} {n : ℕ} {x : Node} (n' : ℕ) → n ≤ n' → Formed used n x → Formed used n' x
formed_more n' h (formed u bs) = formed u (below_more n' h bs)

module _ (symbol_at : ℕ → Symbol) where
  -- What a number past the end would stand for.
  pub blank : Term
  blank = node (symbol_at 0) []ₜ

  abbrev pub tree_of : List Term → ℕ → Term
  tree_of ts k = get_or ts k blank

  -- A longer store leaves what a number stands for, and a new number stands for the new tree.
  pub same_tree : (ts us : List Term) (k : ℕ) → k < length ts → tree_of (ts ++ us) k ≡ tree_of ts k
  same_tree ts us k h = get_or-append ts us blank k h

  pub new_tree : (ts : List Term) (t : Term) → tree_of (ts ++ (t ∷ [])) (length ts) ≡ t
  new_tree ts t = get_or-append_seam ts t [] blank

  unfoldable pub lookups : List Term → List ℕ → Terms
  lookups ts [] = []ₜ
  lookups ts (m ∷ ms) = tree_of ts m ∷ₜ lookups ts ms

  -- The tree that a node's words stand for.
  unfoldable pub build : List Term → Node → Term
  build ts [] = blank
  build ts (head ∷ arguments) = node (symbol_at head) (lookups ts arguments)

  lookups_more : (ts us : List Term) {ms : List ℕ} → Below (length ts) ms → lookups (ts ++ us) ms ≡ lookups ts ms
  unfolding lookups
  lookups_more ts us none = refl
  lookups_more ts us (both {m = m} b bs) = rw (get_or-append ts us blank m b, lookups_more ts us bs)

  build_more : {used : ℕ → Type 0} (ts us : List Term) {x : Node} → Formed used (length ts) x → build (ts ++ us) x ≡ build ts x
  unfolding build
  build_more ts us (formed u bs) = rw (lookups_more ts us bs)

  lookups-width : (ts : List Term) (ms : List ℕ) → width (lookups ts ms) ≡ length ms
  unfolding lookups width
  lookups-width ts [] = refl
  lookups-width ts (m ∷ ms) = ap suc (lookups-width ts ms)

  build_size : {used : ℕ → Type 0} {n : ℕ} (ts : List Term) {x : Node} → Formed used n x → node_size (build ts x) ≡ length x
  unfolding build node_size
  build_size ts (formed {arguments = ms} u bs) = rw (lookups-width ts ms) (omega arith)

  -- Equal sizes one by one give equal sums.
  sizes : (ts : List Term) (s : Nodes) → length ts ≡ length s → ((k : ℕ) → k < length s → node_size (tree_of ts k) ≡ length (node_of s k)) → size ts ≡ total s
  unfolding size total
  sizes [] [] e each = refl
  sizes [] (x ∷ s) e each = absurd (omega arith)
  sizes (t ∷ ts) [] e each = absurd (omega arith)
  sizes (t ∷ ts) (x ∷ s) e each =
      let rest = sizes ts s (omega arith) (λ k h. each (suc k) (omega arith)) in
      omega (arith, each 0 (omega arith))

  size-append : (ts : List Term) (t : Term) → size (ts ++ (t ∷ [])) ≡ size ts + node_size t
  unfolding size
  size-append [] t = omega arith
  size-append (u ∷ ts) t = rw (size-append ts t) (omega arith)

  module _ (used : ℕ → Type 0) where
    -- Number k stands for the k-th tree, which its node builds from earlier ones; different numbers stand for different trees.
    pub record Stand (ts : List Term) (s : Nodes) : Type 0 where
      pub same : length ts ≡ length s
      pub each : (k : ℕ) → k < length s → Formed used k (node_of s k)
      pub built : (k : ℕ) → k < length s → tree_of ts k ≡ build ts (node_of s k)
      pub apart : (j k : ℕ) → j < length s → k < length s → tree_of ts j ≡ tree_of ts k → j ≡ k

    pub stand_empty : Stand [] []
    stand_empty =
        record {
          same = refl;
          each = λ k h. absurd (omega arith);
          built = λ k h. absurd (omega arith);
          apart = λ j k h _ _. absurd (omega arith);
        }

    -- The area holds the trees.
    pub record Trees (nodes words places : ℕ) (a : List ℕ) (ts : List Term) : Type 0 where
      pub nodes_of : Nodes
      pub kept : Kept nodes words places a nodes_of
      pub stand : Stand ts nodes_of

    -- The three answers beside the definition's.
    pub data InternedTree (limits : Setting) (places : ℕ) (a : List ℕ) (ts : List Term) (t : Term) (answer : Answer) (left : List ℕ) : Type 0 where
      known : (k : ℕ) → answer ≡ Found k → left ≡ a → k < length ts → tree_of ts k ≡ t → holds ts t ≡ true → intern limits t ts ≡ ok ts →
          InternedTree limits places a ts t answer left
      new : answer ≡ Made (length ts) → Trees limits.nodes limits.node_words places left (ts ++ (t ∷ [])) → holds ts t ≡ false →
          intern limits t ts ≡ ok (ts ++ (t ∷ [])) → InternedTree limits places a ts t answer left
      refuses : answer ≡ Full → left ≡ a → holds ts t ≡ false → intern limits t ts ≡ refused store_full →
          InternedTree limits places a ts t answer left

    module _ (injective : (g h : ℕ) → used g → used h → symbol_at g ≡ symbol_at h → g ≡ h) where
      module _ (ts : List Term) (s : Nodes) (h : Stand ts s) where
        lookups_injective : {ms ns : List ℕ} → Below (length s) ms → Below (length s) ns → lookups ts ms ≡ lookups ts ns → ms ≡ ns
        unfolding lookups
        lookups_injective none none e = refl
        lookups_injective none (both c cs) e = let z : ◌≡◌ {A = ℕ} 0 1 = cc in absurd (omega arith)
        lookups_injective (both b bs) none e = let z : ◌≡◌ {A = ℕ} 0 1 = cc in absurd (omega arith)
        lookups_injective (both {m = m} {ms = ms} b bs) (both {m = n} {ms = ns} c cs) e =
            let first : tree_of ts m ≡ tree_of ts n = cc in
            let x : m ≡ n = h.apart m n b c first in
            let rest : lookups ts ms ≡ lookups ts ns = cc in
            let y : ms ≡ ns = lookups_injective bs cs rest in
            cc

        build_injective : {x y : Node} → Formed used (length s) x → Formed used (length s) y → build ts x ≡ build ts y → x ≡ y
        unfolding build
        build_injective (formed {head = g} {arguments = ms} u bs) (formed {head = f} {arguments = ns} v cs) e =
            let head : symbol_at g ≡ symbol_at f = cc in
            let p : g ≡ f = injective g f u v head in
            let rest : lookups ts ms ≡ lookups ts ns = cc in
            let q : ms ≡ ns = lookups_injective bs cs rest in
            cc

        pub all_size : size ts ≡ total s
        all_size = sizes ts s h.same (λ k b. rw (h.built k b) (build_size ts (h.each k b)))

        module _ (x : Node) (fx : Formed used (length s) x) where
          -- The tree is held exactly when the node is.
          held : (k : ℕ) → k < length s → node_of s k ≡ x → (tree_of ts k ≡ build ts x) × (holds ts (build ts x) ≡ true)
          held k b e =
              let t : tree_of ts k ≡ build ts x = h.built k b ∙ ap (build ts) e in
              (t, place_held (build ts x) blank ts k (omega (arith, h.same)) t)

          not_held : Absent s x → holds ts (build ts x) ≡ false
          not_held absent = case (holds ts (build ts x)) (λ e. absurd (impossible (held_place (build ts x) blank ts e))) (λ e. e)
            where
              impossible : (k : ℕ) × (k < length ts) × (tree_of ts k ≡ build ts x) → ⊥
              impossible at =
                  let k = at.0 in
                  let b : k < length s = omega (arith, h.same, at.1) in
                  absent k b (build_injective (formed_more (length s) (omega arith) (h.each k b)) fx (sym (h.built k b) ∙ at.2))

          stand_more : Absent s x → Stand (ts ++ (build ts x ∷ [])) (s ++ (x ∷ []))
          stand_more absent =
              record {
                same = omega (arith, h.same, length-append ts (t ∷ []), length-append s (x ∷ []));
                each = λ k b. last_or_before s x k b (λ i. rw (get_or-append s (x ∷ []) [] k i) (h.each k i)) (λ i. rw (i, get_or-append_seam s x [] []) fx);
                built = λ k b. last_or_before s x k b (built_before k) (λ i. rw i built_last);
                apart = apart;
              }
            where
              t : Term
              t = build ts x

              before : (k : ℕ) → k < length s → tree_of (ts ++ (build ts x ∷ [])) k ≡ tree_of ts k
              before k i = get_or-append ts (build ts x ∷ []) blank k (omega (arith, h.same))

              last : tree_of (ts ++ (build ts x ∷ [])) (length s) ≡ build ts x
              last = rw (← h.same) (get_or-append_seam ts (build ts x) [] blank)

              in_range_lem : {k : ℕ} {y : Node} → k ≤ length s → Formed used k y → Formed used (length ts) y
              in_range_lem i f = formed_more (length ts) (omega (arith, h.same)) f

              built_before : (k : ℕ) → k < length s → tree_of (ts ++ (build ts x ∷ [])) k ≡ build (ts ++ (build ts x ∷ [])) (node_of (s ++ (x ∷ [])) k)
              built_before k i =
                  rw (get_or-append s (x ∷ []) [] k i)
                  (before k i ∙ h.built k i ∙ sym (build_more ts (build ts x ∷ []) (in_range_lem (omega arith) (h.each k i))))

              built_last : tree_of (ts ++ (build ts x ∷ [])) (length s) ≡ build (ts ++ (build ts x ∷ [])) (node_of (s ++ (x ∷ [])) (length s))
              built_last = rw (get_or-append_seam s x [] []) (last ∙ sym (build_more ts (build ts x ∷ []) (in_range_lem (omega arith) fx)))

              -- An old tree is never the new one.
              fresh : (k : ℕ) → k < length s → tree_of ts k ≡ build ts x → ⊥
              fresh k i e = not_both (place_held (build ts x) blank ts k (omega (arith, h.same)) e) (not_held absent)

              apart : (j k : ℕ) → j < length (s ++ (x ∷ [])) → k < length (s ++ (x ∷ [])) →
                  tree_of (ts ++ (build ts x ∷ [])) j ≡ tree_of (ts ++ (build ts x ∷ [])) k → j ≡ k
              apart j k bj bk e =
                  last_or_before s x j bj
                  (λ ij. last_or_before s x k bk
                  (λ ik. h.apart j k ij ik (sym (before j ij) ∙ e ∙ before k ik))
                  (λ ik. absurd (fresh j ij (sym (before j ij) ∙ e ∙ rw ik last))))
                  (λ ij. last_or_before s x k bk
                  (λ ik. absurd (fresh k ik (sym (before k ik) ∙ sym e ∙ rw ij last)))
                  (λ ik. ij ∙ sym ik))

          -- What the definition answers.
          defined_held : (limits : Setting) → holds ts (build ts x) ≡ true → intern limits (build ts x) ts ≡ ok ts
          unfolding intern
          defined_held limits e = rw (e, intern)

          defined_new : (limits : Setting) → holds ts (build ts x) ≡ false → length s + 1 ≤ limits.nodes → total s + length x ≤ limits.node_words →
              intern limits (build ts x) ts ≡ ok (ts ++ (build ts x ∷ []))
          unfolding intern within_limits need ◌>>=◌
          defined_new limits e a b =
              let p = le-leb (length (ts ++ (build ts x ∷ []))) limits.nodes (omega (arith, length-append ts (build ts x ∷ []), h.same)) in
              let q = le-leb (size (ts ++ (build ts x ∷ []))) limits.node_words (omega (arith, size-append ts (build ts x), all_size, build_size ts fx)) in
              rw (e, intern) (rw (p, q))

          defined_full : (limits : Setting) → holds ts (build ts x) ≡ false → (length s + 1 ≤ limits.nodes → total s + length x ≤ limits.node_words → ⊥) →
              intern limits (build ts x) ts ≡ refused store_full
          unfolding intern within_limits need ◌>>=◌
          defined_full limits e over = rw (e, intern) (nodes_first (dec_le (length s + 1) limits.nodes))
            where
              count : length (ts ++ (build ts x ∷ [])) ≡ length s + 1
              count = length-append ts (build ts x ∷ []) ∙ ap (λ (n : ℕ). n + 1) h.same

              words : size (ts ++ (build ts x ∷ [])) ≡ total s + length x
              words = omega (arith, size-append ts (build ts x), all_size, build_size ts fx)

              nodes_first : Dec (length s + 1 ≤ limits.nodes) →
                  (need (leb (length (ts ++ (build ts x ∷ []))) limits.nodes && leb (size (ts ++ (build ts x ∷ []))) limits.node_words) store_full
                  >>= λ _. ok (ts ++ (build ts x ∷ []))) ≡ refused store_full
              nodes_first (yes i) =
                  let p = le-leb (length (ts ++ (build ts x ∷ []))) limits.nodes (omega (arith, count)) in
                  let q = lt-leb (size (ts ++ (build ts x ∷ []))) limits.node_words (lt_of_not-le (λ j. over i (omega (arith, words)))) in
                  rw (p, q)
              nodes_first (no i) =
                  let p = lt-leb (length (ts ++ (build ts x ∷ []))) limits.nodes (omega (arith, count)) in
                  rw p

      -- `intern` of a head and argument numbers is the definition's store applied to the tree that they stand for.
      pub interned_tree : (limits : Setting) (places : ℕ) → Limits limits.nodes limits.node_words places →
          (a : List ℕ) (ts : List Term) → Trees limits.nodes limits.node_words places a ts →
          (x : Node) → Formed used (length ts) x →
          InternedTree limits places a ts (build ts x) (intern_answer a limits.nodes limits.node_words places x)
          (intern_area a limits.nodes limits.node_words places x)
      interned_tree limits places l a ts trees x fx = go (interned limits.nodes limits.node_words places l a s trees.kept x)
        where
          s : Nodes
          s = trees.nodes_of

          h : Stand ts s
          h = trees.stand

          fs : Formed used (length s) x
          fs = rw h.same at fx

          go : Interned limits.nodes limits.node_words places a s x (intern_answer a limits.nodes limits.node_words places x)
              (intern_area a limits.nodes limits.node_words places x) →
              InternedTree limits places a ts (build ts x) (intern_answer a limits.nodes limits.node_words places x)
              (intern_area a limits.nodes limits.node_words places x)
          go (found k e left b same) =
              let t = held ts s h x fs k b same in
              known k e left (omega (arith, h.same)) t.0 t.1 (defined_held ts s h x fs limits t.1)
          go (made e k absent i j) =
              let f = not_held ts s h x fs absent in
              new (e ∙ ap Made (sym h.same)) (record { nodes_of = s ++ (x ∷ []); kept = k; stand = stand_more ts s h x fs absent }) f
              (defined_new ts s h x fs limits f i j)
          go (full e left absent over) =
              let f = not_held ts s h x fs absent in
              refuses e left f (defined_full ts s h x fs limits f over)
