-- The word behind the store counts the requests that found their node, in 32 bits. Assumes nothing.
use Prim.Native.Nat.{ℕ, suc, ◌+◌, ◌<◌}
use mathlib.Core.Path.{◌≡◌, refl, ap, ◌∙◌}
use mathlib.Core.List.{List, [], ◌∷◌, ◌++◌}
use native.Mathlib.Omega.{arith}
use lib.ListN.{length, set, length-set}
use lib.Seq.{get_or-set_same}
use Rattle.words.specs.Sums.{low32, sum32}
use Rattle.words.proofs.Writing.{length-cleared}
use Rattle.arena.specs.Below.horn.specs.Refusals.{ok, refused, store_full, ◌>>=◌}
use Rattle.arena.specs.Below.horn.specs.Setting.{Setting}
use Rattle.arena.specs.Below.horn.specs.Rulebook.{Symbol}
use Rattle.arena.specs.Below.horn.specs.StoredTerms.{Term, Met, was_found, was_made, met_by, found_in, made_in, intern, Store, empty_store, request}
use Rattle.arena.specs.Below.horn.proofs.Requests.{found_or_made}
use Rattle.arena.specs.Store as store
use Rattle.arena.specs.Store.{area_words, intern_answer, intern_area}
use Rattle.arena.specs.Store.{Answer}
use Rattle.arena.specs.Store.{Found, Made, Full}
use Rattle.arena.proofs.Limits.{Limits}
use Rattle.arena.proofs.Trees.{Trees, tree_of, InternedTree, known, new, refuses}
use Rattle.arena.proofs.Readings.{trees_emptied, trees_counted}
use Rattle.arena.proofs.Behind.{trees_behind, intern_behind}
use Rattle.requests.specs.Requests.{found_of, found_by, with_found, requested_area, emptied, requested_of}

module _ (symbol_at : ℕ → Symbol) (used : ℕ → Type 0) where
  -- The area holds the store's terms, and in the word behind them how many requests found their node.
  pub record KeepsStore (limits : Setting) (places : ℕ) (a : List ℕ) (s : Store) : Type 0 where
    pub trees : Trees symbol_at used limits.nodes limits.node_words places a s.terms
    pub room : area_words limits.nodes limits.node_words places < length a
    pub counted : found_of a limits.nodes limits.node_words places ≡ low32 (found_in s.requests)

  -- A request beside the definition's.
  pub data Requested (limits : Setting) (places : ℕ) (s : Store) (t : Term) (answer : Answer) (left : List ℕ) : Type 0 where
    met_found : (k : ℕ) (u : Store) → answer ≡ Found k → KeepsStore limits places left u → k < length s.terms → tree_of symbol_at s.terms k ≡ t
        → u.terms ≡ s.terms
        → request limits t s ≡ ok u
        → Requested limits places s t answer left
    met_made : (u : Store) → answer ≡ Made (length s.terms) → KeepsStore limits places left u → u.terms ≡ s.terms ++ (t ∷ [])
        → request limits t s ≡ ok u
        → Requested limits places s t answer left
    not_met : answer ≡ Full → request limits t s ≡ refused store_full → Requested limits places s t answer left

-- A sum in 32 bits, of a count in 32 bits.
low_sum : (f n : ℕ) → sum32 (low32 f) n ≡ low32 (f + n)
unfolding sum32
low_sum f n = omega arith

-- What is counted once one more was found, and once none was.
one_more : {w : ℕ} (f : ℕ) → w ≡ low32 f → sum32 w 1 ≡ low32 (suc f)
one_more f e = ap (λ (x : ℕ). sum32 x 1) e ∙ low_sum f 1 ∙ omega arith

none_more : {w : ℕ} (f : ℕ) → w ≡ low32 f → sum32 w 0 ≡ low32 f
none_more f e = ap (λ (x : ℕ). sum32 x 0) e ∙ low_sum f 0 ∙ omega arith

-- What a request that is met leaves, in the definition.
met_as : (limits : Setting) (t : Term) (s : Store) {after : List Term} {m : Met} → intern limits t s.terms ≡ ok after → met_by s.terms t ≡ m
    → request limits t s ≡ ok record { terms = after; requests = m ∷ s.requests }
unfolding request ◌>>=◌
met_as limits t s e f = rw (e, f)

refused_as : (limits : Setting) (t : Term) (s : Store) → intern limits t s.terms ≡ refused store_full → request limits t s ≡ refused store_full
unfolding request ◌>>=◌
refused_as limits t s e = rw e

module _ {symbol_at : ℕ → Symbol} {used : ℕ → Type 0} {limits : Setting} {places : ℕ} (l : Limits limits.nodes limits.node_words places) where
  -- An area that holds some terms, once the word behind them is written.
  counted_behind : {a : List ℕ} {terms : List Term} → Trees symbol_at used limits.nodes limits.node_words places a terms
      → area_words limits.nodes limits.node_words places < length a
      → (v : ℕ) {ms : List Met} → v ≡ low32 (found_in ms)
      → KeepsStore symbol_at used limits places (set a (area_words limits.nodes limits.node_words places) v) record { terms = terms; requests = ms }
  counted_behind {a} {terms} trees room v e =
      let behind = area_words limits.nodes limits.node_words places in
      record {
        trees = trees_behind symbol_at used limits.nodes limits.node_words places l behind v (omega arith) a terms trees;
        room = rw (length-set a behind v) room;
        counted = get_or-set_same a behind v 0 room ∙ e;
      }

  -- Before the first request.
  pub keeps_empty : (a : List ℕ) → area_words limits.nodes limits.node_words places < length a
      → KeepsStore symbol_at used limits places (emptied a limits.nodes limits.node_words places) empty_store
  unfolding emptied store.emptied found_in
  keeps_empty a long =
      let n = length-cleared (store.place_at limits.nodes places) a in
      counted_behind (trees_emptied symbol_at used limits.nodes limits.node_words places l a (omega arith)) (omega arith) 0 refl

  module _ {a : List ℕ} {s : Store} (k : KeepsStore symbol_at used limits places a s) where
    -- The law of requests, from the law of the store.
    pub requested_law : (key : List ℕ) {t : Term}
        → InternedTree symbol_at used limits places a s.terms t (intern_answer a limits.nodes limits.node_words places key)
        (intern_area a limits.nodes limits.node_words places key)
        → Requested symbol_at used limits places s t (intern_answer a limits.nodes limits.node_words places key)
        (requested_area a limits.nodes limits.node_words places key)
    unfolding requested_area with_found found_by found_in met_by
    requested_law key {t} (known n e left below tree held i) =
        met_found n record { terms = s.terms; requests = was_found ∷ s.requests } e
        (rw (e, left) (counted_behind k.trees k.room _ (one_more (found_in s.requests) k.counted)))
        below tree refl (met_as limits t s i (rw (held, met_by)))
    requested_law key {t} (new e made absent i) =
        let kept = intern_behind limits.nodes limits.node_words places l (area_words limits.nodes limits.node_words places) (omega arith) a key in
        let r = k.room in
        let n = kept.same_length in
        met_made record { terms = s.terms ++ (t ∷ []); requests = was_made ∷ s.requests } e
        (rw e (counted_behind made (omega arith) _ (none_more (found_in s.requests) (kept.same_word ∙ k.counted))))
        refl (met_as limits t s i (rw (absent, met_by)))
    requested_law key {t} (refuses e left absent i) = not_met e (refused_as limits t s i)

    -- What is reported of them: all requests, in 32 bits.
    pub requested_count : made_in s.requests ≡ length s.terms
        → requested_of a limits.nodes limits.node_words places ≡ low32 (length s.requests)
    unfolding requested_of sum32
    requested_count m =
        let c = trees_counted symbol_at used limits.nodes limits.node_words places a s.terms k.trees in
        let f = found_or_made s.requests in
        let w = k.counted in
        omega arith
