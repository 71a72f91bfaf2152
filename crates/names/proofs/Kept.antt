-- What keeps a table of names, and what adds to it. Assumes nothing.
use mathlib.Core.Path.{◌≡◌, refl, sym, ◌∙◌}
use mathlib.Core.List.{List, [], ◌∷◌, Memᴰ}
use Prim.Native.Nat.{ℕ, ◌+◌, ◌%◌, ◌≤◌, ◌<◌}
use native.Mathlib.Nat.{mod-eq_of_lt}
use native.Mathlib.Omega.{arith}
use lib.ListN.{length, get_or, set, length-set}
use lib.Seq.{get_or-set_same, get_or-set_other}
use Rattle.words.specs.Parts.{part}
use Rattle.facts.specs.Below.horn.specs.Names.{Name}
use Rattle.names.specs.Chains.{bucket_of, name_at, linked, added}
use Rattle.names.specs.Tables.{Entry, entry, top, newest, Chained, no_entry, one_more, Table, Owns, bucket_word, entry_word}
use Rattle.names.proofs.Turns.{bucket_below}
use Rattle.names.proofs.Holds.{base_below, newest_here, newest_on, by_number}

-- Buckets of zeros hold the empty table.
pub empty_table : {area : List ℕ} {buckets count base : ℕ} (text : List ℕ)
    → 0 < count
    → buckets + count ≤ base
    → buckets + count ≤ length area
    → ((i : ℕ) → buckets ≤ i → i < buckets + count → get_or area i 0 ≡ 0)
    → Table area buckets count base text []
unfolding newest
empty_table {buckets} text p q r z = record {
  some_bucket = p;
  buckets_first = q;
  inside = r;
  heads = λ b h. z (buckets + b) (omega arith) (omega arith);
  chain = no_entry;
}

module _ {area : List ℕ} {count base : ℕ} {text : List ℕ} where
  -- Each entry stands from `base` on, and below what is free.
  pub member_bounds : {entries : List Entry} {e : ℕ} {name : Name} → Chained area count base text entries
      → Memᴰ (entry e name) entries
      → (base ≤ e) × (e + 3 ≤ top base entries)
  unfolding top
  member_bounds {e} (one_more {e = d} {name} {entries} h n l c) (Memᴰ.head m) =
      let k : e ≡ d = cc in let b = base_below c in (omega arith, omega arith)
  member_bounds no_entry x3 = elim x3 [ ]
  member_bounds (one_more h n l c) (Memᴰ.tail m) =
      let (low, high) = member_bounds c m in (low, omega arith)

  pub member_named : {entries : List Entry} {e : ℕ} {name : Name} → Chained area count base text entries
      → Memᴰ (entry e name) entries
      → name_at area text e ≡ name
  member_named {e} {name} (one_more {e = d} {name = other} h n l c) (Memᴰ.head m) =
      let k : e ≡ d = cc in let q : name ≡ other = cc in rw (k, q) n
  member_named no_entry x3 = elim x3 [ ]
  member_named (one_more h n l c) (Memᴰ.tail m) = member_named c m

  chain_kept : {area' : List ℕ} {entries : List Entry} → Chained area count base text entries
      → ((e : ℕ) (name : Name) → Memᴰ (entry e name) entries → (i : ℕ) → e ≤ i → i < e + 3 → get_or area' i 0 ≡ get_or area i 0)
      → Chained area' count base text entries
  unfolding name_at
  chain_kept no_entry k = no_entry
  chain_kept (one_more {e} {name} {entries} h n l c) k =
      one_more {name = name} h
      (rw (k e name (Memᴰ.head refl) e (omega arith) (omega arith), k e name (Memᴰ.head refl) (e + 1) (omega arith) (omega arith)) n)
      (k e name (Memᴰ.head refl) (e + 2) (omega arith) (omega arith) ∙ l)
      (chain_kept c (λ d other m. k d other (Memᴰ.tail m)))

module _ {area : List ℕ} {buckets count base : ℕ} {text : List ℕ} {entries : List Entry} where
  -- Whatever keeps the buckets' words and the three words of each entry keeps the table.
  pub kept : (area' : List ℕ) → Table area buckets count base text entries
      → length area' ≡ length area
      → ((i : ℕ) → Owns buckets count entries i → get_or area' i 0 ≡ get_or area i 0)
      → Table area' buckets count base text entries
  kept area' t s k = record {
    some_bucket = t.some_bucket;
    buckets_first = t.buckets_first;
    inside = let i = t.inside in omega arith;
    heads = λ b h. k (buckets + b) (bucket_word (omega arith) (omega arith)) ∙ t.heads b h;
    chain = chain_kept t.chain (λ e name m i low high. k i (entry_word m low high));
  }

  -- The table's words stand among its buckets and between `base` and what is free.
  pub kept_within : (area' : List ℕ) → Table area buckets count base text entries
      → length area' ≡ length area
      → ((i : ℕ) → buckets ≤ i → i < buckets + count → get_or area' i 0 ≡ get_or area i 0)
      → ((i : ℕ) → base ≤ i → i < top base entries → get_or area' i 0 ≡ get_or area i 0)
      → Table area' buckets count base text entries
  kept_within area' t s h k = kept area' t s each where
    each : (i : ℕ) → Owns buckets count entries i → get_or area' i 0 ≡ get_or area i 0
    each i (bucket_word low high) = h i low high
    each i (entry_word m low high) = let (b, d) = member_bounds t.chain m in k i (omega arith) (omega arith)

  -- One word written above all entries, as the caller's words of the newest one are.
  pub kept_put : (p v : ℕ) → Table area buckets count base text entries
      → top base entries ≤ p
      → Table (set area p v) buckets count base text entries
  kept_put p v t h =
      let f = t.buckets_first in
      let l = base_below t.chain in
      kept_within (set area p v) t (length-set area p v)
      (λ i low high. get_or-set_other area p i v 0 (λ q. omega arith))
      (λ i low high. get_or-set_other area p i v 0 (λ q. omega arith))

  -- One word written anywhere else.
  pub kept_set : (p v : ℕ) → Table area buckets count base text entries
      → (Owns buckets count entries p → ⊥)
      → Table (set area p v) buckets count base text entries
  kept_set p v t n = kept (set area p v) t (length-set area p v) (λ i o. get_or-set_other area p i v 0 (other i o)) where
    other : (i : ℕ) → Owns buckets count entries i → i ≡ p → ⊥
    other i o h = n (rw h at o)

-- The words of an entry that is added.
module _ (area : List ℕ) (place e start end : ℕ) where
  abbrev one : List ℕ
  one = set area e start

  abbrev two : List ℕ
  two = set one (e + 1) end

  abbrev three : List ℕ
  three = set two (e + 2) (get_or area place 0)

  pub length-linked : length (linked area place e start end) ≡ length area
  unfolding linked
  length-linked = simp length-set

  pub linked_other : (i : ℕ) → (i ≡ place → ⊥) → (e ≤ i → i < e + 3 → ⊥) → get_or (linked area place e start end) i 0 ≡ get_or area i 0
  unfolding linked
  linked_other i n h =
      get_or-set_other three place i e 0 n
      ∙ get_or-set_other two (e + 2) i (get_or area place 0) 0 (λ k. h (omega arith) (omega arith))
      ∙ get_or-set_other one (e + 1) i end 0 (λ k. h (omega arith) (omega arith))
      ∙ get_or-set_other area e i start 0 (λ k. h (omega arith) (omega arith))

  module _ (fits : e + 3 ≤ length area) (low : place < e) where
    linked-place : get_or (linked area place e start end) place 0 ≡ e
    unfolding linked
    linked-place = get_or-set_same three place e 0 (simp length-set (omega arith))

    linked_link : get_or (linked area place e start end) (e + 2) 0 ≡ get_or area place 0
    unfolding linked
    linked_link =
        get_or-set_other three place (e + 2) e 0 (λ k. omega arith)
        ∙ get_or-set_same two (e + 2) (get_or area place 0) 0 (simp length-set (omega arith))

    linked-end : get_or (linked area place e start end) (e + 1) 0 ≡ end
    unfolding linked
    linked-end =
        get_or-set_other three place (e + 1) e 0 (λ k. omega arith)
        ∙ get_or-set_other two (e + 2) (e + 1) (get_or area place 0) 0 (λ k. omega arith)
        ∙ get_or-set_same one (e + 1) end 0 (simp length-set (omega arith))

    linked-start : get_or (linked area place e start end) e 0 ≡ start
    unfolding linked
    linked-start =
        get_or-set_other three place e e 0 (λ k. omega arith)
        ∙ get_or-set_other two (e + 2) e (get_or area place 0) 0 (λ k. omega arith)
        ∙ get_or-set_other one (e + 1) e end 0 (λ k. omega arith)
        ∙ get_or-set_same area e start 0 (omega arith)

-- What an addition leaves of the area.
module _ (area : List ℕ) (buckets count e : ℕ) (text : List ℕ) (start end : ℕ) where
  pub length-added : length (added area buckets count e text start end) ≡ length area
  unfolding added
  length-added = length-linked area _ e _ _

  pub added_other : 0 < count → (i : ℕ)
      → (buckets ≤ i → i < buckets + count → ⊥)
      → (e ≤ i → i < e + 3 → ⊥)
      → get_or (added area buckets count e text start end) i 0 ≡ get_or area i 0
  unfolding added
  added_other p i n h =
      let k = bucket_below count (part start end text) p in
      linked_other area (buckets + bucket_of count (part start end text)) e (start % 4294967296) (end % 4294967296) i
      (λ u. n (omega arith) (omega arith)) h

-- `add` at an address above all entries puts the entry in front.
pub add_law : {area : List ℕ} {buckets count base : ℕ} {text : List ℕ} {entries : List Entry} (e start end : ℕ)
    → Table area buckets count base text entries
    → top base entries ≤ e
    → e + 3 ≤ length area
    → start < 4294967296
    → end < 4294967296
    → Table (added area buckets count e text start end) buckets count base text (entry e (part start end text) ∷ entries)
unfolding added name_at
add_law {area} {buckets} {count} {base} {text} {entries} e start end t h fits s d =
    record {
      some_bucket = t.some_bucket;
      buckets_first = first;
      inside = rw (length-linked area place e (start % 4294967296) (end % 4294967296)) t.inside;
      heads = λ b k.
          by_number b' b
          (λ u. rw (← u) (linked-place area place e _ _ fits low ∙ sym (newest_here e name entries count b' refl)))
          (λ u.
          linked_other area place e _ _ (buckets + b) (λ q. u (omega arith)) (λ q r. omega (arith, above))
          ∙ t.heads b k
          ∙ sym (newest_on e name entries count b u));
      chain =
          one_more {name = name} h
          (rw (
            linked-start area place e (start % 4294967296) (end % 4294967296) fits low,
            linked-end area place e (start % 4294967296) (end % 4294967296) fits low,
            mod-eq_of_lt s,
            mod-eq_of_lt d,
          ))
          (linked_link area place e _ _ fits low ∙ t.heads b' below)
          (chain_kept t.chain (λ d' other m i l k.
          let (b₀, b₁) = member_bounds t.chain m in
          linked_other area place e _ _ i (λ q. omega (arith, below, first)) (λ q r. omega arith)));
    } where
      name : Name
      name = part start end text

      b' : ℕ
      b' = bucket_of count name

      place : ℕ
      place = buckets + b'

      below : b' < count
      below = bucket_below count name t.some_bucket

      first : buckets + count ≤ base
      first = t.buckets_first

      above : base ≤ e
      above = omega (arith, base_below t.chain)

      low : place < e
      low = omega (arith, above, below, first)

-- A table and an addition to another one in the same area.
module _ {area : List ℕ} {buckets count base : ℕ} {text : List ℕ} {entries : List Entry}
    (buckets' count' e : ℕ) (text' : List ℕ) (start end : ℕ) where
  -- All buckets apart and before the entries, and the new entry above those of this table.
  pub kept_added_above : Table area buckets count base text entries
      → 0 < count'
      → ((i : ℕ) → buckets ≤ i → i < buckets + count → buckets' ≤ i → i < buckets' + count' → ⊥)
      → buckets' + count' ≤ base
      → top base entries ≤ e
      → Table (added area buckets' count' e text' start end) buckets count base text entries
  kept_added_above t p n b h =
      let f = t.buckets_first in
      let l = base_below t.chain in
      kept_within (added area buckets' count' e text' start end) t (length-added area buckets' count' e text' start end)
      (λ i low high. added_other area buckets' count' e text' start end p i (n i low high) (λ q r. omega arith))
      (λ i low high. added_other area buckets' count' e text' start end p i (λ q r. omega arith) (λ q r. omega arith))
