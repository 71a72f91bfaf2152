-- A table of names answers as its list of entries does, whatever else stands in the area. Assumes nothing.
use mathlib.Core.Path.{◌≡◌, refl, ap, sym, ◌∙◌}
use mathlib.Core.List.{List, ◌∷◌}
use mathlib.Core.Option.{some}
use Prim.Native.Nat.{ℕ, ◌+◌, ◌≤◌, ◌<◌}
use native.Mathlib.Omega.{arith}
use borrow.Author.Tests.{eqb-true, eqb-false, eq-eqb, ne_eqb}
use lib.Dec.{eqb}
use lib.ListN.{get_or}
use Rattle.facts.specs.Below.horn.specs.Names.{Name, named}
use Rattle.facts.specs.Below.horn.proofs.Equality.{case, named_decides, decides_false, differ}
use Rattle.facts.proofs.Comparing.{same_named}
use Rattle.names.specs.Chains.{bucket_of, name_at, chased, found}
use Rattle.names.specs.Tables.{Entry, entry, lookup, top, newest, Chained, no_entry, one_more, Table}
use Rattle.names.proofs.Turns.{bucket_below, before_link, chased_here, chased_on, chased-none}

-- Names are equal or not, and so are numbers.
pub by_name {ℓ} : {C : Type ℓ} (a b : Name) → (a ≡ b → C) → ((a ≡ b → ⊥) → C) → C
by_name a b f g = case (named a b) (λ t. f (named_decides.equal a b t)) (λ t. g (differ named_decides a b t))

pub by_number {ℓ} : {C : Type ℓ} (a b : ℕ) → (a ≡ b → C) → ((a ≡ b → ⊥) → C) → C
by_number a b f g = case (eqb a b) (λ t. f (eqb-true a b t)) (λ t. g (eqb-false a b t))

module _ (e : ℕ) (name : Name) (entries : List Entry) where
  pub lookup_here : (key : Name) → key ≡ name → lookup key (entry e name ∷ entries) ≡ some e
  unfolding lookup
  lookup_here key h = rw (h, named_decides.same name, lookup)

  pub lookup_on : (key : Name) → (key ≡ name → ⊥) → lookup key (entry e name ∷ entries) ≡ lookup key entries
  unfolding lookup
  lookup_on key h = rw (decides_false named_decides key name h, lookup)

  pub newest_here : (count b : ℕ) → bucket_of count name ≡ b → newest count b (entry e name ∷ entries) ≡ e
  unfolding newest
  newest_here count b h = rw (eq-eqb (bucket_of count name) b h, newest)

  pub newest_on : (count b : ℕ) → (bucket_of count name ≡ b → ⊥) → newest count b (entry e name ∷ entries) ≡ newest count b entries
  unfolding newest
  newest_on count b h = rw (ne_eqb (bucket_of count name) b h, newest)

module _ {area : List ℕ} {count base : ℕ} {text : List ℕ} where
  pub base_below : {entries : List Entry} → Chained area count base text entries → base ≤ top base entries
  unfolding top
  base_below no_entry = omega arith
  base_below (one_more h n l c) = omega (arith, base_below c)

  -- A bucket's newest entry is below all that is free, so links fall.
  newest_below : 0 < base → (b : ℕ) {entries : List Entry} → Chained area count base text entries → newest count b entries < top base entries
  unfolding top newest
  newest_below p b no_entry = p
  newest_below p b (one_more {e} {name} {entries} h n l c) =
      by_number (bucket_of count name) b
      (λ t. omega (arith, newest_here e name entries count b t))
      (λ t. omega (arith, newest_on e name entries count b t, newest_below p b c))

  chain_found : (key : Name) → 0 < base → {entries : List Entry} → Chained area count base text entries
      → chased area text key (newest count (bucket_of count key) entries) ≡ lookup key entries
  unfolding lookup newest
  chain_found key p no_entry = chased-none area text key 0 refl
  chain_found key p (one_more {e} {name} {entries} h n l c) =
      let q : 0 < e = omega (arith, base_below c) in
      by_name key name
      (λ t.
      rw (newest_here e name entries count (bucket_of count key) (ap (bucket_of count) (sym t)))
      (chased_here area text key e q (same_named (name_at area text e) key ∙ rw (n, t) (named_decides.same name))
      ∙ sym (lookup_here e name entries key t)))
      (λ t.
      by_number (bucket_of count name) (bucket_of count key)
      (λ s.
      let k : get_or area (e + 2) 0 ≡ newest count (bucket_of count key) entries = rw s at l in
      rw (newest_here e name entries count (bucket_of count key) s)
      (chased_on area text key e q (same_named (name_at area text e) key ∙ rw n (decides_false named_decides name key (λ u. t (sym u))))
      ∙ ap (chased area text key) (before_link area e (omega (arith, newest_below p (bucket_of count key) c)) ∙ k)
      ∙ chain_found key p c
      ∙ sym (lookup_on e name entries key t)))
      (λ s.
      rw (newest_on e name entries count (bucket_of count key) s)
      (chain_found key p c ∙ sym (lookup_on e name entries key t))))

-- `find` answers what the entries' list does: the newest entry that has the name.
pub find_law : {area : List ℕ} {buckets count base : ℕ} {text : List ℕ} {entries : List Entry} (key : Name)
    → Table area buckets count base text entries
    → found area buckets count text key ≡ lookup key entries
unfolding found
find_law {count} key t =
    rw (t.heads (bucket_of count key) (bucket_below count key t.some_bucket))
    (let b = t.buckets_first in let s = t.some_bucket in chain_found key (omega arith) t.chain)
