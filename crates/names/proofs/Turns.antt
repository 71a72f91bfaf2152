-- One turn of each loop, and the words of an entry. Assumes nothing.
use mathlib.Core.Path.{◌≡◌, refl, sym, ◌∙◌}
use mathlib.Core.Bool.{true, false}
use mathlib.Core.List.{List}
use mathlib.Core.Option.{none, some}
use Prim.Native.Nat.{ℕ, zero, suc, ◌+◌, ◌*◌, ◌%◌, ◌≤◌, ◌<◌}
use native.Mathlib.Nat.{mod-lt}
use native.Mathlib.Numerals.{add-one}
use native.Mathlib.Omega.{arith}
use borrow.Author.Tests.{eq-eqb, ne_eqb, lt-ltb, le-ltb, ltb-true, ltb-false, eqb-true, eqb-false}
use lib.Dec.{eqb, ltb}
use lib.ListN.{length, drop, get_or, drop_of_length-le}
use lib.Seq.{drop-cons}
use Rattle.words.specs.Parts.{same_bytes}
use Rattle.facts.specs.Below.horn.proofs.Equality.{case}
use Rattle.names.specs.Chains.{hashed_all, hash_of, bucket_of, name_at, before, searched, chased}

pub hash_on : (s : List ℕ) (i h : ℕ) → i < length s
    → hashed_all h (drop i s) ≡ hashed_all ((h * 31 + get_or s i 0) % 4294967296) (drop (i + 1) s)
unfolding hashed_all
hash_on s i h k = rw (drop-cons s i 0 k, add-one i)

pub hash_end : (s : List ℕ) (i h : ℕ) → length s ≤ i → hashed_all h (drop i s) ≡ h
unfolding hashed_all
hash_end s i h k = rw (drop_of_length-le s k)

pub ruleset hashing = (hash_on, hash_end)

-- A bucket's number: the hash modulo the count.
pub bucket_none : (count : ℕ) (name : List ℕ) → count ≡ 0 → bucket_of count name ≡ 0
unfolding bucket_of
bucket_none count name z = rw (eq-eqb count 0 z, bucket_of)

pub bucket_some : (count : ℕ) (name : List ℕ) → 0 < count → bucket_of count name ≡ hash_of name % count
unfolding bucket_of
bucket_some count name p = rw (ne_eqb count 0 (λ (e : count ≡ 0). omega arith), bucket_of)

pub bucket_below : (count : ℕ) (name : List ℕ) → 0 < count → bucket_of count name < count
bucket_below count name p = rw (bucket_some count name p) (mod-lt (hash_of name) p)

-- Links fall.
pub before_link : (area : List ℕ) (e : ℕ) → get_or area (e + 2) 0 < e → before area e ≡ get_or area (e + 2) 0
unfolding before
before_link area e h = rw (lt-ltb _ _ h, before)

pub before_none : (area : List ℕ) (e : ℕ) → e ≤ get_or area (e + 2) 0 → before area e ≡ 0
unfolding before
before_none area e h = rw (le-ltb _ _ h, before)

pub before_falls : (area : List ℕ) (e : ℕ) → 0 < e → before area e < e
before_falls area e p =
    case (ltb (get_or area (e + 2) 0) e)
    (λ h. let k = ltb-true (get_or area (e + 2) 0) e h in omega (arith, before_link area e k))
    (λ h. omega (arith, before_none area e (ltb-false (get_or area (e + 2) 0) e h)))

module _ (area text key : List ℕ) where
  pub searched-none : (fuel : ℕ) → searched fuel area text key 0 ≡ none
  unfolding searched
  searched-none zero = refl
  searched-none (suc fuel) = refl

  pub searched_here : (fuel e : ℕ) → 0 < e → e ≤ fuel → same_bytes (name_at area text e) key ≡ true → searched fuel area text key e ≡ some e
  unfolding searched
  searched_here zero e p k h = absurd (omega arith)
  searched_here (suc fuel) e p k h = rw (ne_eqb e 0 (λ (z : e ≡ 0). omega arith), searched, h)

  pub searched_on : (fuel e : ℕ) → 0 < e → same_bytes (name_at area text e) key ≡ false
      → searched (suc fuel) area text key e ≡ searched fuel area text key (before area e)
  unfolding searched
  searched_on fuel e p h = rw (ne_eqb e 0 (λ (z : e ≡ 0). omega arith), searched, h)

  gone : (f g e : ℕ) → e ≡ 0 → searched f area text key e ≡ searched g area text key e
  gone f g e z = rw z (searched-none f ∙ sym (searched-none g))

  -- Any fuel serves that is at least the first address.
  pub any_fuel : (f g e : ℕ) → e ≤ f → e ≤ g → searched f area text key e ≡ searched g area text key e
  any_fuel zero g e h k = gone zero g e (omega arith)
  any_fuel (suc f) zero e h k = gone (suc f) zero e (omega arith)
  any_fuel (suc f) (suc g) e h k =
      case (eqb e 0)
      (λ z. gone (suc f) (suc g) e (eqb-true e 0 z))
      (λ z.
      let p : 0 < e = omega (arith, eqb-false e 0 z) in
      case (same_bytes (name_at area text e) key)
      (λ t. searched_here (suc f) e p h t ∙ sym (searched_here (suc g) e p k t))
      (λ t.
      let b = before_falls area e p in
      searched_on f e p t ∙ any_fuel f g (before area e) (omega arith) (omega arith) ∙ sym (searched_on g e p t)))

  -- One turn of the search at an entry that has the name, at one that has not, and at the end of the chain.
  pub chased_here : (e : ℕ) → 0 < e → same_bytes (name_at area text e) key ≡ true → chased area text key e ≡ some e
  unfolding chased
  chased_here e p h = searched_here e e p (omega arith) h

  pub chased_on : (e : ℕ) → 0 < e → same_bytes (name_at area text e) key ≡ false → chased area text key e ≡ chased area text key (before area e)
  unfolding chased
  chased_on zero p h = absurd (omega arith)
  chased_on (suc e) p h =
      let b = before_falls area (suc e) p in
      searched_on e (suc e) p h ∙ any_fuel e (before area (suc e)) (before area (suc e)) (omega arith) (omega arith)

  pub chased-none : (e : ℕ) → e ≡ 0 → chased area text key e ≡ none
  unfolding chased
  chased-none e z = rw z (searched-none 0)

pub ruleset chasing = (before_falls, chased_here, chased_on, chased-none)

pub ruleset linking = (before_link, before_none)

pub ruleset buckets = (bucket_none, bucket_some)
