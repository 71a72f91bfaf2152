-- What a lookup says of the entries, and that it agrees with the definition's search among declared things. Assumes nothing.
use mathlib.Core.Path.{◌≡◌, refl, ap, sym, ◌∙◌}
use mathlib.Core.Bool.{Bool, true, false, true≢false}
use mathlib.Core.List.{List, [], ◌∷◌, ◌++◌, Memᴰ}
use mathlib.Core.Option.{Option, none, some}
use Prim.Native.Nat.{ℕ}
use Rattle.facts.specs.Below.horn.specs.Names.{Name, first, some_of}
use Rattle.facts.specs.Below.horn.proofs.Equality.{case, named_decides, decides_false}
use Rattle.facts.specs.Below.horn.proofs.Inversion.{none-some}
use Rattle.names.specs.Chains.{found}
use Rattle.names.specs.Tables.{Entry, entry, lookup, Table, Stands, nothing_yet, other_kind, declared, Agree, both_none, both_some, present}
use Rattle.names.proofs.Holds.{by_name, lookup_here, lookup_on, find_law}

-- Names that are pairwise different: none of an older entry is met again.
pub data Distinct : List Entry → Type 0 where
  no_names : Distinct []
  new_name : {e : ℕ} {name : Name} {entries : List Entry}
      → lookup name entries ≡ none
      → Distinct entries
      → Distinct (entry e name ∷ entries)

pub lookup-some : (key : Name) (entries : List Entry) {e : ℕ} → lookup key entries ≡ some e → Memᴰ (entry e key) entries
unfolding lookup
lookup-some key [] h = none-some h
lookup-some key (entry d name ∷ entries) {e} h =
    by_name key name
    (λ t.
    let q : some d ≡ some e = sym (lookup_here d name entries key t) ∙ h in
    let k : entry e key ≡ entry d name = cc in
    Memᴰ.head k)
    (λ t. Memᴰ.tail (lookup-some key entries (sym (lookup_on d name entries key t) ∙ h)))

pub lookup-none : (key : Name) (entries : List Entry) → lookup key entries ≡ none → (e : ℕ) → Memᴰ (entry e key) entries → ⊥
unfolding lookup
lookup-none key (entry d name ∷ entries) h e (Memᴰ.head m) =
    let k : key ≡ name = cc in none-some (sym h ∙ lookup_here d name entries key k)
lookup-none key [] h e x'' = elim x'' [ ]
lookup-none key (entry d name ∷ entries) h e (Memᴰ.tail m) =
    by_name key name
    (λ t. none-some (sym h ∙ lookup_here d name entries key t))
    (λ t. lookup-none key entries (sym (lookup_on d name entries key t) ∙ h) e m)

pub lookup_member : (key : Name) {entries : List Entry} (e : ℕ) → Distinct entries
    → Memᴰ (entry e key) entries
    → lookup key entries ≡ some e
lookup_member key e (new_name {e = d} {name} {entries} n s) (Memᴰ.head m) =
    let k : key ≡ name = cc in let q : e ≡ d = cc in lookup_here d name entries key k ∙ ap some (sym q)
lookup_member key e no_names x3 = elim x3 [ ]
lookup_member key e (new_name {e = d} {name} {entries} n s) (Memᴰ.tail m) =
    by_name key name
    (λ t. absurd (lookup-none key entries (rw (← t) at n) e m))
    (λ t. lookup_on d name entries key t ∙ lookup_member key e s m)

module _ {area : List ℕ} {buckets count base : ℕ} {text : List ℕ} {entries : List Entry}
    (t : Table area buckets count base text entries) (key : Name) where
  -- An address is found exactly where an entry has the name, and then it is that entry.
  pub found_some : {e : ℕ} → found area buckets count text key ≡ some e → Memᴰ (entry e key) entries
  found_some h = lookup-some key entries (sym (find_law key t) ∙ h)

  pub found_member : (e : ℕ) → Distinct entries → Memᴰ (entry e key) entries → found area buckets count text key ≡ some e
  found_member e s m = find_law key t ∙ lookup_member key e s m

module _ {A : Type 0} (test : A → Bool) (a : A) where
  -- A search goes on to what is declared last only where it has found nothing.
  pub first_last : (xs : List A) → first test xs ≡ none → test a ≡ true → first test (xs ++ (a ∷ [])) ≡ some a
  unfolding first
  first_last [] n h = rw (h, first)
  first_last (x ∷ xs) n h =
      case (test x)
      (λ p. none-some {a = x} (sym n ∙ rw (p, first)))
      (λ p. rw (p, first) (first_last xs (rw (p, first) at n) h))

  pub first_before : (xs : List A) → test a ≡ false → first test (xs ++ (a ∷ [])) ≡ first test xs
  unfolding first
  first_before [] h = rw (h, first)
  first_before (x ∷ xs) h = case (test x) (λ p. rw (p, first)) (λ p. rw (p, first) (first_before xs h))

first_nothing : {A : Type 0} (test : A → Bool) (xs : List A) → some_of test xs ≡ false → first test xs ≡ none
unfolding first some_of
first_nothing test [] h = refl
first_nothing test (x ∷ xs) h =
    case (test x)
    (λ p. absurd (true≢false (sym (rw (p, some_of)) ∙ h)))
    (λ p. rw (p, first) (first_nothing test xs (rw (p, some_of) at h)))

first_of_lem : {A : Type 0} (test : A → Bool) (xs : List A) → present (first test xs) ≡ some_of test xs
unfolding first some_of
first_of_lem test [] = refl
first_of_lem test (x ∷ xs) = case (test x) (λ p. rw (p, first, some_of)) (λ p. rw (p, first, some_of) (first_of_lem test xs))

module _ {A : Type 0} (test : Name → A → Bool) (Means : ℕ → A → Type 0) where
  -- Where the words behind the entries change, so does what they mean.
  pub stands_kept : (Means' : ℕ → A → Type 0) {entries : List Entry} {things : List A}
      → Stands test Means entries things
      → ((e : ℕ) (name : Name) (a : A) → Memᴰ (entry e name) entries → Means e a → Means' e a)
      → Stands test Means' entries things
  stands_kept Means' nothing_yet k = nothing_yet
  stands_kept Means' (other_kind q n s) k = other_kind q n (stands_kept Means' s k)
  stands_kept Means' (declared {a} {e} {name} q n m f s) k =
      declared q n (k e name a (Memᴰ.head refl) m) f (stands_kept Means' s (λ d other b u. k d other b (Memᴰ.tail u)))

  lookup_agrees : (key : Name) {entries : List Entry} {things : List A} → Stands test Means entries things
      → Agree Means (lookup key entries) (first (test key) things)
  unfolding lookup first
  lookup_agrees key nothing_yet = both_none
  lookup_agrees key (other_kind {things} {a} q n s) = rw (q, first_before (test key) a things (n key)) (lookup_agrees key s)
  lookup_agrees key (declared {entries} {things} {a} {e} {name} q n m f s) =
      by_name key name
      (λ t.
      rw (
        q,
        lookup_here e name entries key t,
        first_last (test key) a things (first_nothing (test key) things (rw t f)) (n key ∙ rw t (named_decides.same name)),
      )
      (both_some m))
      (λ t.
      rw (q, lookup_on e name entries key t, first_before (test key) a things (n key ∙ decides_false named_decides key name t))
      (lookup_agrees key s))

  -- Names are pairwise different where each was new when it was declared.
  pub stands_distinct : {entries : List Entry} {things : List A} → Stands test Means entries things → Distinct entries
  stands_distinct nothing_yet = no_names
  stands_distinct (other_kind q n s) = stands_distinct s
  stands_distinct (declared {entries} {things} {name} q n m f s) =
      new_name (nothing (rw (first_nothing (test name) things f) at (lookup_agrees name s))) (stands_distinct s) where
        nothing : {o : Option ℕ} → Agree Means o none → o ≡ none
        nothing both_none = refl

  -- `find` agrees with the definition's search among what is declared.
  pub find_agrees : {area : List ℕ} {buckets count base : ℕ} {text : List ℕ} {entries : List Entry} {things : List A} (key : Name)
      → Table area buckets count base text entries
      → Stands test Means entries things
      → Agree Means (found area buckets count text key) (first (test key) things)
  find_agrees key t s = rw (find_law key t) (lookup_agrees key s)

  -- The test for duplicates, and for what is unknown.
  pub find_present : {area : List ℕ} {buckets count base : ℕ} {text : List ℕ} {entries : List Entry} {things : List A} (key : Name)
      → Table area buckets count base text entries
      → Stands test Means entries things
      → present (found area buckets count text key) ≡ some_of (test key) things
  find_present {things} key t s = agree_present (find_agrees key t s) ∙ first_of_lem (test key) things where
    agree_present : {o : Option ℕ} {p : Option A} → Agree Means o p → present o ≡ present p
    agree_present both_none = refl
    agree_present (both_some m) = refl
