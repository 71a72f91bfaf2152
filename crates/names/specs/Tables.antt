-- A table of names: what the words of an area hold, for every table alike.
use Rattle.std.specs.Prelude.{ℕ, ◌+◌, ◌≤◌, ◌<◌, ◌≡◌, Bool, true, false, eqb, length, get_or}
use mathlib.Core.List.{List, [], ◌∷◌, ◌++◌, Memᴰ}
use Rattle.std.proofs.Math.Option.{Option, none, some}
use Rattle.facts.specs.Below.horn.specs.Names.{Name, named, some_of}
use Rattle.names.specs.Chains.{bucket_of, name_at}

-- Its address and its name. Entries are listed newest first.
pub data Entry : Type 0 where
  entry : ℕ → Name → Entry

-- The address of the newest entry that has a name.
unfoldable pub lookup : Name → List Entry → Option ℕ
lookup key [] = none
lookup key (entry e name ∷ entries) = elim (named key name) [ true ↦ some e | false ↦ lookup key entries ]

-- The least address above all entries, which stand from `base` on.
unfoldable pub top : ℕ → List Entry → ℕ
top base [] = base
top base (entry e name ∷ entries) = e + 3

-- The newest entry of a bucket, or 0.
unfoldable pub newest : ℕ → ℕ → List Entry → ℕ
newest count b [] = 0
newest count b (entry e name ∷ entries) = elim (eqb (bucket_of count name) b) [ true ↦ e | false ↦ newest count b entries ]

-- Each entry stands above the older ones, has its name's bounds, and links to the newest of the older ones in its bucket.
pub data Chained (area : List ℕ) (count base : ℕ) (text : List ℕ) : List Entry → Type 0 where
  no_entry : Chained area count base text []
  one_more : {e : ℕ} {name : Name} {entries : List Entry}
      → top base entries ≤ e
      → name_at area text e ≡ name
      → get_or area (e + 2) 0 ≡ newest count (bucket_of count name) entries
      → Chained area count base text entries
      → Chained area count base text (entry e name ∷ entries)

-- The area holds these entries, in `count` buckets from `buckets` on. The buckets stand before `base`, so no entry is at 0.
pub record Table (area : List ℕ) (buckets count base : ℕ) (text : List ℕ) (entries : List Entry) : Type 0 where
  pub some_bucket : 0 < count
  pub buckets_first : buckets + count ≤ base
  pub inside : buckets + count ≤ length area
  pub heads : (b : ℕ) → b < count → get_or area (buckets + b) 0 ≡ newest count b entries
  pub chain : Chained area count base text entries

-- The places whose words make the table: its buckets, and three at each entry.
pub data Owns (buckets count : ℕ) (entries : List Entry) (i : ℕ) : Type 0 where
  bucket_word : buckets ≤ i → i < buckets + count → Owns buckets count entries i
  entry_word : {e : ℕ} {name : Name} → Memᴰ (entry e name) entries → e ≤ i → i < e + 3 → Owns buckets count entries i

-- Entries, newest first, for declared things in order of declaration. `test` asks by name for one kind of thing, `Means` says
-- what an address stands for. A thing of another kind has no entry; one of this kind had no namesake before it.
pub data Stands {A : Type 0} (test : Name → A → Bool) (Means : ℕ → A → Type 0) : List Entry → List A → Type 0 where
  nothing_yet : Stands test Means [] []
  other_kind : {entries : List Entry} {things things' : List A} {a : A}
      → things' ≡ things ++ (a ∷ [])
      → ((key : Name) → test key a ≡ false)
      → Stands test Means entries things
      → Stands test Means entries things'
  declared : {entries : List Entry} {things things' : List A} {a : A} {e : ℕ} {name : Name}
      → things' ≡ things ++ (a ∷ [])
      → ((key : Name) → test key a ≡ named key name)
      → Means e a
      → some_of (test name) things ≡ false
      → Stands test Means entries things
      → Stands test Means (entry e name ∷ entries) things'

-- An answer of the table and one of the definition: both none, or an address that stands for the thing.
pub data Agree {A : Type 0} (Means : ℕ → A → Type 0) : Option ℕ → Option A → Type 0 where
  both_none : Agree Means none none
  both_some : {e : ℕ} {a : A} → Means e a → Agree Means (some e) (some a)

-- Whether there is one.
abbrev pub present : {A : Type 0} → Option A → Bool
present none = false
present (some a) = true
