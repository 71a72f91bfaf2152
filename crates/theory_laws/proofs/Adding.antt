-- A theory with one entry more: what the words hold after a name was added, whatever stands behind its three words.
-- Assumes nothing.
use mathlib.Core.Path.{◌≡◌, refl, sym, ◌∙◌}
use mathlib.Core.Bool.{Bool, false}
use mathlib.Core.List.{List, [], ◌∷◌, ◌++◌}
use Prim.Native.Nat.{ℕ, ◌+◌, ◌≤◌, ◌<◌}
use native.Mathlib.Omega.{arith}
use lib.ListN.{length, get_or}
use Rattle.capacity.specs.Below.horn.specs.Names.{Name, named, some_of}
use Rattle.theory.specs.Below.words.specs.Parts.{part}
use Rattle.theory.specs.Below.names.specs.Chains.{added}
use Rattle.theory.specs.Below.names.specs.Tables as tables
use Rattle.theory.specs.Below.names.specs.Tables.{Entry, entry, declared, other_kind}
use Rattle.theory.specs.Below.names.proofs.Holds.{base_below}
use Rattle.theory.specs.Below.names.proofs.Kept.{kept_within, kept_added_above, add_law, added_other, length-added}
use Rattle.theory.specs.Below.names.proofs.Declared.{stands_kept}
use Rattle.theory.specs.Below.items.specs.Places as places
use Rattle.theory_laws.specs.Representation.{Declares}
use Rattle.theory_laws.proofs.Frames.{Keeps, Kept, declares_kept}

-- The words after an entry at `base` was added to the table at `buckets`, and words behind it were written.
pub record Adds (text heap heap' : List ℕ) (base buckets s t : ℕ) : Type 0 where
  pub middle : List ℕ
  pub keeps : Keeps base heap middle
  pub same_length : length heap' ≡ length middle
  pub words : (i : ℕ) → i < base + 3 → get_or heap' i 0 ≡ get_or (added middle buckets places.buckets base text s t) i 0
  pub room : base + 3 ≤ length heap
  pub base_low : places.entries ≤ base
  pub buckets_low : buckets + places.buckets ≤ places.entries
  pub small_start : s < 4294967296
  pub small_end : t < 4294967296

module _ {text heap heap' : List ℕ} {base buckets s t : ℕ} (k : Adds text heap heap' base buckets s t) where
  abbrev whole : List ℕ
  whole = added k.middle buckets places.buckets base text s t

  length-whole : length heap' ≡ length whole
  length-whole = k.same_length ∙ sym (length-added k.middle buckets places.buckets base text s t)

  -- What stood behind the buckets stays.
  pub adds_kept : Kept base heap heap'
  adds_kept i l u =
      let b = k.buckets_low in
      k.words i (omega arith)
      ∙ added_other k.middle buckets places.buckets base text s t (omega arith) i (λ x y. omega arith) (λ x y. omega arith)
      ∙ k.keeps.words i u

  module _ {A : Type 0} {test : Name → A → Bool} {Means Means' : ℕ → A → Type 0} {things : List A} {entries : List Entry} (top' : ℕ) (high : base + 3 ≤ top')
      (means : (e : ℕ) (a : A) → Means e a → Means' e a) where
    -- A table at other buckets.
    pub others : (buckets₂ : ℕ) → buckets₂ + places.buckets ≤ places.entries
        → ((i : ℕ) → buckets₂ ≤ i → i < buckets₂ + places.buckets → buckets ≤ i → i < buckets + places.buckets → ⊥)
        → Declares text heap base buckets₂ entries test Means things
        → Declares text heap' top' buckets₂ entries test Means' things
    others buckets₂ low apart d =
        let b = k.buckets_low in
        let l = k.base_low in
        let m = declares_kept {top' = base} k.keeps (omega arith) {Means' = Means} (λ e a x. x) d in
        let h = m.below in
        let u = m.table.buckets_first in
        let v = base_below m.table.chain in
        record {
          table = kept_within heap' (kept_added_above buckets places.buckets base text s t m.table (omega arith) apart b h)
              length-whole (λ i x y. k.words i (omega arith)) (λ i x y. k.words i (omega arith));
          below = omega arith;
          stands = stands_kept test Means Means' d.stands (λ e name a n x. means e a x);
        }

    -- The same where the new thing is of another kind.
    pub others_more : (buckets₂ : ℕ) (a : A) → buckets₂ + places.buckets ≤ places.entries
        → ((i : ℕ) → buckets₂ ≤ i → i < buckets₂ + places.buckets → buckets ≤ i → i < buckets + places.buckets → ⊥)
        → ((key : Name) → test key a ≡ false)
        → Declares text heap base buckets₂ entries test Means things
        → Declares text heap' top' buckets₂ entries test Means' (things ++ (a ∷ []))
    others_more buckets₂ a low apart n d =
        let o = others buckets₂ low apart d in
        record { table = o.table; below = o.below; stands = other_kind refl n o.stands }

    -- The table that has the new entry.
    pub newer : (name : Name) (a : A) → part s t text ≡ name
        → ((key : Name) → test key a ≡ named key name)
        → Means' base a
        → some_of (test name) things ≡ false
        → Declares text heap base buckets entries test Means things
        → Declares text heap' top' buckets (entry base name ∷ entries) test Means' (things ++ (a ∷ []))
    unfolding tables.top
    newer name a p n x f d =
        let b = k.buckets_low in
        let l = k.base_low in
        let r = k.room in
        let m = declares_kept {top' = base} k.keeps (omega arith) {Means' = Means} (λ e a x. x) d in
        let h = m.below in
        let q = k.keeps.same_length in
        let table = add_law base s t m.table h (omega arith) k.small_start k.small_end in
        record {
          table = rw p at (kept_within heap' table length-whole (λ i y z. k.words i (omega arith)) (λ i y z. k.words i z));
          below = high;
          stands = declared refl n x f (stands_kept test Means Means' d.stands (λ e c y z w. means e y w));
        }
