-- Abbreviations: what keeps them, and what adding and finding one does. Assumes nothing.
use mathlib.Core.Path.{◌≡◌, refl, ap, sym, ◌∙◌}
use mathlib.Core.Bool.{Bool, false}
use mathlib.Core.List.{List, [], ◌∷◌, ◌++◌}
use Prim.Native.Nat.{ℕ, ◌+◌, ◌*◌, ◌≤◌, ◌<◌}
use native.Mathlib.Omega.{arith}
use lib.ListN.{length}
use Rattle.words.specs.Parts.{part}
use Rattle.capacity.specs.Below.horn.specs.Names.{Name, first, some_of}
use Rattle.capacity.specs.Below.horn.specs.StoredTerms.{Term}
use Rattle.capacity.specs.Below.horn.specs.Checker.{Def, def, is_def, meaning}
use Rattle.names.specs.Tables.{Entry, entry, top, Table, no_entry, Stands, nothing_yet, other_kind, declared, Agree, both_none, both_some, present}
use Rattle.names.proofs.Kept.{kept_within, kept_put, add_law}
use Rattle.names.proofs.Declared.{stands_kept, find_agrees, find_present}
use Rattle.tables.specs.Words.{goal_buckets, entry_words, value_offset, entered, def_found, def_meaning}
use Rattle.tables.specs.Representation.{DefAt, Defs}
use Rattle.names.specs.Below.facts.proofs.Lists.{one_more}
use Rattle.tables.proofs.Areas.{Same, entered-value, entered_same}
use Rattle.tables.proofs.Goals.{agreed}

module _ {text table : List ℕ} {buckets base : ℕ} {Means : ℕ → Term → Type 0} {defs : List Def} where
  -- Whatever keeps the buckets of abbreviations and their words keeps them.
  pub defs_kept : (table' : List ℕ) → Defs text table buckets base Means defs
      → length table' ≡ length table
      → Same table table' goal_buckets (goal_buckets + buckets)
      → Same table table' base (base + entry_words * length defs)
      → Defs text table' buckets base Means defs
  defs_kept table' d l h k =
      let b = d.below in
      record {
        entries = d.entries;
        names = kept_within table' d.names l (λ i x y. h.words i x y) (λ i x y. k.words i x (omega arith));
        below = b;
        stands = stands_kept is_def (DefAt table Means base (base + entry_words * length defs)) (DefAt table' Means base (base + entry_words * length defs))
            d.stands
            (λ e name a m x.
            let low = x.above in
            let high = x.below in
            record { above = low; below = high; value = rw (k.words (e + value_offset) (omega arith) (omega arith)) x.value });
      }

  -- One abbreviation more.
  pub defs_add : (s t w : ℕ) (u : Term) → Defs text table buckets base Means defs
      → base + entry_words * length defs + entry_words ≤ length table
      → s < 4294967296
      → t < 4294967296
      → Means w u
      → some_of (is_def (part s t text)) defs ≡ false
      → Defs text (entered goal_buckets buckets (base + entry_words * length defs) text s t w table) buckets base Means (defs ++ (def (part s t text) u ∷ []))
  unfolding top is_def entered meaning
  defs_add s t w u d room x y m n =
      let e : ℕ = base + entry_words * length defs in
      let name : Name = part s t text in
      let f = d.names.buckets_first in
      let p = d.names.some_bucket in
      let o = one_more defs (def name u) in
      let same = entered_same table goal_buckets buckets e text s t w p base e f (omega arith) in
      record {
        entries = entry e name ∷ d.entries;
        names = kept_put (e + value_offset) w (add_law e s t d.names d.below (omega arith) x y) (omega arith);
        below = omega arith;
        stands =
            declared {a = def name u} {e = e} {name = name} refl (λ key. refl)
            (record { above = omega arith; below = omega arith; value = rw (entered-value table goal_buckets buckets e text s t w (omega arith)) m })
            n
            (stands_kept is_def (DefAt table Means base (base + entry_words * length defs))
            (DefAt (entered goal_buckets buckets e text s t w table) Means base (base + entry_words * length (defs ++ (def name u ∷ [])))) d.stands
            (λ i other a q z.
            let low = z.above in
            let high = z.below in
            record { above = low; below = omega arith; value = rw (same.words (i + value_offset) (omega arith) (omega arith)) z.value }));
      }

  -- The test for duplicates, and the search.
  pub def_known : (key : Name) → Defs text table buckets base Means defs → present (def_found buckets text key table) ≡ some_of (is_def key) defs
  unfolding def_found
  def_known key d = find_present is_def (DefAt table Means base (base + entry_words * length defs)) key d.names d.stands

  pub meaning_agrees : (key : Name) → Defs text table buckets base Means defs
      → Agree (λ w a. Means w (meaning a)) (def_meaning buckets text key table) (first (is_def key) defs)
  unfolding def_found def_meaning
  meaning_agrees key d =
      agreed (find_agrees is_def (DefAt table Means base (base + entry_words * length defs)) key d.names d.stands)
      (λ f n. rw (f, def_meaning, n) both_none)
      (λ e a f n x. rw (f, def_meaning, n) (both_some x.value))

no_last : {A : Type 0} (xs : List A) (a : A) → [] ≡ xs ++ (a ∷ []) → ⊥
no_last xs a h = let k = ap length h in let o = one_more xs a in omega arith

-- Where nothing is declared there is no entry.
no_entries_lem : {A : Type 0} {test : Name → A → Bool} {M : ℕ → A → Type 0} {entries : List Entry} {things : List A} → Stands test M entries things
    → things ≡ []
    → entries ≡ []
no_entries_lem nothing_yet h = refl
no_entries_lem (other_kind {things} {a} q n s) h = absurd (no_last things a (sym h ∙ q))
no_entries_lem (declared {things} {a} q n m f s) h = absurd (no_last things a (sym h ∙ q))

-- While there are none, they may begin higher.
pub defs_raised : {text table : List ℕ} {buckets base : ℕ} {Means : ℕ → Term → Type 0} (base' : ℕ) → Defs text table buckets base Means []
    → base ≤ base'
    → Defs text table buckets base' Means []
unfolding top
defs_raised {text} {table} {buckets} {base} base' d h =
    let z = no_entries_lem d.stands refl in
    let t : Table table goal_buckets buckets base text [] = rw z at d.names in
    let f = t.buckets_first in
    record {
      entries = [];
      names = record { some_bucket = t.some_bucket; buckets_first = omega arith; inside = t.inside; heads = t.heads; chain = no_entry };
      below = omega arith;
      stands = nothing_yet;
    }

-- And while there are none, their names may stand in another text, as while the goals are read.
pub defs_elsewhere : {text table : List ℕ} {buckets base : ℕ} {Means : ℕ → Term → Type 0} (text' : List ℕ) → Defs text table buckets base Means []
    → Defs text' table buckets base Means []
unfolding top
defs_elsewhere {text} {table} {buckets} {base} text' d =
    let z = no_entries_lem d.stands refl in
    let t : Table table goal_buckets buckets base text [] = rw z at d.names in
    record {
      entries = [];
      names = record { some_bucket = t.some_bucket; buckets_first = t.buckets_first; inside = t.inside; heads = t.heads; chain = no_entry };
      below = omega arith;
      stands = nothing_yet;
    }

-- What numbers mean may grow.
pub defs_mean : {text table : List ℕ} {buckets base : ℕ} {Means : ℕ → Term → Type 0} {defs : List Def} (Means' : ℕ → Term → Type 0)
    → ((w : ℕ) (t : Term) → Means w t → Means' w t)
    → Defs text table buckets base Means defs
    → Defs text table buckets base Means' defs
defs_mean {table} {base} {Means} {defs} Means' f d =
    record {
      entries = d.entries;
      names = d.names;
      below = d.below;
      stands = stands_kept is_def (DefAt table Means base (base + entry_words * length defs)) (DefAt table Means' base (base + entry_words * length defs))
          d.stands
          (λ e name a m x. record { above = x.above; below = x.below; value = f _ _ x.value });
    }
