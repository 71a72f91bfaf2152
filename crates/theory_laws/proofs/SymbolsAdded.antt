-- A theory with one symbol more. Assumes nothing.
use mathlib.Core.Path.{◌≡◌, refl, sym, ◌∙◌}
use mathlib.Core.Bool.{false}
use mathlib.Core.List.{List, ◌∷◌, Memᴰ}
use Prim.Native.Nat.{ℕ, ◌+◌, ◌≤◌, ◌<◌}
use native.Mathlib.Omega.{arith}
use lib.ListN.{length, get_or, set, length-set}
use lib.Seq.{get_or-set_same, get_or-set_other}
use Rattle.capacity.specs.Below.horn.specs.Names.{Name, some_of}
use Rattle.capacity.specs.Below.horn.specs.Rulebook.{Output, sort, judgment, symbol, Theory, is_constructor, is_predicate, with_symbol}
use Rattle.theory.specs.Below.words.specs.Parts.{part}
use Rattle.theory.specs.Below.names.specs.Chains.{added}
use Rattle.theory.specs.Below.names.specs.Tables.{Entry, entry}
use Rattle.theory.specs.Below.names.proofs.Kept.{length-added, added_other}
use Rattle.theory.specs.Below.items.specs.Places as places
use Rattle.theory.specs.Below.symbols.specs.Symbols.{described}
use Rattle.theory_laws.specs.Representation.{Entries, table_of, SortAt, OutputAt, sort_output, judgment_output, SortsAt, SymbolAt, symbol_at_lem, Holds}
use Rattle.theory_laws.proofs.Frames.{Grown, Keeps, sort_kept, output_kept, sorts_kept, symbol_kept, rule_kept}
use Rattle.theory_laws.proofs.Adding.{Adds, adds_kept, others, others_more, newer}

-- The two words behind an entry's name.
module _ (heap : List ℕ) (e a n : ℕ) where
  pub length-described : length (described e a n heap) ≡ length heap
  unfolding described
  length-described = simp length-set

  pub described_other : (i : ℕ) → (i ≡ e + places.output → ⊥) → (i ≡ e + places.arity → ⊥) → get_or (described e a n heap) i 0 ≡ get_or heap i 0
  unfolding described
  described_other i x y = get_or-set_other (set heap (e + places.output) a) (e + places.arity) i n 0 y ∙ get_or-set_other heap (e + places.output) i a 0 x

  pub described_first : e + places.arity < length heap → get_or (described e a n heap) (e + places.output) 0 ≡ a
  unfolding described
  described_first h =
      get_or-set_other (set heap (e + places.output) a) (e + places.arity) (e + places.output) n 0 (λ k. omega arith)
      ∙ get_or-set_same heap (e + places.output) a 0 (omega arith)

  pub described_second : e + places.arity < length heap → get_or (described e a n heap) (e + places.arity) 0 ≡ n
  unfolding described
  described_second h = get_or-set_same (set heap (e + places.output) a) (e + places.arity) n 0 (simp length-set (omega arith))

abbrev pub with_constructor : Entries → Entry → Entries
with_constructor es e = record { sorts = es.sorts; constructors = e ∷ es.constructors; predicates = es.predicates; rules = es.rules }

abbrev pub with_predicate : Entries → Entry → Entries
with_predicate es e = record { sorts = es.sorts; constructors = es.constructors; predicates = e ∷ es.predicates; rules = es.rules }

constructor_grown : (es : Entries) (e : Entry) → Grown es (with_constructor es e)
constructor_grown es e = record { sorts = λ x m. m; constructors = λ x m. Memᴰ.tail m; predicates = λ x m. m; rules = λ x m. m }

predicate_grown : (es : Entries) (e : Entry) → Grown es (with_predicate es e)
predicate_grown es e = record { sorts = λ x m. m; constructors = λ x m. m; predicates = λ x m. Memᴰ.tail m; rules = λ x m. m }

module _ (text heap middle : List ℕ) (es : Entries) (th : Theory) (e top s t a n : ℕ) (name : Name) (ins : List Name)
    (h : Holds text heap es e th) (keeps : Keeps e heap middle) (low : places.entries ≤ e) (high : e + places.inputs + length ins ≤ top)
    (fits : e + places.inputs ≤ 16384)
    (p : part s t text ≡ name) (small_start : s < 4294967296) (small_end : t < 4294967296)
    (takes : SortsAt middle es (e + places.inputs) ins) (many : length ins ≡ n) where
  module _ (b : ℕ) (buckets_low : b + places.buckets ≤ places.entries) where
    symbol_adds : Adds text heap (described e a n (added middle b places.buckets e text s t)) e b s t
    symbol_adds = record {
      middle = middle;
      keeps = keeps;
      same_length = length-described (added middle b places.buckets e text s t) e a n ∙ length-added middle b places.buckets e text s t;
      words = λ i u. described_other (added middle b places.buckets e text s t) e a n i (λ x. omega arith) (λ x. omega arith);
      room = let l = h.long in omega arith;
      base_low = low;
      buckets_low = buckets_low;
      small_start = small_start;
      small_end = small_end;
    }

    symbol_long_enough : e + places.arity < length (added middle b places.buckets e text s t)
    symbol_long_enough = let l = h.long in let q = keeps.same_length in rw (length-added middle b places.buckets e text s t) (omega arith)

    new_symbol : {es' : Entries} (out : Output) → Grown es es' → Memᴰ (entry e name) (table_of es' out) → OutputAt es a out
        → SymbolAt (described e a n (added middle b places.buckets e text s t)) es' top e (symbol name ins out)
    new_symbol out g m o =
        symbol_at_lem {name = name} {ins = ins} {out = out} record {
          low = low;
          high = high;
          called = m;
          gives = rw (described_first (added middle b places.buckets e text s t) e a n symbol_long_enough) (output_kept g o);
          arity = described_second (added middle b places.buckets e text s t) e a n symbol_long_enough ∙ sym many;
          takes =
              sorts_kept g top
              (λ i x y.
              described_other (added middle b places.buckets e text s t) e a n i (λ z. omega arith) (λ z. omega arith)
              ∙ added_other middle b places.buckets e text s t (omega arith) i (λ z v. omega arith) (λ z v. omega arith))
              high takes;
        }

    long_after : length (described e a n (added middle b places.buckets e text s t)) ≡ 16384
    long_after =
        length-described (added middle b places.buckets e text s t) e a n ∙ length-added middle b places.buckets e text s t ∙ keeps.same_length ∙ h.long

  pub constructor_added : (o : Name) → SortAt es a o → some_of (is_constructor name) th.symbols ≡ false
      → Holds text (described e a n (added middle places.constructors places.buckets e text s t)) (with_constructor es (entry e name)) top
      (with_symbol th (symbol name ins (sort o)))
  unfolding with_symbol is_constructor is_predicate table_of
  constructor_added o m new =
      let g = constructor_grown es (entry e name) in
      let k = symbol_adds places.constructors (omega arith) in
      record {
        long = long_after places.constructors (omega arith);
        sorts = others k top (omega arith) (λ d x y. sort_kept g y) 0 (omega arith) (λ i x y z v. omega arith) h.sorts;
        constructors =
            newer k top (omega arith) (λ d c y. symbol_kept g (adds_kept k) (omega arith) y) name (symbol name ins (sort o)) p (λ key. refl)
            (new_symbol places.constructors (omega arith) (sort o) g (Memᴰ.head refl) (sort_output m)) new h.constructors;
        predicates =
            others_more k top (omega arith) (λ d c y. symbol_kept g (adds_kept k) (omega arith) y) places.predicates (symbol name ins (sort o)) (omega arith)
            (λ i x y z v. omega arith) (λ key. refl) h.predicates;
        rules =
            others k top (omega arith) (λ d c y. rule_kept g (adds_kept k) (omega arith) y) places.rules (omega arith) (λ i x y z v. omega arith) h.rules;
      }

  pub predicate_added : a ≡ 0 → some_of (is_predicate name) th.symbols ≡ false
      → Holds text (described e a n (added middle places.predicates places.buckets e text s t)) (with_predicate es (entry e name)) top
      (with_symbol th (symbol name ins judgment))
  unfolding with_symbol is_constructor is_predicate table_of
  predicate_added zero_word new =
      let g = predicate_grown es (entry e name) in
      let k = symbol_adds places.predicates (omega arith) in
      record {
        long = long_after places.predicates (omega arith);
        sorts = others k top (omega arith) (λ d x y. sort_kept g y) 0 (omega arith) (λ i x y z v. omega arith) h.sorts;
        constructors =
            others_more k top (omega arith) (λ d c y. symbol_kept g (adds_kept k) (omega arith) y) places.constructors (symbol name ins judgment) (omega arith)
            (λ i x y z v. omega arith) (λ key. refl) h.constructors;
        predicates =
            newer k top (omega arith) (λ d c y. symbol_kept g (adds_kept k) (omega arith) y) name (symbol name ins judgment) p (λ key. refl)
            (new_symbol places.predicates (omega arith) judgment g (Memᴰ.head refl) (judgment_output zero_word)) new h.predicates;
        rules =
            others k top (omega arith) (λ d c y. rule_kept g (adds_kept k) (omega arith) y) places.rules (omega arith) (λ i x y z v. omega arith) h.rules;
      }
