-- Symbols of a held theory: the words of an entry say what it is, and symbols are equal where their addresses are. Assumes nothing.
use mathlib.Core.Path.{◌≡◌, refl, ap₂, sym, ◌∙◌}
use mathlib.Core.List.{List, ◌∷◌, Memᴰ}
use Prim.Native.Nat.{ℕ, suc, ◌+◌, ◌≤◌}
use native.Mathlib.Omega.{arith}
use borrow.Author.Tests.{eq-eqb, ne_eqb}
use lib.Dec.{eqb}
use lib.ListN.{length, get_or}
use Rattle.capacity.specs.Below.horn.specs.Names.{Name}
use Rattle.capacity.specs.Below.horn.specs.Rulebook.{Output, sort, judgment, Symbol, same_symbol, inputs, output, Variable, variable, Theory}
use Rattle.capacity.specs.Below.horn.specs.Rulebook.{is_constructor, is_predicate}
use Rattle.capacity.specs.Below.horn.proofs.Equality.{named_decides, same_output_decides, same_symbol_decides, decides_false}
use Rattle.capacity.specs.Below.horn.proofs.Inversion.{some_equal}
use Rattle.theory.specs.Below.names.specs.Tables.{entry}
use Rattle.theory.specs.Below.names.proofs.Holds.{by_number}
use Rattle.theory.specs.Below.names.proofs.Kept.{member_named}
use Rattle.theory.specs.Below.names.proofs.Declared.{lookup_member, stands_distinct}
use Rattle.theory.specs.Below.items.specs.Places as places
use Rattle.theory_laws.specs.Representation.{Entries, table_of, OutputAt, SortsAt, no_sorts, one_sort, SymbolAt, symbol_at_lem}
use Rattle.theory_laws.specs.Representation.{Holds}
use Rattle.theory_laws.proofs.Lookups.{same_sort, same_output_lem}

-- The sort of the v-th of some variables.
pub data Sorted : List Variable → ℕ → Name → Type 0 where
  sorted_here : {name s : Name} {vs : List Variable} → Sorted (variable name s ∷ vs) 0 s
  sorted_there : {x : Variable} {vs : List Variable} {v : ℕ} {s : Name} → Sorted vs v s → Sorted (x ∷ vs) (suc v) s

module _ {text heap : List ℕ} {es : Entries} {top : ℕ} {th : Theory} (h : Holds text heap es top th) where
  -- A symbol's words.
  module _ {a : ℕ} {c : Symbol} (x : SymbolAt heap es top a c) where
    pub symbol_output : OutputAt es (get_or heap (a + places.output) 0) (output c)
    unfolding output
    symbol_output = by x where
      by : {d : Symbol} → SymbolAt heap es top a d → OutputAt es (get_or heap (a + places.output) 0) (output d)
      by (symbol_at_lem w) = w.gives

    pub symbol_arity : get_or heap (a + places.arity) 0 ≡ length (inputs c)
    unfolding inputs
    symbol_arity = by x where
      by : {d : Symbol} → SymbolAt heap es top a d → get_or heap (a + places.arity) 0 ≡ length (inputs d)
      by (symbol_at_lem w) = w.arity

    pub symbol_below : (places.entries ≤ a) × (a + places.inputs ≤ top)
    symbol_below = by x where
      by : {d : Symbol} → SymbolAt heap es top a d → (places.entries ≤ a) × (a + places.inputs ≤ top)
      by (symbol_at_lem w) = let l = w.low in let u = w.high in (omega arith, omega arith)

  -- Equal addresses are equal symbols.
  same_sorts : {o : ℕ} {ss ts : List Name} → length ss ≡ length ts → SortsAt heap es o ss → SortsAt heap es o ts → ss ≡ ts
  same_sorts e no_sorts no_sorts = refl
  same_sorts e no_sorts (one_sort b r) = absurd (omega arith)
  same_sorts e (one_sort a q) no_sorts = absurd (omega arith)
  same_sorts {o} e (one_sort {s} a q) (one_sort {s = t} b r) =
      ap₂ ◌∷◌ (named_decides.equal s t (sym (same_sort h a b) ∙ eq-eqb (get_or heap o 0) (get_or heap o 0) refl)) (same_sorts (omega arith) q r)

  called_same : {a : ℕ} {m n : Name} (out : Output) → Memᴰ (entry a m) (table_of es out) → Memᴰ (entry a n) (table_of es out) → m ≡ n
  unfolding table_of
  called_same (sort s) x y = sym (member_named h.constructors.table.chain x) ∙ member_named h.constructors.table.chain y
  called_same judgment x y = sym (member_named h.predicates.table.chain x) ∙ member_named h.predicates.table.chain y

  called_at : {a b : ℕ} {n : Name} (out : Output) → Memᴰ (entry a n) (table_of es out) → Memᴰ (entry b n) (table_of es out) → a ≡ b
  unfolding table_of
  called_at {a} {b} {n} (sort s) x y =
      let d = stands_distinct is_constructor (SymbolAt heap es top) h.constructors.stands in some_equal (sym (lookup_member n a d x) ∙ lookup_member n b d y)
  called_at {a} {b} {n} judgment x y =
      let d = stands_distinct is_predicate (SymbolAt heap es top) h.predicates.stands in some_equal (sym (lookup_member n a d x) ∙ lookup_member n b d y)

  pub symbols_equal : {a : ℕ} {c d : Symbol} → SymbolAt heap es top a c → SymbolAt heap es top a d → c ≡ d
  symbols_equal {a} (symbol_at_lem {name} {ins} {out} x) (symbol_at_lem {name = m} {ins = js} {out = p} y) =
      let e : out ≡ p =
      same_output_decides.equal out p (sym (same_output_lem h x.gives y.gives)
      ∙ eq-eqb (get_or heap (a + places.output) 0) (get_or heap (a + places.output) 0) refl) in
      let f : name ≡ m = called_same p (rw e at x.called) y.called in
      let g : ins ≡ js = same_sorts (sym x.arity ∙ y.arity) x.takes y.takes in
      cc

  pub addresses_equal : {a b : ℕ} {c : Symbol} → SymbolAt heap es top a c → SymbolAt heap es top b c → a ≡ b
  addresses_equal (symbol_at_lem {out} x) (symbol_at_lem y) = called_at out x.called y.called

  pub same_symbol_lem : {a b : ℕ} {c d : Symbol} → SymbolAt heap es top a c → SymbolAt heap es top b d → eqb a b ≡ same_symbol c d
  same_symbol_lem {a} {b} {c} {d} x y =
      by_number a b
      (λ e. eq-eqb a b e ∙ sym (rw (symbols_equal (rw e at x) y) (same_symbol_decides.same d)))
      (λ n. ne_eqb a b n ∙ sym (decides_false same_symbol_decides c d (λ e. n (addresses_equal (rw e at x) y))))
