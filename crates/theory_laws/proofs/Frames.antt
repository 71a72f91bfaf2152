-- Words written at or above `top` keep all that is held below it, and what is held stays where tables and variables grow.
-- Assumes nothing.
use mathlib.Core.Path.{◌≡◌, refl, sym, subst, ◌∙◌}
use mathlib.Core.Bool.{Bool}
use mathlib.Core.List.{List, Memᴰ}
use Prim.Native.Nat.{ℕ, ◌+◌, ◌*◌, ◌≤◌, ◌<◌}
use native.Mathlib.Omega.{arith}
use lib.ListN.{length, get_or, set, length-set}
use lib.Seq.{get_or-set_other}
use Rattle.capacity.specs.Below.horn.specs.Names.{Name}
use Rattle.capacity.specs.Below.horn.specs.Rulebook.{Output, sort, judgment, Symbol, Variable, Pattern, Patterns, Rule, Theory}
use Rattle.theory.specs.Below.names.specs.Tables.{Entry}
use Rattle.theory.specs.Below.names.proofs.Kept.{kept_within}
use Rattle.theory.specs.Below.names.proofs.Holds.{base_below}
use Rattle.theory.specs.Below.names.proofs.Declared.{stands_kept}
use Rattle.theory.specs.Below.items.specs.Places as places
use Rattle.theory_laws.specs.Representation.{Entries, table_of, SortAt, sort_at, OutputAt, sort_output, judgment_output}
use Rattle.theory_laws.specs.Representation.{SortsAt, no_sorts, one_sort, SymbolAt, symbol_at_lem, Nth}
use Rattle.theory_laws.specs.Representation.{Flat, flat_variable, flat_symbol, Flats, no_flats, one_flat, FlatList, no_premises, one_premise}
use Rattle.theory_laws.specs.Representation.{VariablesAt, no_variables, one_variable, RuleAt, rule_at, Declares, Holds}

-- Tables that grow.
pub record Grown (es es' : Entries) : Type 0 where
  pub sorts : (e : Entry) → Memᴰ e es.sorts → Memᴰ e es'.sorts
  pub constructors : (e : Entry) → Memᴰ e es.constructors → Memᴰ e es'.constructors
  pub predicates : (e : Entry) → Memᴰ e es.predicates → Memᴰ e es'.predicates
  pub rules : (e : Entry) → Memᴰ e es.rules → Memᴰ e es'.rules

pub grown_none : {es : Entries} → Grown es es
grown_none = record { sorts = λ e m. m; constructors = λ e m. m; predicates = λ e m. m; rules = λ e m. m }

-- The same words behind the buckets and below `top`.
abbrev pub Kept : ℕ → List ℕ → List ℕ → Type 0
Kept top heap heap' = (i : ℕ) → places.entries ≤ i → i < top → get_or heap' i 0 ≡ get_or heap i 0

module _ {es es' : Entries} (g : Grown es es') where
  pub sort_kept : {a : ℕ} {s : Name} → SortAt es a s → SortAt es' a s
  sort_kept (sort_at m) = sort_at (g.sorts _ m)

  pub output_kept : {a : ℕ} {out : Output} → OutputAt es a out → OutputAt es' a out
  output_kept (sort_output m) = sort_output (sort_kept m)
  output_kept (judgment_output e) = judgment_output e

  pub called_kept : {e : Entry} (out : Output) → Memᴰ e (table_of es out) → Memᴰ e (table_of es' out)
  unfolding table_of
  called_kept (sort s) m = g.constructors _ m
  called_kept judgment m = g.predicates _ m

  module _ {heap heap' : List ℕ} where
    pub sorts_kept : {o : ℕ} {ss : List Name} (top : ℕ) → ((i : ℕ) → o ≤ i → i < top → get_or heap' i 0 ≡ get_or heap i 0)
        → o + length ss ≤ top
        → SortsAt heap es o ss
        → SortsAt heap' es' o ss
    sorts_kept top k h no_sorts = no_sorts
    sorts_kept {o} top k h (one_sort {s} {ss} a r) =
        one_sort {o = o} {s = s} (rw (k o (omega arith) (omega arith)) (sort_kept a)) (sorts_kept top (λ i l u. k i (omega arith) u) (omega arith) r)

    module _ {top top' : ℕ} (k : Kept top heap heap') (up : top ≤ top') where
      pub symbol_kept : {a : ℕ} {c : Symbol} → SymbolAt heap es top a c → SymbolAt heap' es' top' a c
      symbol_kept {a} (symbol_at_lem {name} {ins} {out} w) =
          let l = w.low in
          let h = w.high in
          symbol_at_lem {name = name} {ins = ins} {out = out} record {
            low = l;
            high = omega arith;
            called = called_kept out w.called;
            gives = rw (k (a + places.output) (omega arith) (omega arith)) (output_kept w.gives);
            arity = k (a + places.arity) (omega arith) (omega arith) ∙ w.arity;
            takes = sorts_kept top (λ i l u. k i (omega arith) u) (omega arith) w.takes;
          }

      module _ {low high high' : ℕ} (kw : (i : ℕ) → low ≤ i → i < high → get_or heap' i 0 ≡ get_or heap i 0) (rise : high ≤ high')
          {vs vs' : List Variable} (more : (v : ℕ) (name : Name) → Nth vs v name → Nth vs' v name) where
        mutual
          pub flat_kept : {o o' : ℕ} {p : Pattern} → Flat heap es top low high vs o p o' → Flat heap' es' top' low high' vs' o p o'
          flat_kept {o} (flat_variable {v} {name} l h e n q) = flat_variable l (omega arith) (kw o l h ∙ e) (more v name n) q
          flat_kept {o} (flat_symbol {c} l h a r) =
              flat_symbol l (omega arith) (subst (λ (x : ℕ). SymbolAt heap' es' top' x c) (sym (kw o l h)) (symbol_kept a)) (flats_kept r)

          pub flats_kept : {o o' : ℕ} {ps : Patterns} → Flats heap es top low high vs o ps o' → Flats heap' es' top' low high' vs' o ps o'
          flats_kept no_flats = no_flats
          flats_kept (one_flat p ps) = one_flat (flat_kept p) (flats_kept ps)

        pub premises_kept : {o o' : ℕ} {ps : List Pattern} → FlatList heap es top low high vs o ps o' → FlatList heap' es' top' low high' vs' o ps o'
        premises_kept no_premises = no_premises
        premises_kept (one_premise p ps) = one_premise (flat_kept p) (premises_kept ps)

  pub variables_kept : {text area area' : List ℕ} {o : ℕ} {vs : List Variable} (top : ℕ)
      → ((i : ℕ) → o ≤ i → i < top → get_or area' i 0 ≡ get_or area i 0)
      → o + places.variable_words * length vs ≤ top
      → VariablesAt text area es o vs
      → VariablesAt text area' es' o vs
  variables_kept top k h no_variables = no_variables
  variables_kept {text} {o} top k h (one_variable {name} {s} {vs} n a r) =
      one_variable {o = o} {name = name} {s = s}
      (rw (k o (omega arith) (omega arith), k (o + 1) (omega arith) (omega arith)) n)
      (rw (k (o + 2) (omega arith) (omega arith)) (sort_kept a))
      (variables_kept top (λ i l u. k i (omega arith) u) (omega arith) r)

  pub rule_kept : {text heap heap' : List ℕ} {top top' e : ℕ} {r : Rule} → Kept top heap heap' → top ≤ top'
      → RuleAt text heap es top e r
      → RuleAt text heap' es' top' e r
  rule_kept {top} {e} k up (rule_at {name} {vs} {premises} {conclusion} w) =
      let l = w.low in
      let h = w.high in
      let u = w.rising in
      rule_at {name = name} {vs = vs} {premises = premises} {conclusion = conclusion} record {
        low = l;
        called = g.rules _ w.called;
        premise_count_lem = k (e + places.premise_count) (omega arith) (omega arith) ∙ w.premise_count_lem;
        variable_count_lem = k (e + places.variable_count) (omega arith) (omega arith) ∙ w.variable_count_lem;
        conclusion_place_lem = w.conclusion_place_lem;
        variables_place = w.variables_place;
        to_conclusion = k (e + places.conclusion) (omega arith) (omega arith) ∙ w.to_conclusion;
        to_variables = k (e + places.variables) (omega arith) (omega arith) ∙ w.to_variables;
        at_premises = premises_kept k up (λ i p q. k i (omega arith) q) up (λ v name n. n) w.at_premises;
        at_conclusion = flat_kept k up (λ i p q. k i (omega arith) q) up (λ v name n. n) w.at_conclusion;
        at_variables = variables_kept top (λ i p q. k i (omega arith) q) h w.at_variables;
        rising = u;
        high = omega arith;
      }

-- All words below `top` kept, in an area of the same length.
pub record Keeps (top : ℕ) (heap heap' : List ℕ) : Type 0 where
  pub same_length : length heap' ≡ length heap
  pub words : (i : ℕ) → i < top → get_or heap' i 0 ≡ get_or heap i 0

pub keeps_all : {top : ℕ} {heap : List ℕ} → Keeps top heap heap
keeps_all = record { same_length = refl; words = λ i h. refl }

pub keeps_less : {top top' : ℕ} {a b : List ℕ} → top ≤ top' → Keeps top' a b → Keeps top a b
keeps_less u x = record { same_length = x.same_length; words = λ i h. x.words i (omega arith) }

pub keeps_then : {top top' : ℕ} {a b c : List ℕ} → top ≤ top' → Keeps top a b → Keeps top' b c → Keeps top a c
keeps_then u x y = record {
  same_length = y.same_length ∙ x.same_length;
  words = λ i h. y.words i (omega arith) ∙ x.words i h;
}

pub keeps_set : (top : ℕ) (heap : List ℕ) (i v : ℕ) → top ≤ i → Keeps top heap (set heap i v)
keeps_set top heap i v h = record {
  same_length = length-set heap i v;
  words = λ j k. get_or-set_other heap i j v 0 (λ q. omega (arith, q));
}

module _ {text heap heap' : List ℕ} {top top' : ℕ} (k : Keeps top heap heap') (up : top ≤ top') where
  pub declares_kept : {buckets : ℕ} {entries : List Entry} {A : Type 0} {test : Name → A → Bool} {Means Means' : ℕ → A → Type 0} {things : List A}
      → ((e : ℕ) (a : A) → Means e a → Means' e a)
      → Declares text heap top buckets entries test Means things
      → Declares text heap' top' buckets entries test Means' things
  declares_kept {buckets} {test} {Means} {Means'} f d =
      let b = d.below in
      let l = base_below d.table.chain in
      let u = d.table.buckets_first in
      record {
        table = kept_within heap' d.table k.same_length (λ i p q. k.words i (omega arith)) (λ i p q. k.words i (omega arith));
        below = omega arith;
        stands = stands_kept test Means Means' d.stands (λ e name a m x. f e a x);
      }

  -- The theory stays where words are written above it.
  pub holds_kept : {es : Entries} {th : Theory} → Holds text heap es top th → Holds text heap' es top' th
  holds_kept h = record {
    long = k.same_length ∙ h.long;
    sorts = declares_kept (λ e a m. m) h.sorts;
    constructors = declares_kept (λ e c m. symbol_kept grown_none (λ i p q. k.words i q) up m) h.constructors;
    predicates = declares_kept (λ e c m. symbol_kept grown_none (λ i p q. k.words i q) up m) h.predicates;
    rules = declares_kept (λ e r m. rule_kept grown_none (λ i p q. k.words i q) up m) h.rules;
  }
