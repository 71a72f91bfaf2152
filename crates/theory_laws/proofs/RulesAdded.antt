-- A theory with one rule more. Assumes nothing.
use mathlib.Core.Path.{◌≡◌, refl, ◌∙◌}
use mathlib.Core.Bool.{false}
use mathlib.Core.List.Memᴰ
use mathlib.Core.List.{List, [], ◌∷◌, ◌++◌}
use Prim.Native.Nat.{ℕ, ◌+◌, ◌*◌, ◌≤◌, ◌<◌}
use native.Mathlib.Omega.{arith}
use lib.ListN.{length, get_or, set, length-set}
use lib.Seq.{get_or-set_same, get_or-set_other}
use Rattle.capacity.specs.Below.horn.specs.Names.{Name, some_of}
use Rattle.capacity.specs.Below.horn.specs.Rulebook.{Variable, Pattern, rule, Theory, is_rule}
use Rattle.theory.specs.Below.words.specs.Parts.{part, copied}
use Rattle.theory.specs.Below.words.proofs.Writing.{length-copied, copied_before, copied_there}
use Rattle.theory.specs.Below.names.specs.Chains.{added}
use Rattle.theory.specs.Below.names.specs.Tables.{Entry, entry}
use Rattle.theory.specs.Below.names.proofs.Kept.{length-added, added_other}
use Rattle.theory.specs.Below.items.specs.Places as places
use Rattle.theory.specs.Below.rules.specs.Rules.{rule_described}
use Rattle.theory_laws.specs.Representation.{Entries, Flat, FlatList, VariablesAt, no_variables, one_variable, RuleAt, rule_at, Holds}
use Rattle.theory_laws.proofs.Frames.{Grown, Keeps, sort_kept, symbol_kept, rule_kept, flat_kept, premises_kept}
use Rattle.theory_laws.proofs.Adding.{Adds, adds_kept, others, newer}

-- Variables in another area, from another place on.
pub variables_moved : {text area area' : List ℕ} {es es' : Entries} {o : ℕ} {vs : List Variable} (g : Grown es es') (o' : ℕ)
    → ((i i' : ℕ) → i' + o ≡ i + o' → o ≤ i → i < o + places.variable_words * length vs → get_or area' i' 0 ≡ get_or area i 0)
    → VariablesAt text area es o vs
    → VariablesAt text area' es' o' vs
variables_moved g o' k no_variables = no_variables
variables_moved {o} g o' k (one_variable {name} {s} {vs} n a r) =
    one_variable {o = o'} {name = name} {s = s}
    (rw (k o o' (omega arith) (omega arith) (omega arith), k (o + 1) (o' + 1) (omega arith) (omega arith) (omega arith)) n)
    (rw (k (o + 2) (o' + 2) (omega arith) (omega arith) (omega arith)) (sort_kept g a))
    (variables_moved g (o' + places.variable_words) (λ i i' e l u. k i i' (omega arith) (omega arith) (omega arith)) r)

-- The four words behind a rule's name.
module _ (heap : List ℕ) (e a b c d : ℕ) where
  abbrev one : List ℕ
  one = set heap (e + places.premise_count) a

  abbrev two : List ℕ
  two = set one (e + places.variable_count) b

  abbrev three : List ℕ
  three = set two (e + places.conclusion) c

  pub length_rule : length (rule_described e a b c d heap) ≡ length heap
  unfolding rule_described
  length_rule = simp length-set

  pub rule_other : (i : ℕ) → (e + places.premise_count ≤ i → i ≤ e + places.variables → ⊥) → get_or (rule_described e a b c d heap) i 0 ≡ get_or heap i 0
  unfolding rule_described
  rule_other i h =
      get_or-set_other three (e + places.variables) i d 0 (λ k. h (omega arith) (omega arith))
      ∙ get_or-set_other two (e + places.conclusion) i c 0 (λ k. h (omega arith) (omega arith))
      ∙ get_or-set_other one (e + places.variable_count) i b 0 (λ k. h (omega arith) (omega arith))
      ∙ get_or-set_other heap (e + places.premise_count) i a 0 (λ k. h (omega arith) (omega arith))

  module _ (fits : e + places.variables < length heap) where
    pub rule_first : get_or (rule_described e a b c d heap) (e + places.premise_count) 0 ≡ a
    unfolding rule_described
    rule_first =
        get_or-set_other three (e + places.variables) (e + places.premise_count) d 0 (λ k. omega arith)
        ∙ get_or-set_other two (e + places.conclusion) (e + places.premise_count) c 0 (λ k. omega arith)
        ∙ get_or-set_other one (e + places.variable_count) (e + places.premise_count) b 0 (λ k. omega arith)
        ∙ get_or-set_same heap (e + places.premise_count) a 0 (omega arith)

    pub rule_second : get_or (rule_described e a b c d heap) (e + places.variable_count) 0 ≡ b
    unfolding rule_described
    rule_second =
        get_or-set_other three (e + places.variables) (e + places.variable_count) d 0 (λ k. omega arith)
        ∙ get_or-set_other two (e + places.conclusion) (e + places.variable_count) c 0 (λ k. omega arith)
        ∙ get_or-set_same one (e + places.variable_count) b 0 (simp length-set (omega arith))

    pub rule_third : get_or (rule_described e a b c d heap) (e + places.conclusion) 0 ≡ c
    unfolding rule_described
    rule_third =
        get_or-set_other three (e + places.variables) (e + places.conclusion) d 0 (λ k. omega arith)
        ∙ get_or-set_same two (e + places.conclusion) c 0 (simp length-set (omega arith))

    pub rule_fourth : get_or (rule_described e a b c d heap) (e + places.variables) 0 ≡ d
    unfolding rule_described
    rule_fourth = get_or-set_same three (e + places.variables) d 0 (simp length-set (omega arith))

abbrev pub with_rule : Entries → Entry → Entries
with_rule es e = record { sorts = es.sorts; constructors = es.constructors; predicates = es.predicates; rules = e ∷ es.rules }

rule_grown : (es : Entries) (e : Entry) → Grown es (with_rule es e)
rule_grown es e = record { sorts = λ x m. m; constructors = λ x m. m; predicates = λ x m. m; rules = λ x m. Memᴰ.tail m }

module _ (text heap middle vars : List ℕ) (es : Entries) (th : Theory) (e top s t n v : ℕ) (name : Name)
    (vs : List Variable) (premises : List Pattern) (conclusion : Pattern) (mid : ℕ)
    (h : Holds text heap es e th) (keeps : Keeps e heap middle) (low : places.entries ≤ e) (rising : e + places.patterns ≤ top)
    (fits : top + places.variable_words * v ≤ 16384)
    (p : part s t text ≡ name) (small_start : s < 4294967296) (small_end : t < 4294967296)
    (many_premises : n ≡ length premises) (many_variables : v ≡ length vs)
    (at_premises : FlatList middle es e (e + places.patterns) top vs (e + places.patterns) premises mid)
    (at_conclusion : Flat middle es e (e + places.patterns) top vs mid conclusion top)
    (at_variables : VariablesAt text vars es 0 vs) where
  -- How many words the variables take.
  abbrev variables_size : ℕ
  variables_size = places.variable_words * v

  abbrev named_words : List ℕ
  named_words = added middle places.rules places.buckets e text s t

  abbrev described_words : List ℕ
  described_words = rule_described e n v mid top named_words

  abbrev pub rule_words : List ℕ
  rule_words = copied described_words top vars 0 variables_size

  length_middle : length described_words ≡ 16384
  length_middle = length_rule named_words e n v mid top ∙ length-added middle places.rules places.buckets e text s t ∙ keeps.same_length ∙ h.long

  -- Words between the entry's seven words and the variables, and words below the entry.
  pattern_words : (i : ℕ) → e + places.patterns ≤ i → i < top → get_or rule_words i 0 ≡ get_or middle i 0
  pattern_words i l u =
      copied_before variables_size described_words top vars 0 i (omega arith)
      ∙ rule_other named_words e n v mid top i (λ x y. omega arith)
      ∙ added_other middle places.rules places.buckets e text s t (omega arith) i (λ x y. omega arith) (λ x y. omega arith)

  older_words : (i : ℕ) → places.entries ≤ i → i < e → get_or rule_words i 0 ≡ get_or middle i 0
  older_words i l u =
      copied_before variables_size described_words top vars 0 i (omega arith)
      ∙ rule_other named_words e n v mid top i (λ x y. omega arith)
      ∙ added_other middle places.rules places.buckets e text s t (omega arith) i (λ x y. omega arith) (λ x y. omega arith)

  rule_adds : Adds text heap rule_words e places.rules s t
  rule_adds = record {
    middle = middle;
    keeps = keeps;
    same_length =
        length-copied variables_size described_words top vars 0 ∙ length_rule named_words e n v mid top
        ∙ length-added middle places.rules places.buckets e text s t;
    words = λ i u.
        copied_before variables_size described_words top vars 0 i (omega arith)
        ∙ rule_other named_words e n v mid top i (λ x y. omega arith);
    room = let l = h.long in omega arith;
    base_low = low;
    buckets_low = omega arith;
    small_start = small_start;
    small_end = small_end;
  }

  rule_long_enough : e + places.variables < length named_words
  rule_long_enough = let l = h.long in let q = keeps.same_length in rw (length-added middle places.rules places.buckets e text s t) (omega arith)

  new_rule : RuleAt text rule_words (with_rule es (entry e name)) (top + variables_size) e (rule name vs premises conclusion)
  new_rule =
      let g = rule_grown es (entry e name) in
      let l = length_middle in
      rule_at {name = name} {vs = vs} {premises = premises} {conclusion = conclusion} record {
        low = low;
        called = Memᴰ.head refl;
        premise_count_lem =
            copied_before variables_size described_words top vars 0 (e + places.premise_count) (omega arith)
            ∙ rule_first named_words e n v mid top rule_long_enough ∙ many_premises;
        variable_count_lem =
            copied_before variables_size described_words top vars 0 (e + places.variable_count) (omega arith)
            ∙ rule_second named_words e n v mid top rule_long_enough ∙ many_variables;
        conclusion_place_lem = mid;
        variables_place = top;
        to_conclusion =
            copied_before variables_size described_words top vars 0 (e + places.conclusion) (omega arith)
            ∙ rule_third named_words e n v mid top rule_long_enough;
        to_variables =
            copied_before variables_size described_words top vars 0 (e + places.variables) (omega arith)
            ∙ rule_fourth named_words e n v mid top rule_long_enough;
        at_premises = premises_kept g older_words (omega arith) pattern_words (omega arith) (λ i x y. y) at_premises;
        at_conclusion = flat_kept g older_words (omega arith) pattern_words (omega arith) (λ i x y. y) at_conclusion;
        at_variables =
            variables_moved g top
            (λ i i' q x y.
            let z : i' ≡ top + i = omega arith in
            let n : 0 + i ≡ i = omega arith in
            rw z (rw n at (copied_there variables_size described_words top vars 0 i (omega arith) (omega arith))))
            at_variables;
        rising = rising;
        high = omega arith;
      }

  pub rule_added : some_of (is_rule name) th.rules ≡ false
      → Holds text rule_words (with_rule es (entry e name)) (top + variables_size)
      record { sorts = th.sorts; symbols = th.symbols; rules = th.rules ++ (rule name vs premises conclusion ∷ []) }
  unfolding is_rule
  rule_added new =
      let g = rule_grown es (entry e name) in
      let k = rule_adds in
      record {
        long = length-copied variables_size described_words top vars 0 ∙ length_middle;
        sorts = others k (top + variables_size) (omega arith) (λ d x y. sort_kept g y) places.sorts (omega arith) (λ i x y z u. omega arith) h.sorts;
        constructors =
            others k (top + variables_size) (omega arith) (λ d c y. symbol_kept g (adds_kept k) (omega arith) y) places.constructors (omega arith)
            (λ i x y z u. omega arith)
            h.constructors;
        predicates =
            others k (top + variables_size) (omega arith) (λ d c y. symbol_kept g (adds_kept k) (omega arith) y) places.predicates (omega arith)
            (λ i x y z u. omega arith)
            h.predicates;
        rules =
            newer k (top + variables_size) (omega arith) (λ d c y. rule_kept g (adds_kept k) (omega arith) y) name (rule name vs premises conclusion) p
            (λ key. refl) new_rule new h.rules;
      }
