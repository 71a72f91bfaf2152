-- What is read of a held theory is what the definition says of it. Assumes nothing.
use mathlib.Core.Path.{◌≡◌, refl, ap, sym, ◌∙◌}
use mathlib.Core.Bool.{Bool, true, false, ◌&&◌, and-false}
use mathlib.Core.List.{List, [], ◌∷◌}
use mathlib.Core.Option.{Option}
use Prim.Native.Nat.{ℕ, suc, ◌+◌, ◌≤◌, ◌<◌}
use native.Mathlib.Omega.{arith}
use borrow.Author.Tests.{eq-eqb, ne_eqb}
use lib.Dec.{eqb}
use lib.ListN.{length, get_or}
use Rattle.names.specs.Below.horn.specs.Names.{Name, first}
use Rattle.names.specs.Below.horn.specs.Rulebook.{Symbol, inputs, output, Variable, variable, Pattern, Patterns, Rule, Theory}
use Rattle.names.specs.Below.horn.specs.Rulebook.{is_variable, is_constructor, is_predicate, is_rule, variables_of, premises_of, constructor, predicate, rule_named}
use Rattle.names.specs.Below.horn.specs.StoredTerms.{node, Terms, []ₜ, ◌∷ₜ◌, width}
use Rattle.names.specs.Below.horn.specs.Checker.{has_sort, accepts}
use Rattle.names.specs.Tables.{Agree, both_none, both_some}
use Rattle.names.proofs.Holds.{by_number}
use Rattle.names.proofs.Declared.{find_agrees}
use Rattle.items.specs.Below.outcomes.specs.Outcomes as outcomes
use Rattle.items.specs.Below.outcomes.specs.Simulation.{Answers, sought}
use Rattle.items.specs.Places as places
use Rattle.theory_laws.specs.Representation.{Entries, SortAt, OutputAt, sort_output, SortsAt, no_sorts, one_sort, SymbolAt, symbol_at_lem, Nth}
use Rattle.theory_laws.specs.Representation.{Flat, flat_variable, flat_symbol, Flats, no_flats, one_flat, VariablesAt}
use Rattle.theory_laws.specs.Representation.{RuleAt, rule_at, Holds}
use Rattle.theory_laws.proofs.Frames.{Keeps, keeps_less, holds_kept}
use Rattle.theory_laws.proofs.Ready.{nth_below}
use Rattle.theory_laws.proofs.Lookups.{Placed, placed, variables_from, same_output_lem}
use Rattle.theory_laws.proofs.Readback.{symbol_output}
use Rattle.theory_reading.specs.Reading.{constructor_found, predicate_found, rule_found, output_of, arity_of, input_of, fits_input, all_fit, accepted}
use Rattle.theory_reading.specs.Reading.{premise_count, variable_count, variables_place}
use Rattle.theory_reading.specs.Reading.{sort_of_variable, variable_found}

-- Arguments that are not as many as the inputs are not accepted.
accepts_uneven : (ss : List Name) (ts : Terms) → (length ss ≡ width ts → ⊥) → accepts ss ts ≡ false
unfolding accepts width
accepts_uneven [] []ₜ n = absurd (n refl)
accepts_uneven [] (t ∷ₜ ts) n = refl
accepts_uneven (s ∷ ss) []ₜ n = refl
accepts_uneven (s ∷ ss) (t ∷ₜ ts) n = rw (accepts_uneven ss ts (λ e. n (ap suc e))) (and-false (has_sort s t))

-- The heads of some terms, from the k-th on.
pub data Heads (heap : List ℕ) (es : Entries) (top : ℕ) (head : ℕ → ℕ) : ℕ → Terms → Type 0 where
  no_heads : {k : ℕ} → Heads heap es top head k []ₜ
  one_head : {k : ℕ} {c : Symbol} {us ts : Terms} → SymbolAt heap es top (head k) c → Heads heap es top head (k + 1) ts
      → Heads heap es top head k (node c us ∷ₜ ts)

-- A pattern's words rise.
mutual
  pub flat_rises : {heap : List ℕ} {es : Entries} {bound low high : ℕ} {vs : List Variable} {o o' : ℕ} {p : Pattern} → Flat heap es bound low high vs o p o'
      → o < o'
  flat_rises (flat_variable l u e n q) = omega arith
  flat_rises (flat_symbol l u x r) = omega (arith, flats_rise r)

  pub flats_rise : {heap : List ℕ} {es : Entries} {bound low high : ℕ} {vs : List Variable} {o o' : ℕ} {ps : Patterns} → Flats heap es bound low high vs o ps o'
      → o ≤ o'
  flats_rise no_flats = omega arith
  flats_rise (one_flat p r) = omega (arith, flat_rises p, flats_rise r)

-- A variable of the rule at e by its number.
pub data VariableIs (heap : List ℕ) (es : Entries) (e : ℕ) (vs : List Variable) (key : Name) (v : ℕ) : Variable → Type 0 where
  variable_is : {name s : Name} → name ≡ key → Nth vs v key → v < length vs → SortAt es (sort_of_variable heap e v) s
      → VariableIs heap es e vs key v (variable name s)

module _ {text heap : List ℕ} {es : Entries} {top : ℕ} {th : Theory} (h : Holds text heap es top th) where
  -- Found by its bytes, wherever they stand: what the definition finds, or none.
  pub constructor_found_lem : (key : Name) → Agree (SymbolAt heap es top) (constructor_found heap text key) (first (is_constructor key) th.symbols)
  unfolding constructor_found
  constructor_found_lem key = find_agrees is_constructor (SymbolAt heap es top) key h.constructors.table h.constructors.stands

  pub predicate_found_lem : (key : Name) → Agree (SymbolAt heap es top) (predicate_found heap text key) (first (is_predicate key) th.symbols)
  unfolding predicate_found
  predicate_found_lem key = find_agrees is_predicate (SymbolAt heap es top) key h.predicates.table h.predicates.stands

  pub rule_found_lem : (key : Name) → Agree (RuleAt text heap es top) (rule_found heap text key) (first (is_rule key) th.rules)
  unfolding rule_found
  rule_found_lem key = find_agrees is_rule (RuleAt text heap es top) key h.rules.table h.rules.stands

  -- The same with the refusal of what is unknown, 12.
  pub constructor_due_lem : (key : Name) → Answers (SymbolAt heap es top) (outcomes.or_else (constructor_found heap text key) 12) (constructor th key)
  unfolding constructor
  constructor_due_lem key = sought (constructor_found_lem key)

  pub predicate_due_lem : (key : Name) → Answers (SymbolAt heap es top) (outcomes.or_else (predicate_found heap text key) 12) (predicate th key)
  unfolding predicate
  predicate_due_lem key = sought (predicate_found_lem key)

  pub rule_due_lem : (key : Name) → Answers (RuleAt text heap es top) (outcomes.or_else (rule_found heap text key) 12) (rule_named th key)
  unfolding rule_named
  rule_due_lem key = sought (rule_found_lem key)

  -- A symbol's words.
  module _ {a : ℕ} {c : Symbol} (x : SymbolAt heap es top a c) where
    pub output_is : OutputAt es (output_of heap a) (output c)
    unfolding output_of
    output_is = symbol_output h x

    -- Whether a term has a sort, by its head.
    pub has_sort_lem : {b : ℕ} {s : Name} (ts : Terms) → SortAt es b s → eqb (output_of heap a) b ≡ has_sort s (node c ts)
    unfolding has_sort
    has_sort_lem ts m = same_output_lem h output_is (sort_output m)

  -- Whether an argument has its input's sort, by its head.
  pub fits_is : {a b : ℕ} (c k : ℕ) {d : Symbol} {s : Name} (us : Terms) → SymbolAt heap es top a d → b ≡ input_of heap c k → SortAt es b s
      → fits_input heap a c k ≡ has_sort s (node d us)
  unfolding fits_input
  fits_is c k us x e m = rw (← e) (has_sort_lem x us m)

  input_word : (c k : ℕ) {o : ℕ} → o ≡ c + places.inputs + k → get_or heap o 0 ≡ input_of heap c k
  unfolding input_of
  input_word c k e = rw e

  all_fit_lem : {head : ℕ → ℕ} (c : ℕ) {o k : ℕ} {ss : List Name} {ts : Terms} → o ≡ c + places.inputs + k → length ss ≡ width ts → SortsAt heap es o ss
      → Heads heap es top head k ts
      → all_fit head heap c (width ts) k ≡ accepts ss ts
  unfolding all_fit accepts width
  all_fit_lem c e n no_sorts no_heads = refl
  all_fit_lem c e n no_sorts (one_head x r) = absurd (omega arith)
  all_fit_lem c e n (one_sort m q) no_heads = absurd (omega arith)
  all_fit_lem {head} c {o} {k} e n (one_sort {s} {ss} m q) (one_head {c = d} {us} {ts} x r) =
      rw (fits_is c k us x (input_word c k e) m, all_fit_lem c (omega arith) (omega arith) q r)
      (both (has_sort s (node d us))) where
        both : (b : Bool) → outcomes.pick b (λ _. accepts ss ts) (λ _. false) ≡ (b && accepts ss ts)
        both true = refl
        both false = refl

  accepted_by : (head : ℕ → ℕ) (a m n : ℕ) {b : Bool} → arity_of heap a ≡ m → eqb m n ≡ b
      → accepted head heap a n ≡ outcomes.pick b (λ _. all_fit head heap a n 0) (λ _. false)
  unfolding accepted
  accepted_by head a m n e f =
      ap (λ (x : Bool). outcomes.pick x (λ _. all_fit head heap a n 0) (λ _. false)) (ap (λ (k : ℕ). eqb k n) e ∙ f)

  -- "Arity and sorts", by the heads of the arguments.
  pub accepts_is : {head : ℕ → ℕ} {a : ℕ} {c : Symbol} {ts : Terms} → SymbolAt heap es top a c → Heads heap es top head 0 ts
      → accepted head heap a (width ts) ≡ accepts (inputs c) ts
  unfolding inputs arity_of
  accepts_is {head} {a} {ts} (symbol_at_lem {ins} w) r =
      by_number (length ins) (width ts)
      (λ e. accepted_by head a (length ins) (width ts) w.arity (eq-eqb (length ins) (width ts) e) ∙ all_fit_lem a (omega arith) e w.takes r)
      (λ n. accepted_by head a (length ins) (width ts) w.arity (ne_eqb (length ins) (width ts) n) ∙ sym (accepts_uneven ins ts n))

  -- A rule's words: how many premises and variables it has, and where its variables stand.
  pub premise_count_is : {e : ℕ} {r : Rule} → RuleAt text heap es top e r → premise_count heap e ≡ length (premises_of r)
  unfolding premises_of premise_count
  premise_count_is (rule_at w) = w.premise_count_lem

  pub variable_count_is : {e : ℕ} {r : Rule} → RuleAt text heap es top e r → variable_count heap e ≡ length (variables_of r)
  unfolding variables_of variable_count
  variable_count_is (rule_at w) = w.variable_count_lem

  pub variables_are : {e : ℕ} {r : Rule} → RuleAt text heap es top e r → VariablesAt text heap es (variables_place heap e) (variables_of r)
  unfolding variables_of variables_place
  variables_are (rule_at w) = rw w.to_variables w.at_variables

  -- Bindings have room from word 12,288 on. What keeps the words below keeps the theory.
  pub bindings_fit : {e : ℕ} {r : Rule} → top ≤ places.theory_end → RuleAt text heap es top e r → places.bindings + length (variables_of r) ≤ 16384
  unfolding variables_of
  bindings_fit t (rule_at w) = let l = w.low in let u = w.rising in let k = w.high in omega arith

  pub holds_now : top ≤ places.theory_end → {now : List ℕ} → Keeps places.bindings heap now → Holds text now es top th
  holds_now t k = holds_kept (keeps_less (omega arith) k) (omega arith) h

  -- A variable of the rule by its bytes.
  is_placed : {e : ℕ} {vs : List Variable} {key : Name} {o : Option ℕ} {p : Option Variable} → Agree (Placed heap es (variables_place heap e) 0 vs key) o p
      → Agree (VariableIs heap es e vs key) o p
  unfolding sort_of_variable
  is_placed both_none = both_none
  is_placed {vs} (both_some {e = v} (placed {k} q n m a)) =
      let z : k ≡ v = omega arith in
      let l = nth_below vs m in
      both_some (variable_is n (rw z at m) (omega arith) a)

  pub variable_found_lem : {e : ℕ} {r : Rule} (key : Name) → RuleAt text heap es top e r
      → Agree (VariableIs heap es e (variables_of r) key) (variable_found heap text e key) (first (is_variable key) (variables_of r))
  unfolding variable_found
  variable_found_lem {e} key x =
      rw (variable_count_is x)
      (is_placed (variables_from text heap (variables_place heap e) key 0 (omega arith) (variables_are x)))
