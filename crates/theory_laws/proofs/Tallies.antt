-- How many are declared: the walk's counts are those of the definition's theory. Assumes nothing.
use mathlib.Core.Path.{◌≡◌, refl, ap}
use mathlib.Core.List.{List, [], ◌∷◌, ◌++◌}
use Prim.Native.Nat.{ℕ, suc, ◌+◌, ◌≤◌, ◌<◌}
use native.Mathlib.Omega.{arith}
use lib.ListN.{length, length-append}
use Rattle.capacity.specs.Below.horn.specs.Refusals.{ok}
use Rattle.capacity.specs.Below.horn.specs.Names.{Name}
use Rattle.capacity.specs.Below.horn.specs.NestedLists.{Sexp}
use Rattle.capacity.specs.Below.horn.specs.Rulebook as definition
use Rattle.capacity.specs.Below.horn.specs.Rulebook.{sort, judgment, Symbol, symbol, Rule, Theory, with_symbol, empty_theory}
use Rattle.capacity.specs.Below.horn.specs.Calls.{constructor_count, predicate_count}
use Rattle.capacity.specs.Below.horn.proofs.Inversion.{afterᵣ, after_needᵣ, ok_equal}
use Rattle.theory.specs.Declarations.{counted, no_counts}
use Rattle.theory.specs.declared.Counts.{Counts}
use Rattle.theory.specs.declared.Form.{Form}
use Rattle.theory.specs.declared.Form.TheVariants as forms
use Rattle.theory.specs.Below.words.proofs.Sums.{sum_small}

abbrev pub tally : Theory → Counts
tally th = record {
  sorts = length th.sorts;
  constructors = constructor_count th.symbols;
  predicates = predicate_count th.symbols;
  rules = length th.rules;
}

-- All that are declared.
abbrev pub total : Counts → ℕ
total c = c.sorts + c.constructors + c.predicates + c.rules

-- One more of a form.
pub one_more : Counts → Form → Counts
one_more c forms.Sort = record { sorts = c.sorts + 1; constructors = c.constructors; predicates = c.predicates; rules = c.rules }
one_more c forms.Constructor = record { sorts = c.sorts; constructors = c.constructors + 1; predicates = c.predicates; rules = c.rules }
one_more c forms.Predicate = record { sorts = c.sorts; constructors = c.constructors; predicates = c.predicates + 1; rules = c.rules }
one_more c forms.Rule = record { sorts = c.sorts; constructors = c.constructors; predicates = c.predicates; rules = c.rules + 1 }
one_more c forms.Other = c

pub one_counted : (c : Counts) (f : Form) → total c < 4294967295 → counted c f ≡ one_more c f
unfolding one_more
one_counted c forms.Sort h = rw (sum_small c.sorts 1 (omega arith))
one_counted c forms.Constructor h = rw (sum_small c.constructors 1 (omega arith))
one_counted c forms.Predicate h = rw (sum_small c.predicates 1 (omega arith))
one_counted c forms.Rule h = rw (sum_small c.rules 1 (omega arith))
one_counted c forms.Other h = refl

pub one_total : (c : Counts) (f : Form) → total (one_more c f) ≤ total c + 1
unfolding one_more
one_total c forms.Sort = omega arith
one_total c forms.Constructor = omega arith
one_total c forms.Predicate = omega arith
one_total c forms.Rule = omega arith
one_total c forms.Other = omega arith

pub none_counted : no_counts ≡ tally empty_theory
unfolding no_counts empty_theory constructor_count predicate_count
none_counted = refl

pub none_total : total (tally empty_theory) ≡ 0
unfolding empty_theory constructor_count predicate_count
none_total = refl

module _ (name : Name) (ins : List Name) where
  constructors_more : (s : Name) (cs : List Symbol) → constructor_count (cs ++ (symbol name ins (sort s) ∷ [])) ≡ constructor_count cs + 1
  unfolding constructor_count
  constructors_more s [] = refl
  constructors_more s (symbol n is (sort o) ∷ cs) = let h = constructors_more s cs in omega arith
  constructors_more s (symbol n is judgment ∷ cs) = constructors_more s cs

  constructors_same : (cs : List Symbol) → constructor_count (cs ++ (symbol name ins judgment ∷ [])) ≡ constructor_count cs
  unfolding constructor_count
  constructors_same [] = refl
  constructors_same (symbol n is (sort o) ∷ cs) = ap suc (constructors_same cs)
  constructors_same (symbol n is judgment ∷ cs) = constructors_same cs

  predicates_more : (cs : List Symbol) → predicate_count (cs ++ (symbol name ins judgment ∷ [])) ≡ predicate_count cs + 1
  unfolding predicate_count
  predicates_more [] = refl
  predicates_more (symbol n is (sort o) ∷ cs) = predicates_more cs
  predicates_more (symbol n is judgment ∷ cs) = let h = predicates_more cs in omega arith

  predicates_same : (s : Name) (cs : List Symbol) → predicate_count (cs ++ (symbol name ins (sort s) ∷ [])) ≡ predicate_count cs
  unfolding predicate_count
  predicates_same s [] = refl
  predicates_same s (symbol n is (sort o) ∷ cs) = predicates_same s cs
  predicates_same s (symbol n is judgment ∷ cs) = ap suc (predicates_same s cs)

module _ (th : Theory) {next : Theory} where
  pub sort_tally : (n : Sexp) → definition.declare_sort th n ≡ ok next → tally next ≡ one_more (tally th) forms.Sort
  unfolding definition.declare_sort one_more
  sort_tally n e =
      afterᵣ _ e λ name e₁ e₂.
      after_needᵣ _ _ _ e₂ λ p e₃.
      rw (← ok_equal e₃, length-append th.sorts (name ∷ []))

  pub constructor_tally : (n is o : Sexp) → definition.declare_constructor th n is o ≡ ok next → tally next ≡ one_more (tally th) forms.Constructor
  unfolding definition.declare_constructor with_symbol one_more
  constructor_tally n is o e =
      afterᵣ _ e λ name e₁ e₂.
      afterᵣ _ e₂ λ xs e₃ e₄.
      afterᵣ _ e₄ λ ins e₅ e₆.
      afterᵣ _ e₆ λ out e₇ e₈.
      after_needᵣ _ _ _ e₈ λ p e₉.
      rw (← ok_equal e₉, constructors_more name ins out th.symbols, predicates_same name ins out th.symbols)

  pub predicate_tally : (n is : Sexp) → definition.declare_predicate th n is ≡ ok next → tally next ≡ one_more (tally th) forms.Predicate
  unfolding definition.declare_predicate with_symbol one_more
  predicate_tally n is e =
      afterᵣ _ e λ name e₁ e₂.
      afterᵣ _ e₂ λ xs e₃ e₄.
      afterᵣ _ e₄ λ ins e₅ e₆.
      after_needᵣ _ _ _ e₆ λ p e₇.
      rw (← ok_equal e₇, constructors_same name ins th.symbols, predicates_more name ins th.symbols)

  pub rule_tally : (n js j : Sexp) → definition.declare_rule th n js j ≡ ok next → tally next ≡ one_more (tally th) forms.Rule
  unfolding definition.declare_rule one_more
  rule_tally n js j e =
      afterᵣ _ e λ xs e₁ e₂.
      afterᵣ _ e₂ λ q e₃ e₄.
      afterᵣ _ e₄ λ r e₅ e₆.
      afterᵣ _ e₆ λ name e₇ e₈.
      after_needᵣ _ _ _ e₈ λ p e₉.
      rw (← ok_equal e₉, length-append th.rules (_ ∷ []))
