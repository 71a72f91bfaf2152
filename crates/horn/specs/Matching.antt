-- "Goals, steps, results" in document 01, its second part: matching a rule's patterns, and building its conclusion.
use Rattle.std.specs.Prelude.{ℕ, true, false, List, [], ◌∷◌, ◌++◌}
use Rattle.std.proofs.Math.Option.{Option, none, some}
use Rattle.std.proofs.Math.ListN.{get_elem?}
use Rattle.horn.specs.Refusals.{Result, ok, refused, found, ◌>>=◌ as ◌>>=ᵣ◌}
use Rattle.horn.specs.Refusals.{reference_count, no_such_step, bad_premise, unbound}
use Rattle.horn.specs.Setting.{Setting}
use Rattle.horn.specs.Names.{Name, named}
use Rattle.horn.specs.Rulebook.{same_symbol, Pattern, var, app, Patterns, []ₚ, ◌∷ₚ◌, Rule}
use Rattle.horn.specs.StoredTerms.{Term, node, Terms, []ₜ, ◌∷ₜ◌, same_term}
use Rattle.horn.specs.Checker.{Reading, ◌>>=◌, give, lift, stored}

-- A step: the judgment that it concludes, the rule that its form names, and the steps that it refers to, by their numbers. No report looks at
-- the rule or the references that are kept here; the release page shows the rule and counts what the references lead to.
pub data Step : Type 0 where
  step : Term → Rule → List ℕ → Step

-- The judgment that a step concludes.
unfoldable pub judgment_of : Step → Term
judgment_of (step j r refs) = j

-- The rule that a step names.
unfoldable pub rule_of : Step → Rule
rule_of (step j r refs) = r

-- The steps that a step refers to.
unfoldable pub references_of : Step → List ℕ
references_of (step j r refs) = refs

-- A variable with the term that it is bound to.
pub data Bind : Type 0 where
  bind : Name → Term → Bind

-- The term that a variable is bound to, if it is.
unfoldable pub lookup : Name → List Bind → Option Term
lookup name [] = none
lookup name (bind n t ∷ bs) = elim (named name n) [ true ↦ some t | false ↦ lookup name bs ]

-- "A variable binds first and must be equal later."
unfoldable pub match_var : Name → Term → List Bind → Option Term → Option (List Bind)
match_var name t binds none = some (binds ++ (bind name t ∷ []))
match_var name t binds (some u) = elim (same_term t u) [ true ↦ some binds | false ↦ none ]

-- "Matching goes one level of the pattern at a time": a pattern against a term, under the bindings so far. A pattern and a
-- term of the same head have equally many arguments, so that the uneven cases are never met.
unfoldable mutual
  pub match : Pattern → Term → List Bind → Option (List Bind)
  match (var name) t binds = match_var name t binds (lookup name binds)
  match (app c ps) (node d ts) binds = elim (same_symbol c d) [ true ↦ matches ps ts binds | false ↦ none ]

  -- The same of arguments, left to right, each under the bindings that those before it have left.
  pub matches : Patterns → Terms → List Bind → Option (List Bind)
  matches []ₚ []ₜ binds = some binds
  matches []ₚ (t ∷ₜ ts) binds = none
  matches (p ∷ₚ ps) []ₜ binds = none
  matches (p ∷ₚ ps) (t ∷ₜ ts) binds = elim (match p t binds) [ none ↦ none | some more ↦ matches ps ts more ]

-- "For each premise in order, no earlier step 24, mismatch 25". There are as many references as premises, so that the uneven cases
-- are never met.
unfoldable pub match_premises : List Step → List Pattern → List ℕ → List Bind → Result (List Bind)
match_premises steps [] [] binds = ok binds
match_premises steps [] (n ∷ ns) binds = refused reference_count
match_premises steps (p ∷ ps) [] binds = refused reference_count
match_premises steps (p ∷ ps) (n ∷ ns) binds =
    found (get_elem? steps n) no_such_step >>=ᵣ λ s.
    found (match p (judgment_of s) binds) bad_premise >>=ᵣ λ more.
    match_premises steps ps ns more

-- "With none stated the conclusion is built left to right, each node stored after its arguments, unbound variable 26."
unfoldable mutual
  pub build : Setting → List Bind → Pattern → Reading Term
  build limits binds (var name) = lift (found (lookup name binds) unbound)
  build limits binds (app c ps) = do
    ts ← builds limits binds ps
    stored limits (node c ts)

  -- The arguments of a node, "left to right".
  pub builds : Setting → List Bind → Patterns → Reading Terms
  builds limits binds []ₚ = give []ₜ
  builds limits binds (p ∷ₚ ps) = do
    t ← build limits binds p
    ts ← builds limits binds ps
    give (t ∷ₜ ts)
