-- Terms, judgments and goals as they are written, "without abbreviations": for the words of demand 3 and for the layout of
-- its converse. Nothing is read here, and no store and no limit is met.
use Rattle.horn.specs.Names.{Name, codes}
use Rattle.horn.specs.NestedLists.{Sexp, leaf, list, Sexps, []ₛ, ◌∷ₛ◌}
use Rattle.horn.specs.Rulebook.{Symbol, symbol}
use Rattle.horn.specs.StoredTerms.{Term, node, Terms, []ₜ, ◌∷ₜ◌}
use Rattle.horn.specs.Checker.{Goal, goal}

-- The name of a symbol.
unfoldable pub symbol_name : Symbol → Name
symbol_name (symbol name ins out) = name

-- A name before its arguments: an atom where there is none, and a list otherwise. So a constant is an atom, any other term a list.
unfoldable pub constant_or : Name → Sexps → Sexp
constant_or name []ₛ = leaf name
constant_or name (x ∷ₛ xs) = list (leaf name ∷ₛ x ∷ₛ xs)

-- A term as it is written.
unfoldable mutual
  pub term_sexp : Term → Sexp
  term_sexp (node c ts) = constant_or (symbol_name c) (term_sexps ts)

  -- The same of arguments.
  pub term_sexps : Terms → Sexps
  term_sexps []ₜ = []ₛ
  term_sexps (t ∷ₜ ts) = term_sexp t ∷ₛ term_sexps ts

-- A judgment as it is written: a list, even without arguments.
unfoldable pub judgment_sexp : Term → Sexp
judgment_sexp (node c ts) = list (leaf (symbol_name c) ∷ₛ term_sexps ts)

-- "`(goal N J)`": the form of a goal.
unfoldable pub goal_sexp : Goal → Sexp
goal_sexp (goal name j) = list (leaf (codes "goal") ∷ₛ leaf name ∷ₛ judgment_sexp j ∷ₛ []ₛ)
