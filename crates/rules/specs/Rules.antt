-- Declarations of rules: what each function answers, and what it leaves of the variables and of the theory.
use Rattle.std.specs.Prelude.{ℕ, ◌+◌, ◌*◌, ◌%◌, not, List, set}
use Rattle.items.specs.Places as places
use Rattle.outcomes.specs.Outcomes.{Outcome, ok, refused, need}
use Rattle.outcomes.specs.Outcomes as outcomes
use Rattle.outcomes.specs.Leaving.{Did, ◌leaving◌, ◌>>=◌, beside}
use Rattle.words.specs.Parts.{copied}
use Rattle.words.specs.Sums.{sum32}
use Rattle.items.specs.Items.{with_top, list_due, closing_due, question}
use Rattle.patterns.specs.Below.variables.specs.Variables.{Areas}
use Rattle.patterns.specs.Patterns.{judgment, judgments}
use Rattle.items.specs.declared.Walk.{Walk}
use Rattle.symbols.specs.Symbols.{entered}
use Rattle.rule_names.specs.RuleNames.{name_kept}
use Rattle.rule_names.specs.declared.RuleName.{RuleName}
use Rattle.rule_names.specs.declared.RuleName.TheVariants as rule_names

-- "N or S as a list is 7, with a leading `?` 11".
abbrev pub name_judged : List ℕ → RuleName → Outcome (ℕ × ℕ)
name_judged text (rule_names.Atom s t) = outcomes.◌>>=◌ (need (not (question text s)) 11) (λ _. ok (s, t))
name_judged text rule_names.List = refused 7

-- A walk before a rule's patterns, which stand behind seven words of its entry.
unfoldable pub begun : Walk → Walk
begun w = record { reader = w.reader; opened = w.opened; top = sum32 w.top places.patterns; variables = 0 }

-- "Premises left to right, conclusion", with the number of premises and the place of the conclusion's words.
unfoldable pub body_read : List ℕ → List ℕ → Walk → List ℕ → List ℕ → Did Areas (ℕ × ℕ × Walk)
body_read text counts w vars heap = do
  ((n, q), (vars, heap)) ← list_due text counts w leaving (vars, heap)
  (p, (vars, heap)) ← judgments n text counts q vars heap
  (o, (vars, heap)) ← judgment text counts p vars heap
  ok (n, p.top, o) leaving (vars, heap)

-- The four words behind a rule's name: how many premises and variables it has, and where its conclusion and its variables stand.
unfoldable pub rule_described : ℕ → ℕ → ℕ → ℕ → ℕ → List ℕ → List ℕ
rule_described e premises variables conclusion place heap =
    set (set (set (set heap (e + places.premise_count) premises) (e + places.variable_count) variables) (e + places.conclusion) conclusion)
    (e + places.variables) place

-- The rule's variables stored behind its patterns.
unfoldable pub variables_stored : Walk → List ℕ → List ℕ → Did (List ℕ) Walk
variables_stored w vars heap =
    ok (with_top w ((w.top + places.variable_words * w.variables) % 4294967296)) leaving copied heap w.top vars 0 (places.variable_words * w.variables)

-- A rule's entry, then the closing of its declaration.
unfoldable pub rule_entered : List ℕ → ℕ → ℕ → ℕ → ℕ → ℕ → Walk → List ℕ → List ℕ → Did (List ℕ) Walk
rule_entered text e s t n conclusion w vars heap = do
  (q, heap) ← entered text places.rules e s t w heap
  (q, heap) ← variables_stored q vars (rule_described e n q.variables conclusion q.top heap)
  closing_due text q leaving heap

-- "`(rule N (J...) J)`: premises left to right, conclusion, N, duplicate."
unfoldable pub rule_declared : List ℕ → List ℕ → Walk → List ℕ → List ℕ → Did Areas Walk
rule_declared text counts w vars heap = do
  ((name, q), (vars, heap)) ← name_kept text counts w leaving (vars, heap)
  ((n, conclusion, q), (vars, heap)) ← body_read text counts (begun q) vars heap
  ((s, t), (vars, heap)) ← name_judged text name leaving (vars, heap)
  beside vars (rule_entered text w.top s t n conclusion q vars heap)
