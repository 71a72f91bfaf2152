-- The variables of a rule: what each function answers, and what it leaves of them and of the theory.
use Rattle.std.specs.Prelude.{ℕ, zero, suc, ◌+◌, ◌*◌, ◌-◌, ◌%◌, not, List, eqb, get_or, set}
use Rattle.std.proofs.Math.Option.{Option, none, some}
use Rattle.words.specs.Parts.{part, same_bytes}
use Rattle.items.specs.Places as places
use Rattle.outcomes.specs.Outcomes.{need, pick}
use Rattle.outcomes.specs.Leaving.{Did, ◌leaving◌, ◌>>=◌, beside}
use Rattle.words.specs.Sums.{sum32}
use Rattle.items.specs.Items.{pushed}
use Rattle.items.specs.declared.Walk.{Walk}

-- A rule's variables and the theory.
abbrev pub Areas : Type 0
Areas = List ℕ × List ℕ

-- The name of a rule's variable. The words of the variables stand from `place` on.
unfoldable pub name_of_variable : List ℕ → List ℕ → ℕ → ℕ → List ℕ
name_of_variable area text place v = part (get_or area (place + places.variable_words * v) 0) (get_or area (place + places.variable_words * v + 1) 0) text

-- The first variable that has the name `key`, from the i-th on.
unfoldable pub variable_from : ℕ → List ℕ → List ℕ → ℕ → List ℕ → ℕ → Option ℕ
variable_from zero area text place key i = none
variable_from (suc left) area text place key i =
    pick (same_bytes (name_of_variable area text place i) key)
    (λ _. some i)
    (λ _. variable_from left area text place key (i + 1))

-- The word for a variable in a pattern.
unfoldable pub variable_word : ℕ → ℕ
variable_word v = sum32 places.variable v

-- A new variable's three words.
unfoldable pub with_variable : List ℕ → ℕ → ℕ → ℕ → ℕ → List ℕ
with_variable vars v s t sort =
    set (set (set vars (places.variable_words * v) (s % 4294967296)) (places.variable_words * v + 1) (t % 4294967296)) (places.variable_words * v + 2) sort

abbrev pub one_variable : Walk → Walk
one_variable w = record { reader = w.reader; opened = w.opened; top = w.top; variables = sum32 w.variables 1 }

-- A variable met for the first time "takes its place's sort".
unfoldable pub introduced : ℕ → ℕ → ℕ → Walk → List ℕ → List ℕ → Did Areas Walk
introduced s t sort w vars heap =
    beside (with_variable vars w.variables s t sort) (pushed (variable_word w.variables) (one_variable w) heap)

-- "At another sort is 14."
unfoldable pub met_again : ℕ → ℕ → Walk → List ℕ → List ℕ → Did Areas Walk
met_again v sort w vars heap = do
  _ ← need (eqb (get_or vars (places.variable_words * v + 2) 0) sort) 14 leaving (vars, heap)
  beside vars (pushed (variable_word v) w heap)

abbrev pub variable_at : Option ℕ → ℕ → ℕ → ℕ → Walk → List ℕ → List ℕ → Did Areas Walk
variable_at none s t sort w vars heap = introduced s t sort w vars heap
variable_at (some v) s t sort w vars heap = met_again v sort w vars heap

-- "In a term, `?` alone is 11; `?v` takes its place's sort, and at another sort is 14."
unfoldable pub variable_pattern : List ℕ → ℕ → ℕ → ℕ → Walk → List ℕ → List ℕ → Did Areas Walk
variable_pattern text s t sort w vars heap = do
  _ ← need (not (eqb (t - s) 1)) 11 leaving (vars, heap)
  variable_at (variable_from w.variables vars text 0 (part s t text) 0) s t sort w vars heap
