-- What each function answers, for any words.
use Rattle.std.specs.Prelude.{ℕ, zero, suc, ◌+◌, ◌*◌, Bool, true, false, List, eqb, get_or}
use Rattle.std.proofs.Math.Option.{Option}
use Rattle.names.specs.Chains.{found}
use Rattle.items.specs.Places as places
use Rattle.items.specs.Below.outcomes.specs.Outcomes.{pick}
use Rattle.words.specs.Sums.{sum32}
use Rattle.variables.specs.Variables.{variable_from}
use Rattle.theory_reading.specs.declared.Section.{Section}
use Rattle.theory_reading.specs.declared.Section.TheVariants as sections

-- The address of the symbol or rule that has the name `key`; names of the rulebook stand in `text`.
unfoldable pub constructor_found : List ℕ → List ℕ → List ℕ → Option ℕ
constructor_found heap text key = found heap places.constructors places.buckets text key

unfoldable pub predicate_found : List ℕ → List ℕ → List ℕ → Option ℕ
predicate_found heap text key = found heap places.predicates places.buckets text key

unfoldable pub rule_found : List ℕ → List ℕ → List ℕ → Option ℕ
rule_found heap text key = found heap places.rules places.buckets text key

-- The same by what is looked for, and where its buckets begin.
abbrev pub section_found : Section → List ℕ → List ℕ → List ℕ → Option ℕ
section_found sections.Constructors heap text key = constructor_found heap text key
section_found sections.Predicates heap text key = predicate_found heap text key
section_found sections.Rules heap text key = rule_found heap text key

abbrev pub buckets_of : Section → ℕ
buckets_of sections.Constructors = places.constructors
buckets_of sections.Predicates = places.predicates
buckets_of sections.Rules = places.rules

-- The words of a symbol's entry.
unfoldable pub output_of : List ℕ → ℕ → ℕ
output_of heap c = get_or heap (c + places.output) 0

unfoldable pub arity_of : List ℕ → ℕ → ℕ
arity_of heap c = get_or heap (c + places.arity) 0

unfoldable pub input_of : List ℕ → ℕ → ℕ → ℕ
input_of heap c k = get_or heap (c + places.inputs + k) 0

unfoldable pub fits_input : List ℕ → ℕ → ℕ → ℕ → Bool
fits_input heap head c k = eqb (output_of heap head) (input_of heap c k)

-- "Arity and sorts": as many arguments as inputs, each of its input's sort, where `head` says the address of the k-th argument's head.
unfoldable pub all_fit : (ℕ → ℕ) → List ℕ → ℕ → ℕ → ℕ → Bool
all_fit head heap c zero k = true
all_fit head heap c (suc left) k = pick (fits_input heap (head k) c k) (λ _. all_fit head heap c left (k + 1)) (λ _. false)

unfoldable pub accepted : (ℕ → ℕ) → List ℕ → ℕ → ℕ → Bool
accepted head heap c n = pick (eqb (arity_of heap c) n) (λ _. all_fit head heap c n 0) (λ _. false)

-- The words of a rule's entry.
unfoldable pub premise_count : List ℕ → ℕ → ℕ
premise_count heap r = get_or heap (r + places.premise_count) 0

unfoldable pub variable_count : List ℕ → ℕ → ℕ
variable_count heap r = get_or heap (r + places.variable_count) 0

unfoldable pub premises_place : ℕ → ℕ
premises_place r = sum32 r places.patterns

unfoldable pub conclusion_place : List ℕ → ℕ → ℕ
conclusion_place heap r = get_or heap (r + places.conclusion) 0

unfoldable pub variables_place : List ℕ → ℕ → ℕ
variables_place heap r = get_or heap (r + places.variables) 0

unfoldable pub sort_of_variable : List ℕ → ℕ → ℕ → ℕ
sort_of_variable heap r v = get_or heap (variables_place heap r + places.variable_words * v + 2) 0

-- The variable that has the name `key`.
unfoldable pub variable_found : List ℕ → List ℕ → ℕ → List ℕ → Option ℕ
variable_found heap text r key = variable_from (variable_count heap r) heap text (variables_place heap r) key 0
