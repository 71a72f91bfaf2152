-- Where the laws start: 01's limits, the rules of the rulebook that was read, and the steps that the table holds. Assumes nothing.
use mathlib.Core.Path.{◌≡◌}
use mathlib.Core.List.{List}
use Prim.Native.Nat.{ℕ, ◌<◌}
use native.Mathlib.Omega.{arith}
use lib.Dec.{lit<}
use lib.ListN.{length}
use Rattle.numerals.specs.Below.horn.specs.Refusals.{ok}
use Rattle.numerals.specs.Below.horn.specs.Setting.{document01}
use Rattle.numerals.specs.Below.horn.specs.Names.{Name}
use Rattle.numerals.specs.Below.horn.specs.Rulebook.{Rule, Theory, is_rule, rule_named}
use Rattle.numerals.specs.Below.horn.proofs.Equality.{first-some}
use Rattle.numerals.specs.Below.horn.proofs.Inversion.{was_found_lem}
use Rattle.numerals.specs.Below.horn.proofs.SoundnessWords.{WellFormed}
use Rattle.numerals.specs.Below.horn.specs.StoredTerms.{Store}
use Rattle.numerals.specs.Below.horn.specs.Matching.{Step, judgment_of}
use Rattle.concluding.specs.Below.theory_laws.specs.Representation.{Entries}
use Rattle.nodes.specs.Below.theory_reading.proofs.Stored.{Means}
use Rattle.concluding.specs.Below.tables.specs.Representation.{StepAt, Steps}
use Rattle.concluding.specs.Concluding.{step_judgment}
use Rattle.matching_laws.proofs.Relations.{StepsAt}
use Rattle.matching_laws.proofs.Formed.{RuleReady, rule_ready}

pub narrow_01 : document01.nodes < 4294967295
unfolding document01
narrow_01 = lit< tt

-- The rule that the definition finds by a name.
pub named_ready : {th : Theory} → WellFormed th → (key : Name) {r : Rule} → rule_named th key ≡ ok r → RuleReady r
unfolding rule_named
named_ready {th} w key {r} e = was_found_lem _ _ e λ p. rule_ready (w.formed r (first-some (is_rule key) th.rules p).0)

-- The steps of the table, whatever else is recorded of them.
pub steps_at : {es : Entries} {th : Theory} {ts : Store} {table : List ℕ} {steps : List Step} {Recorded : ℕ → ℕ → ℕ → ℕ → Step → Type 0}
    → ((j r p q : ℕ) (s : Step) → Recorded j r p q s → Means es th ts j (judgment_of s))
    → length table < 4294967296
    → Steps table Recorded steps
    → StepsAt es th ts table steps
unfolding StepAt step_judgment
steps_at f small s =
    let k = s.inside in
    record { few = omega arith; each = λ i x e. f _ _ _ _ x (s.words i x e) }
