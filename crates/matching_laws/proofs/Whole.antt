-- The matching of a step at 01's limits, where the table holds the goals, abbreviations and steps so far. Assumes nothing.
use mathlib.Core.Path.{◌≡◌}
use mathlib.Core.List.{List}
use mathlib.Core.Option.{Option}
use Prim.Native.Nat.{ℕ, ◌≤◌}
use native.Mathlib.Omega.{arith}
use lib.ListN.{length}
use Rattle.numerals.specs.Below.horn.specs.Setting.{document01}
use Rattle.numerals.specs.Below.horn.specs.Rulebook.{Rule, Theory, premises_of, variables_of}
use Rattle.numerals.specs.Below.horn.specs.StoredTerms.{Term, Store}
use Rattle.numerals.specs.Below.horn.specs.Checker.{Def, Goal}
use Rattle.numerals.specs.Below.horn.specs.Matching.{Bind, Step, judgment_of}
use Rattle.numerals.specs.Below.horn.specs.Certificate.{Witness, given, conclude}
use Rattle.nodes.specs.Below.arena.proofs.Settings.{limits_01}
use Rattle.nodes.specs.Below.items.specs.Places as layout
use Rattle.concluding.specs.Below.theory_laws.specs.Representation.{Entries, RuleAt, Holds}
use Rattle.concluding.specs.Below.outcomes.specs.Simulation.{Simulates}
use Rattle.concluding.specs.Below.theory_laws.proofs.Frames.{Keeps}
use Rattle.nodes.specs.Below.theory_reading.proofs.Stored.{Stored, Means}
use Rattle.concluding.specs.Below.tables.specs.declared.Tally.{Tally}
use Rattle.concluding.specs.Below.tables.specs.Representation.{Tables}
use Rattle.nodes.specs.Limits.{node_limit, word_limit, index_places, def_buckets}
use Rattle.concluding.specs.Concluding.{step_concluded}
use Rattle.matching_laws.proofs.Relations.{Bound, Binds, ReferencesAt}
use Rattle.matching_laws.proofs.Formed.{RuleReady}
use Rattle.matching_laws.proofs.Starting.{narrow_01, steps_at}
use Rattle.matching_laws.proofs.Concluding.{ConcludedTo, step_concluded_lem}

-- `heap` is the theory's area as the rulebook left it, `now` the same with the bindings of the step.
pub step_judged : {rules heap : List ℕ} {es : Entries} {top : ℕ} {th : Theory} → Holds rules heap es top th → top ≤ layout.theory_end
    → {goals_text certificate table : List ℕ} {Recorded : ℕ → ℕ → ℕ → ℕ → Step → Type 0} {tally : Tally} {goals open_goals : List Goal} {defs : List Def}
    {steps : List Step} {results : List Witness} {ts : Store}
    → Tables goals_text certificate table def_buckets (Means es th ts) Recorded tally goals open_goals defs steps results
    → ((j r p q : ℕ) (s : Step) → Recorded j r p q s → Means es th ts j (judgment_of s))
    → {store stack : List ℕ} → Stored es th document01 index_places store ts → length stack ≡ 16384
    → {e : ℕ} {r : Rule} → RuleAt rules heap es top e r → RuleReady r
    → {refs : List ℕ} → ReferencesAt stack 0 refs → length refs ≡ length (premises_of r)
    → {now : List ℕ} {binds : List Bind} → Keeps layout.bindings heap now → Binds es th ts (variables_of r) now binds
    → {word : ℕ} {stated : Option Term} → Bound es th ts word stated
    → Simulates (ConcludedTo es th heap document01 index_places ts) (step_concluded node_limit word_limit index_places table tally.steps e word stack store now)
    (conclude document01 th steps r refs (given binds stated) ts)
unfolding document01
step_judged h high t judged st long a ready at_refs count keep bs b =
    rw t.steps_is
    (step_concluded_lem h (omega arith) document01 narrow_01 limits_01 st long (steps_at judged t.small t.step_part) at_refs keep a ready count bs b)
