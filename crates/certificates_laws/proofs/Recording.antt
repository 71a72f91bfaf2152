-- "(step I R (I...) item...)": the step that was read and judged is recorded. Assumes nothing.
use Prim.Native.Nat.{ℕ}
use mathlib.Core.Path.{◌≡◌, ap, ◌∙◌}
use mathlib.Core.List.{List}
use Rattle.certificates.specs.Below.horn.specs.Refusals.{ok}
use Rattle.certificates.specs.Below.horn.specs.Setting.{document01}
use Rattle.certificates.specs.Below.horn.specs.NestedLists.{Item, Items, ◌then◌}
use Rattle.certificates.specs.Below.horn.specs.Rulebook.{Theory}
use Rattle.certificates.specs.Below.horn.specs.StoredTerms.{Store}
use Rattle.certificates.specs.Below.horn.specs.Checker.{Goal}
use Rattle.certificates.specs.Below.horn.specs.Matching.{step, judgment_of, rule_of, references_of}
use Rattle.certificates.specs.Below.horn.specs.Certificate as definition
use Rattle.certificates.specs.Below.horn.specs.Certificate.{Progress, with_step}
use Rattle.certificates.specs.Below.lex.specs.declared.Reader.{Reader}
use Rattle.certificates.specs.Below.outcomes.specs.Simulation.{Simulates, leave, knowing}
use Rattle.certificates.specs.Below.theory_laws.specs.Representation.{Entries}
use Rattle.certificates.specs.Below.theory_reading.proofs.Stored.{Means}
use Rattle.certificates.specs.Below.tables.specs.declared.Tally.{Tally}
use Rattle.certificates.specs.Below.tables.proofs.Phases.{next_step}
use Rattle.steps_laws.specs.Below.asking_laws.proofs.Places.{RestComes, Any}
use Rattle.certificates.specs.Below.nodes.specs.Limits.{def_buckets}
use Rattle.certificates.specs.Below.steps.specs.Steps as steps
use Rattle.steps_laws.proofs.Whole.{StepRead}
use Rattle.certificates.specs.Certificates as walk
use Rattle.steps_laws.specs.Below.terms_laws.proofs.Following.{giving_before}
use Rattle.certificates_laws.proofs.Standing.{SoFar, Standing, StepRecorded, between_longer}

module _ {rules heap : List ℕ} {es : Entries} {bound : ℕ} {th : Theory} (goals_text certificate : List ℕ) {goals : List Goal} {tally : Tally} (now : Progress)
    {ts : Store} {table : List ℕ} (store stack live : List ℕ) where
  -- From what was read of it.
  pub step_form_law : (item : Item) (rest is : Items) (r : Reader)
      → SoFar rules heap es bound th goals_text certificate goals ts table tally now (item then rest)
      → definition.certificate_form document01 th now item ts ≡ definition.step_form document01 th now is ts
      → Simulates (StepRead rules heap es bound th certificate ts now (RestComes rest Any))
      (steps.step certificate rules table tally.steps r store stack live)
      (definition.step_form document01 th now is ts)
      → Simulates (Standing rules heap es bound th goals_text certificate goals rest) (walk.step_form certificate rules tally r store stack live table)
      (definition.step_form document01 th now is ts)
  unfolding walk.step_form judgment_of rule_of references_of
  step_form_law item rest is r so_far same read =
      giving_before table _ (knowing read) (λ x areas y p.
      let k = p.0 in
      let e : definition.certificate_form document01 th now item ts
      ≡ ok (with_step now (step k.judgment k.rule k.references), y.1)
      = same ∙ p.1 ∙ ap (λ (n : Progress). ok (n, y.1)) k.progress in
      leave record {
        reader = k.reader;
        between =
            rw k.progress
            (next_step goals_text certificate 8192 32768 def_buckets (Means es th y.1) (StepRecorded rules heap es bound th certificate y.1) document01 th
            ts
            (between_longer k.grown so_far) x.0 x.1 x.2 x.3 (step k.judgment k.rule k.references) e k.small k.small_tested
            record { means = k.means; by_rule = k.by_rule; listed = k.listed });
        stored = k.stored;
        long = k.long;
        keeps = k.keeps;
      })
