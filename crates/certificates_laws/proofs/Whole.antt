-- The certificate: its forms, and that no goal is left open. Assumes nothing.
use Prim.Native.Nat.{ℕ, ◌+◌, ◌≤◌}
use mathlib.Core.Path.{◌≡◌, refl, sym}
use mathlib.Core.List.{List}
use native.Mathlib.Omega.{arith}
use lib.Dec.{eqb}
use lib.ListN.{length}
use Rattle.certificates.specs.Below.horn.specs.Refusals.{number, goal_open}
use Rattle.certificates.specs.Below.horn.specs.Setting.{document01}
use Rattle.certificates.specs.Below.horn.specs.Tokens.{tokens}
use Rattle.certificates.specs.Below.horn.specs.NestedLists.{Items, items}
use Rattle.certificates.specs.Below.horn.specs.Rulebook.{Theory}
use Rattle.certificates.specs.Below.horn.specs.StoredTerms.{Store}
use Rattle.certificates.specs.Below.horn.specs.Checker as checker
use Rattle.certificates.specs.Below.horn.specs.Checker.{Goal}
use Rattle.certificates.specs.Below.horn.specs.Certificate as definition
use Rattle.certificates.specs.Below.horn.proofs.Counts.{few_items}
use Rattle.certificates.specs.Below.horn.proofs.SoundnessWords.{WellFormed}
use Rattle.certificates.specs.Below.lex.specs.Answers.{start}
use Rattle.certificates.specs.Below.outcomes.specs.Simulation.{Simulates, leave, bind}
use Rattle.certificates.specs.Below.items.specs.Places as places
use Rattle.certificates.specs.Below.theory_laws.specs.Representation.{Entries, Holds}
use Rattle.certificates.specs.Below.theory_laws.proofs.Frames.{Keeps}
use Rattle.certificates.specs.Below.theory_reading.proofs.Stored.{Stored, Means}
use Rattle.certificates.specs.Below.tables.specs.declared.Tally.{Tally}
use Rattle.certificates.specs.Below.tables.specs.Phases.{Gathering}
use Rattle.certificates.specs.Below.tables.proofs.Laws.{none_left}
use Rattle.certificates.specs.Below.tables.proofs.Phases.{first_form}
use Rattle.steps_laws.specs.Below.asking_laws.proofs.Places.{at_start}
use Rattle.certificates.specs.Below.nodes.specs.Limits.{index_places, def_buckets}
use Rattle.steps_laws.specs.Below.terms_laws.proofs.Judgments.{lifted}
use Rattle.certificates.specs.Certificates as walk
use Rattle.steps_laws.specs.Below.terms_laws.proofs.Following.{tested}
use Rattle.certificates_laws.proofs.Standing.{StepRecorded, Finished}
use Rattle.certificates_laws.proofs.Forms.{forms_law}

-- From where the goals were read.
pub certificate_law : {rules heap : List ℕ} {es : Entries} {bound : ℕ} {th : Theory} → Holds rules heap es bound th → bound ≤ places.theory_end → WellFormed th
    → (goals_text certificate : List ℕ) → length certificate ≤ 32768
    → {table : List ℕ} {tally : Tally} {goals : List Goal} {left : Items} {ts : Store}
    → Gathering goals_text certificate 8192 32768 def_buckets (Means es th ts) (StepRecorded rules heap es bound th certificate ts) table tally goals left
    → {store live : List ℕ} (stack : List ℕ) → Stored es th document01 index_places store ts → length stack ≡ 16384 → Keeps places.bindings heap live
    → Simulates (Finished rules heap es bound th goals_text certificate goals) (walk.certificate certificate goals_text rules tally store stack live table)
    (definition.certificate_of document01 th goals certificate ts)
unfolding walk.certificate definition.certificate_of checker.◌>>=◌ checker.lift checker.give number
certificate_law {rules} {heap} {es} {bound} {th} h high w goals_text certificate short {table} {tally} {goals} {ts} gathered {store}
    {live} stack stored long keep =
    let few = few_items certificate in
    bind _ _
    (forms_law h high w goals_text certificate short (length certificate + 1) (items (tokens certificate)) tally start (((store, stack), live), table)
    (definition.begun goals) ts (omega arith)
    record {
      reader = at_start certificate;
      between = first_form goals_text certificate 8192 32768 def_buckets (Means es th ts) (StepRecorded rules heap es bound th certificate ts) document01 th short gathered;
      stored = stored;
      long = long;
      keeps = keep;
    })
    (λ final areas y f.
    lifted y.1 _ _ (tested (eqb final.left 0) 29 goal_open (sym (none_left f.tables)) refl) (λ a b none. leave f))
