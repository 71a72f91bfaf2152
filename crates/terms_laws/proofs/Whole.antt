-- Terms and judgments where the table holds the goals, abbreviations and steps so far. Assumes nothing.
use Prim.Native.Nat.{ℕ, ◌+◌, ◌*◌, ◌≤◌}
use mathlib.Core.Path.{◌≡◌}
use mathlib.Core.List.{List, []}
use lib.ListN.{length}
use Rattle.asking_laws.specs.Below.horn.specs.Setting.{document01}
use Rattle.asking_laws.specs.Below.horn.specs.Tokens.{Stream, Token}
use Rattle.asking_laws.specs.Below.horn.specs.NestedLists.{Items}
use Rattle.asking_laws.specs.Below.horn.specs.Rulebook.{Theory}
use Rattle.asking_laws.specs.Below.horn.specs.StoredTerms.{Store}
use Rattle.asking_laws.specs.Below.horn.specs.Checker as definition
use Rattle.asking_laws.specs.Below.horn.specs.Checker.{Def, Goal}
use Rattle.asking_laws.specs.Below.horn.specs.Matching.{Step}
use Rattle.asking_laws.specs.Below.horn.specs.Certificate.{Witness}
use Rattle.judgments.specs.Below.lex.specs.declared.Reader.{Reader}
use Rattle.judgments.specs.Below.outcomes.specs.Simulation.{Simulates}
use Rattle.asking_laws.specs.Below.theory_laws.specs.Representation.{Entries, Holds}
use Rattle.judgments.specs.Below.theory_reading.proofs.Stored.{Stored, Means, longer_none}
use Rattle.judgments.specs.Below.tables.specs.declared.Tally.{Tally}
use Rattle.judgments.specs.Below.tables.specs.Representation.{Tables}
use Rattle.judgments.specs.Below.tables.proofs.Defs.{defs_elsewhere}
use Rattle.asking_laws.proofs.Places.{RestComes, At}
use Rattle.judgments.specs.Below.terms.specs.Terms as walk
use Rattle.judgments.specs.Judgments as judgments
use Rattle.judgments.specs.Below.nodes.specs.Limits.{index_places, def_buckets}
use Rattle.terms_laws.proofs.Reading.{Ready}
use Rattle.terms_laws.proofs.Judgments.{AskedRead, ask_term_law, judgment_law}

module _ {rules heap : List ℕ} {es : Entries} {bound : ℕ} {th : Theory} (h : Holds rules heap es bound th) {ts : Store}
    (left depth top spent : ℕ) (deep : depth + left ≡ 257) (is : Items) (K : Stream Token → Type 0) (r : Reader) (store stack : List ℕ)
    (stored : Stored es th document01 index_places store ts) (room : 2 * top ≤ spent) (long : length stack ≡ 16384) where
  ready : (text : List ℕ) → At text (RestComes is K) spent r → Ready es th text ts (RestComes is K) top spent ts r store stack
  ready text at_items = record { reader = at_items; room = room; stored = stored; grown = longer_none; long = long }

  module _ {goals_text certificate table : List ℕ} {Recorded : ℕ → ℕ → ℕ → ℕ → Step → Type 0} {tally : Tally} {goals open_goals : List Goal} {steps : List Step} {results : List Witness} where
    module _ {defs : List Def} (t : Tables goals_text certificate table def_buckets (Means es th ts) Recorded tally goals open_goals defs steps results)
        (short : length certificate ≤ 32768) (at_items : At certificate (RestComes is K) spent r) where
      -- A term of the certificate.
      pub certificate-term : Simulates (AskedRead es th certificate K top spent stack ts) (walk.term left certificate rules heap table top r store stack)
          (definition.ask_term document01 th defs depth is ts)
      certificate-term =
          ask_term_law certificate table h defs ts t.def_part short is left depth top spent K ts r store stack deep (ready certificate at_items)

    -- A judgment of the goals, where there is no abbreviation.
    pub goal_judgment_lem : Tables goals_text certificate table def_buckets (Means es th ts) Recorded tally goals open_goals [] steps results → length goals_text ≤ 32768
        → At goals_text (RestComes is K) spent r
        → Simulates (AskedRead es th goals_text K top spent stack ts) (judgments.judgment left goals_text rules heap table top r store stack)
        (definition.ask_judgment document01 th [] depth is ts)
    goal_judgment_lem t short at_items =
        judgment_law goals_text table h [] ts (defs_elsewhere goals_text t.def_part) short is left depth top spent K ts r store stack deep
        (ready goals_text at_items)
