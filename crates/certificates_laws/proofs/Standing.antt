-- What holds between two forms of the certificate: of its reader, of the table, of the store, of the stack and of the theory's area.
-- Assumes nothing.
use Prim.Native.Nat.{ℕ, ◌*◌, ◌≤◌}
use mathlib.Core.Path.{◌≡◌}
use mathlib.Core.List.{List}
use lib.ListN.{length}
use Rattle.certificates.specs.Below.horn.specs.Setting.{document01}
use Rattle.certificates.specs.Below.horn.specs.NestedLists.{Items}
use Rattle.certificates.specs.Below.horn.specs.Rulebook.{Theory}
use Rattle.certificates.specs.Below.horn.specs.StoredTerms.{Store}
use Rattle.certificates.specs.Below.horn.specs.Checker.{Goal}
use Rattle.certificates.specs.Below.horn.specs.Matching.{Step, judgment_of, rule_of, references_of}
use Rattle.certificates.specs.Below.horn.specs.Certificate.{Progress}
use Rattle.certificates.specs.Below.lex.specs.declared.Reader.{Reader}
use Rattle.certificates.specs.Below.arena.specs.Store.{count}
use Rattle.certificates.specs.Below.arena.proofs.Readings.{trees_counted}
use Rattle.certificates.specs.Below.items.specs.Places as places
use Rattle.certificates.specs.Below.theory_laws.specs.Representation.{Entries, RuleAt}
use Rattle.certificates.specs.Below.theory_laws.proofs.Frames.{Keeps}
use Rattle.certificates.specs.Below.theory_reading.specs.Addresses.{symbol_at, Used}
use Rattle.certificates.specs.Below.theory_reading.proofs.Stored.{Longer, Stored, Means, means_longer}
use Rattle.certificates.specs.Below.tables.specs.declared.Tally.{Tally}
use Rattle.certificates.specs.Below.tables.specs.Representation.{Tables}
use Rattle.certificates.specs.Below.tables.specs.Phases.{Between}
use Rattle.certificates.specs.Below.tables.proofs.Phases.{between_more}
use Rattle.steps_laws.specs.Below.asking_laws.proofs.Places.{RestComes, Any, At}
use Rattle.steps_laws.proofs.Whole.{ReferencesListed}
use Rattle.certificates.specs.Below.nodes.specs.Limits.{index_places, def_buckets}
use Rattle.certificates.specs.Certificates.{AllAreas}

-- The store's count is the number of its trees.
pub terms_counted : {es : Entries} {th : Theory} {store : List ℕ} {ts : Store} → Stored es th document01 index_places store ts → count store ≡ length ts.terms
terms_counted {es} {th} {store} {ts} st = trees_counted (symbol_at es th) (Used es) document01.nodes document01.node_words index_places store ts.terms st.keeps.trees

module _ (rules heap : List ℕ) (es : Entries) (bound : ℕ) (th : Theory) where
  -- What the four words of a step say of it.
  pub record StepRecorded (certificate : List ℕ) (ts : Store) (j r p q : ℕ) (s : Step) : Type 0 where
    pub means : Means es th ts j (judgment_of s)
    pub by_rule : RuleAt rules heap es bound r (rule_of s)
    pub listed : ReferencesListed certificate p q (references_of s)

  module _ (goals_text certificate : List ℕ) (goals : List Goal) where
    -- The table holds what the definition has so far, and what is left of the certificate finds room in it.
    abbrev pub SoFar : Store → List ℕ → Tally → Progress → Items → Type 0
    SoFar ts table tally now left = Between goals_text certificate 8192 32768 def_buckets (Means es th ts) (StepRecorded certificate ts) table tally goals now left

    pub record Standing (left : Items) (x : Tally × Reader) (areas : AllAreas) (y : Progress × Store) : Type 0 where
      pub reader : At certificate (RestComes left Any) 0 x.1
      pub between : SoFar y.1 areas.1 x.0 y.0 left
      pub stored : Stored es th document01 index_places areas.0.0.0 y.1
      pub long : length areas.0.0.1 ≡ 16384
      pub keeps : Keeps places.bindings heap areas.0.1

    -- After the last form.
    pub record Finished (tally : Tally) (areas : AllAreas) (y : Progress × Store) : Type 0 where
      pub tables : Tables goals_text certificate areas.1 def_buckets (Means es th y.1) (StepRecorded certificate y.1) tally goals y.0.open_goals
          y.0.defs y.0.steps y.0.results
      pub stored : Stored es th document01 index_places areas.0.0.0 y.1
      pub long : length areas.0.0.1 ≡ 16384
      pub keeps : Keeps places.bindings heap areas.0.1
      pub few_goals : 11 * length goals ≤ 8192
      pub few_steps : 12 * length y.0.steps ≤ 32768

-- The store grew.
pub between_longer : {rules heap : List ℕ} {es : Entries} {bound : ℕ} {th : Theory} {goals_text certificate : List ℕ} {goals : List Goal} {ts us : Store}
    {table : List ℕ} {tally : Tally} {now : Progress} {left : Items} → Longer ts us
    → SoFar rules heap es bound th goals_text certificate goals ts table tally now left
    → SoFar rules heap es bound th goals_text certificate goals us table tally now left
between_longer {rules} {heap} {es} {bound} {th} {certificate} {us} g =
    between_more (Means es th us) (StepRecorded rules heap es bound th certificate us) (λ w t m. means_longer g m)
    (λ j r p q s x. record { means = means_longer g x.means; by_rule = x.by_rule; listed = x.listed })
