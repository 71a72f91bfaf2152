-- The whole goals text. Assumes nothing.
use Prim.Native.Nat.{ℕ, ◌+◌, ◌≤◌}
use mathlib.Core.Path.{◌≡◌, refl, ap, sym, ◌∙◌}
use mathlib.Core.Bool.{not}
use mathlib.Core.List.{List, []}
use native.Mathlib.Omega.{arith}
use lib.Dec.{eqb}
use lib.ListN.{length}
use Rattle.goals.specs.Below.horn.specs.Refusals.{number, no_goal}
use Rattle.goals.specs.Below.horn.specs.Setting.{document01}
use Rattle.goals.specs.Below.horn.specs.Tokens.{tokens}
use Rattle.goals.specs.Below.horn.specs.NestedLists.{items}
use Rattle.goals.specs.Below.horn.specs.Rulebook.{Theory}
use Rattle.goals.specs.Below.horn.specs.StoredTerms.{Store, empty_store}
use Rattle.goals.specs.Below.horn.specs.Checker as definition
use Rattle.goals.specs.Below.horn.specs.Checker.{Goal}
use Rattle.goals.specs.Below.horn.specs.Matching.{Step}
use Rattle.goals.specs.Below.horn.proofs.Counts.{few_items}
use Rattle.goals.specs.Below.words.specs.Parts.{cleared}
use Rattle.goals.specs.Below.lex.specs.Answers.{start}
use Rattle.goals.specs.Below.outcomes.specs.Simulation.{Simulates, leave, bind}
use Rattle.terms_laws.specs.Below.theory_laws.specs.Representation.{Entries, Holds}
use Rattle.goals.specs.Below.theory_reading.proofs.Stored.{Longer, Stored, Means}
use Rattle.goals.specs.Below.capacity.proofs.Rooms.{roomy_01}
use Rattle.goals.specs.Below.tables.specs.Words.{goal_buckets, none_yet}
use Rattle.goals.specs.Below.tables.proofs.Laws.{none_left}
use Rattle.goals.specs.Below.tables.proofs.Phases.{first_goal}
use Rattle.terms_laws.specs.Below.asking_laws.proofs.Places.{at_start}
use Rattle.goals.specs.Below.nodes.specs.Limits.{index_places, def_buckets}
use Rattle.terms_laws.proofs.Judgments.{lifted}
use Rattle.goals.specs.Goals as walk
use Rattle.goals.specs.Goals.{Gathered}
use Rattle.terms_laws.proofs.Following.{tested}
use Rattle.goals_laws.proofs.Goals.{GoalsRead, goals_law}

module _ {rules heap : List ℕ} {es : Entries} {bound : ℕ} {th : Theory} (h : Holds rules heap es bound th) (goals_text certificate : List ℕ)
    (Recorded : Store → ℕ → ℕ → ℕ → ℕ → Step → Type 0)
    (survives : (ts us : Store) (j r p q : ℕ) (s : Step) → Longer ts us → Recorded ts j r p q s → Recorded us j r p q s)
    (short : length goals_text ≤ 8192) where
  -- The whole text, from an empty store and a table that holds nothing.
  pub goals_whole : (store stack table : List ℕ) → length table ≡ 16384 → Stored es th document01 index_places store empty_store → length stack ≡ 16384
      → Simulates (GoalsRead es th goals_text certificate Recorded)
      (walk.goals goals_text rules heap (none_yet def_buckets) store stack (cleared (goal_buckets + def_buckets) table))
      (definition.goals_of document01 th goals_text empty_store)
  unfolding walk.goals definition.goals_of definition.◌>>=◌ definition.lift definition.give number document01
  goals_whole store stack table words st long =
      let n = few_items goals_text in
      bind _ _
      (goals_law h goals_text certificate Recorded survives short (length goals_text + 1) (items (tokens goals_text)) [] empty_store (none_yet def_buckets) start store stack
      (cleared (goal_buckets + def_buckets) table) (omega arith)
      (first_goal goals_text certificate 8192 32768 def_buckets (Means es th empty_store) (Recorded empty_store) document01 th table (omega arith) (omega arith) (omega arith) short
      (rw words roomy_01))
      st long (at_start goals_text))
      (λ tally left y m.
      let t = m.gathering.tables in
      lifted y.1 _ _ (tested _ 17 no_goal (ap not (ap (λ (k : ℕ). eqb k 0) (t.goals_is ∙ sym t.left_is) ∙ sym (none_left t))) refl) (λ x z e. leave m))
