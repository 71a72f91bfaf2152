-- All goals. Assumes nothing.
use Prim.Native.Nat.{ℕ, zero, suc, ◌≤◌}
use mathlib.Core.Path.{◌≡◌, refl}
use mathlib.Core.List.{List}
use native.Mathlib.Omega.{arith}
use lib.ListN.{length}
use Rattle.goals.specs.Below.horn.specs.Refusals as refusals
use Rattle.goals.specs.Below.horn.specs.Refusals.{number, atom_or_list, no_goal}
use Rattle.goals.specs.Below.horn.specs.Setting.{document01}
use Rattle.goals.specs.Below.horn.specs.Names.{Name}
use Rattle.goals.specs.Below.horn.specs.NestedLists.{Items, word}
use Rattle.goals.specs.Below.horn.specs.Rulebook.{Theory}
use Rattle.goals.specs.Below.horn.specs.StoredTerms.{Store}
use Rattle.goals.specs.Below.horn.specs.Checker as definition
use Rattle.goals.specs.Below.horn.specs.Checker.{Goal}
use Rattle.goals.specs.Below.horn.specs.Matching.{Step}
use Rattle.goals.specs.Below.horn.proofs.Counts.{item_count}
use Rattle.goals.specs.Below.lex.specs.declared.Reader.{Reader}
use Rattle.goals.specs.Below.outcomes.specs.Outcomes.{Outcome}
use Rattle.goals.specs.Below.outcomes.specs.Leaving as leaving
use Rattle.goals.specs.Below.outcomes.specs.Leaving.{◌leaving◌}
use Rattle.goals.specs.Below.outcomes.specs.Simulation.{Simulates, refuse, leave, bind}
use Rattle.terms_laws.specs.Below.theory_laws.specs.Representation.{Entries, Holds}
use Rattle.goals.specs.Below.theory_reading.proofs.Stored.{Longer, Stored, Means}
use Rattle.goals.specs.Below.tables.specs.declared.Tally.{Tally}
use Rattle.goals.specs.Below.tables.specs.Phases.{Gathering}
use Rattle.goals.specs.Below.asking.specs.Asking.{Top}
use Rattle.terms_laws.specs.Below.asking_laws.proofs.Places.{RestComes, Any, At}
use Rattle.terms_laws.specs.Below.asking_laws.proofs.Asking.{FormMet, form_over, form_bad, form_closing, form_atom, form_list, form_law}
use Rattle.goals.specs.Below.nodes.specs.Limits.{index_places, def_buckets}
use Rattle.goals.specs.Goals as walk
use Rattle.goals.specs.Goals.{Gathered}
use Rattle.goals_laws.proofs.Goal.{goal_law}

-- The goals were read: the store and the table hold what the definition has, the stack is as long as before.
pub record GoalsRead (es : Entries) (th : Theory) (goals_text certificate : List ℕ) (Recorded : Store → ℕ → ℕ → ℕ → ℕ → Step → Type 0)
    (tally : Tally) (left : Gathered) (y : List Goal × Store) : Type 0 where
  pub behind : Items
  pub gathering : Gathering goals_text certificate 8192 32768 def_buckets (Means es th y.1) (Recorded y.1) left.1 tally y.0 behind
  pub stored : Stored es th document01 index_places left.0.0 y.1
  pub long : length left.0.1 ≡ 16384
  pub counted : tally.goals ≡ length y.0

atom_form : (th : Theory) (goals : List Goal) (name : Name) (ts : Store)
    → definition.goal_form document01 th goals (word name) ts ≡ refusals.refused atom_or_list
unfolding definition.goal_form definition.◌>>=◌ definition.lift definition.group_due refusals.◌>>=◌
atom_form th goals name ts = refl

module _ {rules heap : List ℕ} {es : Entries} {bound : ℕ} {th : Theory} (h : Holds rules heap es bound th) (goals_text certificate : List ℕ)
    (Recorded : Store → ℕ → ℕ → ℕ → ℕ → Step → Type 0)
    (survives : (ts us : Store) (j r p q : ℕ) (s : Step) → Longer ts us → Recorded ts j r p q s → Recorded us j r p q s)
    (short : length goals_text ≤ 8192) where
  -- What so much fuel reads, from any goals on.
  abbrev Reads : ℕ → Type 0
  Reads fuel =
      (is : Items) (goals : List Goal) (ts : Store) (tally : Tally) (r : Reader) (store stack table : List ℕ) → suc (item_count is) ≤ fuel
      → Gathering goals_text certificate 8192 32768 def_buckets (Means es th ts) (Recorded ts) table tally goals is
      → Stored es th document01 index_places store ts → length stack ≡ 16384 → At goals_text (RestComes is Any) 0 r
      → Simulates (GoalsRead es th goals_text certificate Recorded) (walk.goals_from fuel goals_text rules heap tally r store stack table)
      (definition.goal_forms document01 th goals is ts)

  -- One goal more, and those behind it.
  goals_on : (fuel : ℕ) → Reads fuel → (goals : List Goal) (ts : Store) (tally : Tally) (store stack table : List ℕ) {is : Items} {o : Outcome Top}
      → FormMet goals_text Any 0 is o → suc (item_count is) ≤ suc fuel
      → Gathering goals_text certificate 8192 32768 def_buckets (Means es th ts) (Recorded ts) table tally goals is
      → Stored es th document01 index_places store ts → length stack ≡ 16384
      → Simulates (GoalsRead es th goals_text certificate Recorded)
      (leaving.◌>>=◌ (o leaving ((store, stack), table))
      (λ p. walk.one_goal (walk.goals_from fuel goals_text rules heap) goals_text rules heap tally p.0 store stack table))
      (definition.goal_forms document01 th goals is ts)
  unfolding definition.goal_forms definition.◌>>=◌ definition.lift definition.give refusals.◌>>=◌ item_count number
  goals_on fuel on goals ts tally store stack table form_over f g st long =
      leave record { behind = _; gathering = g; stored = st; long = long; counted = g.tables.goals_is }
  goals_on fuel on goals ts tally store stack table form_bad f g st long = refuse refl
  goals_on fuel on goals ts tally store stack table form_closing f g st long = refuse refl
  goals_on fuel on goals ts tally store stack table (form_atom {name}) f g st long = rw (atom_form th goals name ts) (refuse refl)
  goals_on fuel on goals ts tally store stack table (form_list {rest} there) f g st long =
      bind _ _ (goal_law h goals_text certificate Recorded survives short store stack g st long (RestComes rest Any) there)
      (λ x left y m. on rest y.0 y.1 x.0 x.1 left.0.0 left.0.1 left.1 (omega arith) m.gathering m.stored m.long m.reader)

  pub goals_law : (fuel : ℕ) → Reads fuel
  unfolding walk.goals_from
  goals_law zero is goals ts tally r store stack table f g st long there = absurd (omega arith)
  goals_law (suc fuel) is goals ts tally r store stack table f g st long there =
      goals_on fuel (goals_law fuel) goals ts tally store stack table (form_law goals_text Any 0 is there) f g st long
