-- The laws at 01's limits, and at a larger setting that may be asked for.
use Prim.Native.Nat.{ℕ, ◌-◌, ◌/◌, ◌^◌}
use mathlib.Core.Path.{◌≡◌, refl}
use mathlib.Core.List.{List}
use lib.Dec.{lit<, lit≤}
use lib.ListN.{length}
use Rattle.facts.specs.Below.horn.specs.Refusals.{number}
use Rattle.facts.specs.Below.horn.specs.Setting.{Setting, document01}
use Rattle.facts.specs.Below.horn.specs.Rulebook.{Symbol}
use Rattle.facts.specs.Below.horn.specs.StoredTerms.{Term}
use Rattle.facts.specs.Below.horn.proofs.Run.{store_of}
use Rattle.arena.specs.Probing.{start_place}
use Rattle.arena.specs.Store.{intern_answer, intern_area, answered}
use Rattle.arena.specs.Store.{Full}
use Rattle.arena.proofs.Nodes.{Node}
use Rattle.arena.proofs.Limits.{Limits, shifted, trailing_power}
use Rattle.arena.proofs.Trees.{Trees, Formed, InternedTree, build, interned_tree}

-- Both are limits that the laws suppose.
pub limits_01 : Limits document01.nodes document01.node_words 4_096
unfolding document01
limits_01 = record { exponent = 12; power = refl; above_one = lit< tt; within = lit< tt; roomy = lit≤ tt; words_within = lit< tt }

abbrev larger : Setting
larger = store_of 262_144 1_048_576

pub limits_larger : Limits larger.nodes larger.node_words 524_288
unfolding store_of
limits_larger = record { exponent = 19; power = refl; above_one = lit< tt; within = lit< tt; roomy = lit≤ tt; words_within = lit< tt }

-- For a reader, where the walk through the index starts: "at h shifted right by 64 - 12" for 01's 4,096 places, and by 64 - 19 for the larger index.
pub start_01 : (h : ℕ) → start_place h 4_096 ≡ h / 2 ^ (64 - 12)
start_01 h = shifted h 4_096 12 (trailing_power 12 (lit< tt)) (lit< tt)

pub start_larger : (h : ℕ) → start_place h 524_288 ≡ h / 2 ^ (64 - 19)
start_larger h = shifted h 524_288 19 (trailing_power 19 (lit< tt)) (lit< tt)

-- For a reader: the number that a full store answers is 01's 28.
pub full_is_28 : (answered Full).number ≡ 28
unfolding answered number
full_is_28 = refl

-- What `interned_tree` says of a setting.
abbrev pub Law : (ℕ → Symbol) → (ℕ → Type 0) → Setting → ℕ → Type 0
Law symbol_at used l places =
    (a : List ℕ) (ts : List Term) → Trees symbol_at used l.nodes l.node_words places a ts → (x : Node) → Formed used (length ts) x →
    InternedTree symbol_at used l places a ts (build symbol_at ts x)
    (intern_answer a l.nodes l.node_words places x) (intern_area a l.nodes l.node_words places x)

module _ (symbol_at : ℕ → Symbol) (used : ℕ → Type 0) (injective : (g h : ℕ) → used g → used h → symbol_at g ≡ symbol_at h → g ≡ h) where
  -- For a reader: at 01's limits the store in its area answers and grows as the definition's store of trees does, and so it does at the larger
  -- ones.
  pub store_01 : Law symbol_at used document01 4_096
  store_01 = interned_tree symbol_at used injective document01 4_096 limits_01

  pub store_larger : Law symbol_at used larger 524_288
  store_larger = interned_tree symbol_at used injective larger 524_288 limits_larger
