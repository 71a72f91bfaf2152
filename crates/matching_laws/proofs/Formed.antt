-- A well-formed rule's patterns are full, and no two of its variables have one name. Assumes nothing.
use mathlib.Core.Path.{◌≡◌, refl, ap}
use mathlib.Core.List.{List, Memᴰ}
use Prim.Native.Nat.{suc}
use lib.ListN.{length}
use Rattle.numerals.specs.Below.horn.specs.Names.{Name}
use Rattle.numerals.specs.Below.horn.specs.Rulebook.{Symbol, inputs, Variable, Pattern, Patterns, Rule, variables_of, premises_of, conclusion_of}
use Rattle.numerals.specs.Below.horn.proofs.SoundnessWords.{Sorted, a_variable, a_term, AllSorted, no_pattern, pattern_then, SortedJudgment, a_judgment, Apart, RuleFormed}
use Rattle.matching_laws.proofs.Relations.{width_of, Full, full_variable, full_symbol, Fulls, full_none, full_next}

-- Sorted patterns are full.
mutual
  unfolding width_of inputs

  pub sorted_full : {symbols : List Symbol} {vs : List Variable} {s : Name} {p : Pattern} → Sorted symbols vs s p → Full p
  sorted_full (a_variable m) = full_variable
  sorted_full (a_term m ps) = let (w, f) = all_full ps in full_symbol w f

  pub all_full : {symbols : List Symbol} {vs : List Variable} {ss : List Name} {ps : Patterns} → AllSorted symbols vs ss ps
      → (width_of ps ≡ length ss) × Fulls ps
  all_full no_pattern = (refl, full_none)
  all_full (pattern_then p ps) = let (w, f) = all_full ps in (ap suc w, full_next (sorted_full p) f)

pub judgment_full : {symbols : List Symbol} {vs : List Variable} {p : Pattern} → SortedJudgment symbols vs p → Full p
unfolding inputs
judgment_full (a_judgment m ps) = let (w, f) = all_full ps in full_symbol w f

pub record RuleReady (r : Rule) : Type 0 where
  pub premises : (p : Pattern) → Memᴰ p (premises_of r) → Full p
  pub conclusion : Full (conclusion_of r)
  pub distinct : Apart (variables_of r)

pub rule_ready : {symbols : List Symbol} {r : Rule} → RuleFormed symbols r → RuleReady r
rule_ready f = record { premises = λ p m. judgment_full (f.sorted_premises p m); conclusion = judgment_full f.sorted_conclusion; distinct = f.apart }
