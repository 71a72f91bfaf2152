-- The order of tests in a rule's declaration, on the least text that fails both. Assumes nothing.
use mathlib.Core.Path.{◌≡◌, refl}
use mathlib.Core.List.{[], ◌∷◌}
use Rattle.patterns.specs.Below.leaves.specs.Leaves as leaves
use Rattle.patterns.specs.Patterns as patterns
use Rattle.items.proofs.Run.{open_tokens, open_names, open_items, at_start, answered_with}
use Rattle.rule_names.specs.RuleNames.{name_kept}
use Rattle.rules.specs.Rules as rules

-- `?r()(q))` where no predicate is declared: 12 by the conclusion, not 11 by the name.
pub name_last : answered_with (rules.rule_declared (0x3F ∷ 0x72 ∷ 0x28 ∷ 0x29 ∷ 0x28 ∷ 0x71 ∷ 0x29 ∷ 0x29 ∷ []) (0 ∷ 1 ∷ []) at_start [] []) ≡ 12
unfolding open_tokens open_names open_items at_start leaves.applied patterns.judgment patterns.judgments name_kept rules.begun rules.body_read
    rules.rule_declared
name_last = refl
