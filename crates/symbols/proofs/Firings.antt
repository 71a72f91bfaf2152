-- The order of tests in a constructor's declaration, on the least text that fails both. Assumes nothing.
use Prim.Native.Nat.{ℕ}
use mathlib.Core.Path.{◌≡◌, refl}
use mathlib.Core.List.{List, [], ◌∷◌}
use lib.ListN.{replicate}
use Rattle.names.specs.Chains.{added}
use Rattle.items.specs.Places as places
use Rattle.items.proofs.Run.{open_tokens, open_names, open_items, at_start, answered_with}
use Rattle.symbols.specs.Symbols as symbols

-- `z()q)`,
abbrev text : List ℕ
text = 0x7A ∷ 0x28 ∷ 0x29 ∷ 0x71 ∷ 0x29 ∷ []

-- where `z` is declared already and no sort is: 12 by the output, not 13 by the name.
pub duplicate_last : answered_with
    (symbols.constructor_declared text (0 ∷ []) at_start (added (replicate 1032 0) places.constructors places.buckets 1024 text 0 1)) ≡ 12
unfolding open_tokens open_names open_items at_start symbols.reserved symbols.sort_from symbols.sort_named symbols.entered symbols.described symbols.inputs
    symbols.signature symbols.symbol_entered symbols.constructor_declared
duplicate_last = refl
