-- Crates below this one, for the definitions and proofs of crates above it, whose lines of crates.txt then need not list them.
pub use Rattle.words
pub use Rattle.outcomes.specs.Below.facts
pub use Rattle.lex
pub use Rattle.outcomes.specs.Below.names
pub use Rattle.sexp
pub use Rattle.outcomes
pub use Rattle.items
pub use Rattle.rules.specs.Below.variables
pub use Rattle.rules.specs.Below.leaves
pub use Rattle.symbols
pub use Rattle.rules.specs.Below.patterns
pub use Rattle.rules.specs.Below.rule_names
pub use Rattle.rules
