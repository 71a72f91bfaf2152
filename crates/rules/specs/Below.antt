-- Crates below this one, for the definitions and proofs of crates above it, whose lines of crates.txt then need not list them.
pub use Rattle.patterns.specs.Below.variables
pub use Rattle.patterns.specs.Below.leaves
pub use Rattle.patterns
pub use Rattle.rule_names
