-- Crates below this one, for the definitions and proofs of crates above it, whose lines of crates.txt then need not list them.
pub use Rattle.names.specs.Below.facts
pub use Rattle.names
