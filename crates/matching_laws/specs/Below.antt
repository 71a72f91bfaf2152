-- Crates below this one, for the definitions and proofs of crates above it, whose lines of crates.txt then need not list them.
pub use Rattle.numerals.specs.Below.words
pub use Rattle.numerals.specs.Below.horn
pub use Rattle.numerals
pub use Rattle.concluding.specs.Below.tables
pub use Rattle.nodes.specs.Below.items
pub use Rattle.nodes.specs.Below.asking
pub use Rattle.nodes
pub use Rattle.concluding.specs.Below.matching
pub use Rattle.concluding
