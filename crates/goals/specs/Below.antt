-- Crates below this one, for the definitions and proofs of crates above it, whose lines of crates.txt then need not list them.
pub use Rattle.words
pub use Rattle.names.specs.Below.horn
pub use Rattle.tables.specs.Below.capacity
pub use Rattle.names.specs.Below.facts
pub use Rattle.lex
pub use Rattle.nodes.specs.Below.arena
pub use Rattle.tables
pub use Rattle.outcomes
pub use Rattle.items
pub use Rattle.asking
pub use Rattle.nodes.specs.Below.theory_reading
pub use Rattle.nodes
