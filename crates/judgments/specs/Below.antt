-- Crates below this one, for the definitions and proofs of crates above it, whose lines of crates.txt then need not list them.
pub use Rattle.words
pub use Rattle.lex
pub use Rattle.nodes.specs.Below.arena
pub use Rattle.outcomes.specs.Below.names
pub use Rattle.nodes.specs.Below.tables
pub use Rattle.outcomes
pub use Rattle.nodes.specs.Below.items
pub use Rattle.nodes.specs.Below.theory_reading
pub use Rattle.nodes
pub use Rattle.terms
