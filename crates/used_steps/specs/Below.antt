-- Crates below this one, for the definitions and proofs of crates above it, whose lines of crates.txt then need not list them.
pub use Rattle.words
pub use Rattle.lex.specs.Below.horn
pub use Rattle.lex
pub use Rattle.nodes.specs.Below.names
pub use Rattle.tables
pub use Rattle.nodes.specs.Below.outcomes
pub use Rattle.nodes.specs.Below.items
pub use Rattle.nodes.specs.Below.theory_laws
pub use Rattle.nodes
pub use Rattle.references
