-- Crates below this one, for the definitions and proofs of crates above it, whose lines of crates.txt then need not list them.
pub use Rattle.arena
pub use Rattle.requests
pub use Rattle.tables
pub use Rattle.outcomes
pub use Rattle.theory
pub use Rattle.nodes.specs.Below.theory_reading
pub use Rattle.nodes
pub use Rattle.certificates
