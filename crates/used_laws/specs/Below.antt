-- Crates below this one, for the definitions and proofs of crates above it, whose lines of crates.txt then need not list them.
pub use Rattle.used_steps.specs.Below.names
pub use Rattle.used_steps.specs.Below.tables
pub use Rattle.used_steps.specs.Below.items
pub use Rattle.used_steps.specs.Below.theory_laws
pub use Rattle.used_steps.specs.Below.nodes
pub use Rattle.used_steps
pub use Rattle.steps_laws
