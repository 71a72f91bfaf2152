-- Crates below this one, for the definitions and proofs of crates above it, whose lines of crates.txt then need not list them.
pub use Rattle.arena
pub use Rattle.names
pub use Rattle.tables
pub use Rattle.outcomes
pub use Rattle.items
pub use Rattle.asking
pub use Rattle.theory_reading.specs.Below.theory_laws
pub use Rattle.theory_reading
