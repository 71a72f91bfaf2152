-- Crates below this one, for the definitions and proofs of crates above it, whose lines of crates.txt then need not list them.
pub use Rattle.lex
pub use Rattle.outcomes
pub use Rattle.theory_reading.specs.Below.theory_laws
pub use Rattle.theory_reading
pub use Rattle.step_items.specs.Below.step_bindings
pub use Rattle.references
pub use Rattle.step_items
