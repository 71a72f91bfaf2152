-- Crates below this one, for the definitions and proofs of crates above it, whose lines of crates.txt then need not list them.
pub use Rattle.goals.specs.Below.words
pub use Rattle.lex.specs.Below.horn
pub use Rattle.outcomes.specs.Below.facts
pub use Rattle.lex
pub use Rattle.goals.specs.Below.arena
pub use Rattle.outcomes.specs.Below.names
pub use Rattle.forms.specs.Below.numerals
pub use Rattle.tables
pub use Rattle.outcomes
pub use Rattle.goals.specs.Below.items
pub use Rattle.asking
pub use Rattle.steps.specs.Below.theory_laws
pub use Rattle.steps.specs.Below.theory_reading
pub use Rattle.goals.specs.Below.nodes
pub use Rattle.forms
pub use Rattle.steps
