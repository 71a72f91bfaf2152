-- Crates below this one, for the definitions and proofs of crates above it, whose lines of crates.txt then need not list them.
pub use Rattle.words
pub use Rattle.writing
pub use Rattle.checker.specs.Below.outcomes
pub use Rattle.page_lines
pub use Rattle.checker.specs.Below.certificates
pub use Rattle.pages
pub use Rattle.checker
