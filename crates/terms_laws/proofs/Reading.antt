-- Terms and their arguments, at a text that the stack has room for. Assumes nothing.
use Prim.Native.Nat.{ℕ, ◌+◌, ◌*◌, ◌≤◌}
use mathlib.Core.Path.{◌≡◌}
use mathlib.Core.List.{List}
use native.Mathlib.Omega.{arith}
use lib.ListN.{length}
use Rattle.asking_laws.specs.Below.horn.specs.Setting.{document01}
use Rattle.asking_laws.specs.Below.horn.specs.Tokens.{Stream, Token}
use Rattle.asking_laws.specs.Below.horn.specs.NestedLists.{Item, Items}
use Rattle.asking_laws.specs.Below.horn.specs.Rulebook.{Symbol, Theory}
use Rattle.asking_laws.specs.Below.horn.specs.StoredTerms.{Terms, Store}
use Rattle.asking_laws.specs.Below.horn.specs.Checker as definition
use Rattle.asking_laws.specs.Below.horn.specs.Checker.{Def}
use Rattle.judgments.specs.Below.lex.specs.declared.Reader.{Reader}
use Rattle.judgments.specs.Below.outcomes.specs.Simulation.{Simulates}
use Rattle.asking_laws.specs.Below.theory_laws.specs.Representation.{Entries, SymbolAt, Holds}
use Rattle.judgments.specs.Below.theory_reading.proofs.Stored.{Means}
use Rattle.judgments.specs.Below.tables.specs.Representation.{Defs}
use Rattle.asking_laws.proofs.Places.{At}
use Rattle.judgments.specs.Below.theory_reading.specs.Storing.{Areas}
use Rattle.judgments.specs.Below.nodes.specs.Nodes.{make}
use Rattle.judgments.specs.Below.nodes.specs.Limits.{def_buckets}
pub use Rattle.terms_laws.proofs.Asked.{asked_then, asked_no, asked_yes}
use Rattle.terms_laws.proofs.Making.{TermRead}
pub use Rattle.terms_laws.proofs.Walked.{Ready, ArgumentsRead, TermLaw, CompoundLaw, ArgumentsLaw}
use Rattle.terms_laws.proofs.Walked as walked

module _ (text : List ℕ) (table : List ℕ) {rules heap : List ℕ} {es : Entries} {bound : ℕ} {th : Theory} (h : Holds rules heap es bound th)
    (defs : List Def) (ts₀ : Store) {base : ℕ} (abbreviations : Defs text table def_buckets base (Means es th ts₀) defs) (short : length text ≤ 32768) where
  -- "After the closing come 16 for a bracketed constructor without arguments, then 15 for arity and sorts, then the store."
  pub made_of : (top spent c : ℕ) (d : Symbol) (K : Stream Token → Type 0) (ts : Store) (stack : List ℕ) (x : ℕ × Reader) (left : Areas)
      (y : Terms × Store) → 2 * top ≤ spent → length stack ≡ 16384 → SymbolAt heap es bound c d
      → ArgumentsRead es th text K (top + 1) 0 (spent + 2) stack ts x left y
      → Simulates (TermRead es th (At text K (spent + 2)) top stack ts) (make heap c top x.0 x.1 left.0 left.1)
      (definition.make document01 d y.0 y.1)
  made_of = walked.made_of text table h defs ts₀ abbreviations (λ k l. omega (arith, short, l))

  pub term_law : (item : Item) → TermLaw text table h defs ts₀ abbreviations item
  term_law = walked.term_law text table h defs ts₀ abbreviations (λ k l. omega (arith, short, l))

  pub arguments_law : (is : Items) → ArgumentsLaw text table h defs ts₀ abbreviations is
  arguments_law = walked.arguments_law text table h defs ts₀ abbreviations (λ k l. omega (arith, short, l))
