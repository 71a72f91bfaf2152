-- The symbol at an address, by the tables of names alone: the words may change behind it.
use Rattle.std.specs.Prelude.{ℕ, true, false, eqb}
use mathlib.Core.List.{List, [], ◌∷◌, Memᴰ}
use Rattle.std.proofs.Math.Option.{Option, none, some}
use Rattle.names.specs.Below.horn.specs.Names.{Name, first}
use Rattle.names.specs.Below.horn.specs.Rulebook.{judgment, Symbol, symbol, Theory, is_constructor, is_predicate}
use Rattle.names.specs.Tables.{Entry, entry}
use Rattle.theory_laws.specs.Representation.{Entries}

-- The name of the entry at an address.
unfoldable pub name_in : ℕ → List Entry → Option Name
name_in a [] = none
name_in a (entry e name ∷ entries) = elim (eqb a e) [ true ↦ some name | false ↦ name_in a entries ]

-- The symbol of an address that no entry has.
unfoldable pub no_symbol : Symbol
no_symbol = symbol [] [] judgment

abbrev pub or_none : Option Symbol → Symbol
or_none none = no_symbol
or_none (some c) = c

abbrev pub predicate_at : Theory → Option Name → Symbol
predicate_at th none = no_symbol
predicate_at th (some name) = or_none (first (is_predicate name) th.symbols)

abbrev pub either_at : Theory → Option Name → Option Name → Symbol
either_at th none other = predicate_at th other
either_at th (some name) other = or_none (first (is_constructor name) th.symbols)

-- Every address stands for a symbol; those that no entry has, for one that no rulebook declares.
unfoldable pub symbol_at : Entries → Theory → ℕ → Symbol
symbol_at es th a = either_at th (name_in a es.constructors) (name_in a es.predicates)

-- The addresses that entries have.
pub data Used (es : Entries) (a : ℕ) : Type 0 where
  by_constructor : {name : Name} → Memᴰ (entry a name) es.constructors → Used es a
  by_predicate : {name : Name} → Memᴰ (entry a name) es.predicates → Used es a
