-- The places of the theory's area (src/places.rt says the same of the code).
use Rattle.std.specs.Prelude.{ℕ}

-- Buckets: so many of each kind, from these words on; entries stand behind them.
abbrev pub buckets : ℕ
buckets = 256

abbrev pub sorts : ℕ
sorts = 0

abbrev pub constructors : ℕ
constructors = 256

abbrev pub predicates : ℕ
predicates = 512

abbrev pub rules : ℕ
rules = 768

abbrev pub entries : ℕ
entries = 1024

-- A pattern's word for a variable is this and its number; a symbol's address is smaller.
abbrev pub variable : ℕ
variable = 16384

-- A sort's entry is its name alone, of so many words.
abbrev pub sort_words : ℕ
sort_words = 3

-- In an entry, behind the three words of its name. A symbol: what it gives, how many inputs it has, and the inputs.
abbrev pub output : ℕ
output = 3

abbrev pub arity : ℕ
arity = 4

abbrev pub inputs : ℕ
inputs = 5

-- A rule: how many premises and variables it has, where its conclusion and its variables stand, and its patterns.
abbrev pub premise_count : ℕ
premise_count = 3

abbrev pub variable_count : ℕ
variable_count = 4

abbrev pub conclusion : ℕ
conclusion = 5

abbrev pub variables : ℕ
variables = 6

abbrev pub patterns : ℕ
patterns = 7

-- Words of each variable of a rule: where its name begins and ends, and its sort.
abbrev pub variable_words : ℕ
variable_words = 3

-- Where the entries of any accepted rulebook end at the latest, as crate theory_laws shows.
abbrev pub theory_end : ℕ
theory_end = 11948

-- Words of bindings, one for each variable of the rule of the step that is being read; the theory stands below.
abbrev pub bindings : ℕ
bindings = 12288
