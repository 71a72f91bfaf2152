-- What it means that the words of an area hold a theory.
use Rattle.std.specs.Prelude.{ℕ, suc, ◌+◌, ◌*◌, ◌≤◌, ◌<◌, ◌≡◌, Bool, length, get_or}
use mathlib.Core.List.{List, [], ◌∷◌, Memᴰ}
use Rattle.capacity.specs.Below.horn.specs.Names.{Name, named}
use Rattle.capacity.specs.Below.horn.specs.Rulebook.{Output, sort, judgment, Symbol, symbol, Variable, variable, Pattern, var, app, Patterns, []ₚ, ◌∷ₚ◌}
use Rattle.capacity.specs.Below.horn.specs.Rulebook.{Rule, rule, Theory, is_constructor, is_predicate, is_rule}
use Rattle.theory.specs.Below.words.specs.Parts.{part}
use Rattle.theory.specs.Below.names.specs.Tables as tables
use Rattle.theory.specs.Below.items.specs.Places as places
use Rattle.theory.specs.Below.names.specs.Tables.{Entry, entry, Table, Stands}

-- The four tables of names.
pub record Entries : Type 0 where
  pub sorts : List Entry
  pub constructors : List Entry
  pub predicates : List Entry
  pub rules : List Entry

-- The table of the symbols with such an output.
unfoldable pub table_of : Entries → Output → List Entry
table_of es (sort s) = es.constructors
table_of es judgment = es.predicates

-- A word stands for a sort by the address of its entry.
pub data SortAt (es : Entries) (a : ℕ) (s : Name) : Type 0 where
  sort_at : Memᴰ (entry a s) es.sorts → SortAt es a s

-- A word for what a symbol gives.
pub data OutputAt (es : Entries) (a : ℕ) : Output → Type 0 where
  sort_output : {s : Name} → SortAt es a s → OutputAt es a (sort s)
  judgment_output : a ≡ 0 → OutputAt es a judgment

-- Words for sorts, one after the other.
pub data SortsAt (heap : List ℕ) (es : Entries) : ℕ → List Name → Type 0 where
  no_sorts : {o : ℕ} → SortsAt heap es o []
  one_sort : {o : ℕ} {s : Name} {ss : List Name} → SortAt es (get_or heap o 0) s → SortsAt heap es (o + 1) ss → SortsAt heap es o (s ∷ ss)

-- The entry of a symbol: its name, its output, the number of its inputs and the inputs, all below `top`.
pub record SymbolWords (heap : List ℕ) (es : Entries) (top a : ℕ) (name : Name) (ins : List Name) (out : Output) : Type 0 where
  pub low : places.entries ≤ a
  pub high : a + places.inputs + length ins ≤ top
  pub called : Memᴰ (entry a name) (table_of es out)
  pub gives : OutputAt es (get_or heap (a + places.output) 0) out
  pub arity : get_or heap (a + places.arity) 0 ≡ length ins
  pub takes : SortsAt heap es (a + places.inputs) ins

pub data SymbolAt (heap : List ℕ) (es : Entries) (top a : ℕ) : Symbol → Type 0 where
  symbol_at_lem : {name : Name} {ins : List Name} {out : Output} → SymbolWords heap es top a name ins out → SymbolAt heap es top a (symbol name ins out)

-- The v-th variable has this name.
pub data Nth : List Variable → ℕ → Name → Type 0 where
  here : {name s : Name} {vs : List Variable} → Nth (variable name s ∷ vs) 0 name
  there : {x : Variable} {vs : List Variable} {v : ℕ} {name : Name} → Nth vs v name → Nth (x ∷ vs) (suc v) name

-- The words from one place up to another are a pattern in preorder: words between `low` and `top`, for symbols below `bound`.
mutual
  pub data Flat (heap : List ℕ) (es : Entries) (bound low top : ℕ) (vs : List Variable) : ℕ → Pattern → ℕ → Type 0 where
    flat_variable : {o o' v : ℕ} {name : Name} → low ≤ o → o < top → get_or heap o 0 ≡ places.variable + v → Nth vs v name → o' ≡ o + 1
        → Flat heap es bound low top vs o (var name) o'
    flat_symbol : {o o' : ℕ} {c : Symbol} {ps : Patterns} → low ≤ o → o < top → SymbolAt heap es bound (get_or heap o 0) c
        → Flats heap es bound low top vs (o + 1) ps o'
        → Flat heap es bound low top vs o (app c ps) o'

  pub data Flats (heap : List ℕ) (es : Entries) (bound low top : ℕ) (vs : List Variable) : ℕ → Patterns → ℕ → Type 0 where
    no_flats : {o : ℕ} → Flats heap es bound low top vs o []ₚ o
    one_flat : {o o₁ o' : ℕ} {p : Pattern} {ps : Patterns} → Flat heap es bound low top vs o p o₁ → Flats heap es bound low top vs o₁ ps o'
        → Flats heap es bound low top vs o (p ∷ₚ ps) o'

-- The same of a rule's premises.
pub data FlatList (heap : List ℕ) (es : Entries) (bound low top : ℕ) (vs : List Variable) : ℕ → List Pattern → ℕ → Type 0 where
  no_premises : {o : ℕ} → FlatList heap es bound low top vs o [] o
  one_premise : {o o₁ o' : ℕ} {p : Pattern} {ps : List Pattern} → Flat heap es bound low top vs o p o₁ → FlatList heap es bound low top vs o₁ ps o'
      → FlatList heap es bound low top vs o (p ∷ ps) o'

-- Variables, three words each: the bounds of the name and the sort.
pub data VariablesAt (text area : List ℕ) (es : Entries) : ℕ → List Variable → Type 0 where
  no_variables : {o : ℕ} → VariablesAt text area es o []
  one_variable : {o : ℕ} {name s : Name} {vs : List Variable}
      → part (get_or area o 0) (get_or area (o + 1) 0) text ≡ name
      → SortAt es (get_or area (o + 2) 0) s
      → VariablesAt text area es (o + places.variable_words) vs
      → VariablesAt text area es o (variable name s ∷ vs)

-- The entry of a rule.
pub record RuleWords (text heap : List ℕ) (es : Entries) (top e : ℕ) (name : Name) (vs : List Variable) (premises : List Pattern)
    (conclusion : Pattern) : Type 0 where
  pub low : places.entries ≤ e
  pub called : Memᴰ (entry e name) es.rules
  pub premise_count_lem : get_or heap (e + places.premise_count) 0 ≡ length premises
  pub variable_count_lem : get_or heap (e + places.variable_count) 0 ≡ length vs
  pub conclusion_place_lem : ℕ
  pub variables_place : ℕ
  pub to_conclusion : get_or heap (e + places.conclusion) 0 ≡ conclusion_place_lem
  pub to_variables : get_or heap (e + places.variables) 0 ≡ variables_place
  pub at_premises : FlatList heap es top (e + places.patterns) top vs (e + places.patterns) premises conclusion_place_lem
  pub at_conclusion : Flat heap es top (e + places.patterns) top vs conclusion_place_lem conclusion variables_place
  pub at_variables : VariablesAt text heap es variables_place vs
  pub rising : e + places.patterns ≤ variables_place
  pub high : variables_place + places.variable_words * length vs ≤ top

pub data RuleAt (text heap : List ℕ) (es : Entries) (top e : ℕ) : Rule → Type 0 where
  rule_at : {name : Name} {vs : List Variable} {premises : List Pattern} {conclusion : Pattern}
      → RuleWords text heap es top e name vs premises conclusion
      → RuleAt text heap es top e (rule name vs premises conclusion)

-- One kind of declared things: a table of their names below `top`, and what each address means.
pub record Declares (text heap : List ℕ) (top buckets : ℕ) (entries : List Entry) {A : Type 0} (test : Name → A → Bool) (Means : ℕ → A → Type 0)
    (things : List A) : Type 0 where
  pub table : Table heap buckets places.buckets places.entries text entries
  pub below : tables.top places.entries entries ≤ top
  pub stands : Stands test Means entries things

-- The words of the theory's area below `top` hold the theory.
pub record Holds (text heap : List ℕ) (es : Entries) (top : ℕ) (th : Theory) : Type 0 where
  pub long : length heap ≡ 16384
  pub sorts : Declares text heap top places.sorts es.sorts named (SortAt es) th.sorts
  pub constructors : Declares text heap top places.constructors es.constructors is_constructor (SymbolAt heap es top) th.symbols
  pub predicates : Declares text heap top places.predicates es.predicates is_predicate (SymbolAt heap es top) th.symbols
  pub rules : Declares text heap top places.rules es.rules is_rule (RuleAt text heap es top) th.rules
