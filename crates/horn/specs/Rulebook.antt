-- "Rulebook" in document 01: what a rulebook declares, and how its declarations are judged.
use Rattle.std.specs.Prelude.{ℕ, zero, suc, Bool, true, false, not, ◌&&◌, List, [], ◌∷◌, ◌++◌, eqb, length}
use Rattle.std.proofs.Math.Option.{none, some}
use Rattle.horn.specs.Refusals.{Result, ok, refused, ◌>>=◌, need, found}
use Rattle.horn.specs.Refusals.{atom_or_list, empty_list, form, variable_name, unknown, duplicate, two_sorts, sort_arity, bracketed_constant}
use Rattle.horn.specs.Names.{Name, named, same_list, codes, questioned, bare, first, is_zero, some_of}
use Rattle.horn.specs.Tokens.{tokens}
use Rattle.horn.specs.NestedLists.{Sexp, leaf, list, Sexps, []ₛ, ◌∷ₛ◌, items, sexps}

-- What a symbol gives: a constructor gives a term of a sort, a predicate a judgment. A sort is its name.
pub data Output : Type 0 where
  sort : Name → Output
  judgment : Output

-- Whether two outputs are equal.
unfoldable pub same_output : Output → Output → Bool
same_output (sort s) (sort t) = named s t
same_output (sort s) judgment = false
same_output judgment (sort t) = false
same_output judgment judgment = true

-- A constructor or a predicate: its name, the sorts of its inputs, and what it gives.
pub data Symbol : Type 0 where
  symbol : Name → List Name → Output → Symbol

-- Whether two symbols are equal.
unfoldable pub same_symbol : Symbol → Symbol → Bool
same_symbol (symbol n is o) (symbol m js p) = named n m && same_list named is js && same_output o p

-- The input sorts of a symbol.
unfoldable pub inputs : Symbol → List Name
inputs (symbol name ins output) = ins

-- What a symbol gives.
unfoldable pub output : Symbol → Output
output (symbol name ins out) = out

-- A rule's variable: its name, with the `?`, and its sort.
pub data Variable : Type 0 where
  variable : Name → Name → Variable

-- The sort of a variable.
unfoldable pub sort_of : Variable → Name
sort_of (variable name s) = s

-- A term or a judgment in a rule: a variable, or a symbol with its arguments.
mutual
  pub data Pattern : Type 0 where
    var : Name → Pattern
    app : Symbol → Patterns → Pattern

  -- The arguments of a symbol in a rule, in order.
  pub data Patterns : Type 0 where
    []ₚ : Patterns
    ◌∷ₚ◌ : Pattern → Patterns → Patterns

infixr 20 ◌∷ₚ◌
-- A rule: its name, its variables, its premises and its conclusion.
pub data Rule : Type 0 where
  rule : Name → List Variable → List Pattern → Pattern → Rule

-- The variables of a rule.
unfoldable pub variables_of : Rule → List Variable
variables_of (rule name vs premises conclusion) = vs

-- The premises of a rule.
unfoldable pub premises_of : Rule → List Pattern
premises_of (rule name vs premises conclusion) = premises

-- The conclusion of a rule.
unfoldable pub conclusion_of : Rule → Pattern
conclusion_of (rule name vs premises conclusion) = conclusion

-- What is declared so far, each kind in order of declaration.
pub record Theory : Type 0 where
  pub sorts : List Name
  pub symbols : List Symbol
  pub rules : List Rule

-- Whether a symbol is the constructor of this name. "Sorts, constructors, predicates and rules have separate names": so each of
-- them has its own test, or its own list.
unfoldable pub is_constructor : Name → Symbol → Bool
is_constructor name (symbol n ins (sort s)) = named name n
is_constructor name (symbol n ins judgment) = false

-- Whether a symbol is the predicate of this name.
unfoldable pub is_predicate : Name → Symbol → Bool
is_predicate name (symbol n ins (sort s)) = false
is_predicate name (symbol n ins judgment) = named name n

-- Whether a rule has this name.
unfoldable pub is_rule : Name → Rule → Bool
is_rule name (rule n vs premises conclusion) = named name n

-- Whether a variable of a rule has this name.
unfoldable pub is_variable : Name → Variable → Bool
is_variable name (variable n s) = named name n

-- The constructor of a name: "An atom is a constructor (12)."
unfoldable pub constructor : Theory → Name → Result Symbol
constructor th name = found (first (is_constructor name) th.symbols) unknown

-- The predicate of a name: "a predicate (12)".
unfoldable pub predicate : Theory → Name → Result Symbol
predicate th name = found (first (is_predicate name) th.symbols) unknown

-- The rule of a name: "R 12".
unfoldable pub rule_named : Theory → Name → Result Rule
rule_named th name = found (first (is_rule name) th.rules) unknown

-- What must be an atom: "a head that is a list 7".
unfoldable pub atom_due : Sexp → Result Name
atom_due (leaf name) = ok name
atom_due (list xs) = refused atom_or_list

-- What must be a list: "inputs or premises given as an atom 7".
unfoldable pub list_due : Sexp → Result Sexps
list_due (leaf name) = refused atom_or_list
list_due (list xs) = ok xs

-- "N or S as a list is 7, with a leading `?` 11".
unfoldable pub declared_name : Sexp → Result Name
declared_name x = do
  name ← atom_due x
  _ ← need (not (questioned name)) variable_name
  ok name

-- "S unknown is 12."
unfoldable pub sort_named : Theory → Sexp → Result Name
sort_named th x = do
  name ← declared_name x
  _ ← need (some_of (named name) th.sorts) unknown
  ok name

-- "Inputs left to right": each is a sort.
unfoldable pub sorts_named : Theory → Sexps → Result (List Name)
sorts_named th []ₛ = ok []
sorts_named th (x ∷ₛ xs) = do
  s ← sort_named th x
  ss ← sorts_named th xs
  ok (s ∷ ss)

-- How many members a list has.
unfoldable pub count : Sexps → ℕ
count []ₛ = zero
count (x ∷ₛ xs) = suc (count xs)

-- "Output sort and length": whether a symbol gives what its place asks for and has as many inputs as there are arguments.
unfoldable pub fits : Symbol → Output → ℕ → Bool
fits (symbol name ins out) expected arguments = same_output out expected && eqb (length ins) arguments

-- What is read in a rule, and the rule's variables up to there.
abbrev pub Read : Type 0 → Type 0
Read A = Result (A × List Variable)

-- "In a term, `?` alone is 11; `?v` takes its place's sort, and at another sort is 14."
unfoldable pub variable_pattern : Name → Name → List Variable → Read Pattern
variable_pattern name s vs = do
  _ ← need (not (bare name)) variable_name
  elim (first (is_variable name) vs) [
    | none ↦ ok (var name, vs ++ (variable name s ∷ []))
    | some (variable n t) ↦ need (named s t) two_sorts >>= λ _. ok (var name, vs)
  ]

-- "An atom is a constructor (12)." "Then, atom or list, output sort and length, 15".
unfoldable pub constant_pattern : Theory → Name → Name → List Variable → Read Pattern
constant_pattern th name s vs = do
  c ← constructor th name
  _ ← need (fits c (sort s) zero) sort_arity
  ok (app c []ₚ, vs)

-- A term of a rule, at a place of sort s.
unfoldable mutual
  pub pattern : Theory → Sexp → Name → List Variable → Read Pattern
  pattern th (leaf name) s vs = elim (questioned name) [ true ↦ variable_pattern name s vs | false ↦ constant_pattern th name s vs ]
  pattern th (list xs) s vs = compound_pattern th xs s vs

  -- "A list: empty 8, head not an atom 7, length one 16, unknown 12. Then, atom or list, output sort and length, 15, before
  -- the arguments."
  pub compound_pattern : Theory → Sexps → Name → List Variable → Read Pattern
  compound_pattern th []ₛ s vs = refused empty_list
  compound_pattern th (x ∷ₛ xs) s vs = do
    name ← atom_due x
    _ ← need (not (is_zero (count xs))) bracketed_constant
    c ← constructor th name
    _ ← need (fits c (sort s) (count xs)) sort_arity
    (ps, ws) ← patterns th xs (inputs c) vs
    ok (app c ps, ws)

  -- The arguments, one for each input. Their number was tested before.
  pub patterns : Theory → Sexps → List Name → List Variable → Read Patterns
  patterns th []ₛ [] vs = ok ([]ₚ, vs)
  patterns th []ₛ (s ∷ ss) vs = refused sort_arity
  patterns th (x ∷ₛ xs) [] vs = refused sort_arity
  patterns th (x ∷ₛ xs) (s ∷ ss) vs = do
    (p, us) ← pattern th x s vs
    (ps, ws) ← patterns th xs ss us
    ok (p ∷ₚ ps, ws)

-- A judgment that is a list: "not empty (8), its head an atom (7) and a predicate (12), its length right (15), then its terms."
unfoldable pub judgment_members : Theory → Sexps → List Variable → Read Pattern
judgment_members th []ₛ vs = refused empty_list
judgment_members th (x ∷ₛ xs) vs = do
  name ← atom_due x
  p ← predicate th name
  _ ← need (fits p judgment (count xs)) sort_arity
  (ps, ws) ← patterns th xs (inputs p) vs
  ok (app p ps, ws)

-- "A judgment J is a list (else 7)".
unfoldable pub judgment_pattern : Theory → Sexp → List Variable → Read Pattern
judgment_pattern th x vs = list_due x >>= λ xs. judgment_members th xs vs

-- "Premises left to right".
unfoldable pub judgment_patterns : Theory → Sexps → List Variable → Read (List Pattern)
judgment_patterns th []ₛ vs = ok ([], vs)
judgment_patterns th (x ∷ₛ xs) vs = do
  (p, us) ← judgment_pattern th x vs
  (ps, ws) ← judgment_patterns th xs us
  ok (p ∷ ps, ws)

-- "`(sort N)`: N, then duplicate."
unfoldable pub declare_sort : Theory → Sexp → Result Theory
declare_sort th n = do
  name ← declared_name n
  _ ← need (not (some_of (named name) th.sorts)) duplicate
  ok record { sorts = th.sorts ++ (name ∷ []); symbols = th.symbols; rules = th.rules }

-- A theory with one more symbol.
unfoldable pub with_symbol : Theory → Symbol → Theory
with_symbol th s = record { sorts = th.sorts; symbols = th.symbols ++ (s ∷ []); rules = th.rules }

-- "`(ctor N (S...) S)`, `(pred N (S...))`: N, inputs left to right, output, duplicate." "Inputs or premises given as an
-- atom 7".
unfoldable pub declare_constructor : Theory → Sexp → Sexp → Sexp → Result Theory
declare_constructor th n is o = do
  name ← declared_name n
  xs ← list_due is
  ins ← sorts_named th xs
  out ← sort_named th o
  _ ← need (not (some_of (is_constructor name) th.symbols)) duplicate
  ok (with_symbol th (symbol name ins (sort out)))

-- "`(pred N (S...))`": the same, without an output.
unfoldable pub declare_predicate : Theory → Sexp → Sexp → Result Theory
declare_predicate th n is = do
  name ← declared_name n
  xs ← list_due is
  ins ← sorts_named th xs
  _ ← need (not (some_of (is_predicate name) th.symbols)) duplicate
  ok (with_symbol th (symbol name ins judgment))

-- "`(rule N (J...) J)`: premises left to right, conclusion, N, duplicate."
unfoldable pub declare_rule : Theory → Sexp → Sexp → Sexp → Result Theory
declare_rule th n js j = do
  xs ← list_due js
  (premises, us) ← judgment_patterns th xs []
  (conclusion, vs) ← judgment_pattern th j us
  name ← declared_name n
  _ ← need (not (some_of (is_rule name) th.rules)) duplicate
  ok record { sorts = th.sorts; symbols = th.symbols; rules = th.rules ++ (rule name vs premises conclusion ∷ []) }

-- "A head and length other than these 9": behind the head there must be one member.
unfoldable pub one_member : {A : Type 0} → Sexps → (Sexp → Result A) → Result A
one_member []ₛ f = refused form
one_member (x ∷ₛ []ₛ) f = f x
one_member (x ∷ₛ y ∷ₛ xs) f = refused form

-- The same where there must be two members.
unfoldable pub two_members : {A : Type 0} → Sexps → (Sexp → Sexp → Result A) → Result A
two_members []ₛ f = refused form
two_members (x ∷ₛ xs) f = one_member xs (f x)

-- The same where there must be three members.
unfoldable pub three_members : {A : Type 0} → Sexps → (Sexp → Sexp → Sexp → Result A) → Result A
three_members []ₛ f = refused form
three_members (x ∷ₛ xs) f = two_members xs (f x)

-- The heads of the four forms of a declaration, and any other head.
pub data DeclarationWord : Type 0 where
  sort_word ctor_word pred_word rule_word other_declaration : DeclarationWord

-- Which of these heads a name is.
unfoldable pub declaration_word : Name → DeclarationWord
declaration_word name =
    elim (named name (codes "sort")) [
      | true ↦ sort_word
      | false ↦ elim (named name (codes "ctor")) [
        | true ↦ ctor_word
        | false ↦ elim (named name (codes "pred")) [
          | true ↦ pred_word
          | false ↦ elim (named name (codes "rule")) [ true ↦ rule_word | false ↦ other_declaration ]
        ]
      ]
    ]

-- The four forms, each with its length: `(sort N)`, `(ctor N (S...) S)`, `(pred N (S...))`, `(rule N (J...) J)`. "A head and length other than
-- these 9."
unfoldable pub declare : Theory → DeclarationWord → Sexps → Result Theory
declare th sort_word xs = one_member xs (declare_sort th)
declare th ctor_word xs = three_members xs (declare_constructor th)
declare th pred_word xs = two_members xs (declare_predicate th)
declare th rule_word xs = three_members xs (declare_rule th)
declare th other_declaration xs = refused form

-- A declaration that is a list: "`()` 8, a head that is a list 7".
unfoldable pub headed_declaration : Theory → Sexps → Result Theory
headed_declaration th []ₛ = refused empty_list
headed_declaration th (x ∷ₛ xs) = do
  name ← atom_due x
  declare th (declaration_word name) xs

-- One declaration: "an atom is 7".
unfoldable pub declaration : Theory → Sexp → Result Theory
declaration th x = list_due x >>= headed_declaration th

-- "Declarations, in order", after those that have given a theory.
unfoldable pub declarations : Theory → Sexps → Result Theory
declarations th []ₛ = ok th
declarations th (x ∷ₛ xs) = do
  next ← declaration th x
  declarations next xs

-- What is declared before the first declaration.
unfoldable pub empty_theory : Theory
empty_theory = record { sorts = []; symbols = []; rules = [] }

-- The theory of a rulebook, or the first refusal. "All of the rulebook is read so before any declaration is judged."
unfoldable pub theory : List ℕ → Result Theory
theory text = do
  xs ← sexps (items (tokens text))
  declarations empty_theory xs
