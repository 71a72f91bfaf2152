-- All declarations of a rulebook: what each function answers, and what it leaves of the variables and of the theory.
use Rattle.std.specs.Prelude.{ℕ, zero, suc, ◌+◌, ◌/◌, Bool, true, false, List, [], ◌∷◌, eqb, length}
use Rattle.std.specs.declared.option.Option as code
use Rattle.std.specs.declared.option.Option.TheVariants.{Some, None}
use Rattle.lex.specs.Answers as lex
use Rattle.lex.specs.Answers.{Answer, peeked, start}
use Rattle.words.specs.Parts.{part, same_bytes}
use Rattle.items.specs.Places as places
use Rattle.outcomes.specs.Outcomes.{Outcome, ok, refused, pick}
use Rattle.outcomes.specs.Leaving.{Did, ◌leaving◌, ◌>>=◌, beside}
use Rattle.words.specs.Sums.{sum32}
use Rattle.items.specs.Items.{read_on, list_due, head_due}
use Rattle.rules.specs.Below.variables.specs.Variables.{Areas}
use Rattle.items.specs.declared.Walk.{Walk}
use Rattle.symbols.specs.Symbols.{sort_declared, constructor_declared, predicate_declared}
use Rattle.rules.specs.Rules.{rule_declared}
use Rattle.theory.specs.declared.Form.{Form}
use Rattle.theory.specs.declared.Form.TheVariants.{Sort, Constructor, Predicate, Rule, Other}
use Rattle.theory.specs.declared.Counts.{Counts}

-- Whether a declaration follows,
pub data Next : Type 0 where
  another : Walk → Next
  nothing : Next

-- as the code answers it.
abbrev pub next : code.Option Walk → Next
next (Some w) = another w
next None = nothing

-- The four heads.
abbrev pub sort_word : List ℕ
sort_word = 0x73 ∷ 0x6F ∷ 0x72 ∷ 0x74 ∷ []

abbrev pub ctor_word : List ℕ
ctor_word = 0x63 ∷ 0x74 ∷ 0x6F ∷ 0x72 ∷ []

abbrev pub pred_word : List ℕ
pred_word = 0x70 ∷ 0x72 ∷ 0x65 ∷ 0x64 ∷ []

abbrev pub rule_word : List ℕ
rule_word = 0x72 ∷ 0x75 ∷ 0x6C ∷ 0x65 ∷ []

-- A form if its length is right: "a head and length other than these 9".
abbrev pub sized : Bool → Form → Form
sized true form = form
sized false form = Other

unfoldable pub form_named : List ℕ → ℕ → Form
form_named name members =
    pick (same_bytes name sort_word) (λ _. sized (eqb members 2) Sort)
    (λ _. pick (same_bytes name ctor_word) (λ _. sized (eqb members 4) Constructor)
    (λ _. pick (same_bytes name pred_word) (λ _. sized (eqb members 3) Predicate)
    (λ _. pick (same_bytes name rule_word) (λ _. sized (eqb members 4) Rule) (λ _. Other))))

unfoldable pub form_of : List ℕ → ℕ → ℕ → ℕ → Form
form_of text s t members = form_named (part s t text) members

-- A declaration by its form.
abbrev pub declared_by : Form → List ℕ → List ℕ → Walk → List ℕ → List ℕ → Did Areas Walk
declared_by Sort text counts w vars heap = beside vars (sort_declared text counts w heap)
declared_by Constructor text counts w vars heap = beside vars (constructor_declared text counts w heap)
declared_by Predicate text counts w vars heap = beside vars (predicate_declared text counts w heap)
declared_by Rule text counts w vars heap = rule_declared text counts w vars heap
declared_by Other text counts w vars heap = refused 9 leaving (vars, heap)

-- "An atom is 7, `()` 8, a head that is a list 7, a head and length other than these 9."
unfoldable pub declaration : List ℕ → List ℕ → Walk → List ℕ → List ℕ → Did Areas (Form × Walk)
declaration text counts w vars heap = do
  ((members, q), (vars, heap)) ← list_due text counts w leaving (vars, heap)
  ((s, t, q), (vars, heap)) ← head_due text counts members q leaving (vars, heap)
  (q, (vars, heap)) ← declared_by (form_of text s t members) text counts q vars heap
  ok (form_of text s t members, q) leaving (vars, heap)

-- One more of a form.
abbrev pub counted : Counts → Form → Counts
counted c Sort = record { sorts = sum32 c.sorts 1; constructors = c.constructors; predicates = c.predicates; rules = c.rules }
counted c Constructor = record { sorts = c.sorts; constructors = sum32 c.constructors 1; predicates = c.predicates; rules = c.rules }
counted c Predicate = record { sorts = c.sorts; constructors = c.constructors; predicates = sum32 c.predicates 1; rules = c.rules }
counted c Rule = record { sorts = c.sorts; constructors = c.constructors; predicates = c.predicates; rules = sum32 c.rules 1 }
counted c Other = c

-- What a look ahead at top level says.
abbrev pub more_from : Walk → Answer → Outcome Next
more_from w (lex.token t r) = ok (another (read_on w r))
more_from w lex.ended = ok nothing
more_from w (lex.refused n) = refused n

unfoldable pub more_due : List ℕ → Walk → Outcome Next
more_due text w = more_from w (peeked text w.reader)

-- One declaration and those behind it, which `rest` judges; or the counts, where none follows.
abbrev pub declarations_by : (Counts → Walk → List ℕ → List ℕ → Did Areas Counts) → Next → List ℕ → List ℕ → Counts → List ℕ → List ℕ → Did Areas Counts
declarations_by rest nothing text counts c vars heap = ok c leaving (vars, heap)
declarations_by rest (another w) text counts c vars heap = do
  ((form, q), (vars, heap)) ← declaration text counts w vars heap
  rest (counted c form) q vars heap

-- "Declarations, in order": a declaration has two bytes at least, so that half a text's bytes are more than enough fuel.
unfoldable pub declarations_from : ℕ → List ℕ → List ℕ → Counts → Walk → List ℕ → List ℕ → Did Areas Counts
declarations_from zero text counts c w vars heap = refused 4 leaving (vars, heap)
declarations_from (suc fuel) text counts c w vars heap = do
  (x, (vars, heap)) ← more_due text w leaving (vars, heap)
  declarations_by (declarations_from fuel text counts) x text counts c vars heap

-- Where the walk begins.
unfoldable pub start_walk : Walk
start_walk = record { reader = start; opened = 0; top = places.entries; variables = 0 }

unfoldable pub no_counts : Counts
no_counts = record { sorts = 0; constructors = 0; predicates = 0; rules = 0 }

-- The second walk: the judgment of all declarations, with the variables of the last rule and the theory as it leaves them.
unfoldable pub declarations : List ℕ → List ℕ → List ℕ → List ℕ → Did Areas Counts
declarations text counts vars heap = declarations_from (length text / 2 + 1) text counts no_counts start_walk vars heap
