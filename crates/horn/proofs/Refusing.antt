-- Which refusals the judging of declarations gives: 7, 8, 9 and 11 to 16. So once a rulebook is read whole, judging it gives neither 3 to
-- 6 nor 10.
use Prim.Native.Nat.{◌≤◌}
use mathlib.Core.Path.{◌≡◌}
use mathlib.Core.Bool.{Bool, true, false}
use mathlib.Core.List.{List, [], ◌∷◌, ◌++◌}
use mathlib.Core.Option.{Option, none, some}
use native.Mathlib.Omega.{arith}
use Rattle.horn.specs.Refusals.{Refusal, number, Result, ok, refused, need, found, ◌>>=◌}
use Rattle.horn.specs.Refusals.{atom_or_list, empty_list, form, variable_name, unknown, duplicate, two_sorts, sort_arity, bracketed_constant}
use Rattle.horn.specs.NestedLists.{Sexp, leaf, list, Sexps, []ₛ, ◌∷ₛ◌}
use Rattle.horn.specs.Names.{Name, named, questioned, first}
use Rattle.horn.specs.Rulebook.{inputs, Pattern, Variable, variable, is_variable, var, Theory}
use Rattle.horn.specs.Rulebook.{DeclarationWord, sort_word, ctor_word, pred_word, rule_word, other_declaration}
use Rattle.horn.specs.Rulebook.{constructor, predicate, atom_due, list_due, declared_name, sort_named, sorts_named, variable_pattern, constant_pattern}
use Rattle.horn.specs.Rulebook.{pattern, compound_pattern, patterns, judgment_members, judgment_pattern, judgment_patterns, declare_sort}
use Rattle.horn.specs.Rulebook.{declare_constructor, declare_predicate, declare_rule, one_member, two_members, three_members, declaration_word}
use Rattle.horn.specs.Rulebook.{declare, headed_declaration, declaration, declarations}
use Rattle.horn.proofs.Post.{either}

-- A result that is no refusal, or one of which something holds.
pub data Refuses {A : Type 0} (P : Refusal → Type 0) : Result A → Type 0 where
  refuses_none : {a : A} → Refuses P (ok a)
  refuses : (r : Refusal) → P r → Refuses P (refused r)

pub refuses_bind : {A B : Type 0} {P : Refusal → Type 0} {m : Result A} (f : A → Result B) → Refuses P m → ((a : A) → Refuses P (f a))
    → Refuses P (m >>= f)
unfolding ◌>>=◌
refuses_bind f (refuses_none {a}) k = k a
refuses_bind f (refuses r h) k = refuses r h

pub refuses_need : {P : Refusal → Type 0} (b : Bool) (r : Refusal) → P r → Refuses P (need b r)
unfolding need
refuses_need true r h = refuses_none
refuses_need false r h = refuses r h

pub refuses_found : {A : Type 0} {P : Refusal → Type 0} (o : Option A) (r : Refusal) → P r → Refuses P (found o r)
unfolding found
refuses_found none r h = refuses r h
refuses_found (some a) r h = refuses_none

-- The refusals of judging.
pub data Judging : Refusal → Type 0 where
  seven : Judging atom_or_list
  eight : Judging empty_list
  nine : Judging form
  eleven : Judging variable_name
  twelve : Judging unknown
  thirteen : Judging duplicate
  fourteen : Judging two_sorts
  fifteen : Judging sort_arity
  sixteen : Judging bracketed_constant

pub judging_number : {r : Refusal} → Judging r → (7 ≤ number r) × (number r ≡ 10 → ⊥)
unfolding number
judging_number seven = (omega arith, λ e. omega arith)
judging_number eight = (omega arith, λ e. omega arith)
judging_number nine = (omega arith, λ e. omega arith)
judging_number eleven = (omega arith, λ e. omega arith)
judging_number twelve = (omega arith, λ e. omega arith)
judging_number thirteen = (omega arith, λ e. omega arith)
judging_number fourteen = (omega arith, λ e. omega arith)
judging_number fifteen = (omega arith, λ e. omega arith)
judging_number sixteen = (omega arith, λ e. omega arith)

pub judging_last : {r : Refusal} → Judging r → number r ≤ 16
unfolding number
judging_last seven = omega arith
judging_last eight = omega arith
judging_last nine = omega arith
judging_last eleven = omega arith
judging_last twelve = omega arith
judging_last thirteen = omega arith
judging_last fourteen = omega arith
judging_last fifteen = omega arith
judging_last sixteen = omega arith

abbrev pub Judges : {A : Type 0} → Result A → Type 0
Judges = Refuses Judging

judges_atom : (x : Sexp) → Judges (atom_due x)
unfolding atom_due
judges_atom (leaf name) = refuses_none
judges_atom (list xs) = refuses atom_or_list seven

judges_list : (x : Sexp) → Judges (list_due x)
unfolding list_due
judges_list (leaf name) = refuses atom_or_list seven
judges_list (list xs) = refuses_none

judges_name : (x : Sexp) → Judges (declared_name x)
unfolding declared_name
judges_name x = refuses_bind _ (judges_atom x) λ name. refuses_bind _ (refuses_need _ variable_name eleven) λ _. refuses_none

module _ (th : Theory) where
  judges_sort : (x : Sexp) → Judges (sort_named th x)
  unfolding sort_named
  judges_sort x = refuses_bind _ (judges_name x) λ name. refuses_bind _ (refuses_need _ unknown twelve) λ _. refuses_none

  judges_sorts : (xs : Sexps) → Judges (sorts_named th xs)
  unfolding sorts_named
  judges_sorts []ₛ = refuses_none
  judges_sorts (x ∷ₛ xs) = refuses_bind _ (judges_sort x) λ s. refuses_bind _ (judges_sorts xs) λ ss. refuses_none

  judges_known : (name s : Name) (vs : List Variable) (o : Option Variable)
      → Judges {A = Pattern × List Variable}
      (elim o [ none ↦ ok (var name, vs ++ (variable name s ∷ [])) | some (variable n t) ↦ need (named s t) two_sorts >>= λ _. ok (var name, vs) ])
  judges_known name s vs none = refuses_none
  judges_known name s vs (some (variable n t)) = refuses_bind _ (refuses_need _ two_sorts fourteen) λ _. refuses_none

  judges_variable : (name s : Name) (vs : List Variable) → Judges (variable_pattern name s vs)
  unfolding variable_pattern
  judges_variable name s vs = refuses_bind _ (refuses_need _ variable_name eleven) λ _. judges_known name s vs (first (is_variable name) vs)

  judges_constant : (name s : Name) (vs : List Variable) → Judges (constant_pattern th name s vs)
  unfolding constant_pattern constructor
  judges_constant name s vs = refuses_bind _ (refuses_found _ unknown twelve) λ c. refuses_bind _ (refuses_need _ sort_arity fifteen) λ _. refuses_none

  mutual
    unfolding pattern constructor

    judges_pattern : (x : Sexp) (s : Name) (vs : List Variable) → Judges (pattern th x s vs)
    judges_pattern (leaf name) s vs = either Judges (questioned name) (judges_variable name s vs) (judges_constant name s vs)
    judges_pattern (list xs) s vs = judges_compound xs s vs

    judges_compound : (xs : Sexps) (s : Name) (vs : List Variable) → Judges (compound_pattern th xs s vs)
    judges_compound []ₛ s vs = refuses empty_list eight
    judges_compound (x ∷ₛ xs) s vs =
        refuses_bind _ (judges_atom x) λ name. refuses_bind _ (refuses_need _ bracketed_constant sixteen) λ _.
        refuses_bind _ (refuses_found _ unknown twelve) λ c. refuses_bind _ (refuses_need _ sort_arity fifteen) λ _.
        refuses_bind _ (judges_patterns xs (inputs c) vs) λ p. refuses_none

    judges_patterns : (xs : Sexps) (ss : List Name) (vs : List Variable) → Judges (patterns th xs ss vs)
    judges_patterns []ₛ [] vs = refuses_none
    judges_patterns []ₛ (s ∷ ss) vs = refuses sort_arity fifteen
    judges_patterns (x ∷ₛ xs) [] vs = refuses sort_arity fifteen
    judges_patterns (x ∷ₛ xs) (s ∷ ss) vs = refuses_bind _ (judges_pattern x s vs) λ p. refuses_bind _ (judges_patterns xs ss p.1) λ q. refuses_none

  judges_members : (xs : Sexps) (vs : List Variable) → Judges (judgment_members th xs vs)
  unfolding judgment_members predicate
  judges_members []ₛ vs = refuses empty_list eight
  judges_members (x ∷ₛ xs) vs =
      refuses_bind _ (judges_atom x) λ name. refuses_bind _ (refuses_found _ unknown twelve) λ p.
      refuses_bind _ (refuses_need _ sort_arity fifteen) λ _. refuses_bind _ (judges_patterns xs (inputs p) vs) λ q. refuses_none

  judges_judgment : (x : Sexp) (vs : List Variable) → Judges (judgment_pattern th x vs)
  unfolding judgment_pattern
  judges_judgment x vs = refuses_bind _ (judges_list x) λ xs. judges_members xs vs

  judges_judgments : (xs : Sexps) (vs : List Variable) → Judges (judgment_patterns th xs vs)
  unfolding judgment_patterns
  judges_judgments []ₛ vs = refuses_none
  judges_judgments (x ∷ₛ xs) vs = refuses_bind _ (judges_judgment x vs) λ p. refuses_bind _ (judges_judgments xs p.1) λ q. refuses_none

  judges_one : (xs : Sexps) (f : Sexp → Result Theory) → ((x : Sexp) → Judges (f x)) → Judges (one_member xs f)
  unfolding one_member
  judges_one []ₛ f k = refuses form nine
  judges_one (x ∷ₛ []ₛ) f k = k x
  judges_one (x ∷ₛ y ∷ₛ xs) f k = refuses form nine

  judges_two : (xs : Sexps) (f : Sexp → Sexp → Result Theory) → ((x y : Sexp) → Judges (f x y)) → Judges (two_members xs f)
  unfolding two_members
  judges_two []ₛ f k = refuses form nine
  judges_two (x ∷ₛ xs) f k = judges_one xs (f x) (k x)

  judges_three : (xs : Sexps) (f : Sexp → Sexp → Sexp → Result Theory) → ((x y z : Sexp) → Judges (f x y z)) → Judges (three_members xs f)
  unfolding three_members
  judges_three []ₛ f k = refuses form nine
  judges_three (x ∷ₛ xs) f k = judges_two xs (f x) (k x)

  judges_declare : (k : DeclarationWord) (xs : Sexps) → Judges (declare th k xs)
  unfolding declare declare_sort declare_constructor declare_predicate declare_rule
  judges_declare sort_word xs = judges_one xs _ λ n. refuses_bind _ (judges_name n) λ name. refuses_bind _ (refuses_need _ duplicate thirteen) λ _. refuses_none
  judges_declare ctor_word xs = judges_three xs _ λ n is o.
      refuses_bind _ (judges_name n) λ name. refuses_bind _ (judges_list is) λ ys. refuses_bind _ (judges_sorts ys) λ ins. refuses_bind _ (judges_sort o) λ out.
      refuses_bind _ (refuses_need _ duplicate thirteen) λ _. refuses_none
  judges_declare pred_word xs = judges_two xs _ λ n is.
      refuses_bind _ (judges_name n) λ name. refuses_bind _ (judges_list is) λ ys. refuses_bind _ (judges_sorts ys) λ ins.
      refuses_bind _ (refuses_need _ duplicate thirteen) λ _. refuses_none
  judges_declare rule_word xs = judges_three xs _ λ n js j.
      refuses_bind _ (judges_list js) λ ys. refuses_bind _ (judges_judgments ys []) λ p. refuses_bind _ (judges_judgment j p.1) λ q.
      refuses_bind _ (judges_name n) λ name. refuses_bind _ (refuses_need _ duplicate thirteen) λ _. refuses_none
  judges_declare other_declaration xs = refuses form nine

  judges_declaration : (x : Sexp) → Judges (declaration th x)
  unfolding declaration headed_declaration
  judges_declaration x = refuses_bind _ (judges_list x) λ ys. go ys
    where
      go : (ys : Sexps) → Judges (headed_declaration th ys)
      go []ₛ = refuses empty_list eight
      go (y ∷ₛ ys) = refuses_bind _ (judges_atom y) λ name. judges_declare (declaration_word name) ys

pub judges_declarations : (th : Theory) (xs : Sexps) → Judges (declarations th xs)
unfolding declarations
judges_declarations th []ₛ = refuses_none
judges_declarations th (x ∷ₛ xs) = refuses_bind _ (judges_declaration th x) λ next. judges_declarations next xs
