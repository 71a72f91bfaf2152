-- What a declaration that is not refused has declared: a sort, a symbol or a rule, by a name that stands behind its head. All that
-- is proved of theories goes over these.
use mathlib.Core.Path.{◌≡◌, sym, ap, subst, ◌∙◌}
use mathlib.Core.Bool.{true, false, true≢false}
use mathlib.Core.List.{List, [], ◌∷◌, ◌++◌}
use Rattle.horn.specs.Refusals.{ok, ◌>>=◌}
use Rattle.horn.specs.Names.{Name, some_of}
use Rattle.horn.specs.NestedLists.{Sexp, leaf, list, Sexps, []ₛ, ◌∷ₛ◌}
use Rattle.horn.specs.Rulebook
use Rattle.horn.specs.Rulebook.{Output, sort, judgment, symbol, Variable, Pattern, rule, Theory, is_constructor, is_predicate, is_rule}
use Rattle.horn.specs.Rulebook.{declared_name, with_symbol, judgment_pattern, judgment_patterns}
use Rattle.horn.specs.Rulebook.{DeclarationWord, sort_word, ctor_word, pred_word, rule_word, other_declaration}
use Rattle.horn.specs.Arising.{Declares, declares_none, declares_next}
use Rattle.horn.proofs.Equality.{not-true}
use Rattle.horn.proofs.Inversion.{after_one, after_two, after_three, not_ok, ok_equal, afterᵣ, after_needᵣ}

-- What a theory becomes by a declaration whose name is read from this member. For a sort only what `declare_sort` gives; its place is said in
-- LongerNames.
pub data Declared (th : Theory) (n : Sexp) : Theory → Type 0 where
  sort_declared : {sorts : List Name} → Rulebook.declare_sort th n ≡ ok record { sorts = sorts; symbols = th.symbols; rules = th.rules }
      → Declared th n record { sorts = sorts; symbols = th.symbols; rules = th.rules }
  symbol_declared : {name : Name} (ins : List Name) (out : Output) → declared_name n ≡ ok name
      → (is_constructor name (symbol name ins out) ≡ true → some_of (is_constructor name) th.symbols ≡ false)
      → (is_predicate name (symbol name ins out) ≡ true → some_of (is_predicate name) th.symbols ≡ false)
      → Declared th n record { sorts = th.sorts; symbols = th.symbols ++ (symbol name ins out ∷ []); rules = th.rules }
  rule_declared : {name : Name} (xs : Sexps) (j : Sexp) {q : List Pattern × List Variable} {r : Pattern × List Variable}
      → judgment_patterns th xs [] ≡ ok q
      → judgment_pattern th j q.1 ≡ ok r
      → declared_name n ≡ ok name
      → some_of (is_rule name) th.rules ≡ false
      → Declared th n record { sorts = th.sorts; symbols = th.symbols; rules = th.rules ++ (rule name r.1 q.0 r.0 ∷ []) }

-- A declaration: its head, the member that is its name, those behind, and what it has declared.
pub record DeclaredBy (th : Theory) (x : Sexp) (next : Theory) : Type 0 where
  pub head : Sexp
  pub name_member : Sexp
  pub behind : Sexps
  pub shape : x ≡ list (head ∷ₛ name_member ∷ₛ behind)
  pub has_declared : Declared th name_member next

module _ (th : Theory) where
  sort_is : (n : Sexp) {next : Theory} → Rulebook.declare_sort th n ≡ ok next → Declared th n next
  unfolding Rulebook.declare_sort
  sort_is n e =
      afterᵣ _ e λ name e₁ e₂.
      after_needᵣ _ _ _ e₂ λ p e₃.
      subst (Declared th n) (ok_equal e₃) (sort_declared (e ∙ sym e₃))

  constructor_is : (n is o : Sexp) {next : Theory} → Rulebook.declare_constructor th n is o ≡ ok next → Declared th n next
  unfolding Rulebook.declare_constructor with_symbol is_predicate
  constructor_is n is o e =
      afterᵣ _ e λ name e₁ e₂.
      afterᵣ _ e₂ λ xs e₃ e₄.
      afterᵣ _ e₄ λ ins e₅ e₆.
      afterᵣ _ e₆ λ out e₇ e₈.
      after_needᵣ _ _ _ e₈ λ p e₉.
      subst (Declared th n) (ok_equal e₉) (symbol_declared ins (sort out) e₁ (λ q. not-true _ p) (λ q. absurd (true≢false (sym q))))

  predicate_is : (n is : Sexp) {next : Theory} → Rulebook.declare_predicate th n is ≡ ok next → Declared th n next
  unfolding Rulebook.declare_predicate with_symbol is_constructor
  predicate_is n is e =
      afterᵣ _ e λ name e₁ e₂.
      afterᵣ _ e₂ λ xs e₃ e₄.
      afterᵣ _ e₄ λ ins e₅ e₆.
      after_needᵣ _ _ _ e₆ λ p e₇.
      subst (Declared th n) (ok_equal e₇) (symbol_declared ins judgment e₁ (λ q. absurd (true≢false (sym q))) (λ q. not-true _ p))

  rule_is : (n js j : Sexp) {next : Theory} → Rulebook.declare_rule th n js j ≡ ok next → Declared th n next
  unfolding Rulebook.declare_rule
  rule_is n js j e =
      afterᵣ _ e λ xs e₁ e₂.
      afterᵣ _ e₂ λ q e₃ e₄.
      afterᵣ _ e₄ λ r e₅ e₆.
      afterᵣ _ e₆ λ name e₇ e₈.
      after_needᵣ _ _ _ e₈ λ p e₉.
      subst (Declared th n) (ok_equal e₉) (rule_declared xs j e₃ e₅ e₇ (not-true _ p))

  named_by : (h : Sexp) {n : Sexp} {xs : Sexps} (ys : Sexps) {next : Theory} → xs ≡ n ∷ₛ ys → Declared th n next → DeclaredBy th (list (h ∷ₛ xs)) next
  named_by h {n} ys e d = record { head = h; name_member = n; behind = ys; shape = ap (λ zs. list (h ∷ₛ zs)) e; has_declared = d }

  declare_by : (h : Sexp) (k : DeclarationWord) (xs : Sexps) {next : Theory} → Rulebook.declare th k xs ≡ ok next → DeclaredBy th (list (h ∷ₛ xs)) next
  unfolding Rulebook.declare
  declare_by h sort_word xs e = after_one xs _ e λ x p e₁. named_by h _ p (sort_is x e₁)
  declare_by h ctor_word xs e = after_three xs _ e λ x y z p e₁. named_by h _ p (constructor_is x y z e₁)
  declare_by h pred_word xs e = after_two xs _ e λ x y p e₁. named_by h _ p (predicate_is x y e₁)
  declare_by h rule_word xs e = after_three xs _ e λ x y z p e₁. named_by h _ p (rule_is x y z e₁)
  declare_by h other_declaration xs e = not_ok e

  pub declaration_by : (x : Sexp) {next : Theory} → Rulebook.declaration th x ≡ ok next → DeclaredBy th x next
  unfolding Rulebook.declaration Rulebook.headed_declaration Rulebook.list_due ◌>>=◌
  declaration_by (leaf name) e = not_ok e
  declaration_by (list []ₛ) e = not_ok e
  declaration_by (list (h ∷ₛ xs)) e = afterᵣ (Rulebook.atom_due h) e λ name e₁ e₂. declare_by h (Rulebook.declaration_word name) xs e₂

-- Declarations of which none is refused have been taken one after another.
pub declares_last : (xs : Sexps) (th : Theory) {last : Theory} → Rulebook.declarations th xs ≡ ok last → Declares th xs last
unfolding Rulebook.declarations
declares_last []ₛ th e = subst (Declares th []ₛ) (ok_equal e) declares_none
declares_last (x ∷ₛ xs) th e = afterᵣ _ e λ next e₁ e₂. declares_next e₁ (declares_last xs next e₂)
