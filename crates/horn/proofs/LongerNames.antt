-- The theory of a longer rulebook extends that of the shorter: every declaration keeps its place among those of its kind, names stay distinct,
-- and a name that is known stands for the same. A name that is unknown may become known.
use Prim.Native.Nat.{ℕ}
use mathlib.Core.Path.{◌≡◌, sym, ap, subst, ◌∙◌}
use mathlib.Core.Bool.{Bool, true, false, true≢false}
use mathlib.Core.List.{List, [], ◌∷◌, ◌++◌, append-nil, append_assoc}
use mathlib.Core.Option.{some}
use lib.ListN.{get_elem?}
use Rattle.horn.specs.Refusals.{Refusal, ok, found}
use Rattle.horn.specs.Names.{Name, named, first, some_of}
use Rattle.horn.specs.Tokens.{Stream, Token, tokens}
use Rattle.horn.specs.NestedLists.{Sexp, Sexps}
use Rattle.horn.specs.Rulebook.{Output, sort, judgment, Symbol, symbol, Rule, rule, Theory, is_constructor, is_predicate, is_rule}
use Rattle.horn.specs.Rulebook.{constructor, predicate, rule_named, sort_named, declare_sort, empty_theory, theory}
use Rattle.horn.specs.Arising.{Declares, declares_none, declares_next}
use Rattle.horn.specs.Longer.{longer}
use Rattle.horn.proofs.Equality.{not-true, named_decides, chosen, some_of_false, at_member, at_longer, at_or_last}
use Rattle.horn.proofs.Inversion.{none-some, ok_equal, afterᵣ, onᵣ, need_on, after_needᵣ, was_found_lem, found_on}
use Rattle.horn.proofs.Declaring.{Declared, sort_declared, symbol_declared, rule_declared, declaration_by, declares_last}
use Rattle.horn.proofs.CompleteTheory.{first_longer}
use Rattle.horn.proofs.LongerTokens.{followed_by, tokens-longer}
use Rattle.horn.proofs.LongerTheory.{theory_followed}

-- One list begins another: what it has stands there at the same places, and whatever else behind it.
pub record Prefix {A : Type 0} (xs ys : List A) : Type 0 where
  pub behind : List A
  pub whole : ys ≡ xs ++ behind

pub place_kept : {A : Type 0} {xs ys : List A} → Prefix xs ys → (n : ℕ) {a : A} → get_elem? xs n ≡ some a → get_elem? ys n ≡ some a
place_kept {xs = xs} b n e = ap (λ zs. get_elem? zs n) b.whole ∙ at_longer xs b.behind n e

prefix_same : {A : Type 0} (xs : List A) → Prefix xs xs
prefix_same xs = record { behind = []; whole = sym (append-nil xs) }

prefix_more : {A : Type 0} (xs : List A) {ys : List A} (a : A) → Prefix (xs ++ (a ∷ [])) ys → Prefix xs ys
prefix_more xs a b = record { behind = a ∷ b.behind; whole = b.whole ∙ append_assoc xs (a ∷ []) b.behind }

-- Every declaration of the one theory keeps its place in the other.
pub record ExtendedBy (th later : Theory) : Type 0 where
  pub sorts_kept : Prefix th.sorts later.sorts
  pub symbols_kept : Prefix th.symbols later.symbols
  pub rules_kept : Prefix th.rules later.rules

-- A sort that was declared is behind those before it, and none of them has its name.
after_sort {ℓ} : {C : Type ℓ} (th : Theory) (n : Sexp) {next : Theory} → declare_sort th n ≡ ok next
    → ((name : Name) → next.sorts ≡ th.sorts ++ (name ∷ []) → some_of (named name) th.sorts ≡ false → C)
    → C
unfolding declare_sort
after_sort th n e k =
    afterᵣ _ e λ name e₁ e₂.
    after_needᵣ _ _ _ e₂ λ p e₃.
    k name (ap (λ (t : Theory). t.sorts) (sym (ok_equal e₃))) (not-true _ p)

declared_extends : {th next later : Theory} {n : Sexp} → Declared th n next → ExtendedBy next later → ExtendedBy th later
declared_extends {th} {later = later} {n = n} (sort_declared e) x =
    after_sort th n e λ name at new.
    record {
      sorts_kept = prefix_more th.sorts name (subst (λ ss. Prefix ss later.sorts) at x.sorts_kept);
      symbols_kept = x.symbols_kept;
      rules_kept = x.rules_kept;
    }
declared_extends {th} (symbol_declared {name = name} ins out e f g) x =
    record {
      sorts_kept = x.sorts_kept;
      symbols_kept = prefix_more th.symbols (symbol name ins out) x.symbols_kept;
      rules_kept = x.rules_kept;
    }
declared_extends {th} (rule_declared {name = name} xs j {q = q} {r = r} e₁ e₂ e f) x =
    record {
      sorts_kept = x.sorts_kept;
      symbols_kept = x.symbols_kept;
      rules_kept = prefix_more th.rules (rule name r.1 q.0 r.0) x.rules_kept;
    }

declares_extend : {th later : Theory} {xs : Sexps} → Declares th xs later → ExtendedBy th later
declares_extend {th} declares_none =
    record { sorts_kept = prefix_same th.sorts; symbols_kept = prefix_same th.symbols; rules_kept = prefix_same th.rules }
declares_extend (declares_next {th} {x = x} e d) = declared_extends (declaration_by th x e).has_declared (declares_extend d)

-- So it is where what follows the tokens of a rulebook is read and declared without a refusal.
pub followed_extends : (R text : List ℕ) (us : Stream Token) {th later : Theory} → theory R ≡ ok th → tokens text ≡ followed_by (tokens R) us
    → theory text ≡ ok later
    → ExtendedBy th later
followed_extends R text us {th} e same e₁ =
    afterᵣ _ (sym (theory_followed R text us e same) ∙ e₁) λ xs e₂ e₃. declares_extend (declares_last xs th e₃)

pub theory_extends : (R further : List ℕ) {th later : Theory} → theory R ≡ ok th → theory (longer R further) ≡ ok later → ExtendedBy th later
theory_extends R further e e₁ = followed_extends R (longer R further) (tokens further) e (tokens-longer R further) e₁

-- At most one entry of a list passes a test.
abbrev pub AtOnePlace : {A : Type 0} → (A → Bool) → List A → Type 0
AtOnePlace {A} test xs =
    (m n : ℕ) (a b : A) → get_elem? xs m ≡ some a → get_elem? xs n ≡ some b → test a ≡ true → test b ≡ true → m ≡ n

one_place_more : {A : Type 0} (test : A → Bool) (xs : List A) (c : A) → AtOnePlace test xs → (test c ≡ true → some_of test xs ≡ false)
    → AtOnePlace test (xs ++ (c ∷ []))
one_place_more test xs c one new m n a b e f t u =
    at_or_last xs m e
    (λ e₁. at_or_last xs n f (λ f₁. one m n a b e₁ f₁ t u) (λ p q. absurd (true≢false (sym t ∙ some_of_false test xs (new (sym (ap test q) ∙ u)) a (at_member xs m e₁)))))
    (λ p q. at_or_last xs n f (λ f₁. absurd (true≢false (sym u ∙ some_of_false test xs (new (sym (ap test q) ∙ t)) b (at_member xs n f₁)))) (λ p₁ q₁. p ∙ sym p₁))

none_there : {A : Type 0} (test : Name → A → Bool) (name : Name) → AtOnePlace (test name) []
none_there test name m n a b e f t u = none-some e

-- The same for every name, of an entry that only its own name finds.
named_more : {A : Type 0} (test : Name → A → Bool) (xs : List A) (c : A) (own : Name) → ((name : Name) → test name c ≡ true → name ≡ own)
    → (test own c ≡ true → some_of (test own) xs ≡ false)
    → ((name : Name) → AtOnePlace (test name) xs)
    → (name : Name) → AtOnePlace (test name) (xs ++ (c ∷ []))
named_more test xs c own only new one name =
    one_place_more (test name) xs c (one name)
    (λ t.
    let h = only name t in
    subst (λ n. some_of (test n) xs ≡ false) (sym h) (new (subst (λ n. test n c ≡ true) h t)))

-- No two sorts, constructors, predicates or rules have one name.
pub record DistinctNames (th : Theory) : Type 0 where
  pub sort_once : (name : Name) → AtOnePlace (named name) th.sorts
  pub constructor_once : (name : Name) → AtOnePlace (is_constructor name) th.symbols
  pub predicate_once : (name : Name) → AtOnePlace (is_predicate name) th.symbols
  pub rule_once : (name : Name) → AtOnePlace (is_rule name) th.rules

by_name : (own name : Name) → named name own ≡ true → name ≡ own
by_name own name t = named_decides.equal name own t

constructor_by_name : (own : Name) (ins : List Name) (out : Output) (name : Name) → is_constructor name (symbol own ins out) ≡ true → name ≡ own
unfolding is_constructor
constructor_by_name own ins (sort s) name t = by_name own name t
constructor_by_name own ins judgment name t = absurd (true≢false (sym t))

predicate_by_name : (own : Name) (ins : List Name) (out : Output) (name : Name) → is_predicate name (symbol own ins out) ≡ true → name ≡ own
unfolding is_predicate
predicate_by_name own ins (sort s) name t = absurd (true≢false (sym t))
predicate_by_name own ins judgment name t = by_name own name t

declared_distinct : {th next : Theory} {n : Sexp} → DistinctNames th → Declared th n next → DistinctNames next
unfolding is_rule
declared_distinct {th} {n = n} d (sort_declared e) =
    after_sort th n e λ name at new.
    record {
      sort_once = λ m. subst (AtOnePlace (named m)) (sym at) (named_more named th.sorts name name (by_name name) (λ t. new) d.sort_once m);
      constructor_once = d.constructor_once;
      predicate_once = d.predicate_once;
      rule_once = d.rule_once;
    }
declared_distinct {th} d (symbol_declared {name = name} ins out e f g) =
    let c = symbol name ins out in
    record {
      sort_once = d.sort_once;
      constructor_once = named_more is_constructor th.symbols c name (constructor_by_name name ins out) f d.constructor_once;
      predicate_once = named_more is_predicate th.symbols c name (predicate_by_name name ins out) g d.predicate_once;
      rule_once = d.rule_once;
    }
declared_distinct {th} d (rule_declared {name = name} xs j {q = q} {r = r} e₁ e₂ e f) =
    record {
      sort_once = d.sort_once;
      constructor_once = d.constructor_once;
      predicate_once = d.predicate_once;
      rule_once = named_more is_rule th.rules (rule name r.1 q.0 r.0) name (by_name name) (λ t. f) d.rule_once;
    }

declares_distinct : {th later : Theory} {xs : Sexps} → DistinctNames th → Declares th xs later → DistinctNames later
declares_distinct d declares_none = d
declares_distinct d (declares_next {th} {x = x} e ds) = declares_distinct (declared_distinct d (declaration_by th x e).has_declared) ds

-- So it is in the theory of every rulebook, and a longer rulebook is one.
pub theory_distinct : (rulebook : List ℕ) {th : Theory} → theory rulebook ≡ ok th → DistinctNames th
unfolding theory empty_theory
theory_distinct rulebook e =
    afterᵣ _ e λ xs e₁ e₂.
    declares_distinct
    record {
      sort_once = none_there named;
      constructor_once = none_there is_constructor;
      predicate_once = none_there is_predicate;
      rule_once = none_there is_rule;
    }
    (declares_last xs empty_theory e₂)

-- Looking a known name up gives the same.
known : {A : Type 0} (test : A → Bool) {xs ys : List A} → Prefix xs ys → (r : Refusal) {a : A} → found (first test xs) r ≡ ok a
    → found (first test ys) r ≡ ok a
known test {xs} b r e =
    was_found_lem (first test xs) r e λ f. found_on r (ap (first test) b.whole ∙ first_longer test xs b.behind f)

some_longer : {A : Type 0} (test : A → Bool) (xs ys : List A) → some_of test xs ≡ true → some_of test (xs ++ ys) ≡ true
unfolding some_of
some_longer test [] ys e = absurd (true≢false (sym e))
some_longer test (x ∷ xs) ys e =
    chosen (test x) e (λ t q. rw (t, some_of)) (λ t q. rw (t, some_of) (some_longer test xs ys q))

module _ {th later : Theory} (x : ExtendedBy th later) where
  -- Goals and certificate name no sort; the declarations of the further text do.
  pub sort_known : (n : Sexp) (name : Name) → sort_named th n ≡ ok name → sort_named later n ≡ ok name
  unfolding sort_named
  sort_known n name e =
      afterᵣ _ e λ m e₁ e₂.
      after_needᵣ _ _ _ e₂ λ p e₃.
      onᵣ _ e₁
      ∙ onᵣ _ (need_on _ (ap (some_of (named m)) x.sorts_kept.whole ∙ some_longer (named m) th.sorts x.sorts_kept.behind p))
      ∙ e₃

  pub constructor_known : (name : Name) (c : Symbol) → constructor th name ≡ ok c → constructor later name ≡ ok c
  unfolding constructor
  constructor_known name c e = known (is_constructor name) x.symbols_kept _ e

  pub predicate_known : (name : Name) (c : Symbol) → predicate th name ≡ ok c → predicate later name ≡ ok c
  unfolding predicate
  predicate_known name c e = known (is_predicate name) x.symbols_kept _ e

  pub rule_known : (name : Name) (r : Rule) → rule_named th name ≡ ok r → rule_named later name ≡ ok r
  unfolding rule_named
  rule_known name r e = known (is_rule name) x.rules_kept _ e
