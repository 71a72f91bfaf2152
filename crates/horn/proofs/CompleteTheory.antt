-- In the theory of a rulebook each name finds what it was declared for, and is a word without a leading `?`.
use Prim.Native.Nat.{ℕ}
use mathlib.Core.Path.{◌≡◌, sym, subst}
use mathlib.Core.Bool.{Bool, true, false, true≢false}
use mathlib.Core.List.{List, [], ◌∷◌, ◌++◌, Memᴰ}
use mathlib.Core.Option.{some}
use Rattle.horn.specs.Refusals.{ok}
use Rattle.horn.specs.Names.{Name, questioned, first, some_of}
use Rattle.horn.specs.NestedLists.{Sexp, leaf, list, Sexps, ◌∷ₛ◌, items}
use Rattle.horn.specs.Tokens.{tokens}
use Rattle.horn.specs.Rulebook
use Rattle.horn.specs.Rulebook.{Symbol, symbol, Rule, rule, Theory, is_constructor, is_predicate, is_rule}
use Rattle.horn.specs.Arising.{Declares, declares_none, declares_next}
use Rattle.horn.specs.Written.{symbol_name}
use Rattle.horn.specs.Layout.{rule_name}
use Rattle.horn.proofs.Equality.{not-true, chosen, in_or_last}
use Rattle.horn.proofs.Inversion.{not_ok, none-some, ok_equal, afterᵣ, after_needᵣ}
use Rattle.horn.proofs.Declaring.{Declared, sort_declared, symbol_declared, rule_declared, declaration_by, declares_last}
use Rattle.horn.proofs.CompleteTokens.{Word, WordsIn, leaf_word, list_words, AllWords, ◌and_words◌}
use Rattle.horn.proofs.CompleteItems.{items_words, sexps_words}

-- The first entry that passes a test, where entries are added behind.
pub first_longer : {A : Type 0} (test : A → Bool) (xs ys : List A) {a : A} → first test xs ≡ some a → first test (xs ++ ys) ≡ some a
unfolding first
first_longer test [] ys e = none-some e
first_longer test (x ∷ xs) ys e =
    chosen (test x) e (λ t q. rw (t, first) q) (λ t q. rw (t, first) (first_longer test xs ys q))

pub first_last : {A : Type 0} (test : A → Bool) (xs : List A) (a : A) → some_of test xs ≡ false → test a ≡ true
    → first test (xs ++ (a ∷ [])) ≡ some a
unfolding first some_of
first_last test [] a e t = rw (t, first)
first_last test (x ∷ xs) a e t =
    chosen (test x) e
    (λ p q. absurd (true≢false q))
    (λ p q. rw (p, first) (first_last test xs a q t))

-- Looked up by its own name, each entry of a table is found, if the test knows it by that name.
abbrev pub Finds : {A : Type 0} → (Name → A → Bool) → (A → Name) → List A → Type 0
Finds {A} test name xs = (a : A) → Memᴰ a xs → test (name a) a ≡ true → first (test (name a)) xs ≡ some a

finds_more : {A : Type 0} (test : Name → A → Bool) (name : A → Name) (xs : List A) (b : A) → Finds test name xs
    → (test (name b) b ≡ true → some_of (test (name b)) xs ≡ false)
    → Finds test name (xs ++ (b ∷ []))
finds_more test name xs b f new a m t =
    in_or_last xs m
    (λ n. first_longer (test (name a)) xs (b ∷ []) (f a n t))
    (λ e.
    subst (λ z. test (name z) z ≡ true → first (test (name z)) (xs ++ (b ∷ [])) ≡ some z) (sym e)
    (λ u. first_last (test (name b)) xs b (new u) u) t)

abbrev pub NameWord : Name → Type 0
NameWord name = Word name × (questioned name ≡ false)

pub record Lookups (th : Theory) : Type 0 where
  pub finds_constructor : Finds is_constructor symbol_name th.symbols
  pub finds_predicate : Finds is_predicate symbol_name th.symbols
  pub finds_rule : Finds is_rule rule_name th.rules
  pub symbol_is_word : (c : Symbol) → Memᴰ c th.symbols → NameWord (symbol_name c)
  pub rule_is_word : (r : Rule) → Memᴰ r th.rules → NameWord (rule_name r)

words_more : {A : Type 0} (name : A → Name) (xs : List A) (b : A) → ((a : A) → Memᴰ a xs → NameWord (name a))
    → NameWord (name b)
    → (a : A) → Memᴰ a (xs ++ (b ∷ [])) → NameWord (name a)
words_more name xs b f w a m = in_or_last xs m (f a) (λ e. subst (λ z. NameWord (name z)) (sym e) w)

-- A name that was read in a rulebook is a word.
atom_word : (x : Sexp) {name : Name} → WordsIn x → Rulebook.atom_due x ≡ ok name → Word name
unfolding Rulebook.atom_due
atom_word (leaf n) (leaf_word w) e = subst Word (ok_equal e) w
atom_word (list xs) w e = not_ok e

name_word : (x : Sexp) {name : Name} → WordsIn x → Rulebook.declared_name x ≡ ok name → NameWord name
unfolding Rulebook.declared_name
name_word x w e =
    afterᵣ (Rulebook.atom_due x) e λ m e₁ e₂.
    after_needᵣ _ _ _ e₂ λ q e₃.
    subst NameWord (ok_equal e₃) (atom_word x w e₁, not-true _ q)

-- What was found by its name before a declaration is found by it afterwards, and so is what the declaration adds.
declared_looks : {th next : Theory} {n : Sexp} → Lookups th → WordsIn n → Declared th n next → Lookups next
unfolding symbol_name rule_name
declared_looks l w (sort_declared e) =
    record {
      finds_constructor = l.finds_constructor;
      finds_predicate = l.finds_predicate;
      finds_rule = l.finds_rule;
      symbol_is_word = l.symbol_is_word;
      rule_is_word = l.rule_is_word;
    }
declared_looks {th} {n = n} l w (symbol_declared {name = name} ins out e f g) =
    let c = symbol name ins out in
    record {
      finds_constructor = finds_more is_constructor symbol_name th.symbols c l.finds_constructor f;
      finds_predicate = finds_more is_predicate symbol_name th.symbols c l.finds_predicate g;
      finds_rule = l.finds_rule;
      symbol_is_word = words_more symbol_name th.symbols c l.symbol_is_word (name_word n w e);
      rule_is_word = l.rule_is_word;
    }
declared_looks {th} {n = n} l w (rule_declared {name = name} xs j {q = q} {r = r} e₁ e₂ e f) =
    let new = rule name r.1 q.0 r.0 in
    record {
      finds_constructor = l.finds_constructor;
      finds_predicate = l.finds_predicate;
      finds_rule = finds_more is_rule rule_name th.rules new l.finds_rule (λ t. f);
      symbol_is_word = l.symbol_is_word;
      rule_is_word = words_more rule_name th.rules new l.rule_is_word (name_word n w e);
    }

second_words : {h n : Sexp} {xs : Sexps} → WordsIn (list (h ∷ₛ n ∷ₛ xs)) → WordsIn n
second_words (list_words (v and_words w and_words ws)) = w

declares_look : {th later : Theory} {xs : Sexps} → AllWords xs → Lookups th → Declares th xs later → Lookups later
declares_look ws l declares_none = l
declares_look (w and_words ws) l (declares_next {th} {x = x} e d) =
    let b = declaration_by th x e in
    declares_look ws (declared_looks l (second_words (subst WordsIn b.shape w)) b.has_declared) d

pub theory_looks : (text : List ℕ) {th : Theory} → Rulebook.theory text ≡ ok th → Lookups th
unfolding Rulebook.theory Rulebook.empty_theory
theory_looks text e =
    afterᵣ _ e λ xs e₁ e₂.
    declares_look (sexps_words (items (tokens text)) (items_words text) e₁)
    record {
      finds_constructor = λ a m. elim m [ ];
      finds_predicate = λ a m. elim m [ ];
      finds_rule = λ a m. elim m [ ];
      symbol_is_word = λ a m. elim m [ ];
      rule_is_word = λ a m. elim m [ ];
    }
    (declares_last xs _ e₂)
