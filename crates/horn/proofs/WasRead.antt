-- What was read in a goals text or a certificate, if nothing was refused: terms, judgments and goals, each with the items that
-- it was read from, and the store before and after it. All that is proved of what is read goes over these.
use Prim.Native.Nat.{ℕ, suc}
use mathlib.Core.Path.{◌≡◌, refl, sym, ap, ap₂, subst, ◌∙◌}
use mathlib.Core.Bool.{true, false}
use mathlib.Core.List.{List, [], ◌∷◌, ◌++◌}
use mathlib.Core.Option.{some}
use lib.ListN.{length}
use Rattle.horn.specs.Refusals.{ok}
use Rattle.horn.specs.Setting.{Setting}
use Rattle.horn.specs.Tokens.{tokens}
use Rattle.horn.specs.Names.{Name, codes, questioned, first, is_zero, some_of}
use Rattle.horn.specs.NestedLists.{Item, word, group, Items, closed, ended, bad_line, ◌then◌, items}
use Rattle.horn.specs.Rulebook.{Symbol, inputs, Theory, constructor, predicate}
use Rattle.horn.specs.StoredTerms.{Term, node, Terms, []ₜ, ◌∷ₜ◌, Store, empty_store, width, request}
use Rattle.horn.specs.Checker
use Rattle.horn.specs.Checker.{Def, is_def, meaning, Goal, goal, is_goal, accepts, make, stored, word_due, group_due, ask, ask_word, ask_group, closing_due}
use Rattle.horn.proofs.Equality.{case, not-true, named_decides}
use Rattle.horn.proofs.Inversion.{not_ok, ok_equal, afterᵣ, after, given_is, afterₗ, after_need, after_found, absent_not, lift-absent, lift-refused}

-- What stood where `ask` and the like were not refused.
pub is_word_lem : (item : Item) {name : Name} → word_due item ≡ ok name → item ≡ word name
unfolding word_due
is_word_lem (word n) e = ap word (ok_equal e)
is_word_lem (group inner) e = not_ok e

pub is_group : (item : Item) {inner : Items} → group_due item ≡ ok inner → item ≡ group inner
unfolding group_due
is_group (word n) e = not_ok e
is_group (group inner) e = ap group (ok_equal e)

pub is_asked : (depth : ℕ) (is : Items) {q : Item × Items} → ask depth is ≡ ok q → is ≡ (q.0 then q.1)
unfolding ask
is_asked depth closed e = absent_not _ _ e
is_asked depth ended e = absent_not _ _ e
is_asked depth bad_line e = absent_not _ _ e
is_asked depth (item then rest) e = afterᵣ _ e λ u e₁ e₂. ap (λ q. q.0 then q.1) (ok_equal e₂)

pub is_asked_word : (depth : ℕ) (is : Items) {q : Name × Items} → ask_word depth is ≡ ok q → is ≡ (word q.0 then q.1)
unfolding ask_word
is_asked_word depth is e =
    afterᵣ _ e λ p e₁ e₂.
    afterᵣ _ e₂ λ name e₃ e₄.
    is_asked depth is e₁ ∙ ap (λ x. x then p.1) (is_word_lem p.0 e₃) ∙ ap (λ q. word q.0 then q.1) (ok_equal e₄)

pub is_asked_group : (depth : ℕ) (is : Items) {q : Items × Items} → ask_group depth is ≡ ok q → is ≡ (group q.0 then q.1)
unfolding ask_group
is_asked_group depth is e =
    afterᵣ _ e λ p e₁ e₂.
    afterᵣ _ e₂ λ inner e₃ e₄.
    is_asked depth is e₁ ∙ ap (λ x. x then p.1) (is_group p.0 e₃) ∙ ap (λ q. group q.0 then q.1) (ok_equal e₄)

pub is_at_closing : (is : Items) {u : Unit {0}} → closing_due is ≡ ok u → is ≡ closed
unfolding closing_due
is_at_closing closed e = refl
is_at_closing ended e = not_ok e
is_at_closing bad_line e = not_ok e
is_at_closing (item then rest) e = not_ok e

-- A term that was stored, and one that was made.
pub after_stored {ℓ} : {C : Type ℓ} (limits : Setting) (t : Term) (s : Store) {s' : Store} {u : Term} → stored limits t s ≡ ok (u, s')
    → (request limits t s ≡ ok s' → t ≡ u → C)
    → C
unfolding stored
after_stored limits t s e k =
    afterᵣ _ e λ after e₁ e₂. let p = ok_equal e₂ in k (e₁ ∙ ap ok (ap (λ q. q.1) p)) (ap (λ q. q.0) p)

after_make {ℓ} : {C : Type ℓ} (limits : Setting) (c : Symbol) (ts : Terms) (s : Store) {s' : Store} {t : Term} → make limits c ts s ≡ ok (t, s')
    → (accepts (inputs c) ts ≡ true → request limits (node c ts) s ≡ ok s' → node c ts ≡ t → C)
    → C
unfolding make
after_make limits c ts s e k = after_need _ _ _ _ e λ a e₁. after_stored limits (node c ts) s e₁ λ i same. k a i same

module _ (limits : Setting) (th : Theory) (defs : List Def) where
  mutual
    pub data ReadTerm : Item → Store → Term → Store → Type 0 where
      read_abbreviation : {name : Name} {d : Def} {s : Store} {t : Term} → first (is_def name) defs ≡ some d → meaning d ≡ t
          → ReadTerm (word name) s t s
      read_constant : {name : Name} {c : Symbol} {s s' : Store} → constructor th name ≡ ok c → accepts (inputs c) []ₜ ≡ true
          → request limits (node c []ₜ) s ≡ ok s'
          → ReadTerm (word name) s (node c []ₜ) s'
      read_compound : {name : Name} {c : Symbol} {rest : Items} {ts : Terms} {s s₁ s' : Store} → constructor th name ≡ ok c
          → ReadTerms rest s ts s₁
          → is_zero (width ts) ≡ false
          → accepts (inputs c) ts ≡ true
          → request limits (node c ts) s₁ ≡ ok s'
          → ReadTerm (group (word name then rest)) s (node c ts) s'

    pub data ReadTerms : Items → Store → Terms → Store → Type 0 where
      read_none : {s : Store} → ReadTerms closed s []ₜ s
      read_next : {item : Item} {rest : Items} {t : Term} {ts : Terms} {s s₁ s₂ : Store} → ReadTerm item s t s₁ → ReadTerms rest s₁ ts s₂
          → ReadTerms (item then rest) s (t ∷ₜ ts) s₂

  -- A judgment that was read behind its head, this name, from these items.
  pub data ReadJudgment (name : Name) (rest : Items) (s : Store) : Term → Store → Type 0 where
    read_judgment : {c : Symbol} {ts : Terms} {s₁ s' : Store} → predicate th name ≡ ok c → ReadTerms rest s ts s₁
        → accepts (inputs c) ts ≡ true
        → request limits (node c ts) s₁ ≡ ok s'
        → ReadJudgment name rest s (node c ts) s'

  atom_read : (name : Name) (s : Store) {s' : Store} {t : Term} → Checker.atom_term limits th defs name s ≡ ok (t, s') → ReadTerm (word name) s t s'
  unfolding Checker.atom_term
  atom_read name s {s'} {t} e =
      case (questioned name)
      (λ p. after_found _ _ _ _ (rw (p, Checker.atom_term) at e) λ d f e₁. given_is e₁ λ same q.
      subst (ReadTerm (word name) s t) q (read_abbreviation f same))
      (λ p. afterₗ _ _ _ (rw (p, Checker.atom_term) at e) λ c e₁ e₂.
      after_make limits c []ₜ s e₂ λ a i same. subst (λ u. ReadTerm (word name) s u s') same (read_constant e₁ a i))

  mutual
    unfolding Checker.term

    pub term_read : (item : Item) (depth : ℕ) (s : Store) {s' : Store} {t : Term} → Checker.term limits th defs depth item s ≡ ok (t, s')
        → ReadTerm item s t s'
    term_read (word name) depth s e = atom_read name s e
    term_read (group inner) depth s e = compound_read inner (suc depth) s e

    compound_read : (is : Items) (depth : ℕ) (s : Store) {s' : Store} {t : Term} → Checker.compound_term limits th defs depth is s ≡ ok (t, s')
        → ReadTerm (group is) s t s'
    compound_read closed depth s e = lift-absent _ _ _ e
    compound_read ended depth s e = lift-absent _ _ _ e
    compound_read bad_line depth s e = lift-absent _ _ _ e
    compound_read (item then rest) depth s {s'} e =
        afterₗ _ _ _ e λ u e₁ e₂.
        afterₗ _ _ _ e₂ λ name e₃ e₄.
        afterₗ _ _ _ e₄ λ c e₅ e₆.
        after _ e₆ λ ts s₁ e₇ e₈.
        after_need _ _ _ _ e₈ λ p e₉.
        after_make limits c ts s₁ e₉ λ a i same.
        subst (λ v. ReadTerm (group (item then rest)) s v s') same
        (subst (λ x. ReadTerm (group (x then rest)) s (node c ts) s') (sym (is_word_lem item e₃))
        (read_compound e₅ (arguments_read rest depth s e₇) (not-true _ p) a i))

    pub arguments_read : (is : Items) (depth : ℕ) (s : Store) {s' : Store} {ts : Terms} → Checker.arguments limits th defs depth is s ≡ ok (ts, s')
        → ReadTerms is s ts s'
    arguments_read closed depth s {s'} e = given_is e λ same q. subst (λ us. ReadTerms closed s us s') same (subst (ReadTerms closed s []ₜ) q read_none)
    arguments_read bad_line depth s e = lift-refused _ _ e
    arguments_read ended depth s e = lift-absent _ _ _ e
    arguments_read (item then rest) depth s {s'} e =
        afterₗ _ _ _ e λ u e₁ e₂.
        after _ e₂ λ t s₁ e₃ e₄.
        after _ e₄ λ ts s₂ e₅ e₆.
        given_is e₆ λ same q.
        subst (λ us. ReadTerms (item then rest) s us s') same
        (subst (ReadTerms (item then rest) s (t ∷ₜ ts)) q (read_next (term_read item depth s e₃) (arguments_read rest depth s₁ e₅)))

  pub asked_term_read : (depth : ℕ) (is : Items) (s : Store) {s' : Store} {q : Term × Items} → Checker.ask_term limits th defs depth is s ≡ ok (q, s')
      → (item : Item) × ReadTerm item s q.0 s'
  unfolding Checker.ask_term
  asked_term_read depth is s {s'} e =
      afterₗ _ _ _ e λ p e₁ e₂.
      after _ e₂ λ t s₁ e₃ e₄.
      given_is e₄ λ same q.
      (p.0, subst (λ z. ReadTerm p.0 s z.0 s') same (subst (ReadTerm p.0 s t) q (term_read p.0 depth s e₃)))

  pub judgment_read : (depth : ℕ) (name : Name) (is : Items) (s : Store) {s' : Store} {t : Term}
      → Checker.headed_judgment limits th defs depth name is s ≡ ok (t, s')
      → ReadJudgment name is s t s'
  unfolding Checker.headed_judgment
  judgment_read depth name is s {s'} e =
      afterₗ _ _ _ e λ c e₁ e₂.
      after _ e₂ λ ts s₁ e₃ e₄.
      after_make limits c ts s₁ e₄ λ a i same.
      subst (λ v. ReadJudgment name is s v s') same (read_judgment e₁ (arguments_read is depth s e₃) a i)

-- A goal that was read after other goals, and all that were read. In a goals text no abbreviation is known.
module _ (limits : Setting) (th : Theory) where
  pub data ReadGoal (goals : List Goal) : Item → Store → Goal → Store → Type 0 where
    read_goal : {name head : Name} {rest : Items} {s s' : Store} {j : Term} → some_of (is_goal name) goals ≡ false
        → ReadJudgment limits th [] head rest s j s'
        → ReadGoal goals (group (word (codes "goal") then word name then group (word head then rest) then closed)) s (goal name j) s'

  pub data ReadGoals : List Goal → Items → Store → List Goal → Store → Type 0 where
    no_goal_read : {goals : List Goal} {s : Store} → ReadGoals goals ended s goals s
    next_goal_read : {goals more : List Goal} {g : Goal} {item : Item} {rest : Items} {s s₁ s₂ : Store} → ReadGoal goals item s g s₁
        → ReadGoals (goals ++ (g ∷ [])) rest s₁ more s₂
        → ReadGoals goals (item then rest) s more s₂

  asked_judgment_read {ℓ} : {C : Type ℓ} (depth : ℕ) (is : Items) (s : Store) {s' : Store} {q : Term × Items}
      → Checker.ask_judgment limits th [] depth is s ≡ ok (q, s')
      → ((head : Name) (rest : Items) → is ≡ (group (word head then rest) then q.1) → ReadJudgment limits th [] head rest s q.0 s' → C)
      → C
  unfolding Checker.ask_judgment
  asked_judgment_read depth is s {s'} e k =
      afterₗ _ _ _ e λ p e₁ e₂.
      afterₗ _ _ _ e₂ λ p₁ e₃ e₄.
      after _ e₄ λ j s₁ e₅ e₆.
      given_is e₆ λ same q.
      k p₁.0 p₁.1
      (is_asked_group depth is e₁ ∙ ap (λ x. group x then p.1) (is_asked_word (suc depth) p.0 e₃)
      ∙ ap (λ z. group (word p₁.0 then p₁.1) then z.1) same)
      (subst (λ z. ReadJudgment limits th [] p₁.0 p₁.1 s z.0 s') same
      (subst (ReadJudgment limits th [] p₁.0 p₁.1 s j) q (judgment_read limits th [] (suc depth) p₁.0 p₁.1 s e₅)))

  pub goal_read : (goals : List Goal) (item : Item) (s : Store) {s' : Store} {more : List Goal} → Checker.goal_form limits th goals item s ≡ ok (more, s')
      → (g : Goal) × (goals ++ (g ∷ []) ≡ more) × ReadGoal goals item s g s'
  unfolding Checker.goal_form
  goal_read goals item s {s'} e =
      afterₗ _ _ _ e λ inner e₁ e₂.
      afterₗ _ _ _ e₂ λ p e₃ e₄.
      after_need _ _ _ _ e₄ λ h e₅.
      afterₗ _ _ _ e₅ λ p₁ e₆ e₇.
      after_need _ _ _ _ e₇ λ h₁ e₈.
      after _ e₈ λ p₂ s₁ e₉ f.
      afterₗ _ _ _ f λ u f₁ f₂.
      after_need _ _ _ _ f₂ λ new f₃.
      given_is f₃ λ same q.
      asked_judgment_read 1 p₁.1 s e₉ λ head rest at r. (
        goal p₁.0 p₂.0,
        same,
        subst (ReadGoal goals item s (goal p₁.0 p₂.0)) q
            (subst (λ x. ReadGoal goals x s (goal p₁.0 p₂.0) s₁)
            (sym
            (is_group item e₁
            ∙ ap group
            (is_asked_word 1 inner e₃
            ∙ ap₂ (λ x is. word x then is) (named_decides.equal p.0 (codes "goal") h)
            (is_asked_word 1 p.1 e₆
            ∙ ap (λ is. word p₁.0 then is) (at ∙ ap (λ is. group (word head then rest) then is) (is_at_closing p₂.1 f₁))))))
            (read_goal (not-true _ new) r)),
      )

  pub goals_read : (is : Items) (goals : List Goal) (s : Store) {s' : Store} {more : List Goal} → Checker.goal_forms limits th goals is s ≡ ok (more, s')
      → ReadGoals goals is s more s'
  unfolding Checker.goal_forms
  goals_read ended goals s {s'} e = given_is e λ same q. subst (λ gs. ReadGoals goals ended s gs s') same (subst (ReadGoals goals ended s goals) q no_goal_read)
  goals_read bad_line goals s e = lift-refused _ _ e
  goals_read closed goals s e = lift-refused _ _ e
  goals_read (item then rest) goals s {s'} {more} e =
      after _ e λ next s₁ e₁ e₂.
      let (g, added, r) = goal_read goals item s e₁ in
      next_goal_read r (subst (λ gs. ReadGoals gs rest s₁ more s') (sym added) (goals_read rest next s₁ e₂))

  -- The goals of a whole text. There is at least one.
  pub text_read : (text : List ℕ) {s : Store} {goals : List Goal} → Checker.goals_of limits th text empty_store ≡ ok (goals, s)
      → (is_zero (length goals) ≡ false) × ReadGoals [] (items (tokens text)) empty_store goals s
  unfolding Checker.goals_of
  text_read text {s} e =
      after _ e λ gs s₁ e₁ e₂.
      after_need _ _ _ _ e₂ λ p e₃.
      given_is e₃ λ same q.
      subst (λ z. (is_zero (length z) ≡ false) × ReadGoals [] (items (tokens text)) empty_store z s) same
      (not-true _ p, subst (ReadGoals [] (items (tokens text)) empty_store gs) q (goals_read (items (tokens text)) [] empty_store e₁))
