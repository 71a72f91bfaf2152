-- Goals are fixed by the texts: under the theory of a rulebook a goals text has at most one list of goals. For no two
-- constructors and no two predicates share a name, so that two well-sorted judgments that are written alike are equal.
use Prim.Native.Nat.{ℕ}
use mathlib.Core.Path.{◌≡◌, refl, sym, ap, ap₂, ◌∙◌}
use mathlib.Core.List.{List, [], ◌∷◌, map, Memᴰ}
use Rattle.horn.specs.Refusals.{ok}
use Rattle.horn.specs.Setting.{Setting}
use Rattle.horn.specs.Names.{Name, first}
use Rattle.horn.specs.NestedLists.{Item, word, group, Items, closed, ended, bad_line, ◌then◌, as_item, as_items, top_items}
use Rattle.horn.specs.NestedLists.{Sexp, leaf, list, Sexps, []ₛ, ◌∷ₛ◌}
use Rattle.horn.specs.Rulebook.{symbol, sort, judgment, Theory, theory, is_constructor, is_predicate}
use Rattle.horn.specs.StoredTerms.{Term, node, Terms, ◌∷ₜ◌, Store, empty_store}
use Rattle.horn.specs.Checker.{Goal, goal, goal_judgment, goals_of}
use Rattle.horn.specs.Written.{symbol_name, constant_or, term_sexp, term_sexps, judgment_sexp, goal_sexp}
use Rattle.horn.specs.Forced.{Ground, ground, Grounds, no_ground, ground_then, WellSorted, well_sorted, Each, judgments, HasGoals}
use Rattle.horn.proofs.Equality.{named_decides}
use Rattle.horn.proofs.Inversion.{some_equal}
use Rattle.horn.proofs.GoalsWritten.{read_has}
use Rattle.horn.proofs.CompleteTheory.{Lookups, theory_looks}

-- The nested list that an item is, whatever ends its lists. So nested lists that are the same items are equal.
unfoldable mutual
  form_of : Item → Sexp
  form_of (word name) = leaf name
  form_of (group inner) = list (forms_of inner)

  forms_of : Items → Sexps
  forms_of closed = []ₛ
  forms_of ended = []ₛ
  forms_of bad_line = []ₛ
  forms_of (item then rest) = form_of item ∷ₛ forms_of rest

unfoldable top_forms : Items → List Sexp
top_forms closed = []
top_forms ended = []
top_forms bad_line = []
top_forms (item then rest) = form_of item ∷ top_forms rest

mutual
  unfolding as_item form_of

  form_back : (x : Sexp) → form_of (as_item x) ≡ x
  form_back (leaf name) = refl
  form_back (list xs) = ap list (forms_back xs)

  forms_back : (xs : Sexps) → forms_of (as_items xs) ≡ xs
  forms_back []ₛ = refl
  forms_back (x ∷ₛ xs) = ap₂ ◌∷ₛ◌ (form_back x) (forms_back xs)

top_back : (xs : List Sexp) → top_forms (top_items xs) ≡ xs
unfolding top_items top_forms
top_back [] = refl
top_back (x ∷ xs) = ap₂ ◌∷◌ (form_back x) (top_back xs)

-- Names and arguments that are written alike are equal.
constant_parts : (n m : Name) (xs ys : Sexps) → constant_or n xs ≡ constant_or m ys → (n ≡ m) × (xs ≡ ys)
unfolding constant_or
constant_parts n m []ₛ []ₛ e = (cc, refl)
constant_parts n m []ₛ (y ∷ₛ ys) e = (cc, cc)
constant_parts n m (x ∷ₛ xs) []ₛ e = (cc, cc)
constant_parts n m (x ∷ₛ xs) (y ∷ₛ ys) e = (cc, cc)

module _ {th : Theory} (l : Lookups th) where
  constructor_told : (n m : Name) (is js : List Name) (s r : Name) → Memᴰ (symbol n is (sort s)) th.symbols
      → Memᴰ (symbol m js (sort r)) th.symbols
      → n ≡ m
      → symbol n is (sort s) ≡ symbol m js (sort r)
  unfolding is_constructor symbol_name
  constructor_told n m is js s r p q e =
      some_equal
      (sym (l.finds_constructor (symbol n is (sort s)) p (named_decides.same n))
      ∙ ap (λ x. first (is_constructor x) th.symbols) e
      ∙ l.finds_constructor (symbol m js (sort r)) q (named_decides.same m))

  predicate_told : (n m : Name) (is js : List Name) → Memᴰ (symbol n is judgment) th.symbols
      → Memᴰ (symbol m js judgment) th.symbols
      → n ≡ m
      → symbol n is judgment ≡ symbol m js judgment
  unfolding is_predicate symbol_name
  predicate_told n m is js p q e =
      some_equal
      (sym (l.finds_predicate (symbol n is judgment) p (named_decides.same n))
      ∙ ap (λ x. first (is_predicate x) th.symbols) e
      ∙ l.finds_predicate (symbol m js judgment) q (named_decides.same m))

  mutual
    unfolding term_sexp symbol_name

    term_told : {s r : Name} {t u : Term} → Ground th s t → Ground th r u → term_sexp t ≡ term_sexp u → t ≡ u
    term_told (ground {name = n} {s = s} {ins = is} {ts = ts} p gs) (ground {name = m} {s = r} {ins = js} {ts = us} q hs) e =
        let (same, parts) = constant_parts n m (term_sexps ts) (term_sexps us) e in
        ap₂ node (constructor_told n m is js s r p q same) (terms_told gs hs parts)

    terms_told : {ss rs : List Name} {ts us : Terms} → Grounds th ss ts → Grounds th rs us → term_sexps ts ≡ term_sexps us → ts ≡ us
    terms_told no_ground no_ground e = refl
    terms_told no_ground (ground_then h hs) e = cc
    terms_told (ground_then g gs) no_ground e = cc
    terms_told (ground_then g gs) (ground_then h hs) e = ap₂ ◌∷ₜ◌ (term_told g h cc) (terms_told gs hs cc)

  judgment_told : {j k : Term} → WellSorted th j → WellSorted th k → judgment_sexp j ≡ judgment_sexp k → j ≡ k
  unfolding judgment_sexp symbol_name
  judgment_told (well_sorted {name = n} {ins = is} {ts = ts} p gs) (well_sorted {name = m} {ins = js} {ts = us} q hs) e =
      ap₂ node (predicate_told n m is js p q cc) (terms_told gs hs cc)

  goal_told : (g h : Goal) → WellSorted th (goal_judgment g) → WellSorted th (goal_judgment h) → goal_sexp g ≡ goal_sexp h → g ≡ h
  unfolding goal_sexp goal_judgment
  goal_told (goal n j) (goal m k) v w e = let same = judgment_told v w cc in cc

  goals_told : (gs hs : List Goal) → Each (WellSorted th) (map goal_judgment gs) → Each (WellSorted th) (map goal_judgment hs)
      → map goal_sexp gs ≡ map goal_sexp hs
      → gs ≡ hs
  goals_told [] [] v w e = refl
  goals_told [] (h ∷ hs) v w e = cc
  goals_told (g ∷ gs) [] v w e = cc
  goals_told (g ∷ gs) (h ∷ hs) v w e = ap₂ ◌∷◌ (goal_told g h v.0 w.0 cc) (goals_told gs hs v.1 w.1 cc)

-- "They are fixed by the texts, not by the store."
pub goals_fixed : (rulebook text : List ℕ) {th : Theory} {goals others : List Goal} → theory rulebook ≡ ok th → HasGoals th text goals
    → HasGoals th text others
    → goals ≡ others
unfolding judgments
goals_fixed rulebook text {goals} {others} e g h =
    goals_told (theory_looks rulebook e) goals others g.sorted_judgments h.sorted_judgments
    (sym (top_back (map goal_sexp goals)) ∙ ap top_forms (sym g.forms ∙ h.forms) ∙ top_back (map goal_sexp others))

-- A goals text that is read without refusal has exactly the goals that reading gives.
pub read_exactly : (limits : Setting) (rulebook text : List ℕ) {th : Theory} {goals others : List Goal} {store : Store} → theory rulebook ≡ ok th
    → goals_of limits th text empty_store ≡ ok (goals, store)
    → HasGoals th text goals × (HasGoals th text others → others ≡ goals)
read_exactly limits rulebook text {th} e r =
    let has = read_has limits th text r in
    (has, λ h. goals_fixed rulebook text e h has)
