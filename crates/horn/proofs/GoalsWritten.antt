-- A goals text that is read without refusal has the goals that reading gives: it consists of their forms `(goal N J)`, J
-- written out and well-sorted.
use Prim.Native.Nat.{ℕ, ◌≤◌}
use mathlib.Core.Path.{◌≡◌, refl, sym, ap, ap₂, subst, ◌∙◌}
use mathlib.Core.Bool.{true, false, true≢false}
use mathlib.Core.List.{List, [], ◌∷◌, ◌++◌, map, append_assoc, append-nil}
use lib.ListN.{length}
use Rattle.horn.specs.Refusals.{Result, ok, refused}
use Rattle.horn.specs.Setting.{Setting}
use Rattle.horn.specs.Names.{Name, codes, first, is_zero}
use Rattle.horn.specs.NestedLists.{Item, word, group, Items, closed, ◌then◌, as_item, as_items, top_items}
use Rattle.horn.specs.Rulebook.{Symbol, symbol, sort, judgment, Theory, is_constructor, is_predicate}
use Rattle.horn.specs.StoredTerms.{Term, Terms, []ₜ, ◌∷ₜ◌, Store, empty_store, width}
use Rattle.horn.specs.Checker.{Goal, goal_judgment, goals_of}
use Rattle.horn.specs.Written.{symbol_name, constant_or, term_sexp, term_sexps, judgment_sexp, goal_sexp}
use Rattle.horn.specs.Forced.{WellSorted, Each, judgments, HasGoals, ReadWithoutRefusal}
use Rattle.horn.proofs.Equality.{named_decides}
use Rattle.horn.proofs.Inversion.{not_ok, none-some}
use Rattle.horn.proofs.WasRead.{ReadTerm, read_abbreviation, read_constant, read_compound, ReadTerms, read_none, read_next, ReadJudgment}
use Rattle.horn.proofs.WasRead.{read_judgment, ReadGoal, read_goal, ReadGoals, no_goal_read, next_goal_read, text_read}
use Rattle.horn.proofs.SoundnessPatterns.{constructor_declared_lem, predicate_declared_lem}
use Rattle.horn.proofs.SoundnessReading.{judgment_sorted}

constructor_name : (name : Name) (c : Symbol) → is_constructor name c ≡ true → name ≡ symbol_name c
unfolding is_constructor symbol_name
constructor_name name (symbol n ins (sort s)) e = named_decides.equal name n e
constructor_name name (symbol n ins judgment) e = absurd (true≢false (sym e))

predicate_name : (name : Name) (c : Symbol) → is_predicate name c ≡ true → name ≡ symbol_name c
unfolding is_predicate symbol_name
predicate_name name (symbol n ins (sort s)) e = absurd (true≢false (sym e))
predicate_name name (symbol n ins judgment) e = named_decides.equal name n e

bracketed : (n : Name) (ts : Terms) → is_zero (width ts) ≡ false → as_item (constant_or n (term_sexps ts)) ≡ group (word n then as_items (term_sexps ts))
unfolding is_zero width term_sexp constant_or as_item
bracketed n []ₜ e = absurd (true≢false e)
bracketed n (t ∷ₜ ts) e = refl

-- The goals that were read after some goals, and the items that they were read from.
record AllWritten (th : Theory) (goals more : List Goal) (is : Items) : Type 0 where
  news : List Goal
  all_added : more ≡ goals ++ news
  forms : is ≡ top_items (map goal_sexp news)
  all_sorted : Each (WellSorted th) (map goal_judgment news)

module _ {limits : Setting} {th : Theory} where
  mutual
    unfolding term_sexp constant_or as_item first

    term_written : {item : Item} {s s' : Store} {t : Term} → ReadTerm limits th [] item s t s' → item ≡ as_item (term_sexp t)
    term_written (read_abbreviation f same) = none-some f
    term_written (read_constant {name = name} {c = c} e a i) = ap word (constructor_name name c (constructor_declared_lem th name e).1)
    term_written (read_compound {name = name} {c = c} {ts = ts} e rs z a i) =
        ap₂ (λ x is. group (word x then is)) (constructor_name name c (constructor_declared_lem th name e).1) (terms_written rs)
        ∙ sym (bracketed (symbol_name c) ts z)

    terms_written : {is : Items} {s s' : Store} {ts : Terms} → ReadTerms limits th [] is s ts s' → is ≡ as_items (term_sexps ts)
    terms_written read_none = refl
    terms_written (read_next r rs) = ap₂ ◌then◌ (term_written r) (terms_written rs)

  judgment_written : {name : Name} {rest : Items} {s s' : Store} {j : Term} → ReadJudgment limits th [] name rest s j s'
      → group (word name then rest) ≡ as_item (judgment_sexp j)
  unfolding judgment_sexp as_item
  judgment_written {name} (read_judgment {c = c} e rs a i) =
      ap₂ (λ x is. group (word x then is)) (predicate_name name c (predicate_declared_lem th name e).1) (terms_written rs)

  pub goal_written : {goals : List Goal} {item : Item} {s s' : Store} {g : Goal} → ReadGoal limits th goals item s g s' → item ≡ as_item (goal_sexp g)
  unfolding goal_sexp as_item
  goal_written (read_goal {name = name} new r) = ap (λ x. group (word (codes "goal") then word name then x then closed)) (judgment_written r)

  goal_sorted : {goals : List Goal} {item : Item} {s s' : Store} {g : Goal} → ReadGoal limits th goals item s g s' → WellSorted th (goal_judgment g)
  unfolding goal_judgment
  goal_sorted (read_goal new r) = judgment_sorted (λ d m. elim m [ ]) r

  goals_written : {goals more : List Goal} {is : Items} {s s' : Store} → ReadGoals limits th goals is s more s' → AllWritten th goals more is
  unfolding top_items
  goals_written {goals} no_goal_read = record { news = []; all_added = sym (append-nil goals); forms = refl; all_sorted = tt }
  goals_written {goals} (next_goal_read {g = g} r rs) =
      let ws = goals_written rs in
      record {
        news = g ∷ ws.news;
        all_added = ws.all_added ∙ append_assoc goals (g ∷ []) ws.news;
        forms = ap₂ ◌then◌ (goal_written r) ws.forms;
        all_sorted = (goal_sorted r, ws.all_sorted);
      }

module _ (limits : Setting) (th : Theory) where
  -- The goals that reading gives are goals that the text has.
  pub read_has : (text : List ℕ) {store : Store} {goals : List Goal} → goals_of limits th text empty_store ≡ ok (goals, store) → HasGoals th text goals
  unfolding judgments
  read_has text e =
      let ws = goals_written (text_read limits th text e).1 in
      subst (HasGoals th text) (sym ws.all_added) record { forms = ws.forms; sorted_judgments = ws.all_sorted }

  -- A goals text is read without refusal exactly if it is short enough and reading gives goals and a store.
  pub reading_gives : (text : List ℕ) → ReadWithoutRefusal limits th text
      → (q : List Goal × Store) × (goals_of limits th text empty_store ≡ ok q)
  reading_gives text r = by (goals_of limits th text empty_store) refl
    where
      by : (m : Result (List Goal × Store)) → goals_of limits th text empty_store ≡ m → (q : List Goal × Store) × (goals_of limits th text empty_store ≡ ok q)
      by (ok q) e = (q, e)
      by (refused x) e = absurd (r.none_met x e)

  pub given_reading : (text : List ℕ) {q : List Goal × Store} → length text ≤ limits.goals_bytes → goals_of limits th text empty_store ≡ ok q
      → ReadWithoutRefusal limits th text
  given_reading text short e = record { short = short; none_met = λ r f. not_ok (sym f ∙ e) }
