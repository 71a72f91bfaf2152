-- A goals text that was read: the store has the goals' judgments with all their subterms and nothing else, and each goal's name is a
-- word.
use Prim.Native.Nat.{ℕ}
use mathlib.Core.Path.{◌≡◌, refl, sym, ap, subst, ◌∙◌}
use mathlib.Core.List.{List, [], ◌∷◌, ◌++◌, map, map-append}
use Rattle.horn.specs.Refusals.{ok}
use Rattle.horn.specs.Setting.{Setting}
use Rattle.horn.specs.Names.{Name, first}
use Rattle.horn.specs.NestedLists.{Item, word, group, Items, ◌then◌}
use Rattle.horn.specs.Rulebook.{Theory}
use Rattle.horn.specs.StoredTerms.{Term, node, Terms, []ₜ, Store, empty_store}
use Rattle.horn.specs.Checker.{Goal, goal, goal_judgment, goals_of}
use Rattle.horn.specs.Forced.{judgments}
use Rattle.horn.proofs.Inversion.{none-some}
use Rattle.horn.proofs.WasRead.{ReadTerm, read_abbreviation, read_constant, read_compound, ReadTerms, read_none, read_next, ReadJudgment}
use Rattle.horn.proofs.WasRead.{read_judgment, read_goal, ReadGoals, no_goal_read, next_goal_read, text_read}
use Rattle.horn.proofs.CompleteUtf8.{All, all_append}
use Rattle.horn.proofs.CompleteTokens.{Word}
use Rattle.horn.proofs.CompleteItems.{WordItem, a_word, a_group, WordItems, ◌then_words◌, items_words}
use Rattle.horn.proofs.CompleteStore.{kept, with_term, with_terms, with_all, with_all-append, request-kept}

-- Without abbreviations every term is stored after its arguments.
module _ {limits : Setting} {th : Theory} where
  mutual
    unfolding first with_term

    term_with : {item : Item} {s s' : Store} {t : Term} → ReadTerm limits th [] item s t s' → s' ≡ with_term t s
    term_with (read_abbreviation f same) = none-some f
    term_with (read_constant {c = c} {s = s} e a i) = request-kept limits (node c []ₜ) s i
    term_with (read_compound {c = c} {ts = ts} {s₁ = s₁} e rs z a i) = request-kept limits (node c ts) s₁ i ∙ ap (kept (node c ts)) (terms_with rs)

    terms_with : {is : Items} {s s' : Store} {ts : Terms} → ReadTerms limits th [] is s ts s' → s' ≡ with_terms ts s
    terms_with read_none = refl
    terms_with (read_next {ts = ts} r rs) = terms_with rs ∙ ap (with_terms ts) (term_with r)

  judgment_with : {name : Name} {is : Items} {s s' : Store} {j : Term} → ReadJudgment limits th [] name is s j s' → s' ≡ with_term j s
  unfolding with_term
  judgment_with (read_judgment {c = c} {ts = ts} {s₁ = s₁} e rs a i) = request-kept limits (node c ts) s₁ i ∙ ap (kept (node c ts)) (terms_with rs)

-- The name of a goal is a word.
abbrev pub GoalWord : Goal → Type 0
GoalWord (goal n j) = Word n

-- What is known of goals that were read, and of the store.
pub record Known (goals : List Goal) (store : Store) : Type 0 where
  pub has : store ≡ with_all (judgments goals) empty_store
  pub words : All GoalWord goals

known_more : (goals : List Goal) (s : Store) (n : Name) (j : Term) → Known goals s → Word n → Known (goals ++ (goal n j ∷ [])) (with_term j s)
unfolding judgments goal_judgment with_all
known_more goals s n j k w =
    record {
      has =
          ap (with_term j) k.has
          ∙ sym (with_all-append (map goal_judgment goals) (j ∷ []) empty_store)
          ∙ ap (λ js. with_all js empty_store) (sym (map-append goal_judgment goals (goal n j ∷ [])));
      words = all_append GoalWord goals (goal n j ∷ []) k.words (w, tt);
    }

-- The name of a goal is a word, where every atom of its form is one.
goal_name_lem : {head name : Name} {inner : Item} {rest : Items} → WordItem (group (word head then word name then inner then rest)) → Word name
goal_name_lem (a_group (a_word u then_words a_word w then_words ws)) = w

goals_known : {limits : Setting} {th : Theory} {goals more : List Goal} {is : Items} {s s' : Store} → ReadGoals limits th goals is s more s'
    → WordItems is
    → Known goals s
    → Known more s'
goals_known no_goal_read ws k = k
goals_known {goals} {s} (next_goal_read (read_goal {name = n} {j = j} new r) rs) (w then_words ws) k =
    goals_known rs ws (subst (Known (goals ++ (goal n j ∷ []))) (sym (judgment_with r)) (known_more goals s n j k (goal_name_lem w)))

pub read_known : (limits : Setting) (th : Theory) (text : List ℕ) {store : Store} {goals : List Goal} → goals_of limits th text empty_store ≡ ok (goals, store)
    → Known goals store
unfolding judgments with_all
read_known limits th text e = goals_known (text_read limits th text e).1 (items_words text) record { has = refl; words = tt }
