-- Every atom of a layout is a word, and a layout has at least a byte for each instance.
use Prim.Native.Nat.{ℕ, suc, ◌≤◌}
use native.Mathlib.Omega.{arith}
use mathlib.Core.Path.{◌≡◌, refl, ap}
use mathlib.Core.List.{List, [], ◌∷◌, ◌++◌, map}
use lib.ListN.{length, length-append}
use Rattle.horn.specs.Names.{Name}
use Rattle.horn.specs.NestedLists.{Sexp, Sexps, []ₛ, ◌∷ₛ◌}
use Rattle.horn.specs.Rulebook.{symbol, sort, judgment, Theory}
use Rattle.horn.specs.StoredTerms.{Term, Terms}
use Rattle.horn.specs.Checker.{Goal, goal}
use Rattle.horn.specs.Forced.{Ground, ground, Grounds, WellSorted, well_sorted, Instance, IsInstance, conclusion}
use Rattle.horn.specs.Forced
use Rattle.horn.specs.Written.{symbol_name, constant_or, term_sexp, term_sexps, judgment_sexp}
use Rattle.horn.specs.Layout.{plain_all, step_sexp, step_sexps}
use Rattle.horn.specs.Layout.{result_sexp, layout_forms, printed, printed_lines, laid_out, Supported, no_instance, instance_then}
use Rattle.horn.proofs.SoundnessWords.{WellFormed, conclusion_well_sorted}
use Rattle.horn.proofs.CompleteUtf8.{All, all_append}
use Rattle.horn.proofs.CompleteTokens.{Word, WordsIn, leaf_word, list_words, AllWords, no_words, ◌and_words◌}
use Rattle.horn.proofs.CompleteTheory.{Lookups}
use Rattle.horn.proofs.CompleteNumbers.{plain_word, step_is_word, result_is_word}
use Rattle.horn.proofs.CompleteGoals.{GoalWord}

constant_words : (name : Name) (xs : Sexps) → Word name → AllWords xs → WordsIn (constant_or name xs)
unfolding constant_or
constant_words name []ₛ w ws = leaf_word w
constant_words name (x ∷ₛ xs) w ws = list_words (leaf_word w and_words ws)

plain_words : (ns : List ℕ) → AllWords (plain_all ns)
unfolding plain_all
plain_words [] = no_words
plain_words (n ∷ ns) = leaf_word (plain_word n) and_words plain_words ns

module _ (th : Theory) (l : Lookups th) where
  mutual
    unfolding term_sexp symbol_name

    term_words : {s : Name} {t : Term} → Ground th s t → WordsIn (term_sexp t)
    term_words (ground {name = name} {s = s} {ins = ins} {ts = ts} m gs) =
        constant_words name (term_sexps ts) (l.symbol_is_word (symbol name ins (sort s)) m).0 (terms_words gs)

    terms_words : {ins : List Name} {ts : Terms} → Grounds th ins ts → AllWords (term_sexps ts)
    terms_words Forced.no_ground = no_words
    terms_words (Forced.ground_then g gs) = term_words g and_words terms_words gs

  judgment_words : {j : Term} → WellSorted th j → WordsIn (judgment_sexp j)
  unfolding judgment_sexp symbol_name
  judgment_words (well_sorted {name = name} {ins = ins} m gs) =
      list_words (leaf_word (l.symbol_is_word (symbol name ins judgment) m).0 and_words terms_words gs)

  step_words_lem : (earlier : List Term) (i : Instance) → IsInstance th i → WellSorted th (conclusion i) → WordsIn (step_sexp earlier i)
  unfolding step_sexp
  step_words_lem earlier i is w =
      list_words
      (leaf_word step_is_word
      and_words leaf_word (plain_word (length earlier))
      and_words leaf_word (l.rule_is_word i.by_rule is.declared).0
      and_words list_words (plain_words _)
      and_words judgment_words w
      and_words no_words)

  steps_words : WellFormed th → {earlier : List Term} {is : List Instance} → Supported th earlier is → All WordsIn (step_sexps earlier is)
  unfolding step_sexps
  steps_words f no_instance = tt
  steps_words f (instance_then {earlier = earlier} {i = i} is e s) =
      (step_words_lem earlier i is (conclusion_well_sorted f i is), steps_words f s)

  results_words : (cs : List Term) (gs : List Goal) → All GoalWord gs → All WordsIn (map (result_sexp cs) gs)
  unfolding result_sexp
  results_words cs [] ws = tt
  results_words cs (goal n j ∷ gs) ws = (
    list_words
        (leaf_word result_is_word and_words leaf_word ws.0 and_words leaf_word (plain_word _) and_words no_words),
    results_words cs gs ws.1,
  )

  pub forms_words : WellFormed th → (goals : List Goal) {is : List Instance} → Supported th [] is → All GoalWord goals
      → All WordsIn (layout_forms goals is)
  unfolding layout_forms
  forms_words f goals {is} s ws =
      all_append WordsIn (step_sexps [] is) (map (result_sexp (map conclusion is)) goals) (steps_words f s)
      (results_words (map conclusion is) goals ws)

-- A layout has a line, and so a byte, for each form.
printed_long : (xs : List Sexp) → length xs ≤ length (printed_lines xs)
unfolding printed_lines
printed_long [] = omega arith
printed_long (x ∷ xs) = let h = printed_long xs in omega (arith, length-append (printed x) (0x0A ∷ printed_lines xs))

step_count : (earlier : List Term) (is : List Instance) → length (step_sexps earlier is) ≡ length is
unfolding step_sexps
step_count earlier [] = refl
step_count earlier (i ∷ is) = ap suc (step_count (earlier ++ (conclusion i ∷ [])) is)

pub layout_long : (goals : List Goal) (is : List Instance) → length is ≤ length (laid_out goals is)
unfolding laid_out layout_forms
layout_long goals is =
    let h = printed_long (step_sexps [] is ++ map (result_sexp (map conclusion is)) goals) in
    let k = step_count [] is in
    omega (arith, length-append (step_sexps [] is) (map (result_sexp (map conclusion is)) goals))
