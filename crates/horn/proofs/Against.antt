-- Inputs on which the definition answers as 01 says, and a wrong reading of it would not: one or more for each of document 01's
-- "Misreadings", one for each of some tests that might be left out or be off by one, and counts of requests (L1 of document 02).
use Prim.Native.Nat.{ℕ}
use mathlib.Core.Path.{◌≡◌, refl}
use mathlib.Core.List.{List, [], ◌∷◌, ◌++◌}
use lib.ListN.{replicate}
use Rattle.horn.specs.Names.{codes}
use Rattle.horn.specs.Setting.{document01}
use Rattle.horn.specs.Calls.{report, rulebook_report, rulebook_call, release_call}
use Rattle.horn.proofs.Run.{open_all}
use Rattle.horn.proofs.Bench.{text_r, text_g, text_c, tight_for}
use Rattle.horn.proofs.Firings.{released}

-- The misreadings; behind each sentence stands the number that it would lead to.
pub record AgainstMisreadings : Type 0 where
  -- "Judging a reference when it is read: 20, 21 and 22 come first": not 24
  pub count_first : released text_r text_g (codes "(step 0 base (9))") ≡ report 20 0 0 0 0 0
  pub binding_first : released text_r text_g (codes "(step 0 more (9) (?x z) (?x z))") ≡ report 21 0 0 0 0 0
  pub second_first : released text_r text_g (codes "(step 0 more (9) (hold z) (hold z))") ≡ report 22 0 0 0 0 0
  -- "Letting an equal second binding pass": not 0
  pub equal_binding : released text_r text_g (codes "(step 0 base ())(step 1 more (0) (?x z) (?x z))(result g 1)") ≡ report 21 0 0 0 0 0
  -- "Judging a rule's name before its patterns": not 11
  pub patterns_first : rulebook_call document01 16_384 16_384 16_384 16_384 (codes "(rule ?r () (q))") ≡ rulebook_report 12 0 0 0 0
  -- "Refusing arity before later arguments are read in a certificate": not 15
  pub arguments_first : released text_r text_g (codes "(def ?a (s z q))") ≡ report 12 0 0 0 0 0
  pub arguments_of_constant : released text_r text_g (codes "(def ?a (z q))") ≡ report 12 0 0 0 0 0

pub against_misreadings : AgainstMisreadings
unfolding text_r text_g open_all
against_misreadings =
    record {
      count_first = refl;
      binding_first = refl;
      second_first = refl;
      equal_binding = refl;
      patterns_first = refl;
      arguments_first = refl;
      arguments_of_constant = refl;
    }

-- A rulebook of two sorts, and R with a rule whose premise is its conclusion and one whose conclusion has a variable twice.
unfoldable pub two_sorted : List ℕ
two_sorted = codes "(sort a)(sort b)(ctor c () a)(pred p (b))(rule r ((p ?x)) (p ?x))"

unfoldable pub looped : List ℕ
unfolding text_r
looped = text_r ++ codes "(rule loop ((hold ?x)) (hold ?x))(pred same (t t))(rule refl () (same ?x ?x))"

-- Tests that might be left out or be off by one; behind each stands the number that would be answered then.
pub record AgainstOmissions : Type 0 where
  -- row 3, a bad line: not 29
  pub bad_line : released text_r text_g (0xFF ∷ []) ≡ report 3 0 0 0 0 0
  -- row 9, the head of a goal: not 6
  pub goal_head : released text_r (codes "(gaol)") [] ≡ report 9 0 0 0 0 0
  -- row 10, what stands behind a form: not 29
  pub behind_form : released text_r text_g (codes "(def ?a z z)") ≡ report 10 0 0 0 0 0
  -- "duplicate 13", of goals: not 29
  pub second_goal : released text_r (codes "(goal g (hold z))(goal g (hold z))") [] ≡ report 13 0 0 0 0 0
  -- row 14, a variable at two sorts: not 0
  pub two_sorts :
      rulebook_call document01 16_384 16_384 16_384 16_384 (codes "(sort a)(sort b)(pred p (a b))(rule r () (p ?x ?x))")
      ≡ rulebook_report 14 0 0 0 0
  -- "then 15 for arity and sorts", of an argument: not 29
  pub argument_sort : released two_sorted (codes "(goal g (p c))") [] ≡ report 15 0 0 0 0 0
  -- "bound already or wrong sort 21", of a binding: not 24
  pub binding_sort : released (two_sorted ++ codes "(ctor d () b)") (codes "(goal g (p d))") (codes "(step 0 r (0) (?x c))") ≡ report 21 0 0 0 0 0
  -- row 23, the stated conclusion: not 29
  pub stated_conclusion : released text_r text_g (codes "(step 0 base () (hold (s z)))") ≡ report 23 0 0 0 0 0
  -- "a variable binds first and must be equal later": not 29
  pub equal_later : released looped text_g (codes "(step 0 refl () (same z (s z)))") ≡ report 23 0 0 0 0 0
  -- "no earlier step 24", for a step that refers to itself: not 0
  pub own_conclusion : released looped (codes "(goal g (hold z))") (codes "(step 0 loop (0) (hold z))(result g 0)") ≡ report 24 0 0 0 0 0
  -- limits that are met exactly: not 2 and not 28
  pub limits_met : release_call (tight_for 48) 16_384 16_384 16_384 16_384 text_r text_g text_c ≡ report 0 2 1 4 48 7
  -- "256 `(` in R is 5": not 4
  pub deepest : rulebook_call document01 16_384 16_384 16_384 16_384 (replicate 256 0x28) ≡ rulebook_report 5 0 0 0 0
  -- "step 18446744073709551615 is 19, one more 18": not 18 for the first, not 19 for the second
  pub largest_number : released text_r text_g (codes "(step 18446744073709551615") ≡ report 19 0 0 0 0 0
  pub too_large : released text_r text_g (codes "(step 18446744073709551616") ≡ report 18 0 0 0 0 0
  -- row 27, the judgment of a result: not 0
  pub other_judgment : released text_r text_g (codes "(step 0 base ())(result g 0)") ≡ report 27 0 0 0 0 0

pub against_omissions : AgainstOmissions
unfolding text_r text_g text_c two_sorted looped open_all
against_omissions =
    record {
      bad_line = refl;
      goal_head = refl;
      behind_form = refl;
      second_goal = refl;
      two_sorts = refl;
      argument_sort = refl;
      binding_sort = refl;
      stated_conclusion = refl;
      equal_later = refl;
      own_conclusion = refl;
      limits_met = refl;
      deepest = refl;
      largest_number = refl;
      too_large = refl;
      other_judgment = refl;
    }

-- What is a request to the store and what is none; behind each stands the count that another reading would give. The bench set has 7.
pub record AgainstMiscounts : Type 0 where
  -- looking up an abbreviation is none, its own term is read once: not 9, not 10
  pub abbreviation : released text_r text_g (codes "(def ?a (s z))(step 0 base ())(step 1 more (0) (hold ?a))(result g 1)") ≡ report 0 2 1 4 69 8
  -- an abbreviation that is not used: not 7
  pub unused : released text_r text_g (codes "(def ?a z)(step 0 base ())(step 1 more (0))(result g 1)") ≡ report 0 2 1 4 55 8
  -- the term of a binding is requested, the bound variable is not: not 7, not 9
  pub binding : released text_r text_g (codes "(step 0 base ())(step 1 more (0) (?x z))(result g 1)") ≡ report 0 2 1 4 52 8
  -- a stated conclusion is requested as it is written: not 7
  pub stated : released text_r text_g (codes "(step 0 base ())(step 1 more (0) (hold (s z)))(result g 1)") ≡ report 0 2 1 4 58 8
  -- a refusal has none, whatever was requested before it: not 7
  pub refused_late : released text_r text_g (codes "(step 0 base ())(step 1 more (0))(result g 0)") ≡ report 27 0 0 0 0 0

pub against_miscounts : AgainstMiscounts
unfolding text_r text_g open_all
against_miscounts = record { abbreviation = refl; unused = refl; binding = refl; stated = refl; refused_late = refl }
