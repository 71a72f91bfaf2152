-- L4 on the bench set, with its conclusion computed; and inputs that show what each of its conditions is for and what is not promised.
use Prim.Native.Nat.{ℕ}
use mathlib.Core.Path.{◌≡◌, refl, ◌∙◌}
use mathlib.Core.List.{List, [], ◌++◌}
use native.Mathlib.Omega.{arith}
use Rattle.horn.specs.Setting.{document01}
use Rattle.horn.specs.Names.{codes}
use Rattle.horn.specs.Tokens.{end, ◌▹◌, atom, tokens}
use Rattle.horn.specs.Calls.{RulebookReport, rulebook_report, rulebook_call, report, release_call}
use Rattle.horn.specs.Forced.{LongEnough, Accepted}
use Rattle.horn.specs.Longer.{longer}
use Rattle.horn.proofs.Run.{open_all}
use Rattle.horn.proofs.Bench.{text_r, text_g, text_c, tight_for}
use Rattle.horn.proofs.Firings.{released, firings}
use Rattle.horn.proofs.Accepting.{answer_gives, gives_accepted}
use Rattle.horn.proofs.WordsBench.{bench_accepted}
use Rattle.horn.proofs.Longer.{longer_kept}

-- The call with the rulebook alone, on areas just long enough.
abbrev judged : List ℕ → RulebookReport
judged = rulebook_call document01 16_384 16_384 16_384 16_384

-- Further text for R: a comment, a sort, a constructor and a predicate with names of R's rules, and a rule.
unfoldable pub further : List ℕ
further = codes "; further\n(sort u)(ctor base () t)(pred more (u))(rule any () (hold ?y))"

long_enough_lem : LongEnough document01 20_000 16_384 18_000 16_385
unfolding open_all
long_enough_lem = record { first_area = omega arith; second_area = omega arith; third_area = omega arith; fourth_area = omega arith }

longer_accepts : Accepted document01 (longer text_r further)
unfolding open_all text_r further longer
longer_accepts = gives_accepted (answer_gives document01 16_384 16_384 16_384 16_384 (longer text_r further) refl).1

-- The theorem on the bench set: the release is accepted with its five counts under the longer rulebook, on other areas too.
pub bench_kept : release_call document01 20_000 16_384 18_000 16_385 (longer text_r further) text_g text_c ≡ report 0 2 1 4 48 7
unfolding open_all text_r text_g text_c
bench_kept =
    (longer_kept document01 20_000 16_384 18_000 16_385 (longer text_r further) text_g text_c).keeps text_r further 16_384 16_384 16_384 16_384 refl bench_accepted longer_accepts
    long_enough_lem refl
    ∙ firings.bench

-- The same by computing alone, and what the longer rulebook declares.
pub record LongerBench : Type 0 where
  pub declared : judged (longer text_r further) ≡ rulebook_report 0 2 3 2 3
  pub computed : released (longer text_r further) text_g text_c ≡ report 0 2 1 4 48 7
  -- a goal with the name of a rule, abbreviations with those of a constructor and a rule, that only the further text declares: not 11, not 13
  pub named_alike :
      released (longer text_r further) (codes "(goal any (hold (s z)))") (codes "(def ?base z)(def ?any z)(step 0 base ())(step 1 more (0) (?x ?base))(result any 1)")
      ≡ report 0 2 1 4 83 9

pub longer_bench : LongerBench
unfolding open_all text_r text_g text_c further longer
longer_bench = record { declared = refl; computed = refl; named_alike = refl }

-- A goal and a certificate by the rule that only the further text declares.
unfoldable pub new_goal : List ℕ
new_goal = codes "(goal g (hold z))"

unfoldable pub by_new_rule : List ℕ
by_new_rule = codes "(step 0 any () (hold z))(result g 0)"

-- "A refused release may become accepted; nothing is promised there."
pub record MayBecomeAccepted : Type 0 where
  pub unknown_before : released text_r new_goal by_new_rule ≡ report 12 0 0 0 0 0
  pub known_after : released (longer text_r further) new_goal by_new_rule ≡ report 0 1 1 2 36 4

pub may_become_accepted : MayBecomeAccepted
unfolding open_all text_r new_goal by_new_rule further longer
may_become_accepted = record { unknown_before = refl; known_after = refl }

-- "Let R be an accepted rulebook": the first part of a rulebook that is accepted need not be. Then no release is accepted under it
-- (`accepted_under` in Longer), whatever is accepted under the whole.
unfoldable pub broken_off : List ℕ
unfolding text_r
broken_off = text_r ++ codes "(rule any ()"

unfoldable pub its_rest : List ℕ
its_rest = codes "(hold ?y))"

pub record NotAcceptedAlone : Type 0 where
  pub part : judged broken_off ≡ rulebook_report 5 0 0 0 0
  pub whole : judged (longer broken_off its_rest) ≡ rulebook_report 0 1 2 1 3
  pub under_part : released broken_off text_g text_c ≡ report 5 0 0 0 0 0
  pub under_whole : released (longer broken_off its_rest) text_g text_c ≡ report 0 2 1 4 48 7

pub not_accepted_alone : NotAcceptedAlone
unfolding open_all text_r text_g text_c broken_off its_rest longer
not_accepted_alone = record { part = refl; whole = refl; under_part = refl; under_whole = refl }

-- "R, a new line and further text be accepted too": else the release is refused as the longer rulebook is, by a name declared twice or by
-- its length.
pub record LongerNotAccepted : Type 0 where
  pub declared_twice : released (longer text_r (codes "(sort t)")) text_g text_c ≡ report 13 0 0 0 0 0
  pub one_byte_more : release_call (tight_for 48) 16_384 16_384 16_384 16_384 (longer text_r []) text_g text_c ≡ report 2 0 0 0 0 0

pub longer_not_accepted : LongerNotAccepted
unfolding open_all text_r text_g text_c longer
longer_not_accepted = record { declared_twice = refl; one_byte_more = refl }

-- "A new line": without it an atom grows, and a comment swallows what is put behind it.
unfoldable pub commented : List ℕ
unfolding text_r
commented = text_r ++ codes ";"

unfoldable pub two_lines : List ℕ
two_lines = codes "(sort u)\n(ctor k () u)"

pub record NoNewLine : Type 0 where
  -- an atom
  pub two_atoms : tokens (longer (codes "a") (codes "b")) ≡ atom (codes "a") ▹ atom (codes "b") ▹ end
  pub one_atom : tokens (codes "a" ++ codes "b") ≡ atom (codes "ab") ▹ end
  -- the same in a rulebook
  pub two_names : judged (longer (text_r ++ codes "(sort u") (codes "v)")) ≡ rulebook_report 9 0 0 0 0
  pub grown : judged (text_r ++ codes "(sort u" ++ codes "v)") ≡ rulebook_report 0 2 2 1 2
  -- a comment: what it swallows is not declared, and no release can use it
  pub rule_read : released (longer commented (codes "(rule any () (hold ?y))")) new_goal by_new_rule ≡ report 0 1 1 2 36 4
  pub rule_swallowed : released (commented ++ codes "(rule any () (hold ?y))") new_goal by_new_rule ≡ report 12 0 0 0 0 0
  -- or what stands on the next line lacks it: an old release is refused with the rulebook
  pub sort_read : released (longer commented two_lines) text_g text_c ≡ report 0 2 1 4 48 7
  pub sort_swallowed : released (commented ++ two_lines) text_g text_c ≡ report 12 0 0 0 0 0
  -- where the rulebook is accepted all the same, so is the old release (`directly_prolongs` in Longer)
  pub kept_directly : released (commented ++ codes "(rule any () (hold ?y))") text_g text_c ≡ report 0 2 1 4 48 7

pub no_new_line : NoNewLine
unfolding open_all text_r text_g text_c new_goal by_new_rule commented two_lines longer
no_new_line =
    record {
      two_atoms = refl;
      one_atom = refl;
      two_names = refl;
      grown = refl;
      rule_read = refl;
      rule_swallowed = refl;
      sort_read = refl;
      sort_swallowed = refl;
      kept_directly = refl;
    }
