-- "Proved together" in document 01's "Marked firings": one joint statement about the definitions of the two calls, at
-- 01's limits, by computation.
use Prim.Native.Nat.{ℕ}
use mathlib.Core.Path.{◌≡◌, refl}
use mathlib.Core.List.{List, []}
use Rattle.horn.specs.Names.{codes}
use Rattle.horn.specs.Setting.{document01}
use Rattle.horn.specs.Calls.{Report, report, rulebook_report, rulebook_call, release_call}
use Rattle.horn.proofs.Run.{open_all}
use Rattle.horn.proofs.Bench.{text_r, text_g, text_c, result_twice}

-- The call with three texts, on areas just long enough.
abbrev pub released : List ℕ → List ℕ → List ℕ → Report
released = release_call document01 16_384 16_384 16_384 16_384

pub record Firings : Type 0 where
  -- the bench set
  pub bench_rulebook : rulebook_call document01 16_384 16_384 16_384 16_384 text_r ≡ rulebook_report 0 1 2 1 2
  pub bench : released text_r text_g text_c ≡ report 0 2 1 4 48 7
  -- rows 16, 17, 18, 21, 24, 29
  pub bracketed_constant : released text_r (codes "(goal g (hold (z)))") text_c ≡ report 16 0 0 0 0 0
  pub no_goal : released text_r [] text_c ≡ report 17 0 0 0 0 0
  pub not_number : released text_r text_g (codes "(step -0 base ())") ≡ report 18 0 0 0 0 0
  pub bad_binding : released text_r text_g (codes "(step 0 more (0) (?x z) (?x z))") ≡ report 21 0 0 0 0 0
  pub no_such_step : released text_r text_g (codes "(step 0 more (0))") ≡ report 24 0 0 0 0 0
  pub goal_open : released text_r text_g [] ≡ report 29 0 0 0 0 0
  -- `+0` for the first 0 in C
  pub plus : released text_r text_g (codes "(step +0 base ())\n(step 1 more (0))\n(result g 1)\n") ≡ report 0 2 1 4 49 7
  -- C with its result twice
  pub twice : released text_r text_g result_twice ≡ report 12 0 0 0 0 0
  -- G `(goal g (hold z))` with C `(step 0 base () (hold z))(result g 0)`
  pub stated : released text_r (codes "(goal g (hold z))") (codes "(step 0 base () (hold z))(result g 0)") ≡ report 0 1 1 2 37 4

pub firings : Firings
unfolding text_r text_g text_c result_twice open_all
firings =
    record {
      bench_rulebook = refl;
      bench = refl;
      bracketed_constant = refl;
      no_goal = refl;
      not_number = refl;
      bad_binding = refl;
      no_such_step = refl;
      goal_open = refl;
      plus = refl;
      twice = refl;
      stated = refl;
    }
