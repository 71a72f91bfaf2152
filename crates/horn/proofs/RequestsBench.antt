-- Requests of the bench set, found and made; and that the bytes of the certificate alone do not bound them: a step that builds its conclusion
-- requests each of its nodes again, however short the step is. So the bound has the rulebook's bytes for each step.
use Prim.Native.Nat.{ℕ, ◌<◌, ◌^◌}
use mathlib.Core.Path.{◌≡◌, refl}
use mathlib.Core.List.{List}
use native.Mathlib.Omega.{arith}
use Rattle.horn.specs.Names.{codes}
use Rattle.horn.specs.Setting.{document01}
use Rattle.horn.specs.StoredTerms.{found_in, made_in}
use Rattle.horn.specs.Calls.{report}
use Rattle.horn.proofs.Run.{open_all}
use Rattle.horn.proofs.Bench.{text_r, text_g, text_c, bench_theory, bench_goals, bench_store, bench_final, bench_gives, bench_read}
use Rattle.horn.proofs.Firings.{released}
use Rattle.horn.proofs.Accepting.{AcceptedRun}
use Rattle.horn.proofs.Requests.{Shares, run_shares}
use Rattle.horn.proofs.RequestsBound.{thirty_two_bits_requests}
use Rattle.horn.proofs.SoundnessBench.{bench_progress, bench_taken}

-- The run of the bench set.
unfoldable pub bench_run : AcceptedRun document01 text_r text_g text_c (report 0 2 1 4 48 7)
unfolding open_all text_r text_g text_c
bench_run =
    record {
      release = record { goals = bench_goals; progress = bench_progress; store = bench_final };
      met =
          record {
            th = bench_theory;
            store = bench_store;
            short = omega arith;
            short_text = omega arith;
            short_certificate = omega arith;
            gives = bench_gives;
            read = bench_read;
            taken = bench_taken;
          };
      answers = refl;
    }

-- The theorems at it: found and made are 7 together, four are made, and 7 fits 32 bits.
pub bench_shares : Shares (report 0 2 1 4 48 7) bench_final.requests
unfolding bench_run
bench_shares = run_shares bench_run

pub bench_fits : 7 < 2 ^ 32
bench_fits = thirty_two_bits_requests bench_run

-- Each of them, computed.
pub bench_found : found_in bench_final.requests ≡ 3
unfolding found_in
bench_found = refl

pub bench_made : made_in bench_final.requests ≡ 4
unfolding made_in
bench_made = refl

-- A rule whose conclusion has 22 nodes, four of them distinct, and this conclusion as a goal.
unfoldable pub broad : List ℕ
broad = codes "(sort t)(ctor z () t)(ctor f (t t t t) t)(pred p (t))(rule r () (p (f (f z z z z) (f z z z z) (f z z z z) (f z z z z))))"

unfoldable pub broad_goal : List ℕ
broad_goal = codes "(goal g (p (f (f z z z z) (f z z z z) (f z z z z) (f z z z z))))"

-- The goal has 22 requests, and each step of 13 bytes 22 more.
pub record StepsRequest : Type 0 where
  pub one_step : released broad broad_goal (codes "(step 0 r ())(result g 0)") ≡ report 0 1 1 4 25 44
  pub two_steps : released broad broad_goal (codes "(step 0 r ())(step 1 r ())(result g 0)") ≡ report 0 2 1 4 38 66

pub steps_request : StepsRequest
unfolding broad broad_goal open_all
steps_request = record { one_step = refl; two_steps = refl }
