-- What the tests of lengths say: the definition's refusal by them, or what is behind them. Assumes nothing.
use Prim.Native.Nat.{ℕ, ◌≤◌}
use mathlib.Core.Path.{◌≡◌}
use mathlib.Core.Bool.{Bool, true, false}
use mathlib.Core.List.{List}
use lib.Dec.{leb}
use lib.ListN.{length}
use borrow.Author.Tests.{leb-true, leb-false}
use Rattle.std.proofs.Common.{true≢false}
use Rattle.checker_laws.specs.Below.horn.specs.Refusals.{Result, refused, area_short, text_long, need, ◌>>=◌}
use Rattle.checker_laws.specs.Below.horn.specs.Setting.{document01}
use Rattle.checker_laws.specs.Below.horn.specs.Calls.{Release, release_read}
use Rattle.checker_laws.specs.Below.horn.proofs.Equality.{case}
use Rattle.checker.specs.Below.outcomes.specs.Outcomes as outcomes
use Rattle.clearing.specs.Lengths.{long_enough}
use Rattle.clearing.proofs.Areas.{Long, long, areas_long_lem}
use Rattle.checker_laws.proofs.Whole.{judged}
use Rattle.checker_laws.proofs.Lengths.{area_short_lem, rulebook_long, goals_long, certificate_long, read_judged}
use Rattle.reports.specs.Lengths.{lengths_tested}

module _ (a b c d : ℕ) (rulebook goals certificate : List ℕ) where
  abbrev pub call_tested : outcomes.Outcome (Unit {0})
  call_tested = lengths_tested a b c d (length rulebook) (length goals) (length certificate)

  abbrev pub call_read : Result Release
  call_read = release_read document01 a b c d rulebook goals certificate

  -- What is behind the tests: all lengths are right, and what is read is what the texts say.
  pub record Passed : Type 0 where
    pub areas : Long a b c d
    pub short_rulebook : length rulebook ≤ 8192
    pub short_goals : length goals ≤ 8192
    pub short : length certificate ≤ 32768
    pub read : call_read ≡ judged rulebook goals certificate

  -- The three ways through the tests.
  pub data Tested : Type 0 where
    by_area : call_tested ≡ outcomes.refused 1 → call_read ≡ refused area_short → Tested
    by_text : call_tested ≡ outcomes.refused 2 → call_read ≡ refused text_long → Tested
    passed : call_tested ≡ outcomes.ok tt → Passed → Tested

  pub tested : Tested
  unfolding lengths_tested need ◌>>=◌
  tested =
      case (long_enough a b c d)
      (λ p. case (leb (length rulebook) 8192)
      (λ q. case (leb (length goals) 8192)
      (λ r. case (leb (length certificate) 32768)
      (λ s. passed (rw (p, q, r, s)) (all_right p q r s))
      (λ s. by_text (rw (p, q, r, s)) (certificate_long a b c d rulebook goals certificate p (leb-true _ _ q) (leb-true _ _ r) (leb-false _ _ s))))
      (λ r. by_text (rw (p, q, r)) (goals_long a b c d rulebook goals certificate p (leb-true _ _ q) (leb-false _ _ r))))
      (λ q. by_text (rw (p, q)) (rulebook_long a b c d rulebook goals certificate p (leb-false _ _ q))))
      (λ p. by_area (rw p) (area_short_lem a b c d rulebook goals certificate p))
    where
      all_right : long_enough a b c d ≡ true → leb (length rulebook) 8192 ≡ true → leb (length goals) 8192 ≡ true
          → leb (length certificate) 32768 ≡ true → Passed
      all_right p q r s =
          let short_rulebook : length rulebook ≤ 8192 = leb-true _ _ q in
          let short_goals : length goals ≤ 8192 = leb-true _ _ r in
          let short : length certificate ≤ 32768 = leb-true _ _ s in
          record {
            areas = long a b c d p;
            short_rulebook = short_rulebook;
            short_goals = short_goals;
            short = short;
            read = read_judged a b c d rulebook goals certificate p short_rulebook short_goals short;
          }

  pub passed_of : call_tested ≡ outcomes.ok tt → Passed
  passed_of e = by tested where
    by : Tested → Passed
    by (by_area t m) = let z : ◌≡◌ {A = Bool} true false = cc in absurd (true≢false z)
    by (by_text t m) = let z : ◌≡◌ {A = Bool} true false = cc in absurd (true≢false z)
    by (passed t p) = p

  -- Each area is long enough to be lent, and the certificate's length is a word.
  pub first_long : call_tested ≡ outcomes.ok tt → 16384 ≤ a
  first_long e = (passed_of e).areas.first

  pub second_long : call_tested ≡ outcomes.ok tt → 16384 ≤ b
  second_long e = (passed_of e).areas.second

  pub third_long : call_tested ≡ outcomes.ok tt → 16384 ≤ c
  third_long e = (passed_of e).areas.third

  pub fourth_long : call_tested ≡ outcomes.ok tt → 16384 ≤ d
  fourth_long e = (passed_of e).areas.fourth

  pub certificate_short : call_tested ≡ outcomes.ok tt → length certificate ≤ 32768
  certificate_short e = (passed_of e).short

pub ruleset lengths_right = (first_long, second_long, third_long, fourth_long, certificate_short)
