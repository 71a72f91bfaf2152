-- The call with the rulebook alone, case by case as the code goes. Assumes nothing.
use Prim.Native.Nat.{ℕ, ◌≤◌, ◌<◌}
use mathlib.Core.Path.{◌≡◌, sym, ap, ◌∙◌}
use mathlib.Core.Bool.{Bool, true, false}
use mathlib.Core.List.{List, ◌++◌}
use lib.ListN.{length, take, drop, replicate}
use lib.Seq.{length-take-le}
use borrow.Author.Tests.{le-leb, lt-leb}
use Rattle.horn.specs.Refusals.{number, need, ◌>>=◌}
use Rattle.horn.specs.Setting.{document01}
use Rattle.horn.specs.Rulebook.{theory}
use Rattle.horn.specs.Calls as calls
use Rattle.horn.specs.Calls.{rulebook_report, rulebook_judged, rulebook_answer, rulebook_call, called, rulebook_left}
use Rattle.theory.specs.Walks as walks
use Rattle.rulebook_call.proofs.Reported.{rulebook_reported}
use Rattle.clearing.specs.Lengths.{long_enough}
use Rattle.rulebook_call.specs.Reports.{reported_by, answered}
use Rattle.rulebook_call.specs.declared.RulebookReport.{RulebookReport}
use Rattle.clearing.proofs.Areas.{areas_long_lem, long, untouched_short, untouched_long, all_cleared}

module _ (text a b c d : List ℕ) where
  -- A call by its report and its areas.
  is_called : (q : calls.RulebookReport) (a' b' c' d' : List ℕ) → rulebook_call document01 (length a) (length b) (length c) (length d) text ≡ q
      → called q a' b' c' d' ≡ calls.leaving document01 q q.number a b c d
      → called q a' b' c' d' ≡ rulebook_left document01 a b c d text
  unfolding rulebook_left
  is_called q a' b' c' d' e h = rw e h

  -- 1, by the areas.
  pub area_short_lem : (r : RulebookReport) → long_enough (length a) (length b) (length c) (length d) ≡ false
      → r ≡ record { number = 1; sorts = 0; constructors = 0; predicates = 0; rules = 0 }
      → called (answered r) a b c d ≡ rulebook_left document01 a b c d text
  unfolding rulebook_call rulebook_judged need ◌>>=◌ rulebook_answer number
  area_short_lem r e is =
      rw is (is_called (rulebook_report 1 0 0 0 0) a b c d (rw (areas_long_lem (length a) (length b) (length c) (length d), e)) (untouched_short _ a b c d))

  module _ (long : long_enough (length a) (length b) (length c) (length d) ≡ true) where
    -- 2, by the text.
    pub text_long_lem : (r : RulebookReport) → 8192 < length text → r ≡ record { number = 2; sorts = 0; constructors = 0; predicates = 0; rules = 0 }
        → called (answered r) a b c d ≡ rulebook_left document01 a b c d text
    unfolding rulebook_call rulebook_judged document01 need ◌>>=◌ rulebook_answer number
    text_long_lem r h is =
        rw is
        (is_called (rulebook_report 2 0 0 0 0) a b c d
        (rw (areas_long_lem (length a) (length b) (length c) (length d), long, lt-leb (length text) 8192 h)) (untouched_long _ a b c d))

    judged_text : length text ≤ 8192 → rulebook_call document01 (length a) (length b) (length c) (length d) text ≡ rulebook_answer (theory text)
    unfolding rulebook_call rulebook_judged document01 need ◌>>=◌
    judged_text h = rw (areas_long_lem (length a) (length b) (length c) (length d), long, le-leb (length text) 8192 h)

-- Each area is long enough to be lent.
module _ {r : Bool} (a b c d : ℕ) (is : r ≡ long_enough a b c d) (yes : r ≡ true) where
  pub first_right : 16384 ≤ a
  first_right = (long a b c d (sym is ∙ yes)).first

  pub second_right : 16384 ≤ b
  second_right = (long a b c d (sym is ∙ yes)).second

  pub third_right : 16384 ≤ c
  third_right = (long a b c d (sym is ∙ yes)).third

  pub fourth_right : 16384 ≤ d
  fourth_right = (long a b c d (sym is ∙ yes)).fourth

-- Every other answer: the first 16,384 words of each area were lent to both walks, then cleared.
pub rulebook_judged_lem : (text a b c d : List ℕ) (r : RulebookReport) (a' b' c' d' : List ℕ)
    → long_enough (length a) (length b) (length c) (length d) ≡ true → length text ≤ 8192
    → r ≡ reported_by (walks.theory text (take 16384 b) (take 16384 c) (take 16384 d))
    → a' ≡ replicate (length (take 16384 a)) 0
    → b' ≡ replicate (length (take 16384 b)) 0
    → c' ≡ replicate (length (take 16384 c)) 0
    → d' ≡ replicate (length (take 16384 d)) 0
    → called (answered r) (a' ++ drop 16384 a) (b' ++ drop 16384 b) (c' ++ drop 16384 c) (d' ++ drop 16384 d)
    ≡ rulebook_left document01 a b c d text
rulebook_judged_lem text a b c d r a' b' c' d' enough short is ea eb ec ed =
    let l = long (length a) (length b) (length c) (length d) enough in
    let z =
    rulebook_reported text (take 16384 b) (take 16384 c) (take 16384 d) short
    (length-take-le 16384 b l.second) (length-take-le 16384 c l.third) (length-take-le 16384 d l.fourth) in
    let n = ap (λ (q : RulebookReport). q.number) is in
    is_called text a b c d (answered r) (a' ++ drop 16384 a) (b' ++ drop 16384 b) (c' ++ drop 16384 c) (d' ++ drop 16384 d)
    (judged_text text a b c d enough short ∙ z.same ∙ ap (λ (q : RulebookReport). answered q) (sym is))
    (all_cleared (answered r) r.number a b c d a' b' c' d' (λ h. z.not_1 (sym n ∙ h)) (λ h. z.not_2 (sym n ∙ h)) l ea eb ec ed)

pub ruleset unjudged = (first_right, second_right, third_right, fourth_right, area_short_lem, text_long_lem)
