-- One turn of the loop over digits, and what saturation keeps. Assumes nothing.
use mathlib.Core.Path.{◌≡◌, refl, sym, ◌∙◌}
use mathlib.Core.Bool.{true, false}
use mathlib.Core.List.{List, [], ◌∷◌}
use mathlib.Core.Option.{none, some}
use Prim.Native.Nat.{ℕ, ◌+◌, ◌*◌, ◌-◌, ◌^◌, ◌≤◌, ◌<◌}
use native.Mathlib.Numerals.{add-one}
use native.Mathlib.Omega.{arith}
use borrow.Author.Tests.{lt-ltb, le-ltb, lt-leb, le-leb, ltb-true, ltb-false}
use lib.Dec.{eqb, ltb}
use lib.Pointwise.{pointwise}
use lib.ListN.{length, take, drop, get_or, get_elem?, drop_of_length-le}
use lib.Seq.{drop-cons}
use Rattle.std.proofs.Common.{true≢false}
use Rattle.horn.specs.Utf8.{range, within}
use Rattle.horn.specs.Checker.{decimal, digits, numeral}
use Rattle.horn.proofs.Equality.{case}
use Rattle.facts.proofs.Lists.{beyond}
use Rattle.numerals.specs.Numbers.{saturated}

-- A byte that is a digit, and one that is none.
digit : (b : ℕ) → 0x30 ≤ b → b ≤ 0x39 → within (range 0x30 0x39) b ≡ true
unfolding within
digit b l h = rw (le-leb _ _ l, le-leb _ _ h)

low_digit : (b : ℕ) → b < 0x30 → within (range 0x30 0x39) b ≡ false
unfolding within
low_digit b h = rw (lt-leb _ _ h)

high_digit : (b : ℕ) → 0x39 < b → within (range 0x30 0x39) b ≡ false
unfolding within
high_digit b h = rw (le-leb 0x30 b (omega arith), lt-leb _ _ h)

-- A number that is too large stays so.
past_limit : (n : ℕ) (bs : List ℕ) → 2 ^ 64 ≤ n → decimal n bs ≡ none
unfolding decimal
past_limit n [] h = rw (le-ltb n (2 ^ 64) h, decimal)
past_limit n (b ∷ bs) h =
    case (within (range 0x30 0x39) b)
    (λ p. rw (p, decimal) (past_limit (n * 10 + (b - 0x30)) bs (omega arith)))
    (λ p. rw (p, decimal))

module _ (s : List ℕ) (i n : ℕ) where
  module _ (k : i < length s) where
    pub digit_on : 0x30 ≤ get_or s i 0 → get_or s i 0 ≤ 0x39 → decimal n (drop i s) ≡ decimal (n * 10 + (get_or s i 0 - 0x30)) (drop (i + 1) s)
    unfolding decimal
    digit_on l h = rw (drop-cons s i 0 k, add-one i, digit _ l h, decimal)

    pub digit_low : get_or s i 0 < 0x30 → decimal n (drop i s) ≡ none
    unfolding decimal
    digit_low h = rw (drop-cons s i 0 k, low_digit _ h, decimal)

    pub digit_high : 0x39 < get_or s i 0 → decimal n (drop i s) ≡ none
    unfolding decimal
    digit_high h = rw (drop-cons s i 0 k, high_digit _ h, decimal)

    pub digit_over : 0x30 ≤ get_or s i 0 → get_or s i 0 ≤ 0x39 → 18446744073709551616 ≤ n * 10 + (get_or s i 0 - 0x30) → decimal n (drop i s) ≡ none
    digit_over l h o = digit_on l h ∙ past_limit _ _ o

  pub digits_end : length s ≤ i → n ≤ 18446744073709551615 → decimal n (drop i s) ≡ some n
  unfolding decimal
  digits_end k h = rw (drop_of_length-le s k, lt-ltb n (2 ^ 64) (omega arith), decimal)

pub digits_none : (s : List ℕ) → length s ≡ 0 → digits s ≡ none
unfolding digits
digits_none [] h = refl
digits_none (b ∷ bs) h = absurd (omega arith)

pub digits_some : (s : List ℕ) → 0 < length s → digits s ≡ decimal 0 s
unfolding digits
digits_some [] h = absurd (omega arith)
digits_some (b ∷ bs) h = refl

-- A sign, and none.
pub with_plus : (s : List ℕ) → pointwise eqb (take 1 s) (0x2B ∷ []) ≡ true → numeral s ≡ digits (drop 1 s)
unfolding numeral
with_plus [] h = absurd (true≢false (sym h))
with_plus (b ∷ bs) h = case (eqb b 0x2B) (λ p. rw (p, numeral)) (λ p. absurd (true≢false (sym (rw p at h))))

pub without_plus : (s : List ℕ) → pointwise eqb (take 1 s) (0x2B ∷ []) ≡ false → numeral s ≡ digits s
unfolding numeral digits
without_plus [] h = refl
without_plus (b ∷ bs) h = case (eqb b 0x2B) (λ p. absurd (true≢false (rw p at h))) (λ p. rw (p, numeral))

pub kept_small : (n : ℕ) → n < 4294967295 → n ≡ saturated n
unfolding saturated
kept_small n h = rw (lt-ltb _ _ h, saturated)

pub kept_large : (n : ℕ) → 4294967295 ≤ n → 4294967295 ≡ saturated n
unfolding saturated
kept_large n h = rw (le-ltb _ _ h, saturated)

pub ruleset turns = (digit_on, digit_low, digit_high, digit_over, digits_end, digits_none, digits_some)

pub ruleset signs = (with_plus, without_plus)

pub ruleset saturating = (kept_small, kept_large)

-- For a reader: a reference is never cut. Among fewer than 2 to the 32 steps, the saturated number has the same step, or none.
pub never_cut : {A : Type 0} (xs : List A) (n : ℕ) → length xs ≤ 4294967295 → get_elem? xs (saturated n) ≡ get_elem? xs n
never_cut xs n h =
    case (ltb n 4294967295)
    (λ p. rw (← kept_small n (ltb-true _ _ p)))
    (λ p.
    let k = ltb-false n 4294967295 p in
    rw (← kept_large n k) (beyond xs 4294967295 h ∙ sym (beyond xs n (omega arith))))
