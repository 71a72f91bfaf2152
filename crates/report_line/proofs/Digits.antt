-- The digits that `io::decimal` gives are the definition's plain decimal number. Assumes nothing.
use Prim.Native.Nat.{ℕ, zero, suc, ◌+◌, ◌*◌, ◌-◌, ◌/◌, ◌%◌, ◌^◌, ◌≤◌, ◌<◌}
use native.Mathlib.Omega.{arith}
use native.Mathlib.Nat.{le_trans, zero-lt-suc, mod-eq_of_lt, pow-suc, pow-le-pow_right}
use mathlib.Core.Path.{◌≡◌, refl, sym, ap, ap₂, subst, ◌∙◌}
use mathlib.Core.List.{[], ◌∷◌, ◌++◌}
use lib.Dec.{ltb}
use borrow.Author.Tests.{lt-ltb, ltb-true, ltb-false}
use Rattle.horn.specs.Layout.{plain}
use Rattle.horn.proofs.Equality.{case}
use Rattle.horn.proofs.Output.{plain_one, plain_more}
use Rattle.io.specs.Digits.{last_digits, hex_digit_ascii, IsDigitCount}

-- A number below 2 to the 32 has at most ten digits.
pub at_most_ten : (n k : ℕ) → n < 2 ^ 32 → IsDigitCount 10 1 n k → k ≤ 10
at_most_ten n k h f =
    case (ltb 10 k)
    (λ e.
    let i = ltb-true 10 k e in
    let long : 10 ≤ k - 1 = omega (arith, i) in
    let big : 10 ^ 10 ≤ n = le_trans (pow-le-pow_right (zero-lt-suc 9) long) (f.2 (omega (arith, i))) in
    absurd (omega (arith, h, big)))
    (λ e. ltb-false 10 k e)

-- What is known of a number's digits is known of those before the last.
fewer_below : (n p : ℕ) → n < p * 10 → n / 10 < p
fewer_below n p h = omega (arith, h)

fewer_above : (n p : ℕ) → p * 10 ≤ n → p ≤ n / 10
fewer_above n p h = omega (arith, h)

fewer : (n k : ℕ) → IsDigitCount 10 1 n (suc (suc k)) → IsDigitCount 10 1 (n / 10) (suc k)
fewer n k f = (
  omega arith,
  fewer_below n (10 ^ suc k) (subst (λ p. n < p) (pow-suc 10 (suc k)) f.1),
  λ h. fewer_above n (10 ^ (suc k - 1)) (subst (λ p. p ≤ n) (ap (λ e. 10 ^ e) (step k h) ∙ pow-suc 10 (suc k - 1)) (f.2 (omega arith))),
)
  where
    step : (k : ℕ) → 1 < suc k → suc (suc k) - 1 ≡ suc (suc k - 1)
    step k h = omega (arith, h)

ten_above : (n k : ℕ) → IsDigitCount 10 1 n (suc (suc k)) → 10 ≤ n
ten_above n k f = le_trans (pow-le-pow_right (zero-lt-suc 9) (more k)) (f.2 (omega arith))
  where
    more : (k : ℕ) → 1 ≤ suc (suc k) - 1
    more k = omega arith

glyph_small : (d : ℕ) → d < 10 → hex_digit_ascii d ≡ 0x30 + d
glyph_small d h = rw (lt-ltb d 10 h) refl

pub plain_digits : (n k : ℕ) → IsDigitCount 10 1 n k → last_digits 10 k n ≡ plain n
plain_digits n zero f = absurd (omega (arith, f.0))
plain_digits n (suc zero) f =
    ap (λ d. d ∷ []) (ap (λ d. hex_digit_ascii d) (mod-eq_of_lt f.1) ∙ glyph_small n f.1) ∙ sym (plain_one n f.1)
plain_digits n (suc (suc k)) f =
    ap₂ (λ l d. l ++ (d ∷ [])) (plain_digits (n / 10) (suc k) (fewer n k f)) (glyph_small (n % 10) (omega arith))
    ∙ sym (plain_more n (ten_above n k f))
