-- Numbers in plain decimal are read as the numbers that they are, and are words; so are `step` and `result`, the heads of the layout.
use Prim.Native.Nat.{ℕ, zero, suc, ◌+◌, ◌*◌, ◌-◌, ◌^◌, ◌<◌}
use native.Mathlib.Omega.{arith}
use mathlib.Core.Path.{◌≡◌, refl, ap, ◌∙◌}
use mathlib.Core.Bool.{true, false, true≢false}
use mathlib.Core.List.{List, [], ◌∷◌, map, reverse, reverse_aux}
use mathlib.Core.Option.{some}
use lib.Dec.{eqb}
use lib.ListN.{length, length-reverse_aux}
use borrow.Author.Tests.{lt-ltb, eqb-true}
use Rattle.horn.specs.Utf8.{range, within, sequences, started_by, resumed, decoded}
use Rattle.horn.specs.Tokens.{kind, white, white_ranges, in_some}
use Rattle.horn.specs.Names.{codes}
use Rattle.horn.specs.Checker.{decimal, digits, numeral}
use Rattle.horn.specs.Layout.{next, counted_to, plain}
use Rattle.horn.proofs.Equality.{case, chose_true}
use Rattle.horn.proofs.CompleteUtf8.{All}
use Rattle.horn.proofs.CompleteTokens.{Word}
use Rattle.horn.proofs.CompleteItems.{first_word, word_append}

data Digit : ℕ → Type 0 where
  d0 : Digit 0
  d1 : Digit 1
  d2 : Digit 2
  d3 : Digit 3
  d4 : Digit 4
  d5 : Digit 5
  d6 : Digit 6
  d7 : Digit 7
  d8 : Digit 8
  d9 : Digit 9

-- Counting up keeps digits and adds one.
digit_next : {d : ℕ} → Digit d → eqb d 9 ≡ false → Digit (suc d)
digit_next d0 e = d1
digit_next d1 e = d2
digit_next d2 e = d3
digit_next d3 e = d4
digit_next d4 e = d5
digit_next d5 e = d6
digit_next d6 e = d7
digit_next d7 e = d8
digit_next d8 e = d9
digit_next d9 e = absurd (true≢false e)

next_digits : (ds : List ℕ) → All Digit ds → All Digit (next ds)
unfolding next
next_digits [] a = (d1, tt)
next_digits (d ∷ ds) a =
    case (eqb d 9)
    (λ e. rw (e, next) (d0, next_digits ds a.1))
    (λ e. rw (e, next) (digit_next a.0 e, a.1))

counted_digits : (n : ℕ) → All Digit (counted_to n)
unfolding counted_to
counted_digits zero = (d0, tt)
counted_digits (suc n) = next_digits (counted_to n) (counted_digits n)

value : List ℕ → ℕ
value [] = 0
value (d ∷ ds) = d + 10 * value ds

next-value : (ds : List ℕ) → value (next ds) ≡ suc (value ds)
unfolding next value
next-value [] = refl
next-value (d ∷ ds) =
    case (eqb d 9)
    (λ e. let h = eqb-true d 9 e in let k = next-value ds in rw (e, next) (omega arith))
    (λ e. rw (e, next) (omega arith))

counted_value : (n : ℕ) → value (counted_to n) ≡ n
unfolding counted_to value
counted_value zero = refl
counted_value (suc n) = next-value (counted_to n) ∙ ap suc (counted_value n)

next_long : (ds : List ℕ) → 0 < length (next ds)
unfolding next
next_long [] = omega arith
next_long (d ∷ ds) = case (eqb d 9) (λ e. rw (e, next) (omega arith)) (λ e. rw (e, next) (omega arith))

counted_long : (n : ℕ) → 0 < length (counted_to n)
unfolding counted_to
counted_long zero = omega arith
counted_long (suc n) = next_long (counted_to n)

-- Reading a digit.
digit_within : {d : ℕ} → Digit d → within (range 0x30 0x39) (0x30 + d) ≡ true
unfolding within
digit_within d0 = refl
digit_within d1 = refl
digit_within d2 = refl
digit_within d3 = refl
digit_within d4 = refl
digit_within d5 = refl
digit_within d6 = refl
digit_within d7 = refl
digit_within d8 = refl
digit_within d9 = refl

digit_no_sign : {d : ℕ} → Digit d → eqb (0x30 + d) 0x2B ≡ false
digit_no_sign d0 = refl
digit_no_sign d1 = refl
digit_no_sign d2 = refl
digit_no_sign d3 = refl
digit_no_sign d4 = refl
digit_no_sign d5 = refl
digit_no_sign d6 = refl
digit_no_sign d7 = refl
digit_no_sign d8 = refl
digit_no_sign d9 = refl

abbrev ascii : ℕ → ℕ
ascii d = 0x30 + d

decimal_read : (ds tl : List ℕ) → All Digit ds → decimal 0 (map ascii (reverse_aux ds tl)) ≡ decimal (value ds) (map ascii tl)
unfolding decimal value
decimal_read [] tl a = refl
decimal_read (d ∷ ds) tl a =
    let v : value ds * 10 + (0x30 + d - 0x30) ≡ d + 10 * value ds = omega arith in
    decimal_read ds (d ∷ tl) a.1
    ∙ chose_true _ _ (digit_within a.0)
    ∙ ap (λ n. decimal n (map ascii tl)) v

reverse_digits : (ds tl : List ℕ) → All Digit ds → All Digit tl → All Digit (reverse_aux ds tl)
reverse_digits [] tl a b = b
reverse_digits (d ∷ ds) tl a b = reverse_digits ds (d ∷ tl) a.1 (a.0, b)

unsigned : (ds : List ℕ) → All Digit ds → 0 < length ds → numeral (map ascii ds) ≡ decimal 0 (map ascii ds)
unfolding numeral digits
unsigned [] a h = absurd (omega arith)
unsigned (d ∷ ds) a h = rw (digit_no_sign a.0, numeral)

plain_digits : (n : ℕ) → All Digit (reverse (counted_to n))
plain_digits n = reverse_digits (counted_to n) [] (counted_digits n) tt

plain_long : (n : ℕ) → 0 < length (reverse (counted_to n))
plain_long n = rw (length-reverse_aux (counted_to n) []) (omega (arith, counted_long n))

-- "Plain decimal numbers" are read as the numbers that they are.
pub numeral-plain : (n : ℕ) → n < 2 ^ 64 → numeral (plain n) ≡ some n
unfolding plain decimal
numeral-plain n h =
    unsigned (reverse (counted_to n)) (plain_digits n) (plain_long n)
    ∙ decimal_read (counted_to n) [] (counted_digits n)
    ∙ ap (λ m. decimal m []) (counted_value n)
    ∙ chose_true _ _ (lt-ltb n (2 ^ 64) h)

-- Numbers in plain decimal are words, and so are the two heads.
digit_word : {d : ℕ} → Digit d → Word ((0x30 + d) ∷ [])
unfolding decoded resumed started_by sequences within kind white white_ranges in_some
digit_word d0 = first_word (0x30 ∷ []) 0x30 refl refl
digit_word d1 = first_word (0x31 ∷ []) 0x31 refl refl
digit_word d2 = first_word (0x32 ∷ []) 0x32 refl refl
digit_word d3 = first_word (0x33 ∷ []) 0x33 refl refl
digit_word d4 = first_word (0x34 ∷ []) 0x34 refl refl
digit_word d5 = first_word (0x35 ∷ []) 0x35 refl refl
digit_word d6 = first_word (0x36 ∷ []) 0x36 refl refl
digit_word d7 = first_word (0x37 ∷ []) 0x37 refl refl
digit_word d8 = first_word (0x38 ∷ []) 0x38 refl refl
digit_word d9 = first_word (0x39 ∷ []) 0x39 refl refl

digits_word : (ds : List ℕ) → All Digit ds → 0 < length ds → Word (map ascii ds)
digits_word [] a h = absurd (omega arith)
digits_word (d ∷ []) a h = digit_word a.0
digits_word (d ∷ c ∷ ds) a h = word_append (digit_word a.0) (digits_word (c ∷ ds) a.1 (omega arith))

pub plain_word : (n : ℕ) → Word (plain n)
unfolding plain
plain_word n = digits_word (reverse (counted_to n)) (plain_digits n) (plain_long n)

pub step_is_word : Word (codes "step")
unfolding decoded resumed started_by sequences within kind white white_ranges in_some codes
step_is_word =
    word_append (first_word (0x73 ∷ []) 0x73 refl refl)
    (word_append (first_word (0x74 ∷ []) 0x74 refl refl)
    (word_append (first_word (0x65 ∷ []) 0x65 refl refl) (first_word (0x70 ∷ []) 0x70 refl refl)))

pub result_is_word : Word (codes "result")
unfolding decoded resumed started_by sequences within kind white white_ranges in_some codes
result_is_word =
    word_append (first_word (0x72 ∷ []) 0x72 refl refl)
    (word_append (first_word (0x65 ∷ []) 0x65 refl refl)
    (word_append (first_word (0x73 ∷ []) 0x73 refl refl)
    (word_append (first_word (0x75 ∷ []) 0x75 refl refl)
    (word_append (first_word (0x6C ∷ []) 0x6C refl refl) (first_word (0x74 ∷ []) 0x74 refl refl)))))
