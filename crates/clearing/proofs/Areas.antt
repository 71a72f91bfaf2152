-- The areas before and after a call, whatever it reports. Assumes nothing.
use Prim.Native.Nat.{ℕ, ◌≤◌}
use mathlib.Core.Path.{◌≡◌, refl}
use mathlib.Core.Logic.{◌≢◌}
use mathlib.Core.Bool.{true}
use mathlib.Core.List.{List, ◌++◌}
use lib.Dec.{leb}
use lib.ListN.{length, take, drop, replicate}
use lib.Seq.{length-take-le}
use borrow.Author.Tests.{leb-true, ne_eqb}
use Rattle.horn.specs.Refusals.{need, ◌>>=◌, area_short}
use Rattle.horn.specs.Setting.{document01}
use Rattle.horn.specs.Calls.{areas_long, area_after, called, leaving}
use Rattle.horn.proofs.Equality.{case, both}
use Rattle.clearing.specs.Lengths.{area_words, long_enough}

-- Four tests with one refusal are one.
pub areas_long_lem : (a b c d : ℕ) → areas_long document01 a b c d ≡ need (long_enough a b c d) area_short
unfolding areas_long long_enough document01 need ◌>>=◌
areas_long_lem a b c d =
    case (leb area_words a) (λ p. case (leb area_words b) (λ q. case (leb area_words c) (λ r. rw (p, q, r)) (λ r. rw (p, q, r))) (λ q. rw (p, q))) (λ p. rw p)

-- What the test says of each area.
pub record Long (a b c d : ℕ) : Type 0 where
  pub first : area_words ≤ a
  pub second : area_words ≤ b
  pub third : area_words ≤ c
  pub fourth : area_words ≤ d

pub long : (a b c d : ℕ) → long_enough a b c d ≡ true → Long a b c d
unfolding long_enough
long a b c d e =
    let (p, q) = both (leb area_words a) _ e in
    let (r, s) = both (leb area_words b) _ q in
    let (t, u) = both (leb area_words c) _ s in
    record { first = leb-true _ _ p; second = leb-true _ _ r; third = leb-true _ _ t; fourth = leb-true _ _ u }

-- "Refusals 1 and 2 leave the areas untouched."
pub untouched_short : {R : Type 0} (q : R) (a b c d : List ℕ) → called q a b c d ≡ leaving document01 q 1 a b c d
unfolding leaving area_after document01
untouched_short q a b c d = refl

pub untouched_long : {R : Type 0} (q : R) (a b c d : List ℕ) → called q a b c d ≡ leaving document01 q 2 a b c d
unfolding leaving area_after document01
untouched_long q a b c d = refl

-- "Every other answer leaves the first 16,384 words of each area zero and later words untouched."
area_after_lem : (n : ℕ) (s first : List ℕ) → n ≢ 1 → n ≢ 2 → area_words ≤ length s → first ≡ replicate (length (take area_words s)) 0
    → first ++ drop area_words s ≡ area_after area_words n s
unfolding area_after
area_after_lem n s first p q l e = rw (e, length-take-le area_words s l, ne_eqb n 1 p, ne_eqb n 2 q, area_after)

pub all_cleared : {R : Type 0} (q : R) (n : ℕ) (a b c d a' b' c' d' : List ℕ) → n ≢ 1 → n ≢ 2 → Long (length a) (length b) (length c) (length d)
    → a' ≡ replicate (length (take area_words a)) 0
    → b' ≡ replicate (length (take area_words b)) 0
    → c' ≡ replicate (length (take area_words c)) 0
    → d' ≡ replicate (length (take area_words d)) 0
    → called q (a' ++ drop area_words a) (b' ++ drop area_words b) (c' ++ drop area_words c) (d' ++ drop area_words d) ≡ leaving document01 q n a b c d
unfolding leaving document01
all_cleared q n a b c d a' b' c' d' not_1 not_2 l ea eb ec ed =
    rw (
      area_after_lem n a a' not_1 not_2 l.first ea,
      area_after_lem n b b' not_1 not_2 l.second eb,
      area_after_lem n c c' not_1 not_2 l.third ec,
      area_after_lem n d d' not_1 not_2 l.fourth ed,
    )
