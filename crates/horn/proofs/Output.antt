-- The fields of written texts: how long each is, where a name is cut, and a number's digits by division. Assumes nothing.
use Prim.Native.Nat.{ℕ, zero, suc, ◌+◌, ◌*◌, ◌-◌, ◌/◌, ◌%◌, ◌^◌, ◌≤◌, ◌<◌}
use native.Mathlib.Omega.{arith}
use native.Mathlib.Nat.{pow-suc}
use mathlib.Core.Path.{◌≡◌, refl, ap, subst, ◌∙◌}
use mathlib.Core.Bool.{true, false}
use mathlib.Core.List.{List, [], ◌∷◌, ◌++◌, map, map-append, reverse, reverse-cons}
use lib.Dec.{eqb, ltb}
use lib.ListN.{length, take, length-append, length-take, length-replicate}
use borrow.Author.Tests.{ltb-true, ltb-false, eqb-true, eqb-false, ne_eqb}
use Rattle.horn.specs.Names.{Name}
use Rattle.horn.specs.Layout.{next, counted_to, plain}
use Rattle.horn.specs.Output.{spaces, padded, right_aligned, goes_on, cut, name_field}
use Rattle.horn.proofs.Equality.{case}

-- Spaces behind bytes, or before them, fill a field that the bytes fit.
pub length-spaces : (n : ℕ) → length (spaces n) ≡ n
unfolding spaces
length-spaces n = length-replicate n 0x20

pub length-padded : (width : ℕ) (bytes : List ℕ) → length bytes ≤ width → length (padded width bytes) ≡ width
unfolding padded
length-padded width bytes h =
    length-append bytes (spaces (width - length bytes))
    ∙ ap (λ n. length bytes + n) (length-spaces (width - length bytes))
    ∙ omega (arith, h)

pub length-right_aligned : (width n : ℕ) → length (plain n) ≤ width → length (right_aligned width n) ≡ width
unfolding right_aligned
length-right_aligned width n h =
    length-append (spaces (width - length (plain n))) (plain n)
    ∙ ap (λ m. m + length (plain n)) (length-spaces (width - length (plain n)))
    ∙ omega (arith, h)

-- The two ways of a cut: a character goes on there, or none does.
pub cut_inside : (k : ℕ) (name : Name) → goes_on (suc k) name ≡ true → cut (suc k) name ≡ cut k name
unfolding cut
cut_inside k name e = rw (e, cut)

pub cut_here : (k : ℕ) (name : Name) → goes_on (suc k) name ≡ false → cut (suc k) name ≡ take (suc k) name
unfolding cut
cut_here k name e = rw (e, cut)

pub length-cut : (width : ℕ) (name : Name) → length (cut width name) ≤ width
unfolding cut
length-cut zero name = omega arith
length-cut (suc k) name =
    case (goes_on (suc k) name)
    (λ e. rw (cut_inside k name e) (omega (arith, length-cut k name)))
    (λ e. rw (cut_here k name e) (omega (arith, length-take (suc k) name)))

-- What a cut leaves is the front of the name.
pub cut_front : (width : ℕ) (name : Name) → cut width name ≡ take (length (cut width name)) name
unfolding cut
cut_front zero name = refl
cut_front (suc k) name =
    case (goes_on (suc k) name)
    (λ e. rw (cut_inside k name e) (cut_front k name))
    (λ e. rw (cut_here k name e) (own (suc k) name)) where
      own : (n : ℕ) (l : List ℕ) → take n l ≡ take (length (take n l)) l
      own zero l = refl
      own (suc n) [] = refl
      own (suc n) (b ∷ l) = ap (λ r. b ∷ r) (own n l)

pub length-name_field : (width : ℕ) (name : Name) → length (name_field width name) ≡ width
unfolding name_field
length-name_field width name = length-padded width (cut width name) (length-cut width name)

-- The digits that counting up gives, the last one first, are those that dividing by ten gives.
by_size {ℓ} : {C : Type ℓ} (n : ℕ) → (n < 10 → C) → (10 ≤ n → C) → C
by_size n f g = case (ltb n 10) (λ e. f (ltb-true n 10 e)) (λ e. g (ltb-false n 10 e))

next_nine : (d : ℕ) (ds : List ℕ) → d ≡ 9 → next (d ∷ ds) ≡ 0 ∷ next ds
unfolding next
next_nine d ds e = rw e

next_other : (d : ℕ) (ds : List ℕ) → (d ≡ 9 → ⊥) → next (d ∷ ds) ≡ suc d ∷ ds
unfolding next
next_other d ds e = rw (ne_eqb d 9 e, next)

counted_one : (n : ℕ) → n < 10 → counted_to n ≡ n ∷ []
unfolding counted_to
counted_one zero h = refl
counted_one (suc n) h = ap next (counted_one n (omega arith)) ∙ next_other n [] (λ e. omega arith)

counted_more : (n : ℕ) → 10 ≤ n → counted_to n ≡ (n % 10) ∷ counted_to (n / 10)
unfolding counted_to next
counted_more zero h = absurd (omega arith)
counted_more (suc n) h =
    by_size n
    (λ s. let e : n ≡ 9 = omega arith in rw e)
    (λ s. ap next (counted_more n s)
    ∙ case (eqb (n % 10) 9)
    (λ e. let d = eqb-true (n % 10) 9 e in next_nine (n % 10) _ d ∙ rw (tens n d, ends n d))
    (λ e. let d = eqb-false (n % 10) 9 e in next_other (n % 10) _ d ∙ rw (same_tens n d, same_ends n d))) where
      tens : (n : ℕ) → n % 10 ≡ 9 → suc n / 10 ≡ suc (n / 10)
      tens n d = omega arith

      ends : (n : ℕ) → n % 10 ≡ 9 → suc n % 10 ≡ 0
      ends n d = omega arith

      same_tens : (n : ℕ) → (n % 10 ≡ 9 → ⊥) → suc n / 10 ≡ n / 10
      same_tens n d = omega (arith, d)

      same_ends : (n : ℕ) → (n % 10 ≡ 9 → ⊥) → suc n % 10 ≡ suc (n % 10)
      same_ends n d = omega (arith, d)

pub plain_one : (n : ℕ) → n < 10 → plain n ≡ (0x30 + n) ∷ []
unfolding plain
plain_one n h = ap (λ l. map (λ d. 0x30 + d) (reverse l)) (counted_one n h)

pub plain_more : (n : ℕ) → 10 ≤ n → plain n ≡ plain (n / 10) ++ ((0x30 + n % 10) ∷ [])
unfolding plain
plain_more n h =
    ap (λ l. map (λ d. 0x30 + d) l) (ap reverse (counted_more n h) ∙ reverse-cons (n % 10) (counted_to (n / 10)))
    ∙ map-append (λ d. 0x30 + d) (reverse (counted_to (n / 10))) ((n % 10) ∷ [])

-- So many digits.
pub length-plain_one : (n : ℕ) → n < 10 → length (plain n) ≡ 1
length-plain_one n h = ap length (plain_one n h)

pub length-plain_more : (n : ℕ) → 10 ≤ n → length (plain n) ≡ length (plain (n / 10)) + 1
length-plain_more n h = ap length (plain_more n h) ∙ length-append (plain (n / 10)) _

pub plain_long : (n : ℕ) → 0 < length (plain n)
plain_long n = by_size n (λ s. omega (arith, length-plain_one n s)) (λ s. omega (arith, length-plain_more n s))

pub plain_short : (k n : ℕ) → n < 10 ^ suc k → length (plain n) ≤ suc k
plain_short zero n h = omega (arith, length-plain_one n h)
plain_short (suc k) n h =
    by_size n (λ s. omega (arith, length-plain_one n s))
    (λ s. omega (arith, length-plain_more n s, plain_short k (n / 10) (fewer n (10 ^ suc k) (subst (λ p. n < p) (pow-suc 10 (suc k)) h)))) where
      fewer : (n p : ℕ) → n < p * 10 → n / 10 < p
      fewer n p h = omega arith
