-- The table of white space has each character of 01's list at its place and no other: its rule, proved over all of it by tests that antt
-- computes; and that no character above 3000 is white space. Assumes nothing.
use mathlib.Core.Path.{◌≡◌, ◌∙◌, refl, sym, subst}
use mathlib.Core.Bool.{Bool, true, false, ◌&&◌, and-false}
use mathlib.Core.List.{List, [], ◌∷◌}
use Prim.Native.Nat.{ℕ, suc, ◌+◌, ◌-◌, ◌≤◌, ◌<◌}
use native.Mathlib.Omega.{arith}
use borrow.Author.Tests.{lt-leb, eq-eqb, ne_eqb}
use lib.Dec.{T, eqb, leb, eqb→eq, leb→le}
use Rattle.horn.specs.Utf8.{Range, range, within}
use Rattle.horn.specs.Tokens.{white, white_ranges, in_some, kind, ordinary}
use Rattle.horn.proofs.Equality.{case, IsTrue-of_true, true-of_IsTrue}
use Rattle.utf8.specs.White.{white_rows, place_of, held_at}
use Rattle.utf8.proofs.Table.{and_left, and_right, every, at}

-- What stands in the table is white space.
held_white : ℕ → Bool
held_white p = white (held_at p)

held_white_lem : (p : ℕ) → p < 32 → white (held_at p) ≡ true
unfolding held_white every held_at white_rows white white_ranges in_some within
held_white_lem p h = true-of_IsTrue (white (held_at p)) (at held_white 32 tt p h)

-- A value stands at its place.
in_place : ℕ → Bool
in_place v = eqb (held_at (place_of v)) v

-- All values of some ranges do.
range_in_place : ℕ → ℕ → Bool
range_in_place a b = every (λ k. in_place (a + k)) (suc (b - a))

all_in_place : List Range → Bool
all_in_place [] = true
all_in_place (range a b ∷ rs) = range_in_place a b && all_in_place rs

white_in_place : T (all_in_place white_ranges)
unfolding all_in_place range_in_place in_place every place_of held_at white_rows white_ranges
white_in_place = tt

pub bounds : (a b v : ℕ) → within (range a b) v ≡ true → (a ≤ v) × (v ≤ b)
unfolding within
bounds a b v e = let t = IsTrue-of_true e in (leb→le a v (and_left (leb a v) (leb v b) t), leb→le v b (and_right (leb a v) (leb v b) t))

in_range_place : (a b v : ℕ) → T (range_in_place a b) → within (range a b) v ≡ true → held_at (place_of v) ≡ v
unfolding range_in_place in_place
in_range_place a b v t y =
    let i = bounds a b v y in
    let k : a + (v - a) ≡ v = omega (arith, i.0) in
    eqb→eq _ _ (subst (λ (x : ℕ). T (in_place x)) k (at (λ k. in_place (a + k)) (suc (b - a)) t (v - a) (omega (arith, i.0, i.1))))

in_place_lem : (rs : List Range) (v : ℕ) → T (all_in_place rs) → in_some rs v ≡ true → held_at (place_of v) ≡ v
unfolding all_in_place in_some
in_place_lem [] v t e = absurd (IsTrue-of_true e)
in_place_lem (range a b ∷ rs) v t e =
    case (within (range a b) v)
    (λ y. in_range_place a b v (and_left (range_in_place a b) (all_in_place rs) t) y)
    (λ n. in_place_lem rs v (and_right (range_in_place a b) (all_in_place rs) t) (rw n at e))

-- The table's rule.
pub white_held : (v : ℕ) → eqb (held_at (place_of v)) v ≡ white v
unfolding white place_of
white_held v =
    case (white v)
    (λ t. rw (t, eq-eqb (held_at (place_of v)) v (in_place_lem white_ranges v white_in_place t)))
    (λ f. rw (
      f,
      ne_eqb (held_at (place_of v)) v
          (λ e. let w : white v ≡ true = subst (λ (x : ℕ). white x ≡ true) e (held_white_lem (place_of v) (omega arith)) in
          let z : true ≡ false = sym w ∙ f in absurd (subst T z tt)),
    ))

-- No range reaches above a number: a test that antt computes.
up_to : ℕ → List Range → Bool
up_to n [] = true
up_to n (range a b ∷ rs) = leb b n && up_to n rs

none_above : (n : ℕ) (rs : List Range) (v : ℕ) → T (up_to n rs) → n < v → in_some rs v ≡ false
unfolding up_to in_some within
none_above n [] v t h = refl
none_above n (range a b ∷ rs) v t h =
    let l = leb→le b n (and_left (leb b n) (up_to n rs) t) in
    rw (lt-leb v b (omega arith), and-false, within, none_above n rs v (and_right (leb b n) (up_to n rs) t) h)

pub white_above : (v : ℕ) → 0x3000 < v → white v ≡ false
unfolding white white_ranges up_to
white_above v h = none_above 0x3000 white_ranges v tt h

-- No bracket and no `;` lies above 3B.
pub kind_letter : (v : ℕ) → 0x3B < v → white v ≡ false → kind v ≡ ordinary
unfolding kind
kind_letter v h w =
    rw (w, ne_eqb v 0x28 (λ z. omega arith), ne_eqb v 0x29 (λ z. omega arith), ne_eqb v 0x3B (λ z. omega arith), kind)

pub kind_above : (v : ℕ) → 0x3000 < v → kind v ≡ ordinary
kind_above v h = kind_letter v (omega arith) (white_above v h)
