-- The limits that the laws suppose, and that the start place lies in the index.
use Prim.Native.Nat.{ℕ, zero, suc, ◌+◌, ◌-◌, ◌*◌, ◌/◌, ◌^◌, ◌≤◌, ◌<◌}
use mathlib.Core.Path.{◌≡◌, refl, ap, ◌∙◌}
use mathlib.Core.Bool.{Bool, true, false}
use mathlib.Core.List.{List, [], ◌∷◌}
use native.Mathlib.Omega.{arith}
use native.Mathlib.Nat.{mod-lt}
use borrow.Author.Tests.{eqb-true, ne_eqb}
use lib.Count.{count_trailing_zeros}
use lib.Bits.{bit_xor}
use lib.Pow.{pow_pos, shr_lt}
use lib.Dec.{eqb, lit<}
use Rattle.words.specs.Hash.{hash, hashed_all, hashed, product, rotated}
use Rattle.arena.specs.Probing.{start_place}
use Rattle.arena.proofs.Cases.{not_both}

-- Any limits within 32 bits whose index is a power of two above 1 with at least twice as many places as nodes.
pub record Limits (nodes words places : ℕ) : Type 0 where
  pub exponent : ℕ
  pub power : places ≡ 2 ^ exponent
  pub above_one : 0 < exponent
  pub within : exponent < 32
  pub roomy : 2 * nodes ≤ places
  pub words_within : words < 2 ^ 32

-- A test that antt computes for each exponent below a bound.
right_below : ℕ → Bool
right_below zero = true
right_below (suc e) = elim (eqb (count_trailing_zeros 32 (2 ^ e)) e) [ true ↦ right_below e | false ↦ false ]

right_at : (b : ℕ) → right_below b ≡ true → (e : ℕ) → e < b → count_trailing_zeros 32 (2 ^ e) ≡ e
unfolding right_below
right_at zero t e h = absurd (omega arith)
right_at (suc b) t e h = go (eqb (count_trailing_zeros 32 (2 ^ b)) b) refl t (right_at b)
  where
    go : (x : Bool) → eqb (count_trailing_zeros 32 (2 ^ b)) b ≡ x → elim x [ true ↦ right_below b | false ↦ false ] ≡ true →
        (right_below b ≡ true → (e : ℕ) → e < b → count_trailing_zeros 32 (2 ^ e) ≡ e) → count_trailing_zeros 32 (2 ^ e) ≡ e
    go false p t ih = not_both t refl
    go true p t ih = last (native.Mathlib.Decide.ℕ_discrete e b)
      where
        last : Dec (e ≡ b) → count_trailing_zeros 32 (2 ^ e) ≡ e
        last (yes same) = rw same (eqb-true (count_trailing_zeros 32 (2 ^ b)) b p)
        last (no ne) = ih t e (omega arith)

-- The count of trailing zeros of a power of two is its exponent.
pub trailing_power : (e : ℕ) → e < 32 → count_trailing_zeros 32 (2 ^ e) ≡ e
unfolding right_below count_trailing_zeros
trailing_power e h = right_at 32 refl e h

hashed_below : (x : List ℕ) (h : ℕ) → h < 2 ^ 64 → hashed_all h x < 2 ^ 64
unfolding hashed_all hashed product
hashed_below [] h b = b
hashed_below (w ∷ x) h b = hashed_below x (hashed h w) (mod-lt (bit_xor (rotated h) w * 0x517c_c1b7_2722_0a95) (lit< tt))

pub hash_below : (x : List ℕ) → hash x < 2 ^ 64
unfolding hash
hash_below x = hashed_below x 0 (lit< tt)

pub shifted : (h places e : ℕ) → count_trailing_zeros 32 places ≡ e → 0 < e → start_place h places ≡ h / 2 ^ (64 - e)
unfolding start_place
shifted h places e t b = go (count_trailing_zeros 32 places) t
  where
    go : (n : ℕ) → n ≡ e → elim (eqb n 0) [ true ↦ 0 | false ↦ h / 2 ^ (64 - n) ] ≡ h / 2 ^ (64 - e)
    go n same = rw (ne_eqb n 0 (λ z. omega arith), same)

module _ (nodes words places : ℕ) (l : Limits nodes words places) where
  pub places_positive : 0 < places
  places_positive = rw l.power (pow_pos l.exponent)

  pub few_nodes : nodes < places
  few_nodes = omega (arith, l.roomy, places_positive)

  -- The top e bits of a number of 64 bits are below 2 ^ e.
  pub place_below : (x : List ℕ) → start_place (hash x) places < places
  place_below x =
      let e = l.exponent in
      let t : count_trailing_zeros 32 places ≡ e = ap (count_trailing_zeros 32) l.power ∙ trailing_power e l.within in
      let sum : e + (64 - e) ≡ 64 = omega (arith, l.within) in
      let h : hash x < 2 ^ (e + (64 - e)) = rw sum (hash_below x) in
      rw (shifted (hash x) places e t l.above_one, l.power) (shr_lt e (64 - e) h)
