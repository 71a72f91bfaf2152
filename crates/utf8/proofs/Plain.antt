-- What `plain_three` answers: above 0 it is the value of the character there, which has three bytes. Assumes nothing.
use mathlib.Core.Path.{◌≡◌, ◌∙◌, refl, ap, sym}
use mathlib.Core.List.{List}
use Prim.Native.Nat.{ℕ, ◌+◌, ◌*◌, ◌-◌, ◌/◌, ◌%◌, ◌<◌}
use native.Mathlib.Omega.{arith}
use borrow.Author.Tests.{eq-eqb, ne_eqb, eqb-true, eqb-false}
use lib.Dec.{eqb}
use lib.ListN.{length, get_or, take, drop, get_or-eq_default}
use Rattle.horn.proofs.Equality.{case}
use Rattle.utf8.specs.Classes.{is_ordinary, kind_number, leads_plain, class_of, low_of, high_of}
use Rattle.utf8.specs.Characters.{broken, found, first, width, value, kind_at, in_range, longer_by, by_class, plain_value}
use Rattle.utf8.proofs.Grammar.{later, no_later}
use Rattle.utf8.proofs.Whiteness.{kind_above}
use Rattle.utf8.proofs.Looks.{rest_of, longer_is}

still_broken : (b : ℕ) → in_range 0x80 0xBF b broken ≡ broken
still_broken b = case (eqb (b / 64) 2) (λ t. later b (eqb-true _ _ t) broken) (λ n. no_later b (eqb-false _ _ n) broken)

module _ (c : ℕ) (bs : List ℕ) (e : c ≡ leads_plain) where
  by_bytes : by_class c bs
      ≡ in_range 0x80 0xBF (get_or bs 1 0)
      (in_range 0x80 0xBF (get_or bs 2 0) (found 3 ((get_or bs 0 0 % 16 * 64 + get_or bs 1 0 % 64) * 64 + get_or bs 2 0 % 64)))
  unfolding by_class longer_by low_of high_of
  by_bytes = rw e

  valued : plain_value c bs ≡ value (by_class c bs)
  unfolding plain_value
  valued = rw (eq-eqb c leads_plain e, plain_value)

  no_second : (get_or bs 1 0 / 64 ≡ 2 → ⊥) → by_class c bs ≡ broken
  no_second d = by_bytes ∙ no_later _ d _

  no_third : (get_or bs 2 0 / 64 ≡ 2 → ⊥) → by_class c bs ≡ broken
  no_third d =
      by_bytes
      ∙ rw (no_later (get_or bs 2 0) d (found 3 ((get_or bs 0 0 % 16 * 64 + get_or bs 1 0 % 64) * 64 + get_or bs 2 0 % 64)))
      (still_broken (get_or bs 1 0))

  all_three : get_or bs 1 0 / 64 ≡ 2 → get_or bs 2 0 / 64 ≡ 2
      → by_class c bs ≡ found 3 ((get_or bs 0 0 % 16 * 64 + get_or bs 1 0 % 64) * 64 + get_or bs 2 0 % 64)
  all_three h k = by_bytes ∙ later _ h _ ∙ later _ k _

  nothing : by_class c bs ≡ broken → 0 ≡ plain_value c bs
  unfolding value
  nothing b = sym (valued ∙ rw b)

  pub plain_second : (get_or bs 1 0 / 64 ≡ 2 → ⊥) → 0 ≡ plain_value c bs
  plain_second d = nothing (no_second d)

  pub plain_third : (get_or bs 2 0 / 64 ≡ 2 → ⊥) → 0 ≡ plain_value c bs
  plain_third d = nothing (no_third d)

  pub plain_short : length bs < 3 → 0 ≡ plain_value c bs
  plain_short l =
      let z : get_or bs 2 0 ≡ 0 = get_or-eq_default bs 0 {n = 2} (omega arith) in
      plain_third (λ k. omega (arith, z, k))

  pub plain_here : get_or bs 1 0 / 64 ≡ 2 → get_or bs 2 0 / 64 ≡ 2
      → (get_or bs 0 0 % 16 * 64 + get_or bs 1 0 % 64) * 64 + get_or bs 2 0 % 64 ≡ plain_value c bs
  unfolding value
  plain_here h k = sym (valued ∙ ap value (all_three h k))

  found_by_lem : (v : ℕ) → v ≡ plain_value c bs → 0 < v → by_class c bs ≡ found 3 v
  found_by_lem v ev pos =
      case (eqb (get_or bs 1 0 / 64) 2)
      (λ t. case (eqb (get_or bs 2 0 / 64) 2)
      (λ u.
      let w = plain_here (eqb-true _ _ t) (eqb-true _ _ u) in
      all_three (eqb-true _ _ t) (eqb-true _ _ u) ∙ ap (λ (x : ℕ). found 3 x) (w ∙ sym ev))
      (λ n. let z = plain_third (eqb-false _ _ n) in absurd (omega arith)))
      (λ n. let z = plain_second (eqb-false _ _ n) in absurd (omega arith))

pub plain_other : (c : ℕ) (bs : List ℕ) → (c ≡ leads_plain → ⊥) → 0 ≡ plain_value c bs
unfolding plain_value
plain_other c bs d = rw (ne_eqb c leads_plain d, plain_value)

pub ruleset plains = (plain_other, plain_short, plain_second, plain_third, plain_here)

-- At a place of a text, by the class of the byte there.
module _ (text : List ℕ) (q : ℕ) (h : q < length text) (u : get_or text q 0 < 256) where
  plain_first : 0 < plain_value (class_of (get_or text q 0)) (take (length text - q) (drop q text))
      → first (drop q text) ≡ found 3 (plain_value (class_of (get_or text q 0)) (take (length text - q) (drop q text)))
  plain_first pos =
      case (eqb (class_of (get_or text q 0)) leads_plain)
      (λ t.
      let k : class_of (get_or text q 0) ≡ leads_plain = eqb-true _ _ t in
      sym (longer_is text q _ h u refl (omega arith))
      ∙ found_by_lem _ (drop q text) k _ (ap (plain_value (class_of (get_or text q 0))) (rest_of text q)) pos)
      (λ n.
      let z = plain_other (class_of (get_or text q 0)) (take (length text - q) (drop q text)) (eqb-false _ _ n) in
      absurd (omega arith))

  pub plain_wide : 0 < plain_value (class_of (get_or text q 0)) (take (length text - q) (drop q text)) → width (first (drop q text)) ≡ 3
  unfolding width
  plain_wide pos = rw (plain_first pos)

  pub plain_ordinary : 0x3000 < plain_value (class_of (get_or text q 0)) (take (length text - q) (drop q text))
      → kind_at (first (drop q text)) ≡ is_ordinary
  unfolding kind_at kind_number
  plain_ordinary l = rw (plain_first (omega arith), kind_above _ l)
