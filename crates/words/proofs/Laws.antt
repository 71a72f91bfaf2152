-- The laws that the proofs of this crate cite: parts of a list, comparison, clearing, the hash and its rotation.
-- Assumes nothing.
use Rattle.std.proofs.Common.{◌≡◌, ℕ, zero, suc, ◌+◌, ◌-◌, ◌*◌, ◌/◌, ◌%◌, ◌^◌, ◌<◌, ◌≤◌, Bool, true, false, ◌&&◌, eqb, List, [], ◌∷◌, ◌++◌, length, get_or, take, drop, sym, refl, ap, ◌∙◌, min, nat_eq, bit_or, div-lt_iff_lt-mul, div-add-mod', add-mul, mul_assoc, mod-lt, mul-lt-mul_of_pos_right, add-one, arith, length-drop, drop_of_length-le, length-take, get_or-drop, drop-cons, get_or-take, ne_eqb, eq-eqb, replicate}
use Rattle.std.proofs.lemmas.Nat.{or_shifted, mod-mul-add}
use Rattle.std.specs.Cmp.Lexicographic.{pointwise}
use Rattle.words.specs.Parts.{part, same_bytes, cleared}
use Rattle.words.specs.Hash.{rotated, hashed, hashed_all}

-- A part that is there is as long as its bounds say.
pub part-length : (start end : ℕ) (s : List ℕ) → end ≤ length s → length (part start end s) ≡ end - start
unfolding part
part-length start end s h = simp (length-take, length-drop) (omega arith)

-- Texts of different lengths differ.
pub lengths_differ : (a b : List ℕ) → (length a ≡ length b → ⊥) → same_bytes a b ≡ false
unfolding same_bytes
lengths_differ [] [] d = absurd (d refl)
lengths_differ [] (y ∷ b) d = refl
lengths_differ (x ∷ a) [] d = refl
lengths_differ (x ∷ a) (y ∷ b) d = below (eqb x y) (lengths_differ a b (λ e. d (ap suc e))) where
  below : (t : Bool) → same_bytes a b ≡ false → elim t [ true ↦ same_bytes a b | false ↦ false ] ≡ false
  below true h = h
  below false h = refl

-- Texts that differ somewhere differ.
differ_at : (a b : List ℕ) (i : ℕ) → (get_or a i 0 ≡ get_or b i 0 → ⊥) → same_bytes a b ≡ false
unfolding same_bytes
differ_at [] [] i d = absurd (d refl)
differ_at [] (y ∷ b) i d = refl
differ_at (x ∷ a) [] i d = refl
differ_at (x ∷ a) (y ∷ b) zero d = rw (ne_eqb x y d, same_bytes)
differ_at (x ∷ a) (y ∷ b) (suc i) d = below (eqb x y) (differ_at a b i d) where
  below : (t : Bool) → same_bytes a b ≡ false → elim t [ true ↦ same_bytes a b | false ↦ false ] ≡ false
  below true h = h
  below false h = refl

-- What the library's `==` answers of two texts, or of two lists of words, is what the model says.
pub same_pointwise : (a b : List ℕ) → pointwise nat_eq a b ≡ same_bytes a b
unfolding same_bytes
same_pointwise [] [] = refl
same_pointwise [] (y ∷ b) = refl
same_pointwise (x ∷ a) [] = refl
same_pointwise (x ∷ a) (y ∷ b) = below (eqb x y) (same_pointwise a b) where
  below : (t : Bool) → pointwise nat_eq a b ≡ same_bytes a b → (t && pointwise nat_eq a b) ≡ elim t [ true ↦ same_bytes a b | false ↦ false ]
  below true h = h
  below false h = refl

module _ (a b : List ℕ) (i : ℕ) (h : i < length a) (k : i < length b) where
  -- One turn of the comparison where the words are equal, and where they differ.
  pub same_on : get_or a i 0 ≡ get_or b i 0 → same_bytes (drop i a) (drop i b) ≡ same_bytes (drop (i + 1) a) (drop (i + 1) b)
  unfolding same_bytes
  same_on e = rw (drop-cons a i 0 h, drop-cons b i 0 k, add-one i, eq-eqb _ _ e, same_bytes)

  pub same_off : (get_or a i 0 ≡ get_or b i 0 → ⊥) → same_bytes (drop i a) (drop i b) ≡ false
  unfolding same_bytes
  same_off d = rw (drop-cons a i 0 h, drop-cons b i 0 k, ne_eqb _ _ d, same_bytes)

pub same_end : (a b : List ℕ) (i : ℕ) → length a ≤ i → length b ≤ i → same_bytes (drop i a) (drop i b) ≡ true
unfolding same_bytes
same_end a b i h k = rw (drop_of_length-le a h, drop_of_length-le b k)

pub ruleset comparing = (lengths_differ, same_on, same_off, same_end)

module _ (text key : List ℕ) (start end : ℕ) (h : end ≤ length text) where
  -- A part that is there differs from what has another length, and from what ends on another byte.
  pub part_empty : (length key ≡ 0 → ⊥) → end ≤ start → same_bytes (part start end text) key ≡ false
  part_empty n k = lengths_differ (part start end text) key (λ e. n (sym e ∙ part-length start end text h ∙ omega arith))

  pub part_unlike : (end - start ≡ length key → ⊥) → same_bytes (part start end text) key ≡ false
  part_unlike n = lengths_differ (part start end text) key (λ e. n (sym (part-length start end text h) ∙ e))

  pub part_ends : (length key ≡ 0 → ⊥) → end - start ≡ length key → (get_or text (end - 1) 0 ≡ get_or key (length key - 1) 0 → ⊥)
      → same_bytes (part start end text) key ≡ false
  unfolding part
  part_ends n l d =
      differ_at (part start end text) key last
      (λ e. d
      (ap (λ (k : ℕ). get_or text k 0) (omega (arith, n)) ∙ sym (get_or-drop start text last 0)
      ∙ sym (get_or-take (end - start) (drop start text) last 0 (omega (arith, n)))
      ∙ e)) where
        last : ℕ
        last = length key - 1

pub ruleset unlike = (part_empty, part_unlike, part_ends)

-- Zeros before the rest of a list are its first words set to 0.
pub cleared_zeros : (n e : ℕ) (s : List ℕ) → e ≡ min n (length s) → replicate (length (take e s)) 0 ++ drop e s ≡ cleared n s
unfolding cleared
cleared_zeros zero e s h = let z : e ≡ 0 = omega arith in rw z refl
cleared_zeros (suc n) e [] h = let z : e ≡ 0 = omega arith in rw z refl
cleared_zeros (suc n) e (w ∷ s) h =
    let z : e ≡ suc (min n (length s)) = omega arith in rw z (ap (λ (t : List ℕ). 0 ∷ t) (cleared_zeros n (min n (length s)) s refl))

-- One turn of the hash.
pub hash_on : (s : List ℕ) (i h : ℕ) → i < length s → hashed_all h (drop i s) ≡ hashed_all (hashed h (get_or s i 0)) (drop (i + 1) s)
unfolding hashed_all
hash_on s i h k = rw (drop-cons s i 0 k, add-one i)

pub hash_end : (s : List ℕ) (i h : ℕ) → length s ≤ i → hashed_all h (drop i s) ≡ h
unfolding hashed_all
hash_end s i h k = rw (drop_of_length-le s k)

pub ruleset hashing = (hash_on, hash_end)

-- A product taken modulo a multiple of its factor.
scaled : (B C h : ℕ) → 0 < B → 0 < C → (h * B) % (C * B) ≡ h % C * B
scaled B C h b c =
    ap (λ (n : ℕ). n % (C * B)) (ap (λ (n : ℕ). n * B) (sym (div-add-mod' h C)) ∙ apart (h / C) (h % C))
    ∙ mod-mul-add (h / C) (C * B) (h % C * B) (mul-lt-mul_of_pos_right (mod-lt h c) b) where
      apart : (q r : ℕ) → (q * C + r) * B ≡ q * (C * B) + r * B
      apart q r = simp (add-mul, mul_assoc)

-- A number of 64 bits rotated by the library: the bits that move up and those that come round stand apart.
pub rotated_or : (h : ℕ) → h < 2 ^ 64 → bit_or ((h * 32) % 2 ^ 64) (h / 2 ^ 59) ≡ rotated h
unfolding rotated
rotated_or h k =
    ap (λ (n : ℕ). bit_or n (h / 2 ^ 59)) (scaled 32 (2 ^ 59) h (omega arith) (omega arith))
    ∙ or_shifted (h % 2 ^ 59) 5 (h / 2 ^ 59) ((div-lt_iff_lt-mul {k = 2 ^ 59} (omega arith)).1 k)
