-- Laws of the index alone: a place is read by a function, and whether a number is that of the key is a test.
use Prim.Native.Nat.{ℕ, zero, suc, ◌+◌, ◌-◌, ◌%◌, ◌≤◌, ◌<◌}
use mathlib.Core.Path.{◌≡◌, refl, sym, ap, ◌∙◌}
use mathlib.Core.Bool.{Bool, true, false}
use native.Mathlib.Omega.{arith}
use native.Mathlib.Nat.{mod-lt, mod-eq_of_lt, mod-add-mod, add-mod-mod, add-mod_right, le_of_suc-le-suc}
use Rattle.arena.specs.Probing.{probe}
use Rattle.arena.specs.declared.Probe.{Probe}
use Rattle.arena.specs.declared.Probe.TheVariants.{Held, Free, Nowhere}
use Rattle.facts.specs.Below.horn.proofs.Equality.{case}

-- One turn, forward.
pub turn_none : (places : ℕ) (r : ℕ → ℕ) (q : ℕ → Bool) (i : ℕ) → probe places zero r q i ≡ Nowhere
unfolding probe
turn_none places r q i = refl

pub turn_free : (places f : ℕ) (r : ℕ → ℕ) (q : ℕ → Bool) (i : ℕ) → r i ≡ 0 → probe places (suc f) r q i ≡ Free i
unfolding probe
turn_free places f r q i e = rw (e, probe)

pub turn_held : (places f : ℕ) (r : ℕ → ℕ) (q : ℕ → Bool) (i v : ℕ) → r i ≡ suc v → q v ≡ true → probe places (suc f) r q i ≡ Held v
unfolding probe
turn_held places f r q i v e h = rw (e, probe) (rw (h, probe))

pub turn_on : (places f : ℕ) (r : ℕ → ℕ) (q : ℕ → Bool) (i v : ℕ) → r i ≡ suc v → q v ≡ false →
    probe places (suc f) r q i ≡ probe places f r q ((i + 1) % places)
unfolding probe
turn_on places f r q i v e h = rw (e, probe) (rw (h, probe))

-- One turn, by its three ways. Every induction below goes through it.
turn {ℓ} : {C : Type ℓ} (places f : ℕ) (r : ℕ → ℕ) (q : ℕ → Bool) (i : ℕ) →
    (r i ≡ 0 → probe places (suc f) r q i ≡ Free i → C) →
    ((v : ℕ) → r i ≡ suc v → q v ≡ true → probe places (suc f) r q i ≡ Held v → C) →
    ((v : ℕ) → r i ≡ suc v → q v ≡ false → probe places (suc f) r q i ≡ probe places f r q ((i + 1) % places) → C) →
    C
turn {C} places f r q i free held on = go (r i) refl
  where
    go : (w : ℕ) → r i ≡ w → C
    go zero e = free e (turn_free places f r q i e)
    go (suc v) e = case (q v) (λ h. held v e h (turn_held places f r q i v e h)) (λ h. on v e h (turn_on places f r q i v e h))

free_held {ℓ} : {C : Type ℓ} {i k : ℕ} → ◌≡◌ {A = Probe} (Free i) (Held k) → C
free_held e = let z : ◌≡◌ {A = ℕ} 0 1 = cc in absurd (omega arith)

nowhere_held {ℓ} : {C : Type ℓ} {k : ℕ} → ◌≡◌ {A = Probe} Nowhere (Held k) → C
nowhere_held e = let z : ◌≡◌ {A = ℕ} 0 1 = cc in absurd (omega arith)

nowhere_free {ℓ} : {C : Type ℓ} {k : ℕ} → ◌≡◌ {A = Probe} Nowhere (Free k) → C
nowhere_free e = let z : ◌≡◌ {A = ℕ} 0 1 = cc in absurd (omega arith)

module _ (places : ℕ) (pos : 0 < places) where
  -- A walk depends only on what it reads below `places`, and on the test at the numbers that it meets.
  pub same_walk : (r : ℕ → ℕ) (q q' : ℕ → Bool) → ((i v : ℕ) → i < places → r i ≡ suc v → q v ≡ q' v) →
      (f i : ℕ) → i < places → probe places f r q i ≡ probe places f r q' i
  same_walk r q q' eq zero i b = turn_none places r q i ∙ sym (turn_none places r q' i)
  same_walk r q q' eq (suc f) i b =
      turn places f r q i
      (λ z p. p ∙ sym (turn_free places f r q' i z))
      (λ v e h p. p ∙ sym (turn_held places f r q' i v e (sym (eq i v b e) ∙ h)))
      (λ v e h p. p ∙ same_walk r q q' eq f ((i + 1) % places) (mod-lt (i + 1) pos) ∙ sym (turn_on places f r q' i v e (sym (eq i v b e) ∙ h)))

  -- Where it found a number, a place holds that number plus 1, and the test holds of it.
  pub held_at : (r : ℕ → ℕ) (q : ℕ → Bool) (k f i : ℕ) → i < places → probe places f r q i ≡ Held k →
      (q k ≡ true) × ((p : ℕ) × (p < places) × (r p ≡ suc k))
  held_at r q k zero i b e = nowhere_held (sym (turn_none places r q i) ∙ e)
  held_at r q k (suc f) i b e =
      turn places f r q i
      (λ z p. free_held (sym p ∙ e))
      (λ v e' h p. let same : v ≡ k = cc in (rw same at h, (i, b, rw same at e')))
      (λ v e' h p. held_at r q k f ((i + 1) % places) (mod-lt (i + 1) pos) (sym p ∙ e))

  -- Where it ended at a free place, that place is free.
  pub free_at : (r : ℕ → ℕ) (q : ℕ → Bool) (k f i : ℕ) → i < places → probe places f r q i ≡ Free k → (k < places) × (r k ≡ 0)
  free_at r q k zero i b e = nowhere_free (sym (turn_none places r q i) ∙ e)
  free_at r q k (suc f) i b e =
      turn places f r q i
      (λ z p. let same : i ≡ k = cc in (rw same at b, rw same at z))
      (λ v e' h p. free_held (sym e ∙ p))
      (λ v e' h p. free_at r q k f ((i + 1) % places) (mod-lt (i + 1) pos) (sym p ∙ e))

  -- A walk that ends nowhere met only places in use, and with as many turns as places it met all of them.
  used : (r : ℕ → ℕ) (q : ℕ → Bool) (f i : ℕ) → i < places → probe places f r q i ≡ Nowhere →
      (d : ℕ) → d < f → r ((i + d) % places) ≡ 0 → ⊥
  used r q zero i b e d h z = absurd (omega arith)
  used r q (suc f) i b e d h z =
      turn places f r q i
      (λ _ p. nowhere_free (sym e ∙ p))
      (λ v e' h' p. nowhere_held (sym e ∙ p))
      (λ v e' h' p. later v e' d h z (used r q f ((i + 1) % places) (mod-lt (i + 1) pos) (sym p ∙ e)))
    where
      later : (v : ℕ) → r i ≡ suc v → (d : ℕ) → d < suc f → r ((i + d) % places) ≡ 0 →
          ((d : ℕ) → d < f → r (((i + 1) % places + d) % places) ≡ 0 → ⊥) → ⊥
      later v e' zero h z more =
          let same : (i + 0) % places ≡ i = rw native.Mathlib.Nat.add-zero (mod-eq_of_lt b) in
          let y : r i ≡ 0 = rw same at z in
          omega arith
      later v e' (suc d) h z more =
          let sum : i + 1 + d ≡ i + suc d = omega arith in
          more d (le_of_suc-le-suc h) (ap r (mod-add-mod (i + 1) places d ∙ ap (λ (n : ℕ). n % places) sum) ∙ z)

  pub all_used : (r : ℕ → ℕ) (q : ℕ → Bool) (i : ℕ) → i < places → probe places places r q i ≡ Nowhere →
      (p : ℕ) → p < places → r p ≡ 0 → ⊥
  all_used r q i b e p h z =
      used r q places i b e ((p + (places - i)) % places) (mod-lt (p + (places - i)) pos)
      (ap r (add-mod-mod i (p + (places - i)) places ∙ ap (λ (n : ℕ). n % places) sum ∙ add-mod_right p places ∙ mod-eq_of_lt h) ∙ z)
    where
      sum : i + (p + (places - i)) ≡ p + places
      sum = omega arith

  -- What a new number n at the free place p does to the walks.
  module _ (r r' : ℕ → ℕ) (n p : ℕ)
      (others : (i : ℕ) → i < places → (i ≡ p → ⊥) → r' i ≡ r i)
      (here : r' p ≡ suc n)
      (free : r p ≡ 0)
    where
      busy : (i v : ℕ) → i < places → r i ≡ suc v → r' i ≡ suc v
      busy i v b e = others i b (λ same. let z : r i ≡ 0 = rw same free in omega arith) ∙ e

      -- A walk that found k never met the free place.
      pub still_held : (q q' : ℕ → Bool) → ((i v : ℕ) → i < places → r i ≡ suc v → q' v ≡ q v) →
          (k f i : ℕ) → i < places → probe places f r q i ≡ Held k → probe places f r' q' i ≡ Held k
      still_held q q' eq k zero i b e = nowhere_held (sym (turn_none places r q i) ∙ e)
      still_held q q' eq k (suc f) i b e =
          turn places f r q i
          (λ z s. free_held (sym s ∙ e))
          (λ v e' h s. turn_held places f r' q' i v (busy i v b e') (eq i v b e' ∙ h) ∙ sym s ∙ e)
          (λ v e' h s.
          turn_on places f r' q' i v (busy i v b e') (eq i v b e' ∙ h) ∙
          still_held q q' eq k f ((i + 1) % places) (mod-lt (i + 1) pos) (sym s ∙ e))

      -- The walk that ended at the free place now finds the new number there.
      pub now_held : (q q' : ℕ → Bool) → ((i v : ℕ) → i < places → r i ≡ suc v → q' v ≡ q v) → q' n ≡ true →
          (f i : ℕ) → i < places → probe places f r q i ≡ Free p → probe places f r' q' i ≡ Held n
      now_held q q' eq new zero i b e = nowhere_free (sym (turn_none places r q i) ∙ e)
      now_held q q' eq new (suc f) i b e =
          turn places f r q i
          (λ z s. let same : p ≡ i = cc in turn_held places f r' q' i n (rw same at here) new)
          (λ v e' h s. free_held (sym e ∙ s))
          (λ v e' h s.
          turn_on places f r' q' i v (busy i v b e') (eq i v b e' ∙ h) ∙
          now_held q q' eq new f ((i + 1) % places) (mod-lt (i + 1) pos) (sym s ∙ e))

-- How many of the first b places are in use.
in_use : ℕ → ℕ
in_use zero = 0
in_use (suc v) = 1

pub occupied : (ℕ → ℕ) → ℕ → ℕ
occupied r zero = 0
occupied r (suc b) = in_use (r b) + occupied r b

pub occupied_all : (r : ℕ → ℕ) (b : ℕ) → ((i : ℕ) → i < b → r i ≡ 0 → ⊥) → occupied r b ≡ b
unfolding occupied in_use
occupied_all r zero all = refl
occupied_all r (suc b) all = go (r b) refl (occupied_all r b (λ i h z. all i (omega arith) z))
  where
    go : (v : ℕ) → r b ≡ v → occupied r b ≡ b → in_use (r b) + occupied r b ≡ suc b
    go zero e ih = absurd (all b (omega arith) e)
    go (suc v) e ih = rw (e, ih) (omega arith)

pub occupied_none : (r : ℕ → ℕ) (b : ℕ) → ((i : ℕ) → i < b → r i ≡ 0) → occupied r b ≡ 0
unfolding occupied in_use
occupied_none r zero all = refl
occupied_none r (suc b) all = rw (all b (omega arith), occupied_none r b (λ i h. all i (omega arith)))

pub occupied_same : (r r' : ℕ → ℕ) (b : ℕ) → ((i : ℕ) → i < b → r' i ≡ r i) → occupied r' b ≡ occupied r b
unfolding occupied
occupied_same r r' zero same = refl
occupied_same r r' (suc b) same = rw (same b (omega arith), occupied_same r r' b (λ i h. same i (omega arith)))

in_use_most : (v : ℕ) → in_use v ≤ 1
unfolding in_use
in_use_most zero = omega arith
in_use_most (suc v) = omega arith

pub occupied_one_more : (r r' : ℕ → ℕ) (p b : ℕ) → ((i : ℕ) → i < b → (i ≡ p → ⊥) → r' i ≡ r i) → occupied r' b ≤ suc (occupied r b)
unfolding occupied
occupied_one_more r r' p zero others = omega arith
occupied_one_more r r' p (suc b) others = go (native.Mathlib.Decide.ℕ_discrete b p)
    (occupied_one_more r r' p b (λ i h ne. others i (omega arith) ne))
  where
    go : Dec (b ≡ p) → occupied r' b ≤ suc (occupied r b) → in_use (r' b) + occupied r' b ≤ suc (in_use (r b) + occupied r b)
    go (yes same) ih =
        let below : occupied r' b ≡ occupied r b = occupied_same r r' b (λ i h. others i (omega arith) (λ e. omega arith)) in
        omega (arith, in_use_most (r' b))
    go (no ne) ih = let e : r' b ≡ r b = others b (omega arith) ne in rw e (omega arith)
