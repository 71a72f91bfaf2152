-- Lists after words are copied into them or cleared, place by place. Assumes nothing.
use Rattle.std.proofs.Common.{◌≡◌, ℕ, zero, suc, ◌+◌, ◌-◌, ◌<◌, ◌≤◌, List, [], ◌∷◌, length, get_or, set, refl, ap, ◌∙◌, add_assoc, arith, length-set, get_or-set_other, get_or-set_same}
use lib.Seq.{set_out}
use Rattle.words.specs.Parts.{copied, cleared}

pub length-copied : (n : ℕ) (a : List ℕ) (i : ℕ) (s : List ℕ) (j : ℕ) → length (copied a i s j n) ≡ length a
unfolding copied
length-copied zero a i s j = refl
length-copied (suc n) a i s j = length-copied n (set a i (get_or s j 0)) (i + 1) s (j + 1) ∙ length-set a i (get_or s j 0)

pub copied_before : (n : ℕ) (a : List ℕ) (i : ℕ) (s : List ℕ) (j m : ℕ) → m < i → get_or (copied a i s j n) m 0 ≡ get_or a m 0
unfolding copied
copied_before zero a i s j m h = refl
copied_before (suc n) a i s j m h =
    copied_before n (set a i (get_or s j 0)) (i + 1) s (j + 1) m (omega arith) ∙ get_or-set_other a i m (get_or s j 0) 0 (λ e. omega arith)

pub copied_behind : (n : ℕ) (a : List ℕ) (i : ℕ) (s : List ℕ) (j m : ℕ) → i + n ≤ m → get_or (copied a i s j n) m 0 ≡ get_or a m 0
unfolding copied
copied_behind zero a i s j m h = refl
copied_behind (suc n) a i s j m h =
    copied_behind n (set a i (get_or s j 0)) (i + 1) s (j + 1) m (omega arith) ∙ get_or-set_other a i m (get_or s j 0) 0 (λ e. omega arith)

pub copied_there : (n : ℕ) (a : List ℕ) (i : ℕ) (s : List ℕ) (j d : ℕ) → i + n ≤ length a → d < n →
    get_or (copied a i s j n) (i + d) 0 ≡ get_or s (j + d) 0
unfolding copied
copied_there zero a i s j d fits h = absurd (omega arith)
copied_there (suc n) a i s j zero fits h =
    let i0 : i + 0 ≡ i = omega arith in
    let j0 : j + 0 ≡ j = omega arith in
    rw (i0, j0)
    (copied_before n (set a i (get_or s j 0)) (i + 1) s (j + 1) i (omega arith) ∙ get_or-set_same a i (get_or s j 0) 0 (omega arith))
copied_there (suc n) a i s j (suc d) fits h =
    let p : i + suc d ≡ i + 1 + d = omega arith in
    let q : j + suc d ≡ j + 1 + d = omega arith in
    rw (p, q) (copied_there n (set a i (get_or s j 0)) (i + 1) s (j + 1) d (rw (length-set a i (get_or s j 0)) (omega arith)) (omega arith))

-- One turn of copying n words; past the list's end nothing is written.
module _ (n : ℕ) (s : List ℕ) where
  pub copy_first : (a : List ℕ) (p : ℕ) → copied a p s 0 n ≡ copied a p s 0 (n - 0)
  copy_first a p = let e : n - 0 ≡ n = omega arith in rw e

  pub copy_on : (a : List ℕ) (i j w : ℕ) → j < n → w ≡ get_or s j 0
      → copied (set a (i + j) w) (i + (j + 1)) s (j + 1) (n - (j + 1)) ≡ copied a (i + j) s j (n - j)
  unfolding copied
  copy_on a i j w h is = let e : n - j ≡ suc (n - (j + 1)) = omega arith in rw (e, is, ← add_assoc i j 1)

  pub copy_end : (a : List ℕ) (p j : ℕ) → n ≤ j → copied a p s j (n - j) ≡ a
  unfolding copied
  copy_end a p j h = let e : n - j ≡ 0 = omega arith in rw e

pub copied_out : (n : ℕ) (a : List ℕ) (i : ℕ) (s : List ℕ) (j : ℕ) → length a ≤ i → copied a i s j n ≡ a
unfolding copied
copied_out zero a i s j h = refl
copied_out (suc n) a i s j h = rw (set_out a i (get_or s j 0) h) (copied_out n a (i + 1) s (j + 1) (omega arith))

pub ruleset copying = (copy_first, copy_on, copy_end, copied_out)

pub length-cleared : (n : ℕ) (s : List ℕ) → length (cleared n s) ≡ length s
unfolding cleared
length-cleared zero s = refl
length-cleared (suc n) [] = refl
length-cleared (suc n) (w ∷ s) = ap suc (length-cleared n s)

pub get_d_cleared : (n : ℕ) (s : List ℕ) (i : ℕ) → i < n → get_or (cleared n s) i 0 ≡ 0
unfolding cleared
get_d_cleared zero s i h = absurd (omega arith)
get_d_cleared (suc n) [] i h = refl
get_d_cleared (suc n) (w ∷ s) zero h = refl
get_d_cleared (suc n) (w ∷ s) (suc i) h = get_d_cleared n s i (omega arith)
