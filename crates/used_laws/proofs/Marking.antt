-- Marks: words that are set one after the other, by their places. Assumes nothing.
use Prim.Native.Nat.{ℕ, zero, suc, ◌<◌, ◌≤◌}
use mathlib.Core.Path.{◌≡◌, refl, sym, ◌∙◌}
use mathlib.Core.Logic.{◌⊎◌, inl, inr, ⊎_elim}
use mathlib.Core.List.Memᴰ
use mathlib.Core.List.{List, ◌++◌, Memᴰ}
use native.Mathlib.Omega.{arith}
use lib.ListN.{length, get_or, set, length-set}
use lib.Seq.{get_or-set_same, get_or-set_other}
use Rattle.used_steps.specs.Below.names.proofs.Holds.{by_number}
use Rattle.used_steps.specs.Marks.{marked_by}

-- The word at a place is no 0.
abbrev pub Set : List ℕ → ℕ → Type 0
Set marks i = get_or marks i 0 ≡ 0 → ⊥

module _ (f : ℕ → ℕ) where
  pub length_marked : (k : ℕ) (marks : List ℕ) → length (marked_by f k marks) ≡ length marks
  unfolding marked_by
  length_marked zero marks = refl
  length_marked (suc k) marks = length_marked k (set marks (f k) 1) ∙ length-set marks (f k) 1

  one_set : (marks : List ℕ) (p i : ℕ) → i < length marks → i ≡ p → Set (set marks p 1) i
  one_set marks p i l e z = let h : get_or (set marks p 1) p 0 ≡ 1 = get_or-set_same marks p 1 0 (omega arith) in let q : get_or (set marks p 1) p 0 ≡ 0 = rw e at z in omega arith

  -- A word that is set stays so.
  pub mark_stays : (k : ℕ) (marks : List ℕ) (i : ℕ) → i < length marks → Set marks i → Set (marked_by f k marks) i
  unfolding marked_by
  mark_stays zero marks i l s = s
  mark_stays (suc k) marks i l s =
      mark_stays k (set marks (f k) 1) i (let e = length-set marks (f k) 1 in omega arith)
      (by_number i (f k) (λ e. one_set marks (f k) i l e) (λ d z. s (sym (get_or-set_other marks (f k) i 1 0 d) ∙ z)))

  -- Those that are named are set,
  pub mark_has : (k : ℕ) (marks : List ℕ) (i j : ℕ) → j < k → i ≡ f j → i < length marks → Set (marked_by f k marks) i
  unfolding marked_by
  mark_has zero marks i j b e l = absurd (omega arith)
  mark_has (suc k) marks i j b e l =
      let n = length-set marks (f k) 1 in
      by_number j k
      (λ q. mark_stays k (set marks (f k) 1) i (omega arith) (one_set marks (f k) i l (e ∙ (let h : f j ≡ f k = rw q in h))))
      (λ d. mark_has k (set marks (f k) 1) i j (omega arith) e (omega arith))

  -- and no other that was not.
  pub mark_only : (k : ℕ) (marks : List ℕ) (i : ℕ) → Set (marked_by f k marks) i → Set marks i ⊎ ((j : ℕ) × (j < k) × (i ≡ f j))
  unfolding marked_by
  mark_only zero marks i s = inl s
  mark_only (suc k) marks i s =
      ⊎_elim
      (λ h. by_number i (f k) (λ e. inr (k, omega arith, e)) (λ d. inl (λ z. h (get_or-set_other marks (f k) i 1 0 d ∙ z))))
      (λ (j, b, e). inr (j, omega arith, e))
      (mark_only k (set marks (f k) 1) i s)

-- The marks of the first n steps are those of a list of numbers.
pub record Leaned (marks : List ℕ) (n : ℕ) (leaned : List ℕ) : Type 0 where
  pub has : (i : ℕ) → i < n → Memᴰ i leaned → Set marks i
  pub only : (i : ℕ) → i < n → Set marks i → Memᴰ i leaned

-- More of them are named, and listed.
pub leaned_more : (f : ℕ → ℕ) (k : ℕ) (marks : List ℕ) (n : ℕ) {leaned : List ℕ} (more : List ℕ) → n ≤ length marks → Leaned marks n leaned
    → ((i : ℕ) → i < n → Memᴰ i more → (j : ℕ) × (j < k) × (i ≡ f j))
    → ((i j : ℕ) → i < n → j < k → i ≡ f j → Memᴰ i more)
    → Leaned (marked_by f k marks) n (more ++ leaned)
leaned_more f k marks n {leaned} more long l to from =
    record {
      has = λ i b m.
          ⊎_elim
          (λ x. let (j, c, e) = to i b x in mark_has f k marks i j c e (omega arith))
          (λ x. mark_stays f k marks i (omega arith) (l.has i b x))
          (Memᴰ.append_cases more m);
      only = λ i b s.
          ⊎_elim
          (λ h. Memᴰ.append_right more (l.only i b h))
          (λ (j, c, e). Memᴰ.append_left leaned (from i j b c e))
          (mark_only f k marks i s);
    }
