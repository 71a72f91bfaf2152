-- Nested lists that were read whole are nested no deeper than the walk goes. Assumes nothing.
use mathlib.Core.Path.{◌≡◌, refl}
use mathlib.Core.Bool.{Bool, true, false}
use Prim.Native.Nat.{ℕ, suc, ◌+◌, ◌-◌, ◌≤◌}
use native.Mathlib.Omega.{arith}
use borrow.Author.Tests.{leb-true}
use lib.Dec.{leb}
use Rattle.capacity.specs.Below.horn.specs.Refusals.{nesting, Result, ok, refused, ◌>>=◌, need}
use Rattle.capacity.specs.Below.horn.specs.NestedLists.{Item, word, group, Items, closed, ended, bad_line, ◌then◌, asked_at, absent, sexp, members, sexps}
use Rattle.capacity.specs.Below.horn.specs.NestedLists.{Sexps}
use Rattle.capacity.specs.Below.horn.proofs.Inversion.{ok_equal, not_ok}
use Rattle.capacity.specs.Below.horn.proofs.Post.{Post, post_ok, post_refused, post_bind, post_after}
use Rattle.theory_laws.specs.Reading.{Shallow, shallow_leaf, shallow_list, Shallows, shallow_none, shallow_more}

asked_post : {A : Type 0} {Q : A → Type 0} (d : ℕ) (f : Unit {0} → Result A) → (d ≤ 256 → Post Q (f tt)) → Post Q (asked_at d >>= f)
unfolding asked_at need ◌>>=◌
asked_post {Q} d f k = by (leb d 256) (λ e. k (leb-true d 256 e)) where
  by : (b : Bool) → (b ≡ true → Post Q (f tt)) → Post Q (need b nesting >>= f)
  by true g = g refl
  by false g = post_refused

module _ (k : ℕ) (deep : 257 ≤ k) where
  mutual
    unfolding sexp absent

    one_shallow : (item : Item) (d left : ℕ) → left + d ≡ k → d ≤ 256 → Post (Shallow left) (sexp d item)
    one_shallow (word bytes) d left e h = post_ok (shallow_leaf {left = left} {d = left - 1} (omega arith))
    one_shallow (group inner) d left e h =
        post_bind _ (all_shallow inner (suc d) (left - 1) (omega arith)) (λ xs s. post_ok (shallow_list {left = left} {d = left - 1} (omega arith) s))

    all_shallow : (is : Items) (d left : ℕ) → left + d ≡ k → Post (Shallows left) (members d is)
    all_shallow closed d left e = post_ok shallow_none
    all_shallow bad_line d left e = post_refused
    all_shallow ended d left e = post_after (asked_at d) _ (λ _. post_refused)
    all_shallow (item then rest) d left e =
        asked_post d _ (λ h.
        post_bind _ (one_shallow item d left e h) (λ x s.
        post_bind _ (all_shallow rest d left e) (λ xs t.
        post_ok (shallow_more s t))))

  top_shallow : (is : Items) → Post (Shallows k) (sexps is)
  unfolding sexps
  top_shallow ended = post_ok shallow_none
  top_shallow bad_line = post_refused
  top_shallow closed = post_refused
  top_shallow (item then rest) =
      post_bind _ (one_shallow item 0 k (omega arith) (omega arith)) (λ x s.
      post_bind _ (top_shallow rest) (λ xs t.
      post_ok (shallow_more s t)))

-- What was read whole.
pub whole_shallow : (is : Items) (xs : Sexps) → sexps is ≡ ok xs → (k : ℕ) → 257 ≤ k → Shallows k xs
whole_shallow is xs e k deep = by (sexps is) e (top_shallow k deep is) where
  by : (m : Result Sexps) → m ≡ ok xs → Post (Shallows k) m → Shallows k xs
  by (ok ys) f (post_ok s) = rw (← ok_equal f) s
  by (refused r) f s = not_ok f
