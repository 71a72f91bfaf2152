-- What a variable's binding is, and one binding more. Assumes nothing.
use mathlib.Core.Path.{◌≡◌, refl, sym, ◌∙◌}
use mathlib.Core.List.{List, [], ◌∷◌, ◌++◌}
use mathlib.Core.Option.{Option, none}
use Prim.Native.Nat.{ℕ, zero, suc, ◌+◌, ◌≤◌, ◌<◌}
use native.Mathlib.Omega.{arith}
use lib.ListN.{length, get_or, set, length-set}
use lib.Seq.{get_or-set_same, get_or-set_other}
use Rattle.numerals.specs.Below.horn.specs.Names.{Name, named}
use Rattle.numerals.specs.Below.horn.specs.Rulebook.{Variable, Theory}
use Rattle.numerals.specs.Below.horn.specs.StoredTerms.{Term, Store}
use Rattle.numerals.specs.Below.horn.specs.Matching.{Bind, bind, lookup}
use Rattle.numerals.specs.Below.horn.proofs.Equality.{case, chose_true, chose_false, named_decides, decides_false}
use Rattle.nodes.specs.Below.names.proofs.Holds.{by_number}
use Rattle.numerals.specs.Below.horn.proofs.SoundnessMatching.{lookup_new}
use Rattle.numerals.specs.Below.horn.proofs.SoundnessWords.{Apart}
use Rattle.nodes.specs.Below.items.specs.Places as layout
use Rattle.concluding.specs.Below.theory_laws.specs.Representation.{Entries, Nth}
use Rattle.concluding.specs.Below.theory_laws.proofs.Frames.{Keeps}
use Rattle.concluding.specs.Below.theory_laws.proofs.Ready.{nth_below}
use Rattle.nodes.specs.Below.theory_reading.proofs.Naming.{nth_one, nth_name}
use Rattle.nodes.specs.Below.theory_reading.proofs.Stored.{Longer, Means, means_longer}
use Rattle.concluding.specs.Below.matching.specs.Matching.{binding_of, binding_at}
use Rattle.concluding.specs.Concluding.{unbound}
use Rattle.matching_laws.proofs.Relations.{Bound, not_bound, bound_to, Binds}

-- A new binding touches no other name.
pub lookup_other : (binds : List Bind) (n : Name) (u : Term) (name : Name) → (name ≡ n → ⊥) → lookup name (binds ++ (bind n u ∷ [])) ≡ lookup name binds
unfolding lookup
lookup_other [] n u name d = chose_false _ _ (decides_false named_decides name n d)
lookup_other (bind m v ∷ binds) n u name d =
    case (named name m)
    (λ p. chose_true _ _ p ∙ sym (chose_true _ _ p))
    (λ p. chose_false _ _ p ∙ lookup_other binds n u name d ∙ sym (chose_false _ _ p))

module _ {es : Entries} {th : Theory} where
  -- A longer store.
  pub bound_longer : {ts us : Store} {word : ℕ} {o : Option Term} → Longer ts us → Bound es th ts word o → Bound es th us word o
  bound_longer g (not_bound e) = not_bound e
  bound_longer g (bound_to k e m) = bound_to k e (means_longer g m)

  pub binds_longer : {ts us : Store} {vs : List Variable} {now : List ℕ} {binds : List Bind} → Longer ts us → Binds es th ts vs now binds
      → Binds es th us vs now binds
  binds_longer g b = record { each = λ v name n. bound_longer g (b.each v name n) }

  module _ {ts : Store} {vs : List Variable} (d : Apart vs) {now : List ℕ} {binds : List Bind} (b : Binds es th ts vs now binds) where
    -- Variable v, not bound before, bound to term k.
    pub binds_more : (v k : ℕ) (name : Name) (t : Term) → Nth vs v name → lookup name binds ≡ none → layout.bindings + length vs ≤ length now
        → Means es th ts k t
        → Binds es th ts vs (set now (binding_at v) (k + 1)) (binds ++ (bind name t ∷ []))
    unfolding binding_of
    binds_more v k name t n free long l = record { each = each }
      where
        each : (w : ℕ) (other : Name) → Nth vs w other
            → Bound es th ts (binding_of (set now (binding_at v) (k + 1)) w) (lookup other (binds ++ (bind name t ∷ [])))
        each w other m =
            by_number w v
            (λ q.
            let x : other ≡ name = nth_name m (rw (← q) at n) in
            let y : binding_of (set now (binding_at v) (k + 1)) w ≡ k + 1 =
            rw q (get_or-set_same now (binding_at v) (k + 1) 0 (let s = nth_below vs n in omega arith)) in
            rw (x, lookup_new binds name t free) (bound_to k y l))
            (λ q.
            let x = lookup_other binds name t other (λ p. q (nth_one d (rw p at m) n)) in
            let y : binding_of (set now (binding_at v) (k + 1)) w ≡ binding_of now w =
            get_or-set_other now (binding_at v) (binding_at w) (k + 1) 0 (λ p. q (omega arith)) in
            rw (x, y) (b.each w other m))

-- Nothing is bound once the words are taken back.
unbound_other : (n : ℕ) (now : List ℕ) (i : ℕ) → (i < layout.bindings) → get_or (unbound n now) i 0 ≡ get_or now i 0
unfolding unbound
unbound_other zero now i l = refl
unbound_other (suc n) now i l = unbound_other n (set now (binding_at n) 0) i l ∙ get_or-set_other now (binding_at n) i 0 0 (λ p. omega arith)

zero_set : (s : List ℕ) (j : ℕ) → get_or (set s j 0) j 0 ≡ 0
zero_set [] j = refl
zero_set (x ∷ s) zero = refl
zero_set (x ∷ s) (suc j) = zero_set s j

zero_kept : (n : ℕ) (now : List ℕ) (i : ℕ) → get_or now i 0 ≡ 0 → get_or (unbound n now) i 0 ≡ 0
unfolding unbound
zero_kept zero now i e = e
zero_kept (suc n) now i e =
    zero_kept n (set now (binding_at n) 0) i (by_number i (binding_at n) (λ q. rw q (zero_set now (binding_at n)))
    (λ q. get_or-set_other now (binding_at n) i 0 0 q ∙ e))

unbound_zero : (n : ℕ) (now : List ℕ) (v : ℕ) → v < n → get_or (unbound n now) (binding_at v) 0 ≡ 0
unfolding unbound
unbound_zero zero now v l = absurd (omega arith)
unbound_zero (suc n) now v l =
    by_number v n
    (λ q. rw q (zero_kept n (set now (binding_at n) 0) (binding_at n) (zero_set now (binding_at n))))
    (λ q. unbound_zero n (set now (binding_at n) 0) v (omega arith))

pub binds_none : {es : Entries} {th : Theory} {ts : Store} {vs : List Variable} (now : List ℕ) → Binds es th ts vs (unbound (length vs) now) []
unfolding binding_of lookup
binds_none {vs} now = record { each = λ v name n. not_bound (unbound_zero (length vs) now v (nth_below vs n)) }

pub keeps_unbound : {heap : List ℕ} (n : ℕ) (now : List ℕ) → Keeps layout.bindings heap now → Keeps layout.bindings heap (unbound n now)
unfolding unbound
keeps_unbound n now k = record { same_length = unbound-length n now ∙ k.same_length; words = λ i l. unbound_other n now i l ∙ k.words i l }
  where
    unbound-length : (n : ℕ) (now : List ℕ) → length (unbound n now) ≡ length now
    unbound-length zero now = refl
    unbound-length (suc n) now = unbound-length n (set now (binding_at n) 0) ∙ length-set now (binding_at n) 0
