-- Matching the premises is the definition's. Assumes nothing.
use mathlib.Core.Path.{◌≡◌, refl}
use mathlib.Core.Bool.{Bool, true, false}
use mathlib.Core.List.{List, [], ◌∷◌, Memᴰ}
use mathlib.Core.Option.{Option, none, some}
use Prim.Native.Nat.{ℕ, zero, suc, ◌+◌, ◌≤◌, ◌<◌}
use native.Mathlib.Omega.{arith}
use native.Mathlib.Decide.{dec_le}
use borrow.Author.Tests.{lt-ltb, le-ltb}
use lib.ListN.{length, get_or, get_elem?}
use Rattle.numerals.specs.Below.horn.specs.Refusals.{Refusal, number, Result, found, ◌>>=◌, no_such_step, bad_premise}
use Rattle.numerals.specs.Below.horn.specs.Setting.{Setting}
use Rattle.numerals.specs.Below.horn.specs.Rulebook.{Variable, Pattern, Theory}
use Rattle.numerals.specs.Below.horn.specs.StoredTerms.{Store}
use Rattle.numerals.specs.Below.horn.specs.Matching.{Bind, Step, match_premises}
use Rattle.concluding.specs.Below.outcomes.specs.Outcomes as outcomes
use Rattle.concluding.specs.Below.outcomes.specs.Leaving as leaving
use Rattle.concluding.specs.Below.outcomes.specs.Leaving.{Did, ◌leaving◌}
use Rattle.nodes.specs.Below.items.specs.Places as layout
use Rattle.concluding.specs.Below.theory_laws.specs.Representation.{Entries, FlatList, no_premises, one_premise, Holds}
use Rattle.concluding.specs.Below.outcomes.specs.Simulation.{Simulates, refuse, leave}
use Rattle.concluding.specs.Below.theory_laws.proofs.Frames.{Keeps}
use Rattle.numerals.specs.Below.horn.proofs.SoundnessWords.{Apart}
use Rattle.nodes.specs.Below.theory_reading.proofs.Stored.{Stored}
use Rattle.numerals.specs.Below.facts.proofs.Lists.{beyond}
use Rattle.concluding.specs.Below.matching.specs.Matching.{Tried}
use Rattle.concluding.specs.Concluding.{or_refused, step_judgment, premises_matched}
use Rattle.matching_laws.proofs.Relations.{Full, Binds, StepsAt, Saturates, as_it_is, at_most, ReferencesAt, no_references, one_reference}
use Rattle.matching_laws.proofs.Matching.{Matching, both_differ, both_match, pattern_matches}

-- Where the patterns end, with the bindings that are left.
pub record MatchedTo (es : Entries) (th : Theory) (heap : List ℕ) (ts : Store) (vs : List Variable) (end o : ℕ) (now : List ℕ)
    (binds : List Bind) : Type 0 where
  pub ends : o ≡ end
  pub keeps : Keeps layout.bindings heap now
  pub bound : Binds es th ts vs now binds

-- A mismatch refused by its caller's number, and what follows a match.
pub found_match : {A B : Type 0} {Q : A → List ℕ → B → Type 0} {es : Entries} {th : Theory} {heap : List ℕ} {ts : Store} {vs : List Variable} {middle : ℕ}
    {x : Tried ℕ} {y : Option (List Bind)}
    (n : ℕ) (r : Refusal) (f : ℕ × List ℕ → Did (List ℕ) A) (f' : List Bind → Result B)
    → n ≡ number r
    → Matching es th heap ts vs middle x y
    → ((now : List ℕ) (more : List Bind) → Keeps layout.bindings heap now → Binds es th ts vs now more → Simulates Q (f (middle, now)) (f' more))
    → Simulates Q (leaving.◌>>=◌ (or_refused x n) f) (found y r >>= f')
unfolding found ◌>>=◌
found_match n r f f' e (both_differ k) next = refuse e
found_match n r f f' e (both_match k b) next = next _ _ k b

-- A test of the words, for something that the definition looks for.
neither : {S A C D : Type 0} {R : C → S → D → Type 0} {b : Bool} {y : Option A} (s : S) (n : ℕ) (r : Refusal) (f : Unit {0} × S → Did S C) (f' : A → Result D)
    → n ≡ number r → b ≡ false → y ≡ none → Simulates R (leaving.◌>>=◌ (outcomes.need b n leaving s) f) (found y r >>= f')
unfolding found ◌>>=◌
neither s n r f f' e b y = rw (b, y) (refuse e)

each_one : {S A C D : Type 0} {R : C → S → D → Type 0} {b : Bool} {y : Option A} {a : A} (s : S) (n : ℕ) (r : Refusal) (f : Unit {0} × S → Did S C)
    (f' : A → Result D)
    → b ≡ true → y ≡ some a → Simulates R (f (tt, s)) (f' a) → Simulates R (leaving.◌>>=◌ (outcomes.need b n leaving s) f) (found y r >>= f')
unfolding found ◌>>=◌
each_one s n r f f' b y k = rw (b, y) k

by_bound {ℓ} : {C : Type ℓ} (a b : ℕ) → (a ≤ b → C) → (b < a → C) → C
by_bound {C} a b f g = go (dec_le a b)
  where
    go : Dec (a ≤ b) → C
    go (yes l) = f l
    go (no l) = g (omega arith)

-- A step by its number.
pub a_step : {A : Type 0} (xs : List A) (i : ℕ) → i < length xs → (x : A) × (get_elem? xs i ≡ some x)
a_step [] i l = absurd (omega arith)
a_step (x ∷ xs) zero l = (x, refl)
a_step (x ∷ xs) (suc i) l = a_step xs i (omega arith)

saturated_below : {word n b : ℕ} → Saturates word n → n < b → b < 4294967295 → word ≡ n
saturated_below (as_it_is e l) i j = e
saturated_below (at_most e l) i j = absurd (omega arith)

saturated_above : {word n b : ℕ} → Saturates word n → b ≤ n → b < 4294967295 → b ≤ word
saturated_above (as_it_is e l) i j = omega arith
saturated_above (at_most e l) i j = omega arith

module _ {text heap : List ℕ} {es : Entries} {top : ℕ} {th : Theory} (h : Holds text heap es top th) (small : top ≤ layout.bindings)
    {limits : Setting} (narrow : limits.nodes < 4294967295) {places : ℕ} {store : List ℕ} {ts : Store} (st : Stored es th limits places store ts)
    {vs : List Variable} (d : Apart vs) (room : layout.bindings + length vs ≤ 16384)
    {low high : ℕ} (under : high ≤ layout.bindings)
    {table stack : List ℕ} {steps : List Step} (sa : StepsAt es th ts table steps) where
  -- "For each premise in order, no earlier step 24, mismatch 25."
  pub premises_match : {o o' k : ℕ} {ps : List Pattern} {ns : List ℕ} → FlatList heap es top low high vs o ps o' → ((p : Pattern) → Memᴰ p ps → Full p)
      → length ns ≡ length ps
      → ReferencesAt stack k ns
      → {now : List ℕ} {binds : List Bind} → Keeps layout.bindings heap now → Binds es th ts vs now binds
      → Simulates (MatchedTo es th heap ts vs o') (premises_matched limits.nodes places store table stack (length steps) (length ps) k o now)
      (match_premises steps ps ns binds)
  unfolding premises_matched match_premises number
  premises_match no_premises full e no_references k b = leave record { ends = refl; keeps = k; bound = b }
  premises_match no_premises full e (one_reference r rs) k b = absurd (omega arith)
  premises_match (one_premise p ps) full e no_references k b = absurd (omega arith)
  premises_match {o} {k = at} (one_premise {o₁ = o₁} {o' = o'} {p = q} {ps = qs} p ps) full e (one_reference {n = n} {ns = ns} r rs) {now} {binds} k b =
      by_bound (length steps) n
      (λ above. neither now 24 no_such_step _ _ refl (le-ltb (get_or stack at 0) (length steps) (saturated_above r above sa.few)) (beyond steps n above))
      (λ l.
      let w : get_or stack at 0 ≡ n = saturated_below r l sa.few in
      let (s, f) = a_step steps n l in
      let m = sa.each n s f in
      each_one now 24 no_such_step _ _ (lt-ltb (get_or stack at 0) (length steps) (omega arith)) f
      (rw (w, ← m.tree)
      (found_match 25 bad_premise _ _ refl
      (pattern_matches h small narrow st d room under p (full q (Memᴰ.head refl)) 16384 (step_judgment table n) (omega arith) m.below k b)
      (λ now' more k' b'. premises_match ps (λ x m. full x (Memᴰ.tail m)) (omega arith) rs k' b'))))
