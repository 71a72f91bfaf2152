-- Tests, and what follows where one more area stands behind those that are left. Assumes nothing.
use Prim.Native.Nat.{ℕ}
use mathlib.Core.Path.{◌≡◌, refl, sym}
use mathlib.Core.Bool.{Bool, true, false, true≢false}
use Rattle.asking_laws.specs.Below.horn.specs.Refusals as refusals
use Rattle.asking_laws.specs.Below.horn.specs.Refusals.{Refusal, Result, number}
use Rattle.asking_laws.specs.Below.horn.specs.StoredTerms.{Store}
use Rattle.judgments.specs.Below.outcomes.specs.Outcomes as outcomes
use Rattle.judgments.specs.Below.outcomes.specs.Outcomes.{Outcome}
use Rattle.judgments.specs.Below.outcomes.specs.Leaving as leaving
use Rattle.judgments.specs.Below.outcomes.specs.Leaving.{Did, ◌leaving◌}
use Rattle.judgments.specs.Below.outcomes.specs.Simulation.{Answers, both_refuse, both_ok, Simulates, refuse, leave}
use Rattle.judgments.specs.Below.theory_reading.specs.Storing.{before}

-- A test.
pub tested : (b : Bool) {b' : Bool} (n : ℕ) (r : Refusal) → b ≡ b' → n ≡ number r
    → Answers (λ (x y : Unit {0}). b' ≡ true) (outcomes.need b n) (refusals.need b' r)
unfolding refusals.need
tested true {b' = true} n r e q = both_ok refl
tested false {b' = false} n r e q = both_refuse q
tested true {b' = false} n r e q = absurd (true≢false e)
tested false {b' = true} n r e q = absurd (true≢false (sym e))

-- What comes first of something that leaves the areas as they are.
pub first_of_lem : {S A B C D E : Type 0} {Q : A → B → Type 0} {R : E → S → D → Type 0} {o : Outcome A} {m : Result B} (s : S) (ts : Store)
    (f : C × S → Did S E)
    (k : A → Outcome C) (g : B × Store → Result D)
    → Answers Q o m
    → ((a : A) (b : B) → Q a b → Simulates R (leaving.◌>>=◌ (k a leaving s) f) (g (b, ts)))
    → Simulates R (leaving.◌>>=◌ (outcomes.◌>>=◌ o k leaving s) f) (refusals.◌>>=◌ {A = B × Store} (refusals.◌>>=◌ m (λ b. refusals.ok (b, ts))) g)
unfolding refusals.◌>>=◌
first_of_lem s ts f k g (both_refuse e) j = refuse e
first_of_lem s ts f k g (both_ok q) j = j _ _ q

-- What leaves some areas, with another that it is not lent behind them.
pub bind_before : {P S A B C D : Type 0} {Q : A → S → B → Type 0} {R : C → S × P → D → Type 0} {m : Did S A} {m' : Result B} (p : P)
    (f : A × (S × P) → Did (S × P) C) (f' : B → Result D)
    → Simulates Q m m'
    → ((a : A) (s : S) (b : B) → Q a s b → Simulates R (f (a, (s, p))) (f' b))
    → Simulates R (leaving.◌>>=◌ (before p m) f) (refusals.◌>>=◌ m' f')
unfolding refusals.◌>>=◌
bind_before p f f' (refuse e) k = refuse e
bind_before p f f' (leave q) k = k _ _ _ q

-- The same where the definition has its value already.
pub giving_before : {P S A B C : Type 0} {Q : A → P → B → Type 0} {R : C → P × S → B → Type 0} {m : Did P A} {m' : Result B} (s : S)
    (f : A × (P × S) → Did (P × S) C)
    → Simulates Q m m'
    → ((a : A) (p : P) (b : B) → Q a p b → Simulates R (f (a, (p, s))) (refusals.ok b))
    → Simulates R (leaving.◌>>=◌ (before s m) f) m'
giving_before s f (refuse e) k = refuse e
giving_before s f (leave q) k = k _ _ _ q
