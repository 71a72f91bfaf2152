-- An answer of the walk beside the definition's: the same refusal by its number, or values that are related.
use Rattle.std.specs.Prelude.{ℕ, ◌≡◌, refl, Bool, true, false, ◌&&◌}
use Rattle.std.proofs.Common.{sym, true≢false}
use Rattle.std.proofs.Math.Option.{Option}
use Rattle.names.specs.Below.horn.specs.Refusals.{Refusal, number, unknown, Result, ok, refused, ◌>>=◌, need, found}
use Rattle.names.specs.Tables.{Agree, both_none, both_some}
use Rattle.outcomes.specs.Outcomes as outcomes
use Rattle.outcomes.specs.Outcomes.{Outcome}
use Rattle.outcomes.specs.Leaving as leaving
use Rattle.outcomes.specs.Leaving.{Did, ◌leaving◌}

-- Without areas.
pub data Answers {A B : Type 0} (Q : A → B → Type 0) : Outcome A → Result B → Type 0 where
  both_refuse : {n : ℕ} {r : Refusal} → n ≡ number r → Answers Q (outcomes.refused n) (refused r)
  both_ok : {a : A} {b : B} → Q a b → Answers Q (outcomes.ok a) (ok b)

-- With the areas that are left.
pub data Simulates {S A B : Type 0} (Q : A → S → B → Type 0) : Did S A → Result B → Type 0 where
  refuse : {s : S} {n : ℕ} {r : Refusal} → n ≡ number r → Simulates Q (outcomes.refused n leaving s) (refused r)
  leave : {a : A} {s : S} {b : B} → Q a s b → Simulates Q (outcomes.ok a leaving s) (ok b)

-- One after the other.
pub bind : {S A B C D : Type 0} {Q : A → S → B → Type 0} {R : C → S → D → Type 0} {m : Did S A} {m' : Result B}
    (f : A × S → Did S C) (f' : B → Result D)
    → Simulates Q m m'
    → ((a : A) (s : S) (b : B) → Q a s b → Simulates R (f (a, s)) (f' b))
    → Simulates R (leaving.◌>>=◌ m f) (m' >>= f')
unfolding ◌>>=◌
bind f f' (refuse e) k = refuse e
bind f f' (leave q) k = k _ _ _ q

-- Something that leaves the areas as they are, and what follows.
pub pure : {S A B C D : Type 0} {Q : A → B → Type 0} {R : C → S → D → Type 0} {o : Outcome A} {m' : Result B} {s : S}
    (f : A × S → Did S C) (f' : B → Result D)
    → Answers Q o m'
    → ((a : A) (b : B) → Q a b → Simulates R (f (a, s)) (f' b))
    → Simulates R (leaving.◌>>=◌ (o leaving s) f) (m' >>= f')
unfolding ◌>>=◌
pure f f' (both_refuse e) k = refuse e
pure f f' (both_ok q) k = k _ _ q

-- A test, and what follows where it holds.
pub test : {S C D : Type 0} {R : C → S → D → Type 0} {s : S} (b : Bool) {b' : Bool} (n : ℕ) (r : Refusal)
    (f : Unit {0} × S → Did S C) (f' : Unit {0} → Result D)
    → b ≡ b'
    → n ≡ number r
    → (b' ≡ true → Simulates R (f (tt, s)) (f' tt))
    → Simulates R (leaving.◌>>=◌ (outcomes.need b n leaving s) f) (need b' r >>= f')
unfolding ◌>>=◌ need
test true {b' = true} n r f f' e q k = k refl
test false {b' = false} n r f f' e q k = refuse q
test true {b' = false} n r f f' e q k = absurd (true≢false e)
test false {b' = true} n r f f' e q k = absurd (true≢false (sym e))

-- Two tests with one refusal, for one test of the definition.
pub tests : {S C D : Type 0} {R : C → S → D → Type 0} {s : S} (b₁ b₂ : Bool) {b' : Bool} (n : ℕ) (r : Refusal)
    (f : Unit {0} × S → Did S C) (f' : Unit {0} → Result D)
    → (b₁ && b₂) ≡ b'
    → n ≡ number r
    → (b' ≡ true → Simulates R (f (tt, s)) (f' tt))
    → Simulates R (leaving.◌>>=◌ (outcomes.need b₁ n leaving s) (λ x. leaving.◌>>=◌ (outcomes.need b₂ n leaving s) f)) (need b' r >>= f')
unfolding ◌>>=◌ need
tests true b₂ n r f f' e q k = test b₂ n r f f' e q k
tests false b₂ {b' = false} n r f f' e q k = refuse q
tests false b₂ {b' = true} n r f f' e q k = absurd (true≢false (sym e))

-- Something looked for, and what follows where it is found.
pub look : {S A C D : Type 0} {Means : ℕ → A → Type 0} {R : C → S → D → Type 0} {o : Option ℕ} {o' : Option A} {s : S} (n : ℕ) (r : Refusal)
    (f : ℕ × S → Did S C) (f' : A → Result D)
    → Agree Means o o'
    → n ≡ number r
    → ((e : ℕ) (a : A) → Means e a → Simulates R (f (e, s)) (f' a))
    → Simulates R (leaving.◌>>=◌ (outcomes.or_else o n leaving s) f) (found o' r >>= f')
unfolding ◌>>=◌ found
look n r f f' both_none q k = refuse q
look n r f f' (both_some m) q k = k _ _ m

-- What is looked for and unknown is 12.
pub sought : {A : Type 0} {Means : ℕ → A → Type 0} {o : Option ℕ} {o' : Option A} → Agree Means o o'
    → Answers Means (outcomes.or_else o 12) (found o' unknown)
unfolding found number
sought both_none = both_refuse refl
sought (both_some m) = both_ok m

-- What follows a search and its test: the definition looks and tests, then goes on.
pub checked : {S A C D E : Type 0} {Q : A → S → C → Type 0} {R : E → S → D → Type 0} {m : Did S A} (m' : Result C) (g : C → Bool) (r : Refusal)
    (f : A × S → Did S E) (f' : C → Result D)
    → Simulates Q m (m' >>= λ c. need (g c) r >>= λ _. ok c)
    → ((a : A) (s : S) (c : C) → Q a s c → Simulates R (f (a, s)) (f' c))
    → Simulates R (leaving.◌>>=◌ m f) (m' >>= λ c. need (g c) r >>= λ _. f' c)
unfolding ◌>>=◌ need
checked {Q} {R} {m} (ok c) g r f f' h k = by (g c) h where
  by : (b : Bool) → Simulates Q m (need b r >>= λ _. ok c) → Simulates R (leaving.◌>>=◌ m f) (need b r >>= λ _. f' c)
  by true h = bind f (λ x. f' x) h k
  by false h = bind f (λ x. f' x) h k
checked (refused r') g r f f' h k = bind f f' h k

-- Beside an area that the walk does not touch.
pub aside : {P S A B : Type 0} {Q : A → S → B → Type 0} {R : A → P × S → B → Type 0} {m : Did S A} {m' : Result B} (p : P)
    → Simulates Q m m'
    → ((a : A) (s : S) (b : B) → Q a s b → R a (p, s) b)
    → Simulates R (leaving.beside p m) m'
aside p (refuse e) k = refuse e
aside p (leave q) k = leave (k _ _ _ q)

pub bind_aside : {P S A B C D : Type 0} {Q : A → S → B → Type 0} {R : C → P × S → D → Type 0} {m : Did S A} {m' : Result B} (p : P)
    (f : A × (P × S) → Did (P × S) C) (f' : B → Result D)
    → Simulates Q m m'
    → ((a : A) (s : S) (b : B) → Q a s b → Simulates R (f (a, (p, s))) (f' b))
    → Simulates R (leaving.◌>>=◌ (leaving.beside p m) f) (m' >>= f')
unfolding ◌>>=◌
bind_aside p f f' (refuse e) k = refuse e
bind_aside p f f' (leave q) k = k _ _ _ q

pub checked_aside : {P S A C D E : Type 0} {Q : A → S → C → Type 0} {R : E → P × S → D → Type 0} {m : Did S A} (p : P) (m' : Result C) (g : C → Bool)
    (r : Refusal)
    (f : A × (P × S) → Did (P × S) E) (f' : C → Result D)
    → Simulates Q m (m' >>= λ c. need (g c) r >>= λ _. ok c)
    → ((a : A) (s : S) (c : C) → Q a s c → Simulates R (f (a, (p, s))) (f' c))
    → Simulates R (leaving.◌>>=◌ (leaving.beside p m) f) (m' >>= λ c. need (g c) r >>= λ _. f' c)
unfolding ◌>>=◌ need
checked_aside {Q} {R} {m} p (ok c) g r f f' h k = by (g c) h where
  by : (b : Bool) → Simulates Q m (need b r >>= λ _. ok c) → Simulates R (leaving.◌>>=◌ (leaving.beside p m) f) (need b r >>= λ _. f' c)
  by true h = bind_aside p f (λ x. f' x) h k
  by false h = bind_aside p f (λ x. f' x) h k
checked_aside p (refused r') g r f f' h k = bind_aside p f f' h k

pub tested_aside : {P S A C D E : Type 0} {Q : A → S → C → Type 0} {R : E → P × S → D → Type 0} {m : Did S A} (p : P) (b : Bool) (r₀ : Refusal) (m' : Result C)
    (g : C → Bool) (r : Refusal)
    (f : A × (P × S) → Did (P × S) E) (f' : C → Result D)
    → Simulates Q m (need b r₀ >>= λ _. m' >>= λ c. need (g c) r >>= λ _. ok c)
    → ((a : A) (s : S) (c : C) → Q a s c → Simulates R (f (a, (p, s))) (f' c))
    → Simulates R (leaving.◌>>=◌ (leaving.beside p m) f) (need b r₀ >>= λ _. m' >>= λ c. need (g c) r >>= λ _. f' c)
unfolding ◌>>=◌ need
tested_aside p true r₀ m' g r f f' h k = checked_aside p m' g r f f' h k
tested_aside p false r₀ m' g r f f' h k = bind_aside p f f' h k

-- A value that the definition makes of what was read.
pub after : {S A B C : Type 0} {Q : A → S → B → Type 0} {R : A → S → C → Type 0} {m : Did S A} {m' : Result B} (g : B → C)
    → Simulates Q m m'
    → ((a : A) (s : S) (b : B) → Q a s b → R a s (g b))
    → Simulates R m (m' >>= λ b. ok (g b))
unfolding ◌>>=◌
after g (refuse e) k = refuse e
after g (leave q) k = leave (k _ _ _ q)

-- One after the other, without areas.
pub then : {A B C D : Type 0} {Q : A → B → Type 0} {R : C → D → Type 0} {o : Outcome A} {m' : Result B} (f : A → Outcome C) (f' : B → Result D)
    → Answers Q o m'
    → ((a : A) (b : B) → Q a b → Answers R (f a) (f' b))
    → Answers R (outcomes.◌>>=◌ o f) (m' >>= f')
unfolding ◌>>=◌
then f f' (both_refuse e) k = both_refuse e
then f f' (both_ok q) k = k _ _ q

-- A test, and a value with other areas where it holds.
pub test_then : {S A C D : Type 0} {R : C → S → D → Type 0} (s : S) (b : Bool) {b' : Bool} (n : ℕ) (r : Refusal) (a : A) (s' : S)
    (f : A × S → Did S C) (f' : Unit {0} → Result D)
    → b ≡ b'
    → n ≡ number r
    → (b' ≡ true → Simulates R (f (a, s')) (f' tt))
    → Simulates R (leaving.◌>>=◌ (leaving.◌>>=◌ (outcomes.need b n leaving s) (λ _. outcomes.ok a leaving s')) f) (need b' r >>= f')
unfolding ◌>>=◌ need
test_then s true {b' = true} n r a s' f f' e q k = k refl
test_then s false {b' = false} n r a s' f f' e q k = refuse q
test_then s true {b' = false} n r a s' f f' e q k = absurd (true≢false e)
test_then s false {b' = true} n r a s' f f' e q k = absurd (true≢false (sym e))

-- Three of the definition's steps as one.
abbrev pub paired : {A C : Type 0} → A → C → A × C
paired a c = (a, c)

pub three : {A B C D : Type 0} (m₁ : Result A) (m₂ : Result B) (m₃ : B → Result C) (f : A → C → Result D)
    → ((m₁ >>= λ a. m₂ >>= λ b. m₃ b >>= λ c. ok (paired a c)) >>= λ p. f p.0 p.1) ≡ (m₁ >>= λ a. m₂ >>= λ b. m₃ b >>= λ c. f a c)
unfolding ◌>>=◌
three (refused r) m₂ m₃ f = refl
three (ok a) (refused r) m₃ f = refl
three {C} (ok a) (ok b) m₃ f = one (m₃ b) where
  one : (m : Result C) → ((m >>= λ c. ok (paired a c)) >>= λ p. f p.0 p.1) ≡ (m >>= λ c. f a c)
  one (ok c) = refl
  one (refused r) = refl

pub three_on : {A B C D : Type 0} (m₁ : Result A) (m₂ : A → Result B) (m₃ : B → Result C) (f : B → C → Result D)
    → ((m₁ >>= λ a. m₂ a >>= λ b. m₃ b >>= λ c. ok (paired b c)) >>= λ p. f p.0 p.1) ≡ (m₁ >>= λ a. m₂ a >>= λ b. m₃ b >>= λ c. f b c)
unfolding ◌>>=◌
three_on (refused r) m₂ m₃ f = refl
three_on {B} {C} (ok a) m₂ m₃ f = two (m₂ a) where
  one : (b : B) (m : Result C) → ((m >>= λ c. ok (paired b c)) >>= λ p. f p.0 p.1) ≡ (m >>= λ c. f b c)
  one b (ok c) = refl
  one b (refused r) = refl

  two : (m : Result B) → ((m >>= λ b. m₃ b >>= λ c. ok (paired b c)) >>= λ p. f p.0 p.1) ≡ (m >>= λ b. m₃ b >>= λ c. f b c)
  two (ok b) = one b (m₃ b)
  two (refused r) = refl

-- What the definition gave is known.
pub knowing : {S A B : Type 0} {Q : A → S → B → Type 0} {m : Did S A} {m' : Result B} → Simulates Q m m'
    → Simulates (λ a s b. Q a s b × (m' ≡ ok b)) m m'
knowing (refuse e) = refuse e
knowing (leave q) = leave (q, refl)

pub knowing_answer : {A B : Type 0} {Q : A → B → Type 0} {o : Outcome A} {m' : Result B} → Answers Q o m' → Answers (λ a b. Q a b × (m' ≡ ok b)) o m'
knowing_answer (both_refuse e) = both_refuse e
knowing_answer (both_ok q) = both_ok (q, refl)

-- A value that the walk makes of what was read.
pub giving : {S A B C : Type 0} {Q : A → S → B → Type 0} {R : C → S → B → Type 0} {m : Did S A} {m' : Result B} (g : A → C)
    → Simulates Q m m'
    → ((a : A) (s : S) (b : B) → Q a s b → R (g a) s b)
    → Simulates R (leaving.◌>>=◌ m (λ x. outcomes.ok (g x.0) leaving x.1)) m'
giving g (refuse e) k = refuse e
giving g (leave q) k = leave (k _ _ _ q)

-- Less is said.
pub weaker : {S A B : Type 0} {Q R : A → S → B → Type 0} {m : Did S A} {m' : Result B} → Simulates Q m m'
    → ((a : A) (s : S) (b : B) → Q a s b → R a s b)
    → Simulates R m m'
weaker (refuse e) k = refuse e
weaker (leave q) k = leave (k _ _ _ q)
