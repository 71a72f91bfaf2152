-- What arises in a run of the two calls, accepted or refused, at every moment of it: theories, stores and lists of steps.
-- "Numbers of terms, symbols and steps fit 16 bits" is said of all of them (proofs/Arising).
use Rattle.std.specs.Prelude.{ℕ, ◌≤◌, ◌≡◌, ◌⊎◌, List, length}
use Rattle.horn.specs.Refusals.{Result, ok}
use Rattle.horn.specs.Setting.{Setting}
use Rattle.horn.specs.Tokens.{tokens}
use Rattle.horn.specs.NestedLists.{Item, Items, ◌then◌, items, Sexp, Sexps, ◌∷ₛ◌, sexps}
use Rattle.horn.specs.Rulebook.{Theory, declaration, empty_theory, theory}
use Rattle.horn.specs.StoredTerms.{Term, Store, empty_store, request}
use Rattle.horn.specs.Checker.{Reading, ◌>>=◌, give, lift, stored, Goal, goals_of}
use Rattle.horn.specs.Certificate.{Progress, begun, certificate_form, certificate_of}

-- The theories between declarations: the one so far, and those after each declaration that is not refused.
pub data Declares : Theory → Sexps → Theory → Type 0 where
  declares_none : {th : Theory} {xs : Sexps} → Declares th xs th
  declares_next : {th next later : Theory} {x : Sexp} {xs : Sexps} → declaration th x ≡ ok next → Declares next xs later
      → Declares th (x ∷ₛ xs) later

-- A theory that arises in judging a rulebook, in either call. A rulebook longer than the limits allow is refused before any arises.
pub record TheoryArises (limits : Setting) (rulebook : List ℕ) (th : Theory) : Type 0 where
  pub short : length rulebook ≤ limits.rulebook_bytes
  pub rulebook_forms : Sexps
  pub read_whole : sexps (items (tokens rulebook)) ≡ ok rulebook_forms
  pub declares : Declares empty_theory rulebook_forms th

module _ (limits : Setting) where
  -- How a reading is put together: a value, a result that does not touch the store, a term that is stored, and one reading
  -- after another. All reading of goals and certificate is put together so (proofs/Readings).
  pub data Made : (A : Type 0) → Reading A → Type 1 where
    made_give : {A : Type 0} (a : A) → Made A (give a)
    made_lift : {A : Type 0} (r : Result A) → Made A (lift r)
    made_stored : (t : Term) → Made Term (stored limits t)
    made_after : {A B : Type 0} {m : Reading A} {f : A → Reading B} → Made A m → ((a : A) → Made B (f a)) → Made B (m >>= f)

  -- The stores that a reading passes, as it is put together, whether or not it is refused in the end: the one that it begins
  -- with, the one that storing a term leaves, those of its first part, and those of what follows, if the first part is not
  -- refused.
  unfoldable pub Passes : {A : Type 0} {m : Reading A} → Made A m → Store → Store → Type 0
  Passes (made_give a) s u = s ≡ u
  Passes (made_lift r) s u = s ≡ u
  Passes (made_stored t) s u = (s ≡ u) ⊎ (request limits t s ≡ ok u)
  Passes (made_after {A} {m} p k) s u = Passes p s u ⊎ ((q : A × Store) × (m s ≡ ok q) × Passes (k q.0) q.1 u)

  -- What a certificate's forms have come to, and the store then: before the first form, and after each form that is not refused.
  pub data Proceeds (th : Theory) : Progress → Items → Store → Progress → Store → Type 0 where
    proceeds_none : {now : Progress} {is : Items} {s : Store} → Proceeds th now is s now s
    proceeds_next : {now next later : Progress} {item : Item} {rest : Items} {s t u : Store} → certificate_form limits th now item s ≡ ok (next, t)
        → Proceeds th next rest t later u
        → Proceeds th now (item then rest) s later u

  -- A store that arises in reading the goals text, or after it in reading the certificate, however those readings are put
  -- together. The store begins empty.
  pub data StoreArises (rulebook text certificate : List ℕ) : Store → Type 1 where
    in_goals : {th : Theory} {u : Store} → theory rulebook ≡ ok th → (p : Made (List Goal) (goals_of limits th text)) → Passes p empty_store u
        → StoreArises rulebook text certificate u
    in_certificate : {th : Theory} {goals : List Goal} {s u : Store} → theory rulebook ≡ ok th → goals_of limits th text empty_store ≡ ok (goals, s)
        → (p : Made Progress (certificate_of limits th goals certificate)) → Passes p s u
        → StoreArises rulebook text certificate u

  -- Progress that arises in reading the certificate. A certificate longer than the limits allow is refused before any arises.
  pub record ProgressArises (rulebook text certificate : List ℕ) (now : Progress) : Type 0 where
    pub short : length certificate ≤ limits.certificate_bytes
    pub th : Theory
    pub gives : theory rulebook ≡ ok th
    pub goals : List Goal
    pub store : Store
    pub read : goals_of limits th text empty_store ≡ ok (goals, store)
    pub then_store : Store
    pub proceeds : Proceeds th (begun goals) (items (tokens certificate)) store now then_store
