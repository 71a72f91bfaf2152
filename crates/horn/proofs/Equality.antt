-- Each Boolean test of equality is true exactly where the two are equal; what is found in a list, and what is a member of it.
use Prim.Native.Nat.{ℕ, zero, suc, ◌<◌}
use mathlib.Core.Path.{◌≡◌, refl, sym, ap, ap₂, subst, ◌∙◌}
use mathlib.Core.Bool.{Bool, true, false, not, ◌&&◌, true≢false}
use mathlib.Core.List.{List, [], ◌∷◌, ◌++◌, Memᴰ}
use mathlib.Core.Option.{none, some}
use native.Mathlib.Omega.{arith}
use lib.ListN.{length, get_elem?}
use lib.Dec.{T, eqb, eqb→eq, eqb_refl}
use Rattle.horn.specs.Names.{named, same_list, first, some_of}
use Rattle.horn.specs.Rulebook.{Output, sort, judgment, same_output, Symbol, symbol, same_symbol}
use Rattle.horn.specs.StoredTerms.{Term, node, Terms, []ₜ, ◌∷ₜ◌, same_term, same_terms}

-- Booleans.
pub IsTrue-of_true : {b : Bool} → b ≡ true → T b
IsTrue-of_true e = subst T (sym e) tt

pub true-of_IsTrue : (b : Bool) → T b → b ≡ true
true-of_IsTrue true t = refl
true-of_IsTrue false t = absurd t

pub case {ℓ} : {C : Type ℓ} (b : Bool) → (b ≡ true → C) → (b ≡ false → C) → C
case true x y = x refl
case false x y = y refl

pub both : (a b : Bool) → (a && b) ≡ true → (a ≡ true) × (b ≡ true)
both true b e = (refl, e)
both false b e = absurd (true≢false (sym e))

pub not-true : (b : Bool) → not b ≡ true → b ≡ false
not-true true e = absurd (true≢false (sym e))
not-true false e = refl

-- The two ways through a choice, each with what was chosen.
pub chosen {ℓ} : {A : Type 0} {C : Type ℓ} (b : Bool) {x y z : A} → (elim b [ true ↦ x | false ↦ y ]) ≡ z
    → (b ≡ true → x ≡ z → C)
    → (b ≡ false → y ≡ z → C)
    → C
chosen true e f g = f refl e
chosen false e f g = g refl e

pub chose_true : {A : Type 0} {b : Bool} (x y : A) → b ≡ true → (elim b [ true ↦ x | false ↦ y ]) ≡ x
chose_true x y e = rw e

pub chose_false : {A : Type 0} {b : Bool} (x y : A) → b ≡ false → (elim b [ true ↦ x | false ↦ y ]) ≡ y
chose_false x y e = rw e

-- A test that is true exactly of equals.
pub record Decides {A : Type 0} (test : A → A → Bool) : Type 0 where
  pub equal : (a b : A) → test a b ≡ true → a ≡ b
  pub same : (a : A) → test a a ≡ true

pub eqb_decides : Decides eqb
eqb_decides = record { equal = λ a b e. eqb→eq a b (IsTrue-of_true e); same = λ a. true-of_IsTrue (eqb a a) (eqb_refl a) }

module _ {A : Type 0} {test : A → A → Bool} (d : Decides test) where
  same_list_equal : (xs ys : List A) → same_list test xs ys ≡ true → xs ≡ ys
  unfolding same_list
  same_list_equal [] [] e = refl
  same_list_equal [] (b ∷ bs) e = absurd (true≢false (sym e))
  same_list_equal (a ∷ xs) [] e = absurd (true≢false (sym e))
  same_list_equal (a ∷ xs) (b ∷ ys) e =
      chosen (test a b) e
      (λ p q. let h = d.equal a b p in let t = same_list_equal xs ys q in cc)
      (λ p q. absurd (true≢false (sym q)))

  same_list_same : (xs : List A) → same_list test xs xs ≡ true
  unfolding same_list
  same_list_same [] = refl
  same_list_same (a ∷ xs) = rw (d.same a, same_list) (same_list_same xs)

  pub same_list_decides : Decides (same_list test)
  same_list_decides = record { equal = same_list_equal; same = same_list_same }

pub named_decides : Decides named
unfolding named
named_decides = same_list_decides eqb_decides

same_output_equal : (o p : Output) → same_output o p ≡ true → o ≡ p
unfolding same_output
same_output_equal (sort s) (sort t) e = ap sort (named_decides.equal s t e)
same_output_equal (sort s) judgment e = absurd (true≢false (sym e))
same_output_equal judgment (sort t) e = absurd (true≢false (sym e))
same_output_equal judgment judgment e = refl

same_output_same : (o : Output) → same_output o o ≡ true
unfolding same_output
same_output_same (sort s) = named_decides.same s
same_output_same judgment = refl

pub same_output_decides : Decides same_output
same_output_decides = record { equal = same_output_equal; same = same_output_same }

same_symbol_equal : (c d : Symbol) → same_symbol c d ≡ true → c ≡ d
unfolding same_symbol
same_symbol_equal (symbol n is o) (symbol m js p) e =
    let (q, e₂) = both (named n m && same_list named is js) (same_output o p) e in
    let (e₀, e₁) = both (named n m) (same_list named is js) q in
    let h₀ = named_decides.equal n m e₀ in
    let h₁ = (same_list_decides named_decides).equal is js e₁ in
    let h₂ = same_output_equal o p e₂ in
    cc

same_symbol_same : (c : Symbol) → same_symbol c c ≡ true
unfolding same_symbol
same_symbol_same (symbol n is o) =
    rw (named_decides.same n, (same_list_decides named_decides).same is, same_output_same o)

pub same_symbol_decides : Decides same_symbol
same_symbol_decides = record { equal = same_symbol_equal; same = same_symbol_same }

mutual
  unfolding same_term

  same_term_equal : (t u : Term) → same_term t u ≡ true → t ≡ u
  same_term_equal (node c ts) (node d us) e =
      chosen (same_symbol c d) e
      (λ p q. ap₂ node (same_symbol_equal c d p) (same_terms_equal ts us q))
      (λ p q. absurd (true≢false (sym q)))

  same_terms_equal : (ts us : Terms) → same_terms ts us ≡ true → ts ≡ us
  same_terms_equal []ₜ []ₜ e = refl
  same_terms_equal []ₜ (u ∷ₜ us) e = absurd (true≢false (sym e))
  same_terms_equal (t ∷ₜ ts) []ₜ e = absurd (true≢false (sym e))
  same_terms_equal (t ∷ₜ ts) (u ∷ₜ us) e =
      chosen (same_term t u) e
      (λ p q. ap₂ ◌∷ₜ◌ (same_term_equal t u p) (same_terms_equal ts us q))
      (λ p q. absurd (true≢false (sym q)))

mutual
  unfolding same_term

  same_term_same : (t : Term) → same_term t t ≡ true
  same_term_same (node c ts) = chose_true _ _ (same_symbol_same c) ∙ same_terms_same ts

  same_terms_same : (ts : Terms) → same_terms ts ts ≡ true
  same_terms_same []ₜ = refl
  same_terms_same (t ∷ₜ ts) = chose_true _ _ (same_term_same t) ∙ same_terms_same ts

pub same_term_decides : Decides same_term
same_term_decides = record { equal = same_term_equal; same = same_term_same }

-- A test that decides equality is false exactly where the two are not equal.
pub decides_false : {A : Type 0} {test : A → A → Bool} → Decides test → (a b : A) → (a ≡ b → ⊥) → test a b ≡ false
decides_false {test} d a b n = case (test a b) (λ p. absurd (n (d.equal a b p))) (λ p. p)

pub differ : {A : Type 0} {test : A → A → Bool} → Decides test → (a b : A) → test a b ≡ false → a ≡ b → ⊥
differ {test} d a b e p = true≢false (sym (d.same a) ∙ ap (test a) p ∙ e)

-- What a search of a list has found.
module _ {A : Type 0} (test : A → Bool) where
  pub first-some : (xs : List A) {a : A} → first test xs ≡ some a → Memᴰ a xs × (test a ≡ true)
  unfolding first
  first-some [] e = let z : ◌≡◌ {A = Bool} true false = cc in absurd (true≢false z)
  first-some (x ∷ xs) {a} e =
      chosen (test x) e
      (λ p q. let h : a ≡ x = cc in (Memᴰ.head h, ap test h ∙ p))
      (λ p q. let (m, h) = first-some xs q in (Memᴰ.tail m, h))

  pub first-none : (xs : List A) → first test xs ≡ none → (a : A) → Memᴰ a xs → test a ≡ false
  unfolding first
  first-none (x ∷ xs) e a (Memᴰ.head h) =
      chosen (test x) e (λ p q. let z : test a ≡ false = cc in z) (λ p q. ap test h ∙ p)
  first-none [] e a x'' = elim x'' [ ]
  first-none (x ∷ xs) e a (Memᴰ.tail m) =
      chosen (test x) e (λ p q. let z : test a ≡ false = cc in z) (λ p q. first-none xs q a m)

  pub some_of_true : (xs : List A) → some_of test xs ≡ true → (a : A) × Memᴰ a xs × (test a ≡ true)
  unfolding some_of
  some_of_true [] e = absurd (true≢false (sym e))
  some_of_true (x ∷ xs) e =
      chosen (test x) e
      (λ p q. (x, Memᴰ.head refl, p))
      (λ p q. let (a, m, h) = some_of_true xs q in (a, Memᴰ.tail m, h))

  pub some_of_member : (xs : List A) (a : A) → Memᴰ a xs → test a ≡ true → some_of test xs ≡ true
  unfolding some_of
  some_of_member (x ∷ xs) a (Memᴰ.head h) t = rw (sym (ap test h) ∙ t, some_of)
  some_of_member [] a x'' t = elim x'' [ ]
  some_of_member (x ∷ xs) a (Memᴰ.tail m) t =
      case (test x) (λ p. rw (p, some_of)) (λ p. rw (p, some_of) (some_of_member xs a m t))

  pub some_of_false : (xs : List A) → some_of test xs ≡ false → (a : A) → Memᴰ a xs → test a ≡ false
  some_of_false xs e a m =
      case (test a) (λ p. absurd (true≢false (sym (some_of_member xs a m p) ∙ e))) (λ p. p)

-- Members of a list.
pub in_cons : {A : Type 0} {a x : A} {xs ys : List A} → (Memᴰ a xs → Memᴰ a ys) → Memᴰ a (x ∷ xs) → Memᴰ a (x ∷ ys)
in_cons f (Memᴰ.head e) = Memᴰ.head e
in_cons f (Memᴰ.tail m) = Memᴰ.tail (f m)

pub in_or_last {ℓ} : {A : Type 0} {C : Type ℓ} {a b : A} (xs : List A) → Memᴰ a (xs ++ (b ∷ []))
    → (Memᴰ a xs → C)
    → (a ≡ b → C)
    → C
in_or_last [] (Memᴰ.head e) f g = g e
in_or_last [] (Memᴰ.tail m) f g = elim m [ ]
in_or_last (x ∷ xs) (Memᴰ.head e) f g = f (Memᴰ.head e)
in_or_last (x ∷ xs) (Memᴰ.tail m) f g = in_or_last xs m (λ n. f (Memᴰ.tail n)) g

pub at_member : {A : Type 0} (xs : List A) (n : ℕ) {a : A} → get_elem? xs n ≡ some a → Memᴰ a xs
at_member [] n e = let z : ◌≡◌ {A = Bool} true false = cc in absurd (true≢false z)
at_member (x ∷ xs) zero {a} e = let h : a ≡ x = cc in Memᴰ.head h
at_member (x ∷ xs) (suc n) e = Memᴰ.tail (at_member xs n e)

-- Places of a list: which are there, and what they hold once there is one more.
pub at_below : {A : Type 0} (xs : List A) (n : ℕ) {a : A} → get_elem? xs n ≡ some a → n < length xs
at_below [] n e = let z : ◌≡◌ {A = Bool} true false = cc in absurd (true≢false z)
at_below (x ∷ xs) zero e = omega arith
at_below (x ∷ xs) (suc n) e = let h = at_below xs n e in omega arith

pub at_there : {A : Type 0} (xs : List A) (n : ℕ) → n < length xs → (a : A) × (get_elem? xs n ≡ some a)
at_there [] n h = absurd (omega arith)
at_there (x ∷ xs) zero h = (x, refl)
at_there (x ∷ xs) (suc n) h = at_there xs n (omega arith)

pub at_longer : {A : Type 0} (xs ys : List A) (n : ℕ) {a : A} → get_elem? xs n ≡ some a → get_elem? (xs ++ ys) n ≡ some a
at_longer [] ys n e = let z : ◌≡◌ {A = Bool} true false = cc in absurd (true≢false z)
at_longer (x ∷ xs) ys zero e = e
at_longer (x ∷ xs) ys (suc n) e = at_longer xs ys n e

pub at_or_last {ℓ} : {A : Type 0} {C : Type ℓ} (xs : List A) {a b : A} (n : ℕ) → get_elem? (xs ++ (b ∷ [])) n ≡ some a
    → (get_elem? xs n ≡ some a → C)
    → (n ≡ length xs → a ≡ b → C)
    → C
at_or_last [] zero e f g = g refl cc
at_or_last [] (suc n) e f g = let z : ◌≡◌ {A = Bool} true false = cc in absurd (true≢false z)
at_or_last (x ∷ xs) zero e f g = f e
at_or_last (x ∷ xs) (suc n) e f g = at_or_last xs n e f (λ p q. g (omega arith) q)
