-- "Numbers of terms, symbols and steps fit 16 bits": of every theory, every store and every list of steps that arises in any
-- run of either call, at any moment of it, whether the run is accepted or refused.
use Prim.Native.Nat.{ℕ, ◌+◌, ◌≤◌, ◌<◌, ◌^◌}
use mathlib.Core.Path.{◌≡◌, refl, ap, subst}
use mathlib.Core.Logic.{inl, inr}
use mathlib.Core.Bool.{and-eq-true_iff}
use mathlib.Core.List.{List, [], ◌∷◌}
use native.Mathlib.Omega.{arith}
use lib.ListN.{length, length-append}
use borrow.Author.Tests.{leb-true}
use Rattle.horn.specs.Refusals.{ok}
use Rattle.horn.specs.Setting.{Setting, document01}
use Rattle.horn.specs.NestedLists.{Sexp, Sexps, Items, closed, ended, bad_line, ◌then◌, items, sexps}
use Rattle.horn.specs.Tokens.{tokens}
use Rattle.horn.specs.Rulebook.{symbol, Theory, count, empty_theory, theory}
use Rattle.horn.specs.StoredTerms.{Term, Store, empty_store, within_limits, intern, request, holds}
use Rattle.horn.specs.Checker.{Reading, stored, Goal, goals_of}
use Rattle.horn.specs.Matching.{step}
use Rattle.horn.specs.Certificate.{Progress, certificate_of}
use Rattle.horn.specs.Arising.{Declares, declares_none, declares_next, TheoryArises, Made, made_give, made_lift, made_stored, made_after, Passes}
use Rattle.horn.specs.Arising.{Proceeds, proceeds_none, proceeds_next, StoreArises, in_goals, in_certificate, ProgressArises}
use Rattle.horn.proofs.Equality.{case}
use Rattle.horn.proofs.Inversion.{not_ok, ok_equal, afterᵣ, after_needᵣ, after, given_is, lifted}
use Rattle.horn.proofs.Declaring.{Declared, sort_declared, symbol_declared, rule_declared, declaration_by, declares_last}
use Rattle.horn.proofs.Taken.{Taken, def_taken, step_taken, result_taken, form_taken, certificate_proceeds}
use Rattle.horn.proofs.Counts.{item_count, few_items}
use Rattle.horn.proofs.Readings.{reads_made, reads_goals_of, reads_form, reads_forms, reads_certificate_of}

-- Each declaration adds at most one symbol.
abbrev Larger : ℕ → Theory → Theory → Type 0
Larger n th next = length next.symbols ≤ length th.symbols + n

larger_declared : {th next : Theory} {n : Sexp} → Declared th n next → Larger 1 th next
larger_declared (sort_declared e) = omega arith
larger_declared {th} (symbol_declared {name = name} ins out e f g) = omega (arith, length-append th.symbols (symbol name ins out ∷ []))
larger_declared (rule_declared xs j e₁ e₂ e f) = omega arith

declares_few : {th later : Theory} {xs : Sexps} → Declares th xs later → length later.symbols ≤ length th.symbols + count xs
unfolding count
declares_few declares_none = omega arith
declares_few (declares_next {th} {next} {later} {x} {xs} e d) =
    let h = larger_declared (declaration_by th x e).has_declared in
    let k = declares_few d in
    omega arith

count-sexps : (is : Items) {xs : Sexps} → sexps is ≡ ok xs → count xs ≤ item_count is
unfolding sexps count item_count
count-sexps ended {xs} e = rw (← ok_equal e) (omega arith)
count-sexps bad_line e = not_ok e
count-sexps closed e = not_ok e
count-sexps (item then rest) e = afterᵣ _ e λ x e₁ e₂. afterᵣ _ e₂ λ ys e₃ e₄. let h = count-sexps rest e₃ in rw (← ok_equal e₄) (omega arith)

-- A theory that arises has at most as many symbols as the limits let a rulebook have bytes.
pub few_symbols : {limits : Setting} {rulebook : List ℕ} {th : Theory} → TheoryArises limits rulebook th
    → length th.symbols ≤ limits.rulebook_bytes
unfolding empty_theory
few_symbols {rulebook} a =
    let d = declares_few a.declares in
    let c = count-sexps (items (tokens rulebook)) a.read_whole in
    let f = few_items rulebook in
    let s = a.short in
    omega arith

-- The theory that is given in the end is one that arises.
pub last_theory : (limits : Setting) (rulebook : List ℕ) {th : Theory} → length rulebook ≤ limits.rulebook_bytes → theory rulebook ≡ ok th
    → TheoryArises limits rulebook th
unfolding theory
last_theory limits rulebook short e =
    afterᵣ _ e λ xs e₁ e₂. record { short = short; rulebook_forms = xs; read_whole = e₁; declares = declares_last xs empty_theory e₂ }

-- The stores that a reading passes.
module _ (limits : Setting) where
  -- A reading passes the store that it begins with.
  passes_first : {A : Type 0} {m : Reading A} (p : Made limits A m) (s : Store) → Passes limits p s s
  unfolding Passes
  passes_first (made_give a) s = refl
  passes_first (made_lift r) s = refl
  passes_first (made_stored t) s = inl refl
  passes_first (made_after p k) s = inl (passes_first p s)

  -- A reading that is not refused passes the store that it ends in.
  pub passes_last : {A : Type 0} {m : Reading A} (p : Made limits A m) {s u : Store} {a : A} → m s ≡ ok (a, u) → Passes limits p s u
  unfolding Passes stored
  passes_last (made_give a) e = given_is e λ _ q. q
  passes_last (made_lift r) e = lifted r e λ _ q. q
  passes_last (made_stored t) {s} e = afterᵣ _ e λ v e₁ e₂. inr (subst (λ x. request limits t s ≡ ok x) (ap (λ q. q.1) (ok_equal e₂)) e₁)
  passes_last (made_after {m = m} p k) e = after m e λ a t e₁ e₂. inr ((a, t), e₁, passes_last (k a) e₂)

  -- A property that storing keeps holds of every store that is passed.
  pub passes_keep : (I : Store → Type 0) → ((t : Term) (s u : Store) → I s → request limits t s ≡ ok u → I u)
      → {A : Type 0} {m : Reading A} (p : Made limits A m) {s u : Store} → I s → Passes limits p s u → I u
  unfolding Passes
  passes_keep I keep (made_give a) i e = subst I e i
  passes_keep I keep (made_lift r) i e = subst I e i
  passes_keep I keep (made_stored t) i (inl e) = subst I e i
  passes_keep I keep (made_stored t) {s} {u} i (inr e) = keep t s u i e
  passes_keep I keep (made_after p k) i (inl h) = passes_keep I keep p i h
  passes_keep I keep (made_after p k) i (inr (q, e, h)) = passes_keep I keep (k q.0) (passes_keep I keep p i (passes_last p e)) h

  abbrev Small : List Term → Type 0
  Small terms = length terms ≤ limits.nodes

  small_intern : (t : Term) (s u : List Term) → Small s → intern limits t s ≡ ok u → Small u
  unfolding intern within_limits
  small_intern t s u i e =
      case (holds s t)
      (λ p. subst Small (ok_equal (rw (p, intern) at e)) i)
      (λ p. after_needᵣ _ _ _ (rw (p, intern) at e) λ w e₁. subst Small (ok_equal e₁) (leb-true _ _ ((and-eq-true_iff _ _).0 w).0))

  small_request : (t : Term) (s u : Store) → Small s.terms → request limits t s ≡ ok u → Small u.terms
  unfolding request
  small_request t s u i e = afterᵣ _ e λ terms e₁ e₂. subst (λ (x : Store). Small x.terms) (ok_equal e₂) (small_intern t s.terms terms i e₁)

  -- A store that arises has at most as many nodes as the limits let a store have.
  pub few_nodes : {rulebook text certificate : List ℕ} {u : Store} → StoreArises limits rulebook text certificate u
      → length u.terms ≤ limits.nodes
  few_nodes (in_goals e p h) = passes_keep (λ s. Small s.terms) small_request p (omega arith) h
  few_nodes {text} (in_certificate {th} {goals} {s} e e₁ p h) =
      let q = reads_made limits (reads_goals_of limits th text) in
      passes_keep (λ s. Small s.terms) small_request p (passes_keep (λ s. Small s.terms) small_request q (omega arith) (passes_last q e₁)) h

  -- The store in which the reading of the certificate ends arises.
  pub last_store : (rulebook text certificate : List ℕ) {th : Theory} {goals : List Goal} {last : Progress} {s u : Store} → theory rulebook ≡ ok th
      → goals_of limits th text empty_store ≡ ok (goals, s)
      → certificate_of limits th goals certificate s ≡ ok (last, u)
      → StoreArises limits rulebook text certificate u
  last_store rulebook text certificate {th} {goals} e e₁ e₂ =
      let p = reads_made limits (reads_certificate_of limits th goals certificate) in in_certificate e e₁ p (passes_last p e₂)

  -- Each form of a certificate adds at most one step.
  module _ (th : Theory) where
    abbrev Longer : Progress → Progress → Type 0
    Longer now next = length next.steps ≤ length now.steps + 1

    longer_taken : {now next : Progress} {s : Store} → Taken limits th now s next → Longer now next
    longer_taken (def_taken name is e) = omega arith
    longer_taken {now} (step_taken name is refs {r = r} {j = j} e e₁ e₂) = omega (arith, length-append now.steps (step j r refs ∷ []))
    longer_taken (result_taken name n e e₁ e₂) = omega arith

    proceeds_few : {now later : Progress} {is : Items} {s u : Store} → Proceeds limits th now is s later u
        → length later.steps ≤ length now.steps + item_count is
    unfolding item_count
    proceeds_few proceeds_none = omega arith
    proceeds_few (proceeds_next {now} {next} {later} {item} {rest} {s} e p) =
        let h = longer_taken (form_taken limits th now item s e) in
        let k = proceeds_few p in
        omega arith

    -- The store between two forms is one that the reading of all forms passes, even if a later form is refused.
    proceeds_passed : {now later : Progress} {is : Items} {s u : Store} → Proceeds limits th now is s later u
        → Passes limits (reads_made limits (reads_forms limits th now is)) s u
    unfolding reads_forms reads_made Passes
    proceeds_passed {now} (proceeds_none {is = ended}) = refl
    proceeds_passed {now} (proceeds_none {is = bad_line}) = refl
    proceeds_passed {now} (proceeds_none {is = closed}) = refl
    proceeds_passed {now} (proceeds_none {is = item then rest} {s = s}) = inl (passes_first (reads_made limits (reads_form limits th now item)) s)
    proceeds_passed (proceeds_next {next = next} {t = t} e p) = inr ((next, t), e, proceeds_passed p)

  -- Progress that arises has at most as many steps as the limits let a certificate have bytes.
  pub few_steps : {rulebook text certificate : List ℕ} {now : Progress} → ProgressArises limits rulebook text certificate now
      → length now.steps ≤ limits.certificate_bytes
  few_steps {certificate} a =
      let p = proceeds_few a.th a.proceeds in
      let f = few_items certificate in
      let s = a.short in
      omega arith

  -- What the certificate of an accepted release has come to arises.
  pub last_progress : (rulebook text certificate : List ℕ) {th : Theory} {goals : List Goal} {last : Progress} {s u : Store}
      → length certificate ≤ limits.certificate_bytes
      → theory rulebook ≡ ok th
      → goals_of limits th text empty_store ≡ ok (goals, s)
      → certificate_of limits th goals certificate s ≡ ok (last, u)
      → ProgressArises limits rulebook text certificate last
  last_progress rulebook text certificate {th} {goals} {s} {u} short e e₁ e₂ =
      let p = (certificate_proceeds limits th goals certificate s e₂).0 in
      record { short = short; th = th; gives = e; goals = goals; store = s; read = e₁; then_store = u; proceeds = p }

  -- The stores between the forms of a certificate arise, whatever comes of later forms.
  pub between_forms : {rulebook text certificate : List ℕ} {now : Progress} (a : ProgressArises limits rulebook text certificate now)
      → StoreArises limits rulebook text certificate a.then_store
  unfolding reads_certificate_of reads_made Passes
  between_forms {certificate} a =
      in_certificate a.gives a.read (reads_made limits (reads_certificate_of limits a.th a.goals certificate))
      (inl (proceeds_passed a.th a.proceeds))

-- Under 01's limits, by its numbers of bytes and nodes.
pub sixteen_bits_symbols : {rulebook : List ℕ} {th : Theory} → TheoryArises document01 rulebook th → length th.symbols < 2 ^ 16
unfolding document01
sixteen_bits_symbols a = let h = few_symbols a in omega arith

pub sixteen_bits_terms : {rulebook text certificate : List ℕ} {store : Store} → StoreArises document01 rulebook text certificate store
    → length store.terms < 2 ^ 16
unfolding document01
sixteen_bits_terms a = let h = few_nodes document01 a in omega arith

pub sixteen_bits_steps : {rulebook text certificate : List ℕ} {now : Progress} → ProgressArises document01 rulebook text certificate now
    → length now.steps < 2 ^ 16
unfolding document01
sixteen_bits_steps a = let h = few_steps document01 a in omega arith
