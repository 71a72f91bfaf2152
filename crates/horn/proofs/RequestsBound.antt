-- L1 of document 02, how large the count of requests can get. Each request belongs to an atom of the goals text or of the certificate, or,
-- where a step builds its conclusion, to an atom of the rulebook. So the count fits 32 bits under 01's limits.
use Prim.Native.Nat.{ℕ, suc, ◌+◌, ◌*◌, ◌≤◌, ◌<◌, ◌^◌}
use mathlib.Core.Path.{◌≡◌, refl, sym, ap, subst}
use mathlib.Core.List.{List, [], ◌∷◌}
use mathlib.Core.Option.{none, some}
use native.Mathlib.Omega.{arith}
use native.Mathlib.Nat.{mul-add, mul-le-mul}
use lib.ListN.{length, length-append}
use Rattle.horn.specs.Refusals.{Result, ok, refused}
use Rattle.horn.specs.Setting.{Setting, document01}
use Rattle.horn.specs.Names.{Name, questioned}
use Rattle.horn.specs.Tokens.{tokens}
use Rattle.horn.specs.NestedLists.{Item, word, group, Items, closed, ended, bad_line, ◌then◌, items}
use Rattle.horn.specs.Rulebook.{Symbol, Pattern, var, app, Patterns, []ₚ, ◌∷ₚ◌, Rule, conclusion_of, Theory, rule_named, theory}
use Rattle.horn.specs.StoredTerms.{Term, Terms, Store, empty_store, request}
use Rattle.horn.specs.Checker
use Rattle.horn.specs.Checker.{Reading, ◌>>=◌, give, lift, stored, Def, Goal, goals_of}
use Rattle.horn.specs.Matching
use Rattle.horn.specs.Matching.{Step, step, Bind}
use Rattle.horn.specs.Certificate
use Rattle.horn.specs.Certificate.{Progress, Given, given, FormWord, step_word, result_word, def_word, other_form, certificate_of}
use Rattle.horn.specs.Calls.{Report, report_of, release_judged, release_answer, release_call}
use Rattle.horn.specs.Arising.{Proceeds, proceeds_none, proceeds_next}
use Rattle.horn.proofs.Post.{either}
use Rattle.horn.proofs.Inversion.{ok_equal, afterᵣ, after, given_is, lifted, afterₗ, after_need, after_found, lift-refused}
use Rattle.horn.proofs.WasRead.{after_stored}
use Rattle.horn.proofs.Taken.{certificate_proceeds}
use Rattle.horn.proofs.Arising.{few_steps, last_progress}
use Rattle.horn.proofs.Accepting.{AcceptedRun, judged_run}
use Rattle.horn.proofs.RequestsBoundAtoms.{atoms, atoms_of, few_atoms, word_atoms, group_atoms, asked_atoms, asked_word_atoms}
use Rattle.horn.proofs.RequestsBoundAtoms.{asked_group_atoms, asked_number_atoms}
use Rattle.horn.proofs.RequestsBoundAtoms.{nodes, nodes_of, rule_nodes}

-- A reading adds at most so many requests.
pub record Costs {A : Type 0} (n : ℕ) (m : Reading A) : Type 0 where
  pub costs : (s : Store) {u : Store} {a : A} → m s ≡ ok (a, u) → length u.requests ≤ n + length s.requests

-- To give a value, or a result that does not touch the store, costs nothing.
costs_give : {A : Type 0} {n : ℕ} (a : A) → Costs n (give a)
costs_give a = record { costs = λ s e. given_is e λ same q. let h = ap (λ (x : Store). length x.requests) q in omega arith }

costs_lift : {A : Type 0} {n : ℕ} (r : Result A) → Costs n (lift r)
costs_lift r = record { costs = λ s e. lifted r e λ same q. let h = ap (λ (x : Store). length x.requests) q in omega arith }

-- A request that is met is one more.
one_request : (limits : Setting) (t : Term) (s : Store) {u : Store} → request limits t s ≡ ok u → length u.requests ≡ suc (length s.requests)
unfolding request
one_request limits t s e = afterᵣ _ e λ after e₁ e₂. sym (ap (λ (x : Store). length x.requests) (ok_equal e₂))

-- To store a term costs one request.
costs_stored : (limits : Setting) (t : Term) → Costs 1 (stored limits t)
costs_stored limits t = record { costs = λ s e. after_stored limits t s e λ i same. let h = one_request limits t s i in omega arith }

-- One reading after another costs what both cost.
costs_after : {A B : Type 0} {m : Reading A} {f : A → Reading B} (n k : ℕ) {l : ℕ} → n + k ≤ l → Costs n m → ((a : A) → Costs k (f a))
    → Costs l (m >>= f)
costs_after {m} n k b p q =
    record { costs = λ s e. after m e λ a t e₁ e₂. let h = p.costs s e₁ in let i = (q a).costs t e₂ in omega arith }

-- Behind a result that does not touch the store, what is known of it may be used.
costs_then : {A B : Type 0} {n : ℕ} (r : Result A) (f : A → Reading B) → ((a : A) → r ≡ ok a → Costs n (f a)) → Costs n (lift r >>= f)
costs_then r f k = record { costs = λ s e. afterₗ r f s e λ a e₁ e₂. (k a e₁).costs s e₂ }

module _ (limits : Setting) where
  -- A node that is made is stored once.
  costs_make : (c : Symbol) (ts : Terms) → Costs 1 (Checker.make limits c ts)
  unfolding Checker.make
  costs_make c ts = costs_then _ _ λ _ _. costs_stored limits _

  -- To build a pattern costs its nodes.
  mutual
    unfolding Matching.build nodes

    costs_build : (binds : List Bind) (p : Pattern) → Costs (nodes p) (Matching.build limits binds p)
    costs_build binds (var name) = costs_lift _
    costs_build binds (app c ps) = costs_after (nodes_of ps) 1 (omega arith) (costs_builds binds ps) λ ts. costs_stored limits _

    costs_builds : (binds : List Bind) (ps : Patterns) → Costs (nodes_of ps) (Matching.builds limits binds ps)
    costs_builds binds []ₚ = costs_give _
    costs_builds binds (p ∷ₚ ps) =
        costs_after (nodes p) (nodes_of ps) (omega arith) (costs_build binds p) λ t.
        costs_after (nodes_of ps) 0 (omega arith) (costs_builds binds ps) λ ts. costs_give _

  module _ (th : Theory) where
    -- An abbreviation is stored already, and a constant is one node.
    costs_atom : (defs : List Def) (name : Name) → Costs 1 (Checker.atom_term limits th defs name)
    unfolding Checker.atom_term
    costs_atom defs name =
        either (Costs 1) (questioned name)
        (costs_then _ _ λ d _. costs_give _)
        (costs_then _ _ λ c _. costs_make c _)

    -- To read a term costs at most its atoms.
    mutual
      unfolding Checker.term atoms

      costs_term : (defs : List Def) (depth : ℕ) (item : Item) → Costs (atoms item) (Checker.term limits th defs depth item)
      costs_term defs depth (word name) = costs_atom defs name
      costs_term defs depth (group inner) = costs_compound defs (suc depth) inner

      costs_compound : (defs : List Def) (depth : ℕ) (is : Items) → Costs (atoms_of is) (Checker.compound_term limits th defs depth is)
      costs_compound defs depth closed = costs_lift _
      costs_compound defs depth ended = costs_lift _
      costs_compound defs depth bad_line = costs_lift _
      costs_compound defs depth (item then rest) =
          costs_then _ _ λ _ _.
          costs_then _ _ λ name e.
          costs_then _ _ λ c _.
          let h = word_atoms item e in
          costs_after (atoms_of rest) 1 (omega arith) (costs_arguments defs depth rest) λ ts.
          costs_then _ _ λ _ _.
          costs_make c ts

      costs_arguments : (defs : List Def) (depth : ℕ) (is : Items) → Costs (atoms_of is) (Checker.arguments limits th defs depth is)
      costs_arguments defs depth closed = costs_give _
      costs_arguments defs depth bad_line = costs_lift _
      costs_arguments defs depth ended = costs_lift _
      costs_arguments defs depth (item then rest) =
          costs_then _ _ λ _ _.
          costs_after (atoms item) (atoms_of rest) (omega arith) (costs_term defs depth item) λ t.
          costs_after (atoms_of rest) 0 (omega arith) (costs_arguments defs depth rest) λ ts.
          costs_give _

    -- The term that is asked for next has no more atoms than all that is left.
    costs_ask_term : (defs : List Def) (depth : ℕ) (is : Items) → Costs (atoms_of is) (Checker.ask_term limits th defs depth is)
    unfolding Checker.ask_term
    costs_ask_term defs depth is =
        costs_then _ _ λ p e.
        let h = asked_atoms depth is e in
        costs_after (atoms p.0) 0 (omega arith) (costs_term defs depth p.0) λ t.
        costs_give _

    -- A judgment costs one for its head, which is an atom too.
    costs_headed : (defs : List Def) (depth : ℕ) (name : Name) (is : Items) → Costs (1 + atoms_of is) (Checker.headed_judgment limits th defs depth name is)
    unfolding Checker.headed_judgment
    costs_headed defs depth name is =
        costs_then _ _ λ c _. costs_after (atoms_of is) 1 (omega arith) (costs_arguments defs depth is) λ ts. costs_make c ts

    -- The same of the judgment that is asked for next.
    costs_ask_judgment : (defs : List Def) (depth : ℕ) (is : Items) → Costs (atoms_of is) (Checker.ask_judgment limits th defs depth is)
    unfolding Checker.ask_judgment
    costs_ask_judgment defs depth is =
        costs_then _ _ λ p e.
        costs_then _ _ λ q e₁.
        let h = asked_group_atoms depth is e in
        let k = asked_word_atoms (suc depth) p.0 e₁ in
        costs_after (1 + atoms_of q.1) 0 (omega arith) (costs_headed defs (suc depth) q.0 q.1) λ j.
        costs_give _

    -- A goal costs at most its atoms, and so do all goals.
    costs_goal : (goals : List Goal) (item : Item) → Costs (atoms item) (Checker.goal_form limits th goals item)
    unfolding Checker.goal_form
    costs_goal goals item =
        costs_then _ _ λ inner e.
        costs_then _ _ λ p e₁.
        costs_then _ _ λ _ _.
        costs_then _ _ λ q e₂.
        costs_then _ _ λ _ _.
        let h = group_atoms item e in
        let k = asked_word_atoms 1 inner e₁ in
        let l = asked_word_atoms 1 p.1 e₂ in
        costs_after (atoms_of q.1) 0 (omega arith) (costs_ask_judgment [] 1 q.1) λ j.
        costs_then _ _ λ _ _.
        costs_then _ _ λ _ _.
        costs_give _

    costs_goals : (goals : List Goal) (is : Items) → Costs (atoms_of is) (Checker.goal_forms limits th goals is)
    unfolding Checker.goal_forms atoms
    costs_goals goals ended = costs_give _
    costs_goals goals bad_line = costs_lift _
    costs_goals goals closed = costs_lift _
    costs_goals goals (item then rest) = costs_after (atoms item) (atoms_of rest) (omega arith) (costs_goal goals item) λ more. costs_goals more rest

    -- A goals text costs at most its bytes.
    costs_text : (text : List ℕ) → Costs (length text) (goals_of limits th text)
    unfolding goals_of
    costs_text text =
        let h = few_atoms text in
        costs_after (atoms_of (items (tokens text))) 0 (omega arith) (costs_goals [] (items (tokens text))) λ goals.
        costs_then _ _ λ _ _.
        costs_give _

    -- An item of a step, a binding or a conclusion, costs at most its atoms, and so do all items.
    costs_item : (defs : List Def) (r : Rule) (item : Item) (so_far : Given) → Costs (atoms item) (Certificate.step_item limits th defs r item so_far)
    unfolding Certificate.step_item Certificate.binding_item Certificate.conclusion_item
    costs_item defs r item (given binds stated) =
        costs_then _ _ λ inner e.
        costs_then _ _ λ p e₁.
        let h = group_atoms item e in
        let k = asked_word_atoms 2 inner e₁ in
        either (Costs (atoms item)) (questioned p.0)
        (costs_then _ _ λ v _.
        costs_after (atoms_of p.1) 0 (omega arith) (costs_ask_term defs 2 p.1) λ q.
        costs_then _ _ λ _ _.
        costs_then _ _ λ _ _.
        costs_give _)
        (costs_after (1 + atoms_of p.1) 0 (omega arith) (costs_headed defs 2 p.0 p.1) λ j.
        costs_then _ _ λ _ _.
        costs_give _)

    costs_items : (defs : List Def) (r : Rule) (is : Items) (so_far : Given) → Costs (atoms_of is) (Certificate.step_items limits th defs r is so_far)
    unfolding Certificate.step_items atoms
    costs_items defs r closed so_far = costs_give _
    costs_items defs r bad_line so_far = costs_lift _
    costs_items defs r ended so_far = costs_lift _
    costs_items defs r (item then rest) so_far =
        costs_then _ _ λ _ _.
        costs_after (atoms item) (atoms_of rest) (omega arith) (costs_item defs r item so_far) λ more.
        costs_items defs r rest more

    -- The judgment of a step costs nothing more where it is stated, and else the nodes of its rule's conclusion.
    costs_conclude : (steps : List Step) (r : Rule) (refs : List ℕ) (g : Given)
        → Costs (nodes (conclusion_of r)) (Certificate.conclude limits th steps r refs g)
    unfolding Certificate.conclude
    costs_conclude steps r refs (given binds (some j)) = costs_then _ _ λ more _. costs_then _ _ λ _ _. costs_give _
    costs_conclude steps r refs (given binds none) = costs_then _ _ λ more _. costs_build more _

    -- The forms of a certificate, where no conclusion of a rule has more nodes than `n`.
    module _ (n : ℕ) (small : (name : Name) (r : Rule) → rule_named th name ≡ ok r → nodes (conclusion_of r) ≤ n) where
      -- The requests of some forms are paid for: by so many atoms, and by `n` for each step that was added.
      abbrev Paid : ℕ → Progress → Store → Progress → Store → Type 0
      Paid k now s next u = length u.requests + length now.steps * n ≤ k + length next.steps * n + length s.requests

      -- An abbreviation costs its term, and adds no step.
      paid_def : (now : Progress) (is : Items) (s : Store) {u : Store} {next : Progress} → Certificate.def_form limits th now is s ≡ ok (next, u)
          → Paid (atoms_of is) now s next u
      unfolding Certificate.def_form
      paid_def now is s e =
          afterₗ _ _ _ e λ p e₁ e₂.
          after_need _ _ _ _ e₂ λ h e₃.
          after _ e₃ λ q t e₄ e₅.
          after_need _ _ _ _ e₅ λ h₁ e₆.
          afterₗ _ _ _ e₆ λ x e₇ e₈.
          given_is e₈ λ same z.
          let w = asked_word_atoms 1 is e₁ in
          let c = (costs_ask_term now.defs 1 p.1).costs s e₄ in
          let k = ap (λ (x : Progress). length x.steps * n) same in
          let l = ap (λ (x : Store). length x.requests) z in
          omega arith

      -- A result costs nothing.
      paid_result : (now : Progress) (is : Items) (s : Store) {u : Store} {next : Progress} → Certificate.result_form limits th now is s ≡ ok (next, u)
          → Paid (atoms_of is) now s next u
      unfolding Certificate.result_form
      paid_result now is s e =
          afterₗ _ _ _ e λ p e₁ e₂.
          after_found _ _ _ _ e₂ λ g f e₃.
          afterₗ _ _ _ e₃ λ q e₄ e₅.
          after_found _ _ _ _ e₅ λ t h e₆.
          after_need _ _ _ _ e₆ λ k e₇.
          afterₗ _ _ _ e₇ λ x e₈ e₉.
          given_is e₉ λ same z.
          let k = ap (λ (x : Progress). length x.steps * n) same in
          let l = ap (λ (x : Store). length x.requests) z in
          omega arith

      -- A step costs its items and its judgment.
      paid_step : (now : Progress) (is : Items) (s : Store) {u : Store} {next : Progress} → Certificate.step_form limits th now is s ≡ ok (next, u)
          → Paid (atoms_of is) now s next u
      unfolding Certificate.step_form
      paid_step now is s e =
          afterₗ _ _ _ e λ p e₁ e₂.
          after_need _ _ _ _ e₂ λ h e₃.
          afterₗ _ _ _ e₃ λ p₁ e₄ e₅.
          afterₗ _ _ _ e₅ λ r e₆ e₇.
          afterₗ _ _ _ e₇ λ p₂ e₈ e₉.
          afterₗ _ _ _ e₉ λ refs f f₁.
          after_need _ _ _ _ f₁ λ h₁ f₂.
          after _ f₂ λ g t f₃ f₄.
          after _ f₄ λ j t₁ f₅ f₆.
          given_is f₆ λ same z.
          let w = asked_number_atoms 1 is e₁ in
          let w₁ = asked_word_atoms 1 p.1 e₄ in
          let w₂ = asked_group_atoms 1 p₁.1 e₈ in
          let c = (costs_items now.defs r p₂.1 (given [] none)).costs s f₃ in
          let c₁ = (costs_conclude now.steps r refs g).costs t f₅ in
          let b = small p₁.0 r e₆ in
          let k = ap (λ (x : Progress). length x.steps * n) same in
          let k₁ = ap (◌* n) (length-append now.steps (step j r refs ∷ [])) in
          let l = ap (λ (x : Store). length x.requests) z in
          omega arith

      -- Each form is one of these three.
      paid_headed : (k : FormWord) (now : Progress) (is : Items) (s : Store) {u : Store} {next : Progress}
          → Certificate.headed_form limits th k now is s ≡ ok (next, u)
          → Paid (atoms_of is) now s next u
      unfolding Certificate.headed_form
      paid_headed step_word now is s e = paid_step now is s e
      paid_headed result_word now is s e = paid_result now is s e
      paid_headed def_word now is s e = paid_def now is s e
      paid_headed other_form now is s e = lift-refused _ _ e

      paid_form : (now : Progress) (item : Item) (s : Store) {u : Store} {next : Progress} → Certificate.certificate_form limits th now item s ≡ ok (next, u)
          → Paid (atoms item) now s next u
      unfolding Certificate.certificate_form
      paid_form now item s e =
          afterₗ _ _ _ e λ inner e₁ e₂.
          afterₗ _ _ _ e₂ λ p e₃ e₄.
          let h = paid_headed _ now p.1 s e₄ in
          let w = group_atoms item e₁ in
          let w₁ = asked_word_atoms 1 inner e₃ in
          omega arith

      -- All forms together are paid for by their atoms and steps.
      paid_forms : {now later : Progress} {is : Items} {s u : Store} → Proceeds limits th now is s later u → Paid (atoms_of is) now s later u
      unfolding atoms
      paid_forms proceeds_none = omega arith
      paid_forms (proceeds_next {now} {next} {later} {item} {rest} {s} e p) =
          let h = paid_form now item s e in
          let k = paid_forms p in
          omega arith

      -- A certificate costs at most its bytes, and `n` for each step.
      paid_certificate : (goals : List Goal) (text : List ℕ) (s : Store) {u : Store} {last : Progress} → certificate_of limits th goals text s ≡ ok (last, u)
          → length u.requests ≤ length text + length last.steps * n + length s.requests
      paid_certificate goals text s e =
          let p = paid_forms (certificate_proceeds limits th goals text s e).0 in
          let w = few_atoms text in
          omega arith

-- In an accepted run at most one request for each byte of the goals text and of the certificate, and for each step one for each byte of
-- the rulebook.
pub requests_paid : (limits : Setting) (rulebook text certificate : List ℕ) {th : Theory} {goals : List Goal} {last : Progress} {s u : Store}
    → theory rulebook ≡ ok th
    → goals_of limits th text empty_store ≡ ok (goals, s)
    → certificate_of limits th goals certificate s ≡ ok (last, u)
    → length u.requests ≤ length text + length certificate + length last.steps * length rulebook
requests_paid limits rulebook text certificate {th} {goals} {s} e e₁ e₂ =
    let g = (costs_text limits th text).costs empty_store e₁ in
    let c = paid_certificate limits th (length rulebook) (rule_nodes rulebook e) goals certificate s e₂ in
    omega arith

-- The same by the limits alone, as there are at most as many steps as the certificate has bytes.
pub few_requests : (limits : Setting) (rulebook text certificate : List ℕ) {th : Theory} {goals : List Goal} {last : Progress} {s u : Store}
    → length rulebook ≤ limits.rulebook_bytes
    → length text ≤ limits.goals_bytes
    → length certificate ≤ limits.certificate_bytes
    → theory rulebook ≡ ok th
    → goals_of limits th text empty_store ≡ ok (goals, s)
    → certificate_of limits th goals certificate s ≡ ok (last, u)
    → length u.requests ≤ limits.goals_bytes + limits.certificate_bytes * (1 + limits.rulebook_bytes)
few_requests limits rulebook text certificate short short_text short_certificate e e₁ e₂ =
    let few = few_steps limits (last_progress limits rulebook text certificate short_certificate e e₁ e₂) in
    let p = requests_paid limits rulebook text certificate e e₁ e₂ in
    let m = mul-le-mul few short in
    let d = mul-add limits.certificate_bytes 1 limits.rulebook_bytes in
    omega arith

-- The same of the report.
pub few_requests_run : {limits : Setting} {rulebook text certificate : List ℕ} {answer : Report} → AcceptedRun limits rulebook text certificate answer
    → answer.requested ≤ limits.goals_bytes + limits.certificate_bytes * (1 + limits.rulebook_bytes)
unfolding report_of
few_requests_run {limits} {rulebook} {text} {certificate} run =
    let m = run.met in
    let h = few_requests limits rulebook text certificate m.short m.short_text m.short_certificate m.gives m.read m.taken in
    let q = ap (λ (r : Report). r.requested) run.answers in
    subst (λ n. n ≤ limits.goals_bytes + limits.certificate_bytes * (1 + limits.rulebook_bytes)) q h

-- Under 01's limits, by its numbers of bytes: an accepted release, and any call, of which a refusal counts none.
pub thirty_two_bits_requests : {rulebook text certificate : List ℕ} {answer : Report} → AcceptedRun document01 rulebook text certificate answer
    → answer.requested < 2 ^ 32
unfolding document01
thirty_two_bits_requests run = let h = few_requests_run run in omega arith

pub thirty_two_bits : (a b c d : ℕ) (rulebook goals certificate : List ℕ)
    → (release_call document01 a b c d rulebook goals certificate).requested < 2 ^ 32
unfolding release_call release_answer
thirty_two_bits a b c d rulebook goals certificate = go (release_judged document01 a b c d rulebook goals certificate) refl
  where
    go : (m : Result Report) → release_judged document01 a b c d rulebook goals certificate ≡ m → (release_answer m).requested < 2 ^ 32
    go (refused r) e = omega arith
    go (ok r) e = thirty_two_bits_requests (judged_run document01 a b c d rulebook goals certificate e)
