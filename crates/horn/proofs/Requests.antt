-- L1 of document 02, what the count of requests says: each request that was met found its node or made it, and as many were made as the
-- store has terms. So of an accepted release the requests less the terms are how often a node was shared.
use Prim.Native.Nat.{ℕ, ◌+◌}
use mathlib.Core.Path.{◌≡◌, ap, subst, ◌∙◌}
use mathlib.Core.List.{List, [], ◌∷◌}
use native.Mathlib.Omega.{arith}
use lib.ListN.{length, length-append}
use Rattle.horn.specs.Refusals.{ok}
use Rattle.horn.specs.Setting.{Setting}
use Rattle.horn.specs.StoredTerms.{Term, Met, was_found, was_made, found_in, made_in, met_by, holds, intern, Store, request}
use Rattle.horn.specs.Calls.{Report, report_of, release_call}
use Rattle.horn.specs.Arising.{StoreArises, in_goals, in_certificate}
use Rattle.horn.proofs.Equality.{case}
use Rattle.horn.proofs.Inversion.{ok_equal, afterᵣ, after_needᵣ}
use Rattle.horn.proofs.Readings.{reads_made, reads_goals_of}
use Rattle.horn.proofs.Arising.{passes_last, passes_keep, last_store}
use Rattle.horn.proofs.Accepting.{AcceptedRun, accepted_run}

-- A request is met in one of two ways.
pub found_or_made : (ms : List Met) → found_in ms + made_in ms ≡ length ms
unfolding found_in made_in
found_or_made [] = omega arith
found_or_made (was_found ∷ ms) = let h = found_or_made ms in omega arith
found_or_made (was_made ∷ ms) = let h = found_or_made ms in omega arith

-- As many requests made their node as there are terms.
abbrev MadeAll : Store → Type 0
MadeAll store = made_in store.requests ≡ length store.terms

made_intern : (limits : Setting) (t : Term) (terms : List Term) (ms : List Met) {after : List Term} → made_in ms ≡ length terms
    → intern limits t terms ≡ ok after
    → made_in (met_by terms t ∷ ms) ≡ length after
unfolding intern met_by made_in
made_intern limits t terms ms i e =
    case (holds terms t)
    (λ p. rw (p, met_by) (i ∙ ap length (ok_equal (rw (p, intern) at e))))
    (λ p.
    after_needᵣ _ _ _ (rw (p, intern) at e) λ w e₁.
    let n = length-append terms (t ∷ []) in
    let k = ap length (ok_equal e₁) in
    rw (p, met_by) (omega arith))

made_request : (limits : Setting) (t : Term) (s u : Store) → MadeAll s → request limits t s ≡ ok u → MadeAll u
unfolding request
made_request limits t s u i e =
    afterᵣ _ e λ after e₁ e₂. subst MadeAll (ok_equal e₂) (made_intern limits t s.terms s.requests i e₁)

-- So it is of every store that arises, in a run that is accepted or refused.
pub arising_made : {limits : Setting} {rulebook text certificate : List ℕ} {u : Store} → StoreArises limits rulebook text certificate u → MadeAll u
unfolding made_in
arising_made {limits} (in_goals e p h) = passes_keep limits MadeAll (made_request limits) p (omega arith) h
arising_made {limits} {text} (in_certificate {th} {goals} {s} e e₁ p h) =
    let q = reads_made limits (reads_goals_of limits th text) in
    passes_keep limits MadeAll (made_request limits) p (passes_keep limits MadeAll (made_request limits) q (omega arith) (passes_last limits q e₁)) h

-- The requests of an accepted release, of which the report has the number: found and made ones together, the made ones as many as its terms.
pub record Shares (answer : Report) (ms : List Met) : Type 0 where
  pub found_and_made : found_in ms + made_in ms ≡ answer.requested
  pub made_terms : made_in ms ≡ answer.terms

pub run_shares : {limits : Setting} {rulebook text certificate : List ℕ} {answer : Report} (run : AcceptedRun limits rulebook text certificate answer)
    → Shares answer run.release.store.requests
unfolding report_of
run_shares {limits} {rulebook} {text} {certificate} run =
    let m = arising_made (last_store limits rulebook text certificate run.met.gives run.met.read run.met.taken) in
    let f = found_or_made run.release.store.requests in
    let t = ap (λ (r : Report). r.terms) run.answers in
    let q = ap (λ (r : Report). r.requested) run.answers in
    record { found_and_made = omega arith; made_terms = omega arith }

-- The same of the call, from bytes to report.
pub release_shares : (limits : Setting) (a b c d : ℕ) (rulebook text certificate : List ℕ)
    → (release_call limits a b c d rulebook text certificate).number ≡ 0
    → (run : AcceptedRun limits rulebook text certificate (release_call limits a b c d rulebook text certificate))
    × Shares (release_call limits a b c d rulebook text certificate) run.release.store.requests
release_shares limits a b c d rulebook text certificate e =
    let run = accepted_run limits a b c d rulebook text certificate e in (run, run_shares run)
