-- The references of a step, read to the stack. Assumes nothing.
use Prim.Native.Nat.{ℕ, zero, suc, ◌+◌, ◌*◌, ◌≤◌}
use mathlib.Core.Path.{◌≡◌, refl}
use mathlib.Core.List.{List, [], ◌∷◌, ◌++◌, append-nil, append_assoc}
use native.Mathlib.Omega.{arith}
use lib.ListN.{length, set, length-set, length-append}
use Rattle.matching_laws.specs.Below.horn.specs.Refusals as refusals
use Rattle.matching_laws.specs.Below.horn.specs.Refusals.{number, text_ends}
use Rattle.matching_laws.specs.Below.horn.specs.Tokens.{Stream, Token}
use Rattle.matching_laws.specs.Below.horn.specs.NestedLists.{Items, closed, ended, bad_line, ◌then◌, absent}
use Rattle.matching_laws.specs.Below.horn.specs.Certificate as certificates
use Rattle.steps.specs.Below.lex.specs.declared.Reader.{Reader}
use Rattle.steps.specs.Below.outcomes.specs.Outcomes.{Outcome}
use Rattle.steps.specs.Below.outcomes.specs.Leaving as leaving
use Rattle.steps.specs.Below.outcomes.specs.Leaving.{Did, ◌leaving◌}
use Rattle.matching_laws.specs.Below.words.specs.Sums.{sum32}
use Rattle.matching_laws.specs.Below.words.proofs.Sums.{sum_small}
use Rattle.matching_laws.specs.Below.numerals.specs.Numbers.{saturated}
use Rattle.steps.specs.Below.outcomes.specs.Simulation.{Answers, both_refuse, Simulates, refuse, leave, pure, after}
use Rattle.matching_laws.specs.Below.asking.specs.Asking.{Ahead}
use Rattle.terms_laws.specs.Below.asking_laws.proofs.Places.{RestComes, At, at_less, at_within}
use Rattle.terms_laws.specs.Below.asking_laws.proofs.Asking.{Looked, look_closed, look_bad, look_ended, look_item, look_law}
use Rattle.terms_laws.proofs.Reading.{asked_yes}
use Rattle.matching_laws.proofs.Relations.{ReferencesAt}
use Rattle.matching_laws.proofs.References.{saturates, references_more}
use Rattle.steps.specs.Below.references.specs.References as walk
use Rattle.steps_laws.proofs.Numbers.{NumberMet, number_ended, number_member}

-- References were read behind those that stood on the stack: how many there are, and the reader after the closing.
pub record ReferencesRead (text : List ℕ) (K : Stream Token → Type 0) (spent : ℕ) (ns : List ℕ) (x : ℕ × Reader) (left : List ℕ) (y : List ℕ) : Type 0 where
  pub count : x.0 ≡ length (ns ++ y)
  pub reader : At text K (spent + 2 * length y) x.1
  pub refs : ReferencesAt left 0 (ns ++ y)
  pub long : length left ≡ 16384

module _ (text : List ℕ) (short : length text ≤ 32768) (K : Stream Token → Type 0) where
  -- Two bytes at least were read for each word on the stack and for each turn of the loop.
  abbrev ReferencesLaw : ℕ → Items → Type 0
  ReferencesLaw fuel is = (n spent : ℕ) (ns : List ℕ) (r : Reader) (stack : List ℕ) → n ≡ length ns → 2 * n ≤ spent → length text + 2 ≤ fuel + spent
      → length stack ≡ 16384 → ReferencesAt stack 0 ns → At text (RestComes is K) spent r
      → Simulates (ReferencesRead text K spent ns) (walk.references_from fuel text n r stack) (certificates.references is)

  -- One turn of the loop, by the look ahead.
  module _ (fuel : ℕ) (on : (is : Items) → ReferencesLaw fuel is) (n spent : ℕ) (ns : List ℕ) (stack : List ℕ) (e : n ≡ length ns) (l : 2 * n ≤ spent)
      (f : length text + 2 ≤ suc fuel + spent)
      (long : length stack ≡ 16384) (refs : ReferencesAt stack 0 ns) where
    abbrev go_on : (ℕ × Reader) × List ℕ → Did (List ℕ) (ℕ × Reader)
    go_on p = walk.references_from fuel text (sum32 n 1) p.0.1 (set p.1 n (saturated p.0.0))

    one_more : (rest : Items) (i : ℕ) (q : Reader) → At text (RestComes rest K) (spent + 2) q
        → Simulates (ReferencesRead text K spent ns) (go_on ((i, q), stack)) (refusals.◌>>=◌ (certificates.references rest) (λ ms. refusals.ok (i ∷ ms)))
    one_more rest i q there =
        let b = at_within there in
        let z = length-set stack n (saturated i) in
        let u = length-append ns (i ∷ []) in
        rw (sum_small n 1 (omega arith))
        (after (λ ms. i ∷ ms)
        (on rest (n + 1) (spent + 2) (ns ++ (i ∷ [])) q (set stack n (saturated i)) (omega arith) (omega arith) (omega arith) (omega arith)
        (references_more n (saturated i) i e (omega arith) (saturates i) refs) there)
        (λ x left ms k. longer x left ms k)) where
          longer : (x : ℕ × Reader) (left ms : List ℕ) → ReferencesRead text K (spent + 2) (ns ++ (i ∷ [])) x left ms
              → ReferencesRead text K spent ns x left (i ∷ ms)
          longer x left ms k =
              record {
                count = rw append_assoc at k.count;
                reader = at_less (spent + 2 * length (i ∷ ms)) (omega arith) k.reader;
                refs = rw append_assoc at k.refs;
                long = k.long;
              }

    none_more : (q : Reader) → At text K spent q → ReferencesRead text K spent ns (n, q) stack []
    none_more q there =
        record { count = rw append-nil e; reader = at_less (spent + 0) (omega arith) there; refs = rw append-nil refs; long = long }

    reference_turn : (is : Items) {o : Outcome Ahead} → Looked text K spent is o
        → Simulates (ReferencesRead text K spent ns)
        (leaving.◌>>=◌ (o leaving stack) (λ p. walk.one_reference (walk.references_from fuel text) text n p.0 p.1))
        (certificates.references is)
    unfolding certificates.references absent refusals.◌>>=◌ number
    reference_turn closed (look_closed {q} there) = leave (none_more q there)
    reference_turn bad_line look_bad = refuse refl
    reference_turn ended (look_ended there) = rw (asked_yes 254 2 refl) (by (number_ended text K spent there)) where
      by : {o : Outcome (ℕ × Reader)} → Answers (NumberMet text K spent) o (refusals.refused text_ends)
          → Simulates (ReferencesRead text K spent ns) (leaving.◌>>=◌ (o leaving stack) go_on) (refusals.refused text_ends)
      by (both_refuse g) = refuse g
    reference_turn (item then rest) (look_item there) =
        rw (asked_yes 254 2 refl)
        (pure go_on _ (number_member text K spent item rest there) (λ x i m. rw m.0 (one_more rest x.0 x.1 m.1)))

  pub references_from_lem : (fuel : ℕ) (is : Items) → ReferencesLaw fuel is
  unfolding walk.references_from
  references_from_lem zero is n spent ns r stack e l f long refs a = absurd (let b = at_within a in omega arith)
  references_from_lem (suc fuel) is n spent ns r stack e l f long refs a =
      reference_turn fuel (references_from_lem fuel) n spent ns stack e l f long refs is (look_law text K spent is a)
