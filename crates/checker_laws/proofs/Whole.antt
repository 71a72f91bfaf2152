-- Rulebook, goals and certificate, one after the other, are the definition's, whatever the areas held. Assumes nothing.
use Prim.Native.Nat.{ℕ, ◌+◌, ◌≤◌}
use mathlib.Core.Path.{◌≡◌, refl, ap, sym, subst, ◌∙◌}
use mathlib.Core.List.{List}
use native.Mathlib.Omega.{arith}
use lib.ListN.{length}
use Rattle.clearing.specs.Below.horn.specs.Refusals.{Result, ok, ◌>>=◌}
use Rattle.clearing.specs.Below.horn.specs.Setting.{document01}
use Rattle.clearing.specs.Below.horn.specs.Rulebook as definition
use Rattle.clearing.specs.Below.horn.specs.Rulebook.{Theory}
use Rattle.clearing.specs.Below.horn.specs.StoredTerms.{Store, empty_store}
use Rattle.clearing.specs.Below.horn.specs.Checker.{Goal, goals_of}
use Rattle.clearing.specs.Below.horn.specs.Certificate.{Progress, certificate_of}
use Rattle.clearing.specs.Below.horn.specs.Calls.{Release}
use Rattle.clearing.specs.Below.horn.proofs.SoundnessRulebook.{theory_formed}
use Rattle.clearing.specs.Below.horn.proofs.Accepting.{ReadRun}
use Rattle.clearing.specs.Below.horn.proofs.Arising.{last_store}
use Rattle.clearing.specs.Below.horn.proofs.Requests.{arising_made}
use Rattle.clearing.specs.Below.horn.proofs.RequestsBound.{few_requests}
use Rattle.clearing.specs.Below.words.specs.Parts.{cleared}
use Rattle.checker.specs.Below.requests.specs.Requests.{emptied, requested_of}
use Rattle.checker.specs.Below.requests.proofs.Counting.{requested_count}
use Rattle.checker.specs.Below.arena.proofs.Settings.{limits_01}
use Rattle.checker.specs.Below.outcomes.specs.Outcomes as outcomes
use Rattle.checker.specs.Below.outcomes.specs.Leaving as leaving
use Rattle.checker.specs.Below.outcomes.specs.Leaving.{Did, ◌leaving◌}
use Rattle.goals_laws.specs.Below.items.specs.Places as places
use Rattle.checker.specs.Below.theory.specs.Walks as walks
use Rattle.checker.specs.Below.theory.specs.declared.Counts as declared
use Rattle.checker.specs.Below.outcomes.specs.Simulation.{Simulates, refuse, leave, bind, knowing}
use Rattle.goals_laws.specs.Below.theory_laws.specs.Representation.{Entries, Holds}
use Rattle.goals_laws.specs.Below.theory_laws.proofs.Frames.{Keeps, keeps_all}
use Rattle.goals_laws.specs.Below.theory_laws.proofs.Whole.{Judged, theory_law}
use Rattle.checker.specs.Below.theory_reading.proofs.Stored.{Stored, nothing_stored, means_longer}
use Rattle.checker.specs.Below.tables.specs.declared.Tally.{Tally}
use Rattle.checker.specs.Below.tables.specs.Words.{goal_buckets, none_yet}
use Rattle.checker.specs.Below.nodes.specs.Limits.{node_limit, word_limit, index_places, def_buckets}
use Rattle.goals_laws.specs.Below.goals.specs.Goals as goals
use Rattle.goals_laws.proofs.Whole.{goals_whole}
use Rattle.checker.specs.Below.certificates.specs.Certificates.{AllAreas, around, certificate}
use Rattle.certificates_laws.proofs.Standing.{StepRecorded, Finished, terms_counted}
use Rattle.certificates_laws.proofs.Whole.{certificate_law}
use Rattle.checker.specs.Checker as walk
use Rattle.checker.specs.Checker.{beside_store}
use Rattle.checker.specs.declared.Counts.{Counts}

-- The definition behind the lengths.
unfoldable pub judged : List ℕ → List ℕ → List ℕ → Result Release
judged rulebook text certificate_text =
    definition.theory rulebook >>= λ th.
    goals_of document01 th text empty_store >>= λ p.
    certificate_of document01 th p.0 certificate_text p.1 >>= λ q.
    ok record { goals = p.0; progress = q.0; store = q.1 }

-- An accepted release: its counts, how the definition came to it, and what the areas hold of it for a writer.
pub record Released (rulebook text certificate_text : List ℕ) (c : Counts) (areas : AllAreas) (r : Release) : Type 0 where
  pub steps_are : c.steps ≡ length r.progress.steps
  pub goals_are : c.goals ≡ length r.goals
  pub terms_are : c.terms ≡ length r.store.terms
  pub requests_are : c.requested ≡ length r.store.requests
  pub run : ReadRun document01 rulebook text certificate_text r
  pub es : Entries
  pub bound : ℕ
  pub heap : List ℕ
  pub holds : Holds rulebook heap es bound run.th
  pub below : bound ≤ places.theory_end
  pub tally : Tally
  pub finished : Finished rulebook heap es bound run.th text certificate_text r.goals tally areas (r.progress, r.store)

-- What the rulebook's walks leave, beside the store that they are not lent.
beside_store_lem : {Q : declared.Counts → walks.AllAreas → Theory → Type 0} {m : Did walks.AllAreas declared.Counts} {m' : Result Theory} (store : List ℕ)
    → Simulates Q m m'
    → Simulates (λ c s th. (s.0.0.0 ≡ store) × Q c (s.1, s.0.0.1, s.0.1) th) (beside_store store m) m'
beside_store_lem store (refuse e) = refuse e
beside_store_lem store (leave q) = leave (refl, q)

-- What the goals leave, beside the theory's area that they only read.
around_heap : {A B : Type 0} {Q : A → goals.Gathered → B → Type 0} {m : Did goals.Gathered A} {m' : Result B} (heap : List ℕ)
    → Simulates Q m m'
    → Simulates (λ a s b. (s.0.1 ≡ heap) × Q a (s.0.0, s.1) b) (around heap m) m'
around_heap heap (refuse e) = refuse e
around_heap heap (leave q) = leave (refl, q)

module _ (rulebook text certificate_text : List ℕ) (short_rulebook : length rulebook ≤ 8192) (short_text : length text ≤ 8192)
    (short : length certificate_text ≤ 32768) where
  -- The requests that the store's area counts are the definition's: they fit 32 bits.
  requests_counted : {th : Theory} {goals : List Goal} {last : Progress} {s u : Store} → definition.theory rulebook ≡ ok th
      → goals_of document01 th text empty_store ≡ ok (goals, s)
      → certificate_of document01 th goals certificate_text s ≡ ok (last, u)
      → {es : Entries} {store : List ℕ} → Stored es th document01 index_places store u
      → requested_of store node_limit word_limit index_places ≡ length u.requests
  unfolding document01
  requests_counted e read taken st =
      let made = arising_made (last_store document01 rulebook text certificate_text e read taken) in
      let all = requested_count limits_01 st.keeps made in
      let few = few_requests document01 rulebook text certificate_text short_rulebook short_text short e read taken in
      all ∙ omega arith

  -- The goals and the certificate, under a theory that its area holds.
  after_rulebook : (th : Theory) → definition.theory rulebook ≡ ok th → (c : declared.Counts) (store table stack heap : List ℕ) → length store ≡ 16384
      → Judged rulebook c (table, stack, heap) th
      → Simulates (Released rulebook text certificate_text)
      (leaving.◌>>=◌ (around heap
      (goals.goals text rulebook heap (none_yet def_buckets) (emptied store node_limit word_limit index_places) stack (cleared (goal_buckets + def_buckets) table))) (λ p.
      leaving.◌>>=◌ (certificate certificate_text text rulebook p.0 p.1.0.0.0 p.1.0.0.1 p.1.0.1 p.1.1) (λ q.
      outcomes.ok (walk.counts_of q.0 q.1.0.0.0) leaving q.1)))
      (goals_of document01 th text empty_store >>= λ p.
      certificate_of document01 th p.0 certificate_text p.1 >>= λ q.
      ok record { goals = p.0; progress = q.0; store = q.1 })
  unfolding document01
  after_rulebook th e c store table stack heap long j =
      bind _ _
      (knowing (around_heap heap
      (goals_whole j.holds text certificate_text (StepRecorded rulebook heap j.entries j.top th certificate_text)
      (λ ts us k r p q s g m. record { means = means_longer g m.means; by_rule = m.by_rule; listed = m.listed })
      short_text (emptied store node_limit word_limit index_places) stack table j.vars_long
      (nothing_stored j.entries th document01 index_places limits_01 store (omega arith)) j.counts_long)))
      (λ tally s y (g, read).
      bind _ _
      (knowing
      (certificate_law j.holds j.high (theory_formed rulebook e) text certificate_text short g.1.gathering s.0.0.1 g.1.stored g.1.long
      (subst (Keeps places.bindings heap) (sym g.0) keeps_all)))
      (λ last areas q (k, taken).
      leave record {
        steps_are = k.tables.steps_is;
        goals_are = k.tables.goals_is;
        terms_are = terms_counted k.stored;
        requests_are = requests_counted e read taken k.stored;
        run =
            record {
              th = th;
              store = y.1;
              short = short_rulebook;
              short_text = short_text;
              short_certificate = short;
              gives = e;
              read = read;
              taken = taken;
            };
        es = j.entries;
        bound = j.top;
        heap = heap;
        holds = j.holds;
        below = j.high;
        tally = last;
        finished = k;
      }))

  pub check_law : (store table stack heap : List ℕ) → length store ≡ 16384 → length table ≡ 16384 → length stack ≡ 16384 → length heap ≡ 16384
      → Simulates (Released rulebook text certificate_text) (walk.check rulebook text certificate_text store table stack heap) (judged rulebook text certificate_text)
  unfolding walk.check judged
  check_law store table stack heap long_store long_table long_stack long_heap =
      bind _ _ (knowing (beside_store_lem store (theory_law rulebook short_rulebook table stack heap long_table long_stack long_heap)))
      (λ c s th q.
      after_rulebook th q.1 c s.0.0.0 s.1 s.0.0.1 s.0.1 (ap length q.0.0 ∙ long_store) q.0.1)
