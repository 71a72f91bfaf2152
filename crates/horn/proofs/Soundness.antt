-- Soundness of the release call: number 0 means that each goal's judgment is derivable from the rulebook, so that it lies
-- in every set that is closed under the rules. Over all settings, all area lengths and all byte texts.
use Prim.Native.Nat.{ℕ, ◌≤◌}
use native.Mathlib.Omega.{arith}
use mathlib.Core.Path.{◌≡◌}
use mathlib.Core.Bool.{false, true≢false}
use mathlib.Core.List.{List, [], ◌∷◌}
use lib.ListN.{length}
use Rattle.horn.specs.Refusals.{ok}
use Rattle.horn.specs.Setting.{Setting}
use Rattle.horn.specs.Names.{is_zero}
use Rattle.horn.specs.Rulebook.{Theory, theory}
use Rattle.horn.specs.StoredTerms.{Term}
use Rattle.horn.specs.Checker.{Goal, goal_judgment}
use Rattle.horn.specs.Calls.{release_call}
use Rattle.horn.specs.Forced.{WellSorted, Derivable, Forced, ForcedAmongSorted}
use Rattle.horn.specs.Demand3.{Established, Sound}
use Rattle.horn.proofs.Accepting.{gives_accepted, accepted_run}
use Rattle.horn.proofs.SoundnessWords.{forced, forced_among_sorted, derivable_well_sorted, derivable_of_forced}
use Rattle.horn.proofs.SoundnessRulebook.{theory_formed}
use Rattle.horn.proofs.WasRead.{text_read}
use Rattle.horn.proofs.SoundnessReading.{text_apart, apart_one_each}
use Rattle.horn.proofs.SoundnessCertificate.{certificate_sound}
use Rattle.horn.proofs.GoalsWritten.{read_has, given_reading}

not_empty : (goals : List Goal) → is_zero (length goals) ≡ false → 1 ≤ length goals
unfolding is_zero
not_empty [] e = absurd (true≢false e)
not_empty (g ∷ goals) e = omega arith

-- The first theorem: each goal's judgment is derivable.
pub soundness : (limits : Setting) (a b c d : ℕ) (rulebook text certificate : List ℕ)
    → (release_call limits a b c d rulebook text certificate).number ≡ 0
    → Established limits rulebook text Derivable
soundness limits a b c d rulebook text certificate zero_number =
    let run = accepted_run limits a b c d rulebook text certificate zero_number in
    let x = run.met in
    let gs = run.release.goals in
    let one = apart_one_each (gs) (text_apart limits x.th text x.read) in
    record {
      th = x.th;
      gives = x.gives;
      accepted = gives_accepted record { short = x.short; gives = x.gives };
      without_refusal = given_reading limits x.th text x.short_text x.read;
      goals = gs;
      has = read_has limits x.th text x.read;
      some_goal = not_empty (gs) (text_read limits x.th text x.read).0;
      each = certificate_sound limits x.th (theory_formed rulebook x.gives) (gs) certificate x.store one x.taken;
    }

-- The same, as the contract of the call says it.
pub sound : (limits : Setting) (a b c d : ℕ) (rulebook text certificate : List ℕ)
    → Sound limits rulebook text (release_call limits a b c d rulebook text certificate)
sound limits a b c d rulebook text certificate = record { established = soundness limits a b c d rulebook text certificate }

-- What is said of each goal's judgment may be replaced by what follows from it.
pub established_by {ℓ κ} : {limits : Setting} {rulebook text : List ℕ} {Said : Theory → Term → Type ℓ} {Less : Theory → Term → Type κ}
    → ((th : Theory) (j : Term) → Said th j → Less th j)
    → Established limits rulebook text Said
    → Established limits rulebook text Less
established_by less x =
    record {
      th = x.th;
      gives = x.gives;
      accepted = x.accepted;
      without_refusal = x.without_refusal;
      goals = x.goals;
      has = x.has;
      some_goal = x.some_goal;
      each = λ g m. less x.th (goal_judgment g) (x.each g m);
    }

-- The second theorem: each goal's judgment lies in every set that is closed under the rules, whatever else that set has, at every level.
pub soundness_forced {ℓ} : (limits : Setting) (a b c d : ℕ) (rulebook text certificate : List ℕ)
    → (release_call limits a b c d rulebook text certificate).number ≡ 0
    → Established limits rulebook text (Forced {ℓ})
soundness_forced limits a b c d rulebook text certificate zero_number =
    established_by (λ th j d. forced d) (soundness limits a b c d rulebook text certificate zero_number)

-- The narrower reading: it lies in every closed set that has only well-sorted ground judgments.
pub soundness_among_sorted {ℓ} : (limits : Setting) (a b c d : ℕ) (rulebook text certificate : List ℕ)
    → (release_call limits a b c d rulebook text certificate).number ≡ 0
    → Established limits rulebook text (ForcedAmongSorted {ℓ})
soundness_among_sorted limits a b c d rulebook text certificate zero_number =
    established_by (λ th j f. forced_among_sorted f) (soundness_forced limits a b c d rulebook text certificate zero_number)

-- The judgments derivable from a rulebook's theory are themselves a closed set (`derivable_closed` in SoundnessWords) of well-sorted
-- judgments, and what lies in every such set, at any level, is derivable. So neither `soundness_forced` nor `soundness_among_sorted` says
-- less than `soundness`.
pub derivable_is_sorted : (rulebook : List ℕ) {th : Theory} → theory rulebook ≡ ok th → (j : Term) → Derivable th j → WellSorted th j
derivable_is_sorted rulebook e = derivable_well_sorted (theory_formed rulebook e)

pub forced_is_derivable {ℓ} : (rulebook : List ℕ) {th : Theory} {j : Term} → theory rulebook ≡ ok th → ForcedAmongSorted {ℓ} th j
    → Derivable th j
forced_is_derivable rulebook e f = derivable_of_forced (theory_formed rulebook e) f
