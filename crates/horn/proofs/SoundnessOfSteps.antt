-- Of an accepted release each step is concluded by an instance of its own rule, from derivable premises.
use Prim.Native.Nat.{ℕ}
use mathlib.Core.Path.{◌≡◌}
use mathlib.Core.List.{List, Memᴰ}
use Rattle.horn.specs.Setting.{Setting}
use Rattle.horn.specs.Matching.{Step, judgment_of, rule_of}
use Rattle.horn.specs.Calls.{Report, release_call}
use Rattle.horn.specs.Forced.{Concluded}
use Rattle.horn.proofs.SoundnessRulebook.{theory_formed}
use Rattle.horn.proofs.SoundnessReading.{text_apart, apart_one_each}
use Rattle.horn.proofs.SoundnessCertificate.{steps_sound}
use Rattle.horn.proofs.Accepting.{AcceptedRun, accepted_run}

-- The run of an accepted release, with what is said of its steps.
pub record Stepwise (limits : Setting) (rulebook text certificate : List ℕ) (answer : Report) : Type 0 where
  pub run : AcceptedRun limits rulebook text certificate answer
  pub each : (s : Step) → Memᴰ s run.release.progress.steps → Concluded run.met.th (judgment_of s) (rule_of s)

pub release_steps : (limits : Setting) (a b c d : ℕ) (rulebook text certificate : List ℕ)
    → (release_call limits a b c d rulebook text certificate).number ≡ 0
    → Stepwise limits rulebook text certificate (release_call limits a b c d rulebook text certificate)
release_steps limits a b c d rulebook text certificate zero_number =
    let run = accepted_run limits a b c d rulebook text certificate zero_number in
    let x = run.met in
    let gs = run.release.goals in
    let one = apart_one_each gs (text_apart limits x.th text x.read) in
    record {
      run = run;
      each = steps_sound limits x.th (theory_formed rulebook x.gives) gs certificate x.store one x.taken;
    }
