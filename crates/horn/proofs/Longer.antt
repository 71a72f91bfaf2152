-- Request L4 of document 02, of the definition at any limits and on any areas: an old release under a longer rulebook. What is accepted under
-- R comes to the very same under R, a new line and further text, if that is accepted: goals, steps, results, store and requests.
use Prim.Native.Nat.{ℕ}
use mathlib.Core.Path.{◌≡◌, sym, ap, subst, ◌∙◌}
use mathlib.Core.List.{List, ◌++◌}
use lib.ListN.{length}
use Rattle.horn.specs.Refusals.{Result, ok, ◌>>=◌}
use Rattle.horn.specs.Setting.{Setting}
use Rattle.horn.specs.Rulebook.{Theory, theory}
use Rattle.horn.specs.Calls.{Release, report_of, rulebook_call, release_read, release_judged, release_answer, release_call}
use Rattle.horn.specs.Forced.{LongEnough, Accepted}
use Rattle.horn.specs.Longer.{longer, Kept}
use Rattle.horn.specs.Output.{fitting, output_of}
use Rattle.horn.specs.Page.{page_of, page_judged, page_call}
use Rattle.horn.proofs.Inversion.{afterᵣ}
use Rattle.horn.proofs.Accepting.{read_run, read_on_lem, accepted_answer, accepted_run, answer_gives, gives_accepted, accepted_gives}
use Rattle.horn.proofs.LongerNames.{ExtendedBy, theory_extends}
use Rattle.horn.proofs.LongerDirectly.{theory_directly}
use Rattle.horn.proofs.LongerReading.{text_alike, certificate_alike}

-- One rulebook prolongs another if its theory extends the other's, where both give one.
pub record Prolongs (R rulebook : List ℕ) : Type 0 where
  pub prolongs : (th later : Theory) → theory R ≡ ok th → theory rulebook ≡ ok later → ExtendedBy th later

-- Where a release is accepted, its rulebook is: of R not accepted alone nothing is said.
pub accepted_under : (limits : Setting) (a b c d : ℕ) (R text certificate : List ℕ) → (release_call limits a b c d R text certificate).number ≡ 0
    → Accepted limits R
accepted_under limits a b c d R text certificate e =
    let run = accepted_run limits a b c d R text certificate e in
    gives_accepted record { short = run.met.short; gives = run.met.gives }

module _ (limits : Setting) (a b c d : ℕ) (long : LongEnough limits a b c d) (i j k l : ℕ) (R rulebook text certificate : List ℕ) (ext : Prolongs R rulebook) where
  -- What the three texts come to is the same.
  pub read_kept : Accepted limits rulebook → (release_call limits i j k l R text certificate).number ≡ 0
      → release_read limits a b c d rulebook text certificate ≡ release_read limits i j k l R text certificate
  unfolding release_call release_judged
  read_kept acc zero_number =
      afterᵣ (release_read limits i j k l R text certificate) (accepted_answer (release_judged limits i j k l R text certificate) zero_number) λ r e₁ e₂.
      let run = read_run limits i j k l R text certificate e₁ in
      let (later, g) = accepted_gives acc in
      let x = ext.prolongs run.th later run.gives g.gives in
      read_on_lem rulebook text certificate long g.short run.short_text run.short_certificate g.gives
      ((text_alike limits x text).alike _ run.read)
      ((certificate_alike limits x _ certificate).alike _ run.taken)
      ∙ sym e₁

  -- The report is the same, and so is the release page, over any buffer.
  pub release_kept : Accepted limits rulebook → (release_call limits i j k l R text certificate).number ≡ 0
      → release_call limits a b c d rulebook text certificate ≡ release_call limits i j k l R text certificate
  unfolding release_call release_judged
  release_kept acc zero_number =
      ap (λ (m : Result Release). release_answer (m >>= λ r. ok (report_of (length certificate) r))) (read_kept acc zero_number)

  pub page_kept : (buffer : List ℕ) → Accepted limits rulebook → (release_call limits i j k l R text certificate).number ≡ 0
      → page_call limits a b c d rulebook text certificate buffer ≡ page_call limits i j k l R text certificate buffer
  unfolding page_call page_judged
  page_kept buffer acc zero_number =
      ap (λ (m : Result Release). output_of (m >>= λ r. fitting (length buffer) (page_of r)) buffer) (read_kept acc zero_number)

  -- The call with the rulebook alone tells whether it is accepted: one answer 0, on whatever areas, is enough.
  pub kept_by_calls : (a' b' c' d' : ℕ) → (rulebook_call limits a' b' c' d' rulebook).number ≡ 0
      → (release_call limits i j k l R text certificate).number ≡ 0
      → release_call limits a b c d rulebook text certificate ≡ release_call limits i j k l R text certificate
  kept_by_calls a' b' c' d' e zero_number = release_kept (gives_accepted (answer_gives limits a' b' c' d' rulebook e).1) zero_number

-- R, a new line and further text is such a rulebook; and so is R with a text directly behind it.
pub longer_prolongs : (R further : List ℕ) → Prolongs R (longer R further)
longer_prolongs R further = record { prolongs = λ th later e e₁. theory_extends R further e e₁ }

pub directly_prolongs : (R further : List ℕ) → Prolongs R (R ++ further)
directly_prolongs R further = record { prolongs = λ th later e e₁. theory_directly R further e e₁ }

-- L4 of the call with three texts, from bytes to report.
pub longer_kept : (limits : Setting) (a b c d : ℕ) (rulebook text certificate : List ℕ)
    → Kept limits a b c d rulebook text certificate (release_call limits a b c d rulebook text certificate)
longer_kept limits a b c d rulebook text certificate =
    record {
      keeps = λ R further i j k l e acc_r acc long zero_number.
          release_kept limits a b c d long i j k l R rulebook text certificate (subst (Prolongs R) (sym e) (longer_prolongs R further)) acc zero_number;
    }
