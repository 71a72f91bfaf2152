-- What the call that writes the page answers and leaves: it is answered as the release itself, but for 31 where the page does not fit; no
-- byte is written but the page's own; and the areas are left as the call for a report leaves them. Assumes nothing.
use Prim.Native.Nat.{ℕ, ◌+◌, ◌*◌, ◌≤◌, ◌<◌}
use native.Mathlib.Omega.{arith}
use mathlib.Core.Path.{◌≡◌, refl, sym, ap, subst, ◌∙◌}
use mathlib.Core.Bool.{false}
use mathlib.Core.Logic.{◌⊎◌, inl, inr}
use mathlib.Core.List.{List}
use lib.Dec.{leb}
use lib.ListN.{length, drop, length-append, length-drop}
use borrow.Author.Tests.{leb-true, leb-false, le-leb}
use Rattle.horn.specs.Refusals.{Refusal, number, Result, ok, refused, need, ◌>>=◌, area_short, text_long, output_long}
use Rattle.horn.specs.Setting.{Setting}
use Rattle.horn.specs.StoredTerms.{empty_store}
use Rattle.horn.specs.Calls.{Release, report_of, areas_long, release_read, release_judged, release_answer, release_call, area_after, Called, leaving}
use Rattle.horn.specs.Calls.{release_left}
use Rattle.horn.specs.Output.{Output, output, fitting, written, output_of}
use Rattle.horn.specs.Page.{page_of, page_judged, page_call, page_left}
use Rattle.horn.proofs.Equality.{case}
use Rattle.horn.proofs.Inversion.{not_ok, ok_equal}
use Rattle.horn.proofs.Refusing.{Refuses, refuses_none, refuses, refuses_bind, refuses_need}
use Rattle.horn.proofs.Later.{Later, later_theory}
use Rattle.horn.proofs.Readings.{later_goals, later_certificate}
use Rattle.horn.proofs.Accepting.{number_positive, read_run}
use Rattle.horn.proofs.Page.{length-page_of}

-- A refusal of document 01's calls.
abbrev pub Early : {A : Type 0} → Result A → Type 0
Early = Refuses (λ r. number r ≤ 29)

early : {A : Type 0} {m : Result A} → Later m → Early m
early refuses_none = refuses_none
early (refuses r h) = refuses r h.1

early_areas : (limits : Setting) (a b c d : ℕ) → Early (areas_long limits a b c d)
unfolding areas_long number
early_areas limits a b c d =
    refuses_bind _ (refuses_need _ area_short (omega arith)) λ _.
    refuses_bind _ (refuses_need _ area_short (omega arith)) λ _.
    refuses_bind _ (refuses_need _ area_short (omega arith)) λ _.
    refuses_need _ area_short (omega arith)

-- Three texts are refused by 1 to 29 only.
pub early_read : (limits : Setting) (a b c d : ℕ) (rulebook goals certificate : List ℕ) → Early (release_read limits a b c d rulebook goals certificate)
unfolding release_read number
early_read limits a b c d rulebook goals certificate =
    refuses_bind _ (early_areas limits a b c d) λ _.
    refuses_bind _ (refuses_need _ text_long (omega arith)) λ _.
    refuses_bind _ (refuses_need _ text_long (omega arith)) λ _.
    refuses_bind _ (refuses_need _ text_long (omega arith)) λ _.
    refuses_bind _ (early (later_theory rulebook)) λ th.
    refuses_bind _ (early (later_goals limits th goals empty_store)) λ p.
    refuses_bind _ (early (later_certificate limits th p.0 certificate p.1)) λ q.
    refuses_none

-- The ways in which a call for the page ends, with the number of the report that the same areas and texts have: the release is refused;
-- its page is longer than the buffer; its page is written.
pub data Answered (m : Result Release) (buffer : List ℕ) : ℕ → Output → Type 0 where
  page_refused : (r : Refusal) → m ≡ refused r → number r ≤ 29 → Answered m buffer (number r) (output (number r) 0 buffer)
  page_long : (r : Release) → m ≡ ok r → length buffer < length (page_of r) → Answered m buffer 0 (output 31 0 buffer)
  page_written : (r : Release) → m ≡ ok r → length (page_of r) ≤ length buffer
      → Answered m buffer 0 (output 0 (length (page_of r)) (written (page_of r) buffer))

fits : (text buffer : List ℕ) → length text ≤ length buffer → fitting (length buffer) text ≡ ok text
unfolding fitting need ◌>>=◌
fits text buffer h = rw (le-leb (length text) (length buffer) h)

fits_not : (text buffer : List ℕ) → leb (length text) (length buffer) ≡ false → fitting (length buffer) text ≡ refused output_long
unfolding fitting need ◌>>=◌
fits_not text buffer e = rw e

answered : (bytes : ℕ) (buffer : List ℕ) {m : Result Release} → Early m
    → Answered m buffer (release_answer (m >>= λ r. ok (report_of bytes r))).number (output_of (m >>= λ r. fitting (length buffer) (page_of r)) buffer)
unfolding ◌>>=◌ release_answer report_of output_of number
answered bytes buffer (refuses r h) = page_refused r refl h
answered bytes buffer (refuses_none {a = r}) =
    case (leb (length (page_of r)) (length buffer))
    (λ e. let h = leb-true _ _ e in rw (fits (page_of r) buffer h) (page_written r refl h))
    (λ e. let h = leb-false _ _ e in rw (fits_not (page_of r) buffer e) (page_long r refl h))

-- What each of these ways says of the number n of the report and of the output.
module _ {m : Result Release} {buffer : List ℕ} where
  zero_or_31 : {n : ℕ} {o : Output} → Answered m buffer n o → n ≡ 0 → (o.number ≡ 0) ⊎ (o.number ≡ 31)
  zero_or_31 (page_refused r e h) z = inl z
  zero_or_31 (page_long r e h) z = inr refl
  zero_or_31 (page_written r e h) z = inl refl

  only_accepted : {n : ℕ} {o : Output} → Answered m buffer n o → (o.number ≡ 0) ⊎ (o.number ≡ 31) → n ≡ 0
  only_accepted (page_refused r e h) (inl z) = z
  only_accepted (page_refused r e h) (inr z) = absurd (omega arith)
  only_accepted (page_long r e h) z = refl
  only_accepted (page_written r e h) z = refl

  as_report : {n : ℕ} {o : Output} → Answered m buffer n o → (n ≡ 0 → ⊥) → o.number ≡ n
  as_report (page_refused r e h) z = refl
  as_report (page_long r e h) z = absurd (z refl)
  as_report (page_written r e h) z = absurd (z refl)

  untouched : {n : ℕ} {o : Output} → Answered m buffer n o → (o.number ≡ 0 → ⊥) → (o.bytes ≡ 0) × (o.buffer ≡ buffer)
  untouched (page_refused r e h) z = (refl, refl)
  untouched (page_long r e h) z = (refl, refl)
  untouched (page_written r e h) z = absurd (z refl)

  same_length : {n : ℕ} {o : Output} → Answered m buffer n o → length o.buffer ≡ length buffer
  unfolding written
  same_length (page_refused r e h) = refl
  same_length (page_long r e h) = refl
  same_length (page_written r e h) =
      omega (arith, length-append (page_of r) (drop (length (page_of r)) buffer), length-drop (length (page_of r)) buffer)

  was_read : {n : ℕ} {o : Output} → Answered m buffer n o → o.number ≡ 0 → (r : Release) × (m ≡ ok r)
  was_read (page_refused r e h) z = let k = number_positive r in absurd (omega arith)
  was_read (page_long r e h) z = absurd (omega arith)
  was_read (page_written r e h) z = (r, e)

  page_of_lem : {n : ℕ} {o : Output} {r : Release} → Answered m buffer n o → m ≡ ok r → o.number ≡ 0
      → (length (page_of r) ≤ length buffer) × (o ≡ output 0 (length (page_of r)) (written (page_of r) buffer))
  page_of_lem (page_refused x e h) f z = not_ok (sym e ∙ f)
  page_of_lem (page_long x e h) f z = absurd (omega arith)
  page_of_lem (page_written x e h) f z =
      let same = ok_equal (sym e ∙ f) in
      (subst (λ y. length (page_of y) ≤ length buffer) same h, ap (λ y. output 0 (length (page_of y)) (written (page_of y) buffer)) same)

  with_room : {n : ℕ} {o : Output} {r : Release} → Answered m buffer n o → m ≡ ok r → length (page_of r) ≤ length buffer → o.number ≡ 0
  with_room (page_refused x e h) f z = not_ok (sym e ∙ f)
  with_room {r = r} (page_long x e h) f z = let same = ap (λ y. length (page_of y)) (ok_equal (sym e ∙ f)) in absurd (omega arith)
  with_room (page_written x e h) f z = refl

  without_room : {n : ℕ} {o : Output} {r : Release} → Answered m buffer n o → m ≡ ok r → length buffer < length (page_of r) → o.number ≡ 31
  without_room (page_refused x e h) f z = not_ok (sym e ∙ f)
  without_room (page_long x e h) f z = refl
  without_room {r = r} (page_written x e h) f z = let same = ap (λ y. length (page_of y)) (ok_equal (sym e ∙ f)) in absurd (omega arith)

module _ (limits : Setting) (a b c d : ℕ) (rulebook goals certificate buffer : List ℕ) where
  -- The call for the page.
  abbrev pub paged : Output
  paged = page_call limits a b c d rulebook goals certificate buffer

  -- The number of the report of the same areas and texts.
  abbrev pub reported : ℕ
  reported = (release_call limits a b c d rulebook goals certificate).number

  -- Every call for the page ends in one of these ways.
  pub page_answered : Answered (release_read limits a b c d rulebook goals certificate) buffer reported paged
  unfolding release_call release_judged page_call page_judged
  page_answered = answered (length certificate) buffer (early_read limits a b c d rulebook goals certificate)

  -- An accepted release is answered 0 or 31.
  pub accepted_answered : reported ≡ 0 → (paged.number ≡ 0) ⊎ (paged.number ≡ 31)
  accepted_answered = zero_or_31 page_answered

  -- Only an accepted release is answered 0 or 31.
  pub answered_accepted : (paged.number ≡ 0) ⊎ (paged.number ≡ 31) → reported ≡ 0
  answered_accepted = only_accepted page_answered

  -- A refused release is answered as its report is: "after all of 1 to 29".
  pub refused_answered : (reported ≡ 0 → ⊥) → paged.number ≡ reported
  refused_answered = as_report page_answered

  -- What is answered 0 has been read.
  pub page_read : paged.number ≡ 0 → (r : Release) × (release_read limits a b c d rulebook goals certificate ≡ ok r)
  page_read = was_read page_answered

  -- "A release that is refused writes no byte", "zero if refused", and 31 has "nothing written".
  pub nothing_written : (paged.number ≡ 0 → ⊥) → (paged.bytes ≡ 0) × (paged.buffer ≡ buffer)
  nothing_written = untouched page_answered

  -- The buffer keeps its length.
  pub buffer-length : length paged.buffer ≡ length buffer
  buffer-length = same_length page_answered

  module _ {r : Release} (read : release_read limits a b c d rulebook goals certificate ≡ ok r) where
    -- With 0 the page stands at the buffer's front, it fits, its length is answered, and the bytes beyond it are untouched.
    pub page_stands : paged.number ≡ 0
        → (length (page_of r) ≤ length buffer) × (paged ≡ output 0 (length (page_of r)) (written (page_of r) buffer))
    page_stands = page_of_lem page_answered read

    page_bytes : limits.certificate_bytes ≤ 100_000_000 → length (page_of r) ≡ 65 * (length r.goals + 1)
    page_bytes few = length-page_of (read_run limits a b c d rulebook goals certificate read) few

    -- A buffer of 65 bytes for each goal and 65 more is enough.
    pub room_enough : limits.certificate_bytes ≤ 100_000_000 → 65 * (length r.goals + 1) ≤ length buffer → paged.number ≡ 0
    room_enough few h = with_room page_answered read (subst (λ n. n ≤ length buffer) (sym (page_bytes few)) h)

    -- "31, output longer than the lent buffer": a shorter one is not.
    pub room_short : limits.certificate_bytes ≤ 100_000_000 → length buffer < 65 * (length r.goals + 1) → paged.number ≡ 31
    room_short few h = without_room page_answered read (subst (λ n. length buffer < n) (sym (page_bytes few)) h)

same_after : {m : Result Release} {buffer : List ℕ} {n : ℕ} {o : Output} (words : ℕ) (area : List ℕ) → Answered m buffer n o
    → area_after words o.number area ≡ area_after words n area
unfolding area_after
same_after words area (page_refused r e h) = refl
same_after words area (page_long r e h) = refl
same_after words area (page_written r e h) = refl

-- Two calls leave the same in the four areas.
pub record SameAreas {R S : Type 0} (x : Called R) (y : Called S) : Type 0 where
  pub same_first : x.first_after ≡ y.first_after
  pub same_second : x.second_after ≡ y.second_after
  pub same_third : x.third_after ≡ y.third_after
  pub same_fourth : x.fourth_after ≡ y.fourth_after

-- The areas are left as the call for a report leaves them, 31 included.
pub same_areas : (limits : Setting) (a b c d rulebook goals certificate buffer : List ℕ)
    → SameAreas (page_left limits a b c d rulebook goals certificate buffer) (release_left limits a b c d rulebook goals certificate)
unfolding page_left release_left leaving
same_areas limits a b c d rulebook goals certificate buffer =
    let h = page_answered limits (length a) (length b) (length c) (length d) rulebook goals certificate buffer in
    record {
      same_first = same_after limits.area_words a h;
      same_second = same_after limits.area_words b h;
      same_third = same_after limits.area_words c h;
      same_fourth = same_after limits.last_area_words d h;
    }
