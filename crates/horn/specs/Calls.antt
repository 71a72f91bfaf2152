-- "The texts and the work areas" in document 01: the two calls.
use Rattle.std.specs.Prelude.{ℕ, zero, suc, true, false, ◌||◌, List, [], ◌∷◌, ◌++◌, eqb, leb, length, drop, replicate}
use Rattle.horn.specs.Refusals.{number, Result, ok, refused, ◌>>=◌, need, area_short, text_long}
use Rattle.horn.specs.Setting.{Setting}
use Rattle.horn.specs.Rulebook.{Symbol, symbol, sort, judgment, Theory, theory}
use Rattle.horn.specs.StoredTerms.{Store, empty_store}
use Rattle.horn.specs.Checker.{Goal, goals_of}
use Rattle.horn.specs.Certificate.{Progress, certificate_of}

-- "One call takes the rulebook alone and answers a number and the counts of sorts, constructors, predicates and rules".
pub record RulebookReport : Type 0 where
  pub number : ℕ
  pub sorts : ℕ
  pub constructors : ℕ
  pub predicates : ℕ
  pub rules : ℕ

-- A report by its values.
abbrev pub rulebook_report : ℕ → ℕ → ℕ → ℕ → ℕ → RulebookReport
rulebook_report n s c p r = record { number = n; sorts = s; constructors = c; predicates = p; rules = r }

-- "The other takes three texts and answers a number, steps, goals, terms, bytes." L1: "The report gains a fifth count, nodes requested".
pub record Report : Type 0 where
  pub number : ℕ
  pub steps : ℕ
  pub goals : ℕ
  pub terms : ℕ
  pub bytes : ℕ
  pub requested : ℕ

-- A report by its values.
abbrev pub report : ℕ → ℕ → ℕ → ℕ → ℕ → ℕ → Report
report n s g t b r = record { number = n; steps = s; goals = g; terms = t; bytes = b; requested = r }

-- What three texts that are not refused have come to: the goals in their order, what the certificate has come to, and the store at its end.
pub record Release : Type 0 where
  pub goals : List Goal
  pub progress : Progress
  pub store : Store

-- The report of a release that is accepted, whose certificate has so many bytes.
unfoldable pub report_of : ℕ → Release → Report
report_of bytes r =
    report 0 (length r.progress.steps) (length r.goals) (length r.store.terms) bytes (length r.store.requests)

-- How many symbols are constructors, for "the counts of sorts, constructors, predicates and rules".
unfoldable pub constructor_count : List Symbol → ℕ
constructor_count [] = zero
constructor_count (symbol name ins (sort s) ∷ rest) = suc (constructor_count rest)
constructor_count (symbol name ins judgment ∷ rest) = constructor_count rest

-- How many symbols are predicates, for "the counts of sorts, constructors, predicates and rules".
unfoldable pub predicate_count : List Symbol → ℕ
predicate_count [] = zero
predicate_count (symbol name ins (sort s) ∷ rest) = predicate_count rest
predicate_count (symbol name ins judgment ∷ rest) = suc (predicate_count rest)

module _ (limits : Setting) where
  -- "Four work areas of 32-bit words are lent, each of at least 16,384 words": 1 if one is shorter.
  unfoldable pub areas_long : ℕ → ℕ → ℕ → ℕ → Result (Unit {0})
  areas_long a b c d = do
    _ ← need (leb limits.area_words a) area_short
    _ ← need (leb limits.area_words b) area_short
    _ ← need (leb limits.area_words c) area_short
    need (leb limits.last_area_words d) area_short

  -- "Order: area lengths, text lengths, the rulebook whole".
  unfoldable pub rulebook_judged : ℕ → ℕ → ℕ → ℕ → List ℕ → Result Theory
  rulebook_judged a b c d rulebook = do
    _ ← areas_long a b c d
    _ ← need (leb (length rulebook) limits.rulebook_bytes) text_long
    theory rulebook

  -- "The rulebook whole, the goals whole, the certificate. The first refusal met is given." The store begins empty.
  unfoldable pub release_read : ℕ → ℕ → ℕ → ℕ → List ℕ → List ℕ → List ℕ → Result Release
  release_read a b c d rulebook goals certificate = do
    _ ← areas_long a b c d
    _ ← need (leb (length rulebook) limits.rulebook_bytes) text_long
    _ ← need (leb (length goals) limits.goals_bytes) text_long
    _ ← need (leb (length certificate) limits.certificate_bytes) text_long
    th ← theory rulebook
    (gs, store) ← goals_of limits th goals empty_store
    (last, final) ← certificate_of limits th gs certificate store
    ok record { goals = gs; progress = last; store = final }

  -- "A number, steps, goals, terms, bytes." "Bytes is the certificate's length." L1: "nodes requested, which is every request to the store
  -- that was met, found or made".
  unfoldable pub release_judged : ℕ → ℕ → ℕ → ℕ → List ℕ → List ℕ → List ℕ → Result Report
  release_judged a b c d rulebook goals certificate = do
    r ← release_read a b c d rulebook goals certificate
    ok (report_of (length certificate) r)

-- "Number 0 is accepted; a refusal has zero counts."
unfoldable pub rulebook_answer : Result Theory → RulebookReport
rulebook_answer (refused r) = rulebook_report (number r) 0 0 0 0
rulebook_answer (ok th) =
    rulebook_report 0 (length th.sorts) (constructor_count th.symbols) (predicate_count th.symbols) (length th.rules)

-- "Number 0 is accepted; a refusal has zero counts": the same for the call with three texts.
unfoldable pub release_answer : Result Report → Report
release_answer (refused r) = report (number r) 0 0 0 0 0
release_answer (ok accepted) = accepted

-- The call with the rulebook alone: from the lengths of the four areas and the bytes of the text to the report.
unfoldable pub rulebook_call : Setting → ℕ → ℕ → ℕ → ℕ → List ℕ → RulebookReport
rulebook_call limits a b c d rulebook = rulebook_answer (rulebook_judged limits a b c d rulebook)

-- The call with three texts, in the same way.
unfoldable pub release_call : Setting → ℕ → ℕ → ℕ → ℕ → List ℕ → List ℕ → List ℕ → Report
release_call limits a b c d rulebook goals certificate =
    release_answer (release_judged limits a b c d rulebook goals certificate)

-- "Refusals 1 and 2 leave the areas untouched. Every other answer leaves the first 16,384 words of each area zero and
-- later words untouched": an area after a call, by the call's number and the words that are cleared in it.
unfoldable pub area_after : ℕ → ℕ → List ℕ → List ℕ
area_after words answer area =
    elim (eqb answer 1 || eqb answer 2) [ true ↦ area | false ↦ replicate words 0 ++ drop words area ]

-- A call whole: its report, and what the four areas hold afterwards. The contracts of the code are equations of these.
pub record Called (R : Type 0) : Type 0 where
  pub answer : R
  pub first_after : List ℕ
  pub second_after : List ℕ
  pub third_after : List ℕ
  pub fourth_after : List ℕ

-- A call by its parts.
abbrev pub called : {R : Type 0} → R → List ℕ → List ℕ → List ℕ → List ℕ → Called R
called r a b c d = record { answer = r; first_after = a; second_after = b; third_after = c; fourth_after = d }

-- The call that answers a report of this number and was lent these areas: "Refusals 1 and 2 leave the areas untouched", and "every other
-- answer leaves the first 16,384 words of each area zero", by the limits' own numbers of words.
unfoldable pub leaving : {R : Type 0} → Setting → R → ℕ → List ℕ → List ℕ → List ℕ → List ℕ → Called R
leaving limits r n a b c d =
    called r
    (area_after limits.area_words n a)
    (area_after limits.area_words n b)
    (area_after limits.area_words n c)
    (area_after limits.last_area_words n d)

-- The call with the rulebook alone, from the areas and the text: "its answer and the lent areas afterwards, refusals included".
unfoldable pub rulebook_left : Setting → List ℕ → List ℕ → List ℕ → List ℕ → List ℕ → Called RulebookReport
rulebook_left limits a b c d rulebook =
    let r = rulebook_call limits (length a) (length b) (length c) (length d) rulebook in
    leaving limits r r.number a b c d

-- The call with three texts, from the areas and the texts: "its answer and the lent areas afterwards, refusals included". Document 01's calls
-- are these two at its limits, `document01`.
unfoldable pub release_left : Setting → List ℕ → List ℕ → List ℕ → List ℕ → List ℕ → List ℕ → List ℕ → Called Report
release_left limits a b c d rulebook goals certificate =
    let r = release_call limits (length a) (length b) (length c) (length d) rulebook goals certificate in
    leaving limits r r.number a b c d
