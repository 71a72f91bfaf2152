-- "(result N I)". Assumes nothing.
use Prim.Native.Nat.{ℕ, ◌+◌, ◌<◌}
use mathlib.Core.Path.{◌≡◌, refl, sym, ◌∙◌}
use mathlib.Core.List.{List}
use mathlib.Core.Option.{Option}
use native.Mathlib.Omega.{arith}
use lib.Dec.{eqb}
use lib.ListN.{length, get_elem?}
use Rattle.certificates.specs.Below.horn.specs.Refusals as refusals
use Rattle.certificates.specs.Below.horn.specs.Refusals.{number, ok, unknown, no_such_step, other_judgment}
use Rattle.certificates.specs.Below.horn.specs.Setting.{document01}
use Rattle.certificates.specs.Below.horn.specs.Names.{Name, first}
use Rattle.certificates.specs.Below.horn.specs.Tokens.{Stream, Token}
use Rattle.certificates.specs.Below.horn.specs.NestedLists.{Item, Items, ◌then◌}
use Rattle.certificates.specs.Below.horn.specs.Rulebook.{Theory}
use Rattle.certificates.specs.Below.horn.specs.StoredTerms.{Term, Store}
use Rattle.certificates.specs.Below.horn.specs.Checker as checker
use Rattle.certificates.specs.Below.horn.specs.Checker.{Def, Goal, is_goal, goal_judgment}
use Rattle.certificates.specs.Below.horn.specs.Matching.{Step, judgment_of}
use Rattle.certificates.specs.Below.horn.specs.Certificate as definition
use Rattle.certificates.specs.Below.horn.specs.Certificate.{Progress, Witness, with_result}
use Rattle.certificates.specs.Below.horn.proofs.Equality.{at_below}
use Rattle.certificates.specs.Below.horn.proofs.Inversion.{was_found_lem}
use Rattle.certificates.specs.Below.lex.specs.declared.Reader.{Reader}
use Rattle.certificates.specs.Below.outcomes.specs.Outcomes as outcomes
use Rattle.certificates.specs.Below.outcomes.specs.Leaving.{beside}
use Rattle.certificates.specs.Below.outcomes.specs.Simulation.{Answers, both_refuse, both_ok, Simulates, leave, knowing, knowing_answer, aside}
use Rattle.certificates.specs.Below.numerals.specs.Numbers.{saturated}
use Rattle.certificates.specs.Below.numerals.proofs.Turns.{kept_small}
use Rattle.certificates.specs.Below.items.specs.Places as places
use Rattle.certificates.specs.Below.theory_laws.specs.Representation.{Entries, Holds}
use Rattle.certificates.specs.Below.theory_laws.proofs.Frames.{Keeps}
use Rattle.certificates.specs.Below.theory_reading.proofs.Stored.{Stored, Means, means_same}
use Rattle.certificates.specs.Below.tables.specs.declared.Tally.{Tally}
use Rattle.certificates.specs.Below.tables.specs.Words.{goal_buckets, closed_from, goal_open, goal_closed, goal_done, step_word}
use Rattle.certificates.specs.Below.tables.specs.Representation.{Tables, OpenAt, OpenAgree, none_open, one_open, StepAgree, no_step, one_step}
use Rattle.certificates.specs.Below.tables.proofs.Laws.{open_goal_lem, step_of}
use Rattle.certificates.specs.Below.tables.proofs.Phases.{next_result}
use Rattle.certificates.specs.Below.asking.specs.Asking.{in_form}
use Rattle.steps_laws.specs.Below.asking_laws.proofs.Places.{RestComes, Any, At, at_less}
use Rattle.steps_laws.specs.Below.asking_laws.proofs.Asking.{closing_law}
use Rattle.certificates.specs.Below.nodes.specs.Limits.{index_places, def_buckets}
use Rattle.steps_laws.specs.Below.terms_laws.proofs.Judgments.{lifted}
use Rattle.steps_laws.proofs.Numbers.{number_law}
use Rattle.certificates.specs.Below.forms.specs.Forms as walk
use Rattle.steps_laws.specs.Below.terms_laws.proofs.Following.{tested}
use Rattle.certificates_laws.proofs.Asked.{member_law}
use Rattle.certificates_laws.proofs.Standing.{SoFar, Standing, StepRecorded}

-- What was read of a result, and what was written.
data ResultRead (certificate table : List ℕ) (Means : ℕ → Term → Type 0) (tally : Tally) (goals : List Goal) (now : Progress) (K : Stream Token → Type 0)
    (ts : Store) :
    Tally × Reader → List ℕ → Progress × Store → Type 0 where
  result_read : {e w n i : ℕ} {r : Reader} {key : Name} {g : Goal}
      → OpenAt table (goal_buckets + def_buckets) Means goals key e w g
      → i ≡ n
      → n < closed_from
      → At certificate K 0 r
      → ResultRead certificate table Means tally goals now K ts (goal_done tally, r) (goal_closed e i table) (with_result now key n, ts)

-- What is kept of a number that is small enough.
as_kept : {n i : ℕ} → n ≡ i → n < 4294967295 → saturated i ≡ n
as_kept {n} e l = rw (← e) (sym (kept_small n l))

-- The number of an open goal's judgment.
open_means : {table : List ℕ} {base : ℕ} {Means : ℕ → Term → Type 0} {goals : List Goal} {key : Name} {e w : ℕ} {g : Goal}
    → OpenAt table base Means goals key e w g → Means w (goal_judgment g)
unfolding goal_judgment
open_means a = rw a.is_goal_lem a.means

module _ {goals_text certificate table : List ℕ} {Means : ℕ → Term → Type 0} {Recorded : ℕ → ℕ → ℕ → ℕ → Step → Type 0} {tally : Tally} {goals open_goals : List Goal}
    {defs : List Def} {steps : List Step} {results : List Witness} (h : Tables goals_text certificate table def_buckets Means Recorded tally goals open_goals defs steps results) where
  -- "N not a goal still open, 12".
  open_due : {key name : Name} → key ≡ name
      → Answers (λ x g. OpenAt table (goal_buckets + def_buckets) Means goals name x.0 x.1 g) (outcomes.or_else (goal_open goals_text key table) 12)
      (refusals.found (first (is_goal name) open_goals) unknown)
  unfolding refusals.found number
  open_due {name} e = rw e (by (open_goal_lem h name)) where
    by : {o : Option (ℕ × ℕ)} {o' : Option Goal} → OpenAgree table (goal_buckets + def_buckets) Means goals name o o'
        → Answers (λ x g. OpenAt table (goal_buckets + def_buckets) Means goals name x.0 x.1 g) (outcomes.or_else o 12) (refusals.found o' unknown)
    by none_open = both_refuse refl
    by (one_open a) = both_ok a

  -- "No such step yet, 24".
  step_due : {Says : ℕ → Step → Type 0} {n i : ℕ} → ((j r p q : ℕ) (s : Step) → Recorded j r p q s → Says j s) → n ≡ i
      → Answers Says (outcomes.or_else (step_word n 0 tally table) 24) (refusals.found (get_elem? steps i) no_such_step)
  unfolding refusals.found number
  step_due {Says} {i} f e = rw e (by (step_of h i)) where
    by : {o : Option ℕ} {o' : Option Step} → StepAgree Recorded o o' → Answers Says (outcomes.or_else o 24) (refusals.found o' no_such_step)
    by no_step = both_refuse refl
    by (one_step x) = both_ok (f _ _ _ _ _ x)

  -- The number of a step that is there is far below what a closed goal's value begins with.
  number_small : (i : ℕ) {s : Step} → refusals.found (get_elem? steps i) no_such_step ≡ refusals.ok s → i < closed_from
  number_small i e =
      was_found_lem (get_elem? steps i) no_such_step e λ there.
      let b = at_below steps i there in
      let l = h.step_part.inside in
      let k = h.small in
      omega arith

module _ {rules heap : List ℕ} {es : Entries} {bound : ℕ} {th : Theory} (h : Holds rules heap es bound th)
    (goals_text certificate : List ℕ) {goals : List Goal} {tally : Tally} (now : Progress)
    {ts : Store} {store live table : List ℕ} (stack : List ℕ) (stored : Stored es th document01 index_places store ts) (long : length stack ≡ 16384)
    (keep : Keeps places.bindings heap live) where
  result_reads : (K : Stream Token → Type 0) (is : Items) (r : Reader)
      → Tables goals_text certificate table def_buckets (Means es th ts) (StepRecorded rules heap es bound th certificate ts) tally goals now.open_goals
      now.defs now.steps now.results
      → At certificate (RestComes is K) 0 r
      → Simulates (ResultRead certificate table (Means es th ts) tally goals now K ts) (walk.result_form certificate goals_text tally r table)
      (definition.result_form document01 th now is ts)
  unfolding walk.result_form definition.result_form checker.◌>>=◌ checker.lift checker.give number
  result_reads K is r t at_items =
      lifted ts _ _ (member_law certificate K 0 is at_items) (λ x y m.
      lifted ts _ _ (open_due t m.name) (λ z g a.
      lifted ts _ _ (number_law certificate K 2 y.1 in_form 1 refl m.reader) (λ n v i.
      lifted ts _ _ (knowing_answer (step_due t {Says = λ j s. Means es th ts j (judgment_of s)} (λ j e p q s c. c.means) (sym i.same))) (λ k s b.
      lifted ts _ _ (tested (eqb k z.1) 27 other_judgment (means_same stored h b.0 (open_means a)) refl) (λ c d same.
      lifted ts _ _ (closing_law certificate K 4 v.1 i.reader) (λ q f there.
      let small = number_small t v.0 b.1 in
      leave (result_read a (as_kept i.same (omega arith)) small (at_less 0 (omega arith) there))))))))

  -- From a reader behind the head of the form.
  pub result_law : (item : Item) (rest is : Items) (r : Reader) → SoFar rules heap es bound th goals_text certificate goals ts table tally now (item then rest)
      → definition.certificate_form document01 th now item ts ≡ definition.result_form document01 th now is ts
      → At certificate (RestComes is (RestComes rest Any)) 0 r
      → Simulates (Standing rules heap es bound th goals_text certificate goals rest)
      (beside ((store, stack), live) (walk.result_form certificate goals_text tally r table)) (definition.result_form document01 th now is ts)
  result_law item rest is r so_far same at_items =
      aside ((store, stack), live) (knowing (result_reads (RestComes rest Any) is r so_far.tables at_items)) (λ x left y p. by p.0 p.1) where
        by : {x : Tally × Reader} {left : List ℕ} {y : Progress × Store}
            → ResultRead certificate table (Means es th ts) tally goals now (RestComes rest Any) ts x left y
            → definition.result_form document01 th now is ts ≡ ok y
            → Standing rules heap es bound th goals_text certificate goals rest x (((store, stack), live), left) y
        by (result_read {e} {w} {n} {key} {g} a is small there) f =
            record {
              reader = there;
              between =
                  rw is
                  (next_result goals_text certificate 8192 32768 def_buckets (Means es th ts) (StepRecorded rules heap es bound th certificate ts) document01 th
                  ts so_far key e w n g (same ∙ f) a small);
              stored = stored;
              long = long;
              keeps = keep;
            }
