-- "(def ?a T)". Assumes nothing.
use Prim.Native.Nat.{ℕ, ◌≤◌, ◌<◌}
use mathlib.Core.Path.{◌≡◌, refl, ap, ◌∙◌}
use mathlib.Core.Bool.{false, not, ◌&&◌}
use mathlib.Core.List.{List}
use native.Mathlib.Omega.{arith}
use lib.ListN.{length}
use Rattle.certificates.specs.Below.horn.specs.Refusals.{Result, number, variable_name, duplicate, ok}
use Rattle.certificates.specs.Below.horn.specs.Setting.{document01}
use Rattle.certificates.specs.Below.horn.specs.Names.{Name, questioned, bare, some_of}
use Rattle.certificates.specs.Below.horn.specs.Tokens.{Stream, Token}
use Rattle.certificates.specs.Below.horn.specs.NestedLists.{Item, Items, ◌then◌}
use Rattle.certificates.specs.Below.horn.specs.Rulebook.{Theory}
use Rattle.certificates.specs.Below.horn.specs.StoredTerms.{Term, Store}
use Rattle.certificates.specs.Below.horn.specs.Checker as checker
use Rattle.certificates.specs.Below.horn.specs.Checker.{Goal, Def, def, is_def, ask_word}
use Rattle.certificates.specs.Below.horn.specs.Matching.{Step}
use Rattle.certificates.specs.Below.horn.specs.Certificate as definition
use Rattle.certificates.specs.Below.horn.specs.Certificate.{Progress, Witness, with_def}
use borrow.Author.Tests.{not-true}
use Rattle.certificates.specs.Below.words.specs.Parts.{part}
use Rattle.certificates.specs.Below.lex.specs.declared.Reader.{Reader}
use Rattle.certificates.specs.Below.names.specs.Tables.{present}
use Rattle.certificates.specs.Below.outcomes.specs.Leaving.{Did}
use Rattle.certificates.specs.Below.outcomes.specs.Simulation.{Simulates, refuse, leave, knowing}
use Rattle.certificates.specs.Below.items.specs.Places as places
use Rattle.certificates.specs.Below.theory_laws.specs.Representation.{Entries, Holds}
use Rattle.certificates.specs.Below.theory_laws.proofs.Frames.{Keeps}
use Rattle.certificates.specs.Below.theory_reading.specs.Storing.{Areas}
use Rattle.certificates.specs.Below.theory_reading.proofs.Held.{holds_now}
use Rattle.certificates.specs.Below.theory_reading.proofs.Stored.{Longer, Stored, Means}
use Rattle.certificates.specs.Below.tables.specs.declared.Tally.{Tally}
use Rattle.certificates.specs.Below.tables.specs.Words.{def_found, def_added, def_counted}
use Rattle.certificates.specs.Below.tables.specs.Representation.{Tables}
use Rattle.certificates.specs.Below.tables.proofs.Laws.{known_def}
use Rattle.certificates.specs.Below.tables.proofs.Phases.{next_def}
use Rattle.certificates.specs.Below.asking.specs.Asking.{in_form}
use Rattle.steps_laws.specs.Below.asking_laws.proofs.Places.{RestComes, Any, At, at_less}
use Rattle.steps_laws.specs.Below.asking_laws.proofs.Asking.{closing_law}
use Rattle.certificates.specs.Below.nodes.specs.Limits.{index_places, def_buckets}
use Rattle.steps_laws.specs.Below.terms_laws.proofs.Judgments.{lifted, AskedRead}
use Rattle.steps_laws.specs.Below.terms_laws.proofs.Whole.{certificate-term}
use Rattle.certificates.specs.Below.forms.specs.Forms as walk
use Rattle.certificates.specs.Certificates.{AllAreas, around}
use Rattle.steps_laws.specs.Below.terms_laws.proofs.Following.{tested, bind_before}
use Rattle.certificates_laws.proofs.Asked.{lifted_tested, def_named_lem}
use Rattle.certificates_laws.proofs.Standing.{SoFar, Standing, StepRecorded, between_longer}

-- What was read of an abbreviation, and where it was written.
data DefRead (es : Entries) (th : Theory) (certificate table : List ℕ) (tally : Tally) (now : Progress) (K : Stream Token → Type 0) (ts : Store) :
    Tally × Reader → Areas × List ℕ → Progress × Store → Type 0 where
  def_read : {s t k : ℕ} {r : Reader} {store stack : List ℕ} {u : Term} {us : Store}
      → s < 4294967296
      → t < 4294967296
      → Means es th us k u
      → some_of (is_def (part s t certificate)) now.defs ≡ false
      → At certificate K 0 r
      → Stored es th document01 index_places store us
      → Longer ts us
      → length stack ≡ 16384
      → DefRead es th certificate table tally now K ts (def_counted tally, r) ((store, stack), def_added def_buckets certificate s t k tally table)
      (with_def now (def (part s t certificate) u), us)

-- "Duplicate 13".
def_present : {goals_text certificate table : List ℕ} {Means : ℕ → Term → Type 0} {Recorded : ℕ → ℕ → ℕ → ℕ → Step → Type 0} {tally : Tally}
    {goals open_goals : List Goal} {defs : List Def} {steps : List Step} {results : List Witness} {key name : Name}
    → Tables goals_text certificate table def_buckets Means Recorded tally goals open_goals defs steps results → key ≡ name
    → present (def_found def_buckets certificate key table) ≡ some_of (is_def name) defs
def_present {name} t e = rw e (known_def t name)

-- What leaves the store, the stack and the table, beside the theory's area.
beside_live : {A B : Type 0} {Q : A → Areas × List ℕ → B → Type 0} {R : A → AllAreas → B → Type 0} {m : Did (Areas × List ℕ) A} {m' : Result B}
    (live : List ℕ)
    → Simulates Q m m'
    → ((a : A) (areas : Areas × List ℕ) (b : B) → Q a areas b → R a ((areas.0, live), areas.1) b)
    → Simulates R (around live m) m'
beside_live live (refuse e) k = refuse e
beside_live live (leave q) k = leave (k _ _ _ q)

module _ {rules heap : List ℕ} {es : Entries} {bound : ℕ} {th : Theory} (h : Holds rules heap es bound th) (high : bound ≤ places.theory_end)
    (goals_text certificate : List ℕ) (short : length certificate ≤ 32768) {goals : List Goal} {tally : Tally} (now : Progress)
    {ts : Store} {store live table : List ℕ} (stack : List ℕ) (stored : Stored es th document01 index_places store ts) (long : length stack ≡ 16384)
    (keep : Keeps places.bindings heap live) where
  -- The form is read whole before the table is written.
  def_reads : {Recorded : ℕ → ℕ → ℕ → ℕ → Step → Type 0} (K : Stream Token → Type 0) (is : Items) (r : Reader)
      → Tables goals_text certificate table def_buckets (Means es th ts) Recorded tally goals now.open_goals now.defs now.steps now.results
      → At certificate (RestComes is K) 0 r
      → Simulates (DefRead es th certificate table tally now K ts) (walk.def_form certificate rules live tally r store stack table)
      (definition.def_form document01 th now is ts)
  unfolding walk.def_form definition.def_form checker.◌>>=◌ checker.lift checker.give AskedRead number
  def_reads K is r t at_items =
      lifted_tested ts (ask_word 1 is) (λ y. questioned y.0 && not (bare y.0)) variable_name _ _ (def_named_lem certificate K 0 is at_items) (λ x y m.
      bind_before table _ _ (certificate-term (holds_now h high keep) in_form 1 0 2 refl y.1 K x.2 store stack stored (omega arith) long t short
      m.reader)
      (λ z areas v k.
      lifted v.1 _ _
      (tested (not (present (def_found def_buckets certificate (part x.0 x.1 certificate) table))) 13 duplicate (ap not (def_present t m.name)) refl)
      (λ a b fresh.
      lifted v.1 _ _ (closing_law certificate K 4 v.0.1 k.reader) (λ q c there.
      rw (← m.name)
      (leave (def_read {s = x.0} {t = x.1} {k = z.0} {u = v.0.0} (let i = m.some in let j = m.inside in omega arith) (let j = m.inside in omega arith)
      k.means (rw m.name (not-true _ fresh)) (at_less 0 (omega arith) there)
      k.stored k.grown (k.keeps.same_length ∙ long)))))))

  -- From a reader behind the head of the form.
  pub def_law : (item : Item) (rest is : Items) (r : Reader) → SoFar rules heap es bound th goals_text certificate goals ts table tally now (item then rest)
      → definition.certificate_form document01 th now item ts ≡ definition.def_form document01 th now is ts
      → At certificate (RestComes is (RestComes rest Any)) 0 r
      → Simulates (Standing rules heap es bound th goals_text certificate goals rest)
      (around live (walk.def_form certificate rules live tally r store stack table)) (definition.def_form document01 th now is ts)
  def_law item rest is r so_far same at_items =
      beside_live live (knowing (def_reads (RestComes rest Any) is r so_far.tables at_items)) (λ x areas y p. by p.0 p.1) where
        by : {x : Tally × Reader} {areas : Areas × List ℕ} {y : Progress × Store}
            → DefRead es th certificate table tally now (RestComes rest Any) ts x areas y
            → definition.def_form document01 th now is ts ≡ ok y
            → Standing rules heap es bound th goals_text certificate goals rest x ((areas.0, live), areas.1) y
        by (def_read {s} {t} {k} {u} {us} a b m fresh there st g l) e =
            record {
              reader = there;
              between =
                  next_def goals_text certificate 8192 32768 def_buckets (Means es th us) (StepRecorded rules heap es bound th certificate us) document01 th ts
                  (between_longer g so_far) s t k u (same ∙ e) a b m fresh;
              stored = st;
              long = l;
              keeps = keep;
            }
