-- A step of the certificate is the definition's, where the table holds the goals, abbreviations and steps so far. Assumes nothing.
use Rattle.std.specs.Prelude.{None}
use Prim.Native.Nat.{ℕ, suc, ◌+◌, ◌*◌, ◌≤◌, ◌<◌}
use mathlib.Core.Path.{◌≡◌, refl, ap₂, sym, subst, ◌∙◌}
use mathlib.Core.Bool.{Bool, true, false}
use mathlib.Core.List.{List, []}
use mathlib.Core.Option.{none}
use native.Mathlib.Omega.{arith}
use lib.Dec.{eqb}
use lib.ListN.{length}
use Rattle.matching_laws.specs.Below.horn.specs.Refusals as refusals
use Rattle.matching_laws.specs.Below.horn.specs.Refusals.{Refusal, Result, number, step_order, reference_count}
use Rattle.matching_laws.specs.Below.horn.specs.Setting.{document01}
use Rattle.matching_laws.specs.Below.horn.specs.Names.{Name}
use Rattle.matching_laws.specs.Below.horn.specs.Tokens.{Stream, Token}
use Rattle.matching_laws.specs.Below.horn.specs.NestedLists.{Items}
use Rattle.matching_laws.specs.Below.horn.specs.Rulebook.{Rule, Theory, variables_of, premises_of, rule_named}
use Rattle.matching_laws.specs.Below.horn.specs.StoredTerms.{Term, Store}
use Rattle.matching_laws.specs.Below.horn.specs.Checker as definition
use Rattle.matching_laws.specs.Below.horn.specs.Checker.{Goal}
use Rattle.matching_laws.specs.Below.horn.specs.Matching.{Step, step, judgment_of}
use Rattle.matching_laws.specs.Below.horn.specs.Certificate as certificates
use Rattle.matching_laws.specs.Below.horn.specs.Certificate.{Progress, Given, given}
use Rattle.matching_laws.specs.Below.horn.proofs.Equality.{eqb_decides}
use Rattle.matching_laws.specs.Below.horn.proofs.SoundnessWords.{WellFormed}
use Rattle.matching_laws.specs.Below.words.specs.Parts.{part}
use Rattle.steps.specs.Below.lex.specs.Answers.{after}
use Rattle.steps.specs.Below.lex.specs.declared.Reader.{Reader}
use Rattle.steps.specs.Below.lex.proofs.Positions.{never_past}
use Rattle.steps.specs.Below.outcomes.specs.Outcomes as outcomes
use Rattle.steps.specs.Below.outcomes.specs.Outcomes.{Outcome}
use Rattle.steps.specs.Below.outcomes.specs.Leaving as leaving
use Rattle.steps.specs.Below.outcomes.specs.Leaving.{Did, ◌leaving◌, beside}
use Rattle.steps.specs.Below.outcomes.specs.Simulation.{Answers, both_refuse, both_ok, Simulates, refuse, leave, bind, test, giving, knowing}
use Rattle.matching_laws.specs.Below.items.specs.Places as places
use Rattle.terms_laws.specs.Below.theory_laws.specs.Representation.{Entries, RuleAt, Holds}
use Rattle.terms_laws.specs.Below.theory_laws.proofs.Frames.{Keeps, keeps_all, rule_kept, grown_none}
use Rattle.steps.specs.Below.theory_reading.specs.Reading.{rule_found, premise_count}
use Rattle.steps.specs.Below.theory_reading.specs.Storing.{before}
use Rattle.steps.specs.Below.theory_reading.proofs.Held.{rule_due_lem, premise_count_is, variable_count_is, holds_now}
use Rattle.steps.specs.Below.theory_reading.proofs.Stored.{Longer, longer_none, longer_then, Stored, Means, means_longer}
use Rattle.matching_laws.specs.Below.tables.specs.declared.Tally.{Tally}
use Rattle.matching_laws.specs.Below.tables.specs.Representation.{Tables}
use Rattle.matching_laws.specs.Below.tables.proofs.Laws.{means_more}
use Rattle.matching_laws.specs.Below.asking.specs.Asking.{in_form}
use Rattle.terms_laws.specs.Below.asking_laws.proofs.Places.{RestComes, rest_more, Any, At, at_less}
use Rattle.terms_laws.specs.Below.asking_laws.proofs.Asking.{WordMet, word_met, word_law, GroupMet, group_met, group_law}
use Rattle.matching_laws.specs.Below.nodes.specs.Limits.{node_limit, word_limit, index_places, def_buckets}
use Rattle.matching_laws.specs.Below.concluding.specs.Concluding.{unbound, step_concluded}
use Rattle.matching_laws.proofs.Relations.{ReferencesAt, no_references, not_bound}
use Rattle.matching_laws.proofs.References.{references_kept}
use Rattle.matching_laws.proofs.Bindings.{binds_none, keeps_unbound}
use Rattle.matching_laws.proofs.Formed.{RuleReady}
use Rattle.matching_laws.proofs.Starting.{named_ready}
use Rattle.matching_laws.proofs.Whole.{step_judged}
use Rattle.terms_laws.proofs.Following.{tested, first_of_lem}
use Rattle.steps.specs.Below.references.specs.References as referring
use Rattle.steps.specs.Below.step_items.specs.StepItems as stating
use Rattle.steps.specs.Steps as walk
use Rattle.steps.specs.Below.step_bindings.specs.StepBindings.{Worked}
use Rattle.steps_laws.proofs.Numbers.{number_law}
use Rattle.steps_laws.proofs.References.{ReferencesRead, references_from_lem}
use Rattle.steps_laws.proofs.Items.{ItemRead, item_read, items_from_lem}

-- The list of references is read again from a place, in a text that is tested there up to `tested`: a reader that holds nothing stands before
-- them, and the definition reads them.
pub record ReferencesListed (text : List ℕ) (place tested : ℕ) (refs : List ℕ) : Type 0 where
  pub items : Items
  pub reader : At text (RestComes items Any) 1 (after place tested None)
  pub reads : certificates.references items ≡ refusals.ok refs

-- A step was read: its judgment's number, its rule's address, the place of its references and up to where the text is tested there, and the
-- reader behind its closing; the definition has one step more.
pub record StepRead (rules heap : List ℕ) (es : Entries) (bound : ℕ) (th : Theory) (certificate : List ℕ) (ts : Store) (now : Progress)
    (K : Stream Token → Type 0)
    (x : ℕ × ℕ × ℕ × ℕ × Reader) (areas : Worked) (y : Progress × Store) : Type 0 where
  pub judgment : Term
  pub rule : Rule
  pub references : List ℕ
  pub progress : y.0 ≡ certificates.with_step now (step judgment rule references)
  pub means : Means es th y.1 x.0 judgment
  pub by_rule : RuleAt rules heap es bound x.1 rule
  pub listed : ReferencesListed certificate x.2 x.3 references
  pub small : x.2 < 4294967296
  pub small_tested : x.3 < 4294967296
  pub reader : At certificate K 0 x.4
  pub stored : Stored es th document01 index_places areas.0.0 y.1
  pub grown : Longer ts y.1
  pub long : length areas.0.1 ≡ 16384
  pub keeps : Keeps places.bindings heap areas.1

-- What was asked for, by its parts.
module _ {text : List ℕ} {K : Stream Token → Type 0} {n : ℕ} where
  word_is : {x : ℕ × ℕ × Reader} {y : Name × Items} → WordMet text K n x y → part x.0 x.1 text ≡ y.0
  word_is (word_met p l u a) = p

  word_at : {x : ℕ × ℕ × Reader} {y : Name × Items} → WordMet text K n x y → At text (RestComes y.1 K) (n + 2) x.2
  word_at (word_met p l u a) = a

  group_at : {q : Reader} {y : Items × Items} → GroupMet text K n q y → At text (RestComes y.0 (RestComes y.1 K)) n q
  group_at (group_met a bare) = a

  -- The list of references can be read again.
  listed_at : {q : Reader} {y : Items × Items} {refs : List ℕ} → GroupMet text K (suc n) q y → certificates.references y.0 ≡ refusals.ok refs
      → ReferencesListed text q.at q.end refs
  listed_at {q} (group_met {inner} {rest} a bare) e =
      record {
        items = inner;
        reader =
            subst (λ x. At text (RestComes inner Any) 1 (after q.at q.end x)) bare
            (at_less 1 (omega arith)
            record { coming = a.coming; stands = a.stands; here = rest_more inner (λ _ _. tt) a.coming a.here; light = a.light });
        reads = e;
      }

-- What is read and tested without the other areas, and what follows.
counted : {S P U A C D E : Type 0} {Q : A → S → C → Type 0} {R : E → (P × S) × U → D → Type 0} {m : Did S A} (p : P) (u : U) (m' : Result C) (c : C → Bool)
    (r : Refusal) (ts : Store)
    (f : A × ((P × S) × U) → Did ((P × S) × U) E) (g : C → Store → Result D)
    → Simulates Q m (refusals.◌>>=◌ m' (λ a. refusals.◌>>=◌ (refusals.need (c a) r) (λ _. refusals.ok a)))
    → ((x : A) (s : S) (y : C) → Q x s y → Simulates R (f (x, ((p, s), u))) (g y ts))
    → Simulates R (leaving.◌>>=◌ (before u (beside p m)) f)
    (refusals.◌>>=◌ {A = C × Store} (refusals.◌>>=◌ m' (λ a. refusals.ok (a, ts)))
    (λ q. refusals.◌>>=◌ {A = Unit {0} × Store} (refusals.◌>>=◌ (refusals.need (c q.0) r) (λ b. refusals.ok (b, q.1))) (λ v. g q.0 v.1)))
unfolding refusals.◌>>=◌ refusals.need
counted p u (refusals.refused x) c r ts f g (refuse e) k = refuse e
counted {S} {A} {Q} {R} p u (refusals.ok a) c r ts f g s k = by (c a) s where
  by : {d : Did S A} (b : Bool) → Simulates Q d (refusals.◌>>=◌ (refusals.need b r) (λ _. refusals.ok a))
      → Simulates R (leaving.◌>>=◌ (before u (beside p d)) f)
      (refusals.◌>>=◌ {A = Unit {0} × Store} (refusals.◌>>=◌ (refusals.need b r) (λ b. refusals.ok (b, ts))) (λ v. g a v.1))
  by true (leave q) = k _ _ _ q
  by false (refuse e) = refuse e

module _ {rules heap : List ℕ} {es : Entries} {bound : ℕ} {th : Theory} (h : Holds rules heap es bound th) (high : bound ≤ places.theory_end)
    (w : WellFormed th) (goals_text certificate : List ℕ) (short : length certificate ≤ 32768)
    {table : List ℕ} {tally : Tally} {goals : List Goal} {ts : Store} (now : Progress)
    (Recorded : ℕ → ℕ → ℕ → ℕ → Step → Type 0) (judged : (j r p q : ℕ) (s : Step) → Recorded j r p q s → Means es th ts j (judgment_of s))
    (t : Tables goals_text certificate table def_buckets (Means es th ts) Recorded tally goals now.open_goals now.defs now.steps now.results)
    (K : Stream Token → Type 0) where
  -- "List of references, each 18; their count 20".
  counted_law : {live : List ℕ} → Holds rules live es bound th → {e : ℕ} {c : Rule} → RuleAt rules live es bound e c
      → (L : Stream Token → Type 0) (is : Items) (spent : ℕ) (r : Reader) (stack : List ℕ)
      → length stack ≡ 16384 → 1 ≤ spent → At certificate (RestComes is L) spent r
      → Simulates
      (λ x left y. ReferencesRead certificate L spent [] x left y × (length y ≡ length (premises_of c)) × (certificates.references is ≡ refusals.ok y))
      (referring.counted_references certificate live e r stack)
      (refusals.◌>>=◌ (certificates.references is) (λ refs. refusals.◌>>=◌ (refusals.need (eqb (length refs) (length (premises_of c))) reference_count)
      (λ _. refusals.ok refs)))
  unfolding referring.counted_references referring.references number
  counted_law {live} hn {e} {c} a L is spent r stack long some there =
      bind _ _
      (knowing (references_from_lem certificate short L (length certificate + 1) is 0 spent [] r stack refl (omega arith) (omega arith) long no_references there))
      (λ x left y (k, read).
      test (eqb x.0 (premise_count live e)) 20 reference_count _ _ (ap₂ eqb k.count (premise_count_is hn a)) refl
      (λ yes. leave (k, eqb_decides.equal (length y) (length (premises_of c)) yes, read)))

  abbrev ReadStep : ℕ × ℕ × ℕ × ℕ × Reader → Worked → Progress × Store → Type 0
  ReadStep x areas y = StepRead rules heap es bound th certificate ts now K x areas y

  -- "Items; matching": the rule and the references are known.
  module _ {e : ℕ} {rule : Rule} (by_rule : RuleAt rules heap es bound e rule) (ready : RuleReady rule) {refs held : List ℕ}
      (at_refs : ReferencesAt held 0 refs)
      (count : length refs ≡ length (premises_of rule)) (long : length held ≡ 16384) (n place tested : ℕ) (all_held : length refs ≤ n)
      (small : place < 4294967296) (small_tested : tested < 4294967296) (listed : ReferencesListed certificate place tested refs) where
    concluded : (x : ℕ × Reader) (areas : Worked) (y : Given × Store) → ItemRead es th heap (variables_of rule) ts n held (At certificate K 0) x areas y
        → Simulates (λ (p : ℕ × Reader) after z. ReadStep (p.0, e, place, tested, p.1) after z)
        (leaving.◌>>=◌ (step_concluded node_limit word_limit index_places table tally.steps e x.0 areas.0.1 areas.0.0 areas.1)
        (λ p. outcomes.ok (p.0, x.1) leaving p.1))
        (refusals.◌>>=◌ {A = Term × Store} (certificates.conclude document01 th now.steps rule refs y.0 y.1)
        (λ p. refusals.ok (certificates.with_step now (step p.0 rule refs), p.1)))
    concluded x areas y (item_read {q} {ts = us} there g) =
        bind _ _
        (step_judged h high (means_more t (Means es th us) Recorded (λ v u m. means_longer g.grown m) (λ j r p q s m. m))
        (λ j r p q s m. means_longer g.grown (judged j r p q s m))
        g.stored (g.kept.same_length ∙ long) by_rule ready (references_kept g.kept (omega arith) at_refs) count g.keep g.bindings g.conclusion)
        (λ j after z k.
        leave record {
          judgment = z.0;
          rule = rule;
          references = refs;
          progress = refl;
          means = k.means;
          by_rule = by_rule;
          listed = listed;
          small = small;
          small_tested = small_tested;
          reader = there;
          stored = k.holds;
          grown = longer_then g.grown k.grown;
          long = k.long;
          keeps = k.keeps;
        })

    judged_law : (is : Items) (spent : ℕ) (r : Reader) (store live : List ℕ) → 2 * n ≤ spent → 1 ≤ spent → Stored es th document01 index_places store ts
        → Keeps places.bindings heap live
        → RuleAt rules live es bound e rule → At certificate (RestComes is K) spent r
        → Simulates (λ (p : ℕ × Reader) after z. ReadStep (p.0, e, place, tested, p.1) after z)
        (walk.items_judged certificate rules table tally.steps e n r store held live)
        (refusals.◌>>=◌ {A = Given × Store} (certificates.step_items document01 th now.defs rule is (given [] none) ts)
        (λ g. refusals.◌>>=◌ {A = Term × Store} (certificates.conclude document01 th now.steps rule refs g.0 g.1)
        (λ p. refusals.ok (certificates.with_step now (step p.0 rule refs), p.1))))
    unfolding walk.items_judged stating.items
    judged_law is spent r store live room some st keep live_rule there =
        rw (variable_count_is (holds_now h high keep) live_rule)
        (bind _ _
        (items_from_lem h high certificate short table now.defs ts t.def_part by_rule ready.distinct n held long K
        (length certificate + 1) is 0 spent r store held
        (unbound (length (variables_of rule)) live) ts [] none room (omega arith)
        record {
          stored = st;
          grown = longer_none;
          kept = keeps_all;
          keep = keeps_unbound (length (variables_of rule)) live keep;
          bindings = binds_none live;
          conclusion = not_bound refl;
        }
        there)
        concluded)

  -- "`(step I R (I...) item...)`", behind its head.
  module _ (is : Items) (r : Reader) {store live : List ℕ} (stack : List ℕ) (stored : Stored es th document01 index_places store ts)
      (long : length stack ≡ 16384) (keep : Keeps places.bindings heap live)
      (at_items : At certificate (RestComes is K) 0 r) where
    -- The rule's words are where they were.
    rule_back : {e : ℕ} {c : Rule} → RuleAt rules live es bound e c → RuleAt rules heap es bound e c
    rule_back a = rule_kept grown_none (λ i p q. sym (keep.words i (omega arith))) (omega arith) a

    rule_named_lem : (key : List ℕ) {name : Name} → key ≡ name
        → Answers (λ e c. RuleAt rules live es bound e c × RuleReady c) (outcomes.or_else (rule_found live rules key) 12) (rule_named th name)
    rule_named_lem key {name} n = rw n (by (rule_due_lem (holds_now h high keep) name) (λ c e. named_ready w name e)) where
      by : {o : Outcome ℕ} {m : Result Rule} → Answers (RuleAt rules live es bound) o m → ((c : Rule) → m ≡ refusals.ok c → RuleReady c)
          → Answers (λ e c. RuleAt rules live es bound e c × RuleReady c) o m
      by (both_refuse e) f = both_refuse e
      by (both_ok a) f = both_ok (a, f _ refl)

    pub step_law : Simulates (StepRead rules heap es bound th certificate ts now K) (walk.step certificate rules table tally.steps r store stack live)
        (certificates.step_form document01 th now is ts)
    unfolding walk.step referring.rule_due certificates.step_form definition.◌>>=◌ definition.lift definition.give number
    step_law =
        first_of_lem ((store, stack), live) ts _ _ _ (number_law certificate K 0 is in_form 1 refl at_items)
        (λ x y m.
        first_of_lem ((store, stack), live) ts _ _ _ (tested (eqb x.0 tally.steps) 19 step_order (ap₂ eqb (sym m.same) t.steps_is) refl)
        (λ _ _ _.
        first_of_lem ((store, stack), live) ts _ _ _ (word_law certificate K 2 y.1 in_form 1 refl m.reader)
        (λ a b n.
        first_of_lem ((store, stack), live) ts _ _ _ (rule_named_lem (part a.0 a.1 certificate) (word_is n))
        (λ e c k.
        first_of_lem ((store, stack), live) ts _ _ _ (group_law certificate K 4 b.1 in_form 1 refl (word_at n))
        (λ q g l.
        let p = never_past certificate q (group_at l).coming (group_at l).stands in
        let t = (group_at l).stands.inside in
        counted store live (certificates.references g.0) _ reference_count ts _ _
        (counted_law (holds_now h high keep) k.0 (RestComes g.1 K) g.0 4 q stack long (omega arith) (group_at l))
        (λ x left refs z.
        let z₀ = z.0 in
        let u = z₀.count in
        giving (λ p. (p.0, e, q.at, q.end, p.1))
        (judged_law (rule_back k.0) k.1 z₀.refs z.1 z₀.long x.0 q.at q.end (omega arith) (omega arith) (omega arith)
        (listed_at l z.2) g.1 (4 + 2 * length refs)
        x.1 store live (omega arith) (omega arith) stored keep
        k.0 z₀.reader)
        (λ _ _ _ m. m)))))))
