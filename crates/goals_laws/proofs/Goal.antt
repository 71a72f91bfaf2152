-- One goal: "(goal N J)". Assumes nothing.
use Prim.Native.Nat.{ℕ, ◌≤◌, ◌<◌}
use mathlib.Core.Path.{◌≡◌, refl, ap, sym, ◌∙◌}
use mathlib.Core.Bool.{false, not}
use mathlib.Core.List.{List, [], ◌∷◌, ◌++◌}
use native.Mathlib.Omega.{arith}
use lib.ListN.{length}
use Rattle.goals.specs.Below.horn.specs.Refusals as refusals
use Rattle.goals.specs.Below.horn.specs.Refusals.{number, duplicate, form, variable_name}
use Rattle.goals.specs.Below.horn.specs.Setting.{document01}
use Rattle.goals.specs.Below.horn.specs.Names.{codes, some_of}
use Rattle.goals.specs.Below.horn.specs.Tokens.{Stream, Token}
use Rattle.goals.specs.Below.horn.specs.NestedLists.{Items, group, ◌then◌}
use Rattle.goals.specs.Below.horn.specs.Rulebook.{Theory}
use Rattle.goals.specs.Below.horn.specs.StoredTerms.{Term, Store}
use Rattle.goals.specs.Below.horn.specs.Checker as definition
use Rattle.goals.specs.Below.horn.specs.Checker.{Goal, is_goal}
use Rattle.goals.specs.Below.horn.specs.Matching.{Step}
use Rattle.goals.specs.Below.words.specs.Parts.{part}
use Rattle.goals.specs.Below.lex.specs.declared.Reader.{Reader}
use Rattle.goals.specs.Below.outcomes.specs.Simulation.{Simulates, leave, knowing, weaker}
use Rattle.terms_laws.specs.Below.theory_laws.specs.Representation.{Entries, Holds}
use Rattle.goals.specs.Below.facts.proofs.Comparing.{same_named}
use Rattle.terms_laws.specs.Below.theory_laws.proofs.Lookups.{part-question}
use Rattle.goals.specs.Below.theory_reading.proofs.Stored.{Longer, Stored, Means, means_longer, few_terms}
use Rattle.goals.specs.Below.tables.specs.declared.Tally.{Tally}
use Rattle.goals.specs.Below.tables.specs.Words.{goal_added, goal_counted}
use Rattle.goals.specs.Below.tables.specs.Phases.{Gathering}
use Rattle.goals.specs.Below.tables.proofs.Laws.{known_goal}
use Rattle.goals.specs.Below.tables.proofs.Phases.{gathering_more, next_goal}
use Rattle.goals.specs.Below.asking.specs.Asking.{in_form}
use Rattle.terms_laws.specs.Below.asking_laws.proofs.Places.{RestComes, At, at_less}
use Rattle.terms_laws.specs.Below.asking_laws.proofs.Asking.{closing_law}
use Rattle.goals.specs.Below.nodes.specs.Limits.{index_places, def_buckets}
use borrow.Author.Tests.{not-true}
use Rattle.terms_laws.proofs.Judgments.{lifted, AskedRead}
use Rattle.terms_laws.proofs.Whole.{goal_judgment_lem}
use Rattle.goals.specs.Goals as walk
use Rattle.goals.specs.Goals.{Gathered}
use Rattle.terms_laws.proofs.Following.{tested, bind_before, first_of_lem}
use Rattle.goals_laws.proofs.Following.{word_first_lem}

-- A goal was read: the reader stands behind it, the store and the table hold what the definition has, the stack is as long as before.
pub record GoalRead (es : Entries) (th : Theory) (goals_text certificate : List ℕ) (Recorded : Store → ℕ → ℕ → ℕ → ℕ → Step → Type 0)
    (K : Stream Token → Type 0) (rest : Items) (ts : Store) (x : Tally × Reader) (left : Gathered) (y : List Goal × Store) : Type 0 where
  pub reader : At goals_text K 0 x.1
  pub stored : Stored es th document01 index_places left.0.0 y.1
  pub grown : Longer ts y.1
  pub long : length left.0.1 ≡ 16384
  pub gathering : Gathering goals_text certificate 8192 32768 def_buckets (Means es th y.1) (Recorded y.1) left.1 x.0 y.0 rest

-- The same before it is known that the definition accepts the form: what was added, by its name's bounds and its judgment's number.
record GoalMet (es : Entries) (th : Theory) (goals_text : List ℕ) (K : Stream Token → Type 0) (ts : Store) (goals : List Goal) (tally : Tally)
    (table : List ℕ)
    (x : Tally × Reader) (left : Gathered) (y : List Goal × Store) : Type 0 where
  pub reader : At goals_text K 0 x.1
  pub stored : Stored es th document01 index_places left.0.0 y.1
  pub grown : Longer ts y.1
  pub long : length left.0.1 ≡ 16384
  pub s : ℕ
  pub t : ℕ
  pub w : ℕ
  pub j : Term
  pub before : s < t
  pub inside : t ≤ length goals_text
  pub means : Means es th y.1 w j
  pub fresh : some_of (is_goal (part s t goals_text)) goals ≡ false
  pub counted : x.0 ≡ goal_counted tally
  pub entered : left.1 ≡ goal_added goals_text s t w tally table
  pub one_more : y.0 ≡ goals ++ (definition.goal (part s t goals_text) j ∷ [])

module _ {rules heap : List ℕ} {es : Entries} {bound : ℕ} {th : Theory} (h : Holds rules heap es bound th) (goals_text certificate : List ℕ)
    (Recorded : Store → ℕ → ℕ → ℕ → ℕ → Step → Type 0)
    (survives : (ts us : Store) (j r p q : ℕ) (s : Step) → Longer ts us → Recorded ts j r p q s → Recorded us j r p q s)
    (short : length goals_text ≤ 8192)
    {ts : Store} {goals : List Goal} {tally : Tally} {table : List ℕ} (store stack : List ℕ) {inner rest : Items}
    (g : Gathering goals_text certificate 8192 32768 def_buckets (Means es th ts) (Recorded ts) table tally goals (group inner then rest))
    (stored : Stored es th document01 index_places store ts) (long : length stack ≡ 16384) (K : Stream Token → Type 0) {r : Reader}
    (there : At goals_text (RestComes inner K) 0 r) where
  goal_met : Simulates (GoalMet es th goals_text K ts goals tally table) (walk.goal goals_text rules heap tally r store stack table)
      (definition.goal_form document01 th goals (group inner) ts)
  unfolding AskedRead walk.goal walk.goal_name definition.goal_form definition.◌>>=◌ definition.lift definition.give definition.group_due refusals.◌>>=◌ number
      codes
  goal_met =
      word_first_lem _ ts _ goals_text K 0 inner in_form 1 _ _ refl there (λ a b q is l u at_name.
      first_of_lem _ ts _ _ _ (tested _ 9 form (same_named (part a b goals_text) walk.goal_word) refl) (λ x y e.
      word_first_lem _ ts _ goals_text K 2 is in_form 1 _ _ refl at_name (λ s t p js before inside at_judgment.
      first_of_lem _ ts _ _ _ (tested _ 11 variable_name (ap not (sym (part-question s t goals_text before inside))) refl) (λ x y e.
      bind_before table _ _ (goal_judgment_lem h in_form 1 0 4 refl js K p store stack stored (omega arith) long g.tables (omega arith) at_judgment)
      (λ v areas z m.
      lifted z.1 _ _ (closing_law goals_text K 6 z.0.1 m.reader) (λ o x behind.
      lifted z.1 _ _ (tested _ 13 duplicate (ap not (known_goal g.tables (part s t goals_text))) refl) (λ x y e.
      leave record {
        reader = at_less 0 (omega arith) behind;
        stored = m.stored;
        grown = m.grown;
        long = m.keeps.same_length ∙ long;
        s = s;
        t = t;
        w = v.0;
        j = z.0.0;
        before = before;
        inside = inside;
        means = m.means;
        fresh = not-true _ e;
        counted = refl;
        entered = refl;
        one_more = refl;
      })))))))

  pub goal_law : Simulates (GoalRead es th goals_text certificate Recorded K rest ts) (walk.goal goals_text rules heap tally r store stack table)
      (definition.goal_form document01 th goals (group inner) ts)
  unfolding document01
  goal_law = weaker (knowing goal_met) (λ x left y k.
      let m = k.0 in
      let z = m.inside in
      let l = m.before in
      let n = few_terms m.stored in
      let b = m.means.below in
      record {
        reader = m.reader;
        stored = m.stored;
        grown = m.grown;
        long = m.long;
        gathering = rw (m.counted, m.entered, m.one_more)
            (next_goal goals_text certificate 8192 32768 def_buckets (Means es th y.1) (Recorded y.1) document01 th ts m.s m.t m.w m.j
            (gathering_more (Means es th y.1) (Recorded y.1) (λ w t d. means_longer m.grown d)
            (λ j r p q s d. survives ts y.1 j r p q s m.grown d) g)
            (k.1 ∙ ap (λ (gs : List Goal). refusals.ok (gs, y.1)) m.one_more)
            (omega arith) (omega arith) (omega arith) m.means m.fresh);
      })
