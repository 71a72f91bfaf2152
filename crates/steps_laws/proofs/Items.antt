-- One item of a step: a binding, or a stated conclusion. Assumes nothing.
use Prim.Native.Nat.{ℕ, zero, suc, ◌+◌, ◌*◌, ◌≤◌}
use mathlib.Core.Path.{◌≡◌, refl, ap, ap₂, sym, ◌∙◌}
use mathlib.Core.Bool.{true, false, not, ◌&&◌, true≢false}
use mathlib.Core.List.{List, [], ◌∷◌, ◌++◌}
use mathlib.Core.Option.{Option, none, some}
use native.Mathlib.Omega.{arith}
use borrow.Author.Tests.{eq-eqb, ne_eqb}
use lib.Dec.{eqb}
use lib.ListN.{length, set}
use Rattle.matching_laws.specs.Below.horn.specs.Refusals as refusals
use Rattle.matching_laws.specs.Below.horn.specs.Refusals.{Result, number, text_ends, bad_binding, second_conclusion}
use Rattle.matching_laws.specs.Below.horn.specs.Setting.{document01}
use Rattle.matching_laws.specs.Below.horn.specs.Names.{Name, questioned}
use Rattle.matching_laws.specs.Below.horn.specs.Tokens.{Stream, Token}
use Rattle.matching_laws.specs.Below.horn.specs.NestedLists.{Item, Items, closed, ended, bad_line, ◌then◌, absent}
use Rattle.matching_laws.specs.Below.horn.specs.Rulebook as rulebook
use Rattle.matching_laws.specs.Below.horn.specs.Rulebook.{Variable, Rule, Theory, variables_of}
use Rattle.matching_laws.specs.Below.horn.specs.StoredTerms.{Term, Store}
use Rattle.matching_laws.specs.Below.horn.specs.Checker as definition
use Rattle.matching_laws.specs.Below.horn.specs.Checker.{Def, has_sort}
use Rattle.matching_laws.specs.Below.horn.specs.Matching.{Bind, bind, lookup}
use Rattle.matching_laws.specs.Below.horn.specs.Certificate as certificates
use Rattle.matching_laws.specs.Below.horn.specs.Certificate.{Given, given, is_bound, is_stated}
use Rattle.matching_laws.specs.Below.horn.proofs.Equality.{case, both, not-true}
use Rattle.matching_laws.specs.Below.horn.proofs.SoundnessWords.{Apart}
use Rattle.matching_laws.specs.Below.words.specs.Parts.{part}
use Rattle.matching_laws.specs.Below.words.specs.Sums.{sum32}
use Rattle.matching_laws.specs.Below.words.proofs.Sums.{sum_small}
use Rattle.steps.specs.Below.lex.specs.declared.Reader.{Reader}
use Rattle.steps.specs.Below.outcomes.specs.Outcomes as outcomes
use Rattle.steps.specs.Below.outcomes.specs.Outcomes.{Outcome}
use Rattle.steps.specs.Below.outcomes.specs.Leaving as leaving
use Rattle.steps.specs.Below.outcomes.specs.Leaving.{Did, ◌leaving◌}
use Rattle.matching_laws.specs.Below.items.specs.Places as places
use Rattle.matching_laws.specs.Below.items.specs.Items.{question}
use Rattle.steps.specs.Below.outcomes.specs.Simulation.{Answers, both_refuse, Simulates, refuse, leave, bind as bind_all, test, tests, sought, giving}
use Rattle.terms_laws.specs.Below.theory_laws.specs.Representation.{Entries, Nth, SortAt, RuleAt, Holds}
use Rattle.terms_laws.specs.Below.theory_laws.proofs.Lookups.{part-question}
use Rattle.terms_laws.specs.Below.theory_laws.proofs.Frames.{Keeps, keeps_then, keeps_set, rule_kept, grown_none}
use Rattle.steps.specs.Below.theory_reading.specs.Reading.{sort_of_variable}
use Rattle.steps.specs.Below.theory_reading.specs.Storing.{Areas}
use Rattle.steps.specs.Below.theory_reading.proofs.Held.{VariableIs, variable_is, variable_found_lem, bindings_fit, holds_now}
use Rattle.steps.specs.Below.theory_reading.proofs.Terms.{number_sort}
use Rattle.steps.specs.Below.theory_reading.proofs.Stored.{Longer, longer_then, Stored, Means, few_terms}
use Rattle.matching_laws.specs.Below.tables.specs.Representation.{Defs}
use Rattle.matching_laws.specs.Below.asking.specs.Asking.{in_list, Ahead}
use Rattle.terms_laws.specs.Below.asking_laws.proofs.Places.{RestComes, At, at_less, at_within}
use Rattle.terms_laws.specs.Below.asking_laws.proofs.Asking.{WordMet, word_met, word_law, GroupMet, closing_law, Looked, look_closed, look_bad, look_ended, look_item, look_law}
use Rattle.matching_laws.specs.Below.nodes.specs.Nodes.{sort_of}
use Rattle.matching_laws.specs.Below.nodes.specs.Limits.{node_limit, word_limit, index_places, def_buckets}
use Rattle.terms_laws.proofs.Following.{bind_before}
use Rattle.terms_laws.proofs.Reading.{asked_yes, Ready}
use Rattle.terms_laws.proofs.Judgments.{lifted, AskedRead, ask_term_law, headed_law}
use Rattle.matching_laws.specs.Below.matching.specs.Matching.{binding_of, binding_at}
use Rattle.matching_laws.proofs.Relations.{Bound, not_bound, bound_to, Binds}
use Rattle.matching_laws.proofs.Bindings.{bound_longer, binds_longer, binds_more}
use Rattle.steps.specs.Below.step_items.specs.StepItems as walk
use Rattle.steps.specs.Below.step_bindings.specs.StepBindings.{Worked, binding}
use Rattle.steps_laws.proofs.Numbers.{list_ended, list_member}

-- What the items so far have given, beside the areas: `heap` is the theory's area as the rulebook left it, `held` the stack with the step's references.
pub record Gathered (es : Entries) (th : Theory) (heap : List ℕ) (vs : List Variable) (ts₀ : Store) (top : ℕ) (held : List ℕ)
    (word : ℕ) (store stack live : List ℕ) (ts : Store) (binds : List Bind) (stated : Option Term) : Type 0 where
  pub stored : Stored es th document01 index_places store ts
  pub grown : Longer ts₀ ts
  pub kept : Keeps top held stack
  pub keep : Keeps places.bindings heap live
  pub bindings : Binds es th ts vs live binds
  pub conclusion : Bound es th ts word stated

-- P says where the reader stands behind an item.
pub data ItemRead (es : Entries) (th : Theory) (heap : List ℕ) (vs : List Variable) (ts₀ : Store) (top : ℕ) (held : List ℕ) (P : Reader → Type 0)
    : ℕ × Reader → Worked → Given × Store → Type 0 where
  item_read : {word : ℕ} {q : Reader} {store stack live : List ℕ} {ts : Store} {binds : List Bind} {stated : Option Term} → P q
      → Gathered es th heap vs ts₀ top held word store stack live ts binds stated
      → ItemRead es th heap vs ts₀ top held P (word, q) ((store, stack), live) (given binds stated, ts)

pub read_less : {es : Entries} {th : Theory} {heap : List ℕ} {vs : List Variable} {ts₀ : Store} {top : ℕ} {held : List ℕ} {P Q : Reader → Type 0}
    {x : ℕ × Reader} {areas : Worked} {y : Given × Store} → ((q : Reader) → P q → Q q) → ItemRead es th heap vs ts₀ top held P x areas y
    → ItemRead es th heap vs ts₀ top held Q x areas y
read_less f (item_read p g) = item_read (f _ p) g

-- What the definition does without its store, then with it.
through : {S A B C : Type 0} {R : A → S → C → Type 0} {m : Did S A} (m' : Result B) (ts : Store) (g : B × Store → Result C)
    → Simulates R m (refusals.◌>>=◌ m' (λ b. g (b, ts))) → Simulates R m (refusals.◌>>=◌ {A = B × Store} (refusals.◌>>=◌ m' (λ b. refusals.ok (b, ts))) g)
unfolding refusals.◌>>=◌
through (refusals.ok b) ts g s = s
through (refusals.refused x) ts g s = s

-- Whether a word holds a term.
word_test : {es : Entries} {th : Theory} {ts : Store} {w : ℕ} {o : Option Term} → Bound es th ts w o → eqb w 0 ≡ not (is_stated o)
unfolding is_stated
word_test {w} (not_bound e) = eq-eqb w 0 e
word_test {w} (bound_to k e m) = ne_eqb w 0 (λ z. omega arith)

bound_is : (name : Name) (binds : List Bind) → is_bound name binds ≡ is_stated (lookup name binds)
unfolding is_bound is_stated
bound_is name binds = by (lookup name binds) where
  by : (o : Option Term) → (elim o [ none ↦ false | some t ↦ true ]) ≡ is_stated o
  by none = refl
  by (some t) = refl

not_stated : (o : Option Term) → is_stated o ≡ false → o ≡ none
unfolding is_stated
not_stated none e = refl
not_stated (some t) e = absurd (true≢false e)

-- A variable's sort as the definition says it.
variable_sort : {heap : List ℕ} {es : Entries} {e : ℕ} {vs : List Variable} {key : Name} {v : ℕ} {x : Variable} → VariableIs heap es e vs key v x
    → Nth vs v key × SortAt es (sort_of_variable heap e v) (rulebook.sort_of x)
unfolding rulebook.sort_of
variable_sort (variable_is e n l a) = (n, a)

module _ {rules heap : List ℕ} {es : Entries} {bound : ℕ} {th : Theory} (h : Holds rules heap es bound th) (high : bound ≤ places.theory_end)
    (text : List ℕ) (short : length text ≤ 32768) (table : List ℕ) (defs : List Def) (ts₀ : Store) {base : ℕ}
    (abbreviations : Defs text table def_buckets base (Means es th ts₀) defs)
    {e : ℕ} {rule : Rule} (by_rule : RuleAt rules heap es bound e rule) (distinct : Apart (variables_of rule)) (top : ℕ) (held : List ℕ)
    (long : length held ≡ 16384) where
  abbrev So : ℕ → List ℕ → List ℕ → List ℕ → Store → List Bind → Option Term → Type 0
  So word store stack live ts binds stated = Gathered es th heap (variables_of rule) ts₀ top held word store stack live ts binds stated

  abbrev ReadItem : (Reader → Type 0) → ℕ × Reader → Worked → Given × Store → Type 0
  ReadItem P x areas y = ItemRead es th heap (variables_of rule) ts₀ top held P x areas y

  module _ (word : ℕ) (store stack live : List ℕ) (ts : Store) (binds : List Bind) (stated : Option Term)
      (g : So word store stack live ts binds stated) where
    ready : {K : Stream Token → Type 0} (place spent : ℕ) (r : Reader) → 2 * place ≤ spent → At text K spent r
        → Ready es th text ts₀ K place spent ts r store stack
    ready place spent r l a = record { reader = a; room = l; stored = g.stored; grown = g.grown; long = g.kept.same_length ∙ long }

    -- The rule's words are where they were.
    rule_now : RuleAt rules live es bound e rule
    rule_now = rule_kept grown_none (λ i p q. g.keep.words i (omega arith)) (omega arith) by_rule

    -- A variable that was not bound is bound to a term that was read.
    bound_now : (v k : ℕ) (name : Name) (t : Term) (after : Areas) (us : Store) → Nth (variables_of rule) v name → lookup name binds ≡ none
        → Stored es th document01 index_places after.0 us → Means es th us k t → Longer ts us → Keeps top stack after.1
        → So word after.0 after.1 (set live (binding_at v) (sum32 k 1)) us (binds ++ (bind name t ∷ [])) stated
    unfolding document01
    bound_now v k name t after us n free st m more keeps =
        let few = few_terms st in
        let b = m.below in
        let fit = bindings_fit h high by_rule in
        let l = g.keep.same_length in
        let z = h.long in
        rw (sum_small k 1 (omega arith))
        record {
          stored = st;
          grown = longer_then g.grown more;
          kept = keeps_then (omega arith) g.kept keeps;
          keep = keeps_then (omega arith) g.keep (keeps_set places.bindings live (binding_at v) (k + 1) (omega arith));
          bindings = binds_more distinct (binds_longer more g.bindings) v k name t n free (omega arith) m;
          conclusion = bound_longer more g.conclusion;
        }

    -- "Bound already or wrong sort 21": two tests with one refusal here, one there.
    both_tests : (v k : ℕ) (name s : Name) (t : Term) (after : Areas) (us : Store) → Nth (variables_of rule) v name → SortAt es (sort_of_variable live e v) s
        → Stored es th document01 index_places after.0 us → Means es th us k t
        → (eqb (binding_of live v) 0 && eqb (sort_of live after.0 k) (sort_of_variable live e v)) ≡ (not (is_bound name binds) && has_sort s t)
    unfolding sort_of document01
    both_tests v k name s t after us n so st m =
        ap₂ ◌&&◌
        (word_test (g.bindings.each v name n) ∙ ap not (sym (bound_is name binds)))
        (number_sort (holds_now h high g.keep) node_limit word_limit index_places st.keeps.trees k m.below so ∙ ap (has_sort s) m.tree)

    -- "`(?v T)`: unknown v 12, T, closing 10, bound already or wrong sort 21."
    pub binding_law : (s t spent : ℕ) {name : Name} (K : Stream Token → Type 0) (is : Items) (r : Reader) → part s t text ≡ name → 2 * top ≤ spent
        → At text (RestComes is K) spent r
        → Simulates (λ q areas y. ReadItem (At text K (spent + 2)) (word, q) areas y) (binding text rules table e top s t r store stack live)
        (certificates.binding_item document01 th defs rule name is (given binds stated) ts)
    unfolding binding certificates.binding_item definition.◌>>=◌ definition.lift definition.give AskedRead number
    binding_law s t spent {name} K is r n room there =
        rw n
        (lifted ts _ _ (sought (variable_found_lem (holds_now h high g.keep) name rule_now))
        (λ v x m.
        let (nth, so) = variable_sort m in
        bind_before live _ _
        (ask_term_law text table (holds_now h high g.keep) defs ts₀ abbreviations short is in_list 2 top spent K ts r store stack refl
        (ready top spent r room there))
        (λ y left u k.
        lifted u.1 _ _ (closing_law text K (spent + 2) u.0.1 k.reader)
        (λ q _ a. through _ u.1 _ (judged v y.0 (rulebook.sort_of x) u.0.0 left u.1 q nth so k.stored k.means k.grown
        k.keeps a))))) where
          judged : (v k : ℕ) (sort : Name) (u : Term) (after : Areas) (us : Store) (q : Reader) → Nth (variables_of rule) v name
              → SortAt es (sort_of_variable live e v) sort
              → Stored es th document01 index_places after.0 us → Means es th us k u → Longer ts us → Keeps top stack after.1 → At text K (spent + 2) q
              → Simulates (λ q areas y. ReadItem (At text K (spent + 2)) (word, q) areas y)
              (leaving.◌>>=◌ (outcomes.need (eqb (binding_of live v) 0) 21 leaving (after, live))
              (λ _. leaving.◌>>=◌ (outcomes.need (eqb (sort_of live after.0 k) (sort_of_variable live e v)) 21 leaving (after, live))
              (λ _. outcomes.ok q leaving (after, set live (binding_at v) (sum32 k 1)))))
              (refusals.◌>>=◌ (refusals.need (not (is_bound name binds) && has_sort sort u) bad_binding)
              (λ _. refusals.ok (given (binds ++ (bind name u ∷ [])) stated, us)))
          judged v k sort u after us q nth so st m more keeps a =
              tests (eqb (binding_of live v) 0) (eqb (sort_of live after.0 k) (sort_of_variable live e v)) 21 bad_binding _ _
              (both_tests v k name sort u after us nth so st m) refl
              (λ yes.
              let free = (both (not (is_bound name binds)) (has_sort sort u) yes).0 in
              leave (item_read a (bound_now v k name u after us nth (not_stated _ (sym (bound_is name binds) ∙ not-true _ free)) st m more keeps)))

    -- A conclusion that was read is stated.
    stated_now : (k : ℕ) (j : Term) (after : Areas) (us : Store) → Stored es th document01 index_places after.0 us → Means es th us k j → Longer ts us
        → Keeps top stack after.1
        → So (sum32 k 1) after.0 after.1 live us binds (some j)
    unfolding document01
    stated_now k j after us st m more keeps =
        let few = few_terms st in
        let b = m.below in
        record {
          stored = st;
          grown = longer_then g.grown more;
          kept = keeps_then (omega arith) g.kept keeps;
          keep = g.keep;
          bindings = binds_longer more g.bindings;
          conclusion = bound_to k (sum_small k 1 (omega arith)) m;
        }

    -- "Otherwise a judgment; a second, once read, is 22."
    pub stated_law : (s t spent : ℕ) {name : Name} (K : Stream Token → Type 0) (is : Items) (r : Reader) → part s t text ≡ name → 2 * top ≤ spent
        → At text (RestComes is K) (spent + 2) r
        → Simulates (ReadItem (At text K (spent + 2))) (walk.stated text rules table top word s t r store stack live)
        (certificates.conclusion_item document01 th defs name is (given binds stated) ts)
    unfolding walk.stated certificates.conclusion_item definition.◌>>=◌ definition.lift definition.give number
    stated_law s t spent {name} K is r n room there =
        bind_before live _ _
        (headed_law text table (holds_now h high g.keep) defs ts₀ abbreviations short in_list 2 top spent s t K is ts r store stack refl n room
        (ready (top + 1) (spent + 2) r (omega arith) there))
        (λ y left u k.
        through _ u.1 _
        (test (eqb word 0) 22 second_conclusion _ _ (word_test g.conclusion) refl
        (λ _. leave (item_read k.reader (stated_now y.0 u.0 left u.1 k.stored k.means k.grown k.keeps)))))

    -- "An item is a list with an atom head; after 4, 5 and 6, an answer that is no atom there is refused 7."
    pub item_law : (spent : ℕ) (K : Stream Token → Type 0) (item : Item) (rest : Items) (r : Reader) → 2 * top ≤ spent
        → At text (RestComes (item then rest) K) spent r
        → Simulates (ReadItem (At text (RestComes rest K) (spent + 2))) (walk.item text rules table e top word r store stack live)
        (certificates.step_item document01 th defs rule item (given binds stated) ts)
    unfolding walk.item walk.headed_item certificates.step_item definition.◌>>=◌ definition.lift
    item_law spent K item rest r room there =
        lifted ts _ _ (list_member text K spent item rest there)
        (λ q inner a. lifted ts _ _ (word_law text (RestComes rest K) spent inner in_list 2 refl a) (λ x y m. headed x y m)) where
          headed : (x : ℕ × ℕ × Reader) (y : Name × Items) → WordMet text (RestComes rest K) spent x y
              → Simulates (ReadItem (At text (RestComes rest K) (spent + 2)))
              (walk.headed_item text rules table e top word x.0 x.1 x.2 store stack live)
              ((elim (questioned y.0) as (λ b. definition.Reading Given) [
                | true ↦ certificates.binding_item document01 th defs rule y.0 y.1 (given binds stated)
                | false ↦ certificates.conclusion_item document01 th defs y.0 y.1 (given binds stated)
              ]) ts)
          headed x y (word_met {s} {t} {r = q} {name} {rest = is} n l u a) =
              let z : question text s ≡ questioned name = sym (part-question s t text l u) ∙ ap questioned n in
              case (questioned name)
              (λ yes. rw (z, yes) (giving (λ q. (word, q)) (binding_law s t (spent + 2) (RestComes rest K) is q n (omega arith) a)
              (λ v w b k. read_less (λ p x. at_less (spent + 2) (omega arith) x) k)))
              (λ no. rw (z, no) (stated_law s t spent (RestComes rest K) is q n room a))

  module _ (K : Stream Token → Type 0) where
    -- Two bytes at least were read for each turn of the loop.
    abbrev ItemsLaw : ℕ → Items → Type 0
    ItemsLaw fuel is =
        (word spent : ℕ) (r : Reader) (store stack live : List ℕ) (ts : Store) (binds : List Bind)
        (stated : Option Term) → 2 * top ≤ spent → length text + 2 ≤ fuel + spent
        → So word store stack live ts binds stated → At text (RestComes is K) spent r
        → Simulates (ReadItem (At text K 0)) (walk.items_from fuel text rules table e top word r store stack live)
        (certificates.step_items document01 th defs rule is (given binds stated) ts)

    -- One turn, by the look ahead.
    module _ (fuel : ℕ) (on : (is : Items) → ItemsLaw fuel is) (word spent : ℕ) (store stack live : List ℕ) (ts : Store) (binds : List Bind)
        (stated : Option Term)
        (room : 2 * top ≤ spent) (f : length text + 2 ≤ suc fuel + spent) (g : So word store stack live ts binds stated) where
      next : (rest : Items) (x : ℕ × Reader) (areas : Worked) (y : Given × Store) → ReadItem (At text (RestComes rest K) (spent + 2)) x areas y
          → Simulates (ReadItem (At text K 0)) (walk.items_from fuel text rules table e top x.0 x.1 areas.0.0 areas.0.1 areas.1)
          (certificates.step_items document01 th defs rule rest y.0 y.1)
      next rest x areas y (item_read {word = w} {q} {store = a} {stack = b} {live = c} {ts = us} {binds = bs} {stated = o} there k) =
          on rest w (spent + 2) q a b c us bs o (omega arith) (omega arith) k there

      item_turn : (is : Items) {o : Outcome Ahead} → Looked text K spent is o
          → Simulates (ReadItem (At text K 0))
          (leaving.◌>>=◌ (o leaving ((store, stack), live)) (λ p. walk.one_item (walk.items_from fuel text rules table e top) text rules table e top word
          p.0 store stack live))
          (certificates.step_items document01 th defs rule is (given binds stated) ts)
      unfolding walk.item certificates.step_items definition.◌>>=◌ definition.lift definition.give absent refusals.◌>>=◌ number
      item_turn closed (look_closed there) = leave (item_read (at_less 0 (omega arith) there) g)
      item_turn bad_line look_bad = refuse refl
      item_turn ended (look_ended there) = rw (asked_yes 255 1 refl) (by _ _ (list_ended text K spent there)) where
        by : (m : Reader × Worked → Did Worked (ℕ × Reader)) (k : (ℕ × Reader) × Worked → Did Worked (ℕ × Reader)) {o : Outcome Reader}
            → Answers (GroupMet text K spent) o (refusals.refused text_ends)
            → Simulates (ReadItem (At text K 0)) (leaving.◌>>=◌ (leaving.◌>>=◌ (o leaving ((store, stack), live)) m) k) (refusals.refused text_ends)
        by m k (both_refuse z) = refuse z
      item_turn (item then rest) (look_item {q} there) =
          rw (asked_yes 255 1 refl)
          (bind_all _ _ (item_law word store stack live ts binds stated g spent K item rest q room there) (next rest))

    pub items_from_lem : (fuel : ℕ) (is : Items) → ItemsLaw fuel is
    unfolding walk.items_from
    items_from_lem zero is word spent r store stack live ts binds stated room f g a = absurd (let b = at_within a in omega arith)
    items_from_lem (suc fuel) is word spent r store stack live ts binds stated room f g a =
        item_turn fuel (items_from_lem fuel) word spent store stack live ts binds stated room f g is (look_law text K spent is a)
