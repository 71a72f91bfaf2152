-- Declarations of rules: the walk answers as the definition does, and the words hold the theory with the rule.
-- Assumes nothing.
use mathlib.Core.Path.{◌≡◌, refl, ap, sym, ◌∙◌}
use mathlib.Core.Bool.{not}
use mathlib.Core.List.{List, [], ◌∷◌, ◌++◌}
use Prim.Native.Nat.{ℕ, ◌+◌, ◌*◌, ◌%◌, ◌≤◌, ◌<◌}
use native.Mathlib.Nat.{mod-eq_of_lt}
use native.Mathlib.Omega.{arith}
use borrow.Author.Tests.{not-true}
use lib.ListN.{length}
use Rattle.capacity.specs.Below.horn.specs.Refusals.{number, ok, need, ◌>>=◌, duplicate}
use Rattle.capacity.specs.Below.horn.specs.Names.{Name, questioned, some_of}
use Rattle.capacity.specs.Below.horn.specs.Tokens.{Stream, ◌▹◌, Token, closing}
use Rattle.capacity.specs.Below.horn.specs.NestedLists.{Sexp, leaf, list, Sexps, []ₛ, ◌∷ₛ◌}
use Rattle.capacity.specs.Below.horn.specs.Rulebook as definition
use Rattle.capacity.specs.Below.horn.specs.Rulebook.{Variable, Pattern, rule, Theory, is_rule, count}
use Rattle.capacity.specs.Below.horn.proofs.Counts.{stream_length}
use Rattle.capacity.specs.Below.horn.proofs.Equality.{case}
use Rattle.theory.specs.Below.words.specs.Parts.{part, copied}
use Rattle.theory.specs.Below.names.specs.Chains.{found, added}
use Rattle.theory.specs.Below.names.specs.Tables.{entry, present}
use Rattle.theory.specs.Below.lex.specs.declared.Reader.{Reader}
use Rattle.theory.specs.Below.sexp.specs.Flattening.{flat_one, flat, counts_one}
use Rattle.theory.specs.Below.outcomes.specs.Outcomes as outcomes
use Rattle.theory.specs.Below.outcomes.specs.Leaving.{beside}
use Rattle.theory.specs.Below.words.specs.Sums.{sum32}
use Rattle.theory.specs.Below.items.specs.Places as places
use Rattle.theory.specs.Below.items.specs.Items.{read_on, opened_one, with_top}
use Rattle.theory.specs.Below.variables.specs.Variables.{Areas}
use Rattle.theory.specs.Below.items.specs.declared.Walk.{Walk}
use Rattle.theory.specs.Below.symbols.specs.Symbols.{entered}
use Rattle.theory.specs.Below.rule_names.specs.RuleNames.{name_kept}
use Rattle.theory.specs.Below.rules.specs.Rules.{name_judged, begun, body_read, rule_described, variables_stored, rule_entered, rule_declared}
use Rattle.theory.specs.Below.rule_names.specs.declared.RuleName.{RuleName}
use Rattle.theory.specs.Below.rule_names.specs.declared.RuleName.TheVariants as rule_names
use Rattle.theory.specs.Below.outcomes.specs.Simulation.{Answers, both_refuse, both_ok, Simulates, refuse, leave, bind, pure, aside, test_then, paired, three_on}
use Rattle.theory_laws.specs.Reading.{Reads, Walks, weight, Shallow, shallow_list}
use Rattle.theory_laws.specs.Representation.{Entries, Flat, FlatList, no_variables, Holds}
use Rattle.theory.specs.Below.words.proofs.Sums.{sum_small}
use Rattle.theory_laws.proofs.Items.{atom_met, list_met, ClosingMet, closing_met}
use Rattle.theory_laws.proofs.Frames.{Keeps, keeps_less, keeps_then, grown_none, premises_kept}
use Rattle.theory_laws.proofs.Lookups.{part-question}
use Rattle.theory_laws.proofs.Ready.{Ready, PatternRead}
use Rattle.theory_laws.proofs.Patterns.{after_opening}
use Rattle.theory_laws.proofs.Judgments.{list_due_lem, atom_due_lem, judgment_law, JudgmentsRead, judgments_law}
use Rattle.theory_laws.proofs.Names.{Midway}
use Rattle.theory_laws.proofs.Symbols.{new_test, Stood}
use Rattle.theory_laws.proofs.Skipping.{rest_skipped}
use Rattle.theory_laws.proofs.RulesAdded.{with_rule, rule_added}

-- What is passed weighs nothing less than what comes behind it.
mutual
  unfolding weight flat_one

  pub lighter : (x : Sexp) (ts : Stream Token) → weight ts ≤ weight (flat_one x ts)
  lighter (leaf bytes) ts = omega arith
  lighter (list xs) ts = let h = lighter_all xs (closing ▹ ts) in omega arith

  pub lighter_all : (xs : Sexps) (ts : Stream Token) → weight ts ≤ weight (flat xs ts)
  lighter_all []ₛ ts = omega arith
  lighter_all (x ∷ₛ xs) ts = let h = lighter x (flat xs ts) in let k = lighter_all xs ts in omega arith

-- What a name leaves of what it weighs, when it has paid for a word: only an atom does.
unfoldable pub spared : Sexp → ℕ
spared (leaf bytes) = 2
spared (list xs) = 0

name_pays : (x : Sexp) (ts : Stream Token) → spared x + 4 * weight ts ≤ 4 * weight (flat_one x ts)
unfolding spared weight flat_one
name_pays (leaf bytes) ts = omega arith
name_pays (list xs) ts = let h = lighter_all xs (closing ▹ ts) in omega arith

module _ (text counted : List ℕ) (Before : Reader → Stream Token → Type 0) (reads : Reads text Before) (short : length text ≤ 8192) where
  -- A name that is judged later.
  pub data NameJudged (n : Sexp) : ℕ × ℕ → Name → Type 0 where
    name_judged_lem : {s t : ℕ} {name : Name} → part s t text ≡ name → s < t → t ≤ length text → spared n ≡ 2 → NameJudged n (s, t) name

  pub record NameKept (n : Sexp) (ts : Stream Token) (ks : List ℕ) (w : Walk) : Type 0 where
    pub name : RuleName
    pub next : Walk
    pub met : name_kept text counted w ≡ outcomes.ok (name, next)
    pub walks : Walks text counted Before ts ks next
    pub top : next.top ≡ w.top
    pub judged : Answers (NameJudged n) (name_judged text name) (definition.declared_name n)

  name_kept_lem : (n : Sexp) {ts : Stream Token} {ks : List ℕ} {w : Walk} → Walks text counted Before (flat_one n ts) (counts_one n ks) w
      → stream_length (flat_one n ts) ≤ length text
      → NameKept n ts ks w
  unfolding name_kept spared definition.declared_name definition.atom_due flat_one counts_one stream_length number need ◌>>=◌
  name_kept_lem (leaf name) {w} h enough =
      let m = atom_met text counted Before reads h in
      let q = sym (part-question m.s m.t text m.some_byte m.inside) ∙ ap questioned m.name in
      record {
        name = rule_names.Atom m.s m.t;
        next = read_on w m.next;
        met = rw m.met;
        walks = m.walks;
        top = refl;
        judged =
            case (questioned name)
            (λ k. rw (q, k) (both_refuse refl))
            (λ k. rw (q, k) (both_ok (name_judged_lem m.name m.some_byte m.inside refl)));
      }
  name_kept_lem (list xs) h enough =
      let m = list_met text counted Before reads h in
      let k = rest_skipped text counted Before reads xs (length text) m.walks short (omega arith) in
      record {
        name = rule_names.List;
        next = k.next;
        met = rw (m.met, k.met);
        walks = k.walks;
        top = k.top;
        judged = both_refuse refl;
      }

  module _ (th : Theory) (es : Entries) where
    -- A rule's premises and its conclusion.
    pub data BodyRead (base spare : ℕ) (ts : Stream Token) (ks : List ℕ) (heap : List ℕ) : ℕ × ℕ × Walk → Areas
        → (List Pattern × List Variable) × (Pattern × List Variable) → Type 0 where
      body_read_lem : {n : ℕ} {q : Walk} {areas : Areas} {p : List Pattern × List Variable} {c : Pattern × List Variable} (mid : ℕ)
          → n ≡ length p.0
          → Ready text counted Before th es base spare 0 ts ks c.1 q areas.0 areas.1
          → Keeps (base + places.patterns) heap areas.1
          → FlatList areas.1 es base (base + places.patterns) q.top c.1 (base + places.patterns) p.0 mid
          → Flat areas.1 es base (base + places.patterns) q.top c.1 mid c.0 q.top
          → BodyRead base spare ts ks heap (n, mid, q) areas (paired p c)

    body_law : (js j : Sexp) {base spare : ℕ} {ts : Stream Token} {ks : List ℕ} {w : Walk} {vars heap : List ℕ}
        → Ready text counted Before th es base spare 0 (flat_one js (flat_one j ts)) (counts_one js (counts_one j ks)) [] w vars heap
        → w.top ≡ base + places.patterns
        → Shallow 259 js
        → Shallow 258 j
        → Simulates (BodyRead base spare ts ks heap) (body_read text counted w vars heap)
        (definition.list_due js >>= λ xs. definition.judgment_patterns th xs [] >>= λ p. definition.judgment_pattern th j p.1 >>= λ c. ok (paired p c))
    unfolding body_read definition.list_due flat_one counts_one number ◌>>=◌
    body_law (leaf bytes) j {base} {spare} r e s₀ s₁ =
        rw (atom_due_lem text counted Before reads short th es base spare (atom_met text counted Before reads r.walks)) (refuse refl)
    body_law (list xs) j {base} {spare} {ts} {ks} {w} {vars} {heap} r e (shallow_list {d} q s₀) s₁ =
        let m = list_met text counted Before reads r.walks in
        let k : d ≡ 258 = omega arith in
        rw (list_due_lem text counted Before reads short th es base spare m)
        (bind _ _
        (judgments_law text counted Before reads short th es base spare xs (rw k at s₀) (flat_one j ts) (counts_one j ks) [] (opened_one w m.next) vars heap
        (after_opening text counted Before reads short th es base spare r m))
        (λ q₁ areas p y.
        bind _ _
        (judgment_law text counted Before reads short th es base spare j s₁ ts ks p.1 q₁ areas.0 areas.1 y.reached.ready)
        (λ q₂ areas' c z.
        leave (join y z)))) where
          join : {q₁ q₂ : Walk} {areas areas' : Areas} {p : List Pattern × List Variable} {c : Pattern × List Variable}
              → JudgmentsRead text counted Before reads short th es base spare (count xs) (flat_one j ts) (counts_one j ks) [] w.top heap q₁ areas p
              → PatternRead text counted Before th es base spare ts ks p.1 q₁.top areas.1 q₂ areas' c
              → BodyRead base spare ts ks heap (count xs, q₁.top, q₂) areas' (paired p c)
          join {q₁} {q₂} {areas} {areas'} {p} {c} y z =
              let a = y.reached.rises in
              let b = z.reached.rises in
              let u = y.reached.ready.above in
              let f : FlatList areas'.1 es base (base + places.patterns) q₂.top c.1 w.top p.0 q₁.top =
              premises_kept grown_none (λ i g f. z.reached.keeps.words i (omega arith)) (omega arith) (λ i g f. z.reached.keeps.words i f) b
              z.reached.more y.flats in
              body_read_lem q₁.top y.many z.reached.ready
              (rw e at (keeps_then a y.reached.keeps z.reached.keeps))
              (rw e at f)
              z.flat

    -- After a declaration, the variables' area too.
    pub record StoodWith (ts : Stream Token) (ks : List ℕ) (q : Walk) (areas : Areas) (th' : Theory) : Type 0 where
      pub stood : Stood text counted Before reads short ts ks q areas.1 th'
      pub long : length areas.0 ≡ 16384

    -- The rule's entry, its variables, and the closing of the declaration.
    rule_entered_lem : {base : ℕ} {n : Sexp} {ts : Stream Token} {ks : List ℕ} {heap : List ℕ} (b : ℕ × ℕ × Walk) (areas : Areas) (p : List Pattern × List Variable)
        (c : Pattern × List Variable)
        (st : ℕ × ℕ) (name : Name)
        → Holds text heap es base th
        → BodyRead base (spared n) (closing ▹ ts) ks heap b areas (paired p c)
        → NameJudged n st name
        → Simulates (StoodWith ts ks) (beside areas.0 (rule_entered text base st.0 st.1 b.0 b.1 b.2 areas.0 areas.1))
        (need (not (some_of (is_rule name) th.rules)) duplicate >>= λ _.
        ok record { sorts = th.sorts; symbols = th.symbols; rules = th.rules ++ (rule name c.1 p.0 c.0 ∷ []) })
    unfolding rule_entered entered variables_stored number weight
    rule_entered_lem {base} {ts} {ks} {heap} b areas p c st name h (body_read_lem {n} {q} mid many r keeps premises conclusion) (name_judged_lem {s} {t} e l u paid) =
        let room = r.room in
        let above = r.above in
        let low = r.base_low in
        let v = r.many in
        let k : (q.top + places.variable_words * q.variables) % 4294967296 ≡ q.top + places.variable_words * q.variables = mod-eq_of_lt (omega arith) in
        let q' : Walk = with_top q ((q.top + places.variable_words * q.variables) % 4294967296) in
        let m : ClosingMet text counted Before reads ts ks q' =
        closing_met text counted Before reads record { before = r.walks.before; counted = r.walks.counted; few = r.walks.few } in
        aside {Q = λ q₁ heap₁ th'. Stood text counted Before reads short ts ks q₁ heap₁ th'} areas.0
        (test_then areas.1 (not (present (found areas.1 places.rules places.buckets text (part s t text)))) 13 duplicate q
        (added areas.1 places.rules places.buckets base text s t) _ _
        (rw e (new_test name r.holds.rules)) refl
        (λ y.
        rw m.met
        (leave {a = read_on q' m.next} {s = copied (rule_described base n q.variables mid q.top
        (added areas.1 places.rules places.buckets base text s t)) q.top
        areas.0 0 (places.variable_words * q.variables)}
        {b = record { sorts = th.sorts; symbols = th.symbols; rules = th.rules ++ (rule name c.1 p.0 c.0 ∷ []) }}
        record {
          entries = with_rule es (entry base name);
          ready = record {
            walks = m.walks;
            holds =
                rw k
                (rule_added text heap areas.1 areas.0 es th base q.top s t n q.variables name c.1 p.0 c.0 mid h
                (keeps_less (omega arith) keeps)
                low above (omega arith) e (omega arith) (omega arith) many v premises conclusion r.variables (not-true _ y));
            above = omega arith;
            base_low = rw k (omega arith);
            room = rw k (omega arith);
          };
        })))
        (λ q₁ heap₁ th' z. record { stood = z; long = r.long })

    -- "`(rule N (J...) J)`: premises left to right, conclusion, N, duplicate."
    pub rule_law : (n js j : Sexp) {ts : Stream Token} {ks : List ℕ} {w : Walk} (vars : List ℕ) {heap : List ℕ}
        → Midway text counted Before reads th es w.top 20 (flat_one n (flat_one js (flat_one j (closing ▹ ts))))
        (counts_one n (counts_one js (counts_one j ks))) w heap
        → length vars ≡ 16384
        → Shallow 259 js
        → Shallow 258 j
        → stream_length (flat_one n (flat_one js (flat_one j (closing ▹ ts)))) ≤ length text
        → Simulates (StoodWith ts ks) (rule_declared text counted w vars heap) (definition.declare_rule th n js j)
    unfolding rule_declared definition.declare_rule begun
    rule_law n js j {ts} {ks} {w} vars {heap} r long s₀ s₁ enough =
        let k = name_kept_lem n r.walks enough in
        let room = r.room in
        let low = r.base_low in
        let light = name_pays n (flat_one js (flat_one j (closing ▹ ts))) in
        let e : sum32 k.next.top 7 ≡ w.top + 7 = rw k.top (sum_small w.top 7 (omega arith)) in
        rw (
          k.met,
          ← three_on {D = Theory} (definition.list_due js) (λ xs. definition.judgment_patterns th xs []) (λ p. definition.judgment_pattern th j p.1)
              (λ p c. definition.declared_name n >>= λ name. need (not (some_of (is_rule name) th.rules)) duplicate >>= λ _.
              ok record { sorts = th.sorts; symbols = th.symbols; rules = th.rules ++ (rule name c.1 p.0 c.0 ∷ []) }),
        )
        (bind _ _
        (body_law js j
        record {
          walks = record { before = k.walks.before; counted = k.walks.counted; few = k.walks.few };
          holds = r.holds;
          above = rw e (omega arith);
          base_low = low;
          many = refl;
          long = long;
          variables = no_variables;
          room = rw e (omega arith);
        } e s₀ s₁)
        (λ b areas x y.
        pure _ _ k.judged (λ st name z. rule_entered_lem b areas x.0 x.1 st name r.holds y z)))
