-- An atom as a term, and a symbol as the head of a list. Assumes nothing.
use mathlib.Core.Path.{◌≡◌, refl, ap, sym, ◌∙◌}
use mathlib.Core.Bool.{Bool, true, false, not, ◌&&◌}
use mathlib.Core.List.{List, [], ◌∷◌, ◌++◌}
use mathlib.Core.Option.{Option, none, some}
use Prim.Native.Nat.{ℕ, suc, ◌+◌, ◌*◌, ◌-◌, ◌%◌, ◌≤◌, ◌<◌}
use native.Mathlib.Nat.{mod-eq_of_lt, le_of_lt}
use native.Mathlib.Omega.{arith}
use borrow.Author.Tests.{eqb-false, eq-eqb, ne_eqb, not-true}
use lib.Dec.{eqb}
use lib.ListN.{length, get_or, set, length-set, length-append}
use lib.Seq.{get_or-set_same, get_or-set_other}
use Rattle.capacity.specs.Below.horn.specs.Refusals.{number, ok, need, ◌>>=◌, unknown, sort_arity, variable_name, two_sorts}
use Rattle.capacity.specs.Below.horn.specs.Refusals as refusals
use Rattle.capacity.specs.Below.horn.specs.Names.{Name, named, questioned, first}
use Rattle.capacity.specs.Below.horn.specs.Tokens.{Stream, Token}
use Rattle.capacity.specs.Below.horn.specs.NestedLists.{leaf}
use Rattle.capacity.specs.Below.horn.specs.Rulebook as definition
use Rattle.capacity.specs.Below.horn.specs.Rulebook.{Output, sort, same_output, Symbol, Variable, variable, Pattern, var, app, []ₚ, is_variable, is_constructor, Theory, fits}
use Rattle.capacity.specs.Below.horn.proofs.Equality.{case, chose_true, chose_false}
use Rattle.theory.specs.Below.words.specs.Parts.{part}
use Rattle.theory.specs.Below.names.specs.Tables.{Entry, Agree, both_none, both_some}
use Rattle.theory.specs.Below.names.proofs.Declared.{find_agrees}
use Rattle.theory.specs.Below.names.proofs.Holds.{by_number}
use Rattle.theory.specs.Below.lex.specs.declared.Reader.{Reader}
use Rattle.theory.specs.Below.outcomes.specs.Leaving.{beside}
use Rattle.theory.specs.Below.words.specs.Sums.{sum32}
use Rattle.theory.specs.Below.items.specs.Places as places
use Rattle.theory.specs.Below.items.specs.Items.{with_top, pushed, question}
use Rattle.theory.specs.Below.variables.specs.Variables as walk_variables
use Rattle.theory.specs.Below.leaves.specs.Leaves as walk
use Rattle.theory.specs.Below.patterns.specs.Patterns as walk_terms
use Rattle.theory.specs.Below.variables.specs.Variables.{Areas, variable_word, with_variable, one_variable, introduced, met_again, variable_at, variable_from}
use Rattle.theory.specs.Below.leaves.specs.Leaves.{applied}
use Rattle.theory.specs.Below.items.specs.declared.Walk.{Walk}
use Rattle.theory.specs.Below.outcomes.specs.Simulation.{Simulates, leave, test, tests, look, checked, aside}
use Rattle.theory_laws.specs.Representation.{Entries, SortAt, OutputAt, sort_output, SymbolAt, symbol_at_lem, Nth, flat_variable, flat_symbol, no_flats}
use Rattle.theory_laws.specs.Representation.{Declares, Holds}
use Rattle.theory.specs.Below.words.proofs.Laws.{part-length}
use Rattle.theory.specs.Below.words.proofs.Sums.{sum_small}
use Rattle.theory_laws.proofs.Frames.{keeps_set, grown_none, symbol_kept, variables_kept}
use Rattle.theory_laws.proofs.Ready.{Ready, PatternRead, push_ready, nth_more, nth_last, nth_below, variables_more, ready_on}
use Rattle.theory_laws.proofs.Lookups.{named_turned, part-question, bare_width, Placed, placed, variables_from, same_sort}
use Rattle.theory_laws.proofs.Lookups.{same_output_lem}

-- An atom as a term, by its first byte.
question_pattern : (th : Theory) (name s : Name) (vs : List Variable) → questioned name ≡ true
    → definition.pattern th (leaf name) s vs ≡ definition.variable_pattern name s vs
unfolding definition.pattern
question_pattern th name s vs k = chose_true _ _ k

plain_pattern : (th : Theory) (name s : Name) (vs : List Variable) → questioned name ≡ false
    → definition.pattern th (leaf name) s vs ≡ definition.constant_pattern th name s vs
unfolding definition.pattern
plain_pattern th name s vs k = chose_false _ _ k

-- The words of a variable that is introduced.
module _ (vars : List ℕ) (v s t a : ℕ) where
  -- Where they begin.
  abbrev place : ℕ
  place = places.variable_words * v

  pub length_with : length (with_variable vars v s t a) ≡ length vars
  unfolding with_variable
  length_with = simp length-set

  pub with_below : (i : ℕ) → i < place → get_or (with_variable vars v s t a) i 0 ≡ get_or vars i 0
  unfolding with_variable
  with_below i h =
      get_or-set_other (set (set vars place (s % 4294967296)) (place + 1) (t % 4294967296)) (place + 2) i a 0 (λ k. omega arith)
      ∙ get_or-set_other (set vars place (s % 4294967296)) (place + 1) i (t % 4294967296) 0 (λ k. omega arith)
      ∙ get_or-set_other vars place i (s % 4294967296) 0 (λ k. omega arith)

  module _ (fits : place + places.variable_words ≤ length vars) where
    pub with_start : get_or (with_variable vars v s t a) place 0 ≡ s % 4294967296
    unfolding with_variable
    with_start =
        get_or-set_other (set (set vars place (s % 4294967296)) (place + 1) (t % 4294967296)) (place + 2) place a 0 (λ k. omega arith)
        ∙ get_or-set_other (set vars place (s % 4294967296)) (place + 1) place (t % 4294967296) 0 (λ k. omega arith)
        ∙ get_or-set_same vars place (s % 4294967296) 0 (omega arith)

    pub with_end : get_or (with_variable vars v s t a) (place + 1) 0 ≡ t % 4294967296
    unfolding with_variable
    with_end =
        get_or-set_other (set (set vars place (s % 4294967296)) (place + 1) (t % 4294967296)) (place + 2) (place + 1) a 0 (λ k. omega arith)
        ∙ get_or-set_same (set vars place (s % 4294967296)) (place + 1) (t % 4294967296) 0 (simp length-set (omega arith))

    pub with_sort_lem : get_or (with_variable vars v s t a) (place + 2) 0 ≡ a
    unfolding with_variable
    with_sort_lem =
        get_or-set_same (set (set vars place (s % 4294967296)) (place + 1) (t % 4294967296)) (place + 2) a 0 (simp length-set (omega arith))

module _ (text counts : List ℕ) (Before : Reader → Stream Token → Type 0) (th : Theory) (es : Entries) (base spare : ℕ) where
  abbrev pub Was : ℕ → Stream Token → List ℕ → List Variable → Walk → List ℕ → List ℕ → Type 0
  Was = Ready text counts Before th es base spare

  abbrev pub HasRead : Stream Token → List ℕ → List Variable → ℕ → List ℕ → Walk → Areas → Pattern × List Variable → Type 0
  HasRead = PatternRead text counts Before th es base spare

  module _ {credit : ℕ} {ts : Stream Token} {ks : List ℕ} {vs : List Variable} {w : Walk} {vars heap : List ℕ} (r : Was credit ts ks vs w vars heap) where
    pub top_after : sum32 w.top 1 ≡ w.top + 1
    top_after = let m = r.room in sum_small w.top 1 (omega arith)

    pub word_there : 3 ≤ credit → (word : ℕ) → get_or (set heap w.top word) w.top 0 ≡ word
    word_there c word = let m = r.room in let l = r.holds.long in get_or-set_same heap w.top word 0 (omega arith)

    pub less_credit : (c : ℕ) → c ≤ credit → Was c ts ks vs w vars heap
    less_credit c h = ready_on text counts Before th es base spare r r.walks refl refl (omega arith)

  -- A variable that the rule has.
  again : {ts : Stream Token} {ks : List ℕ} {vs : List Variable} {w : Walk} {vars heap : List ℕ} (name : Name) (v : ℕ)
      → Was 3 ts ks vs w vars heap
      → Nth vs v name
      → v < 4294950912
      → HasRead ts ks vs w.top heap (with_top w (sum32 w.top 1)) (vars, set heap w.top (variable_word v)) (var name, vs)
  unfolding variable_word
  again {w} {heap} name v r n small =
      let e = top_after r in
      let b = r.base_low in
      let u = r.above in
      let k : sum32 places.variable v ≡ places.variable + v = sum_small places.variable v (omega arith) in
      record {
        reached = record {
          ready = push_ready text counts Before th es base spare _ r;
          keeps = keeps_set w.top heap w.top _ (omega arith);
          rises = rw e (omega arith);
          more = λ i x y. y;
        };
        flat = flat_variable {o = w.top} {v = v} (omega arith) (rw e (omega arith)) (word_there r (omega arith) _ ∙ k) n e;
      }

  -- A new variable.
  with_variable_lem : {ts : Stream Token} {ks : List ℕ} {vs : List Variable} {w : Walk} {vars heap : List ℕ} (name sort_name : Name) (s t a : ℕ)
      → Was 12 ts ks vs w vars heap
      → part s t text ≡ name
      → s < 4294967296
      → t < 4294967296
      → SortAt es a sort_name
      → Was 3 ts ks (vs ++ (variable name sort_name ∷ [])) (one_variable w) (with_variable vars w.variables s t a) heap
  with_variable_lem {vs} {w} {vars} name sort_name s t a r p hs ht m =
      let c = r.room in
      let l = r.long in
      let f : places.variable_words * w.variables + places.variable_words ≤ length vars = omega (arith, r.many) in
      record {
        walks = record { before = r.walks.before; counted = r.walks.counted; few = r.walks.few };
        holds = r.holds;
        above = r.above;
        base_low = r.base_low;
        many = sum_small w.variables 1 (omega (arith, r.many)) ∙ ap (λ (n : ℕ). n + 1) r.many ∙ sym (length-append vs (variable name sort_name ∷ []));
        long = length_with vars w.variables s t a ∙ l;
        variables =
            variables_more name sort_name (places.variable_words * w.variables)
            (variables_kept grown_none (places.variable_words * w.variables) (λ i x y. with_below vars w.variables s t a i y) (omega (arith, r.many))
            r.variables)
            (omega (arith, r.many))
            (rw (with_start vars w.variables s t a f, with_end vars w.variables s t a f, mod-eq_of_lt hs, mod-eq_of_lt ht) p)
            (rw (with_sort_lem vars w.variables s t a f) m);
        room = rw (length-append vs (variable name sort_name ∷ [])) (omega arith);
      }

  introduced_law : {ts : Stream Token} {ks : List ℕ} {vs : List Variable} {w : Walk} {vars heap : List ℕ} (name sort_name : Name) (s t a : ℕ)
      → Was 12 ts ks vs w vars heap
      → part s t text ≡ name
      → s < 4294967296
      → t < 4294967296
      → SortAt es a sort_name
      → Simulates (HasRead ts ks vs w.top heap) (introduced s t a w vars heap) (ok (var name, vs ++ (variable name sort_name ∷ [])))
  unfolding introduced pushed
  introduced_law {vs} {w} name sort_name s t a r p hs ht m =
      let c = r.room in
      let k = again name w.variables (with_variable_lem name sort_name s t a r p hs ht m) (nth_last vs name sort_name r.many) (omega (arith, r.many)) in
      leave record {
        reached = record {
          ready = k.reached.ready;
          keeps = k.reached.keeps;
          rises = k.reached.rises;
          more = λ v x n. nth_more vs (variable name sort_name ∷ []) n;
        };
        flat = k.flat;
      }

  -- "`?v` takes its place's sort, and at another sort is 14."
  variable_law : {ts : Stream Token} {ks : List ℕ} {vs : List Variable} {w : Walk} {vars heap : List ℕ} (name sort_name : Name) (s t a : ℕ)
      {o : Option ℕ} {o' : Option Variable}
      → Was 12 ts ks vs w vars heap
      → part s t text ≡ name
      → s < 4294967296
      → t < 4294967296
      → SortAt es a sort_name
      → Agree (Placed vars es 0 0 vs name) o o'
      → Simulates (HasRead ts ks vs w.top heap) (variable_at o s t a w vars heap)
      (elim o' [
        | none ↦ ok (var name, vs ++ (variable name sort_name ∷ []))
        | some (variable n u) ↦ need (named sort_name u) two_sorts >>= λ _. ok (var name, vs)
      ])
  unfolding met_again pushed number
  variable_law name sort_name s t a r p hs ht m both_none = introduced_law name sort_name s t a r p hs ht m
  variable_law {vs} {w} {vars} {heap} name sort_name s t a r p hs ht m (both_some {e = v} (placed {k} {s = u} e _ x y)) =
      let c = r.room in
      let q : v ≡ k = omega arith in
      let z : 0 + places.variable_words * v + 2 ≡ places.variable_words * v + 2 = omega arith in
      let l = nth_below vs x in
      test (eqb (get_or vars (places.variable_words * v + 2) 0) a) 14 two_sorts _ _
      (same_sort r.holds (rw z at y) m ∙ named_turned u sort_name) refl
      (λ _. leave (again name v (less_credit r 3 (omega arith)) (rw q x) (omega arith)))

  -- "In a term, `?` alone is 11".
  pub variable_pattern_law : {ts : Stream Token} {ks : List ℕ} {vs : List Variable} {w : Walk} {vars heap : List ℕ} (name sort_name : Name) (s t a : ℕ)
      → length text ≤ 8192
      → Was (4 * suc (length name)) ts ks vs w vars heap
      → part s t text ≡ name
      → s < t
      → t ≤ length text
      → questioned name ≡ true
      → SortAt es a sort_name
      → Simulates (HasRead ts ks vs w.top heap) (walk_variables.variable_pattern text s t a w vars heap) (definition.variable_pattern name sort_name vs)
  unfolding walk_variables.variable_pattern definition.variable_pattern number
  variable_pattern_law {vs} {w} {vars} name sort_name s t a short r p l u q m =
      let n : length name ≡ t - s = ap length (sym p) ∙ part-length s t text u in
      let b = bare_width name (t - s) q n in
      test (not (eqb (t - s) 1)) 11 variable_name _ _ (ap not (sym b)) refl
      (λ e.
      let d = eqb-false (t - s) 1 (sym b ∙ not-true _ e) in
      let k : Agree (Placed vars es 0 0 vs name) (variable_from w.variables vars text 0 (part s t text) 0) (first (is_variable name) vs) =
      rw (r.many, p) (variables_from text vars 0 name 0 (omega arith) r.variables) in
      variable_law name sort_name s t a (less_credit r 12 (omega arith)) p (omega arith) (omega arith) m k)

  -- The tests of a symbol's output and number of inputs are the definition's.
  symbol_fits : {heap : List ℕ} {a : ℕ} {c : Symbol} → Holds text heap es base th → (e members n : ℕ) (expected : Output) → members ≡ suc n
      → OutputAt es a expected
      → SymbolAt heap es base e c
      → (eqb (get_or heap (e + places.output) 0) a && eqb (get_or heap (e + places.arity) 0 + 1) members) ≡ fits c expected n
  unfolding fits
  symbol_fits {heap} {a} h e members n expected k m (symbol_at_lem {name} {ins} {out} x) =
      rw (same_output_lem h x.gives m, x.arity, k) (ap (λ (b : Bool). same_output out expected && b) same_number) where
        same_number : eqb (length ins + 1) (suc n) ≡ eqb (length ins) n
        same_number =
            by_number (length ins) n
            (λ q. eq-eqb (length ins + 1) (suc n) (omega arith) ∙ sym (eq-eqb (length ins) n q))
            (λ q. ne_eqb (length ins + 1) (suc n) (λ u. q (omega arith)) ∙ sym (ne_eqb (length ins) n q))

  -- A symbol found, with its output and its number of inputs.
  pub data Applied (ts : Stream Token) (ks : List ℕ) (vs : List Variable) (w : Walk) (vars heap : List ℕ) (expected : Output) (n : ℕ) : ℕ × Walk → List ℕ
      → Symbol → Type 0 where
    applied_at : {e : ℕ} {c : Symbol} {heap' : List ℕ} → SymbolAt heap es base e c → fits c expected n ≡ true → heap' ≡ set heap w.top e
        → Applied ts ks vs w vars heap expected n (e, with_top w (sum32 w.top 1)) heap' c

  pub applied_law : {ts : Stream Token} {ks : List ℕ} {vs : List Variable} {w : Walk} {vars heap : List ℕ} (buckets : ℕ) {entries : List Entry}
      (is : Name → Symbol → Bool) (name : Name) (s t a members n : ℕ) (expected : Output)
      → Was 3 ts ks vs w vars heap
      → Declares text heap base buckets entries is (SymbolAt heap es base) th.symbols
      → part s t text ≡ name
      → members ≡ suc n
      → OutputAt es a expected
      → Simulates (Applied ts ks vs w vars heap expected n) (applied text buckets a members s t w heap)
      (refusals.found (first (is name) th.symbols) unknown >>= λ c. need (fits c expected n) sort_arity >>= λ _. ok c)
  unfolding applied pushed number
  applied_law {w} {heap} buckets is name s t a members n expected r d p k m =
      rw p
      (look 12 unknown _ _ (find_agrees is (SymbolAt heap es base) name d.table d.stands) refl
      (λ e c x.
      tests (eqb (get_or heap (e + places.output) 0) a) (eqb (get_or heap (e + places.arity) 0 + 1) members) 15 sort_arity _ _
      (symbol_fits r.holds e members n expected k m x) refl
      (λ y. leave (applied_at x y refl))))

  module _ {ts : Stream Token} {ks : List ℕ} {vs : List Variable} {w : Walk} {vars heap : List ℕ} (r : Was 3 ts ks vs w vars heap) (e : ℕ) where
    -- The word of a symbol stands where it was put, and the symbol stays.
    pub symbol_word : {c : Symbol} → SymbolAt heap es base e c → SymbolAt (set heap w.top e) es base (get_or (set heap w.top e) w.top 0) c
    symbol_word x =
        let u = r.above in
        rw (word_there r (omega arith) e)
        (symbol_kept grown_none (λ i p k. (keeps_set base heap w.top e (omega arith)).words i k) (omega arith) x)

    pub low_top : base + places.patterns ≤ w.top
    low_top = r.above

    pub top_rises : w.top < sum32 w.top 1
    top_rises = rw (top_after r) (omega arith)

  -- "An atom is a constructor (12)."
  pub constant_law : {ts : Stream Token} {ks : List ℕ} {vs : List Variable} {w : Walk} {vars heap : List ℕ} (name sort_name : Name) (s t a : ℕ)
      → Was 3 ts ks vs w vars heap
      → part s t text ≡ name
      → SortAt es a sort_name
      → Simulates (HasRead ts ks vs w.top heap) (beside vars (walk.constant text s t a w heap)) (definition.constant_pattern th name sort_name vs)
  unfolding walk.constant definition.constant_pattern definition.constructor
  constant_law {ts} {ks} {vs} {w} {vars} {heap} name sort_name s t a r p m =
      aside {Q = λ q heap'' y. HasRead ts ks vs w.top heap q (vars, heap'') y} vars
      (checked _ (λ c. fits c (sort sort_name) 0) sort_arity _ (λ c. ok (app c []ₚ, vs))
      (applied_law places.constructors is_constructor name s t a 1 0 (sort sort_name) r r.holds.constructors p (omega arith) (sort_output m))
      (λ x heap' c k. leave (done x heap' c k)))
      (λ q heap' y k. k) where
        done : (x : ℕ × Walk) (heap' : List ℕ) (c : Symbol) → Applied ts ks vs w vars heap (sort sort_name) 0 x heap' c
            → HasRead ts ks vs w.top heap x.1 (vars, heap') (app c []ₚ, vs)
        done x heap' c (applied_at {e} y f q) =
            rw q
            record {
              reached = record {
                ready = push_ready text counts Before th es base spare e r;
                keeps = keeps_set w.top heap w.top e (omega arith);
                rises = le_of_lt (top_rises r e);
                more = λ i n z. z;
              };
              flat = flat_symbol {o = w.top} {o' = sum32 w.top 1} {ps = []ₚ} (low_top r e) (top_rises r e) (symbol_word r e y) (rw (top_after r) no_flats);
            }

  -- An atom at a place of a sort.
  pub leaf_law : {ts : Stream Token} {ks : List ℕ} {vs : List Variable} {w : Walk} {vars heap : List ℕ} (name sort_name : Name) (s t a : ℕ)
      → length text ≤ 8192
      → Was (4 * suc (length name)) ts ks vs w vars heap
      → part s t text ≡ name
      → s < t
      → t ≤ length text
      → SortAt es a sort_name
      → Simulates (HasRead ts ks vs w.top heap) (walk_terms.leaf text s t a w vars heap) (definition.pattern th (leaf name) sort_name vs)
  unfolding walk_terms.leaf
  leaf_law {vs} name sort_name s t a short r p l u m =
      let q : question text s ≡ questioned name = sym (part-question s t text l u) ∙ ap questioned p in
      case (questioned name)
      (λ k. rw (q, k, question_pattern th name sort_name vs k) (variable_pattern_law name sort_name s t a short r p l u k m))
      (λ k. rw (q, k, plain_pattern th name sort_name vs k) (constant_law name sort_name s t a (less_credit r 3 (omega arith)) p m))
