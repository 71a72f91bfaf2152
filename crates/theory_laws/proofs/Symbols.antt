-- Declarations of sorts, constructors and predicates: the walk answers as the definition does, and the words hold the
-- theory with what is declared. Assumes nothing.
use mathlib.Core.Path.{◌≡◌, refl, ap, ◌∙◌}
use mathlib.Core.Bool.{Bool, false, not}
use mathlib.Core.List.Memᴰ
use mathlib.Core.List.{List, [], ◌∷◌, ◌++◌}
use Prim.Native.Nat.{ℕ, ◌+◌, ◌≤◌, ◌<◌}
use native.Mathlib.Omega.{arith}
use borrow.Author.Tests.{not-true}
use lib.ListN.{length}
use Rattle.capacity.specs.Below.horn.specs.Refusals.{number, ok, need, ◌>>=◌, duplicate}
use Rattle.capacity.specs.Below.horn.specs.Names.{Name, named, some_of}
use Rattle.capacity.specs.Below.horn.specs.Tokens.{Stream, ◌▹◌, Token, closing}
use Rattle.capacity.specs.Below.horn.specs.NestedLists.{Sexp, leaf, list}
use Rattle.capacity.specs.Below.horn.specs.Rulebook as definition
use Rattle.capacity.specs.Below.horn.specs.Rulebook.{sort, judgment, symbol, Theory, is_constructor, is_predicate, with_symbol}
use Rattle.theory.specs.Below.words.specs.Parts.{part}
use Rattle.theory.specs.Below.names.specs.Chains.{found, added}
use Rattle.theory.specs.Below.names.specs.Tables.{Entry, entry, present}
use Rattle.theory.specs.Below.names.proofs.Kept.{length-added}
use Rattle.theory.specs.Below.names.proofs.Declared.{find_present}
use Rattle.theory.specs.Below.lex.specs.declared.Reader.{Reader}
use Rattle.theory.specs.Below.sexp.specs.Flattening.{flat_one, counts_one}
use Rattle.theory.specs.Below.outcomes.specs.Outcomes as outcomes
use Rattle.theory.specs.Below.outcomes.specs.Leaving as leaving
use Rattle.theory.specs.Below.outcomes.specs.Leaving.{◌leaving◌}
use Rattle.theory.specs.Below.words.specs.Sums.{sum32}
use Rattle.theory.specs.Below.items.specs.Places as places
use Rattle.theory.specs.Below.items.specs.Items.{read_on, opened_one, with_top, list_due, closing_due}
use Rattle.theory.specs.Below.items.specs.declared.Walk.{Walk}
use Rattle.theory.specs.Below.symbols.specs.Symbols.{reserved, sort_named, entered, described, sort_declared, inputs, signature, symbol_entered, constructor_declared}
use Rattle.theory.specs.Below.symbols.specs.Symbols.{predicate_declared}
use Rattle.theory.specs.Below.outcomes.specs.Simulation.{Simulates, refuse, leave, bind, pure, test_then, paired, three}
use Rattle.theory_laws.specs.Reading.{Reads, weight}
use Rattle.theory_laws.specs.Representation.{Entries, sort_at, Declares, Holds}
use Rattle.theory.specs.Below.words.proofs.Sums.{sum_small}
use Rattle.theory_laws.proofs.Items.{atom_met, list_met, ClosingMet, closing_met}
use Rattle.theory_laws.proofs.Frames.{Grown, keeps_all, keeps_less, sort_kept, symbol_kept, rule_kept}
use Rattle.theory_laws.proofs.Names.{NameRead, name_read, declared_name_lem, SortRead, sort_read, sort_named_lem, Midway, InputsRead, inputs_law}
use Rattle.theory_laws.proofs.Adding.{Adds, adds_kept, others, newer}
use Rattle.theory_laws.proofs.SymbolsAdded.{with_constructor, with_predicate, constructor_added, predicate_added}

-- The test for duplicates.
pub new_test : {text heap : List ℕ} {top buckets : ℕ} {entries : List Entry} {A : Type 0} {test : Name → A → Bool} {Means : ℕ → A → Type 0} {things : List A}
    (name : Name)
    → Declares text heap top buckets entries test Means things
    → not (present (found heap buckets places.buckets text name)) ≡ not (some_of (test name) things)
new_test {test} {Means} name d = ap not (find_present test Means name d.table d.stands)

module _ (text counted : List ℕ) (Before : Reader → Stream Token → Type 0) (reads : Reads text Before) (short : length text ≤ 8192) where
  -- After a declaration: the walk stands behind it, and the words hold the new theory.
  pub record Stood (ts : Stream Token) (ks : List ℕ) (q : Walk) (heap : List ℕ) (th : Theory) : Type 0 where
    pub entries : Entries
    pub ready : Midway text counted Before reads th entries q.top 0 ts ks q heap

  -- A sort.
  abbrev pub with_sort : Entries → Entry → Entries
  with_sort es e = record { sorts = e ∷ es.sorts; constructors = es.constructors; predicates = es.predicates; rules = es.rules }

  sort_grown : (es : Entries) (e : Entry) → Grown es (with_sort es e)
  sort_grown es e = record { sorts = λ x m. Memᴰ.tail m; constructors = λ x m. m; predicates = λ x m. m; rules = λ x m. m }

  sort_added : {heap : List ℕ} {es : Entries} {top : ℕ} {th : Theory} (name : Name) (s t : ℕ) → Holds text heap es top th
      → places.entries ≤ top
      → top + places.sort_words ≤ 16384
      → part s t text ≡ name
      → s < 4294967296
      → t < 4294967296
      → some_of (named name) th.sorts ≡ false
      → Holds text (added heap places.sorts places.buckets top text s t) (with_sort es (entry top name)) (top + places.sort_words)
      record { sorts = th.sorts ++ (name ∷ []); symbols = th.symbols; rules = th.rules }
  sort_added {heap} {es} {top} {th} name s t h low fits p small_start small_end new =
      record {
        long = length-added heap places.sorts places.buckets top text s t ∙ h.long;
        sorts = newer k (top + places.sort_words) (omega arith) (λ e a m. sort_kept g m) name name p (λ key. refl) (sort_at (Memᴰ.head refl)) new
            h.sorts;
        constructors =
            others k (top + places.sort_words) (omega arith) (λ e c m. symbol_kept g (adds_kept k) (omega arith) m) places.constructors (omega arith)
            (λ i a b c d. omega arith) h.constructors;
        predicates =
            others k (top + places.sort_words) (omega arith) (λ e c m. symbol_kept g (adds_kept k) (omega arith) m) places.predicates (omega arith)
            (λ i a b c d. omega arith) h.predicates;
        rules = others k (top + places.sort_words) (omega arith) (λ e c m. rule_kept g (adds_kept k) (omega arith) m) places.rules (omega arith)
            (λ i a b c d. omega arith) h.rules;
      } where
        g : Grown es (with_sort es (entry top name))
        g = sort_grown es (entry top name)

        k : Adds text heap (added heap places.sorts places.buckets top text s t) top 0 s t
        k = record {
          middle = heap;
          keeps = keeps_all;
          same_length = length-added heap places.sorts places.buckets top text s t;
          words = λ i u. refl;
          room = let l = h.long in omega arith;
          base_low = low;
          buckets_low = omega arith;
          small_start = small_start;
          small_end = small_end;
        }

  -- "`(sort N)`: N, then duplicate."
  sort_entered : {th : Theory} {es : Entries} (n : Sexp) {ts : Stream Token} {ks : List ℕ} {w : Walk} {heap : List ℕ} (b : ℕ × ℕ × Walk) (name : Name)
      → Midway text counted Before reads th es w.top 20 (flat_one n (closing ▹ ts)) (counts_one n ks) w heap
      → NameRead text counted Before reads n (closing ▹ ts) ks w b name
      → Simulates (Stood ts ks)
      (leaving.◌>>=◌ (entered text places.sorts w.top b.0 b.1 b.2 heap)
      (λ (q, heap). closing_due text (reserved q places.sort_words) leaving heap))
      (need (not (some_of (named name) th.sorts)) duplicate >>= λ _. ok record { sorts = th.sorts ++ (name ∷ []); symbols = th.symbols; rules = th.rules })
  unfolding entered reserved number weight
  sort_entered {th} {es} n {ts} {ks} {w} {heap} b name r (name_read {s} {t} {next} p l u z k) =
      let c = r.room in
      let e : sum32 w.top places.sort_words ≡ w.top + places.sort_words = sum_small w.top places.sort_words (omega arith) in
      let q : Walk = with_top (read_on w next) (sum32 w.top places.sort_words) in
      let m : ClosingMet text counted Before reads ts ks q =
      closing_met text counted Before reads record { before = k.before; counted = k.counted; few = k.few } in
      test_then heap (not (present (found heap places.sorts places.buckets text (part s t text)))) 13 duplicate (read_on w next)
      (added heap places.sorts places.buckets w.top text s t) _ _
      (rw p (new_test name r.holds.sorts)) refl
      (λ x.
      rw m.met
      (leave {a = read_on q m.next} {s = added heap places.sorts places.buckets w.top text s t}
      {b = record { sorts = th.sorts ++ (name ∷ []); symbols = th.symbols; rules = th.rules }} record {
        entries = with_sort es (entry w.top name);
        ready = record {
          walks = m.walks;
          holds = rw e (sort_added name s t r.holds r.base_low (omega arith) p (omega arith) (omega arith) (not-true _ x));
          above = omega arith;
          base_low = rw e (let a = r.base_low in omega arith);
          room = rw e (omega arith);
        };
      }))

  pub sort_law : {th : Theory} {es : Entries} (n : Sexp) {ts : Stream Token} {ks : List ℕ} {w : Walk} {heap : List ℕ}
      → Midway text counted Before reads th es w.top 20 (flat_one n (closing ▹ ts)) (counts_one n ks) w heap
      → Simulates (Stood ts ks) (sort_declared text counted w heap) (definition.declare_sort th n)
  unfolding sort_declared definition.declare_sort
  sort_law n r = pure _ _ (declared_name_lem text counted Before reads n r.walks) (λ b name k. sort_entered n b name r k)

  -- N and the inputs of a symbol.
  pub data SignatureRead (th : Theory) (es : Entries) (base : ℕ) (ts : Stream Token) (ks : List ℕ) (heap : List ℕ) : ℕ × ℕ × ℕ × Walk → List ℕ
      → Name × List Name → Type 0 where
    signature_read : {s t n : ℕ} {q : Walk} {heap' : List ℕ} {name : Name} {ins : List Name} → part s t text ≡ name → s < t → t ≤ length text
        → InputsRead text counted Before reads th es base n ts ks (base + places.inputs) heap q heap' ins
        → SignatureRead th es base ts ks heap (s, t, n, q) heap' (paired name ins)

  module _ {th : Theory} {es : Entries} where
    inputs_behind : {x : Sexp} (is : Sexp) {ts : Stream Token} {ks : List ℕ} {w : Walk} {heap : List ℕ} (b : ℕ × ℕ × Walk) (name : Name)
        → Midway text counted Before reads th es w.top 20 (flat_one x (flat_one is ts)) (counts_one x (counts_one is ks)) w heap
        → NameRead text counted Before reads x (flat_one is ts) (counts_one is ks) w b name
        → Simulates (SignatureRead th es w.top ts ks heap)
        (leaving.◌>>=◌ (list_due text counted b.2 leaving heap)
        (λ ((n, q), heap). leaving.◌>>=◌ (inputs n text counted (reserved q 5) heap) (λ (q, heap). outcomes.ok (b.0, b.1, n, q) leaving heap)))
        (definition.list_due is >>= λ xs. definition.sorts_named th xs >>= λ ins. ok (paired name ins))
    unfolding list_due definition.list_due flat_one counts_one number weight reserved ◌>>=◌
    inputs_behind (leaf bytes) b name r (name_read p l u z k) = rw (atom_met text counted Before reads k).met (refuse refl)
    inputs_behind (list xs) {ts} {ks} {w} {heap} b name r (name_read {s} {t} {next} p l u z k) =
        let m = list_met text counted Before reads k in
        let c = r.room in
        let a = r.base_low in
        let e : sum32 w.top 5 ≡ w.top + 5 = sum_small w.top 5 (omega arith) in
        let q : Walk = with_top (opened_one (read_on w next) m.next) (sum32 w.top 5) in
        rw m.met
        (bind _ _
        (inputs_law text counted Before reads th es w.top xs ts ks q heap
        record {
          walks = record { before = m.walks.before; counted = m.walks.counted; few = m.walks.few };
          holds = r.holds;
          above = rw e (omega arith);
          base_low = a;
          room = rw e (omega arith);
        })
        (λ q' heap' ins y. leave (signature_read p l u (rw e at y))))

    pub signature_law : (x is : Sexp) {ts : Stream Token} {ks : List ℕ} {w : Walk} {heap : List ℕ}
        → Midway text counted Before reads th es w.top 20 (flat_one x (flat_one is ts)) (counts_one x (counts_one is ks)) w heap
        → Simulates (SignatureRead th es w.top ts ks heap) (signature text counted w heap)
        (definition.declared_name x >>= λ name. definition.list_due is >>= λ xs. definition.sorts_named th xs >>= λ ins. ok (paired name ins))
    unfolding signature
    signature_law x is r = pure _ _ (declared_name_lem text counted Before reads x r.walks) (λ b name k. inputs_behind is b name r k)

    -- A symbol's entry, then the closing of its declaration.
    symbol_entered_lem : {th' : Theory} {es' : Entries} {base : ℕ} {ts : Stream Token} {ks : List ℕ} {q : Walk} {heap : List ℕ} (b s t a n : ℕ) (x : Bool)
        → Midway text counted Before reads th es base 0 (closing ▹ ts) ks q heap
        → not (present (found heap b places.buckets text (part s t text))) ≡ not x
        → (x ≡ false → Holds text (described base a n (added heap b places.buckets base text s t)) es' q.top th')
        → Simulates (Stood ts ks) (symbol_entered text b base s t a n q heap) (need (not x) duplicate >>= λ _. ok th')
    unfolding symbol_entered entered number weight
    symbol_entered_lem {th'} {es'} {base} {ts} {ks} {q} {heap} b s t a n x r e h =
        let m = closing_met text counted Before reads r.walks in
        let c = r.room in
        let u = r.above in
        let l = r.base_low in
        test_then heap (not (present (found heap b places.buckets text (part s t text)))) 13 duplicate q (added heap b places.buckets base text s t) _ _ e refl
        (λ y.
        rw m.met
        (leave {b = th'} record {
          entries = es';
          ready = record { walks = m.walks; holds = h (not-true x y); above = omega arith; base_low = omega arith; room = omega arith };
        }))

    output_behind : (o : Sexp) {ts : Stream Token} {ks : List ℕ} {base : ℕ} {heap : List ℕ} (b : ℕ × ℕ × ℕ × Walk) (heap' : List ℕ) (name : Name)
        (ins : List Name)
        → Holds text heap es base th
        → SignatureRead th es base (flat_one o (closing ▹ ts)) (counts_one o ks) heap b heap' (paired name ins)
        → Simulates (Stood ts ks)
        (leaving.◌>>=◌ (sort_named text counted heap' b.3 leaving heap')
        (λ ((a, q), heap). symbol_entered text places.constructors base b.0 b.1 a b.2 q heap))
        (definition.sort_named th o >>= λ out. need (not (some_of (is_constructor name) th.symbols)) duplicate
        >>= λ _. ok (with_symbol th (symbol name ins (sort out))))
    output_behind o {ts} {ks} {base} {heap} b heap' name ins h (signature_read {s} {t} {n} {q} p l u k) =
        pure _ _ (sort_named_lem text counted Before reads k.ready.holds o k.ready.walks) (λ x out y. one x out y) where
          one : (x : ℕ × Walk) (out : Name) → SortRead text counted Before reads es o (closing ▹ ts) ks q x out
              → Simulates (Stood ts ks) (symbol_entered text places.constructors base s t x.0 n x.1 heap')
              (need (not (some_of (is_constructor name) th.symbols)) duplicate >>= λ _. ok (with_symbol th (symbol name ins (sort out))))
          one x out (sort_read {a} {next} m paid g) =
              let c = k.ready.room in
              let v = k.ready.above in
              let j = k.ready.base_low in
              let i = k.words in
              symbol_entered_lem {th' = with_symbol th (symbol name ins (sort out))} {es' = with_constructor es (entry base name)} {base = base}
              places.constructors s t a n (some_of (is_constructor name) th.symbols)
              record { walks = g; holds = k.ready.holds; above = v; base_low = j; room = omega arith }
              (rw p (new_test name k.ready.holds.constructors))
              (λ new.
              constructor_added text heap heap' es th base q.top s t a n name ins h (keeps_less (omega arith) k.keeps) j (omega arith) (omega arith)
              p (omega arith) (omega arith) k.sorts k.many out m new)

    pub constructor_law : (x is o : Sexp) {ts : Stream Token} {ks : List ℕ} {w : Walk} {heap : List ℕ}
        → Midway text counted Before reads th es w.top 20 (flat_one x (flat_one is (flat_one o (closing ▹ ts))))
        (counts_one x (counts_one is (counts_one o ks))) w heap
        → Simulates (Stood ts ks) (constructor_declared text counted w heap) (definition.declare_constructor th x is o)
    unfolding constructor_declared definition.declare_constructor
    constructor_law x is o {ts} {ks} {w} {heap} r =
        rw (← three (definition.declared_name x) (definition.list_due is) (definition.sorts_named th)
        (λ name ins. definition.sort_named th o >>= λ out. need (not (some_of (is_constructor name) th.symbols)) duplicate
        >>= λ _. ok (with_symbol th (symbol name ins (sort out)))))
        (bind _ _ (signature_law x is r) (λ b heap' y k. output_behind o b heap' y.0 y.1 r.holds k))

    pub predicate_law : (x is : Sexp) {ts : Stream Token} {ks : List ℕ} {w : Walk} {heap : List ℕ}
        → Midway text counted Before reads th es w.top 20 (flat_one x (flat_one is (closing ▹ ts))) (counts_one x (counts_one is ks)) w heap
        → Simulates (Stood ts ks) (predicate_declared text counted w heap) (definition.declare_predicate th x is)
    unfolding predicate_declared definition.declare_predicate
    predicate_law x is {ts} {ks} {w} {heap} r =
        rw (← three (definition.declared_name x) (definition.list_due is) (definition.sorts_named th)
        (λ name ins. need (not (some_of (is_predicate name) th.symbols)) duplicate >>= λ _. ok (with_symbol th (symbol name ins judgment))))
        (bind _ _ (signature_law x is r) (λ b heap' y k. one b heap' y.0 y.1 k)) where
          one : (b : ℕ × ℕ × ℕ × Walk) (heap' : List ℕ) (name : Name) (ins : List Name)
              → SignatureRead th es w.top (closing ▹ ts) ks heap b heap' (paired name ins)
              → Simulates (Stood ts ks) (symbol_entered text places.predicates w.top b.0 b.1 0 b.2 b.3 heap')
              (need (not (some_of (is_predicate name) th.symbols)) duplicate >>= λ _. ok (with_symbol th (symbol name ins judgment)))
          one b heap' name ins (signature_read {s} {t} {n} {q} p l u k) =
              let c = k.ready.room in
              let j = k.ready.base_low in
              let i = k.words in
              symbol_entered_lem {th' = with_symbol th (symbol name ins judgment)} {es' = with_predicate es (entry w.top name)} {base = w.top}
              places.predicates s t 0 n (some_of (is_predicate name) th.symbols)
              k.ready
              (rw p (new_test name k.ready.holds.predicates))
              (λ new.
              predicate_added text heap heap' es th w.top q.top s t 0 n name ins r.holds (keeps_less (omega arith) k.keeps) j (omega arith)
              (omega arith)
              p (omega arith) (omega arith) k.sorts k.many refl new)
