-- Terms and their arguments, by induction on the definition's items. Assumes nothing.
use Prim.Native.Nat.{ℕ, zero, suc, ◌+◌, ◌*◌, ◌≤◌, ◌<◌}
use mathlib.Core.Path.{◌≡◌, refl, ap₂, sym, ◌∙◌}
use mathlib.Core.Bool.{false, not}
use mathlib.Core.List.{List, [], ◌∷◌}
use native.Mathlib.Omega.{arith}
use borrow.Author.Tests.{eq-eqb, ne_eqb}
use lib.Dec.{eqb}
use lib.ListN.{length, set, length-set}
use lib.Seq.{get_or-set_same}
use Rattle.asking_laws.specs.Below.horn.specs.Refusals as refusals
use Rattle.asking_laws.specs.Below.horn.specs.Refusals.{Refusal, Result, number, not_utf8, nesting, text_ends, stray_closing, atom_or_list, bracketed_constant}
use Rattle.asking_laws.specs.Below.horn.specs.Setting.{document01}
use Rattle.asking_laws.specs.Below.horn.specs.Names.{Name, is_zero}
use Rattle.asking_laws.specs.Below.horn.specs.Tokens.{Stream, Token}
use Rattle.asking_laws.specs.Below.horn.specs.NestedLists.{Item, word, group, Items, closed, ended, bad_line, ◌then◌, asked_at, absent}
use Rattle.asking_laws.specs.Below.horn.specs.Rulebook.{Symbol, Theory, constructor}
use Rattle.asking_laws.specs.Below.horn.specs.StoredTerms.{Term, Terms, []ₜ, ◌∷ₜ◌, width, Store}
use Rattle.asking_laws.specs.Below.horn.specs.Checker as definition
use Rattle.asking_laws.specs.Below.horn.specs.Checker.{Def}
use Rattle.judgments.specs.Below.lex.specs.declared.Reader.{Reader}
use Rattle.judgments.specs.Below.arena.proofs.Trees.{Below, both, lookups}
use Rattle.judgments.specs.Below.arena.proofs.Trees as trees
use Rattle.judgments.specs.Below.outcomes.specs.Outcomes as outcomes
use Rattle.judgments.specs.Below.outcomes.specs.Outcomes.{Outcome}
use Rattle.judgments.specs.Below.outcomes.specs.Leaving as leaving
use Rattle.judgments.specs.Below.outcomes.specs.Leaving.{Did, ◌leaving◌}
use Rattle.judgments.specs.Below.words.specs.Sums.{sum32}
use Rattle.judgments.specs.Below.outcomes.specs.Simulation.{Answers, both_refuse, both_ok, Simulates, refuse, leave, bind, after, weaker}
use Rattle.asking_laws.specs.Below.theory_laws.specs.Representation.{Entries, SymbolAt, Holds}
use Rattle.judgments.specs.Below.words.proofs.Sums.{sum_small}
use Rattle.asking_laws.specs.Below.theory_laws.proofs.Frames.{Keeps, keeps_all, keeps_less, keeps_then, keeps_set}
use Rattle.judgments.specs.Below.theory_reading.specs.Addresses.{symbol_at}
use Rattle.judgments.specs.Below.theory_reading.proofs.Stored.{Longer, longer_none, longer_then, longer_length, longer_tree, Stored, Means}
use Rattle.judgments.specs.Below.tables.specs.Representation.{Defs}
use Rattle.asking_laws.specs.Below.asking.specs.Asking as asked
use Rattle.asking_laws.proofs.Places.{RestComes, At, at_less, at_within}
use Rattle.asking_laws.proofs.Asking.{ItemMet, atom_met, list_met, item_law, WordMet, word_met, word_law, Looked, look_closed, look_bad, look_ended, look_item}
use Rattle.asking_laws.proofs.Asking.{look_law}
use Rattle.judgments.specs.Below.terms.specs.Terms as walk
use Rattle.judgments.specs.Below.theory_reading.specs.Storing.{Areas}
use Rattle.judgments.specs.Below.nodes.specs.Nodes.{make, constructor_due, head_due}
use Rattle.judgments.specs.Below.nodes.specs.Limits.{index_places, def_buckets}
use Rattle.terms_laws.proofs.Asked.{asked_then, asked_no, asked_yes}
use Rattle.terms_laws.proofs.Rows.{Row, no_words, one_word}
use Rattle.terms_laws.proofs.Making.{TermRead, make_law}
use Rattle.terms_laws.proofs.Atoms.{SymbolMet, symbol_met, constructor_law, atom_law}

-- The store and the stack before a term is read, which goes on top of the stack: two bytes at least were read for each word on it.
pub record Ready (es : Entries) (th : Theory) (text : List ℕ) (ts₀ : Store) (K : Stream Token → Type 0) (top spent : ℕ) (ts : Store) (r : Reader)
    (store stack : List ℕ) : Type 0 where
  pub reader : At text K spent r
  pub room : 2 * top ≤ spent
  pub stored : Stored es th document01 index_places store ts
  pub grown : Longer ts₀ ts
  pub long : length stack ≡ 16384

-- Arguments were read: their numbers stand on the stack, from word `place` on.
pub record ArgumentsRead (es : Entries) (th : Theory) (text : List ℕ) (K : Stream Token → Type 0) (place n spent : ℕ) (stack : List ℕ) (ts : Store)
    (x : ℕ × Reader) (left : Areas) (y : Terms × Store) : Type 0 where
  pub ms : List ℕ
  pub count : x.0 ≡ n + length ms
  pub reader : At text K (spent + 2 * length ms) x.1
  pub stored : Stored es th document01 index_places left.0 y.1
  pub below : Below (length y.1.terms) ms
  pub terms : lookups (symbol_at es th) y.1.terms ms ≡ y.0
  pub grown : Longer ts y.1
  pub row : Row left.1 place ms
  pub keeps : Keeps place stack left.1

module _ (text : List ℕ) (table : List ℕ) {rules heap : List ℕ} {es : Entries} {bound : ℕ} {th : Theory} (h : Holds rules heap es bound th)
    (defs : List Def) (ts₀ : Store) {base : ℕ} (abbreviations : Defs text table def_buckets base (Means es th ts₀) defs) where
  abbrev pub TermLaw : Item → Type 1
  TermLaw item = (left depth top spent : ℕ) (K : Stream Token → Type 0) (rest : Items) (ts : Store) (r : Reader) (store stack : List ℕ) → depth + left ≡ 257
      → Ready es th text ts₀ (RestComes (item then rest) K) top spent ts r store stack
      → Simulates (TermRead es th (At text (RestComes rest K) (spent + 2)) top stack ts) (walk.term left text rules heap table top r store stack)
      (refusals.◌>>=◌ (asked_at depth) (λ _. definition.term document01 th defs depth item ts))

  abbrev pub CompoundLaw : Items → Type 1
  CompoundLaw is = (left depth top spent : ℕ) (K : Stream Token → Type 0) (ts : Store) (r : Reader) (store stack : List ℕ) → depth + left ≡ 257
      → Ready es th text ts₀ (RestComes is K) top spent ts r store stack
      → Simulates (TermRead es th (At text K (spent + 2)) top stack ts)
      (walk.term_of (walk.term left text rules heap table) left text rules heap table top (asked.list r) store stack)
      (definition.compound_term document01 th defs depth is ts)

  abbrev pub ArgumentsLaw : Items → Type 1
  ArgumentsLaw is =
      (left depth top n place spent fuel : ℕ) (K : Stream Token → Type 0) (ts : Store) (r : Reader) (store stack : List ℕ) → depth + left ≡ 257
      → place ≡ top + n → fuel + n ≡ length text + 1 → Ready es th text ts₀ (RestComes is K) place spent ts r store stack
      → Simulates (ArgumentsRead es th text K place n spent stack ts) (walk.arguments_from (walk.term left text rules heap table) fuel text top n r store stack)
      (definition.arguments document01 th defs depth is ts)

  -- What is on the stack was read before, and so is what comes on top of it now, each in two bytes at least: the stack has room for what a text can pay for.
  module _ (holds : (k : ℕ) → 2 * k ≤ suc (length text) → k ≤ 16384) where
    fits : {K : Stream Token → Type 0} (top spent : ℕ) {r : Reader} → At text K (spent + 2) r → 2 * top ≤ spent → top + 1 ≤ 16384
    fits top spent a l = let b = at_within a in holds (top + 1) (omega arith)

    -- A term of one item: the item is asked for, then it is an atom or a list.
    term_step : (item : Item) (left depth top spent : ℕ) (K : Stream Token → Type 0) (rest : Items) (ts : Store) (r : Reader) (store stack : List ℕ)
        → depth + left ≡ 257 → Ready es th text ts₀ (RestComes (item then rest) K) top spent ts r store stack
        → ((l : ℕ) (m : asked.Met) → left ≡ suc l → ItemMet text K spent m (item, rest)
        → Simulates (TermRead es th (At text (RestComes rest K) (spent + 2)) top stack ts)
        (walk.term_of (walk.term l text rules heap table) l text rules heap table top m store stack) (definition.term document01 th defs depth item ts))
        → Simulates (TermRead es th (At text (RestComes rest K) (spent + 2)) top stack ts) (walk.term left text rules heap table top r store stack)
        (refusals.◌>>=◌ (asked_at depth) (λ _. definition.term document01 th defs depth item ts))
    unfolding walk.term refusals.◌>>=◌ number definition.ask
    term_step item zero depth top spent K rest ts r store stack e ready k = rw (asked_no depth e) (refuse refl)
    term_step item (suc l) depth top spent K rest ts r store stack e ready k =
        rw (asked_yes l depth e) (by (rw (asked_yes l depth e) at (item_law text K spent (item then rest) (suc l) depth e ready.reader))) where
          by : {o : Outcome asked.Met} → Answers (ItemMet text K spent) o (refusals.ok (item, rest))
              → Simulates (TermRead es th (At text (RestComes rest K) (spent + 2)) top stack ts)
              (leaving.◌>>=◌ (o leaving (store, stack))
              (λ p. walk.term_of (walk.term l text rules heap table) l text rules heap table top p.0 p.1.0 p.1.1))
              (definition.term document01 th defs depth item ts)
          by (both_ok q) = k l _ refl q

    term_word : (name : Name) → TermLaw (word name)
    unfolding definition.term
    term_word name left depth top spent K rest ts r store stack e ready =
        term_step (word name) left depth top spent K rest ts r store stack e ready (λ l m f q. by l q) where
          by : (l : ℕ) {m : asked.Met} → ItemMet text K spent m (word name, rest)
              → Simulates (TermRead es th (At text (RestComes rest K) (spent + 2)) top stack ts)
              (walk.term_of (walk.term l text rules heap table) l text rules heap table top m store stack) (definition.atom_term document01 th defs name ts)
          by l (atom_met {s} {t} {r = q} n a b there) =
              let z = fits top spent there ready.room in
              let y = ready.long in
              atom_law text table h defs ts₀ abbreviations (At text (RestComes rest K) (spent + 2)) s t q n there top stack a b ready.stored ready.grown
              (omega arith) (omega arith)

    term_group : (inner : Items) → CompoundLaw inner → TermLaw (group inner)
    unfolding definition.term
    term_group inner law left depth top spent K rest ts r store stack e ready =
        term_step (group inner) left depth top spent K rest ts r store stack e ready (λ l m f q. by l f q) where
          by : (l : ℕ) {m : asked.Met} → left ≡ suc l → ItemMet text K spent m (group inner, rest)
              → Simulates (TermRead es th (At text (RestComes rest K) (spent + 2)) top stack ts)
              (walk.term_of (walk.term l text rules heap table) l text rules heap table top m store stack)
              (definition.compound_term document01 th defs (suc depth) inner ts)
          by l f (list_met {r = q} there bare) =
              law l (suc depth) top spent (RestComes rest K) ts q store stack (omega arith)
              record { reader = there; room = ready.room; stored = ready.stored; grown = ready.grown; long = ready.long }

    -- What follows the head of a term in brackets.
    abbrev walk_on : ℕ → ℕ → ℕ → Reader → List ℕ → List ℕ → Did Areas (ℕ × Reader)
    walk_on left top c q store stack =
        leaving.◌>>=◌ (walk.arguments_from (walk.term left text rules heap table) (length text + 1) text (sum32 top 1) 0 q store stack)
        (λ p. leaving.◌>>=◌ (outcomes.need (not (eqb p.0.0 0)) 16 leaving p.1) (λ _. make heap c top p.0.0 p.0.1 p.1.0 p.1.1))

    abbrev defined_on : ℕ → Symbol → Items → Store → Result (Term × Store)
    defined_on depth d rest ts =
        refusals.◌>>=◌ {A = Terms × Store} (definition.arguments document01 th defs depth rest ts)
        (λ p. refusals.◌>>=◌ {A = Unit {0} × Store} (refusals.◌>>=◌ (refusals.need (not (is_zero (width p.0))) bracketed_constant)
        (λ a. refusals.ok (a, p.1))) (λ u. definition.make document01 d p.0 u.1))

    -- "After the closing come 16 for a bracketed constructor without arguments, then 15 for arity and sorts, then the store."
    pub made_of : (top spent c : ℕ) (d : Symbol) (K : Stream Token → Type 0) (ts : Store) (stack : List ℕ) (x : ℕ × Reader) (left : Areas)
        (y : Terms × Store) → 2 * top ≤ spent → length stack ≡ 16384 → SymbolAt heap es bound c d
        → ArgumentsRead es th text K (top + 1) 0 (spent + 2) stack ts x left y
        → Simulates (TermRead es th (At text K (spent + 2)) top stack ts) (make heap c top x.0 x.1 left.0 left.1)
        (definition.make document01 d y.0 y.1)
    made_of top spent c d K ts stack x left y l long a q =
        let n = q.count in
        let z = at_within q.reader in
        let w = holds (top + 1 + length q.ms) (omega arith) in
        let u = q.keeps.same_length in
        rw (← q.terms)
        (weaker
        (make_law h (At text K (spent + 2)) top left.1 q.stored x.1 (at_less (spent + 2) (omega arith) q.reader) x.0 a q.row q.below
        (omega arith) (omega arith) (omega arith))
        (λ v w b t.
        record {
          reader = t.reader;
          stored = t.stored;
          means = t.means;
          grown = longer_then q.grown t.grown;
          keeps = keeps_then (omega arith) (keeps_less (omega arith) q.keeps) t.keeps;
        }))

    compounded : (left depth top spent c : ℕ) (d : Symbol) (K : Stream Token → Type 0) (rest : Items) (ts : Store) (r : Reader) (store stack : List ℕ)
        → ArgumentsLaw rest → depth + left ≡ 257 → 2 * top ≤ spent → SymbolAt heap es bound c d
        → Ready es th text ts₀ (RestComes rest K) (top + 1) (spent + 2) ts r store stack
        → Simulates (TermRead es th (At text K (spent + 2)) top stack ts) (walk_on left top c r store stack) (defined_on depth d rest ts)
    unfolding refusals.◌>>=◌ refusals.need number lookups is_zero width
    compounded left depth top spent c d K rest ts r store stack law e l a ready =
        let z = fits top spent ready.reader l in
        rw (sum_small top 1 (omega arith))
        (bind _ _ (law left depth (top + 1) 0 (top + 1) (spent + 2) (length text + 1) K ts r store stack e (omega arith) (omega arith) ready)
        (λ x s y q. by x s y q q.ms q.count q.terms)) where
          by : (x : ℕ × Reader) (s : Areas) (y : Terms × Store) (q : ArgumentsRead es th text K (top + 1) 0 (spent + 2) stack ts x s y) (ms : List ℕ)
              → x.0 ≡ 0 + length ms → lookups (symbol_at es th) y.1.terms ms ≡ y.0
              → Simulates (TermRead es th (At text K (spent + 2)) top stack ts)
              (leaving.◌>>=◌ (outcomes.need (not (eqb x.0 0)) 16 leaving s) (λ _. make heap c top x.0 x.1 s.0 s.1))
              (refusals.◌>>=◌ {A = Unit {0} × Store} (refusals.◌>>=◌ (refusals.need (not (is_zero (width y.0))) bracketed_constant)
              (λ b. refusals.ok (b, y.1))) (λ u. definition.make document01 d y.0 u.1))
          by x s y q [] n t = rw (eq-eqb x.0 0 n, ← t) (refuse refl)
          by x s y q (m ∷ ms) n t =
              let nil : is_zero (width y.0) ≡ false = rw (← t) in
              rw (ne_eqb x.0 0 (λ f. omega arith), nil) (made_of top spent c d K ts stack x s y l ready.long a q)

    -- No head there, or none that is an atom.
    abbrev Refuses : ℕ → Items → Refusal → Type 0
    Refuses depth is x =
        (definition.ask_word depth is ≡ refusals.refused x) × ((ts : Store) → definition.compound_term document01 th defs depth is ts ≡ refusals.refused x)

    headless : (is : Items) (x : Refusal) (left depth top spent : ℕ) (K : Stream Token → Type 0) (ts : Store) (r : Reader) (store stack : List ℕ)
        → Refuses depth is x → depth + left ≡ 257 → Ready es th text ts₀ (RestComes is K) top spent ts r store stack
        → Simulates (TermRead es th (At text K (spent + 2)) top stack ts)
        (walk.term_of (walk.term left text rules heap table) left text rules heap table top (asked.list r) store stack)
        (definition.compound_term document01 th defs depth is ts)
    unfolding head_due
    headless is x left depth top spent K ts r store stack (a, b) e ready =
        rw (b ts) (by _ (rw a at (word_law text K spent is left depth e ready.reader))) where
          by : {o : Outcome (ℕ × ℕ × Reader)} (f : (ℕ × Reader) × Areas → Did Areas (ℕ × Reader)) → Answers (WordMet text K spent) o (refusals.refused x)
              → Simulates (TermRead es th (At text K (spent + 2)) top stack ts)
              (leaving.◌>>=◌ (outcomes.◌>>=◌ o (λ p. constructor_due text rules heap p.0 p.1 p.2) leaving (store, stack)) f) (refusals.refused x)
          by f (both_refuse q) = refuse q

    no_head : (is : Items) (x : Refusal) → ((depth : ℕ) → asked_at depth ≡ refusals.refused nesting → Refuses depth is nesting)
        → ((depth : ℕ) → asked_at depth ≡ refusals.ok tt → Refuses depth is x) → CompoundLaw is
    no_head is x f g zero depth top spent K ts r store stack e ready =
        headless is nesting zero depth top spent K ts r store stack (f depth (asked_no depth e)) e ready
    no_head is x f g (suc l) depth top spent K ts r store stack e ready =
        headless is x (suc l) depth top spent K ts r store stack (g depth (asked_yes l depth e)) e ready

    compound_closed : CompoundLaw closed
    unfolding definition.compound_term definition.lift definition.ask_word definition.ask absent refusals.◌>>=◌
    compound_closed = no_head closed stray_closing (λ depth a. (rw a, λ ts. rw a)) (λ depth a. (rw a, λ ts. rw a))

    compound_ended : CompoundLaw ended
    unfolding definition.compound_term definition.lift definition.ask_word definition.ask absent refusals.◌>>=◌
    compound_ended = no_head ended text_ends (λ depth a. (rw a, λ ts. rw a)) (λ depth a. (rw a, λ ts. rw a))

    compound_bad : CompoundLaw bad_line
    unfolding definition.compound_term definition.lift definition.ask_word definition.ask absent refusals.◌>>=◌
    compound_bad = no_head bad_line not_utf8 (λ depth a. (rw a, λ ts. rw a)) (λ depth a. (rw a, λ ts. rw a))

    compound_group : (inner rest : Items) → CompoundLaw (group inner then rest)
    unfolding definition.compound_term definition.◌>>=◌ definition.lift definition.ask_word definition.ask definition.word_due refusals.◌>>=◌
    compound_group inner rest = no_head (group inner then rest) atom_or_list (λ depth a. (rw a, λ ts. rw a)) (λ depth a. (rw a, λ ts. rw a))

    compound_word : (name : Name) (rest : Items) → ArgumentsLaw rest → CompoundLaw (word name then rest)
    unfolding definition.compound_term definition.◌>>=◌ definition.lift definition.ask_word definition.ask definition.word_due refusals.◌>>=◌ head_due
    compound_word name rest law zero depth top spent K ts r store stack e ready =
        let a = asked_no depth e in headless (word name then rest) nesting zero depth top spent K ts r store stack (rw a, λ ts. rw a) e ready
    compound_word name rest law (suc l) depth top spent K ts r store stack e ready =
        rw (asked_yes l depth e) (by (rw (asked_yes l depth e) at (word_law text K spent (word name then rest) (suc l) depth e ready.reader))) where
          found : {o : Outcome (ℕ × Reader)} {m : Result Symbol} → Answers (SymbolMet heap es bound (At text (RestComes rest K) (spent + 2))) o m
              → Simulates (TermRead es th (At text K (spent + 2)) top stack ts)
              (leaving.◌>>=◌ (o leaving (store, stack)) (λ p. walk_on (suc l) top p.0.0 p.0.1 p.1.0 p.1.1))
              (refusals.◌>>=◌ {A = Symbol × Store} (refusals.◌>>=◌ m (λ c. refusals.ok (c, ts))) (λ p. defined_on depth p.0 rest p.1))
          found (both_refuse f) = refuse f
          found (both_ok (symbol_met {a = c} {q} {c = d} x there)) =
              let b = ready.room in
              compounded (suc l) depth top spent c d K rest ts q store stack law e ready.room x
              record { reader = there; room = omega arith; stored = ready.stored; grown = ready.grown; long = ready.long }

          by : {o : Outcome (ℕ × ℕ × Reader)} → Answers (WordMet text K spent) o (refusals.ok (name, rest))
              → Simulates (TermRead es th (At text K (spent + 2)) top stack ts)
              (leaving.◌>>=◌ (outcomes.◌>>=◌ o (λ p. constructor_due text rules heap p.0 p.1 p.2) leaving (store, stack))
              (λ p. walk_on (suc l) top p.0.0 p.0.1 p.1.0 p.1.1))
              (refusals.◌>>=◌ {A = Symbol × Store} (refusals.◌>>=◌ (constructor th name) (λ c. refusals.ok (c, ts)))
              (λ p. defined_on depth p.0 rest p.1))
          by (both_ok (word_met {s} {t} {r = q} n a b there)) =
              found (constructor_law text table h defs ts₀ abbreviations (At text (RestComes rest K) (spent + 2)) s t q n there)

    -- The number of arguments is within the fuel: each of them took two bytes at least.
    no_fuel : {C : Type 0} {K : Stream Token → Type 0} {spent : ℕ} (top n place : ℕ) {r : Reader} → At text K spent r → 2 * place ≤ spent → place ≡ top + n
        → 0 + n ≡ length text + 1 → C
    no_fuel top n place a l p f = let b = at_within a in absurd (omega arith)

    module _ (left top n fuel : ℕ) where
      -- One turn of the loop, by the look ahead.
      abbrev turn : Outcome asked.Ahead → List ℕ → List ℕ → Did Areas (ℕ × Reader)
      turn o store stack =
          leaving.◌>>=◌ (o leaving (store, stack))
          (λ p. walk.one_more (walk.term left text rules heap table) (walk.arguments_from (walk.term left text rules heap table) fuel text top) top n p.0
          p.1.0 p.1.1)

    arguments_closed : ArgumentsLaw closed
    unfolding walk.arguments_from definition.arguments definition.give lookups
    arguments_closed left depth top n place spent zero K ts r store stack e p f ready = no_fuel top n place ready.reader ready.room p f
    arguments_closed left depth top n place spent (suc fuel) K ts r store stack e p f ready = by (look_law text K spent closed ready.reader) where
      nothing_read : (q : Reader) → At text K spent q → ArgumentsRead es th text K place n spent stack ts (n, q) (store, stack) ([]ₜ, ts)
      nothing_read q there =
          record {
            ms = [];
            count = omega arith;
            reader = at_less (spent + 0) (omega arith) there;
            stored = ready.stored;
            below = trees.none;
            terms = refl;
            grown = longer_none;
            row = no_words;
            keeps = keeps_all;
          }

      by : {o : Outcome asked.Ahead} → Looked text K spent closed o
          → Simulates (ArgumentsRead es th text K place n spent stack ts) (turn left top n fuel o store stack) (refusals.ok ([]ₜ, ts))
      by (look_closed {q} there) = leave (nothing_read q there)

    arguments_bad : ArgumentsLaw bad_line
    unfolding walk.arguments_from definition.arguments definition.lift refusals.◌>>=◌ number
    arguments_bad left depth top n place spent zero K ts r store stack e p f ready = no_fuel top n place ready.reader ready.room p f
    arguments_bad left depth top n place spent (suc fuel) K ts r store stack e p f ready = by (look_law text K spent bad_line ready.reader) where
      by : {o : Outcome asked.Ahead} → Looked text K spent bad_line o
          → Simulates (ArgumentsRead es th text K place n spent stack ts) (turn left top n fuel o store stack) (refusals.refused not_utf8)
      by look_bad = refuse refl

    -- At the end of the text a term is asked for.
    term-ended : {B C : Type 0} {R : ℕ × Reader → Areas → B → Type 0} (left depth top spent : ℕ) (K : Stream Token → Type 0) (r : Reader) (store stack : List ℕ)
        (f : (ℕ × Reader) × Areas → Did Areas (ℕ × Reader)) (g : C → Result B) → depth + left ≡ 257 → At text (RestComes ended K) spent r
        → Simulates R (leaving.◌>>=◌ (walk.term left text rules heap table top r store stack) f) (refusals.◌>>=◌ (absent depth text_ends) g)
    unfolding walk.term refusals.◌>>=◌ number definition.ask absent
    term-ended zero depth top spent K r store stack f g e there = rw (asked_no depth e) (refuse refl)
    term-ended {R = R} (suc l) depth top spent K r store stack f g e there =
        rw (asked_yes l depth e) (by (rw (asked_yes l depth e) at (item_law text K spent ended (suc l) depth e there))) where
          by : {o : Outcome asked.Met} {x : Refusal} → Answers (ItemMet text K spent) o (refusals.refused x)
              → Simulates R (leaving.◌>>=◌ (leaving.◌>>=◌ (o leaving (store, stack))
              (λ p. walk.term_of (walk.term l text rules heap table) l text rules heap table top p.0 p.1.0 p.1.1)) f) (refusals.refused x)
          by (both_refuse z) = refuse z

    arguments_ended : ArgumentsLaw ended
    unfolding walk.arguments_from definition.arguments definition.lift
    arguments_ended left depth top n place spent zero K ts r store stack e p f ready = no_fuel top n place ready.reader ready.room p f
    arguments_ended left depth top n place spent (suc fuel) K ts r store stack e p f ready = by (look_law text K spent ended ready.reader) where
      by : {o : Outcome asked.Ahead} → Looked text K spent ended o
          → Simulates (ArgumentsRead es th text K place n spent stack ts) (turn left top n fuel o store stack)
          (refusals.◌>>=◌ (absent depth text_ends) (λ a. refusals.ok (a, ts)))
      by (look_ended {q} there) = term-ended left depth (sum32 top n) spent K q store stack _ _ e there

    -- One argument more.
    arguments_more : (item : Item) (rest : Items) → TermLaw item → ArgumentsLaw rest → ArgumentsLaw (item then rest)
    unfolding walk.arguments_from definition.arguments definition.◌>>=◌ definition.lift definition.give lookups
    arguments_more item rest one law left depth top n place spent zero K ts r store stack e p f ready = no_fuel top n place ready.reader ready.room p f
    arguments_more item rest one law left depth top n place spent (suc fuel) K ts r store stack e p f ready =
        rw (asked_then {A = Term × Store} {B = Terms × Store} depth ts (definition.term document01 th defs depth item ts)
        (λ y. refusals.◌>>=◌ (definition.arguments document01 th defs depth rest y.1) (λ z. refusals.ok (y.0 ∷ₜ z.0, z.1))) _ refl)
        (by (look_law text K spent (item then rest) ready.reader)) where
          on_stack : place ≤ 16384
          on_stack = let b = at_within ready.reader in let c = ready.room in holds place (omega arith)

          small : place < 4294967296
          small = let b = on_stack in omega arith

          here : sum32 top n ≡ place
          here = sum_small top n (omega (arith, small)) ∙ sym p

          next : sum32 n 1 ≡ n + 1
          next = sum_small n 1 (let b = on_stack in omega arith)

          on : (x : ℕ × Reader) (s : Areas) (y : Term × Store) → TermRead es th (At text (RestComes rest K) (spent + 2)) place stack ts x s y
              → Simulates (ArgumentsRead es th text K place n spent stack ts)
              (walk.arguments_from (walk.term left text rules heap table) fuel text top (n + 1) x.1 s.0 (set s.1 place x.0))
              (refusals.◌>>=◌ (definition.arguments document01 th defs depth rest y.1) (λ z. refusals.ok (y.0 ∷ₜ z.0, z.1)))
          on x s y t =
              let b = fits place spent t.reader ready.room in
              let k = length-set s.1 place x.0 in
              let i = t.keeps.same_length in
              let j = ready.long in
              after (λ (z : Terms × Store). (y.0 ∷ₜ z.0, z.1))
              (law left depth top (n + 1) (place + 1) (spent + 2) fuel K y.1 x.1 s.0 (set s.1 place x.0) e (omega arith) (omega arith)
              record { reader = t.reader; room = omega arith; stored = t.stored; grown = longer_then ready.grown t.grown; long = omega arith })
              (λ a u z w.
              let d = longer_length w.grown in
              let g = t.means.below in
              let v = w.count in
              record {
                ms = x.0 ∷ w.ms;
                count = omega arith;
                reader = at_less (spent + 2 * suc (length w.ms)) (omega arith) w.reader;
                stored = w.stored;
                below = both (omega arith) w.below;
                terms = ap₂ ◌∷ₜ◌ (longer_tree (symbol_at es th) x.0 w.grown t.means.below ∙ t.means.tree) w.terms;
                grown = longer_then t.grown w.grown;
                row = one_word (w.keeps.words place (omega arith) ∙ get_or-set_same s.1 place x.0 0 (omega arith)) w.row;
                keeps = keeps_then (omega arith) t.keeps (keeps_then (omega arith) (keeps_set place s.1 place x.0 (omega arith)) w.keeps);
              })

          by : {o : Outcome asked.Ahead} → Looked text K spent (item then rest) o
              → Simulates (ArgumentsRead es th text K place n spent stack ts) (turn left top n fuel o store stack)
              (refusals.◌>>=◌ (refusals.◌>>=◌ (asked_at depth) (λ _. definition.term document01 th defs depth item ts))
              (λ y. refusals.◌>>=◌ (definition.arguments document01 th defs depth rest y.1) (λ z. refusals.ok (y.0 ∷ₜ z.0, z.1))))
          by (look_item {q} there) =
              rw (here, next)
              (bind _ _ (one left depth place spent K rest ts q store stack e
              record { reader = there; room = ready.room; stored = ready.stored; grown = ready.grown; long = ready.long })
              on)

    mutual
      pub term_law : (item : Item) → TermLaw item
      term_law (word name) = term_word name
      term_law (group inner) = term_group inner (compound_law inner)

      compound_law : (is : Items) → CompoundLaw is
      compound_law closed = compound_closed
      compound_law ended = compound_ended
      compound_law bad_line = compound_bad
      compound_law (word name then rest) = compound_word name rest (arguments_law rest)
      compound_law (group inner then rest) = compound_group inner rest

      pub arguments_law : (is : Items) → ArgumentsLaw is
      arguments_law closed = arguments_closed
      arguments_law ended = arguments_ended
      arguments_law bad_line = arguments_bad
      arguments_law (item then rest) = arguments_more item rest (term_law item) (arguments_law rest)
