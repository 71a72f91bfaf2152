-- Judgments, and terms and judgments as they are asked for in goals and certificate. Assumes nothing.
use Prim.Native.Nat.{ℕ, zero, suc, ◌+◌, ◌*◌, ◌≤◌}
use mathlib.Core.Path.{◌≡◌, refl}
use mathlib.Core.List.{List}
use native.Mathlib.Omega.{arith}
use lib.Dec.{leb}
use lib.ListN.{length}
use Rattle.asking_laws.specs.Below.horn.proofs.Equality.{case}
use Rattle.asking_laws.specs.Below.horn.specs.Refusals as refusals
use Rattle.asking_laws.specs.Below.horn.specs.Refusals.{Refusal, Result, number, not_utf8, text_ends, stray_closing, nesting}
use Rattle.asking_laws.specs.Below.horn.specs.Setting.{document01}
use Rattle.asking_laws.specs.Below.horn.specs.Names.{Name}
use Rattle.asking_laws.specs.Below.horn.specs.Tokens.{Stream, Token}
use Rattle.asking_laws.specs.Below.horn.specs.NestedLists.{Item, Items, closed, ended, bad_line, ◌then◌, asked_at, absent}
use Rattle.asking_laws.specs.Below.horn.specs.Rulebook.{Symbol, Theory}
use Rattle.asking_laws.specs.Below.horn.specs.StoredTerms.{Term, Terms, Store}
use Rattle.asking_laws.specs.Below.horn.specs.Checker as definition
use Rattle.asking_laws.specs.Below.horn.specs.Checker.{Def}
use Rattle.judgments.specs.Below.words.specs.Parts.{part}
use Rattle.judgments.specs.Below.lex.specs.declared.Reader.{Reader}
use Rattle.judgments.specs.Below.outcomes.specs.Outcomes.{Outcome}
use Rattle.judgments.specs.Below.outcomes.specs.Leaving as leaving
use Rattle.judgments.specs.Below.outcomes.specs.Leaving.{Did, ◌leaving◌}
use Rattle.judgments.specs.Below.words.specs.Sums.{sum32}
use Rattle.judgments.specs.Below.outcomes.specs.Simulation.{Answers, both_refuse, both_ok, Simulates, refuse, bind, after}
use Rattle.asking_laws.specs.Below.theory_laws.specs.Representation.{Entries, Holds}
use Rattle.judgments.specs.Below.words.proofs.Sums.{sum_small}
use Rattle.judgments.specs.Below.theory_reading.proofs.Stored.{Means}
use Rattle.judgments.specs.Below.tables.specs.Representation.{Defs}
use Rattle.asking_laws.specs.Below.asking.specs.Asking.{Met, atom_due}
use Rattle.asking_laws.proofs.Places.{RestComes, At, at_within}
use Rattle.asking_laws.proofs.Asking.{ItemMet, item_law, WordMet, word_met, word_law, GroupMet, group_met, group_law}
use Rattle.judgments.specs.Below.terms.specs.Terms as walk
use Rattle.judgments.specs.Judgments as judgments
use Rattle.judgments.specs.Below.theory_reading.specs.Storing.{Areas}
use Rattle.judgments.specs.Below.nodes.specs.Nodes.{make}
use Rattle.judgments.specs.Below.terms.specs.Terms.{term_of}
use Rattle.judgments.specs.Below.nodes.specs.Limits.{def_buckets}
use Rattle.terms_laws.proofs.Making.{TermRead}
use Rattle.terms_laws.proofs.Atoms.{SymbolMet, symbol_met, predicate_law}
use Rattle.terms_laws.proofs.Reading.{asked_no, asked_yes, Ready, made_of, term_law, arguments_law}

-- What leaves the areas as they are, beside what the definition does without its store.
pub lifted : {S A B C D : Type 0} {Q : A → B → Type 0} {R : C → S → D → Type 0} {o : Outcome A} {m : Result B} {s : S} (ts : Store)
    (f : A × S → Did S C) (g : B × Store → Result D)
    → Answers Q o m
    → ((a : A) (b : B) → Q a b → Simulates R (f (a, s)) (g (b, ts)))
    → Simulates R (leaving.◌>>=◌ (o leaving s) f) (refusals.◌>>=◌ {A = B × Store} (refusals.◌>>=◌ m (λ b. refusals.ok (b, ts))) g)
unfolding refusals.◌>>=◌
lifted ts f g (both_refuse e) k = refuse e
lifted ts f g (both_ok q) k = k _ _ q

ask_no : (depth : ℕ) (is : Items) → depth + 0 ≡ 257 → definition.ask depth is ≡ refusals.refused nesting
unfolding definition.ask absent refusals.◌>>=◌
ask_no depth closed e = rw (asked_no depth e)
ask_no depth ended e = rw (asked_no depth e)
ask_no depth bad_line e = rw (asked_no depth e)
ask_no depth (item then rest) e = rw (asked_no depth e)

asked_term : (th : Theory) (defs : List Def) (depth : ℕ) (ts : Store) (item : Item) (rest : Items)
    → definition.ask_term document01 th defs depth (item then rest) ts
    ≡ refusals.◌>>=◌ (refusals.◌>>=◌ (asked_at depth) (λ _. definition.term document01 th defs depth item ts))
    (λ (p : Term × Store). refusals.ok ((p.0, rest), p.1))
unfolding definition.ask_term definition.ask definition.◌>>=◌ definition.lift definition.give asked_at refusals.need refusals.◌>>=◌
asked_term th defs depth ts item rest = case (leb depth 256) (λ t. rw t) (λ t. rw t)

-- What was asked for is followed by what is left of the list.
unfoldable pub AskedRead : Entries → Theory → List ℕ → (Stream Token → Type 0) → ℕ → ℕ → List ℕ → Store → ℕ × Reader → Areas → (Term × Items) × Store
    → Type 0
AskedRead es th text K top spent stack ts x left y = TermRead es th (At text (RestComes y.0.1 K) (spent + 2)) top stack ts x left (y.0.0, y.1)

module _ (text : List ℕ) (table : List ℕ) {rules heap : List ℕ} {es : Entries} {bound : ℕ} {th : Theory} (h : Holds rules heap es bound th)
    (defs : List Def) (ts₀ : Store) {base : ℕ} (abbreviations : Defs text table def_buckets base (Means es th ts₀) defs) (short : length text ≤ 32768) where
  -- "Judgment: list, head a predicate (12), arguments, 15, store." Its head was asked for.
  pub headed_law : (left depth top spent s t : ℕ) {name : Name} (K : Stream Token → Type 0) (rest : Items) (ts : Store) (r : Reader) (store stack : List ℕ)
      → depth + left ≡ 257 → part s t text ≡ name → 2 * top ≤ spent
      → Ready es th text ts₀ (RestComes rest K) (top + 1) (spent + 2) ts r store stack
      → Simulates (TermRead es th (At text K (spent + 2)) top stack ts) (judgments.headed_judgment left text rules heap table top s t r store stack)
      (definition.headed_judgment document01 th defs depth name rest ts)
  unfolding judgments.headed_judgment walk.arguments definition.headed_judgment definition.◌>>=◌ definition.lift
  headed_law left depth top spent s t K rest ts r store stack e n l ready =
      lifted ts _ _ (predicate_law text table h defs ts₀ abbreviations (At text (RestComes rest K) (spent + 2)) s t r n ready.reader)
      (λ x d m. by x d m) where
        by : (x : ℕ × Reader) (d : Symbol) → SymbolMet heap es bound (At text (RestComes rest K) (spent + 2)) x d
            → Simulates (TermRead es th (At text K (spent + 2)) top stack ts)
            (leaving.◌>>=◌ (walk.arguments_from (walk.term left text rules heap table) (length text + 1) text (sum32 top 1) 0 x.1 store stack)
            (λ p. make heap x.0 top p.0.0 p.0.1 p.1.0 p.1.1))
            (refusals.◌>>=◌ {A = Terms × Store} (definition.arguments document01 th defs depth rest ts) (λ p. definition.make document01 d p.0 p.1))
        by x d (symbol_met {a = c} {q} w there) =
            let z = at_within there in
            rw (sum_small top 1 (omega arith))
            (bind _ _ (arguments_law text table h defs ts₀ abbreviations short rest left depth (top + 1) 0 (top + 1) (spent + 2)
            (length text + 1) K ts q store stack e
            (omega arith) (omega arith)
            record { reader = there; room = ready.room; stored = ready.stored; grown = ready.grown; long = ready.long })
            (λ x' s' y p. made_of text table h defs ts₀ abbreviations short top spent c d K ts stack x' s' y l ready.long w p))

  -- A judgment that is asked for.
  pub judgment_law : (is : Items) (left depth top spent : ℕ) (K : Stream Token → Type 0) (ts : Store) (r : Reader) (store stack : List ℕ)
      → depth + left ≡ 257
      → Ready es th text ts₀ (RestComes is K) top spent ts r store stack
      → Simulates (AskedRead es th text K top spent stack ts) (judgments.judgment left text rules heap table top r store stack)
      (definition.ask_judgment document01 th defs depth is ts)
  unfolding judgments.judgment definition.ask_judgment definition.◌>>=◌ definition.lift definition.give definition.ask_group refusals.◌>>=◌ number AskedRead
  judgment_law is zero depth top spent K ts r store stack e ready = rw (ask_no depth is e) (refuse refl)
  judgment_law is (suc l) depth top spent K ts r store stack e ready =
      lifted ts _ _ (group_law text K spent is (suc l) depth e ready.reader) (λ q g m. opened q g m) where
        headed : (rest : Items) (x : ℕ × ℕ × Reader) (y : Name × Items) → WordMet text (RestComes rest K) spent x y
            → Simulates (AskedRead es th text K top spent stack ts) (judgments.headed_judgment l text rules heap table top x.0 x.1 x.2 store stack)
            (refusals.◌>>=◌ {A = Term × Store} (definition.headed_judgment document01 th defs (suc depth) y.0 y.1 ts)
            (λ p. refusals.ok ((p.0, rest), p.1)))
        headed rest x y (word_met {s} {t} {r = q} {rest = operands} n a b there) =
            let z = ready.room in
            after (λ (p : Term × Store). ((p.0, rest), p.1))
            (headed_law l (suc depth) top spent s t (RestComes rest K) operands ts q store stack (omega arith) n ready.room
            record { reader = there; room = omega arith; stored = ready.stored; grown = ready.grown; long = ready.long })
            (λ v w u m. m)

        opened : (q : Reader) (g : Items × Items) → GroupMet text K spent q g
            → Simulates (AskedRead es th text K top spent stack ts)
            (leaving.◌>>=◌ (atom_due text l q leaving (store, stack))
            (λ p. judgments.headed_judgment l text rules heap table top p.0.0 p.0.1 p.0.2 p.1.0 p.1.1))
            (refusals.◌>>=◌ {A = (Name × Items) × Store} (refusals.◌>>=◌ (definition.ask_word (suc depth) g.0) (λ a. refusals.ok (a, ts)))
            (λ u. refusals.◌>>=◌ {A = Term × Store} (definition.headed_judgment document01 th defs (suc depth) u.0.0 u.0.1 u.1)
            (λ p. refusals.ok ((p.0, g.1), p.1))))
        opened q g (group_met {inner} {rest} there bare) =
            lifted ts _ _ (word_law text (RestComes rest K) spent inner l (suc depth) (omega arith) there) (λ x y m. headed rest x y m)

  -- No item there.
  none_there : (is : Items) (x : Refusal) (left depth top spent : ℕ) (K : Stream Token → Type 0) (ts : Store) (r : Reader) (store stack : List ℕ)
      → depth + left ≡ 257
      → definition.ask depth is ≡ absent depth x → Ready es th text ts₀ (RestComes is K) top spent ts r store stack
      → Simulates (AskedRead es th text K top spent stack ts) (walk.term left text rules heap table top r store stack)
      (definition.ask_term document01 th defs depth is ts)
  unfolding walk.term definition.ask_term definition.◌>>=◌ definition.lift absent refusals.◌>>=◌ number
  none_there is x zero depth top spent K ts r store stack e q ready = rw (q, asked_no depth e) (refuse refl)
  none_there is x (suc l) depth top spent K ts r store stack e q ready =
      rw (q, asked_yes l depth e) (by (rw (q, asked_yes l depth e) at (item_law text K spent is (suc l) depth e ready.reader))) where
        by : {o : Outcome Met} → Answers (ItemMet text K spent) o (refusals.refused x)
            → Simulates (AskedRead es th text K top spent stack ts)
            (leaving.◌>>=◌ (o leaving (store, stack)) (λ p. term_of (walk.term l text rules heap table) l text rules heap table top p.0 p.1.0 p.1.1))
            (refusals.refused x)
        by (both_refuse z) = refuse z

  -- A term that is asked for.
  pub ask_term_law : (is : Items) (left depth top spent : ℕ) (K : Stream Token → Type 0) (ts : Store) (r : Reader) (store stack : List ℕ)
      → depth + left ≡ 257
      → Ready es th text ts₀ (RestComes is K) top spent ts r store stack
      → Simulates (AskedRead es th text K top spent stack ts) (walk.term left text rules heap table top r store stack)
      (definition.ask_term document01 th defs depth is ts)
  unfolding definition.ask AskedRead
  ask_term_law closed left depth top spent K ts r store stack e ready = none_there closed stray_closing left depth top spent K ts r store stack e refl ready
  ask_term_law ended left depth top spent K ts r store stack e ready = none_there ended text_ends left depth top spent K ts r store stack e refl ready
  ask_term_law bad_line left depth top spent K ts r store stack e ready = none_there bad_line not_utf8 left depth top spent K ts r store stack e refl ready
  ask_term_law (item then rest) left depth top spent K ts r store stack e ready =
      rw (asked_term th defs depth ts item rest)
      (after (λ (p : Term × Store). ((p.0, rest), p.1))
      (term_law text table h defs ts₀ abbreviations short item left depth top spent K rest ts r store stack e ready) (λ v w u m. m))
