-- Building over flat words, with its arguments on the stack, is the definition's. Assumes nothing.
use mathlib.Core.Path.{◌≡◌, refl, sym, ap, ap₂, ◌∙◌}
use mathlib.Core.List.{List, [], ◌∷◌}
use mathlib.Core.Option.{Option}
use Prim.Native.Nat.{ℕ, zero, suc, ◌+◌, ◌-◌, ◌≤◌, ◌<◌}
use native.Mathlib.Omega.{arith}
use borrow.Author.Tests.{le-leb, lt-leb, eq-eqb, ne_eqb}
use lib.ListN.{length, get_or, set, length-set}
use lib.Seq.{get_or-set_same}
use Rattle.numerals.specs.Below.horn.specs.Refusals.{number, Result, ok, refused, found, unbound}
use Rattle.numerals.specs.Below.horn.specs.Refusals as results
use Rattle.numerals.specs.Below.horn.specs.Names.{Name}
use Rattle.numerals.specs.Below.horn.specs.Setting.{Setting}
use Rattle.numerals.specs.Below.horn.specs.Rulebook.{Symbol, inputs, Variable, Pattern, var, app, Patterns, []ₚ, ◌∷ₚ◌, Theory}
use Rattle.numerals.specs.Below.horn.specs.StoredTerms.{Term, node, Terms, []ₜ, ◌∷ₜ◌, Store, width}
use Rattle.numerals.specs.Below.horn.specs.Checker.{Reading, give, lift}
use Rattle.numerals.specs.Below.horn.specs.Checker as checker
use Rattle.numerals.specs.Below.horn.specs.Matching.{Bind, lookup, build, builds}
use Rattle.numerals.specs.Below.words.specs.Parts.{part}
use Rattle.nodes.specs.Below.arena.specs.Store.{words_at}
use Rattle.nodes.specs.Below.arena.proofs.Copies.{words_at-part}
use Rattle.nodes.specs.Below.arena.proofs.Limits.{Limits}
use Rattle.nodes.specs.Below.arena.proofs.Trees as trees
use Rattle.nodes.specs.Below.arena.proofs.Trees.{tree_of, lookups, Below, formed}
use Rattle.concluding.specs.Below.outcomes.specs.Leaving.{Did, ◌leaving◌}
use Rattle.numerals.specs.Below.words.specs.Sums.{sum32}
use Rattle.nodes.specs.Below.items.specs.Places as layout
use Rattle.concluding.specs.Below.theory_laws.specs.Representation.{Entries, SymbolAt, Flat, flat_variable, flat_symbol, Flats, no_flats, one_flat, Holds}
use Rattle.concluding.specs.Below.outcomes.specs.Simulation.{Simulates, refuse, leave, bind, paired}
use Rattle.concluding.specs.Below.theory_laws.proofs.Frames.{Keeps, keeps_all, keeps_then, keeps_set}
use Rattle.numerals.specs.Below.words.proofs.Sums.{sum_small}
use Rattle.concluding.specs.Below.theory_laws.proofs.Readback.{symbol_arity, symbol_below}
use Rattle.nodes.specs.Below.theory_reading.specs.Reading.{arity_of}
use Rattle.nodes.specs.Below.theory_reading.specs.Addresses.{symbol_at}
use Rattle.nodes.specs.Below.theory_reading.proofs.Bridge.{symbol_is, used_at}
use Rattle.nodes.specs.Below.theory_reading.proofs.Held.{flat_rises}
use Rattle.nodes.specs.Below.theory_reading.proofs.Terms.{lookups-width}
use Rattle.nodes.specs.Below.theory_reading.proofs.Stored.{sized, Stored, Means, Longer, longer_none, longer_then, longer_length, longer_tree, stored_law}
use Rattle.nodes.specs.Below.theory_reading.specs.Storing.{Areas, before}
use Rattle.concluding.specs.Below.matching.specs.Matching.{binding_of, bound_term, node_made, arguments_built, term_built}
use Rattle.matching_laws.proofs.Relations.{width_of, Full, full_variable, full_symbol, Fulls, full_none, full_next, Bound, not_bound, bound_to, Binds}
use Rattle.matching_laws.proofs.Bindings.{binds_longer}

-- The number, the tree and the areas that building leaves: the store has grown, and the stack is kept below its top.
pub record BuiltTo (es : Entries) (th : Theory) (limits : Setting) (places : ℕ) (ts : Store) (stack : List ℕ) (p end : ℕ) (r : ℕ × ℕ) (areas : Areas)
    (q : Term × Store) : Type 0 where
  pub ends : r.1 ≡ end
  pub holds : Stored es th limits places areas.0 q.1
  pub means : Means es th q.1 r.0 q.0
  pub grown : Longer ts q.1
  pub keeps : Keeps p stack areas.1

-- Areas with another behind them.
pub behind : {P S A B : Type 0} {Q : A → P → B → Type 0} {R : A → P × S → B → Type 0} {m : Did P A} {m' : Result B} (s : S)
    → Simulates Q m m'
    → ((a : A) (p : P) (b : B) → Q a p b → R a (p, s) b)
    → Simulates R (before s m) m'
behind s (refuse e) k = refuse e
behind s (leave q) k = leave (k _ _ _ q)

-- Two of the definition's readings in front of a third.
joined : (m : Result (Term × Store)) (g : Store → Result (Terms × Store)) (f : Terms → Reading Term)
    → results.◌>>=◌ (results.◌>>=◌ m λ x. results.◌>>=◌ (g x.1) λ y. ok (paired (x.0 ∷ₜ y.0) y.1)) (λ z. f z.0 z.1)
    ≡ results.◌>>=◌ m λ x. results.◌>>=◌ (g x.1) λ y. f (x.0 ∷ₜ y.0) y.1
unfolding results.◌>>=◌
joined (refused r) g f = refl
joined (ok x) g f = one (g x.1) where
  one : (n : Result (Terms × Store)) → results.◌>>=◌ (results.◌>>=◌ n λ y. ok (paired (x.0 ∷ₜ y.0) y.1)) (λ z. f z.0 z.1)
      ≡ results.◌>>=◌ n λ y. f (x.0 ∷ₜ y.0) y.1
  one (refused r) = refl
  one (ok y) = refl

-- The definition, level by level.
build_variable : (limits : Setting) (binds : List Bind) (name : Name) (ts : Store)
    → build limits binds (var name) ts ≡ results.◌>>=◌ (found (lookup name binds) unbound) λ a. ok (a, ts)
unfolding build lift
build_variable limits binds name ts = refl

build_symbol : (limits : Setting) (binds : List Bind) (c : Symbol) (ps : Patterns) (ts : Store)
    → build limits binds (app c ps) ts ≡ checker.◌>>=◌ (builds limits binds ps) (λ us. checker.stored limits (node c us)) ts
unfolding build
build_symbol limits binds c ps ts = refl

builds_none : (limits : Setting) (binds : List Bind) (f : Terms → Reading Term) (ts : Store) → checker.◌>>=◌ (builds limits binds []ₚ) f ts ≡ f []ₜ ts
unfolding build checker.◌>>=◌ give results.◌>>=◌
builds_none limits binds f ts = refl

builds_next : (limits : Setting) (binds : List Bind) (p : Pattern) (ps : Patterns) (f : Terms → Reading Term) (ts : Store)
    → checker.◌>>=◌ (builds limits binds (p ∷ₚ ps)) f ts
    ≡ results.◌>>=◌ (build limits binds p ts) λ x. checker.◌>>=◌ (builds limits binds ps) (λ us. f (x.0 ∷ₜ us)) x.1
unfolding build checker.◌>>=◌ give
builds_next limits binds p ps f ts = joined (build limits binds p ts) (builds limits binds ps) f

-- What follows the arguments: their numbers stand on the stack from q on, and the node is made of them.
abbrev pub After : (es : Entries) (th : Theory) (limits : Setting) (places : ℕ) (Q : ℕ × ℕ → Areas → Term × Store → Type 0) (count from end q : ℕ)
    (stack : List ℕ) (ts : Store) (f : Terms → Reading Term) → Type 0
After es th limits places Q count from end q stack ts f =
    (ms stack' store' : List ℕ) (ts' : Store) → Longer ts ts' → Stored es th limits places store' ts' → Below (length ts'.terms) ms → length ms ≡ count
    → q + length ms ≤ length stack
    → words_at stack' q (length ms) ≡ ms
    → Keeps q stack stack'
    → Simulates Q (before stack' (node_made limits.nodes limits.node_words places from (q + length ms) end stack' store'))
    (f (lookups (symbol_at es th) ts'.terms ms) ts')

flat_below : {heap : List ℕ} {es : Entries} {bound low high : ℕ} {vs : List Variable} {o o' : ℕ} {p : Pattern} → Flat heap es bound low high vs o p o'
    → o < high
flat_below (flat_variable l u e n q) = u
flat_below (flat_symbol l u a r) = u

module _ {es : Entries} {th : Theory} {limits : Setting} {places : ℕ} where
  -- "Unbound variable 26".
  variable_built : (now : List ℕ) (v o q : ℕ) {stack store : List ℕ} {ts : Store} → o + 1 < 4294967296 → Stored es th limits places store ts
      → {x : Option Term} → Bound es th ts (binding_of now v) x
      → Simulates (BuiltTo es th limits places ts stack q (o + 1)) (bound_term now v o leaving (store, stack))
      (results.◌>>=◌ (found x unbound) λ a. ok (paired a ts))
  unfolding bound_term found results.◌>>=◌ number
  variable_built now v o q u st (not_bound e) = rw (eq-eqb (binding_of now v) 0 e) (refuse refl)
  variable_built now v o q {ts} u st (bound_to {t} k e m) =
      let z = ne_eqb (binding_of now v) 0 (λ c. omega arith) in
      let s : sum32 o 1 ≡ o + 1 = sum_small o 1 u in
      let less : k + 1 - 1 ≡ k = omega arith in
      rw (z, s, e, less) (leave record { ends = refl; holds = st; means = m; grown = longer_none; keeps = keeps_all })

module _ {text heap : List ℕ} {es : Entries} {top : ℕ} {th : Theory} (h : Holds text heap es top th) (small : top ≤ layout.bindings)
    (limits : Setting) {places : ℕ} (l : Limits limits.nodes limits.node_words places) where
  -- The node, where its words stand on the stack.
  pub node_made_lem : {c : Symbol} {count word from end : ℕ} {stack₀ : List ℕ} {ts : Store} → SymbolAt heap es top word c → count ≡ length (inputs c)
      → from < length stack₀
      → After es th limits places (BuiltTo es th limits places ts stack₀ from end) count from end (from + 1) (set stack₀ from word) ts
      (λ us. checker.stored limits (node c us))
  unfolding node_made words_at trees.build
  node_made_lem {c} {count} {word} {from} {end} {stack₀} {ts} a wide room ms stack store ts' longer st below e fits words k =
      let q = length-set stack₀ from word in
      let here : get_or stack from 0 ≡ word = k.words from (omega arith) ∙ get_or-set_same stack₀ from word 0 room in
      let n : from + 1 + length ms ≡ from + suc (length ms) = omega arith in
      let long = k.same_length in
      let key : part from (from + 1 + length ms) stack ≡ word ∷ ms =
      words_at-part stack from (from + 1 + length ms) (suc (length ms)) n (omega arith) ∙ ap₂ ◌∷◌ here words in
      let s : symbol_at es th word ≡ c = symbol_is h a in
      let w : width (lookups (symbol_at es th) ts'.terms ms) ≡ length (inputs c) = lookups-width (symbol_at es th) ts'.terms ms ∙ e ∙ wide in
      let b : trees.build (symbol_at es th) ts'.terms (word ∷ ms) ≡ node c (lookups (symbol_at es th) ts'.terms ms) =
      ap (λ (x : Symbol). node x (lookups (symbol_at es th) ts'.terms ms)) s in
      rw key
      (behind stack (stored_law st h l end (word ∷ ms) (formed (used_at h a) below) b (sized w))
      (λ r area t y.
      let x = y.1 in
      record {
        ends = y.0;
        holds = x.holds;
        means = x.means;
        grown = longer_then longer x.grown;
        keeps = keeps_then (omega arith) (keeps_set from stack₀ from word (omega arith)) k;
      }))

  module _ {vs : List Variable} {now : List ℕ} (keep : Keeps layout.bindings heap now) {binds : List Bind} {low high : ℕ} (under : high ≤ layout.bindings) where
    mutual
      unfolding term_built arguments_built width_of lookups words_at arity_of

      -- The stack has room for as many words as the pattern has.
      pub pattern_built : {o o' : ℕ} {p : Pattern} → Flat heap es top low high vs o p o' → Full p → (left q : ℕ) → high ≤ o + left
          → {stack store : List ℕ} {ts : Store} → q + high ≤ length stack + o → length stack < 4294967296
          → Stored es th limits places store ts
          → Binds es th ts vs now binds
          → Simulates (BuiltTo es th limits places ts stack q o') (term_built limits.nodes limits.node_words places now left o q stack store)
          (build limits binds p ts)
      pattern_built (flat_variable l u e n x) full_variable zero q le fits short st bs = absurd (omega arith)
      pattern_built {o} (flat_variable {v} {name} y u e n x) full_variable (suc left) q le {ts = ts} fits short st bs =
          let w : get_or now o 0 ≡ layout.variable + v = keep.words o (omega arith) ∙ e in
          let m : layout.variable + v - layout.variable ≡ v = omega arith in
          rw (x, w, le-leb layout.variable (layout.variable + v) (omega arith), m, build_variable limits binds name ts)
          (variable_built now v o q (omega arith) st (bs.each v name n))
      pattern_built (flat_symbol y u a r) (full_symbol w f) zero q le fits short st bs = absurd (omega arith)
      pattern_built {o} {o'} (flat_symbol {c} {ps} y u a r) (full_symbol wide f) (suc left) q le {stack} {store} {ts} fits short st bs =
          let (below, above) = symbol_below h a in
          let w : get_or now o 0 ≡ get_or heap o 0 = keep.words o (omega arith) in
          let n : arity_of now (get_or heap o 0) ≡ width_of ps = keep.words (get_or heap o 0 + layout.arity) (omega arith) ∙ symbol_arity h a ∙ sym wide in
          let z : sum32 o 1 ≡ o + 1 = sum_small o 1 (omega arith) in
          let x : sum32 q 1 ≡ q + 1 = sum_small q 1 (omega arith) in
          let m = length-set stack q (get_or heap o 0) in
          rw (w, lt-leb layout.variable (get_or heap o 0) (omega arith), n, z, x, build_symbol limits binds c ps ts)
          (patterns_built r f left q (q + 1) (omega arith) (omega arith) (omega arith) (omega arith) st bs (λ us. checker.stored limits (node c us))
          (node_made_lem {count = width_of ps} a wide (omega arith)))

      pub patterns_built : {o o' : ℕ} {ps : Patterns} → Flats heap es top low high vs o ps o' → Fulls ps → (left from q : ℕ) → high ≤ o + left
          → {stack store : List ℕ} {ts : Store} → q + high ≤ length stack + o → q ≤ length stack → length stack < 4294967296
          → Stored es th limits places store ts
          → Binds es th ts vs now binds
          → {ts₀ : Store} {stack₀ : List ℕ} {q₀ : ℕ} (f : Terms → Reading Term)
          → After es th limits places (BuiltTo es th limits places ts₀ stack₀ q₀ o') (width_of ps) from o' q stack ts f
          → Simulates (BuiltTo es th limits places ts₀ stack₀ q₀ o')
          (arguments_built limits.nodes limits.node_words places (term_built limits.nodes limits.node_words places now left)
          (width_of ps) from o q stack store)
          (checker.◌>>=◌ (builds limits binds ps) f ts)
      patterns_built no_flats full_none left from q le {stack} {store} {ts} fits in_stack short st bs f after =
          let z : q + 0 ≡ q = omega arith in
          rw (builds_none limits binds f ts, ← z) (after [] stack store ts longer_none st trees.none refl (omega arith) refl keeps_all)
      patterns_built {o} {o'} (one_flat {o₁ = o₁} {p = p} {ps = ps} one more) (full_next x xs) left from q le {stack} {store}
          {ts} fits in_stack short st bs f after =
          let up = flat_rises one in
          let low = flat_below one in
          let z : sum32 q 1 ≡ q + 1 = sum_small q 1 (omega arith) in
          rw (builds_next limits binds p ps f ts, z)
          (bind _ _ (pattern_built one x left q le fits short st bs)
          (λ a s b y.
          let grown = longer_length y.grown in
          let long = y.keeps.same_length in
          let size = length-set s.1 q a.0 in
          let bound = binds_longer y.grown bs in
          rw y.ends
          (patterns_built more xs left from (q + 1) (omega arith) (omega arith) (omega arith) (omega arith) y.holds bound (λ us. f (b.0 ∷ₜ us))
          (λ ms stack' store' ts' longer st' below e room words kept.
          let n : q + 1 + length ms ≡ q + suc (length ms) = omega arith in
          let t : tree_of (symbol_at es th) ts'.terms a.0 ≡ b.0 = longer_tree (symbol_at es th) a.0 longer y.means.below ∙ y.means.tree in
          let here : get_or stack' q 0 ≡ a.0 = kept.words q (omega arith) ∙ get_or-set_same s.1 q a.0 0 (omega arith) in
          let up = longer_length longer in
          let i = y.means.below in
          rw (n, ← t)
          (after (a.0 ∷ ms) stack' store' ts' (longer_then y.grown longer) st' (trees.both {m = a.0} (omega arith) below) (ap suc e) (omega arith)
          (ap₂ ◌∷◌ here words)
          (keeps_then (omega arith) y.keeps (keeps_then (omega arith) (keeps_set q s.1 q a.0 (omega arith)) kept)))))))
