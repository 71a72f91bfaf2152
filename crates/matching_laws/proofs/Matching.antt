-- Matching over flat words is the definition's. Assumes nothing.
use mathlib.Core.Path.{◌≡◌, refl, sym, ap, ◌∙◌}
use mathlib.Core.Bool.{true, false}
use mathlib.Core.List.{List, [], ◌∷◌}
use mathlib.Core.Option.{Option, none, some}
use Prim.Native.Nat.{ℕ, zero, suc, ◌+◌, ◌-◌, ◌≤◌, ◌<◌}
use native.Mathlib.Omega.{arith}
use borrow.Author.Tests.{le-leb, lt-leb, eq-eqb, ne_eqb}
use lib.Dec.{eqb}
use lib.ListN.{length, get_or}
use Rattle.numerals.specs.Below.horn.specs.Names.{Name}
use Rattle.numerals.specs.Below.horn.specs.Setting.{Setting}
use Rattle.numerals.specs.Below.horn.specs.Rulebook.{Symbol, inputs, same_symbol, Variable, Pattern, var, app, Patterns, []ₚ, ◌∷ₚ◌, Theory}
use Rattle.numerals.specs.Below.horn.specs.StoredTerms.{Term, node, Terms, []ₜ, ◌∷ₜ◌, same_term, Store}
use Rattle.numerals.specs.Below.horn.specs.Matching.{Bind, lookup, match_var, match, matches}
use Rattle.numerals.specs.Below.horn.proofs.Equality.{case, chose_true, chose_false, same_term_decides, same_symbol_decides, decides_false}
use Rattle.nodes.specs.Below.names.proofs.Holds.{by_number}
use Rattle.nodes.specs.Below.arena.specs.Store.{argument_of}
use Rattle.nodes.specs.Below.arena.proofs.Trees as trees
use Rattle.nodes.specs.Below.arena.proofs.Trees.{tree_of, lookups, Below}
use Rattle.numerals.specs.Below.words.specs.Sums.{sum32}
use Rattle.nodes.specs.Below.items.specs.Places as layout
use Rattle.concluding.specs.Below.theory_laws.specs.Representation.{Entries, Nth, Flat, flat_variable, flat_symbol, Flats, no_flats, one_flat, Holds}
use Rattle.concluding.specs.Below.theory_laws.proofs.Frames.{Keeps, keeps_then, keeps_set}
use Rattle.numerals.specs.Below.words.proofs.Sums.{sum_small}
use Rattle.concluding.specs.Below.theory_laws.proofs.Readback.{same_symbol_lem, symbol_arity, symbol_below}
use Rattle.numerals.specs.Below.horn.proofs.SoundnessWords.{Apart}
use Rattle.nodes.specs.Below.theory_reading.specs.Reading.{arity_of}
use Rattle.nodes.specs.Below.theory_reading.specs.Addresses.{symbol_at}
use Rattle.nodes.specs.Below.theory_reading.proofs.Bridge.{stands_at}
use Rattle.nodes.specs.Below.theory_reading.proofs.Held.{flat_rises}
use Rattle.nodes.specs.Below.theory_reading.proofs.Stored.{Stored, few_terms, one_number, node_at}
use Rattle.concluding.specs.Below.matching.specs.Matching as models
use Rattle.concluding.specs.Below.matching.specs.Matching.{Tried, ◌keeping◌, binding_of, binding_at, agrees, with_binding, variable_matched, arguments_matched, matched}
use Rattle.matching_laws.proofs.Relations.{width_of, Full, full_variable, full_symbol, Fulls, full_none, full_next, Bound, not_bound, bound_to, Binds}
use Rattle.matching_laws.proofs.Bindings.{binds_more}

-- Both differ; or both match, the pattern ends where it does, and the bindings are alike. Below the bindings no word has changed since the
-- rulebook was read.
pub data Matching (es : Entries) (th : Theory) (heap : List ℕ) (ts : Store) (vs : List Variable) (end : ℕ) : Tried ℕ → Option (List Bind) → Type 0 where
  both_differ : {now : List ℕ} → Keeps layout.bindings heap now → Matching es th heap ts vs end (none keeping now) none
  both_match : {now : List ℕ} {binds : List Bind} → Keeps layout.bindings heap now → Binds es th ts vs now binds
      → Matching es th heap ts vs end (some end keeping now) (some binds)

-- One after the other.
pub match_next : {es : Entries} {th : Theory} {heap : List ℕ} {ts : Store} {vs : List Variable} {middle end : ℕ} {x : Tried ℕ} {y : Option (List Bind)}
    (f : ℕ × List ℕ → Tried ℕ) (g : List Bind → Option (List Bind))
    → Matching es th heap ts vs middle x y
    → ((now : List ℕ) (more : List Bind) → Keeps layout.bindings heap now → Binds es th ts vs now more
    → Matching es th heap ts vs end (f (middle, now)) (g more))
    → Matching es th heap ts vs end (models.◌>>=◌ x f) (elim y [ none ↦ none | some more ↦ g more ])
match_next f g (both_differ k) next = both_differ k
match_next f g (both_match k b) next = next _ _ k b

-- The definition, level by level.
match_variable : (name : Name) (t : Term) (binds : List Bind) → match (var name) t binds ≡ match_var name t binds (lookup name binds)
unfolding match
match_variable name t binds = refl

match_same : (c d : Symbol) (ps : Patterns) (us : Terms) (binds : List Bind) → same_symbol c d ≡ true → match (app c ps) (node d us) binds ≡ matches ps us binds
unfolding match
match_same c d ps us binds e = chose_true _ _ e

match_other : (c d : Symbol) (ps : Patterns) (us : Terms) (binds : List Bind) → same_symbol c d ≡ false → match (app c ps) (node d us) binds ≡ none
unfolding match
match_other c d ps us binds e = chose_false _ _ e

matches_none : (binds : List Bind) → matches []ₚ []ₜ binds ≡ some binds
unfolding match
matches_none binds = refl

matches_next : (p : Pattern) (ps : Patterns) (t : Term) (us : Terms) (binds : List Bind)
    → matches (p ∷ₚ ps) (t ∷ₜ us) binds ≡ elim (match p t binds) [ none ↦ none | some more ↦ matches ps us more ]
unfolding match
matches_next p ps t us binds = refl

module _ {text heap : List ℕ} {es : Entries} {top : ℕ} {th : Theory} (h : Holds text heap es top th) (small : top ≤ layout.bindings)
    {limits : Setting} (narrow : limits.nodes < 4294967295) {places : ℕ} {store : List ℕ} {ts : Store} (st : Stored es th limits places store ts)
    {vs : List Variable} (d : Apart vs) (room : layout.bindings + length vs ≤ 16384) where
  module _ {now : List ℕ} {binds : List Bind} (k : Keeps layout.bindings heap now) (b : Binds es th ts vs now binds) where
    -- "A variable binds first and must be equal later."
    variable_matches : (v t o : ℕ) (name : Name) → Nth vs v name → t < length ts.terms → o + 1 < 4294967296
        → {x : Option Term} → x ≡ lookup name binds → Bound es th ts (binding_of now v) x
        → Matching es th heap ts vs (o + 1) (variable_matched now v t o) (match_var name (tree_of (symbol_at es th) ts.terms t) binds x)
    unfolding variable_matched agrees with_binding match_var
    variable_matches v t o name n l u q (not_bound e) =
        let few = few_terms st in
        let s : sum32 t 1 ≡ t + 1 = sum_small t 1 (omega arith) in
        let p : sum32 o 1 ≡ o + 1 = sum_small o 1 u in
        let long = k.same_length ∙ h.long in
        rw (eq-eqb _ _ e, s, p)
        (both_match
        (keeps_then (omega arith) k (keeps_set layout.bindings now (binding_at v) (t + 1) (omega arith)))
        (binds_more d b v t name (tree_of (symbol_at es th) ts.terms t) n (sym q) (omega arith) (record { below = l; tree = refl })))
    variable_matches v t o name n l u q (bound_to {t = y} m e a) =
        let few = few_terms st in
        let s : sum32 t 1 ≡ t + 1 = sum_small t 1 (omega arith) in
        let p : sum32 o 1 ≡ o + 1 = sum_small o 1 u in
        let z : eqb (binding_of now v) 0 ≡ false = ne_eqb (binding_of now v) 0 (λ c. omega arith) in
        by_number t m
        (λ c.
        let i : eqb (binding_of now v) (t + 1) ≡ true = eq-eqb (binding_of now v) (t + 1) (omega arith) in
        let j : same_term (tree_of (symbol_at es th) ts.terms t) y ≡ true = rw (← a.tree, c) (same_term_decides.same _) in
        rw (z, s, i, j, p, match_var) (both_match k b))
        (λ c.
        let i : eqb (binding_of now v) (t + 1) ≡ false = ne_eqb (binding_of now v) (t + 1) (λ g. c (omega arith)) in
        let j : same_term (tree_of (symbol_at es th) ts.terms t) y ≡ false =
        decides_false same_term_decides _ _ (λ g. c (one_number st t m l a.below (g ∙ sym a.tree))) in
        rw (z, s, i, j, match_var) (both_differ k))

  -- "Matching goes one level of the pattern at a time": where `left` reaches the end of the patterns' words, it suffices.
  module _ {low high : ℕ} (under : high ≤ layout.bindings) where
    mutual
      unfolding matched arguments_matched lookups width_of arity_of

      pub pattern_matches : {o o' : ℕ} {p : Pattern} → Flat heap es top low high vs o p o' → Full p → (left t : ℕ) → high ≤ o + left → t < length ts.terms
          → {now : List ℕ} {binds : List Bind} → Keeps layout.bindings heap now → Binds es th ts vs now binds
          → Matching es th heap ts vs o' (matched limits.nodes places store left o t now) (match p (tree_of (symbol_at es th) ts.terms t) binds)
      pattern_matches (flat_variable l u e n q) full_variable zero t le b k bs = absurd (omega arith)
      pattern_matches {o} (flat_variable {v} {name} l u e n q) full_variable (suc left) t le b {now} {binds} k bs =
          let w : get_or now o 0 ≡ layout.variable + v = k.words o (omega arith) ∙ e in
          let m : layout.variable + v - layout.variable ≡ v = omega arith in
          rw (q, w, le-leb layout.variable (layout.variable + v) (omega arith), m, match_variable name (tree_of (symbol_at es th) ts.terms t) binds)
          (variable_matches k bs v t o name n b (omega arith) refl (bs.each v name n))
      pattern_matches (flat_symbol l u a r) (full_symbol w f) zero t le b k bs = absurd (omega arith)
      pattern_matches {o} (flat_symbol {c} {ps} l u a r) (full_symbol wide f) (suc left) t le b {now} {binds} k bs =
          let (below, above) = symbol_below h a in
          let n = node_at st t b in
          let w : get_or now o 0 ≡ get_or heap o 0 = k.words o (omega arith) in
          let y : arity_of now (get_or heap o 0) ≡ width_of ps = k.words (get_or heap o 0 + layout.arity) (omega arith) ∙ symbol_arity h a ∙ sym wide in
          let z : sum32 o 1 ≡ o + 1 = sum_small o 1 (omega arith) in
          let same : eqb (get_or heap o 0) n.head ≡ same_symbol c (symbol_at es th n.head) = same_symbol_lem h a (stands_at h n.in_use) in
          rw (w, lt-leb layout.variable (get_or heap o 0) (omega arith), n.read_head, n.tree)
          (case (same_symbol c (symbol_at es th n.head))
          (λ e.
          let s : c ≡ symbol_at es th n.head = same_symbol_decides.equal c (symbol_at es th n.head) e in
          let count : length n.arguments ≡ width_of ps = n.count ∙ ap (λ (x : Symbol). length (inputs x)) (sym s) ∙ sym wide in
          rw (same ∙ e, y, z, match_same c (symbol_at es th n.head) ps (lookups (symbol_at es th) ts.terms n.arguments) binds e)
          (patterns_match r f left t 0 n.arguments count (omega arith) (λ i x. let q : 0 + i ≡ i = omega arith in rw q (n.read i x)) n.below k bs))
          (λ e. rw (same ∙ e, match_other c (symbol_at es th n.head) ps (lookups (symbol_at es th) ts.terms n.arguments) binds e) (both_differ k)))

      pub patterns_match : {o o' : ℕ} {ps : Patterns} → Flats heap es top low high vs o ps o' → Fulls ps → (left t j : ℕ) (ms : List ℕ) → length ms ≡ width_of ps
          → high ≤ o + left
          → ((i : ℕ) → i < length ms → argument_of store limits.nodes places t (j + i) ≡ get_or ms i 0)
          → Below (length ts.terms) ms
          → {now : List ℕ} {binds : List Bind} → Keeps layout.bindings heap now → Binds es th ts vs now binds
          → Matching es th heap ts vs o' (arguments_matched limits.nodes places store (matched limits.nodes places store left) (width_of ps) t j o now)
          (matches ps (lookups (symbol_at es th) ts.terms ms) binds)
      patterns_match no_flats full_none left t j [] e le read below {binds = binds} k bs = rw (matches_none binds) (both_match k bs)
      patterns_match no_flats full_none left t j (m ∷ ms) e le read below k bs = absurd (omega arith)
      patterns_match (one_flat p ps) (full_next x xs) left t j [] e le read below k bs = absurd (omega arith)
      patterns_match (one_flat {p = q} {ps = qs} p ps) (full_next x xs) left t j (m ∷ ms) e le read (trees.both l below) {binds = binds} k bs =
          let j0 : j + 0 ≡ j = omega arith in
          let first : argument_of store limits.nodes places t j ≡ m = rw j0 at (read 0 (omega arith)) in
          let up = flat_rises p in
          rw (first, matches_next q qs (tree_of (symbol_at es th) ts.terms m) (lookups (symbol_at es th) ts.terms ms) binds)
          (match_next _ _ (pattern_matches p x left m le l k bs)
          (λ now more k' bs'.
          patterns_match ps xs left t (j + 1) ms (omega arith) (omega arith)
          (λ i y. let q : j + 1 + i ≡ j + suc i = omega arith in rw q (read (suc i) (omega arith)))
          below k' bs'))
