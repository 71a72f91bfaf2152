-- The judgment of a step by a rule is the definition's. Assumes nothing.
use mathlib.Core.Path.{◌≡◌, refl, ◌∙◌}
use mathlib.Core.List.{List}
use mathlib.Core.Option.{Option, none, some}
use Prim.Native.Nat.{ℕ, ◌+◌, ◌-◌, ◌≤◌, ◌<◌}
use native.Mathlib.Omega.{arith}
use borrow.Author.Tests.{eq-eqb, ne_eqb}
use lib.ListN.{length}
use Rattle.numerals.specs.Below.horn.specs.Refusals.{number, Result, ok, refused, found, bad_conclusion}
use Rattle.numerals.specs.Below.horn.specs.Refusals as results
use Rattle.numerals.specs.Below.horn.specs.Names.{Name}
use Rattle.numerals.specs.Below.horn.specs.Setting.{Setting}
use Rattle.numerals.specs.Below.horn.specs.Rulebook.{Variable, Pattern, Rule, rule, variables_of, premises_of, conclusion_of, Theory}
use Rattle.numerals.specs.Below.horn.specs.StoredTerms.{Term, Store}
use Rattle.numerals.specs.Below.horn.specs.Checker.{Reading, give, lift}
use Rattle.numerals.specs.Below.horn.specs.Checker as checker
use Rattle.numerals.specs.Below.horn.specs.Matching.{Bind, Step, match, match_premises, build}
use Rattle.numerals.specs.Below.horn.specs.Certificate.{given, conclude}
use Rattle.nodes.specs.Below.arena.proofs.Limits.{Limits}
use Rattle.nodes.specs.Below.arena.proofs.Trees.{tree_of}
use Rattle.nodes.specs.Below.items.specs.Places as layout
use Rattle.concluding.specs.Below.theory_laws.specs.Representation.{Entries, FlatList, no_premises, one_premise, RuleWords, RuleAt, rule_at, Holds}
use Rattle.concluding.specs.Below.outcomes.specs.Simulation.{Simulates, leave, bind, aside, bind_aside, giving}
use Rattle.concluding.specs.Below.theory_laws.proofs.Frames.{Keeps}
use Rattle.numerals.specs.Below.words.proofs.Sums.{sum_small}
use Rattle.nodes.specs.Below.theory_reading.specs.Reading.{premise_count, premises_place, conclusion_place}
use Rattle.nodes.specs.Below.theory_reading.specs.Addresses.{symbol_at}
use Rattle.nodes.specs.Below.theory_reading.specs.Storing.{Areas}
use Rattle.nodes.specs.Below.theory_reading.proofs.Held.{flat_rises}
use Rattle.nodes.specs.Below.theory_reading.proofs.Stored.{Stored, Means, Longer, longer_none}
use Rattle.concluding.specs.Concluding.{stated_concluded, built_concluded, step_concluded}
use Rattle.matching_laws.proofs.Relations.{Bound, not_bound, bound_to, Binds, StepsAt, ReferencesAt}
use Rattle.matching_laws.proofs.Matching.{pattern_matches}
use Rattle.matching_laws.proofs.Premises.{found_match, premises_match}
use Rattle.matching_laws.proofs.Building.{behind, pattern_built}
use Rattle.matching_laws.proofs.Formed.{RuleReady}

-- The number of the judgment, and the areas that are left.
pub record ConcludedTo (es : Entries) (th : Theory) (heap : List ℕ) (limits : Setting) (places : ℕ) (ts : Store) (k : ℕ) (areas : Areas × List ℕ)
    (q : Term × Store) : Type 0 where
  pub holds : Stored es th limits places areas.0.0 q.1
  pub means : Means es th q.1 k q.0
  pub grown : Longer ts q.1
  pub keeps : Keeps layout.bindings heap areas.1
  pub long : length areas.0.1 ≡ 16384

-- Each pattern has a word.
list_width : {heap : List ℕ} {es : Entries} {bound low high : ℕ} {vs : List Variable} {o o' : ℕ} {ps : List Pattern}
    → FlatList heap es bound low high vs o ps o'
    → o + length ps ≤ o'
list_width no_premises = omega arith
list_width (one_premise p ps) = let x = flat_rises p in let y = list_width ps in omega arith

-- The definition: what does not touch the store comes first.
lift_then : {A B : Type 0} (m : Result A) (f : A → Reading B) (ts : Store) → checker.◌>>=◌ (lift m) f ts ≡ results.◌>>=◌ m λ a. f a ts
unfolding checker.◌>>=◌ lift results.◌>>=◌
lift_then (ok a) f ts = refl
lift_then (refused r) f ts = refl

built_defined : (limits : Setting) (th : Theory) (steps : List Step) (name : Name) (vs : List Variable) (ps : List Pattern) (c : Pattern) (refs : List ℕ)
    (binds : List Bind) (ts : Store)
    → conclude limits th steps (rule name vs ps c) refs (given binds none) ts ≡ results.◌>>=◌ (match_premises steps ps refs binds) λ more. build limits more c ts
unfolding conclude premises_of conclusion_of
built_defined limits th steps name vs ps c refs binds ts = lift_then (match_premises steps ps refs binds) (λ more. build limits more c) ts

stated_defined : (limits : Setting) (th : Theory) (steps : List Step) (name : Name) (vs : List Variable) (ps : List Pattern) (c : Pattern) (refs : List ℕ)
    (binds : List Bind) (j : Term) (ts : Store)
    → conclude limits th steps (rule name vs ps c) refs (given binds (some j)) ts
    ≡ results.◌>>=◌ (found (match c j binds) bad_conclusion) λ more. checker.◌>>=◌ (lift (match_premises steps ps refs more)) (λ _. give j) ts
unfolding conclude premises_of conclusion_of
stated_defined limits th steps name vs ps c refs binds j ts =
    lift_then (found (match c j binds) bad_conclusion) (λ more. checker.◌>>=◌ (lift (match_premises steps ps refs more)) (λ _. give j)) ts

module _ {text heap : List ℕ} {es : Entries} {top : ℕ} {th : Theory} (h : Holds text heap es top th) (small : top ≤ layout.bindings)
    (limits : Setting) (narrow : limits.nodes < 4294967295) {places : ℕ} (l : Limits limits.nodes limits.node_words places)
    {store : List ℕ} {ts : Store} (st : Stored es th limits places store ts)
    {table stack : List ℕ} (long : length stack ≡ 16384) {steps : List Step} (sa : StepsAt es th ts table steps)
    {refs : List ℕ} (at_refs : ReferencesAt stack 0 refs)
    {now : List ℕ} (keep : Keeps layout.bindings heap now) {binds : List Bind} where
  rule_concluded : {e : ℕ} {name : Name} {vs : List Variable} {ps : List Pattern} {c : Pattern} → RuleWords text heap es top e name vs ps c
      → RuleReady (rule name vs ps c)
      → length refs ≡ length ps
      → Binds es th ts vs now binds
      → {word : ℕ} {stated : Option Term} → Bound es th ts word stated
      → Simulates (ConcludedTo es th heap limits places ts)
      (step_concluded limits.nodes limits.node_words places table (length steps) e word stack store now)
      (conclude limits th steps (rule name vs ps c) refs (given binds stated) ts)
  unfolding step_concluded built_concluded stated_concluded premise_count premises_place conclusion_place premises_of conclusion_of variables_of number give
  rule_concluded {e} {name} {vs} {ps} {c} w ready count bs {word} (not_bound z) =
      let rise = w.rising in
      let up = list_width w.at_premises in
      let high = w.high in
      let over = flat_rises w.at_conclusion in
      let n : premise_count now e ≡ length ps = keep.words (e + layout.premise_count) (omega arith) ∙ w.premise_count_lem in
      let x : premises_place e ≡ e + layout.patterns = sum_small e layout.patterns (omega arith) in
      rw (eq-eqb word 0 z, n, x, built_defined limits th steps name vs ps c refs binds ts)
      (bind_aside (store, stack) _ _
      (premises_match h small narrow st ready.distinct (omega arith) small sa w.at_premises ready.premises count at_refs keep bs)
      (λ o now' more y.
      rw y.ends
      (giving (λ (r : ℕ × ℕ). r.0)
      (behind now' (pattern_built h small limits l y.keeps small w.at_conclusion ready.conclusion 16384 (length ps) (omega arith) (omega arith)
      (omega arith) st y.bound)
      (λ r areas q b. record { holds = b.holds; means = b.means; grown = b.grown; keeps = y.keeps; long = b.keeps.same_length ∙ long }))
      (λ r areas q b. b))))
  rule_concluded {e} {name} {vs} {ps} {c} w ready count bs {word} (bound_to {t = j} k z b) =
      let rise = w.rising in
      let up = list_width w.at_premises in
      let high = w.high in
      let over = flat_rises w.at_conclusion in
      let n : premise_count now e ≡ length ps = keep.words (e + layout.premise_count) (omega arith) ∙ w.premise_count_lem in
      let x : premises_place e ≡ e + layout.patterns = sum_small e layout.patterns (omega arith) in
      let m : word - 1 ≡ k = omega arith in
      let s : conclusion_place now e ≡ w.conclusion_place_lem = keep.words (e + layout.conclusion) (omega arith) ∙ w.to_conclusion in
      rw (ne_eqb word 0 (λ q. omega arith), m, n, x, s, stated_defined limits th steps name vs ps c refs binds j ts, ← b.tree)
      (aside {Q = λ a s q. ConcludedTo es th heap limits places ts a ((store, stack), s) q} (store, stack)
      (found_match 23 bad_conclusion _ _ refl
      (pattern_matches h small narrow st ready.distinct (omega arith) small w.at_conclusion ready.conclusion 16384 k (omega arith) b.below keep bs)
      (λ now' more k' b'.
      rw (lift_then (match_premises steps ps refs more) (λ _. give (tree_of (symbol_at es th) ts.terms k)) ts)
      (bind _ _ (premises_match h small narrow st ready.distinct (omega arith) small sa w.at_premises ready.premises count at_refs k' b')
      (λ o now'' most y. leave record { holds = st; means = record { below = b.below; tree = refl }; grown = longer_none; keeps = y.keeps; long = long }))))
      (λ a s q x. x))

  -- "Matching: the stated conclusion (23); for each premise in order, no earlier step 24, mismatch 25; with none stated the conclusion is
  -- built": `word` is 0, or the number of the stated conclusion plus 1.
  pub step_concluded_lem : {e : ℕ} {r : Rule} → RuleAt text heap es top e r → RuleReady r → length refs ≡ length (premises_of r)
      → Binds es th ts (variables_of r) now binds
      → {word : ℕ} {stated : Option Term} → Bound es th ts word stated
      → Simulates (ConcludedTo es th heap limits places ts)
      (step_concluded limits.nodes limits.node_words places table (length steps) e word stack store now)
      (conclude limits th steps r refs (given binds stated) ts)
  unfolding premises_of variables_of
  step_concluded_lem (rule_at w) ready count bs b = rule_concluded w ready count bs b
