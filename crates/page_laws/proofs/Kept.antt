-- What the areas keep of an accepted release, goal by goal and step by step: names, results, rules and references. Assumes nothing.
use Prim.Native.Nat.{ℕ, zero, suc, ◌+◌, ◌*◌, ◌≤◌, ◌<◌}
use mathlib.Core.Path.{◌≡◌, refl, ap, sym, subst, ◌∙◌}
use mathlib.Core.Logic.{◌⊎◌, inl, inr}
use mathlib.Core.Bool.{true, false, true≢false}
use mathlib.Core.List.{List, [], ◌∷◌, Memᴰ}
use mathlib.Core.Option.{some}
use native.Mathlib.Omega.{arith}
use native.Mathlib.Nat.{mod-eq_of_lt}
use lib.ListN.{length, get_or, get_elem?}
use Rattle.checker_laws.specs.Below.horn.specs.Names.{Name, first, some_of}
use Rattle.checker_laws.specs.Below.horn.specs.Rulebook.{Rule, Theory}
use Rattle.checker_laws.specs.Below.horn.specs.StoredTerms.{Term}
use Rattle.checker_laws.specs.Below.horn.specs.Checker.{Goal, goal, is_goal}
use Rattle.checker_laws.specs.Below.horn.specs.Certificate.{Witness, witness}
use Rattle.checker_laws.specs.Below.horn.specs.Layout.{rule_name}
use Rattle.checker_laws.specs.Below.horn.specs.Used.{result_step}
use Rattle.checker_laws.specs.Below.horn.specs.Page.{is_result_of}
use Rattle.checker_laws.specs.Below.horn.proofs.Equality.{named_decides, first-some, first-none, some_of_false, at_below}
use Rattle.checker_laws.specs.Below.horn.proofs.Inversion.{none-some, some_equal}
use Rattle.used_laws.specs.Below.names.specs.Chains.{name_at}
use Rattle.used_laws.specs.Below.names.proofs.Kept.{member_named}
use Rattle.used_laws.specs.Below.names.proofs.Declared.{find_agrees, found_some}
use Rattle.used_laws.specs.Below.tables.specs.Words.{goal_buckets, entry_words, value_offset, closed_from, goal_at, goal_result, goal_found}
use Rattle.used_laws.specs.Below.tables.specs.Representation.{Sits, here, there, GoalsAt, no_goal, still_open, is_closed, Goals}
use Rattle.used_laws.specs.Below.tables.proofs.Goals.{agreed}
use Rattle.used_laws.specs.Below.nodes.specs.Limits.{def_buckets}
use Rattle.used_laws.specs.Below.items.specs.Places as places
use Rattle.used_laws.specs.Below.theory_laws.specs.Representation.{Entries, Holds, RuleAt, rule_at}
use Rattle.used_laws.specs.Below.theory_laws.proofs.Frames.{Keeps}

-- Where the k-th thing sits, and that what sits somewhere is there.
sits_at : {A : Type 0} (b k p : ℕ) (things : List A) {a : A} → get_elem? things k ≡ some a → p ≡ b + entry_words * k → Sits b things p a
sits_at b k p [] e q = none-some e
sits_at b zero p (x ∷ things) {a} e q = rw (← some_equal e) (here {b = b} {e = p} (omega arith))
sits_at b (suc k) p (x ∷ things) e q = there (sits_at (b + entry_words) k p things e (omega arith))

sits_member : {A : Type 0} {b e : ℕ} {things : List A} {a : A} → Sits b things e a → Memᴰ a things
sits_member (here h) = Memᴰ.head refl
sits_member (there s) = Memᴰ.tail (sits_member s)

again : {b e : ℕ} (gs : List Goal) (name : Name) {j : Term} → some_of (is_goal name) gs ≡ false → Sits b gs e (goal name j) → ⊥
unfolding is_goal
again gs name {j} f s = true≢false (sym (named_decides.same name) ∙ some_of_false (is_goal name) gs f (goal name j) (sits_member s))

-- What sits in a list sits first, or in the rest.
sits_first : {A : Type 0} {b e : ℕ} {c a : A} {things : List A} → Sits b (c ∷ things) e a → ((a ≡ c) × (e ≡ b)) ⊎ Sits (b + entry_words) things e a
sits_first (here h) = inl (refl, h)
sits_first (there s) = inr s

-- No later goal has the first one's name.
no_later : {b e : ℕ} {goals : List Goal} {head name : Name} {h i j : Term} → some_of (is_goal head) goals ≡ false → goal name i ≡ goal head h
    → Sits b goals e (goal name j)
    → ⊥
no_later {b} {e} {goals} {head} {name} {h} {i} {j} f q s =
    let n : name ≡ head = cc in again goals head f (subst (λ (m : Name). Sits b goals e (goal m j)) n s)

once : {b d e : ℕ} {goals : List Goal} {head name : Name} {h i j : Term} → some_of (is_goal head) goals ≡ false
    → (Sits (b + entry_words) goals d (goal name i) → Sits (b + entry_words) goals e (goal name j) → d ≡ e)
    → Sits b (goal head h ∷ goals) d (goal name i)
    → Sits b (goal head h ∷ goals) e (goal name j)
    → d ≡ e
once f rest s t =
    elim (sits_first s) [
      | inl p ↦ elim (sits_first t) [ inl q ↦ p.1 ∙ sym q.1 | inr t' ↦ absurd (no_later f p.0 t') ]
      | inr s' ↦ elim (sits_first t) [ inl q ↦ absurd (no_later f q.0 s') | inr t' ↦ rest s' t' ]
    ]

module _ {table : List ℕ} {Means : ℕ → Term → Type 0} {results : List Witness} where
  -- No name sits twice.
  sits_once : {b d e : ℕ} {goals open_goals : List Goal} {name : Name} {i j : Term} → GoalsAt table Means results b goals open_goals
      → Sits b goals d (goal name i)
      → Sits b goals e (goal name j)
      → d ≡ e
  sits_once no_goal s t = elim s [ ]
  sits_once (still_open v m f g) s t = once f (λ s' t'. sits_once g s' t') s t
  sits_once (is_closed v f g) s t = once f (λ s' t'. sits_once g s' t') s t

  -- The value of a goal that has its result.
  result_valued : {b e n : ℕ} {goals open_goals : List Goal} {name : Name} {j : Term} → GoalsAt table Means results b goals open_goals
      → Sits b goals e (goal name j)
      → first (is_result_of name) results ≡ some (witness name n)
      → get_or table (e + value_offset) 0 ≡ closed_from + n
  unfolding result_step
  result_valued no_goal x9 r = elim x9 [ ]
  result_valued (still_open (v, l, o) m f g) (here h) r = none-some (sym o ∙ r)
  result_valued {e} {n} (is_closed {b} {n = i} (v, c) f g) (here h) r =
      let q : i ≡ n = ap result_step (some_equal (sym c ∙ r)) in
      let p : e + value_offset ≡ b + value_offset = omega arith in
      rw (p, ← q) v
  result_valued (still_open v m f g) (there s) r = result_valued g s r
  result_valued (is_closed v f g) (there s) r = result_valued g s r

-- What the table keeps of goal k: its name and its result's step.
module _ {text table : List ℕ} {Means : ℕ → Term → Type 0} {goals open_goals : List Goal} {results : List Witness}
    (g : Goals text table (goal_buckets + def_buckets) Means goals open_goals results) (small : length table < 4294967296) (k : ℕ) {name : Name} {j : Term}
    (is : get_elem? goals k ≡ some (goal name j)) where
  -- Where its entry stands.
  at_goal : goal_at def_buckets k ≡ goal_buckets + def_buckets + entry_words * k
  unfolding goal_at
  at_goal = let b = at_below goals k is in let i = g.inside in mod-eq_of_lt (omega arith)

  sits_goal : Sits (goal_buckets + def_buckets) goals (goal_at def_buckets k) (goal name j)
  sits_goal = sits_at (goal_buckets + def_buckets) k (goal_at def_buckets k) goals is at_goal

  pub goal_result_lem : {n : ℕ} → first (is_result_of name) results ≡ some (witness name n) → goal_result (goal_at def_buckets k) table ≡ n
  unfolding goal_result
  goal_result_lem r = let v = result_valued g.values sits_goal r in omega arith

  pub goal_named : name_at table text (goal_at def_buckets k) ≡ name
  unfolding is_goal goal_found
  goal_named =
      agreed (find_agrees is_goal (Sits (goal_buckets + def_buckets) goals) name g.names g.stands)
      (λ f n. absurd (true≢false (sym (named_decides.same name) ∙ first-none (is_goal name) goals n (goal name j) (sits_member sits_goal))))
      (λ e a f n s. by a (first-some (is_goal name) goals n).1 s f) where
        by : {e : ℕ} (a : Goal) → is_goal name a ≡ true → Sits (goal_buckets + def_buckets) goals e a → goal_found text name table ≡ some e
            → name_at table text (goal_at def_buckets k) ≡ name
        by {e} (goal other i) h s f =
            let same : name ≡ other = named_decides.equal name other h in
            let s' : Sits (goal_buckets + def_buckets) goals e (goal name i) = rw same s in
            let at : goal_at def_buckets k ≡ e = sits_once g.values sits_goal s' in
            rw at (member_named g.names.chain (found_some g.names name f))

-- The rule that a step names has its name in the rulebook.
pub rule_named_lem : {rules heap live : List ℕ} {es : Entries} {bound : ℕ} {th : Theory} → Holds rules heap es bound th → bound ≤ places.theory_end
    → Keeps places.bindings heap live
    → {e : ℕ} {r : Rule}
    → RuleAt rules heap es bound e r
    → name_at live rules e ≡ rule_name r
unfolding name_at rule_name
rule_named_lem {rules} {heap} {live} h high keep {e} (rule_at w) =
    let l = w.low in
    let u = w.rising in
    let v = w.high in
    let n = member_named h.rules.table.chain w.called in
    rw (keep.words e (omega arith), keep.words (e + 1) (omega arith)) n
