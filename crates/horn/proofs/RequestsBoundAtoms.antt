-- How many atoms stand in a text, at any depth: at most as many as it has bytes. What is read from a text is paid for by its atoms, and so is
-- what is built from a rule: each node of its conclusion is written by an atom of its own.
use Prim.Native.Nat.{ℕ, zero, suc, ◌+◌, ◌≤◌}
use mathlib.Core.Path.{◌≡◌, refl, ap, subst}
use mathlib.Core.List.{List, [], ◌∷◌, ◌++◌, Memᴰ}
use mathlib.Core.Option.{Option, none, some}
use native.Mathlib.Omega.{arith}
use lib.ListN.{length}
use Rattle.horn.specs.Refusals.{ok, need, ◌>>=◌, two_sorts}
use Rattle.horn.specs.Names.{Name, named, questioned, first}
use Rattle.horn.specs.Tokens.{Stream, end, bad, ◌▹◌, Token, opening, closing, atom, tokens}
use Rattle.horn.specs.NestedLists.{Item, word, group, Items, closed, ended, bad_line, ◌then◌, Around, at_end, at_bad_line, ◌inside◌}
use Rattle.horn.specs.NestedLists.{innermost, outer, add, around, items, Sexp, leaf, list, Sexps, []ₛ, ◌∷ₛ◌, sexps}
use Rattle.horn.specs.NestedLists
use Rattle.horn.specs.Rulebook
use Rattle.horn.specs.Rulebook.{Variable, variable, Pattern, var, app, Patterns, []ₚ, ◌∷ₚ◌, Rule, conclusion_of, is_rule, is_variable, Theory}
use Rattle.horn.specs.Rulebook.{DeclarationWord, sort_word, ctor_word, pred_word, rule_word, other_declaration, empty_theory, theory, rule_named}
use Rattle.horn.specs.Checker.{ask, ask_word, ask_group, ask_number, number_due, word_due, group_due}
use Rattle.horn.proofs.Equality.{first-some, in_or_last}
use Rattle.horn.proofs.Inversion.{not_ok, ok_equal, afterᵣ, after_needᵣ, absent_not, was_found_lem, after_one, after_two, after_three}
use Rattle.horn.proofs.Post.{Post, post_ok, post_at, post_after, either}
use Rattle.horn.proofs.Counts.{stream_length, few_tokens}
use Rattle.horn.proofs.WasRead.{is_word_lem, is_group, is_asked, is_asked_word, is_asked_group}

-- The atoms of an item.
unfoldable mutual
  pub atoms : Item → ℕ
  atoms (word bytes) = 1
  atoms (group inner) = atoms_of inner

  -- The atoms of what is left of a group.
  pub atoms_of : Items → ℕ
  atoms_of closed = zero
  atoms_of ended = zero
  atoms_of bad_line = zero
  atoms_of (item then rest) = atoms item + atoms_of rest

-- The atoms that stand around a reader, in all lists together.
unfoldable atoms_around : Around → ℕ
atoms_around at_end = zero
atoms_around at_bad_line = zero
atoms_around (is inside a) = atoms_of is + atoms_around a

-- They are those of the reader's own list and those around it.
atoms_split : (a : Around) → atoms_of (innermost a) + atoms_around (outer a) ≡ atoms_around a
unfolding atoms atoms_around innermost outer
atoms_split at_end = refl
atoms_split at_bad_line = refl
atoms_split (is inside a) = refl

-- A token in front is at most one atom more.
atoms_add : (t : Token) (a : Around) → atoms_around (add t a) ≤ suc (atoms_around a)
unfolding atoms atoms_around add
atoms_add closing a = omega arith
atoms_add (atom bytes) a = let h = atoms_split a in omega arith
atoms_add opening a = let h = atoms_split a in let k = atoms_split (outer a) in omega arith

-- So there are at most as many atoms as tokens.
atoms_around_lem : (ts : Stream Token) → atoms_around (around ts) ≤ stream_length ts
unfolding atoms_around around stream_length
atoms_around_lem end = omega arith
atoms_around_lem bad = omega arith
atoms_around_lem (t ▹ ts) = let h = atoms_add t (around ts) in let k = atoms_around_lem ts in omega arith

-- A text has at most as many atoms as bytes.
pub few_atoms : (text : List ℕ) → atoms_of (items (tokens text)) ≤ length text
unfolding items
few_atoms text =
    let s = atoms_split (around (tokens text)) in
    let a = atoms_around_lem (tokens text) in
    let t = few_tokens text in
    omega arith

-- What is due as an atom is one, and what is due as a list has the atoms of its members.
pub word_atoms : (item : Item) {name : Name} → word_due item ≡ ok name → atoms item ≡ 1
unfolding atoms
word_atoms item e = ap atoms (is_word_lem item e)

pub group_atoms : (item : Item) {inner : Items} → group_due item ≡ ok inner → atoms item ≡ atoms_of inner
unfolding atoms
group_atoms item e = ap atoms (is_group item e)

-- The atoms of what was asked for and of what is left behind it are all that there were.
pub asked_atoms : (depth : ℕ) (is : Items) {q : Item × Items} → ask depth is ≡ ok q → atoms_of is ≡ atoms q.0 + atoms_of q.1
unfolding atoms
asked_atoms depth is e = ap atoms_of (is_asked depth is e)

pub asked_word_atoms : (depth : ℕ) (is : Items) {q : Name × Items} → ask_word depth is ≡ ok q → atoms_of is ≡ 1 + atoms_of q.1
unfolding atoms
asked_word_atoms depth is e = ap atoms_of (is_asked_word depth is e)

pub asked_group_atoms : (depth : ℕ) (is : Items) {q : Items × Items} → ask_group depth is ≡ ok q → atoms_of is ≡ atoms_of q.0 + atoms_of q.1
unfolding atoms
asked_group_atoms depth is e = ap atoms_of (is_asked_group depth is e)

pub asked_number_atoms : (depth : ℕ) (is : Items) {q : ℕ × Items} → ask_number depth is ≡ ok q → atoms_of is ≡ 1 + atoms_of q.1
unfolding ask_number number_due
asked_number_atoms depth is e =
    afterᵣ _ e λ p e₁ e₂.
    afterᵣ _ e₂ λ n e₃ e₄.
    afterᵣ _ e₃ λ name e₅ e₆.
    let a = asked_atoms depth is e₁ in
    let w = word_atoms p.0 e₅ in
    let r = ap (λ (q : ℕ × Items). atoms_of q.1) (ok_equal e₄) in
    omega arith

-- The nodes of a pattern: as many requests are made where it is built.
unfoldable mutual
  pub nodes : Pattern → ℕ
  nodes (var name) = zero
  nodes (app c ps) = suc (nodes_of ps)

  -- The nodes of arguments.
  pub nodes_of : Patterns → ℕ
  nodes_of []ₚ = zero
  nodes_of (p ∷ₚ ps) = nodes p + nodes_of ps

-- The atoms of a nested list.
unfoldable mutual
  leaves : Sexp → ℕ
  leaves (leaf name) = 1
  leaves (list xs) = leaves_of xs

  -- The atoms of its members.
  leaves_of : Sexps → ℕ
  leaves_of []ₛ = zero
  leaves_of (x ∷ₛ xs) = leaves x + leaves_of xs

-- What is due as an atom is one.
atom_leaves : (x : Sexp) {name : Name} → Rulebook.atom_due x ≡ ok name → leaves x ≡ 1
unfolding Rulebook.atom_due leaves
atom_leaves (leaf name) e = refl
atom_leaves (list xs) e = not_ok e

-- They are the atoms of the item that it was read from.
mutual
  unfolding NestedLists.sexp atoms leaves

  leaves_read : (depth : ℕ) (item : Item) {x : Sexp} → NestedLists.sexp depth item ≡ ok x → leaves x ≡ atoms item
  leaves_read depth (word bytes) e = rw (← ok_equal e)
  leaves_read depth (group inner) e = afterᵣ _ e λ xs e₁ e₂. let h = members_read (suc depth) inner e₁ in rw (← ok_equal e₂) h

  members_read : (depth : ℕ) (is : Items) {xs : Sexps} → NestedLists.members depth is ≡ ok xs → leaves_of xs ≡ atoms_of is
  members_read depth closed e = rw (← ok_equal e)
  members_read depth bad_line e = not_ok e
  members_read depth ended e = absent_not _ _ e
  members_read depth (item then rest) e =
      afterᵣ _ e λ u e₁ e₂.
      afterᵣ _ e₂ λ x e₃ e₄.
      afterᵣ _ e₄ λ xs e₅ e₆.
      let h = leaves_read depth item e₃ in
      let k = members_read depth rest e₅ in
      rw (← ok_equal e₆) (omega arith)

-- The same of a whole rulebook.
sexps_read : (is : Items) {xs : Sexps} → sexps is ≡ ok xs → leaves_of xs ≡ atoms_of is
unfolding sexps atoms leaves
sexps_read ended e = rw (← ok_equal e)
sexps_read bad_line e = not_ok e
sexps_read closed e = not_ok e
sexps_read (item then rest) e =
    afterᵣ _ e λ x e₁ e₂.
    afterᵣ _ e₂ λ xs e₃ e₄.
    let h = leaves_read 0 item e₁ in
    let k = sexps_read rest e₃ in
    rw (← ok_equal e₄) (omega arith)

-- A pattern that was read has at most as many nodes as these.
abbrev Nodes : ℕ → Pattern × List Variable → Type 0
Nodes n q = nodes q.0 ≤ n

-- A variable has no node.
known_nodes : (name s : Name) (vs : List Variable) (o : Option Variable)
    → Post (Nodes 1)
    (elim o [ none ↦ ok (var name, vs ++ (variable name s ∷ [])) | some (variable n t) ↦ need (named s t) two_sorts >>= λ _. ok (var name, vs) ])
unfolding nodes
known_nodes name s vs none = post_ok {a = (var name, vs ++ (variable name s ∷ []))} (omega arith)
known_nodes name s vs (some (variable n t)) = post_after _ _ λ _. post_ok {a = (var name, vs)} (omega arith)

module _ (th : Theory) where
  -- An atom of a pattern is at most one node.
  atom_nodes : (name s : Name) (vs : List Variable) → Post (Nodes 1) (Rulebook.pattern th (leaf name) s vs)
  unfolding Rulebook.pattern Rulebook.variable_pattern Rulebook.constant_pattern nodes
  atom_nodes name s vs =
      either (Post (Nodes 1)) (questioned name)
      (post_after _ _ λ _. known_nodes name s vs (first (is_variable name) vs))
      (post_after _ _ λ c. post_after _ _ λ _. post_ok {a = (app c []ₚ, vs)} (omega arith))

  -- A head is one atom, and one node.
  mutual
    unfolding Rulebook.pattern nodes leaves

    pattern-nodes : (x : Sexp) (s : Name) (vs : List Variable) {q : Pattern × List Variable} → Rulebook.pattern th x s vs ≡ ok q
        → nodes q.0 ≤ leaves x
    pattern-nodes (leaf name) s vs e = post_at e (atom_nodes name s vs)
    pattern-nodes (list xs) s vs e = compound_nodes xs s vs e

    compound_nodes : (xs : Sexps) (s : Name) (vs : List Variable) {q : Pattern × List Variable} → Rulebook.compound_pattern th xs s vs ≡ ok q
        → nodes q.0 ≤ leaves_of xs
    compound_nodes []ₛ s vs e = not_ok e
    compound_nodes (x ∷ₛ xs) s vs e =
        afterᵣ _ e λ name e₁ e₂.
        after_needᵣ _ _ _ e₂ λ p e₃.
        afterᵣ _ e₃ λ c e₄ e₅.
        after_needᵣ _ _ _ e₅ λ f e₆.
        afterᵣ _ e₆ λ q e₇ e₈.
        let h = patterns_nodes xs (Rulebook.inputs c) vs e₇ in
        let a = atom_leaves x e₁ in
        subst (Nodes (leaves x + leaves_of xs)) (ok_equal e₈) (omega arith)

    patterns_nodes : (xs : Sexps) (ss : List Name) (vs : List Variable) {q : Patterns × List Variable} → Rulebook.patterns th xs ss vs ≡ ok q
        → nodes_of q.0 ≤ leaves_of xs
    patterns_nodes []ₛ [] vs e = rw (← ok_equal e) (omega arith)
    patterns_nodes []ₛ (s ∷ ss) vs e = not_ok e
    patterns_nodes (x ∷ₛ xs) [] vs e = not_ok e
    patterns_nodes (x ∷ₛ xs) (s ∷ ss) vs e =
        afterᵣ _ e λ q e₁ e₂.
        afterᵣ _ e₂ λ r e₃ e₄.
        let h = pattern-nodes x s vs e₁ in
        let k = patterns_nodes xs ss q.1 e₃ in
        rw (← ok_equal e₄) (omega arith)

  -- A judgment is read like a term, with a predicate for its head.
  members_nodes : (xs : Sexps) (vs : List Variable) {q : Pattern × List Variable} → Rulebook.judgment_members th xs vs ≡ ok q
      → nodes q.0 ≤ leaves_of xs
  unfolding Rulebook.judgment_members nodes leaves
  members_nodes []ₛ vs e = not_ok e
  members_nodes (x ∷ₛ xs) vs e =
      afterᵣ _ e λ name e₁ e₂.
      afterᵣ _ e₂ λ c e₃ e₄.
      after_needᵣ _ _ _ e₄ λ f e₅.
      afterᵣ _ e₅ λ q e₆ e₇.
      let h = patterns_nodes xs (Rulebook.inputs c) vs e₆ in
      let a = atom_leaves x e₁ in
      subst (Nodes (leaves x + leaves_of xs)) (ok_equal e₇) (omega arith)

  judgment_nodes : (x : Sexp) (vs : List Variable) {q : Pattern × List Variable} → Rulebook.judgment_pattern th x vs ≡ ok q → nodes q.0 ≤ leaves x
  unfolding Rulebook.judgment_pattern Rulebook.list_due leaves
  judgment_nodes (leaf name) vs e = afterᵣ _ e λ xs e₁ e₂. not_ok e₁
  judgment_nodes (list ys) vs e = afterᵣ _ e λ xs e₁ e₂. rw (ok_equal e₁) (members_nodes xs vs e₂)

-- No rule of a theory has more nodes in its conclusion.
abbrev Small : ℕ → Theory → Type 0
Small n th = (r : Rule) → Memᴰ r th.rules → nodes (conclusion_of r) ≤ n

module _ (n : ℕ) (th : Theory) (small : Small n th) where
  -- A rule that is declared has the conclusion that was read last.
  rule_small : (x js j : Sexp) {next : Theory} → leaves j ≤ n → Rulebook.declare_rule th x js j ≡ ok next → Small n next
  unfolding Rulebook.declare_rule conclusion_of
  rule_small x js j few e =
      afterᵣ _ e λ ys e₁ e₂.
      afterᵣ _ e₂ λ q e₃ e₄.
      afterᵣ _ e₄ λ p e₅ e₆.
      afterᵣ _ e₆ λ name e₇ e₈.
      after_needᵣ _ _ _ e₈ λ new e₉.
      let h = judgment_nodes th j q.1 e₅ in
      subst (Small n) (ok_equal e₉)
      (λ r m. in_or_last th.rules m (small r) (λ last. let k = ap (λ z. nodes (conclusion_of z)) last in omega arith))

  -- No other declaration adds a rule.
  declare_small : (k : DeclarationWord) (xs : Sexps) {next : Theory} → leaves_of xs ≤ n → Rulebook.declare th k xs ≡ ok next → Small n next
  unfolding Rulebook.declare Rulebook.declare_sort Rulebook.declare_constructor Rulebook.declare_predicate Rulebook.with_symbol leaves
  declare_small sort_word xs few e = after_one xs _ e λ x p e₁. post_at {Q = Small n} e₁ (post_after _ _ λ name. post_after _ _ λ _. post_ok small)
  declare_small ctor_word xs few e =
      after_three xs _ e λ x y z p e₁.
      post_at {Q = Small n} e₁ (post_after _ _ λ name. post_after _ _ λ ys. post_after _ _ λ ins. post_after _ _ λ out. post_after _ _ λ _. post_ok small)
  declare_small pred_word xs few e =
      after_two xs _ e λ x y p e₁. post_at {Q = Small n} e₁ (post_after _ _ λ name. post_after _ _ λ ys. post_after _ _ λ ins. post_after _ _ λ _. post_ok small)
  declare_small rule_word xs few e =
      after_three xs _ e λ x y z p e₁. let h = ap leaves_of p in rule_small x y z (omega arith) e₁
  declare_small other_declaration xs few e = not_ok e

  -- A declaration's atoms are its head's and those of the members behind it.
  declaration_small : (x : Sexp) {next : Theory} → leaves x ≤ n → Rulebook.declaration th x ≡ ok next → Small n next
  unfolding Rulebook.declaration Rulebook.headed_declaration Rulebook.list_due ◌>>=◌ leaves
  declaration_small (leaf name) few e = not_ok e
  declaration_small (list []ₛ) few e = not_ok e
  declaration_small (list (h ∷ₛ xs)) few e =
      afterᵣ (Rulebook.atom_due h) e λ name e₁ e₂. declare_small (Rulebook.declaration_word name) xs (omega arith) e₂

-- All declarations of a rulebook, one after another.
declarations_small : (n : ℕ) (xs : Sexps) (th : Theory) {last : Theory} → Small n th → leaves_of xs ≤ n → Rulebook.declarations th xs ≡ ok last → Small n last
unfolding Rulebook.declarations leaves
declarations_small n []ₛ th small few e = subst (Small n) (ok_equal e) small
declarations_small n (x ∷ₛ xs) th small few e =
    afterᵣ _ e λ next e₁ e₂. declarations_small n xs next (declaration_small n th small x (omega arith) e₁) (omega arith) e₂

-- The conclusion of a rule has at most as many nodes as its rulebook has bytes.
pub rule_nodes : (rulebook : List ℕ) {th : Theory} → theory rulebook ≡ ok th → (name : Name) (r : Rule) → rule_named th name ≡ ok r
    → nodes (conclusion_of r) ≤ length rulebook
unfolding theory rule_named empty_theory
rule_nodes rulebook {th} e name r e₁ =
    afterᵣ _ e λ xs e₂ e₃.
    was_found_lem _ _ e₁ λ f.
    let s = sexps_read (items (tokens rulebook)) e₂ in
    let w = few_atoms rulebook in
    declarations_small (length rulebook) xs empty_theory (λ r m. elim m [ ]) (omega arith) e₃ r (first-some (is_rule name) th.rules f).0
