-- "Layout for the converse" in document 01: the certificate that is laid out for a list of instances.
use Rattle.std.specs.Prelude.{ℕ, zero, suc, ◌+◌, ◌≤◌, max, true, false, eqb, length}
use mathlib.Core.List.{List, [], ◌∷◌, ◌++◌, map, reverse, Memᴰ}
use Rattle.horn.specs.Setting.{Setting}
use Rattle.horn.specs.Names.{Name, some_of, codes}
use Rattle.horn.specs.NestedLists.{Sexp, leaf, list, Sexps, []ₛ, ◌∷ₛ◌}
use Rattle.horn.specs.Rulebook.{Rule, rule, Theory}
use Rattle.horn.specs.StoredTerms.{Term, node, Terms, []ₜ, ◌∷ₜ◌, same_term, size}
use Rattle.horn.specs.Checker.{Goal, goal}
use Rattle.horn.specs.Written.{judgment_sexp}
use Rattle.horn.specs.Forced.{Instance, IsInstance, premises, conclusion, Each, judgments, LongEnough}

-- The digits of the next number, from those of a number, the last digit first.
unfoldable pub next : List ℕ → List ℕ
next [] = 1 ∷ []
next (d ∷ ds) = elim (eqb d 9) [ true ↦ 0 ∷ next ds | false ↦ suc d ∷ ds ]

-- The decimal digits of a number, the last one first, counted up from 0.
unfoldable pub counted_to : ℕ → List ℕ
counted_to zero = 0 ∷ []
counted_to (suc n) = next (counted_to n)

-- "Plain decimal numbers": a number as it is written.
unfoldable pub plain : ℕ → Name
plain n = map (λ d. 0x30 + d) (reverse (counted_to n))

-- "(refs)": numbers as the members of a list.
unfoldable pub plain_all : List ℕ → Sexps
plain_all [] = []ₛ
plain_all (n ∷ ns) = leaf (plain n) ∷ₛ plain_all ns

-- The name of a rule.
unfoldable pub rule_name : Rule → Name
rule_name (rule name vs ps c) = name

-- "A reference is the lowest earlier step that concludes the premise, a result the lowest that concludes the goal": the number of
-- the first of these conclusions that is this judgment. Where none is, it answers how many conclusions there are.
unfoldable pub lowest : List Term → Term → ℕ
lowest [] j = zero
lowest (c ∷ cs) j = elim (same_term c j) [ true ↦ zero | false ↦ suc (lowest cs j) ]

-- "For each instance `(step N R (refs) J)`, J its conclusion": the form, after steps that have the conclusions given.
unfoldable pub step_sexp : List Term → Instance → Sexp
step_sexp earlier i =
    list
    (leaf (codes "step")
    ∷ₛ leaf (plain (length earlier))
    ∷ₛ leaf (rule_name i.by_rule)
    ∷ₛ list (plain_all (map (lowest earlier) (premises i)))
    ∷ₛ judgment_sexp (conclusion i)
    ∷ₛ []ₛ)

-- The forms of all steps, one for each instance, after steps that have the conclusions given.
unfoldable pub step_sexps : List Term → List Instance → List Sexp
step_sexps earlier [] = []
step_sexps earlier (i ∷ is) = step_sexp earlier i ∷ step_sexps (earlier ++ (conclusion i ∷ [])) is

-- "Then `(result G N)` for each goal in goals order": the form for one goal, after steps that have the conclusions given.
unfoldable pub result_sexp : List Term → Goal → Sexp
result_sexp conclusions (goal name j) =
    list (leaf (codes "result") ∷ₛ leaf name ∷ₛ leaf (plain (lowest conclusions j)) ∷ₛ []ₛ)

-- All forms: the steps, then the results.
unfoldable pub layout_forms : List Goal → List Instance → List Sexp
layout_forms goals is = step_sexps [] is ++ map (result_sexp (map conclusion is)) goals

-- "Single spaces": the bytes of a form.
unfoldable mutual
  pub printed : Sexp → List ℕ
  printed (leaf name) = name
  printed (list xs) = 0x28 ∷ (printed_all xs ++ (0x29 ∷ []))

  -- The bytes of a list's members, with a single space between two.
  pub printed_all : Sexps → List ℕ
  printed_all []ₛ = []
  printed_all (x ∷ₛ xs) = printed x ++ spaced xs

  -- Members behind another, each after a space.
  pub spaced : Sexps → List ℕ
  spaced []ₛ = []
  spaced (x ∷ₛ xs) = 0x20 ∷ (printed x ++ spaced xs)

-- "One form a line, each ended by 0A."
unfoldable pub printed_lines : List Sexp → List ℕ
printed_lines [] = []
printed_lines (x ∷ xs) = printed x ++ 0x0A ∷ printed_lines xs

-- The laid-out certificate.
unfoldable pub laid_out : List Goal → List Instance → List ℕ
laid_out goals is = printed_lines (layout_forms goals is)

-- By how much the deepest item within a form is deeper than the form: 0 for an atom and for `()`.
unfoldable mutual
  pub height : Sexp → ℕ
  height (leaf name) = zero
  height (list xs) = heights xs

  -- The same of a list, by its members.
  pub heights : Sexps → ℕ
  heights []ₛ = zero
  heights (x ∷ₛ xs) = max (suc (height x)) (heights xs)

-- "No item deeper than 256": the depth of the deepest item of a certificate, by its forms, which have depth 0.
unfoldable pub depth : List Sexp → ℕ
depth [] = zero
depth (x ∷ xs) = max (height x) (depth xs)

-- "With all their subterms": a term and all its subterms.
unfoldable mutual
  pub subterms : Term → List Term
  subterms (node c ts) = node c ts ∷ subterms_of ts

  -- The same of arguments.
  pub subterms_of : Terms → List Term
  subterms_of []ₜ = []
  subterms_of (t ∷ₜ ts) = subterms t ++ subterms_of ts

-- "With all their subterms": the terms of a list and all subterms of each.
unfoldable pub all_subterms : List Term → List Term
all_subterms [] = []
all_subterms (t ∷ ts) = subterms t ++ all_subterms ts

-- "Distinct": each term once.
unfoldable pub distinct : List Term → List Term
distinct [] = []
distinct (t ∷ ts) = elim (some_of (same_term t) ts) [ true ↦ distinct ts | false ↦ t ∷ distinct ts ]

-- "The distinct judgments of goals and conclusions, with all their subterms".
unfoldable pub distinct_terms : List Goal → List Instance → List Term
distinct_terms goals is = distinct (all_subterms (judgments goals ++ map conclusion is))

-- How many nodes a term has as a tree.
unfoldable mutual
  pub tree_size : Term → ℕ
  tree_size (node c ts) = suc (tree_size_of ts)

  -- The same of arguments, added up.
  pub tree_size_of : Terms → ℕ
  tree_size_of []ₜ = zero
  tree_size_of (t ∷ₜ ts) = tree_size t + tree_size_of ts

-- The same of the terms of a list, added up.
unfoldable pub all_tree_sizes : List Term → ℕ
all_tree_sizes [] = zero
all_tree_sizes (t ∷ ts) = tree_size t + all_tree_sizes ts

-- L1: "nodes requested", for the laid-out certificate: the judgments of goals and the conclusions, as trees.
unfoldable pub requested_nodes : List Goal → List Instance → ℕ
requested_nodes goals is = all_tree_sizes (judgments goals ++ map conclusion is)

-- "Within the limits means: areas long enough, the certificate's length, no item deeper than 256, and the distinct
-- judgments of goals and conclusions, with all their subterms, within the store's two limits."
pub record WithinLimits (limits : Setting) (a b c d : ℕ) (goals : List Goal) (is : List Instance) : Type 0 where
  pub areas : LongEnough limits a b c d
  pub short : length (laid_out goals is) ≤ limits.certificate_bytes
  pub shallow : depth (layout_forms goals is) ≤ 256
  pub few : length (distinct_terms goals is) ≤ limits.nodes
  pub small : size (distinct_terms goals is) ≤ limits.node_words

-- Instances, one after another, after steps that have the conclusions given: each is well-sorted, and each of its premises is an
-- earlier conclusion.
pub data Supported (th : Theory) : List Term → List Instance → Type 0 where
  no_instance : {earlier : List Term} → Supported th earlier []
  instance_then : {earlier : List Term} {i : Instance} {is : List Instance} → IsInstance th i
      → Each (λ j. Memᴰ j earlier) (premises i)
      → Supported th (earlier ++ (conclusion i ∷ [])) is
      → Supported th earlier (i ∷ is)

-- A list of instances that proves goals: it is supported from the first instance on, and each goal's judgment is some instance's
-- conclusion.
pub record Proves (th : Theory) (goals : List Goal) (is : List Instance) : Type 0 where
  pub supported : Supported th [] is
  pub reached : Each (λ j. Memᴰ j (map conclusion is)) (judgments goals)
