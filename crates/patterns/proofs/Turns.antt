-- One turn of each loop, one level of a pattern and the head of a judgment, on the side of the models.
use Prim.Native.Nat.{ℕ, zero, suc, ◌+◌, ◌-◌, ◌<◌, ◌≤◌}
use mathlib.Core.Path.{◌≡◌, ◌∙◌, refl, ap}
use mathlib.Core.List.{List}
use native.Mathlib.Omega.{arith}
use lib.ListN.{get_or}
use Rattle.outcomes.specs.Outcomes.{Outcome, ok, refused}
use Rattle.outcomes.specs.Leaving.{Did, ◌leaving◌, ◌>>=◌, beside}
use Rattle.items.specs.Places as places
use Rattle.items.specs.Items.{Met, atom, list, item_due, closing_due}
use Rattle.variables.specs.Variables.{Areas}
use Rattle.leaves.specs.Leaves.{compound_head}
use Rattle.patterns.specs.Patterns.{leaf}
use Rattle.std.specs.declared.option.Option.TheVariants.{Some, None}
use Rattle.patterns.specs.Lent.{Part, whole, head, after, mapped, each, term_from, part_due}
use Rattle.patterns.specs.Patterns.{arguments_from, pattern, pattern_of, arguments, judgment, judgments}
use Rattle.items.specs.declared.Walk.{Walk}

module _ (read : ℕ → Walk → List ℕ → List ℕ → Did Areas Walk) (text : List ℕ) (c n : ℕ) (w : Walk) (vars heap : List ℕ) where
  pub arguments_on : (k : ℕ) {q : Walk} {vars' heap' : List ℕ} → k < n → read (get_or heap (c + places.inputs + k) 0) w vars heap ≡ (ok q leaving (vars', heap'))
      → arguments_from read (n - k) text c k w vars heap ≡ arguments_from read (n - (k + 1)) text c (k + 1) q vars' heap'
  unfolding arguments_from
  arguments_on k l h = let e : n - k ≡ suc (n - (k + 1)) = omega arith in rw (e, h)

  pub argument_refused : (k : ℕ) {m : ℕ} {left : Areas} → k < n → read (get_or heap (c + places.inputs + k) 0) w vars heap ≡ (refused m leaving left)
      → arguments_from read (n - k) text c k w vars heap ≡ (refused m leaving left)
  unfolding arguments_from
  argument_refused k l h = let e : n - k ≡ suc (n - (k + 1)) = omega arith in rw (e, h)

  pub arguments_end : (k : ℕ) → n ≤ k → arguments_from read (n - k) text c k w vars heap ≡ (closing_due text w leaving (vars, heap))
  unfolding arguments_from
  arguments_end k l = let e : n - k ≡ 0 = omega arith in rw e

-- What a term at a place is, where some depth is left.
abbrev pattern_step : ℕ → List ℕ → List ℕ → ℕ → Walk → List ℕ → List ℕ → Did Areas Walk
pattern_step left text counts sort w vars heap = do
  (i, (vars, heap)) ← item_due text counts w leaving (vars, heap)
  pattern_of (pattern left text counts) text counts sort i vars heap

pub pattern_within : (left : ℕ) (text counts : List ℕ) (sort : ℕ) (w : Walk) (vars heap : List ℕ) → (left ≡ 0 → ⊥)
    → pattern left text counts sort w vars heap ≡ pattern_step (left - 1) text counts sort w vars heap
unfolding pattern
pattern_within zero text counts sort w vars heap n = absurd (n refl)
pattern_within (suc left) text counts sort w vars heap n = let e : suc left - 1 ≡ left = omega arith in rw e

-- A term, once a part of it was taken: a whole one, or a head with its arguments still to read.
abbrev continued : (ℕ → Walk → List ℕ → List ℕ → Did Areas Walk) → List ℕ → Did Areas Part → Did Areas Walk
continued read text (refused n leaving s) = refused n leaving s
continued read text (ok (whole q) leaving s) = ok q leaving s
continued read text (ok (head (c, q)) leaving (vars, heap)) = arguments_from read (get_or heap (c + places.arity) 0) text c 0 q vars heap

module _ (read : ℕ → Walk → List ℕ → List ℕ → Did Areas Walk) (text counts : List ℕ) (sort : ℕ) (vars heap : List ℕ) where
  leaf_parts : (d : Did Areas Walk) → d ≡ continued read text (each whole d)
  leaf_parts (ok q leaving s) = refl
  leaf_parts (refused n leaving s) = refl

  head_parts : (d : Did (List ℕ) (ℕ × Walk)) → (do
    ((c, q), (vars, heap)) ← beside vars d
    arguments_from read (get_or heap (c + places.arity) 0) text c 0 q vars heap) ≡ continued read text (each head (beside vars d))
  head_parts (ok (c, q) leaving s) = refl
  head_parts (refused n leaving s) = refl

  item_parts : (i : Outcome Met) → (do
    (i, (vars, heap)) ← i leaving (vars, heap)
    pattern_of read text counts sort i vars heap) ≡ continued read text (do
      (i, (vars, heap)) ← i leaving (vars, heap)
      term_from text counts sort i vars heap)
  item_parts (refused n) = refl
  item_parts (ok (atom s t w)) = leaf_parts (leaf text s t sort w vars heap)
  item_parts (ok (list members w)) = head_parts (compound_head text counts sort members w heap)

-- A term where some depth is left, by the part that was taken of it.
module _ (left : ℕ) (text counts : List ℕ) (sort : ℕ) (w : Walk) (vars heap : List ℕ) (some : left ≡ 0 → ⊥) where
  in_parts : pattern left text counts sort w vars heap ≡ continued (pattern (left - 1) text counts) text (part_due (Some sort) text counts w vars heap)
  unfolding part_due
  in_parts =
      pattern_within left text counts sort w vars heap some ∙ item_parts (pattern (left - 1) text counts) text counts sort vars heap (item_due text counts w)

  pub pattern-refused : {n : ℕ} {s : Areas} → (refused n leaving s) ≡ part_due (Some sort) text counts w vars heap
      → (refused n leaving s) ≡ pattern left text counts sort w vars heap
  pattern-refused h = rw (in_parts, ← h)

  pub pattern-whole : {q : Walk} {s : Areas} → (ok (whole q) leaving s) ≡ part_due (Some sort) text counts w vars heap
      → (ok q leaving s) ≡ pattern left text counts sort w vars heap
  pattern-whole h = rw (in_parts, ← h)

  pub pattern-head : {c : ℕ} {q : Walk} {vars' heap' : List ℕ} → (ok (head (c, q)) leaving (vars', heap')) ≡ part_due (Some sort) text counts w vars heap
      → arguments (left - 1) text counts c q vars' heap' ≡ pattern left text counts sort w vars heap
  unfolding arguments
  pattern-head h = rw (in_parts, ← h)

pub closing_taken : (text counts : List ℕ) (w : Walk) (vars heap : List ℕ) {p : Part} {s : Areas}
    → (ok p leaving s) ≡ part_due None text counts w vars heap → (ok (after p) leaving s) ≡ (closing_due text w leaving (vars, heap))
unfolding part_due
closing_taken text counts w vars heap h = by (closing_due text w) h where
  by : (o : Outcome Walk) {p : Part} {s : Areas} → (ok p leaving s) ≡ (mapped whole o leaving (vars, heap)) → (ok (after p) leaving s) ≡ (o leaving (vars, heap))
  by (ok q) h = ap (each after) h
  by (refused n) h = ap (each after) h

pub closing-refused : (text counts : List ℕ) (w : Walk) (vars heap : List ℕ) {n : ℕ} {s : Areas}
    → (refused n leaving s) ≡ part_due None text counts w vars heap → (refused n leaving s) ≡ (closing_due text w leaving (vars, heap))
unfolding part_due
closing-refused text counts w vars heap h = by (closing_due text w) h where
  by : (o : Outcome Walk) {n : ℕ} {s : Areas} → (refused n leaving s) ≡ (mapped whole o leaving (vars, heap)) → (refused n leaving s) ≡ (o leaving (vars, heap))
  by (ok q) h = ap (each after) h
  by (refused n) h = ap (each after) h

-- The loop over premises.
pub judgments_on : (text counts : List ℕ) (n i : ℕ) (w : Walk) (vars heap : List ℕ) {q : Walk} {vars' heap' : List ℕ} → i < n
    → judgment text counts w vars heap ≡ (ok q leaving (vars', heap'))
    → judgments (n - i) text counts w vars heap ≡ judgments (n - (i + 1)) text counts q vars' heap'
unfolding judgments
judgments_on text counts n i w vars heap l h = let e : n - i ≡ suc (n - (i + 1)) = omega arith in rw (e, h)

pub judgment-refused : (text counts : List ℕ) (n i : ℕ) (w : Walk) (vars heap : List ℕ) {m : ℕ} {after : Areas} → i < n
    → judgment text counts w vars heap ≡ (refused m leaving after) → judgments (n - i) text counts w vars heap ≡ (refused m leaving after)
unfolding judgments
judgment-refused text counts n i w vars heap l h = let e : n - i ≡ suc (n - (i + 1)) = omega arith in rw (e, h)

pub judgments_end : (text counts : List ℕ) (n i : ℕ) (w : Walk) (vars heap : List ℕ) → n ≤ i
    → judgments (n - i) text counts w vars heap ≡ (closing_due text w leaving (vars, heap))
unfolding judgments
judgments_end text counts n i w vars heap l = let e : n - i ≡ 0 = omega arith in rw e

pub ruleset premises = (judgments_on, judgment-refused, judgments_end)

pub ruleset level_turns = (pattern-refused, pattern-whole, pattern-head)

pub ruleset turns = (arguments_on, argument_refused, arguments_end, closing_taken, closing-refused)
