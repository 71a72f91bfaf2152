-- The judgment of a step by its rule: what each function answers, and what it leaves of the bindings, the store and the stack.
use Rattle.std.specs.Prelude.{ℕ, zero, suc, ◌+◌, ◌-◌, List, eqb, ltb, length, get_or, set}
use Rattle.outcomes.specs.Outcomes.{ok, pick, need, or_else}
use Rattle.outcomes.specs.Leaving.{Did, ◌leaving◌, ◌>>=◌, beside}
use Rattle.theory_reading.specs.Reading.{premise_count, premises_place, conclusion_place}
use Rattle.theory_reading.specs.Storing.{Areas, before}
use Rattle.tables.specs.Words.{step_at}
use Rattle.matching.specs.Matching.{Tried, ◌keeping◌, binding_at, matched, term_built}

-- The levels that a pattern may have: the words of the theory's area.
abbrev pub levels : ℕ
levels = 16384

-- What a mismatch is to the caller: a refusal by 01's number.
abbrev pub or_refused : {A : Type 0} → Tried A → ℕ → Did (List ℕ) A
or_refused (o keeping heap) n = or_else o n leaving heap

-- The judgment of step i, the first of its words.
unfoldable pub step_judgment : List ℕ → ℕ → ℕ
step_judgment table i = get_or table (step_at (length table) i) 0

-- "For each premise in order, no earlier step 24, mismatch 25": n premises from the k-th reference on, whose patterns stand from o on.
unfoldable pub premises_matched : ℕ → ℕ → List ℕ → List ℕ → List ℕ → ℕ → ℕ → ℕ → ℕ → List ℕ → Did (List ℕ) ℕ
premises_matched nodes places store table stack steps zero k o heap = ok o leaving heap
premises_matched nodes places store table stack steps (suc n) k o heap = do
  _ ← need (ltb (get_or stack k 0) steps) 24 leaving heap
  (next, heap) ← or_refused (matched nodes places store levels o (step_judgment table (get_or stack k 0)) heap) 25
  premises_matched nodes places store table stack steps n (k + 1) next heap

-- The first n bindings taken back.
unfoldable pub unbound : ℕ → List ℕ → List ℕ
unbound zero heap = heap
unbound (suc n) heap = unbound n (set heap (binding_at n) 0)

-- "The stated conclusion (23); for each premise in order, no earlier step 24, mismatch 25".
unfoldable pub stated_concluded : ℕ → ℕ → List ℕ → List ℕ → List ℕ → ℕ → ℕ → ℕ → List ℕ → Did (List ℕ) ℕ
stated_concluded nodes places store table stack steps rule t heap = do
  (_, after) ← or_refused (matched nodes places store levels (conclusion_place heap rule) t heap) 23
  (_, after) ← premises_matched nodes places store table stack steps (premise_count heap rule) 0 (premises_place rule) after
  ok t leaving after

-- "With none stated the conclusion is built".
unfoldable pub built_concluded : ℕ → ℕ → ℕ → List ℕ → ℕ → ℕ → List ℕ → List ℕ → List ℕ → Did (Areas × List ℕ) ℕ
built_concluded nodes limit places table steps rule stack store heap = do
  (o, (_, after)) ← beside (store, stack) (premises_matched nodes places store table stack steps (premise_count heap rule) 0 (premises_place rule) heap)
  ((k, _), areas) ← before after (term_built nodes limit places after levels o (premise_count heap rule) stack store)
  ok k leaving areas

unfoldable pub step_concluded : ℕ → ℕ → ℕ → List ℕ → ℕ → ℕ → ℕ → List ℕ → List ℕ → List ℕ → Did (Areas × List ℕ) ℕ
step_concluded nodes limit places table steps rule stated stack store heap =
    pick (eqb stated 0)
    (λ _. built_concluded nodes limit places table steps rule stack store heap)
    (λ _. beside (store, stack) (stated_concluded nodes places store table stack steps rule (stated - 1) heap))
