-- Matching and building over flat words: what each function answers, and what it leaves of the bindings, the store and the stack.
use Rattle.std.specs.Prelude.{ℕ, zero, suc, ◌+◌, ◌-◌, Bool, true, List, eqb, leb, get_or, set}
use Rattle.std.proofs.Math.Option.{Option, none, some}
use Rattle.words.specs.Parts.{part}
use Rattle.arena.specs.Store.{head_of, argument_of, intern_answer}
use Rattle.requests.specs.Requests.{requested_area}
use Rattle.outcomes.specs.Outcomes.{Outcome, ok, refused, pick}
use Rattle.outcomes.specs.Leaving as leaving
use Rattle.outcomes.specs.Leaving.{Did, ◌leaving◌}
use Rattle.words.specs.Sums.{sum32}
use Rattle.items.specs.Places as layout
use Rattle.theory_reading.specs.Reading.{arity_of}
use Rattle.theory_reading.specs.Storing.{numbered, Areas, before}
use Rattle.std.specs.declared.option.Option as code
use Rattle.std.specs.declared.option.Option.TheVariants.{Some, None}

-- What a match answers, with the bindings that it leaves: nothing is refused yet, since 01's number for a mismatch, 23 or 25, is its caller's.
pub data Tried (A : Type 0) : Type 0 where
  ◌keeping◌ : Option A → List ℕ → Tried A

infix 10 ◌keeping◌
infixl 5 ◌>>=◌
abbrev pub ◌>>=◌ : {A B : Type 0} → Tried A → (A × List ℕ → Tried B) → Tried B
(some a keeping heap) >>= f = f (a, heap)
(none keeping heap) >>= f = none keeping heap

-- What the code's answer says: where a pattern that matched ends, or that it differs.
abbrev pub tried : code.Option ℕ → List ℕ → Tried ℕ
tried (Some o) heap = some o keeping heap
tried None heap = none keeping heap

-- The word of a variable's binding: 0, or a term's number plus 1.
abbrev pub binding_at : ℕ → ℕ
binding_at v = layout.bindings + v

unfoldable pub binding_of : List ℕ → ℕ → ℕ
binding_of heap v = get_or heap (binding_at v) 0

-- "A variable binds first and must be equal later."
unfoldable pub agrees : List ℕ → ℕ → ℕ → Bool
agrees heap v t = pick (eqb (binding_of heap v) 0) (λ _. true) (λ _. eqb (binding_of heap v) (sum32 t 1))

unfoldable pub with_binding : List ℕ → ℕ → ℕ → List ℕ
with_binding heap v t = pick (eqb (binding_of heap v) 0) (λ _. set heap (binding_at v) (sum32 t 1)) (λ _. heap)

unfoldable pub variable_matched : List ℕ → ℕ → ℕ → ℕ → Tried ℕ
variable_matched heap v t o = pick (agrees heap v t) (λ _. some (sum32 o 1) keeping with_binding heap v t) (λ _. none keeping with_binding heap v t)

module _ (nodes places : ℕ) (store : List ℕ) where
  -- n arguments of term t from the j-th on, against the patterns that stand from o on.
  unfoldable pub arguments_matched : (ℕ → ℕ → List ℕ → Tried ℕ) → ℕ → ℕ → ℕ → ℕ → List ℕ → Tried ℕ
  arguments_matched one zero t j o heap = some o keeping heap
  arguments_matched one (suc n) t j o heap = do
    (next, heap) ← one o (argument_of store nodes places t j) heap
    arguments_matched one n t (j + 1) next heap

  abbrev pub symbol_matched : (ℕ → ℕ → List ℕ → Tried ℕ) → ℕ → ℕ → ℕ → List ℕ → Tried ℕ
  symbol_matched one word o t heap =
      pick (eqb word (head_of store nodes places t))
      (λ _. arguments_matched one (arity_of heap word) t 0 (sum32 o 1) heap)
      (λ _. none keeping heap)

  -- "Matching goes one level of the pattern at a time": the pattern at o against term t. Where it ends, or none.
  unfoldable pub matched : ℕ → ℕ → ℕ → List ℕ → Tried ℕ
  matched zero o t heap = none keeping heap
  matched (suc left) o t heap =
      pick (leb layout.variable (get_or heap o 0))
      (λ _. variable_matched heap (get_or heap o 0 - layout.variable) t o)
      (λ _. symbol_matched (matched left) (get_or heap o 0) o t heap)

-- "Unbound variable 26".
unfoldable pub bound_term : List ℕ → ℕ → ℕ → Outcome (ℕ × ℕ)
bound_term heap v o = pick (eqb (binding_of heap v) 0) (λ _. refused 26) (λ _. ok (binding_of heap v - 1, sum32 o 1))

module _ (nodes limit places : ℕ) where
  -- "Each node stored after its arguments": its words stand on the stack; its number, with where its pattern ended.
  unfoldable pub node_made : ℕ → ℕ → ℕ → List ℕ → List ℕ → Did (List ℕ) (ℕ × ℕ)
  node_made from to o stack store =
      numbered o (intern_answer store nodes limit places (part from to stack)) leaving requested_area store nodes limit places (part from to stack)

  -- n arguments from the patterns that stand from o on, to the stack from p on; then the node, whose words stand there from `from` on.
  unfoldable pub arguments_built : (ℕ → ℕ → List ℕ → List ℕ → Did Areas (ℕ × ℕ)) → ℕ → ℕ → ℕ → ℕ → List ℕ → List ℕ → Did Areas (ℕ × ℕ)
  arguments_built one zero from o p stack store = before stack (node_made from p o stack store)
  arguments_built one (suc n) from o p stack store = leaving.◌>>=◌ (one o p stack store) λ r.
      arguments_built one n from r.0.1 (sum32 p 1) (set r.1.1 p r.0.0) r.1.0

  -- "The conclusion is built left to right": the term of the pattern at o, by its number, and where the pattern ends.
  unfoldable pub term_built : List ℕ → ℕ → ℕ → ℕ → List ℕ → List ℕ → Did Areas (ℕ × ℕ)
  term_built heap zero o p stack store = refused 26 leaving (store, stack)
  term_built heap (suc left) o p stack store =
      pick (leb layout.variable (get_or heap o 0))
      (λ _. bound_term heap (get_or heap o 0 - layout.variable) o leaving (store, stack))
      (λ _. arguments_built (term_built heap left) (arity_of heap (get_or heap o 0)) p (sum32 o 1) (sum32 p 1) (set stack p (get_or heap o 0)) store)
