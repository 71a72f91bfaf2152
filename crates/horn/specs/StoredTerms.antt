-- "Stored terms" in document 01. A term or a judgment is a tree, and so the store has a list of distinct trees, in the
-- order in which they were first stored; and with it, for request L1 of document 02, how each request to it was met.
use Rattle.std.specs.Prelude.{ℕ, zero, suc, ◌+◌, Bool, true, false, ◌&&◌, List, [], ◌∷◌, ◌++◌, leb, length}
use Rattle.horn.specs.Refusals.{Result, ok, ◌>>=◌, need, store_full}
use Rattle.horn.specs.Setting.{Setting}
use Rattle.horn.specs.Names.{some_of}
use Rattle.horn.specs.Rulebook.{Symbol, same_symbol}

-- "A node is a head and argument numbers; equal nodes get one number": equal trees are one entry of the store.
mutual
  pub data Term : Type 0 where
    node : Symbol → Terms → Term

  -- The arguments of a node, in order.
  pub data Terms : Type 0 where
    []ₜ : Terms
    ◌∷ₜ◌ : Term → Terms → Terms

infixr 20 ◌∷ₜ◌
-- Whether two terms are equal.
unfoldable mutual
  pub same_term : Term → Term → Bool
  same_term (node c ts) (node d us) = elim (same_symbol c d) [ true ↦ same_terms ts us | false ↦ false ]

  -- The same of arguments: as many, and equal one by one.
  pub same_terms : Terms → Terms → Bool
  same_terms []ₜ []ₜ = true
  same_terms []ₜ (u ∷ₜ us) = false
  same_terms (t ∷ₜ ts) []ₜ = false
  same_terms (t ∷ₜ ts) (u ∷ₜ us) = elim (same_term t u) [ true ↦ same_terms ts us | false ↦ false ]

-- How many arguments there are.
unfoldable pub width : Terms → ℕ
width []ₜ = zero
width (t ∷ₜ ts) = suc (width ts)

-- "1 plus arguments each".
unfoldable pub node_size : Term → ℕ
node_size (node head arguments) = 1 + width arguments

-- The words of all nodes together.
unfoldable pub size : List Term → ℕ
size [] = zero
size (t ∷ ts) = node_size t + size ts

-- "A node not yet held": whether a term is held.
unfoldable pub holds : List Term → Term → Bool
holds terms t = some_of (same_term t) terms

-- "At most 2,048 nodes and 8,192 words".
unfoldable pub within_limits : Setting → List Term → Bool
within_limits limits terms = leb (length terms) limits.nodes && leb (size terms) limits.node_words

-- "Refusal 28 comes when a node not yet held would pass either, and otherwise never."
unfoldable pub intern : Setting → Term → List Term → Result (List Term)
intern limits t terms =
    elim (holds terms t) [
      | true ↦ ok terms
      | false ↦ need (within_limits limits (terms ++ (t ∷ []))) store_full >>= λ _. ok (terms ++ (t ∷ []))
    ]

-- L1: "Storing a node must now say whether it was found or made."
pub data Met : Type 0 where
  was_found was_made : Met

-- "Found" if some terms hold it, else "made".
unfoldable pub met_by : List Term → Term → Met
met_by terms t = elim (holds terms t) [ true ↦ was_found | false ↦ was_made ]

-- How many requests were met as "found".
unfoldable pub found_in : List Met → ℕ
found_in [] = zero
found_in (was_found ∷ ms) = suc (found_in ms)
found_in (was_made ∷ ms) = found_in ms

-- How many were met as "made".
unfoldable pub made_in : List Met → ℕ
made_in [] = zero
made_in (was_found ∷ ms) = made_in ms
made_in (was_made ∷ ms) = suc (made_in ms)

-- The store: its terms; and L1: "every request to the store that was met, found or made", the latest first.
pub record Store : Type 0 where
  pub terms : List Term
  pub requests : List Met

-- Before the first request.
abbrev pub empty_store : Store
empty_store = record { terms = []; requests = [] }

-- One request: the store afterwards, or refusal 28. A request that is refused is not met.
unfoldable pub request : Setting → Term → Store → Result Store
request limits t store =
    intern limits t store.terms >>= λ after. ok record { terms = after; requests = met_by store.terms t ∷ store.requests }
