-- Terms by their numbers in the store, whose heads are addresses of the held theory's symbols: equal numbers are equal trees, and arity
-- and sorts are read from the words. Assumes nothing.
use mathlib.Core.Path.{◌≡◌, refl, sym, ap, ◌∙◌}
use mathlib.Core.List.{List, [], ◌∷◌}
use Prim.Native.Nat.{ℕ, suc, ◌+◌, ◌<◌}
use native.Mathlib.Omega.{arith}
use borrow.Author.Tests.{eq-eqb, ne_eqb}
use lib.Dec.{eqb}
use lib.ListN.{length, get_or}
use Rattle.names.specs.Below.horn.specs.Setting.{Setting}
use Rattle.names.specs.Below.horn.specs.Names.{Name}
use Rattle.names.specs.Below.horn.specs.Rulebook.{Symbol, inputs, Theory}
use Rattle.names.specs.Below.horn.specs.StoredTerms.{Term, node, Terms, width, same_term}
use Rattle.names.specs.Below.horn.specs.Checker.{has_sort, accepts}
use Rattle.names.specs.Below.horn.proofs.Equality.{same_term_decides, decides_false}
use Rattle.names.proofs.Holds.{by_number}
use Rattle.requests.specs.Below.arena.specs.Store.{head_of, intern_answer, intern_area}
use Rattle.requests.specs.Below.arena.proofs.Nodes.{Node}
use Rattle.requests.specs.Below.arena.proofs.Limits.{Limits}
use Rattle.requests.specs.Below.arena.proofs.Readings.{head_read, one_tree}
use Rattle.requests.specs.Below.arena.proofs.Trees as trees
use Rattle.requests.specs.Below.arena.proofs.Trees.{Below, both, Formed, formed, tree_of, lookups, build, Trees, InternedTree, interned_tree}
use Rattle.theory_laws.specs.Representation.{Entries, SortAt, SymbolAt, Holds}
use Rattle.theory_reading.specs.Reading.{output_of, accepted}
use Rattle.theory_reading.specs.Addresses.{symbol_at, Used}
use Rattle.theory_reading.proofs.Bridge.{stands_at, used_injective}
use Rattle.theory_reading.proofs.Held.{Heads, no_heads, one_head, accepts_is, has_sort_lem}

pub lookups-width : (at : ℕ → Symbol) (ts : List Term) (ms : List ℕ) → width (lookups at ts ms) ≡ length ms
unfolding lookups width
lookups-width at ts [] = refl
lookups-width at ts (m ∷ ms) = ap suc (lookups-width at ts ms)

module _ {text heap : List ℕ} {es : Entries} {top : ℕ} {th : Theory} (h : Holds text heap es top th) where
  -- The law of the store, for addresses of this theory.
  pub interned : (limits : Setting) (places : ℕ) → Limits limits.nodes limits.node_words places
      → (a : List ℕ) (ts : List Term)
      → Trees (symbol_at es th) (Used es) limits.nodes limits.node_words places a ts
      → (x : Node)
      → Formed (Used es) (length ts) x
      → InternedTree (symbol_at es th) (Used es) limits places a ts (build (symbol_at es th) ts x)
      (intern_answer a limits.nodes limits.node_words places x) (intern_area a limits.nodes limits.node_words places x)
  interned = interned_tree (symbol_at es th) (Used es) (used_injective h)

  module _ (nodes words places : ℕ) {a : List ℕ} {ts : List Term} (t : Trees (symbol_at es th) (Used es) nodes words places a ts) where
    -- Equal numbers are equal trees.
    pub same_number : (j k : ℕ) → j < length ts → k < length ts → eqb j k ≡ same_term (tree_of (symbol_at es th) ts j) (tree_of (symbol_at es th) ts k)
    same_number j k l u =
        by_number j k
        (λ e. eq-eqb j k e ∙ sym (rw e (same_term_decides.same (tree_of (symbol_at es th) ts k))))
        (λ n.
        ne_eqb j k n
        ∙ sym (decides_false same_term_decides _ _ (λ e. n (one_tree (symbol_at es th) (Used es) nodes words places a ts t j k l u e))))

    -- A number's head is the address of its tree's symbol.
    pub record Headed (k : ℕ) : Type 0 where
      pub symbol : Symbol
      pub under : Terms
      pub tree : tree_of (symbol_at es th) ts k ≡ node symbol under
      pub stands : SymbolAt heap es top (head_of a nodes places k) symbol

    pub headed : (k : ℕ) → k < length ts → Headed k
    unfolding build
    headed k l =
        let i : k < length t.nodes_of = omega (arith, t.stand.same) in
        by (t.stand.each k i) (t.stand.built k i) (head_read nodes words places a t.nodes_of t.kept k i) where
          by : {x : Node} → Formed (Used es) k x → tree_of (symbol_at es th) ts k ≡ build (symbol_at es th) ts x
              → (0 < length x → head_of a nodes places k ≡ get_or x 0 0)
              → Headed k
          by (formed {head} {arguments} u bs) e f =
              record {
                symbol = symbol_at es th head;
                under = lookups (symbol_at es th) ts arguments;
                tree = e;
                stands = rw (f (omega arith)) (stands_at h u);
              }

    -- Whether a term has a sort.
    pub number_sort : (k : ℕ) → k < length ts → {b : ℕ} {s : Name} → SortAt es b s
        → eqb (output_of heap (head_of a nodes places k)) b ≡ has_sort s (tree_of (symbol_at es th) ts k)
    number_sort k l m = let x = headed k l in rw x.tree (has_sort_lem h x.stands x.under m)

    heads_of : (number : ℕ → ℕ) (k : ℕ) {ms : List ℕ} → ((j : ℕ) → j < length ms → number (k + j) ≡ get_or ms j 0) → Below (length ts) ms
        → Heads heap es top (λ (i : ℕ). head_of a nodes places (number i)) k (lookups (symbol_at es th) ts ms)
    unfolding lookups
    heads_of number k f trees.none = no_heads
    heads_of number k f (both {m} {ms} l bs) =
        let x = headed m l in
        let z : k + 0 ≡ k = omega arith in
        let e : number k ≡ m = ap number (sym z) ∙ f 0 (omega arith) in
        rw x.tree
        (one_head {k = k} {c = x.symbol} {us = x.under} (rw e x.stands)
        (heads_of number (k + 1) (λ j u. let q : k + 1 + j ≡ k + suc j = omega arith in rw q (f (suc j) (omega arith))) bs))

    -- "Arity and sorts", by the numbers of the arguments, of which `number k` is the k-th.
    pub accepts_numbers : (number : ℕ → ℕ) {ms : List ℕ} {d : ℕ} {c : Symbol} → SymbolAt heap es top d c
        → ((j : ℕ) → j < length ms → number j ≡ get_or ms j 0)
        → Below (length ts) ms
        → accepted (λ (i : ℕ). head_of a nodes places (number i)) heap d (length ms) ≡ accepts (inputs c) (lookups (symbol_at es th) ts ms)
    accepts_numbers number {ms} x f bs =
        rw (← lookups-width (symbol_at es th) ts ms)
        (accepts_is h x (heads_of number 0 (λ j u. let q : 0 + j ≡ j = omega arith in rw q (f j u)) bs))
