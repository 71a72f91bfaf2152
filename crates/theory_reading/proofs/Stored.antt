-- The terms that the store holds, by number: what a number stands for, and one request more. Assumes nothing.
use mathlib.Core.Path.{◌≡◌, refl, sym, ap, ◌∙◌}
use mathlib.Core.Bool.{true, true≢false}
use mathlib.Core.List.{List, [], ◌∷◌, ◌++◌, append-nil, append_assoc}
use Prim.Native.Nat.{ℕ, suc, ◌+◌, ◌≤◌, ◌<◌}
use native.Mathlib.Omega.{arith}
use lib.Dec.{eqb}
use lib.ListN.{length, get_or, length-append}
use Rattle.names.specs.Below.horn.specs.Refusals.{number}
use Rattle.names.specs.Below.horn.specs.Refusals as results
use Rattle.names.specs.Below.horn.specs.Setting.{Setting}
use Rattle.names.specs.Below.horn.specs.Names.{Name}
use Rattle.names.specs.Below.horn.specs.Rulebook.{Symbol, inputs, Theory}
use Rattle.names.specs.Below.horn.specs.StoredTerms.{Term, node, Terms, []ₜ, ◌∷ₜ◌, Store, empty_store, width, same_term}
use Rattle.names.specs.Below.horn.specs.Checker.{has_sort, accepts}
use Rattle.names.specs.Below.horn.specs.Checker as checker
use Rattle.names.specs.Below.horn.proofs.Equality.{both}
use Rattle.names.proofs.Holds.{by_number}
use Rattle.requests.specs.Below.arena.specs.Store.{head_of, argument_of, area_words, intern_answer}
use Rattle.requests.specs.Below.arena.specs.Store.{Answer}
use Rattle.requests.specs.Requests.{requested_area, emptied}
use Rattle.requests.proofs.Counting.{KeepsStore, keeps_empty, Requested, met_found, met_made, not_met, requested_law}
use Rattle.requests.specs.Below.arena.proofs.Nodes.{Node, node_of}
use Rattle.requests.specs.Below.arena.proofs.Limits.{Limits}
use Rattle.requests.specs.Below.arena.proofs.Readings.{head_read, argument_read, one_tree}
use Rattle.requests.specs.Below.arena.proofs.Trees.{Below, below_more, Formed, formed, tree_of, lookups, build, same_tree, new_tree}
use Rattle.items.specs.Below.outcomes.specs.Leaving.{◌leaving◌}
use Rattle.items.specs.Below.outcomes.specs.Simulation.{Simulates, refuse, leave}
use Rattle.theory_laws.specs.Representation.{Entries, Holds}
use Rattle.theory_reading.specs.Addresses.{symbol_at, Used}
use Rattle.theory_reading.specs.Storing.{numbered}
use Rattle.theory_reading.proofs.Terms as terms
use Rattle.theory_reading.proofs.Terms.{lookups-width, interned}

-- A term has as many arguments as its symbol has inputs.
pub data Sized : Term → Type 0 where
  sized : {c : Symbol} {ts : Terms} → width ts ≡ length (inputs c) → Sized (node c ts)

pub sized_width : {c : Symbol} {us : Terms} → Sized (node c us) → width us ≡ length (inputs c)
sized_width (sized e) = e

-- "Arity and sorts" gives it.
accepts-width : (ss : List Name) (ts : Terms) → accepts ss ts ≡ true → width ts ≡ length ss
unfolding accepts width
accepts-width [] []ₜ e = refl
accepts-width [] (t ∷ₜ ts) e = absurd (true≢false (sym e))
accepts-width (s ∷ ss) []ₜ e = absurd (true≢false (sym e))
accepts-width (s ∷ ss) (t ∷ₜ ts) e = ap suc (accepts-width ss ts (both (has_sort s t) (accepts ss ts) e).1)

pub accepted_sized : (c : Symbol) (ts : Terms) → accepts (inputs c) ts ≡ true → Sized (node c ts)
accepted_sized c ts e = sized (accepts-width (inputs c) ts e)

-- A store that has grown.
pub record Longer (ts us : Store) : Type 0 where
  pub more : List Term
  pub same : us.terms ≡ ts.terms ++ more

pub longer_none : {ts : Store} → Longer ts ts
longer_none {ts} = record { more = []; same = sym (append-nil ts.terms) }

pub longer_then : {ts us vs : Store} → Longer ts us → Longer us vs → Longer ts vs
longer_then {ts} g k =
    record { more = g.more ++ k.more; same = k.same ∙ ap (λ (x : List Term). x ++ k.more) g.same ∙ append_assoc ts.terms g.more k.more }

pub longer_length : {ts us : Store} → Longer ts us → length ts.terms ≤ length us.terms
longer_length {ts} g = let e = length-append ts.terms g.more in rw g.same (omega arith)

pub longer_tree : (symbol_at : ℕ → Symbol) {ts us : Store} (k : ℕ) → Longer ts us → k < length ts.terms
    → tree_of symbol_at us.terms k ≡ tree_of symbol_at ts.terms k
longer_tree symbol_at {ts} k g l = rw g.same (same_tree symbol_at ts.terms g.more k l)

-- The addresses are those of a theory's entries; which words hold the theory does not matter, as long as some do.
module _ (es : Entries) (th : Theory) where
  -- The store's area holds these trees, by number, and counts the requests that found one.
  pub record Stored (limits : Setting) (places : ℕ) (store : List ℕ) (ts : Store) : Type 0 where
    pub keeps : KeepsStore (symbol_at es th) (Used es) limits places store ts
    pub full : (k : ℕ) → k < length ts.terms → Sized (tree_of (symbol_at es th) ts.terms k)

  -- Number k stands for a tree.
  pub record Means (ts : Store) (k : ℕ) (t : Term) : Type 0 where
    pub below : k < length ts.terms
    pub tree : tree_of (symbol_at es th) ts.terms k ≡ t

  -- A node that was stored: its number, the area that is left, and the definition's term and store.
  pub record Numbers (limits : Setting) (places : ℕ) (ts : Store) (k : ℕ) (store : List ℕ) (q : Term × Store) : Type 0 where
    pub holds : Stored limits places store q.1
    pub means : Means q.1 k q.0
    pub grown : Longer ts q.1

  -- A stored term by its number: its head, its arguments and its tree.
  pub record NodeAt (nodes places : ℕ) (store : List ℕ) (ts : Store) (k : ℕ) : Type 0 where
    pub head : ℕ
    pub arguments : List ℕ
    pub in_use : Used es head
    pub read_head : head_of store nodes places k ≡ head
    pub read : (j : ℕ) → j < length arguments → argument_of store nodes places k j ≡ get_or arguments j 0
    pub below : Below (length ts.terms) arguments
    pub tree : tree_of (symbol_at es th) ts.terms k ≡ node (symbol_at es th head) (lookups (symbol_at es th) ts.terms arguments)
    pub count : length arguments ≡ length (inputs (symbol_at es th head))

  -- The empty store.
  pub nothing_stored : (limits : Setting) (places : ℕ) → Limits limits.nodes limits.node_words places
      → (store : List ℕ) → area_words limits.nodes limits.node_words places < length store
      → Stored limits places (emptied store limits.nodes limits.node_words places) empty_store
  nothing_stored limits places l store long = record { keeps = keeps_empty l store long; full = λ k b. absurd (omega arith) }

last_tree : {C : Type 0} (ts : List Term) (t : Term) (k : ℕ) → k < length (ts ++ (t ∷ [])) → (k < length ts → C) → (k ≡ length ts → C) → C
last_tree ts t k b before last =
    let n = length-append ts (t ∷ []) in
    by_number k (length ts) last (λ d. before (omega arith))

module _ {es : Entries} {th : Theory} where
  -- What a number stands for stays.
  pub means_longer : {ts us : Store} {k : ℕ} {t : Term} → Longer ts us → Means es th ts k t → Means es th us k t
  means_longer {k} g m =
      let l = longer_length g in
      let b = m.below in
      record { below = omega arith; tree = longer_tree (symbol_at es th) k g m.below ∙ m.tree }

  module _ {limits : Setting} {places : ℕ} {store : List ℕ} {ts : Store} (st : Stored es th limits places store ts) where
    pub few_terms : length ts.terms ≤ limits.nodes
    few_terms = let a = st.keeps.trees.kept.nodes_fit in let b = st.keeps.trees.stand.same in omega arith

    -- A tree has one number.
    pub one_number : (j k : ℕ) → j < length ts.terms → k < length ts.terms
        → tree_of (symbol_at es th) ts.terms j ≡ tree_of (symbol_at es th) ts.terms k
        → j ≡ k
    one_number = one_tree (symbol_at es th) (Used es) limits.nodes limits.node_words places store ts.terms st.keeps.trees

    pub node_at : (k : ℕ) → k < length ts.terms → NodeAt es th limits.nodes places store ts k
    unfolding build
    node_at k b = go (st.keeps.trees.stand.each k i) refl
      where
        i : k < length st.keeps.trees.nodes_of
        i = let e = st.keeps.trees.stand.same in omega arith

        later : (head : ℕ) (arguments : List ℕ) (j : ℕ) → get_or (head ∷ arguments) (1 + j) 0 ≡ get_or arguments j 0
        later head arguments j = let q : 1 + j ≡ suc j = omega arith in rw q

        width_of : (head : ℕ) (arguments : List ℕ) → tree_of (symbol_at es th) ts.terms k
            ≡ node (symbol_at es th head) (lookups (symbol_at es th) ts.terms arguments)
            → length arguments ≡ length (inputs (symbol_at es th head))
        width_of head arguments t = sym (lookups-width (symbol_at es th) ts.terms arguments) ∙ sized_width (rw t at (st.full k b))

        go : {x : Node} → Formed (Used es) k x → node_of st.keeps.trees.nodes_of k ≡ x → NodeAt es th limits.nodes places store ts k
        go (formed {head} {arguments} u bs) e =
            let n : length (node_of st.keeps.trees.nodes_of k) ≡ suc (length arguments) = ap length e in
            let t = st.keeps.trees.stand.built k i ∙ ap (build (symbol_at es th) ts.terms) e in
            record {
              head = head;
              arguments = arguments;
              in_use = u;
              read_head =
                  head_read limits.nodes limits.node_words places store st.keeps.trees.nodes_of st.keeps.trees.kept k i (omega arith)
                  ∙ ap (λ (x : Node). get_or x 0 0) e;
              read = λ j l.
                  argument_read limits.nodes limits.node_words places store st.keeps.trees.nodes_of st.keeps.trees.kept k i j (omega arith)
                  ∙ ap (λ (x : Node). get_or x (1 + j) 0) e ∙ later head arguments j;
              below = below_more (length ts.terms) (omega arith) bs;
              tree = t;
              count = width_of head arguments t;
            }

    -- The number of a node that was found, and of one that was made.
    number_found : {k : ℕ} {u : Store} {t : Term} {left : List ℕ} → KeepsStore (symbol_at es th) (Used es) limits places left u → k < length ts.terms
        → tree_of (symbol_at es th) ts.terms k ≡ t
        → u.terms ≡ ts.terms
        → Numbers es th limits places ts k left (t, u)
    number_found keeps b t same =
        record {
          holds = record { keeps = keeps; full = rw same st.full };
          means = record { below = rw same b; tree = rw same t };
          grown = record { more = []; same = same ∙ sym (append-nil ts.terms) };
        }

    number_made : {u : Store} {t : Term} {left : List ℕ} → Sized t → KeepsStore (symbol_at es th) (Used es) limits places left u
        → u.terms ≡ ts.terms ++ (t ∷ [])
        → Numbers es th limits places ts (length ts.terms) left (t, u)
    number_made {t} s keeps same =
        let n = length-append ts.terms (t ∷ []) in
        let b : length ts.terms < length (ts.terms ++ (t ∷ [])) = omega arith in
        record {
          holds = record {
            keeps = keeps;
            full =
                rw same
                (λ k b. last_tree ts.terms t k b (λ i. rw (same_tree (symbol_at es th) ts.terms (t ∷ []) k i) (st.full k i))
                (λ i. rw (i, new_tree (symbol_at es th) ts.terms t) s));
          };
          means = record { below = rw same b; tree = rw same (new_tree (symbol_at es th) ts.terms t) };
          grown = record { more = t ∷ []; same = same };
        }

    -- A node stored: what a request answers, in both.
    node_stored : {A : Type 0} (a : A) {t : Term} {answer : Answer} {left : List ℕ} → Sized t
        → Requested (symbol_at es th) (Used es) limits places ts t answer left
        → Simulates (λ r area q. (r.1 ≡ a) × Numbers es th limits places ts r.0 area q) (numbered a answer leaving left) (checker.stored limits t ts)
    unfolding checker.stored results.◌>>=◌ number
    node_stored a s (met_found k u e keeps b t same d) = rw (e, d) (leave (refl, number_found keeps b t same))
    node_stored a s (met_made u e keeps same d) = rw (e, d) (leave (refl, number_made s keeps same))
    node_stored a s (not_met e d) = rw (e, d) (refuse refl)

    -- "Refusal 28 comes when a node not yet held would pass either, and otherwise never": the words of a node, its head an address in use
    -- and its arguments numbers of stored terms.
    pub stored_law : {text heap : List ℕ} {top : ℕ} → Holds text heap es top th → Limits limits.nodes limits.node_words places
        → {A : Type 0} (a : A) (x : Node) {t : Term}
        → Formed (Used es) (length ts.terms) x
        → build (symbol_at es th) ts.terms x ≡ t
        → Sized t
        → Simulates (λ r area q. (r.1 ≡ a) × Numbers es th limits places ts r.0 area q)
        (numbered a (intern_answer store limits.nodes limits.node_words places x) leaving requested_area store limits.nodes limits.node_words places x)
        (checker.stored limits t ts)
    stored_law h l a x f e s =
        node_stored a s (requested_law l st.keeps x (rw e at (interned h limits places l store ts.terms st.keeps.trees x f)))

    -- Equality of numbers is equality of trees.
    pub means_same : {text heap : List ℕ} {top : ℕ} → Holds text heap es top th → {j k : ℕ} {t u : Term} → Means es th ts j t → Means es th ts k u
        → eqb j k ≡ same_term t u
    means_same h {j} {k} m n =
        rw (← m.tree, ← n.tree) (terms.same_number h limits.nodes limits.node_words places st.keeps.trees j k m.below n.below)
