-- A node is made: "then 15 for arity and sorts, then the store". Assumes nothing.
use Prim.Native.Nat.{ℕ, ◌+◌, ◌≤◌, ◌<◌}
use mathlib.Core.Path.{◌≡◌, refl, ap, sym, subst}
use mathlib.Core.List.{List, ◌∷◌}
use native.Mathlib.Omega.{arith}
use lib.ListN.{length, get_or, set, length-set}
use Rattle.asking_laws.specs.Below.horn.specs.Refusals as refusals
use Rattle.asking_laws.specs.Below.horn.specs.Refusals.{Result, number}
use Rattle.asking_laws.specs.Below.horn.specs.Setting.{document01}
use Rattle.asking_laws.specs.Below.horn.specs.Rulebook.{Symbol, inputs, Theory}
use Rattle.asking_laws.specs.Below.horn.specs.StoredTerms.{Term, node, Store}
use Rattle.asking_laws.specs.Below.horn.specs.Checker as definition
use Rattle.asking_laws.specs.Below.horn.proofs.Equality.{case}
use Rattle.judgments.specs.Below.words.specs.Parts.{part}
use Rattle.judgments.specs.Below.words.specs.Sums.{sum32}
use Rattle.judgments.specs.Below.words.proofs.Sums.{sum_small}
use Rattle.judgments.specs.Below.lex.specs.declared.Reader.{Reader}
use Rattle.judgments.specs.Below.arena.proofs.Nodes.{Node}
use Rattle.judgments.specs.Below.arena.proofs.Trees.{Below, Formed, formed, lookups, build}
use Rattle.judgments.specs.Below.arena.proofs.Settings.{limits_01}
use Rattle.judgments.specs.Below.outcomes.specs.Outcomes.{Outcome}
use Rattle.judgments.specs.Below.outcomes.specs.Leaving.{◌leaving◌}
use Rattle.judgments.specs.Below.outcomes.specs.Simulation.{Simulates, refuse, leave}
use Rattle.asking_laws.specs.Below.theory_laws.specs.Representation.{Entries, SymbolAt, Holds}
use Rattle.asking_laws.specs.Below.theory_laws.proofs.Frames.{Keeps, keeps_set}
use Rattle.judgments.specs.Below.theory_reading.specs.Reading.{accepted}
use Rattle.judgments.specs.Below.theory_reading.specs.Addresses.{symbol_at, Used}
use Rattle.judgments.specs.Below.theory_reading.proofs.Bridge.{symbol_is, used_at}
use Rattle.judgments.specs.Below.theory_reading.proofs.Terms.{accepts_numbers}
use Rattle.judgments.specs.Below.theory_reading.proofs.Stored.{Sized, accepted_sized, Longer, Stored, Means, Numbers, stored_law}
use Rattle.judgments.specs.Below.theory_reading.specs.Storing.{Areas}
use Rattle.judgments.specs.Below.nodes.specs.Nodes.{head_on, interned, make}
use Rattle.judgments.specs.Below.nodes.specs.Limits.{node_limit, word_limit, index_places}
use Rattle.terms_laws.proofs.Rows.{Row, row_part, row_first, row_at}

-- A term was read on top of the stack: its number stands for the definition's tree in the store afterwards, and what the stack held below
-- is held still. P says where the reader stands.
pub record TermRead (es : Entries) (th : Theory) (P : Reader → Type 0) (top : ℕ) (stack : List ℕ) (ts : Store) (x : ℕ × Reader) (left : Areas)
    (y : Term × Store) : Type 0 where
  pub reader : P x.1
  pub stored : Stored es th document01 index_places left.0 y.1
  pub means : Means es th y.1 x.0 y.0
  pub grown : Longer ts y.1
  pub keeps : Keeps top stack left.1

module _ {rules heap : List ℕ} {es : Entries} {bound : ℕ} {th : Theory} (h : Holds rules heap es bound th) where
  module _ (P : Reader → Type 0) (top : ℕ) (stack : List ℕ) {store : List ℕ} {ts : Store} (kept : Stored es th document01 index_places store ts) (r : Reader)
      (there : P r) where
    interned_law : (x : Node) (after : List ℕ) (t : Term) → Formed (Used es) (length ts.terms) x → build (symbol_at es th) ts.terms x ≡ t → Sized t → Keeps top stack after
        → Simulates (TermRead es th P top stack ts) (interned x r store after) (definition.stored document01 t ts)
    unfolding interned document01
    interned_law x after t f e z k = by (stored_law kept h limits_01 r x f e z) where
      by : {o : Outcome (ℕ × Reader)} {area : List ℕ} {m : Result (Term × Store)}
          → Simulates (λ q left y. (q.1 ≡ r) × Numbers es th document01 index_places ts q.0 left y) (o leaving area) m
          → Simulates (TermRead es th P top stack ts) (o leaving (area, after)) m
      by (refuse q) = refuse q
      by (leave {a = a} (q, n)) = leave {a = a} (record { reader = subst P (sym q) there; stored = n.holds; means = n.means; grown = n.grown; keeps = k })

    -- The arguments that stand on the stack are what the symbol takes.
    accepted_law : {c from : ℕ} (n : ℕ) {d : Symbol} {ms : List ℕ} → SymbolAt heap es bound c d → Row stack from ms → Below (length ts.terms) ms → n ≡ length ms
        → accepted (head_on store stack from) heap c n ≡ definition.accepts (inputs d) (lookups (symbol_at es th) ts.terms ms)
    unfolding document01
    accepted_law {from} n x row b e =
        rw e (accepts_numbers h node_limit word_limit index_places kept.keeps.trees (λ (i : ℕ). get_or stack (from + i) 0) x (λ j l. row_at j row l) b)

    pub make_law : {c : ℕ} {d : Symbol} (n : ℕ) {ms : List ℕ} → SymbolAt heap es bound c d → Row stack (top + 1) ms → Below (length ts.terms) ms → n ≡ length ms
        → top + 1 + n ≤ length stack → length stack < 4294967296
        → Simulates (TermRead es th P top stack ts) (make heap c top n r store stack) (definition.make document01 d (lookups (symbol_at es th) ts.terms ms) ts)
    unfolding make definition.make definition.◌>>=◌ definition.lift refusals.◌>>=◌ refusals.need build number
    make_law {c} {d} n {ms} x row b e l s =
        let z : accepted (head_on store stack (sum32 top 1)) heap c n ≡ definition.accepts (inputs d) (lookups (symbol_at es th) ts.terms ms)
        = rw (sum_small top 1 (omega arith)) (accepted_law n x row b e) in
        let y = length-set stack top c in
        let key : part top (top + 1 + n) (set stack top c) ≡ c ∷ ms
        = row_part (top + 1 + n) (row_first top c (omega arith) row) (omega arith) (omega arith) in
        case (definition.accepts (inputs d) (lookups (symbol_at es th) ts.terms ms))
        (λ t.
        rw (z, t, key)
        (interned_law (c ∷ ms) (set stack top c) (node d (lookups (symbol_at es th) ts.terms ms)) (formed (used_at h x) b)
        (ap (λ (a : Symbol). node a (lookups (symbol_at es th) ts.terms ms)) (symbol_is h x))
        (accepted_sized d (lookups (symbol_at es th) ts.terms ms) t) (keeps_set top stack top c (omega arith))))
        (λ t. rw (z, t) (refuse refl))
