-- An atom where a term is due, and the head of a term or judgment: abbreviations, constructors and predicates by their names.
-- Assumes nothing.
use Prim.Native.Nat.{ℕ, ◌+◌, ◌≤◌, ◌<◌}
use mathlib.Core.Path.{◌≡◌, refl, ap, sym, ◌∙◌}
use mathlib.Core.List.{List, []}
use mathlib.Core.Option.{Option}
use native.Mathlib.Omega.{arith}
use lib.ListN.{length}
use Rattle.asking_laws.specs.Below.horn.specs.Refusals as refusals
use Rattle.asking_laws.specs.Below.horn.specs.Refusals.{Result, number, unknown}
use Rattle.asking_laws.specs.Below.horn.specs.Setting.{document01}
use Rattle.asking_laws.specs.Below.horn.specs.Names.{Name, questioned}
use Rattle.asking_laws.specs.Below.horn.specs.Rulebook.{Symbol, Theory, constructor, predicate}
use Rattle.asking_laws.specs.Below.horn.specs.StoredTerms.{Term, []ₜ, Store}
use Rattle.asking_laws.specs.Below.horn.specs.Checker as definition
use Rattle.asking_laws.specs.Below.horn.specs.Checker.{Def, meaning}
use Rattle.asking_laws.specs.Below.horn.proofs.Equality.{case}
use Rattle.judgments.specs.Below.words.specs.Parts.{part}
use Rattle.judgments.specs.Below.names.specs.Tables.{Agree, both_none, both_some}
use Rattle.judgments.specs.Below.lex.specs.declared.Reader.{Reader}
use Rattle.judgments.specs.Below.arena.proofs.Trees.{lookups}
use Rattle.judgments.specs.Below.arena.proofs.Trees as trees
use Rattle.judgments.specs.Below.outcomes.specs.Outcomes as outcomes
use Rattle.judgments.specs.Below.outcomes.specs.Outcomes.{Outcome}
use Rattle.judgments.specs.Below.outcomes.specs.Leaving as leaving
use Rattle.judgments.specs.Below.outcomes.specs.Leaving.{◌leaving◌}
use Rattle.judgments.specs.Below.items.specs.Items.{question}
use Rattle.judgments.specs.Below.outcomes.specs.Simulation.{Answers, both_refuse, both_ok, Simulates, refuse, leave}
use Rattle.asking_laws.specs.Below.theory_laws.specs.Representation.{Entries, SymbolAt, Holds}
use Rattle.asking_laws.specs.Below.theory_laws.proofs.Lookups.{part-question}
use Rattle.asking_laws.specs.Below.theory_laws.proofs.Frames.{keeps_all}
use Rattle.judgments.specs.Below.theory_reading.proofs.Held.{constructor_due_lem, predicate_due_lem}
use Rattle.judgments.specs.Below.theory_reading.proofs.Stored.{Longer, longer_none, Stored, Means, means_longer}
use Rattle.judgments.specs.Below.tables.specs.Representation.{Defs}
use Rattle.judgments.specs.Below.tables.proofs.Defs.{meaning_agrees}
use Rattle.judgments.specs.Below.nodes.specs.Nodes.{make, constructor_due, predicate_due, atom_term}
use Rattle.judgments.specs.Below.nodes.specs.Limits.{index_places, def_buckets}
use Rattle.terms_laws.proofs.Rows.{no_words}
use Rattle.terms_laws.proofs.Making.{TermRead, make_law}

-- A symbol by its name.
pub data SymbolMet (heap : List ℕ) (es : Entries) (bound : ℕ) (P : Reader → Type 0) : ℕ × Reader → Symbol → Type 0 where
  symbol_met : {a : ℕ} {q : Reader} {c : Symbol} → SymbolAt heap es bound a c → P q → SymbolMet heap es bound P (a, q) c

module _ (text : List ℕ) (table : List ℕ) {rules heap : List ℕ} {es : Entries} {bound : ℕ} {th : Theory} (h : Holds rules heap es bound th)
    (defs : List Def) (ts₀ : Store) {base : ℕ} (abbreviations : Defs text table def_buckets base (Means es th ts₀) defs) where
  module _ (P : Reader → Type 0) (s t : ℕ) (q : Reader) {name : Name} (n : part s t text ≡ name) (there : P q) where
    met : {o : Outcome ℕ} {m : Result Symbol} → Answers (SymbolAt heap es bound) o m
        → Answers (SymbolMet heap es bound P) (outcomes.◌>>=◌ o (λ c. outcomes.ok (c, q))) m
    met (both_refuse e) = both_refuse e
    met (both_ok x) = both_ok (symbol_met x there)

    pub constructor_law : Answers (SymbolMet heap es bound P) (constructor_due text rules heap s t q) (constructor th name)
    unfolding constructor_due
    constructor_law = rw n (met (constructor_due_lem h name))

    pub predicate_law : Answers (SymbolMet heap es bound P) (predicate_due text rules heap s t q) (predicate th name)
    unfolding predicate_due
    predicate_law = rw n (met (predicate_due_lem h name))

    -- "An atom with a leading `?`, `?` alone too, is an earlier abbreviation (12). An atom or head is a constructor (12)."
    pub atom_law : {store : List ℕ} {ts : Store} (top : ℕ) (stack : List ℕ) → s < t → t ≤ length text → Stored es th document01 index_places store ts
        → Longer ts₀ ts
        → top + 1 ≤ length stack → length stack < 4294967296
        → Simulates (TermRead es th P top stack ts) (atom_term text rules heap table top s t q store stack) (definition.atom_term document01 th defs name ts)
    unfolding atom_term definition.atom_term definition.◌>>=◌ definition.lift definition.give refusals.◌>>=◌ refusals.found number lookups
    atom_law {store} {ts} top stack l u kept grown room small =
        let z : question text s ≡ questioned name = sym (part-question s t text l u) ∙ ap questioned n in
        case (questioned name)
        (λ e. rw (z, e, n, definition.atom_term) (abbreviation (meaning_agrees name abbreviations)))
        (λ e. rw (z, e, definition.atom_term) (constant constructor_law))
      where
        abbreviation : {o : Option ℕ} {m : Option Def} → Agree (λ w d. Means es th ts₀ w (meaning d)) o m
            → Simulates (TermRead es th P top stack ts)
            (leaving.◌>>=◌ (outcomes.or_else o 12 leaving (store, stack)) (λ p. outcomes.ok (p.0, q) leaving p.1))
            (refusals.◌>>=◌ {A = Def × Store} {B = Term × Store} (refusals.◌>>=◌ (refusals.found m unknown) (λ d. refusals.ok (d, ts)))
            (λ p. refusals.ok (meaning p.0, p.1)))
        abbreviation both_none = refuse refl
        abbreviation (both_some {e = k} {a = d} x) =
            let z : TermRead es th P top stack ts (k, q) (store, stack) (meaning d, ts) =
            record { reader = there; stored = kept; means = means_longer grown x; grown = longer_none; keeps = keeps_all } in
            leave z

        constant : {o : Outcome (ℕ × Reader)} {m : Result Symbol} → Answers (SymbolMet heap es bound P) o m
            → Simulates (TermRead es th P top stack ts)
            (leaving.◌>>=◌ (o leaving (store, stack)) (λ p. make heap p.0.0 top 0 p.0.1 p.1.0 p.1.1))
            (refusals.◌>>=◌ {A = Symbol × Store} {B = Term × Store} (refusals.◌>>=◌ m (λ c. refusals.ok (c, ts)))
            (λ p. definition.make document01 p.0 []ₜ p.1))
        constant (both_refuse e) = refuse e
        constant (both_ok (symbol_met {q = p} x y)) =
            make_law h P top stack kept p y 0 {ms = []} x no_words trees.none refl (omega arith) small
