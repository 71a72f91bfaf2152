-- Addresses of held symbols and the definition's symbols: one for one, whatever the words are. Assumes nothing.
use mathlib.Core.Path.{◌≡◌, refl, ap, ap₂, sym, subst, ◌∙◌}
use mathlib.Core.Bool.{Bool}
use mathlib.Core.List.{List, [], ◌∷◌, Memᴰ}
use mathlib.Core.Option.{Option, none, some}
use Prim.Native.Nat.{ℕ}
use Rattle.names.specs.Below.horn.specs.Names.{Name, first}
use Rattle.names.specs.Below.horn.specs.Rulebook.{Output, sort, judgment, Symbol, Theory}
use Rattle.names.specs.Below.horn.proofs.Inversion.{none-some, some_equal, case_option}
use Rattle.names.specs.Tables.{Entry, entry, Agree, both_none, both_some}
use Rattle.names.proofs.Holds.{by_number}
use Rattle.names.proofs.Declared.{found_member, stands_distinct, find_agrees}
use Rattle.theory_laws.specs.Representation.{Entries, table_of, SymbolAt, symbol_at_lem, Declares, Holds}
use Rattle.theory_laws.proofs.Readback.{symbols_equal, addresses_equal}
use Rattle.theory_reading.specs.Addresses.{name_in, or_none, either_at, symbol_at, Used, by_constructor, by_predicate}
use borrow.Author.Tests.{eq-eqb, ne_eqb}

module _ (a e : ℕ) (name : Name) (entries : List Entry) where
  name_here : a ≡ e → name_in a (entry e name ∷ entries) ≡ some name
  unfolding name_in
  name_here h = rw (eq-eqb a e h, name_in)

  name_on : (a ≡ e → ⊥) → name_in a (entry e name ∷ entries) ≡ name_in a entries
  unfolding name_in
  name_on h = rw (ne_eqb a e h, name_in)

name_some : (a : ℕ) (entries : List Entry) {name : Name} → name_in a entries ≡ some name → Memᴰ (entry a name) entries
unfolding name_in
name_some a [] h = none-some h
name_some a (entry e m ∷ entries) {name} h =
    by_number a e
    (λ q.
    let k : m ≡ name = some_equal (sym (name_here a e m entries q) ∙ h) in
    let z : entry a name ≡ entry e m = cc in
    Memᴰ.head z)
    (λ q. Memᴰ.tail (name_some a entries (sym (name_on a e m entries q) ∙ h)))

name_none : (a : ℕ) {name : Name} (entries : List Entry) → name_in a entries ≡ none → Memᴰ (entry a name) entries → ⊥
unfolding name_in
name_none a {name} (entry e m ∷ entries) h (Memᴰ.head q) =
    let k : a ≡ e = cc in none-some (sym h ∙ name_here a e m entries k)
name_none a [] h x'' = elim x'' [ ]
name_none a {name} (entry e m ∷ entries) h (Memᴰ.tail q) =
    by_number a e
    (λ k. none-some (sym h ∙ name_here a e m entries k))
    (λ k. name_none a entries (sym (name_on a e m entries k) ∙ h) q)

-- An entry stands for what the definition finds by its name.
standing : {text heap : List ℕ} {top buckets : ℕ} {entries : List Entry} {A : Type 0} {test : Name → A → Bool} {Means : ℕ → A → Type 0} {things : List A}
    → Declares text heap top buckets entries test Means things
    → {a : ℕ} {name : Name}
    → Memᴰ (entry a name) entries
    → (c : A) × (first (test name) things ≡ some c) × Means a c
standing {A} {test} {Means} {things} d {a} {name} m =
    by (found_member d.table name a (stands_distinct test Means d.stands) m) (find_agrees test Means name d.table d.stands) where
      by : {o : Option ℕ} {p : Option A} → o ≡ some a → Agree Means o p → (c : A) × (p ≡ some c) × Means a c
      by e both_none = none-some e
      by e (both_some {e = b} {a = c} x) = (c, refl, subst (λ (i : ℕ). Means i c) (some_equal e) x)

module _ {text heap : List ℕ} {es : Entries} {top : ℕ} {th : Theory} (h : Holds text heap es top th) where
  -- The symbol that stands at an address.
  module _ {a : ℕ} {c : Symbol} (x : SymbolAt heap es top a c) where
    at_constructor : {name : Name} → name_in a es.constructors ≡ some name → symbol_at es th a ≡ c
    unfolding symbol_at
    at_constructor e =
        let s = standing h.constructors (name_some a es.constructors e) in
        rw (e, s.1) (symbols_equal h s.2 x)

    at_predicate : {name : Name} → name_in a es.constructors ≡ none → name_in a es.predicates ≡ some name → symbol_at es th a ≡ c
    unfolding symbol_at
    at_predicate n e =
        let s = standing h.predicates (name_some a es.predicates e) in
        ap₂ (either_at th) n e ∙ ap or_none s.1 ∙ symbols_equal h s.2 x

    nowhere : name_in a es.constructors ≡ none → name_in a es.predicates ≡ none → ⊥
    unfolding table_of
    nowhere n m = by x where
      by : {d : Symbol} → SymbolAt heap es top a d → ⊥
      by (symbol_at_lem {out} w) = table out w.called where
        table : {name : Name} (out : Output) → Memᴰ (entry a name) (table_of es out) → ⊥
        table (sort s) q = name_none a es.constructors n q
        table judgment q = name_none a es.predicates m q

    pub symbol_is : symbol_at es th a ≡ c
    symbol_is =
        case_option (name_in a es.constructors)
        (λ n. case_option (name_in a es.predicates) (λ m. absurd (nowhere n m)) (λ name e. at_predicate n e))
        (λ name e. at_constructor e)

    pub used_at : Used es a
    unfolding table_of
    used_at = by x where
      by : {d : Symbol} → SymbolAt heap es top a d → Used es a
      by (symbol_at_lem {out} w) = table out w.called where
        table : {name : Name} (out : Output) → Memᴰ (entry a name) (table_of es out) → Used es a
        table (sort s) q = by_constructor q
        table judgment q = by_predicate q

  -- An address that an entry has stands for its symbol, whatever the words are that hold the theory.
  pub stands_at : {a : ℕ} → Used es a → SymbolAt heap es top a (symbol_at es th a)
  stands_at {a} (by_constructor m) = let s = standing h.constructors m in rw (symbol_is s.2) s.2
  stands_at {a} (by_predicate m) = let s = standing h.predicates m in rw (symbol_is s.2) s.2

  -- Different addresses are different symbols.
  pub used_injective : (a b : ℕ) → Used es a → Used es b → symbol_at es th a ≡ symbol_at es th b → a ≡ b
  used_injective a b x y e = addresses_equal h (stands_at x) (rw e (stands_at y))
