-- Names and sorts where the walk reads a declaration. Assumes nothing.
use mathlib.Core.Path.{◌≡◌, refl, ap, sym, ◌∙◌}
use mathlib.Core.Bool.{Bool, true, false, true≢false}
use mathlib.Core.List.{List, [], ◌∷◌}
use mathlib.Core.Option.{Option, none, some}
use Prim.Native.Nat.{ℕ, suc, ◌+◌, ◌*◌, ◌-◌, ◌≤◌, ◌<◌}
use native.Mathlib.Omega.{arith}
use lib.ListN.{length, set}
use lib.Seq.{get_or-set_same}
use Rattle.capacity.specs.Below.horn.specs.Refusals.{number, ok, need, ◌>>=◌, unknown}
use Rattle.capacity.specs.Below.horn.specs.Names.{Name, named, questioned, some_of}
use Rattle.capacity.specs.Below.horn.specs.Tokens.{Stream, ◌▹◌, Token, closing}
use Rattle.capacity.specs.Below.horn.specs.NestedLists.{Sexp, leaf, list, Sexps, []ₛ, ◌∷ₛ◌}
use Rattle.capacity.specs.Below.horn.specs.Rulebook as definition
use Rattle.capacity.specs.Below.horn.specs.Rulebook.{Theory, count}
use Rattle.capacity.specs.Below.horn.proofs.Equality.{case}
use Rattle.theory.specs.Below.words.specs.Parts.{part}
use Rattle.theory.specs.Below.names.specs.Tables.{present}
use Rattle.theory.specs.Below.names.proofs.Declared.{find_present, found_some}
use Rattle.theory.specs.Below.lex.specs.declared.Reader.{Reader}
use Rattle.theory.specs.Below.sexp.specs.Flattening.{flat_one, flat, counts_one, counts_all}
use Rattle.theory.specs.Below.outcomes.specs.Outcomes as outcomes
use Rattle.theory.specs.Below.outcomes.specs.Leaving as leaving
use Rattle.theory.specs.Below.outcomes.specs.Leaving.{◌leaving◌}
use Rattle.theory.specs.Below.words.specs.Sums.{sum32}
use Rattle.theory.specs.Below.items.specs.Places as places
use Rattle.theory.specs.Below.items.specs.Items.{read_on, with_top, pushed, atom_due, declared_name}
use Rattle.theory.specs.Below.items.specs.declared.Walk.{Walk}
use Rattle.theory.specs.Below.symbols.specs.Symbols.{sort_from, sort_named, inputs}
use Rattle.theory.specs.Below.outcomes.specs.Simulation.{Answers, both_refuse, both_ok, then, Simulates, leave, pure, after}
use Rattle.theory_laws.specs.Reading.{Reads, Walks, weight}
use Rattle.theory_laws.specs.Representation.{Entries, SortAt, sort_at, SortsAt, no_sorts, one_sort, Holds}
use Rattle.theory.specs.Below.words.proofs.Laws.{part-length}
use Rattle.theory.specs.Below.words.proofs.Sums.{sum_small}
use Rattle.theory_laws.proofs.Items.{atom_met, list_met, closing_met}
use Rattle.theory_laws.proofs.Frames.{Keeps, keeps_all, keeps_then, keeps_set, holds_kept}
use Rattle.theory_laws.proofs.Lookups.{part-question}

module _ (text counted : List ℕ) (Before : Reader → Stream Token → Type 0) (reads : Reads text Before) where
  -- A name that was read: its bounds, and the walk behind it.
  pub data NameRead (x : Sexp) (ts : Stream Token) (ks : List ℕ) (w : Walk) : ℕ × ℕ × Walk → Name → Type 0 where
    name_read : {s t : ℕ} {next : Reader} {name : Name} → part s t text ≡ name → s < t → t ≤ length text
        → weight (flat_one x ts) ≡ suc (length name) + weight ts
        → Walks text counted Before ts ks (read_on w next)
        → NameRead x ts ks w (s, t, read_on w next) name

  pub declared_name_lem : (x : Sexp) {ts : Stream Token} {ks : List ℕ} {w : Walk} → Walks text counted Before (flat_one x ts) (counts_one x ks) w
      → Answers (NameRead x ts ks w) (declared_name text counted w) (definition.declared_name x)
  unfolding declared_name definition.declared_name definition.atom_due atom_due flat_one counts_one weight number need ◌>>=◌
  declared_name_lem (list xs) h = rw (list_met text counted Before reads h).met (both_refuse refl)
  declared_name_lem (leaf name) h =
      let m = atom_met text counted Before reads h in
      let q = sym (part-question m.s m.t text m.some_byte m.inside) ∙ ap questioned m.name in
      case (questioned name)
      (λ k. rw (m.met, q, k) (both_refuse refl))
      (λ k. rw (m.met, q, k) (both_ok (name_read m.name m.some_byte m.inside refl m.walks)))

  -- A sort that was read: its address.
  pub data SortRead (es : Entries) (x : Sexp) (ts : Stream Token) (ks : List ℕ) (w : Walk) : ℕ × Walk → Name → Type 0 where
    sort_read : {a : ℕ} {next : Reader} {name : Name} → SortAt es a name → 2 + weight ts ≤ weight (flat_one x ts)
        → Walks text counted Before ts ks (read_on w next)
        → SortRead es x ts ks w (a, read_on w next) name

  module _ {es : Entries} {heap : List ℕ} {top : ℕ} {th : Theory} (holds : Holds text heap es top th) where
    sort_found : (name : Name) {o : Option ℕ} {b : Bool} → present o ≡ b
        → ((a : ℕ) → o ≡ some a → SortAt es a name)
        → {A : Type 0} {Q : A → Name → Type 0} (f : ℕ → A)
        → ((a : ℕ) → SortAt es a name → Q (f a) name)
        → Answers Q (outcomes.◌>>=◌ (outcomes.or_else o 12) (λ a. outcomes.ok (f a))) (need b unknown >>= λ _. ok name)
    unfolding need ◌>>=◌ number
    sort_found name {o = none} {b = false} e k f q = both_refuse refl
    sort_found name {o = none} {b = true} e k f q = absurd (true≢false (sym e))
    sort_found name {o = some a} {b = true} e k f q = both_ok (q a (k a refl))
    sort_found name {o = some a} {b = false} e k f q = absurd (true≢false e)

    sort_sought : (x : Sexp) {ts : Stream Token} {ks : List ℕ} {w : Walk} (b : ℕ × ℕ × Walk) (name : Name) → NameRead x ts ks w b name
        → Answers (SortRead es x ts ks w) (sort_from text heap b) (need (some_of (named name) th.sorts) unknown >>= λ _. ok name)
    unfolding sort_from
    sort_sought x {ts} {ks} {w} b name (name_read {s} {t} {next} p l u z k) =
        let n : length name ≡ t - s = ap length (sym p) ∙ part-length s t text u in
        rw p
        (sort_found name (find_present named (SortAt es) name holds.sorts.table holds.sorts.stands)
        (λ a e. sort_at (found_some holds.sorts.table name e)) (λ a. (a, read_on w next))
        (λ a m. sort_read m (omega arith) k))

    -- "S unknown is 12."
    pub sort_named_lem : (x : Sexp) {ts : Stream Token} {ks : List ℕ} {w : Walk} → Walks text counted Before (flat_one x ts) (counts_one x ks) w
        → Answers (SortRead es x ts ks w) (sort_named text counted heap w) (definition.sort_named th x)
    unfolding sort_named definition.sort_named
    sort_named_lem x h = then _ _ (declared_name_lem x h) (λ b name k. sort_sought x b name k)

  module _ (th : Theory) (es : Entries) (base : ℕ) where
    -- While a declaration is read: the theory below `base`, and words of the new entry from there on.
    pub record Midway (credit : ℕ) (ts : Stream Token) (ks : List ℕ) (w : Walk) (heap : List ℕ) : Type 0 where
      pub walks : Walks text counted Before ts ks w
      pub holds : Holds text heap es base th
      pub above : base ≤ w.top
      pub base_low : places.entries ≤ base
      pub room : 3 * w.top + 4 * weight ts + credit ≤ 35844

    pub record InputsRead (n : ℕ) (ts : Stream Token) (ks : List ℕ) (from : ℕ) (heap : List ℕ) (q : Walk) (heap' : List ℕ) (ins : List Name) : Type 0 where
      pub ready : Midway 0 ts ks q heap'
      pub keeps : Keeps from heap heap'
      pub words : q.top ≡ from + length ins
      pub sorts : SortsAt heap' es from ins
      pub many : length ins ≡ n

    abbrev InputsLaw : Sexps → Type 0
    InputsLaw xs =
        (ts : Stream Token) (ks : List ℕ) (w : Walk) (heap : List ℕ)
        → Midway 0 (flat xs (closing ▹ ts)) (counts_all xs ks) w heap
        → Simulates (InputsRead (count xs) ts ks w.top heap) (inputs (count xs) text counted w heap) (definition.sorts_named th xs)

    inputs_none : InputsLaw []ₛ
    unfolding inputs definition.sorts_named flat counts_all count weight
    inputs_none ts ks w heap r =
        let m = closing_met text counted Before reads r.walks in
        let c = r.room in
        rw m.met
        (leave {b = []} record {
          ready = record { walks = m.walks; holds = r.holds; above = r.above; base_low = r.base_low; room = omega arith };
          keeps = keeps_all;
          words = omega arith;
          sorts = no_sorts;
          many = refl;
        })

    inputs_more : (x : Sexp) (xs : Sexps) → InputsLaw xs → InputsLaw (x ∷ₛ xs)
    unfolding inputs definition.sorts_named flat counts_all count pushed
    inputs_more x xs law ts ks w heap r =
        pure _ _ (sort_named_lem r.holds x {ts = flat xs (closing ▹ ts)} {ks = counts_all xs ks} r.walks)
        (λ p s k. one p s k) where
          us : Stream Token
          us = flat xs (closing ▹ ts)

          join : (a : ℕ) (name : Name) (next : Reader) → SortAt es a name → 2 + weight us ≤ weight (flat_one x us)
              → {q : Walk} {heap' : List ℕ} {ins : List Name}
              → InputsRead (count xs) ts ks (sum32 w.top 1) (set heap w.top a) q heap' ins
              → InputsRead (suc (count xs)) ts ks w.top heap q heap' (name ∷ ins)
          join a name next m h {q} {heap'} {ins} k =
              let c = r.room in
              let l = r.holds.long in
              let e : sum32 w.top 1 ≡ w.top + 1 = sum_small w.top 1 (omega arith) in
              let n = k.words in
              record {
                ready = k.ready;
                keeps = keeps_then (rw e (omega arith)) (keeps_set w.top heap w.top a (omega arith)) k.keeps;
                words = omega arith;
                sorts = one_sort {o = w.top} {s = name} {ss = ins}
                    (rw (k.keeps.words w.top (rw e (omega arith)), get_or-set_same heap w.top a 0 (omega arith)) m)
                    (rw (← e) k.sorts);
                many = ap suc k.many;
              }

          one : (p : ℕ × Walk) (name : Name) → SortRead es x us (counts_all xs ks) w p name
              → Simulates (InputsRead (suc (count xs)) ts ks w.top heap)
              (leaving.◌>>=◌ (pushed p.0 p.1 heap) (λ (q, heap'). inputs (count xs) text counted q heap'))
              (definition.sorts_named th xs >>= λ ss. ok (name ∷ ss))
          one p name (sort_read {a} {next} m h k) =
              let c = r.room in
              let u = r.above in
              let e : sum32 w.top 1 ≡ w.top + 1 = sum_small w.top 1 (omega arith) in
              after (λ ss. name ∷ ss)
              (law ts ks (with_top (read_on w next) (sum32 w.top 1)) (set heap w.top a)
              record {
                walks = record { before = k.before; counted = k.counted; few = k.few };
                holds = holds_kept (keeps_set base heap w.top a u) (omega arith) r.holds;
                above = rw e (omega arith);
                base_low = r.base_low;
                room = rw e (omega arith);
              })
              (λ q heap' ins z. join a name next m h z)

    pub inputs_law : (xs : Sexps) → InputsLaw xs
    inputs_law []ₛ = inputs_none
    inputs_law (x ∷ₛ xs) = inputs_more x xs (inputs_law xs)
