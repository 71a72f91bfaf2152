-- All declarations: the second walk answers as the definition does, and the words hold its theory. Assumes nothing.
use mathlib.Core.Path.{◌≡◌, refl, ap, sym, subst, ◌∙◌}
use mathlib.Core.List.{List, []}
use Prim.Native.Nat.{ℕ, zero, suc, ◌+◌, ◌*◌, ◌≤◌, ◌<◌}
use native.Mathlib.Omega.{arith}
use lib.ListN.{length}
use Rattle.capacity.specs.Below.horn.specs.Refusals.{number, ok, ◌>>=◌}
use Rattle.capacity.specs.Below.horn.specs.Names.{Name}
use Rattle.capacity.specs.Below.horn.specs.Tokens.{Stream, end, ◌▹◌, Token, opening, closing, atom}
use Rattle.capacity.specs.Below.horn.specs.NestedLists.{Sexp, leaf, list, Sexps, []ₛ, ◌∷ₛ◌}
use Rattle.capacity.specs.Below.horn.specs.Rulebook as definition
use Rattle.capacity.specs.Below.horn.specs.Rulebook.{Theory, DeclarationWord, declaration_word, one_member, two_members, three_members, count}
use Rattle.capacity.specs.Below.horn.proofs.Counts.{stream_length}
use Rattle.capacity.specs.Below.horn.proofs.Inversion.{not_ok}
use Rattle.theory.specs.Below.lex.specs.declared.Reader.{Reader}
use Rattle.theory.specs.Below.sexp.specs.Flattening.{flat_one, flat, counts_one, counts_all}
use Rattle.theory.specs.Below.outcomes.specs.Outcomes as outcomes
use Rattle.theory.specs.Below.items.specs.Places as places
use Rattle.theory.specs.Below.items.specs.Items.{read_on, opened_one, head_due}
use Rattle.theory.specs.Below.variables.specs.Variables.{Areas}
use Rattle.theory.specs.Below.items.specs.declared.Walk.{Walk}
use Rattle.theory.specs.Declarations as walk
use Rattle.theory.specs.Declarations.{another, nothing, form_of, form_named, declared_by, more_due, counted, declarations_from}
use Rattle.theory.specs.declared.Counts.{Counts}
use Rattle.theory.specs.declared.Form.{Form}
use Rattle.theory.specs.Below.outcomes.specs.Simulation.{Simulates, refuse, leave, bind, aside, weaker, knowing, giving}
use Rattle.theory_laws.specs.Reading.{Reads, Walks, weight, Shallow, shallow_list, Shallows, shallow_more}
use Rattle.theory_laws.specs.Representation.{Entries, Holds}
use Rattle.theory_laws.proofs.Items.{AtomMet, atom_met, ListMet, list_met}
use Rattle.theory_laws.proofs.Patterns.{head_met, head_list}
use Rattle.theory_laws.proofs.Judgments.{list_due_lem, atom_due_lem}
use Rattle.theory_laws.proofs.Names.{Midway}
use Rattle.theory_laws.proofs.Symbols.{Stood, sort_law, constructor_law, predicate_law}
use Rattle.theory_laws.proofs.Rules.{rule_law}
use Rattle.theory_laws.proofs.Tallies.{tally, total, one_more, one_counted, one_total, sort_tally, constructor_tally, predicate_tally, rule_tally}
use Rattle.theory_laws.proofs.Forms.{Formed, is_sort, is_constructor, is_predicate, is_rule, is_other, formed}

-- Tokens that are passed.
mutual
  unfolding flat stream_length

  pub longer : (x : Sexp) (ts : Stream Token) → stream_length ts ≤ stream_length (flat_one x ts)
  longer (leaf bytes) ts = omega arith
  longer (list xs) ts = let h = longer_all xs (closing ▹ ts) in omega arith

  pub longer_all : (xs : Sexps) (ts : Stream Token) → stream_length ts ≤ stream_length (flat xs ts)
  longer_all []ₛ ts = omega arith
  longer_all (x ∷ₛ xs) ts = let h = longer x (flat xs ts) in let k = longer_all xs ts in omega arith

pub count_longer : (xs : Sexps) (ts : Stream Token) → count xs + stream_length ts ≤ stream_length (flat xs ts)
unfolding flat stream_length count
count_longer []ₛ ts = omega arith
count_longer (leaf bytes ∷ₛ xs) ts = let h = count_longer xs ts in omega arith
count_longer (list ys ∷ₛ xs) ts = let h = count_longer xs ts in let k = longer_all ys (closing ▹ flat xs ts) in omega arith

-- A declaration that was accepted is a list: an opening and a closing at least.
list_longer : (th : Theory) (x : Sexp) (ts : Stream Token) {next : Theory} → definition.declaration th x ≡ ok next
    → 2 + stream_length ts ≤ stream_length (flat_one x ts)
unfolding definition.declaration definition.list_due flat stream_length ◌>>=◌
list_longer th (leaf bytes) ts e = not_ok e
list_longer th (list xs) ts e = let h = longer_all xs (closing ▹ ts) in omega arith

module _ (text member_counts : List ℕ) (Before : Reader → Stream Token → Type 0) (reads : Reads text Before) (short : length text ≤ 8192) where
  abbrev Mid : Theory → Entries → ℕ → ℕ → Stream Token → List ℕ → Walk → List ℕ → Type 0
  Mid = Midway text member_counts Before reads

  -- A declaration that was read: the walk behind it, and the counts.
  pub record DeclarationRead (th : Theory) (ts : Stream Token) (ks : List ℕ) (r : Form × Walk) (areas : Areas) (th' : Theory) : Type 0 where
    pub stood : Stood text member_counts Before reads short ts ks r.1 areas.1 th'
    pub long : length areas.0 ≡ 16384
    pub tallied : tally th' ≡ one_more (tally th) r.0

  module _ (th : Theory) (es : Entries) where
    -- By its form.
    by_form : {name : Name} {xs : Sexps} {f : Form} {k : DeclarationWord} {ts : Stream Token} {ks : List ℕ} {w : Walk} (vars : List ℕ) {heap : List ℕ}
        → Formed name xs f k
        → Mid th es w.top (4 * suc (length name)) (flat xs (closing ▹ ts)) (counts_all xs ks) w heap
        → length vars ≡ 16384
        → Shallows 259 xs
        → Shallows 258 xs
        → stream_length (flat xs (closing ▹ ts)) ≤ length text
        → Simulates (λ q areas th'. DeclarationRead th ts ks (f, q) areas th') (declared_by f text member_counts w vars heap) (definition.declare th k xs)
    unfolding definition.declare one_member two_members three_members flat counts_all number
    by_form vars (is_sort {x} four) r long s₀ s₁ enough =
        let c = r.room in
        aside vars
        (knowing (sort_law text member_counts Before reads short x
        record { walks = r.walks; holds = r.holds; above = r.above; base_low = r.base_low; room = omega arith }))
        (λ q heap' th' y. record { stood = y.0; long = long; tallied = sort_tally th x y.1 })
    by_form vars (is_constructor {x} {y} {z} four) r long s₀ s₁ enough =
        let c = r.room in
        aside vars
        (knowing (constructor_law text member_counts Before reads short x y z
        record { walks = r.walks; holds = r.holds; above = r.above; base_low = r.base_low; room = omega arith }))
        (λ q heap' th' v. record { stood = v.0; long = long; tallied = constructor_tally th x y z v.1 })
    by_form vars (is_predicate {x} {y} four) r long s₀ s₁ enough =
        let c = r.room in
        aside vars
        (knowing (predicate_law text member_counts Before reads short x y
        record { walks = r.walks; holds = r.holds; above = r.above; base_low = r.base_low; room = omega arith }))
        (λ q heap' th' v. record { stood = v.0; long = long; tallied = predicate_tally th x y v.1 })
    by_form vars (is_rule {x} {y} {z} four) r long (shallow_more s₁ (shallow_more s₂ s₃)) (shallow_more t₁ (shallow_more t₂ (shallow_more t₃ t₄))) enough =
        let c = r.room in
        weaker
        (knowing (rule_law text member_counts Before reads short th es x y z vars
        record { walks = r.walks; holds = r.holds; above = r.above; base_low = r.base_low; room = omega arith } long s₂ t₃ enough))
        (λ q areas th' v. record { stood = v.0.stood; long = v.0.long; tallied = rule_tally th x y z v.1 })
    by_form vars (is_other e) r long s₀ s₁ enough = rw (e th) (refuse refl)

    -- The head of a declaration is an atom.
    headed_atom : (name : Name) (xs : Sexps) {ts : Stream Token} {ks : List ℕ} {w : Walk} (vars : List ℕ) {heap : List ℕ}
        → Mid th es w.top 0 (flat_one (list (leaf name ∷ₛ xs)) ts) (counts_one (list (leaf name ∷ₛ xs)) ks) w heap
        → length vars ≡ 16384
        → Shallows 259 xs
        → Shallows 258 xs
        → stream_length (flat_one (list (leaf name ∷ₛ xs)) ts) ≤ length text
        → Simulates (DeclarationRead th ts ks) (walk.declaration text member_counts w vars heap) (definition.declare th (declaration_word name) xs)
    unfolding walk.declaration form_of flat_one counts_one count weight stream_length
    headed_atom name xs {ts} {ks} {w} vars {heap} r long s₀ s₁ enough =
        let c = r.room in
        let met : ListMet text member_counts Before reads (suc (count xs)) (atom name ▹ flat xs (closing ▹ ts)) (counts_all xs ks) w =
        list_met text member_counts Before reads r.walks in
        let head : AtomMet text member_counts Before reads name (flat xs (closing ▹ ts)) (counts_all xs ks) (opened_one w met.next) =
        atom_met text member_counts Before reads met.walks in
        rw (list_due_lem text member_counts Before reads short th es 0 0 met, head_met text member_counts Before reads short th es 0 0 (count xs) head, head.name)
        (giving (λ q. (form_named name (suc (count xs)), q))
        (by_form vars (formed name xs)
        record { walks = head.walks; holds = r.holds; above = r.above; base_low = r.base_low; room = omega arith } long s₀ s₁ (omega arith))
        (λ q areas th' y. y))

    -- "Declarations, in order: an atom is 7, `()` 8, a head that is a list 7".
    pub declaration_law : (x : Sexp) {ts : Stream Token} {ks : List ℕ} {w : Walk} (vars : List ℕ) {heap : List ℕ}
        → Mid th es w.top 0 (flat_one x ts) (counts_one x ks) w heap
        → length vars ≡ 16384
        → Shallow 260 x
        → Shallow 259 x
        → stream_length (flat_one x ts) ≤ length text
        → Simulates (DeclarationRead th ts ks) (walk.declaration text member_counts w vars heap) (definition.declaration th x)
    unfolding walk.declaration definition.declaration definition.list_due definition.headed_declaration definition.atom_due head_due flat_one counts_one count number
        ◌>>=◌
    declaration_law (leaf bytes) vars r long s₀ s₁ enough =
        rw (atom_due_lem text member_counts Before reads short th es 0 0 (atom_met text member_counts Before reads r.walks)) (refuse refl)
    declaration_law (list []ₛ) vars r long s₀ s₁ enough =
        rw (list_due_lem text member_counts Before reads short th es 0 0 (list_met text member_counts Before reads r.walks)) (refuse refl)
    declaration_law (list (list ys ∷ₛ xs)) vars r long s₀ s₁ enough =
        let m = list_met text member_counts Before reads r.walks in
        rw (
          list_due_lem text member_counts Before reads short th es 0 0 m,
          head_list text member_counts Before reads short th es 0 0 (count xs) (list_met text member_counts Before reads m.walks),
        ) (refuse refl)
    declaration_law (list (leaf name ∷ₛ xs)) vars r long (shallow_list {d} e (shallow_more h s)) (shallow_list {d = d'} e' (shallow_more h' s')) enough =
        let k : d ≡ 259 = omega arith in
        let k' : d' ≡ 258 = omega arith in
        headed_atom name xs vars r long (rw k at s) (rw k' at s') enough

  -- Whether a declaration follows.
  record MoreMet (ts : Stream Token) (ks : List ℕ) (w : Walk) : Type 0 where
    next : Reader
    met : more_due text w ≡ outcomes.ok (another (read_on w next))
    walks : Walks text member_counts Before ts ks (read_on w next)

  more_token : (t : Token) (us : Stream Token) {ks : List ℕ} {w : Walk} → Walks text member_counts Before (t ▹ us) ks w → MoreMet (t ▹ us) ks w
  unfolding more_due
  more_token t us {ks} {w} h =
      let k = reads.peek_token w.reader t us h.before in
      record { next = k.next; met = rw k.peeked; walks = record { before = k.before; counted = h.counted; few = h.few } }

  more_met : (x : Sexp) (ts : Stream Token) {ks : List ℕ} {w : Walk} → Walks text member_counts Before (flat_one x ts) ks w → MoreMet (flat_one x ts) ks w
  unfolding flat_one
  more_met (leaf bytes) ts h = more_token (atom bytes) ts h
  more_met (list xs) ts h = more_token opening (flat xs (closing ▹ ts)) h

  none_met : {ks : List ℕ} {w : Walk} → Walks text member_counts Before end ks w → more_due text w ≡ outcomes.ok nothing
  unfolding more_due
  none_met {w} h = rw (reads.peek_end w.reader h.before)

  -- The whole theory.
  pub record Accepted (c : Counts) (areas : Areas) (th : Theory) : Type 0 where
    pub tallied : c ≡ tally th
    pub entries : Entries
    pub top : ℕ
    pub holds : Holds text areas.1 entries top th
    pub low : places.entries ≤ top
    pub high : top ≤ places.theory_end
    pub long : length areas.0 ≡ 16384

  pub declarations_law : (xs : Sexps) (fuel : ℕ) (th : Theory) (es : Entries) {w : Walk} (vars : List ℕ) {heap : List ℕ}
      → Mid th es w.top 0 (flat xs end) (counts_all xs []) w heap
      → length vars ≡ 16384
      → Shallows 260 xs
      → Shallows 259 xs
      → stream_length (flat xs end) < 2 * fuel
      → stream_length (flat xs end) ≤ length text
      → total (tally th) + count xs ≤ 8192
      → Simulates Accepted (declarations_from fuel text member_counts (tally th) w vars heap) (definition.declarations th xs)
  unfolding declarations_from definition.declarations flat counts_all count
  declarations_law xs zero th es vars r long s₀ s₁ enough few small = absurd (omega arith)
  declarations_law []ₛ (suc fuel) th es {w} vars r long s₀ s₁ enough few small =
      let c = r.room in
      rw (none_met r.walks)
      (leave record { tallied = refl; entries = es; top = w.top; holds = r.holds; low = r.base_low; high = omega arith; long = long })
  declarations_law (x ∷ₛ xs) (suc fuel) th es {w} vars r long (shallow_more h₀ s₀) (shallow_more h₁ s₁) enough few small =
      let m = more_met x (flat xs end) r.walks in
      let long_rest = longer x (flat xs end) in
      rw m.met
      (bind _ _
      (knowing (declaration_law th es x vars record { walks = m.walks; holds = r.holds; above = r.above; base_low = r.base_low; room = r.room } long h₀ h₁
      few))
      (λ q areas th' y.
      let t = y.0.tallied in
      let u = one_total (tally th) q.0 in
      let z = ap (λ (c : Counts). total c) t in
      let v : total (tally th') ≤ total (tally th) + 1 = omega arith in
      let g = list_longer th x (flat xs end) y.1 in
      subst (λ (c : Counts). Simulates Accepted (declarations_from fuel text member_counts c q.1 areas.0 areas.1) (definition.declarations th' xs))
      (t ∙ sym (one_counted (tally th) q.0 (omega arith)))
      (declarations_law xs fuel th' y.0.stood.entries areas.0 y.0.stood.ready y.0.long s₀ s₁ (omega arith) (omega arith) (omega arith))))
