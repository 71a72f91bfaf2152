-- What is asked of a reader, beside what the definition asks of its items. Assumes nothing.
use Rattle.std.specs.Prelude.{None}
use Prim.Native.Nat.{ℕ, zero, suc, ◌+◌, ◌≤◌, ◌<◌}
use mathlib.Core.Path.{◌≡◌, refl}
use mathlib.Core.Bool.{not}
use mathlib.Core.List.{List}
use lib.Dec.{eqb}
use lib.ListN.{length}
use native.Mathlib.Omega.{arith}
use borrow.Author.Tests.{le-leb, lt-leb, ne_eqb}
use Rattle.theory_laws.specs.Below.horn.specs.Refusals as refusals
use Rattle.theory_laws.specs.Below.horn.specs.Refusals.{Result, number, stray_closing, excess}
use Rattle.theory_laws.specs.Below.horn.specs.Names.{Name}
use Rattle.theory_laws.specs.Below.horn.specs.Tokens.{Stream, end, bad, ◌▹◌, Token, opening, closing, atom}
use Rattle.theory_laws.specs.Below.horn.specs.NestedLists.{Item, word, group, Items, closed, ended, bad_line, ◌then◌, asked_at, absent}
use Rattle.theory_laws.specs.Below.horn.specs.Checker as definition
use Rattle.theory_laws.specs.Below.words.specs.Parts.{part}
use Rattle.asking.specs.Below.lex.specs.Answers as lexed
use Rattle.asking.specs.Below.lex.specs.declared.Reader.{Reader}
use Rattle.asking.specs.Below.lex.proofs.Standing.{Stands}
use Rattle.asking.specs.Below.lex.proofs.Readers.{takes, taken_end, taken_bad, Sees, see_end, see_bad}
use Rattle.asking.specs.Below.lex.proofs.Readers.{see_opening, see_closing, see_atom, sees}
use Rattle.asking.specs.Below.outcomes.specs.Outcomes as outcomes
use Rattle.asking.specs.Below.outcomes.specs.Outcomes.{Outcome}
use Rattle.asking.specs.Below.outcomes.specs.Simulation.{Answers, both_refuse, both_ok}
use Rattle.asking.specs.Asking as asked
use Rattle.asking.specs.Asking.{Met, Ahead, Top, item_due, atom_due, list_due, closing_due, closing_next, form_due}
use Rattle.asking_laws.proofs.Places.{Begins, Comes, RestComes, At}
use Rattle.asking_laws.proofs.Taken.{Got, got_opening, got_closing, got_atom, got}

-- "Asking for an item at depth 257 is refusal 4, before its token is taken": the code counts down, the definition up.
pub asked_at_lem : {A B : Type 0} {Q : A → B → Type 0} {o : Outcome A} {m : Result B} (left depth : ℕ) → depth + left ≡ 257 → Answers Q o m
    → Answers Q (outcomes.◌>>=◌ (outcomes.need (not (eqb left 0)) 4) (λ _. o)) (refusals.◌>>=◌ (asked_at depth) (λ _. m))
unfolding asked_at refusals.need refusals.◌>>=◌ number
asked_at_lem zero depth e h = rw (lt-leb depth 256 (omega arith)) (both_refuse refl)
asked_at_lem (suc left) depth e h = rw (le-leb depth 256 (omega arith), ne_eqb (suc left) 0 (λ z. omega arith)) h

pub bind_answers : {A B C D : Type 0} {Q : A → B → Type 0} {R : C → D → Type 0} {o : Outcome A} {m : Result B}
    (f : A → Outcome C) (g : B → Result D)
    → Answers Q o m → ((a : A) (b : B) → Q a b → Answers R (f a) (g b))
    → Answers R (outcomes.◌>>=◌ o f) (refusals.◌>>=◌ m g)
unfolding refusals.◌>>=◌
bind_answers f g (both_refuse e) k = both_refuse e
bind_answers f g (both_ok q) k = k _ _ q

module _ (text : List ℕ) where
  token_got : {K : Stream Token → Type 0} {n : ℕ} {r : Reader} (t : Token) → At text (Begins t K) n r → Got text K n t (lexed.taken text r)
  token_got {K} {n} {r} t a =
      let b = a.here in
      got text t b.others (lexed.taken text r) b.on (rw b.next at a.light)
      (rw b.next at (takes text r a.coming a.stands))

  end-taken : {n : ℕ} {r : Reader} → At text (λ s. s ≡ end) n r → lexed.taken text r ≡ lexed.ended
  end-taken {n} {r} a = taken_end text (rw a.here at (takes text r a.coming a.stands))

  bad-taken : {n : ℕ} {r : Reader} → At text (λ s. s ≡ bad) n r → lexed.taken text r ≡ lexed.refused 3
  bad-taken {n} {r} a = taken_bad text (rw a.here at (takes text r a.coming a.stands))

  module _ (K : Stream Token → Type 0) (n : ℕ) where
    -- An item that was asked for: an atom by its bounds, or a list, its opening taken and nothing held ahead; what is left of the list around
    -- it stays.
    pub data ItemMet : Met → Item × Items → Type 0 where
      atom_met : {s t : ℕ} {r : Reader} {name : Name} {rest : Items} → part s t text ≡ name → s < t → t ≤ length text → At text (RestComes rest K) (n + 2) r
          → ItemMet (asked.atom s t r) (word name, rest)
      list_met : {r : Reader} {inner rest : Items} → At text (RestComes inner (RestComes rest K)) n r → r.ahead ≡ None
          → ItemMet (asked.list r) (group inner, rest)

    pub data WordMet : ℕ × ℕ × Reader → Name × Items → Type 0 where
      word_met : {s t : ℕ} {r : Reader} {name : Name} {rest : Items} → part s t text ≡ name → s < t → t ≤ length text → At text (RestComes rest K) (n + 2) r
          → WordMet (s, t, r) (name, rest)

    pub data GroupMet : Reader → Items × Items → Type 0 where
      group_met : {r : Reader} {inner rest : Items} → At text (RestComes inner (RestComes rest K)) n r → r.ahead ≡ None
          → GroupMet r (inner, rest)

    -- The next item.
    pub item_law : (is : Items) (left depth : ℕ) {r : Reader} → depth + left ≡ 257 → At text (RestComes is K) n r
        → Answers ItemMet (item_due text left r) (definition.ask depth is)
    unfolding item_due definition.ask absent RestComes Comes number
    item_law closed left depth {r} e a = asked_at_lem left depth e (by (token_got closing a)) where
      by : {b : lexed.Answer} → Got text K n closing b → Answers ItemMet (asked.item_from b) (refusals.refused stray_closing)
      by (got_closing h) = both_refuse refl
    item_law ended left depth {r} e a = asked_at_lem left depth e (rw (end-taken a) (both_refuse refl))
    item_law bad_line left depth {r} e a = asked_at_lem left depth e (rw (bad-taken a) (both_refuse refl))
    item_law (word name then rest) left depth {r} e a = asked_at_lem left depth e (by (token_got (atom name) a)) where
      by : {b : lexed.Answer} → Got text (RestComes rest K) n (atom name) b → Answers ItemMet (asked.item_from b) (refusals.ok (word name, rest))
      by (got_atom p l u h) = both_ok (atom_met p l u h)
    item_law (group inner then rest) left depth {r} e a = asked_at_lem left depth e (by (token_got opening a)) where
      by : {b : lexed.Answer} → Got text (RestComes inner (RestComes rest K)) n opening b → Answers ItemMet (asked.item_from b) (refusals.ok (group inner, rest))
      by (got_opening h bare) = both_ok (list_met h bare)

    -- Where an atom is due, and where a list is.
    pub word_law : (is : Items) (left depth : ℕ) {r : Reader} → depth + left ≡ 257 → At text (RestComes is K) n r
        → Answers WordMet (atom_due text left r) (definition.ask_word depth is)
    unfolding atom_due definition.ask_word definition.word_due refusals.◌>>=◌ number
    word_law is left depth e a = bind_answers asked.atom_only _ (item_law is left depth e a) (λ x y m. by m) where
      by : {x : Met} {y : Item × Items} → ItemMet x y
          → Answers WordMet (asked.atom_only x) (refusals.◌>>=◌ (definition.word_due y.0) λ name. refusals.ok (name, y.1))
      by (atom_met p l u h) = both_ok (word_met p l u h)
      by (list_met h bare) = both_refuse refl

    pub group_law : (is : Items) (left depth : ℕ) {r : Reader} → depth + left ≡ 257 → At text (RestComes is K) n r
        → Answers GroupMet (list_due text left r) (definition.ask_group depth is)
    unfolding list_due definition.ask_group definition.group_due refusals.◌>>=◌ number
    group_law is left depth e a = bind_answers asked.list_only _ (item_law is left depth e a) (λ x y m. by m) where
      by : {x : Met} {y : Item × Items} → ItemMet x y
          → Answers GroupMet (asked.list_only x) (refusals.◌>>=◌ (definition.group_due y.0) λ inner. refusals.ok (inner, y.1))
      by (atom_met p l u h) = both_refuse refl
      by (list_met h bare) = both_ok (group_met h bare)

    -- Where a closing is due.
    pub closing_law : (is : Items) {r : Reader} → At text (RestComes is K) n r
        → Answers (λ (q : Reader) (x : Unit {0}). At text K n q) (closing_due text r) (definition.closing_due is)
    unfolding closing_due definition.closing_due RestComes Comes number
    closing_law closed a = by (token_got closing a) where
      by : {b : lexed.Answer} → Got text K n closing b → Answers (λ (q : Reader) (x : Unit {0}). At text K n q) (asked.closed_from b) (refusals.ok tt)
      by (got_closing h) = both_ok h
    closing_law ended a = rw (end-taken a) (both_refuse refl)
    closing_law bad_line a = rw (bad-taken a) (both_refuse refl)
    closing_law (word name then rest) a = by (token_got (atom name) a) where
      by : {b : lexed.Answer} → Got text (RestComes rest K) n (atom name) b
          → Answers (λ (q : Reader) (x : Unit {0}). At text K n q) (asked.closed_from b) (refusals.refused excess)
      by (got_atom p l u h) = both_refuse refl
    closing_law (group inner then rest) a = by (token_got opening a) where
      by : {b : lexed.Answer} → Got text (RestComes inner (RestComes rest K)) n opening b
          → Answers (λ (q : Reader) (x : Unit {0}). At text K n q) (asked.closed_from b) (refusals.refused excess)
      by (got_opening h bare) = both_refuse refl

    -- The look ahead for members.
    pub data Looked : Items → Outcome Ahead → Type 0 where
      look_closed : {q : Reader} → At text K n q → Looked closed (outcomes.ok (asked.closing q))
      look_bad : Looked bad_line (outcomes.refused 3)
      look_ended : {q : Reader} → At text (RestComes ended K) n q → Looked ended (outcomes.ok (asked.member q))
      look_item : {q : Reader} {item : Item} {rest : Items} → At text (RestComes (item then rest) K) n q
          → Looked (item then rest) (outcomes.ok (asked.member q))

    seen_at : {L : Stream Token → Type 0} {r q : Reader} (a : At text L n r) → Stands text q a.coming → At text L n q
    seen_at a st = record { coming = a.coming; stands = st; here = a.here; light = a.light }

    closed_next : {q : Reader} → At text (RestComes closed K) n q
        → Looked closed (outcomes.◌>>=◌ (closing_due text q) (λ after. outcomes.ok (asked.closing after)))
    unfolding definition.closing_due
    closed_next {q} a = by (closing_law closed a) where
      by : {o : Outcome Reader} → Answers (λ (p : Reader) (x : Unit {0}). At text K n p) o (refusals.ok tt)
          → Looked closed (outcomes.◌>>=◌ o (λ after. outcomes.ok (asked.closing after)))
      by (both_ok h) = look_closed h

    pub look_law : (is : Items) {r : Reader} → At text (RestComes is K) n r → Looked is (closing_next text r)
    unfolding closing_next RestComes Comes
    look_law closed {r} a =
        go (rw a.here.next at (sees text r a.coming a.stands)) (λ q st. closed_next (seen_at a (rw (← a.here.next) at st))) where
          go : {b : lexed.Answer} {u : Stream Token} → Sees text (closing ▹ u) b
              → ((q : Reader) → Stands text q (closing ▹ u) → Looked closed (outcomes.◌>>=◌ (closing_due text q) (λ after. outcomes.ok (asked.closing after))))
              → Looked closed (asked.next_from text r b)
          go (see_closing st) g = g _ st
    look_law ended {r} a = by (rw a.here at (sees text r a.coming a.stands)) where
      by : {b : lexed.Answer} → Sees text end b → Looked ended (asked.next_from text r b)
      by see_end = look_ended a
    look_law bad_line {r} a = by (rw a.here at (sees text r a.coming a.stands)) where
      by : {b : lexed.Answer} → Sees text bad b → Looked bad_line (asked.next_from text r b)
      by see_bad = look_bad
    look_law (word name then rest) {r} a =
        go (rw a.here.next at (sees text r a.coming a.stands)) (λ q st. seen_at a (rw (← a.here.next) at st)) where
          go : {b : lexed.Answer} {u : Stream Token} → Sees text (atom name ▹ u) b
              → ((q : Reader) → Stands text q (atom name ▹ u) → At text (RestComes (word name then rest) K) n q)
              → Looked (word name then rest) (asked.next_from text r b)
          go (see_atom st) g = look_item (g _ st)
    look_law (group inner then rest) {r} a =
        go (rw a.here.next at (sees text r a.coming a.stands)) (λ q st. seen_at a (rw (← a.here.next) at st)) where
          go : {b : lexed.Answer} {u : Stream Token} → Sees text (opening ▹ u) b
              → ((q : Reader) → Stands text q (opening ▹ u) → At text (RestComes (group inner then rest) K) n q)
              → Looked (group inner then rest) (asked.next_from text r b)
          go (see_opening st) g = look_item (g _ st)

    -- The next form at top level.
    pub data FormMet : Items → Outcome Top → Type 0 where
      form_over : FormMet ended (outcomes.ok asked.over)
      form_bad : FormMet bad_line (outcomes.refused 3)
      form_closing : FormMet closed (outcomes.refused 6)
      form_atom : {name : Name} {rest : Items} → FormMet (word name then rest) (outcomes.refused 7)
      form_list : {q : Reader} {inner rest : Items} → At text (RestComes inner (RestComes rest K)) n q
          → FormMet (group inner then rest) (outcomes.ok (asked.form q))

    pub form_law : (is : Items) {r : Reader} → At text (RestComes is K) n r → FormMet is (form_due text r)
    unfolding form_due RestComes Comes
    form_law closed a = by (token_got closing a) where
      by : {b : lexed.Answer} → Got text K n closing b → FormMet closed (asked.form_from b)
      by (got_closing h) = form_closing
    form_law ended a = rw (end-taken a) form_over
    form_law bad_line a = rw (bad-taken a) form_bad
    form_law (word name then rest) a = by (token_got (atom name) a) where
      by : {b : lexed.Answer} → Got text (RestComes rest K) n (atom name) b → FormMet (word name then rest) (asked.form_from b)
      by (got_atom p l u h) = form_atom
    form_law (group inner then rest) a = by (token_got opening a) where
      by : {b : lexed.Answer} → Got text (RestComes inner (RestComes rest K)) n opening b → FormMet (group inner then rest) (asked.form_from b)
      by (got_opening h bare) = form_list h
