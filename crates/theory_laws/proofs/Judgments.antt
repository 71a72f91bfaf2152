-- Judgments of a rule: the walk reads what the definition reads, and the words that it writes stand for it.
-- Assumes nothing.
use mathlib.Core.Path.{◌≡◌, refl, ap}
use mathlib.Core.List.{List, ◌∷◌}
use Prim.Native.Nat.{ℕ, suc, ◌+◌, ◌≤◌}
use native.Mathlib.Omega.{arith}
use lib.ListN.{length}
use Rattle.capacity.specs.Below.horn.specs.Refusals.{number, ◌>>=◌, sort_arity}
use Rattle.capacity.specs.Below.horn.specs.Names.{Name}
use Rattle.capacity.specs.Below.horn.specs.Tokens.{Stream, ◌▹◌, Token, closing, atom}
use Rattle.capacity.specs.Below.horn.specs.NestedLists.{Sexp, leaf, list, Sexps, []ₛ, ◌∷ₛ◌}
use Rattle.capacity.specs.Below.horn.specs.Rulebook as definition
use Rattle.capacity.specs.Below.horn.specs.Rulebook.{judgment, Variable, Pattern, is_predicate, Theory, fits, count}
use Rattle.theory.specs.Below.lex.specs.declared.Reader.{Reader}
use Rattle.theory.specs.Below.sexp.specs.Flattening.{flat_one, flat, counts_one, counts_all}
use Rattle.theory.specs.Below.outcomes.specs.Outcomes as outcomes
use Rattle.theory.specs.Below.items.specs.Places as places
use Rattle.theory.specs.Below.items.specs.Items.{read_on, opened_one, list_due, head_due}
use Rattle.theory.specs.Below.patterns.specs.Patterns as walk
use Rattle.theory.specs.Below.variables.specs.Variables.{Areas}
use Rattle.theory.specs.Below.items.specs.declared.Walk.{Walk}
use Rattle.theory.specs.Below.outcomes.specs.Simulation.{Simulates, refuse, leave, bind, checked_aside, after}
use Rattle.theory_laws.specs.Reading.{Reads, Shallow, shallow_list, Shallows, shallow_more}
use Rattle.theory_laws.specs.Representation.{Entries, judgment_output, FlatList, no_premises, one_premise}
use Rattle.theory_laws.proofs.Items.{AtomMet, atom_met, ListMet, list_met, closing_met}
use Rattle.theory_laws.proofs.Frames.{keeps_all}
use Rattle.theory_laws.proofs.Ready.{Ready, Reached, PatternRead, reached_then, flat_then}
use Rattle.theory_laws.proofs.Leaves.{applied_law, less_credit}
use Rattle.theory_laws.proofs.Patterns.{after_atom, after_opening, after_closing, head_met, head_list, applied_arguments, ArgumentsLaw}
use Rattle.theory_laws.proofs.Patterns.{arguments_law}

module _ (text counted : List ℕ) (Before : Reader → Stream Token → Type 0) (reads : Reads text Before) (short : length text ≤ 8192)
    (th : Theory) (es : Entries) (base spare : ℕ) where
  abbrev pub Was : ℕ → Stream Token → List ℕ → List Variable → Walk → List ℕ → List ℕ → Type 0
  Was = Ready text counted Before th es base spare

  abbrev pub HasRead : Stream Token → List ℕ → List Variable → ℕ → List ℕ → Walk → Areas → Pattern × List Variable → Type 0
  HasRead = PatternRead text counted Before th es base spare

  -- Inside a judgment's list.
  abbrev InsideLaw : Sexps → Type 0
  InsideLaw xs =
      (ts : Stream Token) (ks : List ℕ) (vs : List Variable) (w : Walk) (vars heap : List ℕ)
      → Was 0 (flat_one (list xs) ts) (counts_one (list xs) ks) vs w vars heap
      → Simulates (HasRead ts ks vs w.top heap) (walk.judgment text counted w vars heap) (definition.judgment_members th xs vs)

  pub list_due_lem : {k : ℕ} {ts : Stream Token} {ks : List ℕ} {w : Walk} (m : ListMet text counted Before reads k ts ks w)
      → list_due text counted w ≡ outcomes.ok (k, opened_one w m.next)
  unfolding list_due
  list_due_lem m = rw m.met

  pub atom_due_lem : {bytes : List ℕ} {ts : Stream Token} {ks : List ℕ} {w : Walk} (m : AtomMet text counted Before reads bytes ts ks w)
      → list_due text counted w ≡ outcomes.refused 7
  unfolding list_due
  atom_due_lem m = rw m.met

  inside_none : InsideLaw []ₛ
  unfolding walk.judgment definition.judgment_members flat_one counts_one count head_due number
  inside_none ts ks vs w vars heap r = rw (list_due_lem (list_met text counted Before reads r.walks)) (refuse refl)

  inside_list : (ys xs : Sexps) → InsideLaw (list ys ∷ₛ xs)
  unfolding walk.judgment definition.judgment_members definition.atom_due flat_one counts_one count number ◌>>=◌
  inside_list ys xs ts ks vs w vars heap r =
      let m = list_met text counted Before reads r.walks in
      rw (list_due_lem m, head_list text counted Before reads short th es base spare (count xs) (list_met text counted Before reads m.walks)) (refuse refl)

  inside_atom : (name : Name) (xs : Sexps) → ArgumentsLaw text counted Before reads short th es base spare walk.levels xs → InsideLaw (leaf name ∷ₛ xs)
  unfolding walk.judgment walk.arguments definition.judgment_members definition.predicate definition.atom_due flat_one counts_one count number ◌>>=◌
  inside_atom name xs law ts ks vs w vars heap r =
      rw (list_due_lem met, head_met text counted Before reads short th es base spare (count xs) head)
      (checked_aside vars (definition.predicate th name) (λ c. fits c judgment (count xs)) sort_arity _ _
      (applied_law text counted Before th es base spare places.predicates is_predicate name head.s head.t 0 (suc (count xs)) (count xs) judgment ready
      r.holds.predicates head.name refl (judgment_output refl))
      (applied_arguments text counted Before reads short th es base spare walk.levels xs judgment law refl refl ready)) where
        met : ListMet text counted Before reads (suc (count xs)) (atom name ▹ flat xs (closing ▹ ts)) (counts_all xs ks) w
        met = list_met text counted Before reads r.walks

        head : AtomMet text counted Before reads name (flat xs (closing ▹ ts)) (counts_all xs ks) (opened_one w met.next)
        head = atom_met text counted Before reads met.walks

        ready : Was 3 (flat xs (closing ▹ ts)) (counts_all xs ks) vs (read_on (opened_one w met.next) head.next) vars heap
        ready =
            less_credit text counted Before th es base spare
            (after_atom text counted Before reads short th es base spare (after_opening text counted Before reads short th es base spare r met) head) 3
            (omega arith)

  inside_law : (xs : Sexps) → Shallows walk.levels xs → InsideLaw xs
  inside_law []ₛ s = inside_none
  inside_law (leaf name ∷ₛ xs) (shallow_more h s) = inside_atom name xs (arguments_law text counted Before reads short th es base spare xs walk.levels s)
  inside_law (list ys ∷ₛ xs) s = inside_list ys xs

  -- "A judgment J is a list (else 7)".
  abbrev JudgmentLaw : Sexp → Type 0
  JudgmentLaw x =
      (ts : Stream Token) (ks : List ℕ) (vs : List Variable) (w : Walk) (vars heap : List ℕ)
      → Was 0 (flat_one x ts) (counts_one x ks) vs w vars heap
      → Simulates (HasRead ts ks vs w.top heap) (walk.judgment text counted w vars heap) (definition.judgment_pattern th x vs)

  pub judgment_law : (x : Sexp) → Shallow 258 x → JudgmentLaw x
  unfolding walk.judgment definition.judgment_pattern definition.list_due flat_one counts_one number ◌>>=◌
  judgment_law (leaf bytes) s ts ks vs w vars heap r = rw (atom_due_lem (atom_met text counted Before reads r.walks)) (refuse refl)
  judgment_law (list xs) (shallow_list {d} e s) ts ks vs w vars heap r =
      let q : d ≡ walk.levels = omega arith in inside_law xs (rw q at s) ts ks vs w vars heap r

  -- "Premises left to right", then the closing.
  pub record JudgmentsRead (n : ℕ) (ts : Stream Token) (ks : List ℕ) (vs : List Variable) (from : ℕ) (heap : List ℕ) (q : Walk) (areas : Areas)
      (r : List Pattern × List Variable) : Type 0 where
    pub reached : Reached text counted Before th es base spare ts ks vs from heap q areas r.1
    pub flats : FlatList areas.1 es base (base + places.patterns) q.top r.1 from r.0 q.top
    pub many : n ≡ length r.0

  abbrev JudgmentsLaw : Sexps → Type 0
  JudgmentsLaw xs =
      (ts : Stream Token) (ks : List ℕ) (vs : List Variable) (w : Walk) (vars heap : List ℕ)
      → Was 0 (flat xs (closing ▹ ts)) (counts_all xs ks) vs w vars heap
      → Simulates (JudgmentsRead (count xs) ts ks vs w.top heap) (walk.judgments (count xs) text counted w vars heap) (definition.judgment_patterns th xs vs)

  judgments_none : JudgmentsLaw []ₛ
  unfolding walk.judgments definition.judgment_patterns flat counts_all count
  judgments_none ts ks vs w vars heap r =
      let m = closing_met text counted Before reads r.walks in
      rw m.met
      (leave record {
        reached =
            record { ready = after_closing text counted Before reads short th es base spare r m; keeps = keeps_all; rises = omega arith; more = λ v x n. n };
        flats = no_premises;
        many = refl;
      })

  judgments_more : (x : Sexp) (xs : Sexps) → JudgmentLaw x → JudgmentsLaw xs → JudgmentsLaw (x ∷ₛ xs)
  unfolding walk.judgments definition.judgment_patterns flat counts_all count
  judgments_more x xs one law ts ks vs w vars heap r =
      bind _ _ (one (flat xs (closing ▹ ts)) (counts_all xs ks) vs w vars heap r)
      (λ q areas p y.
      after (λ z. (p.0 ∷ z.0, z.1)) (law ts ks p.1 q areas.0 areas.1 y.reached.ready) (λ q' areas' xs z. join y z)) where
        join : {q q' : Walk} {areas areas' : Areas} {p : Pattern × List Variable} {ps : List Pattern × List Variable}
            → HasRead (flat xs (closing ▹ ts)) (counts_all xs ks) vs w.top heap q areas p
            → JudgmentsRead (count xs) ts ks p.1 q.top areas.1 q' areas' ps
            → JudgmentsRead (suc (count xs)) ts ks vs w.top heap q' areas' (p.0 ∷ ps.0, ps.1)
        join y z =
            record {
              reached = reached_then text counted Before th es base spare y.reached z.reached;
              flats = one_premise (flat_then text counted Before th es base spare y.reached z.reached y.flat) z.flats;
              many = ap suc z.many;
            }

  pub judgments_law : (xs : Sexps) → Shallows 258 xs → JudgmentsLaw xs
  judgments_law []ₛ s = judgments_none
  judgments_law (x ∷ₛ xs) (shallow_more h s) = judgments_more x xs (judgment_law x h) (judgments_law xs s)
