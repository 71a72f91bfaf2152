-- Terms and judgments of a rule: the walk reads what the definition reads, and the words that it writes stand for it.
-- Assumes nothing.
use mathlib.Core.Path.{◌≡◌, refl, ap, sym, subst, ◌∙◌}
use mathlib.Core.Bool.{true, not}
use mathlib.Core.List.{List, [], ◌∷◌}
use Prim.Native.Nat.{ℕ, suc, ◌+◌, ◌*◌, ◌≤◌}
use native.Mathlib.Omega.{arith}
use borrow.Author.Tests.{eqb-true, ne_eqb}
use lib.Dec.{eqb}
use lib.ListN.{length, get_or, set}
use Rattle.capacity.specs.Below.horn.specs.Refusals.{number, ok, need, ◌>>=◌, sort_arity, bracketed_constant}
use Rattle.capacity.specs.Below.horn.specs.Names.{Name, is_zero}
use Rattle.capacity.specs.Below.horn.specs.Tokens.{Stream, ◌▹◌, Token, opening, closing, atom}
use Rattle.capacity.specs.Below.horn.specs.NestedLists.{Sexp, leaf, list, Sexps, []ₛ, ◌∷ₛ◌}
use Rattle.capacity.specs.Below.horn.specs.Rulebook as definition
use Rattle.capacity.specs.Below.horn.specs.Rulebook.{Output, sort, same_output, Symbol, symbol, Variable, Pattern, app, Patterns, []ₚ, ◌∷ₚ◌, is_constructor, Theory, fits, count}
use Rattle.capacity.specs.Below.horn.specs.Rulebook.{inputs}
use Rattle.capacity.specs.Below.horn.proofs.Equality.{both}
use Rattle.theory.specs.Below.lex.specs.declared.Reader.{Reader}
use Rattle.theory.specs.Below.sexp.specs.Flattening.{flat_one, flat, counts_one, counts_all}
use Rattle.theory.specs.Below.outcomes.specs.Outcomes as outcomes
use Rattle.theory.specs.Below.outcomes.specs.Leaving.{Did, ◌leaving◌}
use Rattle.theory.specs.Below.items.specs.Places as places
use Rattle.theory.specs.Below.items.specs.Items as items
use Rattle.theory.specs.Below.words.specs.Sums.{sum32}
use Rattle.theory.specs.Below.items.specs.Items.{read_on, opened_one, with_top, atom_due, head_due, closing_due}
use Rattle.theory.specs.Below.patterns.specs.Patterns as walk
use Rattle.theory.specs.Below.variables.specs.Variables.{Areas}
use Rattle.theory.specs.Below.leaves.specs.Leaves.{compound_head}
use Rattle.theory.specs.Below.patterns.specs.Patterns.{arguments_from}
use Rattle.theory.specs.Below.items.specs.declared.Walk.{Walk}
use Rattle.theory.specs.Below.outcomes.specs.Simulation.{Simulates, refuse, leave, bind, test, tested_aside, after}
use Rattle.theory_laws.specs.Reading.{Reads, weight, Shallow, shallow_leaf, shallow_list, Shallows, shallow_more}
use Rattle.theory_laws.specs.Representation.{Entries, SortAt, SortsAt, one_sort, sort_output, symbol_at_lem, flat_symbol, Flats, no_flats, one_flat}
use Rattle.theory_laws.proofs.Items.{AtomMet, atom_met, ListMet, list_met, ClosingMet, closing_met}
use Rattle.theory_laws.proofs.Frames.{Keeps, keeps_all, keeps_then, keeps_set, grown_none, sorts_kept, symbol_kept}
use Rattle.theory_laws.proofs.Ready.{Ready, Reached, PatternRead, push_ready, ready_on, reached_then, flat_then}
use Rattle.theory_laws.proofs.Leaves.{Applied, applied_at, applied_law, leaf_law, less_credit, symbol_word, low_top, top_rises, top_after}

pub alone : (xs : Sexps) → eqb (suc (count xs)) 1 ≡ is_zero (count xs)
unfolding count is_zero
alone []ₛ = refl
alone (x ∷ₛ xs) = ne_eqb (suc (suc (count xs))) 1 (λ e. omega arith)

module _ (text counted : List ℕ) (Before : Reader → Stream Token → Type 0) (reads : Reads text Before) (short : length text ≤ 8192)
    (th : Theory) (es : Entries) (base spare : ℕ) where
  abbrev pub Was : ℕ → Stream Token → List ℕ → List Variable → Walk → List ℕ → List ℕ → Type 0
  Was = Ready text counted Before th es base spare

  abbrev pub HasRead : Stream Token → List ℕ → List Variable → ℕ → List ℕ → Walk → Areas → Pattern × List Variable → Type 0
  HasRead = PatternRead text counted Before th es base spare

  -- After a token.
  pub after_atom : {bytes : List ℕ} {ts : Stream Token} {ks : List ℕ} {vs : List Variable} {w : Walk} {vars heap : List ℕ}
      → Was 0 (atom bytes ▹ ts) ks vs w vars heap
      → (m : AtomMet text counted Before reads bytes ts ks w)
      → Was (4 * suc (length bytes)) ts ks vs (read_on w m.next) vars heap
  unfolding weight
  after_atom r m = ready_on text counted Before th es base spare r m.walks refl refl (omega arith)

  pub after_opening : {k : ℕ} {ts : Stream Token} {ks : List ℕ} {vs : List Variable} {w : Walk} {vars heap : List ℕ}
      → Was 0 (opening ▹ ts) (k ∷ ks) vs w vars heap
      → (m : ListMet text counted Before reads k ts ks w)
      → Was 0 ts ks vs (opened_one w m.next) vars heap
  unfolding weight
  after_opening r m = ready_on text counted Before th es base spare r m.walks refl refl (omega arith)

  pub after_closing : {ts : Stream Token} {ks : List ℕ} {vs : List Variable} {w : Walk} {vars heap : List ℕ}
      → Was 0 (closing ▹ ts) ks vs w vars heap
      → (m : ClosingMet text counted Before reads ts ks w)
      → Was 0 ts ks vs (read_on w m.next) vars heap
  unfolding weight
  after_closing r m = ready_on text counted Before th es base spare r m.walks refl refl (omega arith)

  -- What reading arguments leaves.
  pub record ArgumentsRead (ts : Stream Token) (ks : List ℕ) (vs : List Variable) (from : ℕ) (heap : List ℕ) (q : Walk) (areas : Areas)
      (r : Patterns × List Variable) : Type 0 where
    pub reached : Reached text counted Before th es base spare ts ks vs from heap q areas r.1
    pub flats : Flats areas.1 es base (base + places.patterns) q.top r.1 from r.0 q.top

  -- No argument is left: the closing.
  no_arguments : {ts : Stream Token} {ks : List ℕ} {vs : List Variable} {w : Walk} {vars heap : List ℕ}
      → Was 0 (closing ▹ ts) ks vs w vars heap
      → Simulates (ArgumentsRead ts ks vs w.top heap) (closing_due text w leaving (vars, heap)) (ok ([]ₚ, vs))
  no_arguments {ts} {ks} {w} {vars} {heap} r =
      let m = closing_met text counted Before reads r.walks in
      rw m.met
      (leave record {
        reached = record { ready = after_closing r m; keeps = keeps_all; rises = omega arith; more = λ v x n. n };
        flats = no_flats;
      })

  -- One argument and the others.
  more_arguments : {ts us : Stream Token} {ks ls : List ℕ} {vs : List Variable} {w : Walk} {vars heap : List ℕ}
      (read : ℕ → Walk → List ℕ → List ℕ → Did Areas Walk) (n c k : ℕ) (p : definition.Read Pattern) (ps : List Variable → definition.Read Patterns)
      → Simulates (HasRead us ls vs w.top heap) (read (get_or heap (c + places.inputs + k) 0) w vars heap) p
      → ((q : Walk) (vars' heap' : List ℕ) (vs' : List Variable) → Was 0 us ls vs' q vars' heap' → Keeps w.top heap heap'
      → Simulates (ArgumentsRead ts ks vs' q.top heap') (arguments_from read n text c (k + 1) q vars' heap') (ps vs'))
      → Simulates (ArgumentsRead ts ks vs w.top heap) (arguments_from read (suc n) text c k w vars heap)
      (p >>= λ (x, us). ps us >>= λ (xs, ws). ok (x ∷ₚ xs, ws))
  unfolding arguments_from
  more_arguments {ts} {us} {ks} {ls} {vs} {w} {vars} {heap} read n c k p ps h more =
      bind _ _ h (λ q areas x y. by q areas x y (more q areas.0 areas.1 x.1 y.reached.ready y.reached.keeps)) where
        join : {q q' : Walk} {areas areas' : Areas} {x : Pattern × List Variable} {xs : Patterns × List Variable}
            → HasRead us ls vs w.top heap q areas x
            → ArgumentsRead ts ks x.1 q.top areas.1 q' areas' xs
            → ArgumentsRead ts ks vs w.top heap q' areas' (x.0 ∷ₚ xs.0, xs.1)
        join y z =
            record {
              reached = reached_then text counted Before th es base spare y.reached z.reached;
              flats = one_flat (flat_then text counted Before th es base spare y.reached z.reached y.flat) z.flats;
            }

        by : (q : Walk) (areas : Areas) (x : Pattern × List Variable) (y : HasRead us ls vs w.top heap q areas x)
            → Simulates (ArgumentsRead ts ks x.1 q.top areas.1) (arguments_from read n text c (k + 1) q areas.0 areas.1) (ps x.1)
            → Simulates (ArgumentsRead ts ks vs w.top heap) (arguments_from read n text c (k + 1) q areas.0 areas.1)
            (ps x.1 >>= λ (xs, ws). ok (x.0 ∷ₚ xs, ws))
        by q areas x y s = after (λ z. (x.0 ∷ₚ z.0, z.1)) s (λ q' areas' xs z. join y z)

  -- The statements, by a nested list.
  abbrev PatternLaw : ℕ → Sexp → Type 0
  PatternLaw left x =
      (sort_name : Name) (a : ℕ) (ts : Stream Token) (ks : List ℕ) (vs : List Variable) (w : Walk) (vars heap : List ℕ)
      → SortAt es a sort_name
      → Was 0 (flat_one x ts) (counts_one x ks) vs w vars heap
      → Simulates (HasRead ts ks vs w.top heap) (walk.pattern left text counted a w vars heap) (definition.pattern th x sort_name vs)

  abbrev CompoundLaw : ℕ → Sexps → Type 0
  CompoundLaw left xs =
      (sort_name : Name) (a : ℕ) (ts : Stream Token) (ks : List ℕ) (vs : List Variable) (w : Walk) (vars heap : List ℕ)
      → SortAt es a sort_name
      → Was 0 (flat xs (closing ▹ ts)) (counts_all xs ks) vs w vars heap
      → Simulates (HasRead ts ks vs w.top heap) (walk.pattern_of (walk.pattern left text counted) text counted a (items.list (count xs) w) vars heap)
      (definition.compound_pattern th xs sort_name vs)

  abbrev pub ArgumentsLaw : ℕ → Sexps → Type 0
  ArgumentsLaw left xs =
      (ins : List Name) (o c k : ℕ) (ts : Stream Token) (ks : List ℕ) (vs : List Variable) (w : Walk) (vars heap : List ℕ)
      → o ≡ c + places.inputs + k
      → count xs ≡ length ins
      → places.entries ≤ o
      → o + length ins ≤ base
      → SortsAt heap es o ins
      → Was 0 (flat xs (closing ▹ ts)) (counts_all xs ks) vs w vars heap
      → Simulates (ArgumentsRead ts ks vs w.top heap) (arguments_from (walk.pattern left text counted) (length ins) text c k w vars heap)
      (definition.patterns th xs ins vs)

  -- A head that is an atom.
  pub head_met : {bytes : List ℕ} {ts : Stream Token} {ks : List ℕ} {w : Walk} (n : ℕ) (m : AtomMet text counted Before reads bytes ts ks w)
      → head_due text counted (suc n) w ≡ outcomes.ok (m.s, m.t, read_on w m.next)
  unfolding head_due atom_due
  head_met n m = rw (ne_eqb (suc n) 0 (λ e. omega arith), m.met)

  pub head_list : {k : ℕ} {ts : Stream Token} {ks : List ℕ} {w : Walk} (n : ℕ) (m : ListMet text counted Before reads k ts ks w)
      → head_due text counted (suc n) w ≡ outcomes.refused 7
  unfolding head_due atom_due
  head_list n m = rw (ne_eqb (suc n) 0 (λ e. omega arith), m.met)

  fits_count : (name : Name) (ins : List Name) (out expected : Output) (n : ℕ) → fits (symbol name ins out) expected n ≡ true → n ≡ length ins
  unfolding fits
  fits_count name ins out expected n e = sym (eqb-true (length ins) n (both (same_output out expected) (eqb (length ins) n) e).1)

  -- A symbol put before its arguments.
  pub applied_arguments : {ts us : Stream Token} {ks ls : List ℕ} {vs : List Variable} {w : Walk} {vars heap : List ℕ} (left : ℕ) (xs : Sexps)
      (expected : Output)
      → ArgumentsLaw left xs
      → us ≡ flat xs (closing ▹ ts)
      → ls ≡ counts_all xs ks
      → Was 3 us ls vs w vars heap
      → (x : ℕ × Walk) (heap' : List ℕ) (c : Symbol)
      → Applied text counted Before th es base spare us ls vs w vars heap expected (count xs) x heap' c
      → Simulates (HasRead ts ks vs w.top heap)
      (arguments_from (walk.pattern left text counted) (get_or heap' (x.0 + places.arity) 0) text x.0 0 x.1 vars heap')
      (definition.patterns th xs (inputs c) vs >>= λ (ps, ws). ok (app c ps, ws))
  unfolding inputs
  applied_arguments {ts} {us} {ks} {ls} {vs} {w} {vars} {heap} left xs expected law p q r x heap' c (applied_at {e} (symbol_at_lem {name} {ins} {out} y) f z) =
      rw (z, arity) (after (λ v. (app (symbol name ins out) v.0, v.1)) arguments (λ q' areas v k. join k)) where
        new : List ℕ
        new = set heap w.top e

        kept : Keeps w.top heap new
        kept = keeps_set w.top heap w.top e (omega arith)

        arity : get_or new (e + places.arity) 0 ≡ length ins
        arity = let u = r.above in let h = y.high in kept.words (e + places.arity) (omega arith) ∙ y.arity

        ready : Was 0 (flat xs (closing ▹ ts)) (counts_all xs ks) vs (with_top w (sum32 w.top 1)) vars new
        ready =
            subst (λ (s : Stream Token). Was 0 s (counts_all xs ks) vs (with_top w (sum32 w.top 1)) vars new) p
            (subst (λ (s : List ℕ). Was 0 us s vs (with_top w (sum32 w.top 1)) vars new) q (push_ready text counted Before th es base spare e r))

        arguments : Simulates (ArgumentsRead ts ks vs (sum32 w.top 1) new)
            (arguments_from (walk.pattern left text counted) (length ins) text e 0 (with_top w (sum32 w.top 1)) vars new)
            (definition.patterns th xs ins vs)
        arguments =
            let u = r.above in
            let h = y.high in
            let l = y.low in
            law ins (e + places.inputs) e 0 ts ks vs (with_top w (sum32 w.top 1)) vars new (omega arith) (fits_count name ins out expected (count xs) f)
            (omega arith) (omega arith)
            (sorts_kept grown_none base (λ i g k. kept.words i (omega arith)) (omega arith) y.takes)
            ready

        join : {q' : Walk} {areas : Areas} {v : Patterns × List Variable} → ArgumentsRead ts ks vs (sum32 w.top 1) new q' areas v
            → HasRead ts ks vs w.top heap q' areas (app (symbol name ins out) v.0, v.1)
        join {q'} {areas} {v} k =
            let t = top_rises text counted Before th es base spare r e in
            let a = k.reached.rises in
            let u = r.above in
            record {
              reached = record {
                ready = k.reached.ready;
                keeps = keeps_then (omega arith) kept k.reached.keeps;
                rises = omega arith;
                more = k.reached.more;
              };
              flat =
                  flat_symbol {o = w.top} {o' = q'.top} {c = symbol name ins out} {ps = v.0} (low_top text counted Before th es base spare r e) (omega arith)
                  (rw (k.reached.keeps.words w.top t)
                  (symbol_kept grown_none (λ i g h. k.reached.keeps.words i (omega arith)) (omega arith)
                  (symbol_word text counted Before th es base spare r e (symbol_at_lem y))))
                  (rw (← top_after text counted Before th es base spare r) k.flats);
            }

  -- A list whose head is an atom.
  compound_head_lem : {ts : Stream Token} {ks : List ℕ} {vs : List Variable} {w : Walk} {vars heap : List ℕ} (name sort_name : Name) (a : ℕ) (xs : Sexps)
      (met : AtomMet text counted Before reads name ts ks w)
      → SortAt es a sort_name
      → Was 3 ts ks vs (read_on w met.next) vars heap
      → Simulates (Applied text counted Before th es base spare ts ks vs (read_on w met.next) vars heap (sort sort_name) (count xs))
      (compound_head text counted a (suc (count xs)) w heap)
      (need (not (is_zero (count xs))) bracketed_constant >>= λ _. definition.constructor th name >>= λ c. need (fits c (sort sort_name) (count xs)) sort_arity
      >>= λ _. ok c)
  unfolding compound_head definition.constructor number
  compound_head_lem name sort_name a xs met m r =
      rw (head_met (count xs) met)
      (test (not (eqb (suc (count xs)) 1)) 16 bracketed_constant _ _ (ap not (alone xs)) refl
      (λ _. applied_law text counted Before th es base spare places.constructors is_constructor name met.s met.t a (suc (count xs)) (count xs)
      (sort sort_name) r
      r.holds.constructors met.name refl (sort_output m)))

  compound_atom : (left : ℕ) (name : Name) (xs : Sexps) → ArgumentsLaw left xs → CompoundLaw left (leaf name ∷ₛ xs)
  unfolding definition.compound_pattern definition.atom_due flat counts_all count ◌>>=◌
  compound_atom left name xs law sort_name a ts ks vs w vars heap m r =
      tested_aside vars (not (is_zero (count xs))) bracketed_constant (definition.constructor th name) (λ c. fits c (sort sort_name) (count xs)) sort_arity _ _
      (compound_head_lem name sort_name a xs met m ready)
      (applied_arguments left xs (sort sort_name) law refl refl ready) where
        met : AtomMet text counted Before reads name (flat xs (closing ▹ ts)) (counts_all xs ks) w
        met = atom_met text counted Before reads r.walks

        ready : Was 3 (flat xs (closing ▹ ts)) (counts_all xs ks) vs (read_on w met.next) vars heap
        ready = less_credit text counted Before th es base spare (after_atom r met) 3 (omega arith)

  compound_list : (left : ℕ) (ys xs : Sexps) → CompoundLaw left (list ys ∷ₛ xs)
  unfolding definition.compound_pattern definition.atom_due flat counts_all count ◌>>=◌ compound_head number
  compound_list left ys xs sort_name a ts ks vs w vars heap m r =
      rw (head_list (count xs) (list_met text counted Before reads r.walks)) (refuse refl)

  compound_none : (left : ℕ) → CompoundLaw left []ₛ
  unfolding definition.compound_pattern count compound_head head_due number
  compound_none left sort_name a ts ks vs w vars heap m r = refuse refl

  -- An atom, and a list.
  pattern_atom : (left d : ℕ) (bytes : List ℕ) → left ≡ suc d → PatternLaw left (leaf bytes)
  unfolding walk.pattern flat_one counts_one
  pattern_atom left d bytes e sort_name a ts ks vs w vars heap m r =
      let met = atom_met text counted Before reads r.walks in
      rw (e, met.met)
      (leaf_law text counted Before th es base spare bytes sort_name met.s met.t a short (after_atom r met) met.name met.some_byte met.inside m)

  pattern_list : (left d : ℕ) (xs : Sexps) → left ≡ suc d → CompoundLaw d xs → PatternLaw left (list xs)
  unfolding walk.pattern flat_one counts_one definition.pattern
  pattern_list left d xs e law sort_name a ts ks vs w vars heap m r =
      let met = list_met text counted Before reads r.walks in
      rw (e, met.met) (law sort_name a ts ks vs (opened_one w met.next) vars heap m (after_opening r met))

  arguments_none : (left : ℕ) → ArgumentsLaw left []ₛ
  unfolding arguments_from flat counts_all definition.patterns count
  arguments_none left [] o c k ts ks vs w vars heap e n l h s r = no_arguments r
  arguments_none left (x ∷ ins) o c k ts ks vs w vars heap e n l h s r = absurd (omega arith)

  arguments_more : (left : ℕ) (x : Sexp) (xs : Sexps) → PatternLaw left x → ArgumentsLaw left xs → ArgumentsLaw left (x ∷ₛ xs)
  unfolding flat counts_all definition.patterns count
  arguments_more left x xs one law [] o c k ts ks vs w vars heap e n l h s r = absurd (omega arith)
  arguments_more left x xs one law (i ∷ ins) o c k ts ks vs w vars heap e n l h (one_sort a s) r =
      more_arguments (walk.pattern left text counted) (length ins) c k (definition.pattern th x i vs) (λ us. definition.patterns th xs ins us)
      (one i (get_or heap (c + places.inputs + k) 0) (flat xs (closing ▹ ts)) (counts_all xs ks) vs w vars heap (rw (← e) a) r)
      (λ q vars' heap' vs' r' kept.
      let u = r.above in
      law ins (o + 1) c (k + 1) ts ks vs' q vars' heap' (omega arith) (omega arith) (omega arith) (omega arith)
      (sorts_kept grown_none base (λ j g f. kept.words j (omega arith)) (omega arith) s)
      r')

  -- By induction on the nested list.
  mutual
    pub pattern_law : (x : Sexp) (left : ℕ) → Shallow left x → PatternLaw left x
    pattern_law (leaf bytes) left (shallow_leaf {d} e) = pattern_atom left d bytes e
    pattern_law (list xs) left (shallow_list {d} e s) = pattern_list left d xs e (compound_law xs d s)

    compound_law : (xs : Sexps) (left : ℕ) → Shallows left xs → CompoundLaw left xs
    compound_law []ₛ left s = compound_none left
    compound_law (leaf name ∷ₛ xs) left (shallow_more h s) = compound_atom left name xs (arguments_law xs left s)
    compound_law (list ys ∷ₛ xs) left (shallow_more h s) = compound_list left ys xs

    pub arguments_law : (xs : Sexps) (left : ℕ) → Shallows left xs → ArgumentsLaw left xs
    arguments_law []ₛ left s = arguments_none left
    arguments_law (x ∷ₛ xs) left (shallow_more h s) = arguments_more left x xs (pattern_law x left h) (arguments_law xs left s)
