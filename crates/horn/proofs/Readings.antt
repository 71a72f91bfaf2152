-- All reading of goals and certificate is put together of giving, lifting and storing: nothing else touches the store, and all
-- refusals that it gives are 3 to 29.
use Prim.Native.Nat.{ℕ, suc, ◌≤◌}
use mathlib.Core.Bool.{Bool}
use mathlib.Core.List.{List, []}
use mathlib.Core.Option.{none, some}
use native.Mathlib.Omega.{arith}
use Rattle.horn.specs.Refusals.{Refusal, number, Result, need}
use Rattle.horn.specs.Setting.{Setting}
use Rattle.horn.specs.Tokens.{tokens}
use Rattle.horn.specs.NestedLists.{Item, word, group, Items, closed, ended, bad_line, ◌then◌, items}
use Rattle.horn.specs.Names.{Name, questioned}
use Rattle.horn.specs.Rulebook.{Symbol, Pattern, var, app, Patterns, []ₚ, ◌∷ₚ◌, Rule, Theory}
use Rattle.horn.specs.StoredTerms.{Term, Terms, Store}
use Rattle.horn.specs.Checker
use Rattle.horn.specs.Checker.{Reading, ◌>>=◌, give, lift, stored, Def, Goal}
use Rattle.horn.specs.Matching
use Rattle.horn.specs.Matching.{Step, Bind}
use Rattle.horn.specs.Certificate
use Rattle.horn.specs.Certificate.{Progress, begun, Given, given, FormWord, step_word, result_word, def_word, other_form, form_word}
use Rattle.horn.specs.Arising.{Made, made_give, made_lift, made_stored, made_after}
use Rattle.horn.proofs.Post.{either}
use Rattle.horn.proofs.Refusing.{refuses_none, refuses, refuses_bind, refuses_need, refuses_found}
use Rattle.horn.proofs.Later.{Later, later_absent, later_asked, later_word, later_group, later_ask, later_ask_word, later_ask_group}
use Rattle.horn.proofs.Later.{later_ask_number, later_closing, later_constructor, later_predicate, later_rule, later_references}
use Rattle.horn.proofs.Later.{later_premises, later_request}

module _ (limits : Setting) where
  -- How a reading is put together, as `Made` says it, where each result that does not touch the store gives only refusals 3 to 29.
  pub data ReadsOf : (A : Type 0) → Reading A → Type 1 where
    reads_give : {A : Type 0} (a : A) → ReadsOf A (give a)
    reads_lift : {A : Type 0} {r : Result A} → Later r → ReadsOf A (lift r)
    reads_stored : (t : Term) → ReadsOf Term (stored limits t)
    reads_after : {A B : Type 0} {m : Reading A} {f : A → Reading B} → ReadsOf A m → ((a : A) → ReadsOf B (f a)) → ReadsOf B (m >>= f)

  abbrev pub Reads : {A : Type 0} → Reading A → Type 1
  Reads {A} m = ReadsOf A m

  unfoldable pub reads_made : {A : Type 0} {m : Reading A} → Reads m → Made limits A m
  reads_made (reads_give a) = made_give a
  reads_made (reads_lift {r = r} h) = made_lift r
  reads_made (reads_stored t) = made_stored t
  reads_made (reads_after p k) = made_after (reads_made p) (λ a. reads_made (k a))

  pub reads_later : {A : Type 0} {m : Reading A} → Reads m → (store : Store) → Later (m store)
  unfolding give lift stored ◌>>=◌
  reads_later (reads_give a) store = refuses_none
  reads_later (reads_lift h) store = refuses_bind _ h λ a. refuses_none
  reads_later (reads_stored t) store = refuses_bind _ (later_request limits t store) λ _. refuses_none
  reads_later (reads_after p k) store = refuses_bind _ (reads_later p store) λ q. reads_later (k q.0) q.1

  reads_bind : {A B : Type 0} {m : Reading A} (f : A → Reading B) → Reads m → ((a : A) → Reads (f a)) → Reads (m >>= f)
  reads_bind f p k = reads_after p k

  reads_then : {A B : Type 0} {r : Result A} (f : A → Reading B) → Later r → ((a : A) → Reads (f a)) → Reads (lift r >>= f)
  reads_then f h k = reads_after (reads_lift h) k

  pub reads_need : {B : Type 0} (b : Bool) (f : Unit {0} → Reading B) (r : Refusal) → (3 ≤ number r) × (number r ≤ 29) → ((u : Unit {0}) → Reads (f u))
      → Reads (lift (need b r) >>= f)
  reads_need b f r h k = reads_then f (refuses_need b r h) k

  reads_make : (c : Symbol) (ts : Terms) → Reads (Checker.make limits c ts)
  unfolding Checker.make number
  reads_make c ts = reads_need _ _ Refusal.sort_arity (omega arith) λ _. reads_stored _

  mutual
    unfolding Matching.build number

    reads_build : (binds : List Bind) (p : Pattern) → Reads (Matching.build limits binds p)
    reads_build binds (var name) = reads_lift (refuses_found _ Refusal.unbound (omega arith))
    reads_build binds (app c ps) = reads_bind _ (reads_builds binds ps) λ ts. reads_stored _

    reads_builds : (binds : List Bind) (ps : Patterns) → Reads (Matching.builds limits binds ps)
    reads_builds binds []ₚ = reads_give _
    reads_builds binds (p ∷ₚ ps) = reads_bind _ (reads_build binds p) λ t. reads_bind _ (reads_builds binds ps) λ ts. reads_give _

  module _ (th : Theory) where
    reads_atom : (defs : List Def) (name : Name) → Reads (Checker.atom_term limits th defs name)
    unfolding Checker.atom_term number
    reads_atom defs name =
        either Reads (questioned name)
        (reads_then _ (refuses_found _ Refusal.unknown (omega arith)) λ d. reads_give _)
        (reads_then _ (later_constructor th name) λ c. reads_make c _)

    mutual
      unfolding Checker.term number

      reads_term : (defs : List Def) (depth : ℕ) (item : Item) → Reads (Checker.term limits th defs depth item)
      reads_term defs depth (word name) = reads_atom defs name
      reads_term defs depth (group inner) = reads_compound defs (suc depth) inner

      reads_compound : (defs : List Def) (depth : ℕ) (is : Items) → Reads (Checker.compound_term limits th defs depth is)
      reads_compound defs depth closed = reads_lift (later_absent depth Refusal.stray_closing (omega arith))
      reads_compound defs depth ended = reads_lift (later_absent depth Refusal.text_ends (omega arith))
      reads_compound defs depth bad_line = reads_lift (later_absent depth Refusal.not_utf8 (omega arith))
      reads_compound defs depth (item then rest) =
          reads_then _ (later_asked depth) λ _.
          reads_then _ (later_word item) λ name.
          reads_then _ (later_constructor th name) λ c.
          reads_bind _ (reads_arguments defs depth rest) λ ts.
          reads_need _ _ Refusal.bracketed_constant (omega arith) λ _.
          reads_make c ts

      reads_arguments : (defs : List Def) (depth : ℕ) (is : Items) → Reads (Checker.arguments limits th defs depth is)
      reads_arguments defs depth closed = reads_give _
      reads_arguments defs depth bad_line = reads_lift (refuses Refusal.not_utf8 (omega arith))
      reads_arguments defs depth ended = reads_lift (later_absent depth Refusal.text_ends (omega arith))
      reads_arguments defs depth (item then rest) =
          reads_then _ (later_asked depth) λ _.
          reads_bind _ (reads_term defs depth item) λ t.
          reads_bind _ (reads_arguments defs depth rest) λ ts.
          reads_give _

    reads_ask_term : (defs : List Def) (depth : ℕ) (is : Items) → Reads (Checker.ask_term limits th defs depth is)
    unfolding Checker.ask_term
    reads_ask_term defs depth is = reads_then _ (later_ask depth is) λ p. reads_bind _ (reads_term defs depth p.0) λ t. reads_give _

    reads_headed : (defs : List Def) (depth : ℕ) (name : Name) (is : Items) → Reads (Checker.headed_judgment limits th defs depth name is)
    unfolding Checker.headed_judgment
    reads_headed defs depth name is = reads_then _ (later_predicate th name) λ p. reads_bind _ (reads_arguments defs depth is) λ ts. reads_make p ts

    reads_ask_judgment : (defs : List Def) (depth : ℕ) (is : Items) → Reads (Checker.ask_judgment limits th defs depth is)
    unfolding Checker.ask_judgment
    reads_ask_judgment defs depth is =
        reads_then _ (later_ask_group depth is) λ p.
        reads_then _ (later_ask_word (suc depth) p.0) λ q.
        reads_bind _ (reads_headed defs (suc depth) q.0 q.1) λ j.
        reads_give _

    reads_goal : (goals : List Goal) (item : Item) → Reads (Checker.goal_form limits th goals item)
    unfolding Checker.goal_form number
    reads_goal goals item =
        reads_then _ (later_group item) λ inner.
        reads_then _ (later_ask_word 1 inner) λ p.
        reads_need _ _ Refusal.form (omega arith) λ _.
        reads_then _ (later_ask_word 1 p.1) λ q.
        reads_need _ _ Refusal.variable_name (omega arith) λ _.
        reads_bind _ (reads_ask_judgment [] 1 q.1) λ j.
        reads_then _ (later_closing j.1) λ _.
        reads_need _ _ Refusal.duplicate (omega arith) λ _.
        reads_give _

    reads_goals : (goals : List Goal) (is : Items) → Reads (Checker.goal_forms limits th goals is)
    unfolding Checker.goal_forms number
    reads_goals goals ended = reads_give _
    reads_goals goals bad_line = reads_lift (refuses Refusal.not_utf8 (omega arith))
    reads_goals goals closed = reads_lift (refuses Refusal.stray_closing (omega arith))
    reads_goals goals (item then rest) = reads_bind _ (reads_goal goals item) λ more. reads_goals more rest

    pub reads_goals_of : (text : List ℕ) → Reads (Checker.goals_of limits th text)
    unfolding Checker.goals_of number
    reads_goals_of text = reads_bind _ (reads_goals [] (items (tokens text))) λ goals. reads_need _ _ Refusal.no_goal (omega arith) λ _. reads_give _

    reads_def : (now : Progress) (is : Items) → Reads (Certificate.def_form limits th now is)
    unfolding Certificate.def_form number
    reads_def now is =
        reads_then _ (later_ask_word 1 is) λ p.
        reads_need _ _ Refusal.variable_name (omega arith) λ _.
        reads_bind _ (reads_ask_term now.defs 1 p.1) λ q.
        reads_need _ _ Refusal.duplicate (omega arith) λ _.
        reads_then _ (later_closing q.1) λ _.
        reads_give _

    reads_result : (now : Progress) (is : Items) → Reads (Certificate.result_form limits th now is)
    unfolding Certificate.result_form number
    reads_result now is =
        reads_then _ (later_ask_word 1 is) λ p.
        reads_then _ (refuses_found _ Refusal.unknown (omega arith)) λ g.
        reads_then _ (later_ask_number 1 p.1) λ n.
        reads_then _ (refuses_found _ Refusal.no_such_step (omega arith)) λ s.
        reads_need _ _ Refusal.other_judgment (omega arith) λ _.
        reads_then _ (later_closing n.1) λ _.
        reads_give _

    reads_item : (defs : List Def) (r : Rule) (item : Item) (so_far : Given) → Reads (Certificate.step_item limits th defs r item so_far)
    unfolding Certificate.step_item Certificate.binding_item Certificate.conclusion_item number
    reads_item defs r item (given binds stated) =
        reads_then _ (later_group item) λ inner.
        reads_then _ (later_ask_word 2 inner) λ p.
        either Reads (questioned p.0)
        (reads_then _ (refuses_found _ Refusal.unknown (omega arith)) λ v.
        reads_bind _ (reads_ask_term defs 2 p.1) λ q.
        reads_then _ (later_closing q.1) λ _.
        reads_need _ _ Refusal.bad_binding (omega arith) λ _.
        reads_give _)
        (reads_bind _ (reads_headed defs 2 p.0 p.1) λ j.
        reads_need _ _ Refusal.second_conclusion (omega arith) λ _.
        reads_give _)

    reads_items : (defs : List Def) (r : Rule) (is : Items) (so_far : Given) → Reads (Certificate.step_items limits th defs r is so_far)
    unfolding Certificate.step_items number
    reads_items defs r closed so_far = reads_give _
    reads_items defs r bad_line so_far = reads_lift (refuses Refusal.not_utf8 (omega arith))
    reads_items defs r ended so_far = reads_lift (later_absent 1 Refusal.text_ends (omega arith))
    reads_items defs r (item then rest) so_far =
        reads_then _ (later_asked 1) λ _. reads_bind _ (reads_item defs r item so_far) λ more. reads_items defs r rest more

    reads_conclude : (steps : List Step) (r : Rule) (refs : List ℕ) (g : Given) → Reads (Certificate.conclude limits th steps r refs g)
    unfolding Certificate.conclude number
    reads_conclude steps r refs (given binds (some j)) =
        reads_then _ (refuses_found _ Refusal.bad_conclusion (omega arith)) λ more.
        reads_then _ (later_premises steps _ refs more) λ _.
        reads_give _
    reads_conclude steps r refs (given binds none) = reads_then _ (later_premises steps _ refs binds) λ more. reads_build more _

    reads_step : (now : Progress) (is : Items) → Reads (Certificate.step_form limits th now is)
    unfolding Certificate.step_form number
    reads_step now is =
        reads_then _ (later_ask_number 1 is) λ n.
        reads_need _ _ Refusal.step_order (omega arith) λ _.
        reads_then _ (later_ask_word 1 n.1) λ p.
        reads_then _ (later_rule th p.0) λ r.
        reads_then _ (later_ask_group 1 p.1) λ q.
        reads_then _ (later_references q.0) λ refs.
        reads_need _ _ Refusal.reference_count (omega arith) λ _.
        reads_bind _ (reads_items now.defs r q.1 _) λ g.
        reads_bind _ (reads_conclude now.steps r refs g) λ j.
        reads_give _

    reads_headed_form : (k : FormWord) (now : Progress) (is : Items) → Reads (Certificate.headed_form limits th k now is)
    unfolding Certificate.headed_form number
    reads_headed_form step_word now is = reads_step now is
    reads_headed_form result_word now is = reads_result now is
    reads_headed_form def_word now is = reads_def now is
    reads_headed_form other_form now is = reads_lift (refuses Refusal.form (omega arith))

    pub reads_form : (now : Progress) (item : Item) → Reads (Certificate.certificate_form limits th now item)
    unfolding Certificate.certificate_form
    reads_form now item = reads_then _ (later_group item) λ inner. reads_then _ (later_ask_word 1 inner) λ p. reads_headed_form (form_word p.0) now p.1

    unfoldable pub reads_forms : (now : Progress) (is : Items) → Reads (Certificate.certificate_forms limits th now is)
    unfolding Certificate.certificate_forms number
    reads_forms now ended = reads_give _
    reads_forms now bad_line = reads_lift (refuses Refusal.not_utf8 (omega arith))
    reads_forms now closed = reads_lift (refuses Refusal.stray_closing (omega arith))
    reads_forms now (item then rest) = reads_after (reads_form now item) λ next. reads_forms next rest

    unfoldable pub reads_certificate_of : (goals : List Goal) (text : List ℕ) → Reads (Certificate.certificate_of limits th goals text)
    unfolding Certificate.certificate_of number
    reads_certificate_of goals text =
        reads_after (reads_forms (begun goals) (items (tokens text))) λ final. reads_need _ _ Refusal.goal_open (omega arith) λ _. reads_give _

    -- Reading the goals and reading the certificate give only refusals 3 to 29.
    pub later_goals : (text : List ℕ) (store : Store) → Later (Checker.goals_of limits th text store)
    later_goals text = reads_later (reads_goals_of text)

    pub later_certificate : (goals : List Goal) (text : List ℕ) (store : Store) → Later (Certificate.certificate_of limits th goals text store)
    later_certificate goals text = reads_later (reads_certificate_of goals text)
