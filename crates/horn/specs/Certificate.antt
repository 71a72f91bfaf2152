-- "Goals, steps, results" in document 01, its third part: the forms of a certificate.
use Rattle.std.specs.Prelude.{ℕ, Bool, true, false, not, ◌&&◌, List, [], ◌∷◌, ◌++◌, eqb, length}
use Rattle.std.proofs.Math.Option.{Option, none, some}
use Rattle.std.proofs.Math.ListN.{get_elem?}
use Rattle.horn.specs.Refusals.{Result, ok, refused, need, found, ◌>>=◌ as ◌>>=ᵣ◌}
use Rattle.horn.specs.Refusals.{not_utf8, text_ends, stray_closing, form, variable_name, unknown, duplicate, step_order}
use Rattle.horn.specs.Refusals.{reference_count, bad_binding, second_conclusion, bad_conclusion, no_such_step, other_judgment, goal_open}
use Rattle.horn.specs.Setting.{Setting}
use Rattle.horn.specs.Names.{Name, named, codes, questioned, bare, first, is_zero, some_of}
use Rattle.horn.specs.Tokens.{tokens}
use Rattle.horn.specs.NestedLists.{Item, Items, closed, ended, bad_line, ◌then◌, items, asked_at, absent}
use Rattle.horn.specs.Rulebook.{is_variable, sort_of, Rule, variables_of, premises_of, conclusion_of, Theory, rule_named}
use Rattle.horn.specs.StoredTerms.{Term, same_term}
use Rattle.horn.specs.Checker.{Reading, ◌>>=◌, give, lift, group_due, ask_word, ask_group, ask_number, number_due, closing_due}
use Rattle.horn.specs.Checker.{Def, def, is_def, Goal, is_goal, goal_judgment, has_sort, ask_term, headed_judgment}
use Rattle.horn.specs.Matching.{Step, step, judgment_of, Bind, bind, lookup, match, match_premises, build}

-- A result that was not refused: its goal's name, and the number of its step.
pub data Witness : Type 0 where
  witness : Name → ℕ → Witness

-- What the forms so far have come to: the abbreviations, the goals still open, the steps and the results, each in the order of the forms.
pub record Progress : Type 0 where
  pub defs : List Def
  pub open_goals : List Goal
  pub steps : List Step
  pub results : List Witness

-- Before the first form.
abbrev pub begun : List Goal → Progress
begun goals = record { defs = []; open_goals = goals; steps = []; results = [] }

-- With one abbreviation more.
abbrev pub with_def : Progress → Def → Progress
with_def now d = record { defs = now.defs ++ (d ∷ []); open_goals = now.open_goals; steps = now.steps; results = now.results }

-- With one step more.
abbrev pub with_step : Progress → Step → Progress
with_step now s = record { defs = now.defs; open_goals = now.open_goals; steps = now.steps ++ (s ∷ []); results = now.results }

-- What the items of a step have given: bindings, and the conclusion, if one is stated.
pub data Given : Type 0 where
  given : List Bind → Option Term → Given

-- "List of references, each 18".
unfoldable pub references : Items → Result (List ℕ)
references closed = ok []
references bad_line = refused not_utf8
references ended = absent 2 text_ends
references (item then rest) =
    asked_at 2 >>=ᵣ λ _.
    number_due item >>=ᵣ λ n.
    references rest >>=ᵣ λ ns.
    ok (n ∷ ns)

-- "Bound already": whether a variable is.
unfoldable pub is_bound : Name → List Bind → Bool
is_bound name binds = elim (lookup name binds) [ none ↦ false | some t ↦ true ]

-- Whether a conclusion was stated.
unfoldable pub is_stated : Option Term → Bool
is_stated none = false
is_stated (some j) = true

-- "A goal still open": those of a list that are so once the goal of a name has its result.
unfoldable pub without : Name → List Goal → List Goal
without name [] = []
without name (g ∷ gs) = elim (is_goal name g) [ true ↦ without name gs | false ↦ g ∷ without name gs ]

-- With the result of a goal, which then is open no longer.
abbrev pub with_result : Progress → Name → ℕ → Progress
with_result now name n =
    record {
      defs = now.defs;
      open_goals = without name now.open_goals;
      steps = now.steps;
      results = now.results ++ (witness name n ∷ []);
    }

-- The heads of the three forms of a certificate, and any other head.
pub data FormWord : Type 0 where
  step_word result_word def_word other_form : FormWord

-- Which of these heads a name is.
unfoldable pub form_word : Name → FormWord
form_word name =
    elim (named name (codes "step")) [
      | true ↦ step_word
      | false ↦ elim (named name (codes "result")) [
        | true ↦ result_word
        | false ↦ elim (named name (codes "def")) [ true ↦ def_word | false ↦ other_form ]
      ]
    ]

module _ (limits : Setting) (th : Theory) where
  -- "`(def ?a T)`: name without `?`, or `?` alone, 11; T; duplicate 13; closing."
  unfoldable pub def_form : Progress → Items → Reading Progress
  def_form now is = do
    (name, is₁) ← lift (ask_word 1 is)
    _ ← lift (need (questioned name && not (bare name)) variable_name)
    (t, is₂) ← ask_term limits th now.defs 1 is₁
    _ ← lift (need (not (some_of (is_def name) now.defs)) duplicate)
    _ ← lift (closing_due is₂)
    give (with_def now (def name t))

  -- "`(result N I)`: N not a goal still open, 12; I as a number, 18; no such step yet, 24; other judgment, 27; closing."
  unfoldable pub result_form : Progress → Items → Reading Progress
  result_form now is = do
    (name, is₁) ← lift (ask_word 1 is)
    g ← lift (found (first (is_goal name) now.open_goals) unknown)
    (n, is₂) ← lift (ask_number 1 is₁)
    s ← lift (found (get_elem? now.steps n) no_such_step)
    _ ← lift (need (same_term (judgment_of s) (goal_judgment g)) other_judgment)
    _ ← lift (closing_due is₂)
    give (with_result now name n)

  -- "`(?v T)`: unknown v 12, T, closing 10, bound already or wrong sort 21."
  unfoldable pub binding_item : List Def → Rule → Name → Items → Given → Reading Given
  binding_item defs r name is (given binds stated) = do
    v ← lift (found (first (is_variable name) (variables_of r)) unknown)
    (t, is₁) ← ask_term limits th defs 2 is
    _ ← lift (closing_due is₁)
    _ ← lift (need (not (is_bound name binds) && has_sort (sort_of v) t) bad_binding)
    give (given (binds ++ (bind name t ∷ [])) stated)

  -- "Otherwise a judgment; a second, once read, is 22."
  unfoldable pub conclusion_item : List Def → Name → Items → Given → Reading Given
  conclusion_item defs name is (given binds stated) = do
    j ← headed_judgment limits th defs 2 name is
    _ ← lift (need (not (is_stated stated)) second_conclusion)
    give (given binds (some j))

  -- "An item is a list with an atom head; after 4, 5 and 6, an answer that is no atom there is refused 7."
  unfoldable pub step_item : List Def → Rule → Item → Given → Reading Given
  step_item defs r item so_far = do
    inner ← lift (group_due item)
    (name, is) ← lift (ask_word 2 inner)
    elim (questioned name) [
      | true ↦ binding_item defs r name is so_far
      | false ↦ conclusion_item defs name is so_far
    ]

  -- "Item...", asked for until a closing is next.
  unfoldable pub step_items : List Def → Rule → Items → Given → Reading Given
  step_items defs r closed so_far = give so_far
  step_items defs r bad_line so_far = lift (refused not_utf8)
  step_items defs r ended so_far = lift (absent 1 text_ends)
  step_items defs r (item then rest) so_far = do
    _ ← lift (asked_at 1)
    more ← step_item defs r item so_far
    step_items defs r rest more

  -- "Matching: the stated conclusion (23); for each premise in order, no earlier step 24, mismatch 25; with none stated
  -- the conclusion is built".
  unfoldable pub conclude : List Step → Rule → List ℕ → Given → Reading Term
  conclude steps r refs (given binds (some j)) = do
    more ← lift (found (match (conclusion_of r) j binds) bad_conclusion)
    _ ← lift (match_premises steps (premises_of r) refs more)
    give j
  conclude steps r refs (given binds none) = do
    more ← lift (match_premises steps (premises_of r) refs binds)
    build limits more (conclusion_of r)

  -- "`(step I R (I...) item...)`: I (18), not the number of steps so far 19; R 12; list of references, each 18; their
  -- count 20; items; matching; closing." The items end only where their closing is next.
  unfoldable pub step_form : Progress → Items → Reading Progress
  step_form now is = do
    (n, is₁) ← lift (ask_number 1 is)
    _ ← lift (need (eqb n (length now.steps)) step_order)
    (name, is₂) ← lift (ask_word 1 is₁)
    r ← lift (rule_named th name)
    (inner, is₃) ← lift (ask_group 1 is₂)
    refs ← lift (references inner)
    _ ← lift (need (eqb (length refs) (length (premises_of r))) reference_count)
    g ← step_items now.defs r is₃ (given [] none)
    j ← conclude now.steps r refs g
    give (with_step now (step j r refs))

  -- "Another head is 9."
  unfoldable pub headed_form : FormWord → Progress → Items → Reading Progress
  headed_form step_word now is = step_form now is
  headed_form result_word now is = result_form now is
  headed_form def_word now is = def_form now is
  headed_form other_form now is = lift (refused form)

  -- One form: its opening, its head, its members.
  unfoldable pub certificate_form : Progress → Item → Reading Progress
  certificate_form now item = do
    inner ← lift (group_due item)
    (head, is) ← lift (ask_word 1 inner)
    headed_form (form_word head) now is

  -- All forms, in order.
  unfoldable pub certificate_forms : Progress → Items → Reading Progress
  certificate_forms now ended = give now
  certificate_forms now bad_line = lift (refused not_utf8)
  certificate_forms now closed = lift (refused stray_closing)
  certificate_forms now (item then rest) = do
    next ← certificate_form now item
    certificate_forms next rest

  -- The certificate, for the goals that are open before it. "At the end an open goal is 29."
  unfoldable pub certificate_of : List Goal → List ℕ → Reading Progress
  certificate_of goals text = do
    final ← certificate_forms (begun goals) (items (tokens text))
    _ ← lift (need (is_zero (length final.open_goals)) goal_open)
    give final
