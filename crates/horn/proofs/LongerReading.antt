-- What is read, matched or built without a refusal under a theory is so under every theory that extends it, and comes to the same: the same
-- value, the same store, the same requests. Only look-ups of names ask for the theory.
use Prim.Native.Nat.{ℕ, suc}
use mathlib.Core.Path.{◌≡◌, ap, ◌∙◌}
use mathlib.Core.Bool.{Bool, true, false}
use mathlib.Core.List.{List, []}
use mathlib.Core.Option.{none, some}
use Rattle.horn.specs.Refusals.{Result, ok}
use Rattle.horn.specs.Setting.{Setting}
use Rattle.horn.specs.Names.{Name, questioned}
use Rattle.horn.specs.NestedLists.{Item, word, group, Items, closed, ended, bad_line, ◌then◌, items}
use Rattle.horn.specs.Tokens.{tokens}
use Rattle.horn.specs.Rulebook.{Rule, Theory}
use Rattle.horn.specs.StoredTerms.{Store}
use Rattle.horn.specs.Checker
use Rattle.horn.specs.Checker.{Reading, ◌>>=◌, lift, Def, Goal}
use Rattle.horn.specs.Matching.{Step}
use Rattle.horn.specs.Certificate
use Rattle.horn.specs.Certificate.{Progress, Given, given, FormWord, step_word, result_word, def_word, other_form}
use Rattle.horn.proofs.Inversion.{after, on, lifted, lift_on}
use Rattle.horn.proofs.LongerNames.{ExtendedBy, constructor_known, predicate_known, rule_known}

-- Where the first reading is not refused, the second comes to the same.
pub record Alike {A : Type 0} (m m' : Reading A) : Type 0 where
  pub alike : (s : Store) {a : A} {t : Store} → m s ≡ ok (a, t) → m' s ≡ ok (a, t)

same : {A : Type 0} (m : Reading A) → Alike m m
same m = record { alike = λ s e. e }

lifted_alike : {A : Type 0} (r r' : Result A) → ((a : A) → r ≡ ok a → r' ≡ ok a) → Alike (lift r) (lift r')
lifted_alike r r' h = record { alike = λ s {a} {t} e. lifted r e λ p q. lift_on s (h a p) ∙ ap (λ u. ok (a, u)) q }

then_alike : {A B : Type 0} {m m' : Reading A} {f f' : A → Reading B} → Alike m m' → ((a : A) → Alike (f a) (f' a)) → Alike (m >>= f) (m' >>= f')
then_alike {m} {m'} {f} {f'} h k =
    record { alike = λ s e. after m e λ a t e₁ e₂. on m' f' s (h.alike s e₁) ∙ (k a).alike t e₂ }

-- The same first part, whatever follows it.
same_then : {A B : Type 0} (m : Reading A) {f f' : A → Reading B} → ((a : A) → Alike (f a) (f' a)) → Alike (m >>= f) (m >>= f')
same_then m k = then_alike (same m) k

either_alike : {A : Type 0} (b : Bool) {x y x' y' : Reading A} → Alike x x' → Alike y y'
    → Alike {A = A} (elim b [ true ↦ x | false ↦ y ]) (elim b [ true ↦ x' | false ↦ y' ])
either_alike true p q = p
either_alike false p q = q

module _ (limits : Setting) {th later : Theory} (x : ExtendedBy th later) where
  -- Terms, judgments and goals.
  atom_alike : (defs : List Def) (name : Name) → Alike (Checker.atom_term limits th defs name) (Checker.atom_term limits later defs name)
  unfolding Checker.atom_term
  atom_alike defs name =
      either_alike (questioned name) (same _)
      (then_alike (lifted_alike _ _ (constructor_known x name)) (λ c. same _))

  mutual
    unfolding Checker.term

    term_alike : (item : Item) (defs : List Def) (depth : ℕ) → Alike (Checker.term limits th defs depth item) (Checker.term limits later defs depth item)
    term_alike (word name) defs depth = atom_alike defs name
    term_alike (group inner) defs depth = compound_alike inner defs (suc depth)

    compound_alike : (is : Items) (defs : List Def) (depth : ℕ)
        → Alike (Checker.compound_term limits th defs depth is) (Checker.compound_term limits later defs depth is)
    compound_alike closed defs depth = same _
    compound_alike ended defs depth = same _
    compound_alike bad_line defs depth = same _
    compound_alike (item then rest) defs depth =
        same_then _ λ u.
        same_then _ λ name.
        then_alike (lifted_alike _ _ (constructor_known x name)) λ c.
        then_alike (arguments_alike rest defs depth) λ ts.
        same _

    arguments_alike : (is : Items) (defs : List Def) (depth : ℕ)
        → Alike (Checker.arguments limits th defs depth is) (Checker.arguments limits later defs depth is)
    arguments_alike closed defs depth = same _
    arguments_alike bad_line defs depth = same _
    arguments_alike ended defs depth = same _
    arguments_alike (item then rest) defs depth =
        same_then _ λ u.
        then_alike (term_alike item defs depth) λ t.
        then_alike (arguments_alike rest defs depth) λ ts.
        same _

  asked_term_alike : (defs : List Def) (depth : ℕ) (is : Items) → Alike (Checker.ask_term limits th defs depth is) (Checker.ask_term limits later defs depth is)
  unfolding Checker.ask_term
  asked_term_alike defs depth is = same_then _ λ p. then_alike (term_alike p.0 defs depth) λ t. same _

  judgment_alike : (defs : List Def) (depth : ℕ) (name : Name) (rest : Items)
      → Alike (Checker.headed_judgment limits th defs depth name rest) (Checker.headed_judgment limits later defs depth name rest)
  unfolding Checker.headed_judgment
  judgment_alike defs depth name rest =
      then_alike (lifted_alike _ _ (predicate_known x name)) λ c.
      then_alike (arguments_alike rest defs depth) λ ts.
      same _

  asked_judgment_alike : (defs : List Def) (depth : ℕ) (is : Items)
      → Alike (Checker.ask_judgment limits th defs depth is) (Checker.ask_judgment limits later defs depth is)
  unfolding Checker.ask_judgment
  asked_judgment_alike defs depth is =
      same_then _ λ p. same_then _ λ q. then_alike (judgment_alike defs (suc depth) q.0 q.1) λ j. same _

  goal_alike : (goals : List Goal) (item : Item) → Alike (Checker.goal_form limits th goals item) (Checker.goal_form limits later goals item)
  unfolding Checker.goal_form
  goal_alike goals item =
      same_then _ λ inner.
      same_then _ λ p.
      same_then _ λ u.
      same_then _ λ q.
      same_then _ λ v.
      then_alike (asked_judgment_alike [] 1 q.1) λ j.
      same _

  goals_alike : (is : Items) (goals : List Goal) → Alike (Checker.goal_forms limits th goals is) (Checker.goal_forms limits later goals is)
  unfolding Checker.goal_forms
  goals_alike ended goals = same _
  goals_alike bad_line goals = same _
  goals_alike closed goals = same _
  goals_alike (item then rest) goals = then_alike (goal_alike goals item) (goals_alike rest)

  -- A goals text.
  pub text_alike : (text : List ℕ) → Alike (Checker.goals_of limits th text) (Checker.goals_of limits later text)
  unfolding Checker.goals_of
  text_alike text = then_alike (goals_alike (items (tokens text)) []) λ goals. same _

  -- The items of a step.
  binding_alike : (defs : List Def) (r : Rule) (name : Name) (is : Items) (so_far : Given)
      → Alike (Certificate.binding_item limits th defs r name is so_far) (Certificate.binding_item limits later defs r name is so_far)
  unfolding Certificate.binding_item
  binding_alike defs r name is (given binds stated) =
      same_then _ λ v. then_alike (asked_term_alike defs 2 is) λ p. same _

  conclusion_alike : (defs : List Def) (name : Name) (is : Items) (so_far : Given)
      → Alike (Certificate.conclusion_item limits th defs name is so_far) (Certificate.conclusion_item limits later defs name is so_far)
  unfolding Certificate.conclusion_item
  conclusion_alike defs name is (given binds stated) = then_alike (judgment_alike defs 2 name is) λ j. same _

  item_alike : (defs : List Def) (r : Rule) (item : Item) (so_far : Given)
      → Alike (Certificate.step_item limits th defs r item so_far) (Certificate.step_item limits later defs r item so_far)
  unfolding Certificate.step_item
  item_alike defs r item so_far =
      same_then _ λ inner.
      same_then _ λ p.
      either_alike (questioned p.0) (binding_alike defs r p.0 p.1 so_far) (conclusion_alike defs p.0 p.1 so_far)

  items_alike : (defs : List Def) (r : Rule) (is : Items) (so_far : Given)
      → Alike (Certificate.step_items limits th defs r is so_far) (Certificate.step_items limits later defs r is so_far)
  unfolding Certificate.step_items
  items_alike defs r closed so_far = same _
  items_alike defs r bad_line so_far = same _
  items_alike defs r ended so_far = same _
  items_alike defs r (item then rest) so_far =
      same_then _ λ u. then_alike (item_alike defs r item so_far) λ more. items_alike defs r rest more

  -- Matching and building ask for no theory at all: the rule is all that they know.
  concluded_alike : (steps : List Step) (r : Rule) (refs : List ℕ) (g : Given)
      → Alike (Certificate.conclude limits th steps r refs g) (Certificate.conclude limits later steps r refs g)
  unfolding Certificate.conclude
  concluded_alike steps r refs (given binds none) = same _
  concluded_alike steps r refs (given binds (some j)) = same _

  -- The forms of a certificate.
  step_alike : (now : Progress) (is : Items) → Alike (Certificate.step_form limits th now is) (Certificate.step_form limits later now is)
  unfolding Certificate.step_form
  step_alike now is =
      same_then _ λ p.
      same_then _ λ u.
      same_then _ λ q.
      then_alike (lifted_alike _ _ (rule_known x q.0)) λ r.
      same_then _ λ p₁.
      same_then _ λ refs.
      same_then _ λ v.
      then_alike (items_alike now.defs r p₁.1 (given [] none)) λ g.
      then_alike (concluded_alike now.steps r refs g) λ j.
      same _

  def_alike : (now : Progress) (is : Items) → Alike (Certificate.def_form limits th now is) (Certificate.def_form limits later now is)
  unfolding Certificate.def_form
  def_alike now is =
      same_then _ λ p.
      same_then _ λ u.
      then_alike (asked_term_alike now.defs 1 p.1) λ q.
      same _

  result_alike : (now : Progress) (is : Items) → Alike (Certificate.result_form limits th now is) (Certificate.result_form limits later now is)
  unfolding Certificate.result_form
  result_alike now is = same _

  headed_alike : (k : FormWord) (now : Progress) (is : Items)
      → Alike (Certificate.headed_form limits th k now is) (Certificate.headed_form limits later k now is)
  unfolding Certificate.headed_form
  headed_alike step_word now is = step_alike now is
  headed_alike result_word now is = result_alike now is
  headed_alike def_word now is = def_alike now is
  headed_alike other_form now is = same _

  form_alike : (now : Progress) (item : Item) → Alike (Certificate.certificate_form limits th now item) (Certificate.certificate_form limits later now item)
  unfolding Certificate.certificate_form
  form_alike now item = same_then _ λ inner. same_then _ λ p. headed_alike (Certificate.form_word p.0) now p.1

  forms_alike : (is : Items) (now : Progress) → Alike (Certificate.certificate_forms limits th now is) (Certificate.certificate_forms limits later now is)
  unfolding Certificate.certificate_forms
  forms_alike ended now = same _
  forms_alike bad_line now = same _
  forms_alike closed now = same _
  forms_alike (item then rest) now = then_alike (form_alike now item) (forms_alike rest)

  -- A certificate.
  pub certificate_alike : (goals : List Goal) (text : List ℕ)
      → Alike (Certificate.certificate_of limits th goals text) (Certificate.certificate_of limits later goals text)
  unfolding Certificate.certificate_of
  certificate_alike goals text = then_alike (forms_alike (items (tokens text)) (Certificate.begun goals)) λ final. same _
