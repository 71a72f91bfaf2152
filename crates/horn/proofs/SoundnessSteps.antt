-- Every step is sound: an instance of its own rule concludes it, whose premises are derivable.
use Prim.Native.Nat.{ℕ}
use mathlib.Core.Path.{◌≡◌, refl, sym, subst}
use mathlib.Core.Bool.{true, not}
use mathlib.Core.List.{List, [], ◌∷◌, ◌++◌, map, Memᴰ}
use mathlib.Core.Option.{Option, none, some}
use Rattle.horn.specs.Refusals.{ok}
use Rattle.horn.specs.Setting.{Setting}
use Rattle.horn.specs.Names.{Name, questioned}
use Rattle.horn.specs.NestedLists.{Item, Items, closed, ended, bad_line, ◌then◌}
use Rattle.horn.specs.Rulebook.{symbol, judgment, Variable, variable, is_variable, sort_of, Pattern, Rule, is_rule, rule_named, Theory}
use Rattle.horn.specs.Rulebook.{variables_of, premises_of, conclusion_of}
use Rattle.horn.specs.StoredTerms.{Term, node, []ₜ, Store}
use Rattle.horn.specs.Checker.{Def, has_sort}
use Rattle.horn.specs.Matching.{Step, judgment_of, rule_of, Bind, bind, lookup, match_premises}
use Rattle.horn.specs.Certificate
use Rattle.horn.specs.Certificate.{Given, given}
use Rattle.horn.specs.Forced.{Ground, WellSorted, Assignment, substitute, premises, conclusion, Derivable}
use Rattle.horn.specs.Forced.{derive, Derivables, all_derived, derived, Concluded}
use Rattle.horn.proofs.Equality.{both, case, named_decides, first-some, at_member}
use Rattle.horn.proofs.Inversion.{not_ok, none-some, ok_equal, after, given_is, was_found_lem, afterₗ, after_need, after_found, after_foundᵣ}
use Rattle.horn.proofs.SoundnessWords.{SortedJudgment, Throughout, OneSort, WellFormed, derivable_well_sorted}
use Rattle.horn.proofs.SoundnessMatching.{Bound, KeepsBinds, Agrees, GroundBinds, ground_binds_more, bound_in_more, Matched, matched}
use Rattle.horn.proofs.SoundnessMatching.{match_judgment_ground, built}
use Rattle.horn.proofs.Inversion.{lift-absent, lift-refused}
use Rattle.horn.proofs.SoundnessReading.{SomeSort, has_sort_ground, GroundDefs, term_sorted, judgment_sorted}
use Rattle.horn.proofs.WasRead.{asked_term_read, judgment_read}

pub concluded_derivable : {th : Theory} {j : Term} {r : Rule} → Concluded th j r → Derivable th j
concluded_derivable c = derive c.by c.is c.from c.equal

abbrev pub SoundSteps : Theory → List Step → Type 0
SoundSteps th steps = (s : Step) → Memᴰ s steps → Concluded th (judgment_of s) (rule_of s)

-- The assignment that bindings give. A name that is not bound gets some term, it does not matter which.
unfoldable assign : List Bind → Assignment
assign binds name = elim (lookup name binds) [ none ↦ node (symbol [] [] judgment) []ₜ | some t ↦ t ]

assign_agrees : (binds : List Bind) → Agrees (assign binds) binds
unfolding assign
assign_agrees binds name t e = rw (e, assign)

-- What matching the premises has brought about.
record PremisesMatched (th : Theory) (vs : List Variable) (binds more : List Bind) (ps : List Pattern) : Type 0 where
  keep : KeepsBinds binds more
  gives : (σ : Assignment) → Agrees σ more → Derivables th (map (substitute σ) ps)
  bound : (p : Pattern) → Memᴰ p ps → Throughout (Bound more) p
  ground_binds : GroundBinds th vs more

no_premise : {th : Theory} {vs : List Variable} (binds : List Bind) → GroundBinds th vs binds → PremisesMatched th vs binds binds []
no_premise binds b =
    record { keep = λ n t h. h; gives = λ σ a. all_derived; bound = λ p m. elim m [ ]; ground_binds = b }

next_premise : {th : Theory} {vs : List Variable} {binds more most : List Bind} {p : Pattern} {ps : List Pattern} {j : Term} → Derivable th j
    → Matched binds more p j
    → PremisesMatched th vs more most ps
    → PremisesMatched th vs binds most (p ∷ ps)
next_premise {th} {most} {p} {ps} d x y =
    record {
      keep = λ n t h. y.keep n t (x.keep n t h);
      gives = λ σ a. derived (subst (Derivable th) (sym (x.gives σ (λ n t h. a n t (y.keep n t h)))) d) (y.gives σ a);
      bound = λ q m. bound_one m;
      ground_binds = y.ground_binds;
    }
  where
    bound_one : {q : Pattern} → Memᴰ q (p ∷ ps) → Throughout (Bound most) q
    bound_one (Memᴰ.head e) = subst (Throughout (Bound most)) (sym e) (bound_in_more y.keep x.bound)
    bound_one (Memᴰ.tail m) = y.bound _ m

module _ (th : Theory) (w : WellFormed th) (steps : List Step) (sound : SoundSteps th steps) {vs : List Variable} (one : OneSort vs) where
  premises_matched_lem : (ps : List Pattern) (ns : List ℕ) (binds : List Bind) {more : List Bind}
      → ((p : Pattern) → Memᴰ p ps → SortedJudgment th.symbols vs p)
      → GroundBinds th vs binds
      → match_premises steps ps ns binds ≡ ok more
      → PremisesMatched th vs binds more ps
  unfolding match_premises
  premises_matched_lem [] [] binds sorted b e = subst (λ z. PremisesMatched th vs binds z []) (ok_equal e) (no_premise binds b)
  premises_matched_lem [] (n ∷ ns) binds sorted b e = not_ok e
  premises_matched_lem (p ∷ ps) [] binds sorted b e = not_ok e
  premises_matched_lem (p ∷ ps) (n ∷ ns) binds sorted b e =
      after_foundᵣ _ _ _ e λ s f e₁.
      after_foundᵣ _ _ _ e₁ λ more g e₂.
      let d = concluded_derivable (sound s (at_member steps n f)) in
      let b' = match_judgment_ground one (sorted p (Memᴰ.head refl)) (derivable_well_sorted w (judgment_of s) d) binds g b in
      next_premise d (matched p (judgment_of s) binds g)
      (premises_matched_lem ps ns more (λ q m. sorted q (Memᴰ.tail m)) b' e₂)

-- Once the premises are matched, and the conclusion is matched or built, the bindings are an instance of the rule.
instance_of : {th : Theory} (w : WellFormed th) (r : Rule) → Memᴰ r th.rules
    → {j : Term} {binds final : List Bind}
    → PremisesMatched th (variables_of r) binds final (premises_of r)
    → ((σ : Assignment) → Agrees σ final → substitute σ (conclusion_of r) ≡ j)
    → Throughout (Bound final) (conclusion_of r)
    → Concluded th j r
unfolding premises conclusion
instance_of {th} w r m {final} x gives bound =
    record {
      by = record { by_rule = r; assignment = assign final };
      own = refl;
      is = record {
        declared = m;
        sorted = λ name s v.
            let b = (w.formed r m).occur (Bound final) x.bound bound name s v in
            subst (Ground th s) (sym (assign_agrees final name b.to b.is)) (x.ground_binds name s b.to v b.is);
      };
      from = x.gives (assign final) (assign_agrees final);
      equal = sym (gives (assign final) (assign_agrees final));
    }

no_binding {ℓ} : {C : Type ℓ} (name : Name) {t : Term} → lookup name [] ≡ some t → C
unfolding lookup
no_binding name e = none-some e

-- What the items of a step give: ground bindings, and a well-sorted conclusion if one is stated.
abbrev Stated : Theory → Option Term → Type 0
Stated th none = Unit {0}
Stated th (some j) = WellSorted th j

data SoundGiven (th : Theory) (vs : List Variable) : Given → Type 0 where
  sound_given : {binds : List Bind} {stated : Option Term} → GroundBinds th vs binds → Stated th stated → SoundGiven th vs (given binds stated)

module _ (limits : Setting) (th : Theory) (w : WellFormed th) where
  conclude_sound : (steps : List Step) → SoundSteps th steps → (r : Rule) → Memᴰ r th.rules → (refs : List ℕ) (binds : List Bind) (stated : Option Term)
      → GroundBinds th (variables_of r) binds
      → Stated th stated
      → (s : Store) {s' : Store} {j : Term}
      → Certificate.conclude limits th steps r refs (given binds stated) s ≡ ok (j, s')
      → Concluded th j r
  unfolding Certificate.conclude
  conclude_sound steps sound r m refs binds (some c) b ws s e =
      let f = w.formed r m in
      after_found _ _ _ _ e λ more g e₁.
      afterₗ _ _ _ e₁ λ final h e₂.
      given_is e₂ λ same q.
      let x = matched (conclusion_of r) c binds g in
      let b' = match_judgment_ground f.one_sort f.sorted_conclusion ws binds g b in
      let y = premises_matched_lem th w steps sound f.one_sort (premises_of r) refs more f.sorted_premises b' h in
      subst (λ z. Concluded th z r) same
      (instance_of w r m y (λ σ a. x.gives σ (λ n t k. a n t (y.keep n t k))) (bound_in_more y.keep x.bound))
  conclude_sound steps sound r m refs binds none b ws s e =
      let f = w.formed r m in
      afterₗ _ _ _ e λ final h e₁.
      let y = premises_matched_lem th w steps sound f.one_sort (premises_of r) refs binds f.sorted_premises b h in
      let x = built limits final (conclusion_of r) s e₁ in
      instance_of w r m y x.gives x.bound

  -- A binding that was given has its variable's sort.
  binding_ground : {vs : List Variable} {t : Term} (binds : List Bind) (name : Name) (v : Variable) → OneSort vs
      → Memᴰ v vs × (is_variable name v ≡ true)
      → SomeSort th t
      → has_sort (sort_of v) t ≡ true
      → GroundBinds th vs binds
      → GroundBinds th vs (binds ++ (bind name t ∷ []))
  unfolding is_variable sort_of
  binding_ground {vs} binds name (variable n s) one (m, is) g h b =
      ground_binds_more binds one (subst (λ z. Memᴰ (variable z s) vs) (sym (named_decides.equal name n is)) m) (has_sort_ground s g h) b

  module _ (defs : List Def) (ground_defs : GroundDefs th defs) (r : Rule) (one : OneSort (variables_of r)) where
    binding_given : (name : Name) (is : Items) (g : Given) → SoundGiven th (variables_of r) g → (s : Store) {s' : Store} {more : Given}
        → Certificate.binding_item limits th defs r name is g s ≡ ok (more, s')
        → SoundGiven th (variables_of r) more
    unfolding Certificate.binding_item
    binding_given name is (given binds stated) (sound_given b st) s e =
        after_found _ _ _ _ e λ v f e₁.
        after _ e₁ λ p s₁ e₂ e₃.
        afterₗ _ _ _ e₃ λ u e₄ e₅.
        after_need _ _ _ _ e₅ λ h e₆.
        given_is e₆ λ same q.
        let t = term_sorted ground_defs (asked_term_read limits th defs 2 is s e₂).1 in
        let sorted = (both (not (Certificate.is_bound name binds)) (has_sort (sort_of v) p.0) h).1 in
        subst (SoundGiven th (variables_of r)) same
        (sound_given (binding_ground binds name v one (first-some (is_variable name) (variables_of r) f) t sorted b) st)

    conclusion_given : (name : Name) (is : Items) (g : Given) → SoundGiven th (variables_of r) g → (s : Store) {s' : Store} {more : Given}
        → Certificate.conclusion_item limits th defs name is g s ≡ ok (more, s')
        → SoundGiven th (variables_of r) more
    unfolding Certificate.conclusion_item
    conclusion_given name is (given binds stated) (sound_given b st) s e =
        after _ e λ j s₁ e₁ e₂.
        after_need _ _ _ _ e₂ λ h e₃.
        given_is e₃ λ same q.
        subst (SoundGiven th (variables_of r)) same (sound_given b (judgment_sorted ground_defs (judgment_read limits th defs 2 name is s e₁)))

    item_given : (item : Item) (g : Given) → SoundGiven th (variables_of r) g → (s : Store) {s' : Store} {more : Given}
        → Certificate.step_item limits th defs r item g s ≡ ok (more, s')
        → SoundGiven th (variables_of r) more
    unfolding Certificate.step_item
    item_given item g sg s e =
        afterₗ _ _ _ e λ inner e₁ e₂.
        afterₗ _ _ _ e₂ λ p e₃ e₄.
        case (questioned p.0)
        (λ h. binding_given p.0 p.1 g sg s (rw h at e₄))
        (λ h. conclusion_given p.0 p.1 g sg s (rw h at e₄))

    items_given : (is : Items) (g : Given) → SoundGiven th (variables_of r) g → (s : Store) {s' : Store} {more : Given}
        → Certificate.step_items limits th defs r is g s ≡ ok (more, s')
        → SoundGiven th (variables_of r) more
    unfolding Certificate.step_items
    items_given closed g sg s e = given_is e λ same q. subst (SoundGiven th (variables_of r)) same sg
    items_given bad_line g sg s e = lift-refused _ _ e
    items_given ended g sg s e = lift-absent _ _ _ e
    items_given (item then rest) g sg s e =
        afterₗ _ _ _ e λ u e₁ e₂.
        after _ e₂ λ more s₁ e₃ e₄. items_given rest more (item_given item g sg s e₃) s₁ e₄

  rule_found_lem : (name : Name) {r : Rule} → rule_named th name ≡ ok r → Memᴰ r th.rules
  unfolding rule_named
  rule_found_lem name e = was_found_lem _ _ e λ p. (first-some (is_rule name) th.rules p).0

  -- A step whose items were read and whose conclusion was matched or built is sound.
  pub step_concluded_lem : (defs : List Def) → GroundDefs th defs → (steps : List Step) → SoundSteps th steps → (name : Name) {r : Rule} → rule_named th name ≡ ok r
      → (refs : List ℕ) (is : Items) (g : Given) (s : Store) {s₁ s₂ : Store} {j : Term}
      → Certificate.step_items limits th defs r is (given [] none) s ≡ ok (g, s₁)
      → Certificate.conclude limits th steps r refs g s₁ ≡ ok (j, s₂)
      → Concluded th j r
  step_concluded_lem defs ground_defs steps sound name {r} e refs is g s {s₁} e₁ e₂ =
      let m = rule_found_lem name e in
      by_given g (items_given defs ground_defs r (w.formed r m).one_sort is (given [] none) (sound_given none_bound tt) s e₁) e₂
    where
      none_bound : GroundBinds th (variables_of r) []
      none_bound n t u m h = no_binding n h

      by_given : (g : Given) → SoundGiven th (variables_of r) g → {j : Term} {s₂ : Store} → Certificate.conclude limits th steps r refs g s₁ ≡ ok (j, s₂)
          → Concluded th j r
      by_given (given binds stated) (sound_given b st) h = conclude_sound steps sound r (rule_found_lem name e) refs binds stated b st s₁ h
