-- Matching is sound: bindings are kept, the pattern under the bindings is the term matched, and bindings stay ground. So
-- is building.
use mathlib.Core.Path.{◌≡◌, refl, sym, ap, ap₂, subst, ◌∙◌}
use mathlib.Core.List.{List, [], ◌∷◌, ◌++◌, Memᴰ}
use mathlib.Core.Option.{Option, none, some}
use Rattle.horn.specs.Refusals.{ok}
use Rattle.horn.specs.Setting.{Setting}
use Rattle.horn.specs.Names.{Name, named}
use Rattle.horn.specs.Rulebook.{Symbol, symbol, sort, judgment, same_symbol, Variable, variable, Pattern, var, app, Patterns, []ₚ, ◌∷ₚ◌, Theory}
use Rattle.horn.specs.StoredTerms.{Term, node, Terms, []ₜ, ◌∷ₜ◌, same_term, Store}
use Rattle.horn.specs.Matching.{Bind, bind, lookup, match_var, match, matches, build, builds}
use Rattle.horn.specs.Forced.{Ground, ground, Grounds, no_ground, ground_then, WellSorted, well_sorted, Assignment, substitute, substitute_all}
use Rattle.horn.proofs.Equality.{chosen, chose_true, chose_false, named_decides, same_symbol_decides, same_term_decides}
use Rattle.horn.proofs.Inversion.{none-some, some_equal, after, given_is, lifted, was_found_lem, chosen_option}
use Rattle.horn.proofs.WasRead.{after_stored}
use Rattle.horn.proofs.SoundnessWords.{Sorted, a_variable, a_term, AllSorted, no_pattern, pattern_then, SortedJudgment, a_judgment}
use Rattle.horn.proofs.SoundnessWords.{Throughout, at_variable, in_term, ThroughoutAll, in_none, in_next, throughout_by, OneSort}

-- A name has a binding (`Bound`), some bindings keep others (`KeepsBinds`), an assignment agrees with bindings (`Agrees`).
pub record Bound (binds : List Bind) (name : Name) : Type 0 where
  pub to : Term
  pub is : lookup name binds ≡ some to

abbrev pub KeepsBinds : List Bind → List Bind → Type 0
KeepsBinds binds more = (name : Name) (t : Term) → lookup name binds ≡ some t → lookup name more ≡ some t

abbrev pub Agrees : Assignment → List Bind → Type 0
Agrees σ binds = (name : Name) (t : Term) → lookup name binds ≡ some t → σ name ≡ t

-- Each variable's binding is a ground term of its sort.
abbrev pub GroundBinds : Theory → List Variable → List Bind → Type 0
GroundBinds th vs binds = (name s : Name) (t : Term) → Memᴰ (variable name s) vs → lookup name binds ≡ some t → Ground th s t

-- One binding more.
lookup_kept : (binds : List Bind) (n : Name) (u : Term) → KeepsBinds binds (binds ++ (bind n u ∷ []))
unfolding lookup
lookup_kept [] n u name t e = none-some e
lookup_kept (bind m v ∷ binds) n u name t e =
    chosen (named name m) e
    (λ p q. chose_true _ _ p ∙ q)
    (λ p q. chose_false _ _ p ∙ lookup_kept binds n u name t q)

pub lookup_new : (binds : List Bind) (n : Name) (u : Term) → lookup n binds ≡ none → lookup n (binds ++ (bind n u ∷ [])) ≡ some u
unfolding lookup
lookup_new [] n u e = chose_true _ _ (named_decides.same n)
lookup_new (bind m v ∷ binds) n u e =
    chosen (named n m) e (λ p q. none-some (sym q)) (λ p q. chose_false _ _ p ∙ lookup_new binds n u q)

lookup_last {ℓ} : {C : Type ℓ} (binds : List Bind) (n : Name) (u : Term) (name : Name) (t : Term)
    → lookup name (binds ++ (bind n u ∷ [])) ≡ some t
    → (lookup name binds ≡ some t → C)
    → (name ≡ n → u ≡ t → C)
    → C
unfolding lookup
lookup_last [] n u name t e f g =
    chosen (named name n) e (λ p q. g (named_decides.equal name n p) (some_equal q)) (λ p q. none-some q)
lookup_last (bind m v ∷ binds) n u name t e f g =
    chosen (named name m) e
    (λ p q. f (chose_true _ _ p ∙ q))
    (λ p q. lookup_last binds n u name t q (λ h. f (chose_false _ _ p ∙ h)) g)

pub ground_binds_more : {th : Theory} {vs : List Variable} {n s : Name} {u : Term} (binds : List Bind) → OneSort vs
    → Memᴰ (variable n s) vs
    → Ground th s u
    → GroundBinds th vs binds
    → GroundBinds th vs (binds ++ (bind n u ∷ []))
ground_binds_more {th} {vs} {n} {s} {u} binds one m g b name r t m' e =
    lookup_last binds n u name t e
    (λ h. b name r t m' h)
    (λ p q. subst (Ground th r) q
    (subst (λ z. Ground th z u) (one n s r m (subst (λ z. Memᴰ (variable z r) vs) p m')) g))

pub bound_in_more : {binds more : List Bind} {p : Pattern} → KeepsBinds binds more → Throughout (Bound binds) p → Throughout (Bound more) p
bound_in_more k = throughout_by (λ n b. record { to = b.to; is = k n b.to b.is })

-- What a match has brought about.
pub record Matched (binds more : List Bind) (p : Pattern) (t : Term) : Type 0 where
  pub keep : KeepsBinds binds more
  pub gives : (σ : Assignment) → Agrees σ more → substitute σ p ≡ t
  pub bound : Throughout (Bound more) p

pub record AllMatched (binds more : List Bind) (ps : Patterns) (ts : Terms) : Type 0 where
  pub keep : KeepsBinds binds more
  pub gives : (σ : Assignment) → Agrees σ more → substitute_all σ ps ≡ ts
  pub bound : ThroughoutAll (Bound more) ps

-- A variable that is bound to a term matches that term, and no binding is added.
at_bound : {binds : List Bind} {name : Name} {t : Term} → lookup name binds ≡ some t → Matched binds binds (var name) t
unfolding substitute
at_bound {binds} {name} {t} e =
    record { keep = λ n u h. h; gives = λ σ a. a name t e; bound = at_variable (record { to = t; is = e }) }

matched_variable : (name : Name) (t : Term) (binds : List Bind) {more : List Bind} (o : Option Term) → lookup name binds ≡ o
    → match_var name t binds o ≡ some more
    → Matched binds more (var name) t
unfolding match_var substitute
matched_variable name t binds none h e =
    subst (λ more. Matched binds more (var name) t) (some_equal e)
    record {
      keep = lookup_kept binds name t;
      gives = λ σ a. a name t (lookup_new binds name t h);
      bound = at_variable (record { to = t; is = lookup_new binds name t h });
    }
matched_variable name t binds (some u) h e =
    chosen (same_term t u) e
    (λ p q. subst (λ more. Matched binds more (var name) t) (some_equal q)
    (at_bound (h ∙ ap some (sym (same_term_decides.equal t u p)))))
    (λ p q. none-some q)

in_matched_term : {binds more : List Bind} {c d : Symbol} {ps : Patterns} {ts : Terms} → c ≡ d → AllMatched binds more ps ts
    → Matched binds more (app c ps) (node d ts)
unfolding substitute
in_matched_term e a = record { keep = a.keep; gives = λ σ g. ap₂ node e (a.gives σ g); bound = in_term a.bound }

matched_next : {binds more most : List Bind} {p : Pattern} {t : Term} {ps : Patterns} {ts : Terms} → Matched binds more p t
    → AllMatched more most ps ts
    → AllMatched binds most (p ∷ₚ ps) (t ∷ₜ ts)
unfolding substitute
matched_next x y =
    record {
      keep = λ n u h. y.keep n u (x.keep n u h);
      gives = λ σ g. ap₂ ◌∷ₜ◌ (x.gives σ (λ n u h. g n u (y.keep n u h))) (y.gives σ g);
      bound = in_next (bound_in_more y.keep x.bound) y.bound;
    }

matched_none : (binds : List Bind) → AllMatched binds binds []ₚ []ₜ
unfolding substitute
matched_none binds = record { keep = λ n u h. h; gives = λ σ g. refl; bound = in_none }

mutual
  unfolding match

  pub matched : (p : Pattern) (t : Term) (binds : List Bind) {more : List Bind} → match p t binds ≡ some more → Matched binds more p t
  matched (var name) t binds e = matched_variable name t binds (lookup name binds) refl e
  matched (app c ps) (node d ts) binds e =
      chosen (same_symbol c d) e
      (λ p q. in_matched_term (same_symbol_decides.equal c d p) (all_matched ps ts binds q))
      (λ p q. none-some q)

  pub all_matched : (ps : Patterns) (ts : Terms) (binds : List Bind) {more : List Bind} → matches ps ts binds ≡ some more → AllMatched binds more ps ts
  all_matched []ₚ []ₜ binds e = subst (λ more. AllMatched binds more []ₚ []ₜ) (some_equal e) (matched_none binds)
  all_matched []ₚ (t ∷ₜ ts) binds e = none-some e
  all_matched (p ∷ₚ ps) []ₜ binds e = none-some e
  all_matched (p ∷ₚ ps) (t ∷ₜ ts) binds e =
      chosen_option (match p t binds) e
      (λ h q. none-some q)
      (λ more h q. matched_next (matched p t binds h) (all_matched ps ts more q))

-- Bindings stay ground.
module _ {th : Theory} {vs : List Variable} (one : OneSort vs) where
  ground_variable : {name s : Name} {t : Term} → Memᴰ (variable name s) vs → Ground th s t → (binds : List Bind) {more : List Bind} (o : Option Term)
      → match_var name t binds o ≡ some more
      → GroundBinds th vs binds
      → GroundBinds th vs more
  unfolding match_var
  ground_variable {name} {s} {t} m g binds none e b =
      subst (GroundBinds th vs) (some_equal e) (ground_binds_more binds one m g b)
  ground_variable {t} m g binds (some u) e b =
      chosen (same_term t u) e (λ p q. subst (GroundBinds th vs) (some_equal q) b) (λ p q. none-some q)

  mutual
    unfolding match

    match_ground : {s : Name} {p : Pattern} {t : Term} → Sorted th.symbols vs s p → Ground th s t → (binds : List Bind) {more : List Bind}
        → match p t binds ≡ some more
        → GroundBinds th vs binds
        → GroundBinds th vs more
    match_ground (a_variable m) g binds e b = ground_variable m g binds _ e b
    match_ground (a_term {name = n} {s = s} {ins = ins} m ps) (ground {name = n'} {ins = ins'} {ts = ts} m' gs) binds e b =
        chosen (same_symbol (symbol n ins (sort s)) (symbol n' ins' (sort s))) e
        (λ p q.
        let same = same_symbol_decides.equal (symbol n ins (sort s)) (symbol n' ins' (sort s)) p in
        let same_inputs : ins' ≡ ins = cc in
        matches_ground ps (subst (λ z. Grounds th z ts) same_inputs gs) binds q b)
        (λ p q. none-some q)

    matches_ground : {ss : List Name} {ps : Patterns} {ts : Terms} → AllSorted th.symbols vs ss ps
        → Grounds th ss ts → (binds : List Bind) {more : List Bind}
        → matches ps ts binds ≡ some more
        → GroundBinds th vs binds
        → GroundBinds th vs more
    matches_ground no_pattern no_ground binds e b = subst (GroundBinds th vs) (some_equal e) b
    matches_ground (pattern_then {p = p} sp sps) (ground_then {t = t} g gs) binds e b =
        chosen_option (match p t binds) e
        (λ h q. none-some q)
        (λ more h q. matches_ground sps gs more q (match_ground sp g binds h b))

  pub match_judgment_ground : {p : Pattern} {t : Term} → SortedJudgment th.symbols vs p → WellSorted th t → (binds : List Bind) {more : List Bind}
      → match p t binds ≡ some more
      → GroundBinds th vs binds
      → GroundBinds th vs more
  unfolding match
  match_judgment_ground (a_judgment {name = n} {ins = ins} m ps) (well_sorted {name = n'} {ins = ins'} {ts = ts} m' gs) binds e b =
      chosen (same_symbol (symbol n ins judgment) (symbol n' ins' judgment)) e
      (λ p q.
      let same = same_symbol_decides.equal (symbol n ins judgment) (symbol n' ins' judgment) p in
      let same_inputs : ins' ≡ ins = cc in
      matches_ground ps (subst (λ z. Grounds th z ts) same_inputs gs) binds q b)
      (λ p q. none-some q)

-- Building gives the pattern under the bindings.
module _ (limits : Setting) (binds : List Bind) where
  mutual
    unfolding build

    pub built : (p : Pattern) (s : Store) {s' : Store} {t : Term} → build limits binds p s ≡ ok (t, s') → Matched binds binds p t
    built (var name) s e = lifted _ e λ h q. was_found_lem _ _ h λ f. at_bound f
    built (app c ps) s e =
        after _ e λ ts s₁ e₁ e₂.
        after_stored limits (node c ts) s₁ e₂ λ i same. subst (Matched binds binds (app c ps)) same (in_matched_term refl (all_built ps s e₁))

    pub all_built : (ps : Patterns) (s : Store) {s' : Store} {ts : Terms} → builds limits binds ps s ≡ ok (ts, s') → AllMatched binds binds ps ts
    all_built []ₚ s e = given_is e λ p q. subst (AllMatched binds binds []ₚ) p (matched_none binds)
    all_built (p ∷ₚ ps) s e =
        after _ e λ t s₁ e₁ e₂.
        after _ e₂ λ ts s₂ e₃ e₄.
        given_is e₄ λ h q. subst (AllMatched binds binds (p ∷ₚ ps)) h (matched_next (built p s e₁) (all_built ps s₁ e₃))
