-- The patterns of a rule, as they are read, are well-sorted by the variables that are read with them.
use Prim.Native.Nat.{ℕ, zero}
use mathlib.Core.Path.{◌≡◌, refl, sym, ap, subst, ◌∙◌}
use mathlib.Core.Bool.{true, false, true≢false}
use mathlib.Core.List.{List, [], ◌∷◌, ◌++◌, Memᴰ}
use mathlib.Core.Option.{none, some}
use lib.Dec.{eqb}
use lib.ListN.{length}
use native.Mathlib.Omega.{arith}
use Rattle.horn.specs.Refusals.{ok}
use Rattle.horn.specs.Names.{Name, named, questioned, first}
use Rattle.horn.specs.NestedLists.{Sexp, leaf, list, Sexps, []ₛ, ◌∷ₛ◌}
use Rattle.horn.specs.Rulebook
use Rattle.horn.specs.Rulebook.{Symbol, symbol, Output, same_output, sort, judgment, Variable, variable, Pattern, var, app, Patterns, []ₚ, ◌∷ₚ◌}
use Rattle.horn.specs.Rulebook.{Theory}
use Rattle.horn.proofs.Equality.{case, decides_false, differ, both, chosen, eqb_decides, named_decides, same_output_decides}
use Rattle.horn.proofs.Equality.{first-some, first-none, in_or_last}
use Rattle.horn.proofs.Inversion.{not_ok, none-some, ok_equal, afterᵣ, after_needᵣ, was_found_lem, chosen_option}
use Rattle.horn.proofs.SoundnessWords.{Sorted, a_variable, a_term, AllSorted, no_pattern, pattern_then, SortedJudgment}
use Rattle.horn.proofs.SoundnessWords.{a_judgment, sorted_in_more, judgment_in_more, Throughout}
use Rattle.horn.proofs.SoundnessWords.{at_variable, in_term, ThroughoutAll, in_next, Covers, OneSort, Apart, no_names, name_apart}

-- A symbol that is found by its name is declared, and has that name.
pub constructor_declared_lem : (th : Theory) (name : Name) {c : Symbol} → Rulebook.constructor th name ≡ ok c
    → Memᴰ c th.symbols × (Rulebook.is_constructor name c ≡ true)
unfolding Rulebook.constructor
constructor_declared_lem th name e = was_found_lem _ _ e λ p. first-some (Rulebook.is_constructor name) th.symbols p

pub predicate_declared_lem : (th : Theory) (name : Name) {c : Symbol} → Rulebook.predicate th name ≡ ok c
    → Memᴰ c th.symbols × (Rulebook.is_predicate name c ≡ true)
unfolding Rulebook.predicate
predicate_declared_lem th name e = was_found_lem _ _ e λ p. first-some (Rulebook.is_predicate name) th.symbols p

-- What reading a pattern does to the variables so far. `uses P` is to say that P holds throughout the pattern.
pub record Extends (uses : (Name → Type 0) → Type 0) (vs ws : List Variable) : Type 1 where
  pub grow : (v : Variable) → Memᴰ v vs → Memᴰ v ws
  pub keep : OneSort vs → OneSort ws
  pub apart : Apart vs → Apart ws
  pub occur : (P : Name → Type 0) → uses P → Covers P vs → Covers P ws

extends_none : {uses : (Name → Type 0) → Type 0} (vs : List Variable) → Extends uses vs vs
extends_none vs = record { grow = λ v m. m; keep = λ o. o; apart = λ a. a; occur = λ P u c. c }

-- What reading one part and then another does.
extends_both : {A B both : (Name → Type 0) → Type 0} {us vs ws : List Variable} → Extends A us vs → Extends B vs ws
    → ((P : Name → Type 0) → both P → A P × B P)
    → Extends both us ws
extends_both x y split =
    record {
      grow = λ v m. y.grow v (x.grow v m);
      keep = λ o. y.keep (x.keep o);
      apart = λ a. y.apart (x.apart a);
      occur = λ P u c. y.occur P (split P u).1 (x.occur P (split P u).0 c);
    }

extends_by : {A B : (Name → Type 0) → Type 0} {vs ws : List Variable} → Extends A vs ws → ((P : Name → Type 0) → B P → A P)
    → Extends B vs ws
extends_by x f = record { grow = x.grow; keep = x.keep; apart = x.apart; occur = λ P u c. x.occur P (f P u) c }

-- A variable that was not met before.
variable_equal : {n m s t : Name} → variable n s ≡ variable m t → (n ≡ m) × (s ≡ t)
variable_equal e = (cc, cc)

at_variable_of : {P : Name → Type 0} {name : Name} → Throughout P (var name) → P name
at_variable_of (at_variable p) = p

in_term_of : {P : Name → Type 0} {c : Symbol} {ps : Patterns} → Throughout P (app c ps) → ThroughoutAll P ps
in_term_of (in_term ps) = ps

in_next_of : {P : Name → Type 0} {p : Pattern} {ps : Patterns} → ThroughoutAll P (p ∷ₚ ps) → Throughout P p × ThroughoutAll P ps
in_next_of (in_next p ps) = (p, ps)

-- The variables stay apart when one of a new name is added behind them.
none_behind : (key name s : Name) (vs : List Variable) → first (Rulebook.is_variable key) vs ≡ none → named key name ≡ false
    → first (Rulebook.is_variable key) (vs ++ (variable name s ∷ [])) ≡ none
unfolding first Rulebook.is_variable
none_behind key name s [] e f = rw (f, first)
none_behind key name s (variable m t ∷ vs) e f =
    case (named key m)
    (λ p. none-some {a = variable m t} (sym e ∙ rw (p, first)))
    (λ p. rw (p, first) (none_behind key name s vs (rw (p, first) at e) f))

apart_more : (name s : Name) {vs : List Variable} → Apart vs → first (Rulebook.is_variable name) vs ≡ none → Apart (vs ++ (variable name s ∷ []))
unfolding first Rulebook.is_variable
apart_more name s no_names e = name_apart refl no_names
apart_more name s (name_apart {name = m} {s = t} {vs} f a) e =
    case (named name m)
    (λ p. none-some {a = variable m t} (sym e ∙ rw (p, first)))
    (λ p.
    name_apart
    (none_behind m name s vs f (decides_false named_decides m name (λ q. differ named_decides name m p (sym q))))
    (apart_more name s a (rw (p, first) at e)))

extends_new : (name s : Name) (vs : List Variable) → first (Rulebook.is_variable name) vs ≡ none
    → Extends (λ P. Throughout P (var name)) vs (vs ++ (variable name s ∷ []))
unfolding Rulebook.is_variable
extends_new name s vs e =
    record {
      grow = λ v m. mathlib.Core.List.Memᴰ.append_left _ m;
      keep = λ o n t u m₁ m₂.
          in_or_last vs m₁
          (λ m₁'. in_or_last vs m₂ (λ m₂'. o n t u m₁' m₂') (λ q. absurd (other t m₁' (variable_equal q).0)))
          (λ p. in_or_last vs m₂
          (λ m₂'. absurd (other u m₂' (variable_equal p).0))
          (λ q. (variable_equal p).1 ∙ sym (variable_equal q).1));
      apart = λ a. apart_more name s a e;
      occur = λ P u c n t m.
          in_or_last vs m (c n t) (λ p. subst P (sym (variable_equal p).0) (at_variable_of u));
    }
  where
    other : {n : Name} (t : Name) → Memᴰ (variable n t) vs → n ≡ name → ⊥
    other {n} t m p =
        true≢false (sym (named_decides.same name) ∙ ap (named name) (sym p) ∙ first-none (Rulebook.is_variable name) vs e (variable n t) m)

-- What is known of a pattern that was read at a place of some sort, with the variables after it; the same of arguments, of a judgment and
-- of judgments.
pub record ReadAs (symbols : List Symbol) (vs : List Variable) (s : Name) (q : Pattern × List Variable) : Type 1 where
  pub extends : Extends (λ P. Throughout P q.0) vs q.1
  pub sorted : Sorted symbols q.1 s q.0

pub record AllReadAs (symbols : List Symbol) (vs : List Variable) (ss : List Name) (q : Patterns × List Variable) : Type 1 where
  pub extends : Extends (λ P. ThroughoutAll P q.0) vs q.1
  pub sorted : AllSorted symbols q.1 ss q.0

pub record JudgmentReadAs (symbols : List Symbol) (vs : List Variable) (q : Pattern × List Variable) : Type 1 where
  pub extends : Extends (λ P. Throughout P q.0) vs q.1
  pub sorted : SortedJudgment symbols q.1 q.0

pub record JudgmentsReadAs (symbols : List Symbol) (vs : List Variable) (q : List Pattern × List Variable) : Type 1 where
  pub extends : Extends (λ P. (p : Pattern) → Memᴰ p q.0 → Throughout P p) vs q.1
  pub sorted : (p : Pattern) → Memᴰ p q.0 → SortedJudgment symbols q.1 p

known_variable : (symbols : List Symbol) (name s n t : Name) (vs : List Variable)
    → first (Rulebook.is_variable name) vs ≡ some (variable n t)
    → named s t ≡ true
    → ReadAs symbols vs s (var name, vs)
unfolding Rulebook.is_variable
known_variable symbols name s n t vs f p =
    let (m, h) = first-some (Rulebook.is_variable name) vs f in
    let same_name = named_decides.equal name n h in
    let same_sort = named_decides.equal s t p in
    let here : Memᴰ (variable name s) vs = subst (λ w. Memᴰ w vs) (cc) m in
    record { extends = extends_none vs; sorted = a_variable here }

parts : (v : Variable) → (n : Name) × (t : Name) × (v ≡ variable n t)
parts (variable n t) = (n, t, refl)

read_variable_pattern : (symbols : List Symbol) (name s : Name) (vs : List Variable) {q : Pattern × List Variable}
    → Rulebook.variable_pattern name s vs ≡ ok q
    → ReadAs symbols vs s q
unfolding Rulebook.variable_pattern
read_variable_pattern symbols name s vs e =
    after_needᵣ _ _ _ e λ p e₁.
    chosen_option (first (Rulebook.is_variable name) vs) e₁
    (λ f e₂. subst (ReadAs symbols vs s) (ok_equal e₂)
    record { extends = extends_new name s vs f; sorted = a_variable (mathlib.Core.List.Memᴰ.append_right vs (mathlib.Core.List.Memᴰ.head refl)) })
    (λ v f e₂.
    let (n, t, is) = parts v in
    after_needᵣ _ _ _ (rw is at e₂) λ h e₃.
    subst (ReadAs symbols vs s) (ok_equal e₃) (known_variable symbols name s n t vs (f ∙ ap some is) h))

-- A constructor, or a predicate, with arguments that were read.
read_pattern_over : {symbols : List Symbol} {vs : List Variable} (name s : Name) (n : ℕ) (c : Symbol) {q : Patterns × List Variable}
    → Memᴰ c symbols × (Rulebook.is_constructor name c ≡ true)
    → Rulebook.fits c (sort s) n ≡ true
    → AllReadAs symbols vs (Rulebook.inputs c) q
    → ReadAs symbols vs s (app c q.0, q.1)
unfolding Rulebook.is_constructor Rulebook.fits Rulebook.inputs
read_pattern_over {symbols} name s n (symbol m ins (sort t)) {q} (declared, is) f a =
    let same = same_output_decides.equal (sort t) (sort s) (both _ _ f).0 in
    let same_sort : t ≡ s = cc in
    record {
      extends = extends_by a.extends (λ P u. in_term_of u);
      sorted = subst (λ z. Sorted symbols q.1 z (app (symbol m ins (sort t)) q.0)) same_sort (a_term declared a.sorted);
    }
read_pattern_over name s n (symbol m ins judgment) (declared, is) f a = absurd (true≢false (sym is))

read_judgment_over : {symbols : List Symbol} {vs : List Variable} (name : Name) (c : Symbol) {q : Patterns × List Variable}
    → Memᴰ c symbols × (Rulebook.is_predicate name c ≡ true)
    → AllReadAs symbols vs (Rulebook.inputs c) q
    → JudgmentReadAs symbols vs (app c q.0, q.1)
unfolding Rulebook.is_predicate Rulebook.inputs
read_judgment_over name (symbol m ins (sort t)) (declared, is) a = absurd (true≢false (sym is))
read_judgment_over name (symbol m ins judgment) (declared, is) a =
    record { extends = extends_by a.extends (λ P u. in_term_of u); sorted = a_judgment declared a.sorted }

read_no_arguments : {symbols : List Symbol} {vs : List Variable} (c : Symbol) (o : Output) → Rulebook.fits c o zero ≡ true
    → AllReadAs symbols vs (Rulebook.inputs c) ([]ₚ, vs)
unfolding Rulebook.fits Rulebook.inputs
read_no_arguments {vs} (symbol m [] t) o f = record { extends = extends_none vs; sorted = no_pattern }
read_no_arguments (symbol m (i ∷ is) t) o f =
    let z = eqb_decides.equal (length (i ∷ is)) zero (both (same_output t o) (eqb (length (i ∷ is)) zero) f).1 in
    absurd (omega (arith, z))

-- One pattern or judgment, and then more.
read_next_pattern : {symbols : List Symbol} {vs : List Variable} {s : Name} {ss : List Name} {q : Pattern × List Variable} {r : Patterns × List Variable}
    → ReadAs symbols vs s q
    → AllReadAs symbols q.1 ss r
    → AllReadAs symbols vs (s ∷ ss) (q.0 ∷ₚ r.0, r.1)
read_next_pattern x y =
    record {
      extends = extends_both x.extends y.extends (λ P u. in_next_of u);
      sorted = pattern_then (sorted_in_more (λ c m. m) y.extends.grow x.sorted) y.sorted;
    }

read_no_judgment : {symbols : List Symbol} (vs : List Variable) → JudgmentsReadAs symbols vs ([], vs)
read_no_judgment {symbols} vs = record { extends = extends_none vs; sorted = none_sorted }
  where
    none_sorted : (p : Pattern) → Memᴰ p [] → SortedJudgment symbols vs p
    none_sorted p m = elim m [ ]

read_next_judgment : {symbols : List Symbol} {vs : List Variable} {q : Pattern × List Variable} {r : List Pattern × List Variable}
    → JudgmentReadAs symbols vs q
    → JudgmentsReadAs symbols q.1 r
    → JudgmentsReadAs symbols vs (q.0 ∷ r.0, r.1)
read_next_judgment {symbols} {q} {r} x y =
    record {
      extends =
          extends_both x.extends y.extends
          (λ P u. (u q.0 (mathlib.Core.List.Memᴰ.head refl), λ p m. u p (mathlib.Core.List.Memᴰ.tail m)));
      sorted = λ p m. sorted_one m;
    }
  where
    sorted_one : {p : Pattern} → Memᴰ p (q.0 ∷ r.0) → SortedJudgment symbols r.1 p
    sorted_one (mathlib.Core.List.Memᴰ.head e) =
        subst (SortedJudgment symbols r.1) (sym e) (judgment_in_more (λ c m. m) y.extends.grow x.sorted)
    sorted_one (mathlib.Core.List.Memᴰ.tail m) = y.sorted _ m

module _ (th : Theory) where
  read_constant_pattern : (name s : Name) (vs : List Variable) {q : Pattern × List Variable} → Rulebook.constant_pattern th name s vs ≡ ok q
      → ReadAs th.symbols vs s q
  unfolding Rulebook.constant_pattern
  read_constant_pattern name s vs e =
      afterᵣ _ e λ c e₁ e₂.
      after_needᵣ _ _ _ e₂ λ f e₃.
      subst (ReadAs th.symbols vs s) (ok_equal e₃)
      (read_pattern_over name s zero c (constructor_declared_lem th name e₁) f (read_no_arguments c (sort s) f))

  mutual
    unfolding Rulebook.pattern

    read_pattern : (x : Sexp) (s : Name) (vs : List Variable) {q : Pattern × List Variable} → Rulebook.pattern th x s vs ≡ ok q
        → ReadAs th.symbols vs s q
    read_pattern (leaf name) s vs e =
        chosen (questioned name) e (λ p e₁. read_variable_pattern th.symbols name s vs e₁) (λ p e₁. read_constant_pattern name s vs e₁)
    read_pattern (list xs) s vs e = read_compound_pattern xs s vs e

    read_compound_pattern : (xs : Sexps) (s : Name) (vs : List Variable) {q : Pattern × List Variable} → Rulebook.compound_pattern th xs s vs ≡ ok q
        → ReadAs th.symbols vs s q
    read_compound_pattern []ₛ s vs e = not_ok e
    read_compound_pattern (x ∷ₛ xs) s vs e =
        afterᵣ _ e λ name e₁ e₂.
        after_needᵣ _ _ _ e₂ λ p e₃.
        afterᵣ _ e₃ λ c e₄ e₅.
        after_needᵣ _ _ _ e₅ λ f e₆.
        afterᵣ _ e₆ λ q e₇ e₈.
        subst (ReadAs th.symbols vs s) (ok_equal e₈)
        (read_pattern_over name s (Rulebook.count xs) c (constructor_declared_lem th name e₄) f (read_patterns xs (Rulebook.inputs c) vs e₇))

    read_patterns : (xs : Sexps) (ss : List Name) (vs : List Variable) {q : Patterns × List Variable} → Rulebook.patterns th xs ss vs ≡ ok q
        → AllReadAs th.symbols vs ss q
    read_patterns []ₛ [] vs e = subst (AllReadAs th.symbols vs []) (ok_equal e) record { extends = extends_none vs; sorted = no_pattern }
    read_patterns []ₛ (s ∷ ss) vs e = not_ok e
    read_patterns (x ∷ₛ xs) [] vs e = not_ok e
    read_patterns (x ∷ₛ xs) (s ∷ ss) vs e =
        afterᵣ _ e λ q e₁ e₂.
        afterᵣ _ e₂ λ r e₃ e₄.
        subst (AllReadAs th.symbols vs (s ∷ ss)) (ok_equal e₄) (read_next_pattern (read_pattern x s vs e₁) (read_patterns xs ss q.1 e₃))

  read_judgment_members : (xs : Sexps) (vs : List Variable) {q : Pattern × List Variable} → Rulebook.judgment_members th xs vs ≡ ok q
      → JudgmentReadAs th.symbols vs q
  unfolding Rulebook.judgment_members
  read_judgment_members []ₛ vs e = not_ok e
  read_judgment_members (x ∷ₛ xs) vs e =
      afterᵣ _ e λ name e₁ e₂.
      afterᵣ _ e₂ λ c e₃ e₄.
      after_needᵣ _ _ _ e₄ λ f e₅.
      afterᵣ _ e₅ λ q e₆ e₇.
      subst (JudgmentReadAs th.symbols vs) (ok_equal e₇)
      (read_judgment_over name c (predicate_declared_lem th name e₃) (read_patterns xs (Rulebook.inputs c) vs e₆))

  pub read_judgment_pattern : (x : Sexp) (vs : List Variable) {q : Pattern × List Variable} → Rulebook.judgment_pattern th x vs ≡ ok q
      → JudgmentReadAs th.symbols vs q
  unfolding Rulebook.judgment_pattern
  read_judgment_pattern x vs e = afterᵣ _ e λ xs e₁ e₂. read_judgment_members xs vs e₂

  pub read_judgment_patterns : (xs : Sexps) (vs : List Variable) {q : List Pattern × List Variable} → Rulebook.judgment_patterns th xs vs ≡ ok q
      → JudgmentsReadAs th.symbols vs q
  unfolding Rulebook.judgment_patterns
  read_judgment_patterns []ₛ vs e =
      subst (JudgmentsReadAs th.symbols vs) (ok_equal e) (read_no_judgment vs)
  read_judgment_patterns (x ∷ₛ xs) vs e =
      afterᵣ _ e λ q e₁ e₂.
      afterᵣ _ e₂ λ r e₃ e₄.
      subst (JudgmentsReadAs th.symbols vs) (ok_equal e₄)
      (read_next_judgment (read_judgment_pattern x vs e₁) (read_judgment_patterns xs q.1 e₃))
