-- Matching succeeds on an instance: each variable is bound to the instance's own term. And the lowest step that concludes a judgment is
-- found.
use Prim.Native.Nat.{ℕ, ◌^◌, ◌<◌}
use native.Mathlib.Omega.{arith}
use mathlib.Core.Path.{◌≡◌, refl, sym, ap, ◌∙◌}
use mathlib.Core.List.{List, [], ◌∷◌, ◌++◌, map, Memᴰ}
use mathlib.Core.Option.{Option, none, some}
use lib.ListN.{length, get_elem?}
use Rattle.horn.specs.Refusals.{Result, ok}
use Rattle.horn.specs.Names.{Name, named}
use Rattle.horn.specs.NestedLists.{as_item, as_items, word}
use Rattle.horn.specs.Rulebook.{Pattern, var, app, Patterns, []ₚ, ◌∷ₚ◌}
use Rattle.horn.specs.StoredTerms.{Term, same_term}
use Rattle.horn.specs.Checker.{word_due, number_due}
use Rattle.horn.specs.Matching.{Step, judgment_of, Bind, bind, lookup, match_var, match, matches, match_premises}
use Rattle.horn.specs.Certificate.{references}
use Rattle.horn.specs.Forced.{Assignment, substitute, substitute_all, Each}
use Rattle.horn.specs.Layout.{plain, plain_all, lowest}
use Rattle.horn.proofs.Equality.{case, chosen, chose_true, chose_false, named_decides, same_symbol_decides, same_term_decides}
use Rattle.horn.proofs.Inversion.{none-some, some_equal, onᵣ, found_on}
use Rattle.horn.proofs.CompleteUtf8.{All, all_append}
use Rattle.horn.proofs.CompleteNumbers.{numeral-plain}
use Rattle.horn.proofs.CompleteTerms.{asked_ok}

-- A binding of a variable to the term that an assignment gives it.
abbrev By : Assignment → Bind → Type 0
By σ (bind n t) = t ≡ σ n

lookup_by : (σ : Assignment) (binds : List Bind) (name : Name) {t : Term} → All (By σ) binds → lookup name binds ≡ some t
    → t ≡ σ name
unfolding lookup
lookup_by σ [] name a e = none-some e
lookup_by σ (bind n u ∷ binds) name a e =
    chosen (named name n) e
    (λ p q. sym (some_equal q) ∙ a.0 ∙ ap σ (sym (named_decides.equal name n p)))
    (λ p q. lookup_by σ binds name a.1 q)

pub record Matches (σ : Assignment) (o : Option (List Bind)) : Type 0 where
  pub binds : List Bind
  pub found_some : o ≡ some binds
  pub by : All (By σ) binds

variable_matches : (σ : Assignment) (name : Name) (binds : List Bind) (o : Option Term) → lookup name binds ≡ o → All (By σ) binds
    → Matches σ (match_var name (σ name) binds o)
unfolding match_var
variable_matches σ name binds none e a =
    record {
      binds = binds ++ (bind name (σ name) ∷ []);
      found_some = refl;
      by = all_append (By σ) binds (bind name (σ name) ∷ []) a (refl, tt);
    }
variable_matches σ name binds (some u) e a =
    record {
      binds = binds;
      found_some = chose_true _ _ (ap (same_term (σ name)) (lookup_by σ binds name a e) ∙ same_term_decides.same (σ name));
      by = a;
    }

next_matches : (σ : Assignment) (o : Option (List Bind)) (f : List Bind → Option (List Bind)) → Matches σ o
    → ((binds : List Bind) → All (By σ) binds → Matches σ (f binds))
    → Matches σ (elim o [ none ↦ none | some more ↦ f more ])
next_matches σ o f m k = rw m.found_some (k m.binds m.by)

mutual
  unfolding match substitute

  pub pattern_matches : (p : Pattern) (σ : Assignment) (binds : List Bind) → All (By σ) binds
      → Matches σ (match p (substitute σ p) binds)
  pattern_matches (var name) σ binds a = variable_matches σ name binds (lookup name binds) refl a
  pattern_matches (app c ps) σ binds a =
      let m = patterns_match ps σ binds a in
      record { binds = m.binds; found_some = chose_true _ _ (same_symbol_decides.same c) ∙ m.found_some; by = m.by }

  patterns_match : (ps : Patterns) (σ : Assignment) (binds : List Bind) → All (By σ) binds
      → Matches σ (matches ps (substitute_all σ ps) binds)
  patterns_match []ₚ σ binds a = record { binds = binds; found_some = refl; by = a }
  patterns_match (p ∷ₚ ps) σ binds a =
      next_matches σ (match p (substitute σ p) binds) (λ more. matches ps (substitute_all σ ps) more)
      (pattern_matches p σ binds a) (λ more b. patterns_match ps σ more b)

-- The lowest step that concludes a judgment.
pub record LowestStep (steps : List Step) (j : Term) : Type 0 where
  pub at : Step
  pub there : get_elem? steps (lowest (map judgment_of steps) j) ≡ some at
  pub concludes : judgment_of at ≡ j

pub lowest_step : (steps : List Step) (j : Term) → Memᴰ j (map judgment_of steps) → LowestStep steps j
unfolding lowest
lowest_step (s ∷ steps) j (Memᴰ.head e) =
    record {
      at = s;
      there =
          ap (get_elem? (s ∷ steps))
          (chose_true _ _ (ap (λ x. same_term x j) (sym e) ∙ same_term_decides.same j));
      concludes = sym e;
    }
lowest_step [] j x' = elim x' [ ]
lowest_step (s ∷ steps) j (Memᴰ.tail m) =
    case (same_term (judgment_of s) j)
    (λ p.
    record {
      at = s;
      there = ap (get_elem? (s ∷ steps)) (chose_true _ _ p);
      concludes = same_term_decides.equal (judgment_of s) j p;
    })
    (λ p.
    let c = lowest_step steps j m in
    record {
      at = c.at;
      there = ap (get_elem? (s ∷ steps)) (chose_false _ _ p) ∙ c.there;
      concludes = c.concludes;
    })

pub lowest_below : (cs : List Term) (j : Term) → Memᴰ j cs → lowest cs j < length cs
unfolding lowest
lowest_below (c ∷ cs) j (Memᴰ.head e) =
    rw (ap (λ x. same_term x j) (sym e) ∙ same_term_decides.same j, lowest) (omega arith)
lowest_below [] j x' = elim x' [ ]
lowest_below (c ∷ cs) j (Memᴰ.tail m) =
    let h = lowest_below cs j m in
    case (same_term c j) (λ p. rw (p, lowest) (omega arith)) (λ p. rw (p, lowest) (omega arith))

-- Matching the premises of an instance succeeds, where some step concludes each of them.
pub record Premised (r : Result (List Bind)) : Type 0 where
  pub binds : List Bind
  pub answered : r ≡ ok binds

pub premises_match : (steps : List Step) (σ : Assignment) (ps : List Pattern) (binds : List Bind) → All (By σ) binds
    → Each (λ j. Memᴰ j (map judgment_of steps)) (map (substitute σ) ps)
    → Premised (match_premises steps ps (map (lowest (map judgment_of steps)) (map (substitute σ) ps)) binds)
unfolding match_premises
premises_match steps σ [] binds a e = record { binds = binds; answered = refl }
premises_match steps σ (p ∷ ps) binds a e =
    let c = lowest_step steps (substitute σ p) e.0 in
    let m = pattern_matches p σ binds a in
    let rest = premises_match steps σ ps m.binds m.by e.1 in
    record {
      binds = rest.binds;
      answered =
          onᵣ _ (found_on _ c.there)
          ∙ onᵣ _ (found_on _ (ap (λ j. match p j binds) c.concludes ∙ m.found_some))
          ∙ rest.answered;
    }

-- The references of the layout are read as the numbers that they are.
pub number_due-plain : (n : ℕ) → n < 2 ^ 64 → number_due (word (plain n)) ≡ ok n
unfolding number_due word_due
number_due-plain n h = onᵣ _ refl ∙ found_on _ (numeral-plain n h)

pub references_back : (ns : List ℕ) → All (λ n. n < 2 ^ 64) ns → references (as_items (plain_all ns)) ≡ ok ns
unfolding references plain_all as_item
references_back [] a = refl
references_back (n ∷ ns) a =
    onᵣ _ (asked_ok 2 (omega arith)) ∙ onᵣ _ (number_due-plain n a.0) ∙ onᵣ _ (references_back ns a.1)
