-- Every term that is read is a ground term of some sort, every judgment that is read is well-sorted, and no two goals
-- that are read share a name.
use Prim.Native.Nat.{ℕ}
use mathlib.Core.Path.{◌≡◌, refl, sym, subst, ◌∙◌}
use mathlib.Core.Bool.{true, false, true≢false}
use mathlib.Core.List.{List, [], ◌∷◌, ◌++◌, Memᴰ}
use Rattle.horn.specs.Refusals.{ok}
use Rattle.horn.specs.Setting.{Setting}
use Rattle.horn.specs.Names.{Name}
use Rattle.horn.specs.NestedLists.{Item, Items}
use Rattle.horn.specs.Rulebook.{Symbol, symbol, sort, judgment, inputs, output, Theory, is_constructor, is_predicate}
use Rattle.horn.specs.StoredTerms.{Term, node, Terms, []ₜ, ◌∷ₜ◌, Store, empty_store}
use Rattle.horn.specs.Checker.{Def, is_def, meaning, Goal, goal, is_goal, goals_of, has_sort, accepts}
use Rattle.horn.specs.Forced.{Ground, ground, Grounds, no_ground, ground_then, WellSorted, well_sorted}
use Rattle.horn.proofs.Equality.{both, named_decides, same_output_decides, first-some, some_of_false, in_or_last}
use Rattle.horn.proofs.WasRead.{ReadTerm, read_abbreviation, read_constant, read_compound, ReadTerms, read_none, read_next, ReadJudgment}
use Rattle.horn.proofs.WasRead.{read_judgment, read_goal, ReadGoals, no_goal_read, next_goal_read, text_read}
use Rattle.horn.proofs.SoundnessPatterns.{constructor_declared_lem, predicate_declared_lem}

-- A ground term of some sort, and terms each of which is one.
pub record SomeSort (th : Theory) (t : Term) : Type 0 where
  pub of : Name
  pub is : Ground th of t

pub data AllSomeSort (th : Theory) : Terms → Type 0 where
  no_term : AllSomeSort th []ₜ
  term_then : {t : Term} {ts : Terms} → SomeSort th t → AllSomeSort th ts → AllSomeSort th (t ∷ₜ ts)

-- The test of a term's sort says what its sort is.
of_sort : {th : Theory} {r : Name} {t : Term} (s : Name) → Ground th r t → has_sort s t ≡ true → Ground th s t
unfolding has_sort output
of_sort {th} s (ground {name = n} {s = r} {ins = ins} {ts = ts} m gs) e =
    let same = same_output_decides.equal (sort r) (sort s) e in
    let same_sort : r ≡ s = cc in
    subst (λ z. Ground th z (node (symbol n ins (sort r)) ts)) same_sort (ground m gs)

pub has_sort_ground : {th : Theory} {t : Term} (s : Name) → SomeSort th t → has_sort s t ≡ true → Ground th s t
has_sort_ground s g e = of_sort s g.is e

accepted_grounds : {th : Theory} (ins : List Name) {ts : Terms} → AllSomeSort th ts → accepts ins ts ≡ true → Grounds th ins ts
unfolding accepts
accepted_grounds [] no_term e = no_ground
accepted_grounds [] (term_then g gs) e = absurd (true≢false (sym e))
accepted_grounds (s ∷ ss) no_term e = absurd (true≢false (sym e))
accepted_grounds (s ∷ ss) (term_then {t = t} {ts = ts} g gs) e =
    let (h, r) = both (has_sort s t) (accepts ss ts) e in
    ground_then (has_sort_ground s g h) (accepted_grounds ss gs r)

-- A constructor with accepted arguments is a ground term, a predicate with them a well-sorted judgment.
term_over : {th : Theory} {ts : Terms} (name : Name) (c : Symbol) → Memᴰ c th.symbols × (is_constructor name c ≡ true)
    → accepts (inputs c) ts ≡ true
    → AllSomeSort th ts
    → SomeSort th (node c ts)
unfolding is_constructor inputs
term_over name (symbol n ins (sort s)) (m, is) a gs = record { of = s; is = ground m (accepted_grounds ins gs a) }
term_over name (symbol n ins judgment) (m, is) a gs = absurd (true≢false (sym is))

judgment_over : {th : Theory} {ts : Terms} (name : Name) (c : Symbol) → Memᴰ c th.symbols × (is_predicate name c ≡ true)
    → accepts (inputs c) ts ≡ true
    → AllSomeSort th ts
    → WellSorted th (node c ts)
unfolding is_predicate inputs
judgment_over name (symbol n ins (sort s)) (m, is) a gs = absurd (true≢false (sym is))
judgment_over name (symbol n ins judgment) (m, is) a gs = well_sorted m (accepted_grounds ins gs a)

-- Abbreviations that stand for ground terms.
abbrev pub GroundDefs : Theory → List Def → Type 0
GroundDefs th defs = (d : Def) → Memᴰ d defs → SomeSort th (meaning d)

module _ {limits : Setting} {th : Theory} {defs : List Def} (ground_defs : GroundDefs th defs) where
  mutual
    pub term_sorted : {item : Item} {s s' : Store} {t : Term} → ReadTerm limits th defs item s t s' → SomeSort th t
    term_sorted (read_abbreviation {name = name} {d = d} f same) = subst (SomeSort th) same (ground_defs d (first-some (is_def name) defs f).0)
    term_sorted (read_constant {name = name} {c = c} e a i) = term_over name c (constructor_declared_lem th name e) a no_term
    term_sorted (read_compound {name = name} {c = c} e ts z a i) = term_over name c (constructor_declared_lem th name e) a (terms_sorted ts)

    terms_sorted : {is : Items} {s s' : Store} {ts : Terms} → ReadTerms limits th defs is s ts s' → AllSomeSort th ts
    terms_sorted read_none = no_term
    terms_sorted (read_next t ts) = term_then (term_sorted t) (terms_sorted ts)

  pub judgment_sorted : {name : Name} {is : Items} {s s' : Store} {t : Term} → ReadJudgment limits th defs name is s t s' → WellSorted th t
  judgment_sorted {name} (read_judgment {c = c} e ts a i) = judgment_over name c (predicate_declared_lem th name e) a (terms_sorted ts)

-- No goal has the name of a later one.
abbrev Other : Goal → Goal → Type 0
Other g h = (name : Name) → is_goal name g ≡ true → is_goal name h ≡ true → ⊥

abbrev pub GoalsApart : List Goal → Type 0
GoalsApart [] = Unit
GoalsApart (g ∷ gs) = ((h : Goal) → Memᴰ h gs → Other g h) × GoalsApart gs

other_last : (g : Goal) (n : Name) (j : Term) → is_goal n g ≡ false → Other g (goal n j)
unfolding is_goal
other_last g n j new name p q = true≢false (sym (subst (λ z. is_goal z g ≡ true) (named_decides.equal name n q) p) ∙ new)

goals_apart_more : (gs : List Goal) (n : Name) (j : Term) → ((g : Goal) → Memᴰ g gs → is_goal n g ≡ false) → GoalsApart gs
    → GoalsApart (gs ++ (goal n j ∷ []))
goals_apart_more [] n j new a = (λ h m. elim m [ ], tt)
goals_apart_more (g ∷ gs) n j new a = (
  λ h m. in_or_last gs m (a.0 h) (λ last. subst (Other g) (sym last) (other_last g n j (new g (Memᴰ.head refl)))),
  goals_apart_more gs n j (λ h m. new h (Memᴰ.tail m)) a.1,
)

goals_apart_read : {limits : Setting} {th : Theory} {goals more : List Goal} {is : Items} {s s' : Store} → ReadGoals limits th goals is s more s'
    → GoalsApart goals
    → GoalsApart more
goals_apart_read no_goal_read a = a
goals_apart_read {goals} (next_goal_read (read_goal {name = n} {j = j} new r) rs) a =
    goals_apart_read rs (goals_apart_more goals n j (some_of_false (is_goal n) goals new) a)

-- No goal of a text that was read has the name of a later one.
pub text_apart : (limits : Setting) (th : Theory) (text : List ℕ) {store : Store} {goals : List Goal} → goals_of limits th text empty_store ≡ ok (goals, store)
    → GoalsApart goals
text_apart limits th text e = goals_apart_read (text_read limits th text e).1 tt

-- Where no goal has the name of a later one, two goals of one name are one goal.
abbrev pub OneEach : List Goal → Type 0
OneEach goals = (name : Name) (g h : Goal) → Memᴰ g goals → Memᴰ h goals → is_goal name g ≡ true → is_goal name h ≡ true → g ≡ h

pub apart_one_each : (goals : List Goal) → GoalsApart goals → OneEach goals
apart_one_each (x ∷ gs) a name g h (Memᴰ.head e) (Memᴰ.head f) p q = e ∙ sym f
apart_one_each [] a name g h x5 _ p q = elim x5 [ ]
apart_one_each (x ∷ gs) a name g h (Memᴰ.head e) (Memᴰ.tail n) p q = absurd (a.0 h n name (subst (λ z. is_goal name z ≡ true) e p) q)
apart_one_each (x ∷ gs) a name g h (Memᴰ.tail m) (Memᴰ.head f) p q = absurd (a.0 g m name (subst (λ z. is_goal name z ≡ true) f q) p)
apart_one_each (x ∷ gs) a name g h (Memᴰ.tail m) (Memᴰ.tail n) p q = apart_one_each gs a.1 name g h m n p q
