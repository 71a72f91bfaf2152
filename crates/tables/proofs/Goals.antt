-- Goals: what keeps them, and what adding, finding and closing one does. Assumes nothing.
use mathlib.Core.Path.{◌≡◌, refl, ap, sym, ◌∙◌}
use mathlib.Core.Bool.{Bool, true, false, true≢false}
use mathlib.Core.List.{List, [], ◌∷◌, ◌++◌, Memᴰ}
use mathlib.Core.Option.{Option, none, some}
use Prim.Native.Nat.{ℕ, suc, ◌+◌, ◌*◌, ◌≤◌, ◌<◌}
use native.Mathlib.Omega.{arith}
use borrow.Author.Tests.{leb-true, leb-false}
use lib.Dec.{leb}
use lib.ListN.{length, get_or, set, length-set}
use lib.Seq.{get_or-set_same, get_or-set_other}
use Rattle.words.specs.Parts.{part}
use Rattle.capacity.specs.Below.horn.specs.Names.{Name, named, first, some_of}
use Rattle.capacity.specs.Below.horn.specs.StoredTerms.{Term}
use Rattle.capacity.specs.Below.horn.specs.Checker.{Goal, goal, is_goal}
use Rattle.capacity.specs.Below.horn.specs.Certificate.{Witness, witness, without}
use Rattle.capacity.specs.Below.horn.specs.Page.{is_result_of}
use Rattle.capacity.specs.Below.horn.proofs.Equality.{case, named_decides, decides_false, differ, first-some}
use Rattle.names.specs.Tables.{Entry, entry, top, Stands, other_kind, declared, Owns, bucket_word, entry_word, Agree, both_none, both_some, present, nothing_yet}
use Rattle.names.proofs.Kept.{kept_within, kept_put, kept_set, add_law}
use Rattle.names.proofs.Declared.{stands_kept, find_agrees, find_present, first_last, first_before}
use Rattle.tables.specs.Words.{goal_buckets, entry_words, value_offset, closed_from, entered, goal_found, open_at, goal_open}
use Rattle.tables.specs.Representation.{Sits, here, there, GoalsAt, no_goal, still_open, is_closed, Goals, OpenAt, OpenAgree}
use Rattle.tables.specs.Representation.{none_open, one_open}
use Rattle.names.specs.Below.facts.proofs.Lists.{one_more}
use Rattle.tables.proofs.Areas.{Same, length-entered, entered-value, entered_same}

-- Addresses: bounds, and a list with one thing more.
pub sits_bounds : {A : Type 0} {b e : ℕ} {things : List A} {a : A} → Sits b things e a → (b ≤ e) × (e + entry_words ≤ b + entry_words * length things)
sits_bounds (here h) = (omega arith, omega arith)
sits_bounds (there s) = let k = sits_bounds s in (omega arith, omega arith)

pub sits_more : {A : Type 0} {b e : ℕ} {things : List A} {a : A} (more : List A) → Sits b things e a → Sits b (things ++ more) e a
sits_more more (here h) = here h
sits_more more (there s) = there (sits_more more s)

pub sits_last : {A : Type 0} (b e : ℕ) (things : List A) (a : A) → e ≡ b + entry_words * length things → Sits b (things ++ (a ∷ [])) e a
sits_last b e [] a h = here {b = b} {e = e} (omega arith)
sits_last b e (c ∷ things) a h = there (sits_last (b + entry_words) e things a (omega arith))

at_same : (table : List ℕ) (i k : ℕ) → i ≡ k → get_or table i 0 ≡ get_or table k 0
at_same table i k h = rw h

-- Names that differ, either way round.
other_name : (a b : Name) → named a b ≡ false → named b a ≡ false
other_name a b h = decides_false named_decides b a (λ e. differ named_decides a b h (sym e))

-- A test that some thing of a list passes.
pub none_of_more : {A : Type 0} (test : A → Bool) (xs : List A) (a : A) → some_of test xs ≡ false → test a ≡ false → some_of test (xs ++ (a ∷ [])) ≡ false
unfolding some_of
none_of_more test [] a h k = rw (k, some_of)
none_of_more test (x ∷ xs) a h k =
    case (test x)
    (λ p. absurd (true≢false (sym (rw (p, some_of)) ∙ h)))
    (λ p. rw (p, some_of) (none_of_more test xs a (rw (p, some_of) at h) k))

none_of_head : {A : Type 0} (test : A → Bool) (x : A) (xs : List A) → some_of test (x ∷ xs) ≡ false → (test x ≡ false) × (some_of test xs ≡ false)
unfolding some_of
none_of_head test x xs h =
    case (test x)
    (λ p. absurd (true≢false (sym (rw (p, some_of)) ∙ h)))
    (λ p. (p, rw (p, some_of) at h))

none_of_sitting : {A : Type 0} (test : A → Bool) {b e : ℕ} {things : List A} {a : A} → Sits b things e a → some_of test things ≡ false → test a ≡ false
none_of_sitting test {a} (here {things} h) n = (none_of_head test a things n).0
none_of_sitting test (there {c} {things} s) n = none_of_sitting test s (none_of_head test c things n).1

-- The result of another name changes nothing, that of a name which has none yet is found.
other_result : (results : List Witness) (other name : Name) (n : ℕ) → named other name ≡ false
    → first (is_result_of other) (results ++ (witness name n ∷ [])) ≡ first (is_result_of other) results
unfolding is_result_of
other_result results other name n d = first_before (is_result_of other) (witness name n) results d

own_result : (results : List Witness) (name : Name) (n : ℕ) → first (is_result_of name) results ≡ none
    → first (is_result_of name) (results ++ (witness name n ∷ [])) ≡ some (witness name n)
unfolding is_result_of
own_result results name n o = first_last (is_result_of name) (witness name n) results o (named_decides.same name)

module _ {Means : ℕ → Term → Type 0} {results : List Witness} where
  -- What keeps the values of goals.
  pub values_kept : {table table' : List ℕ} {b : ℕ} {goals open_goals : List Goal} → GoalsAt table Means results b goals open_goals
      → ((i : ℕ) → b ≤ i → i < b + entry_words * length goals → get_or table' i 0 ≡ get_or table i 0)
      → GoalsAt table' Means results b goals open_goals
  values_kept no_goal k = no_goal
  values_kept (still_open {b} (v, l, o) m n g) k =
      still_open (k (b + value_offset) (omega arith) (omega arith) ∙ v, l, o) m n (values_kept g (λ i l h. k i (omega arith) (omega arith)))
  values_kept (is_closed {b} (v, c) n g) k =
      is_closed (k (b + value_offset) (omega arith) (omega arith) ∙ v, c) n (values_kept g (λ i l h. k i (omega arith) (omega arith)))

  -- Where a name is no goal's, it is no open goal's.
  pub name_not_open : {table : List ℕ} {b : ℕ} {goals open_goals : List Goal} (key : Name) → GoalsAt table Means results b goals open_goals
      → some_of (is_goal key) goals ≡ false
      → first (is_goal key) open_goals ≡ none
  unfolding first
  name_not_open key no_goal n = refl
  name_not_open key (still_open {name} {j} {goals} {open_goals} v m f g) n =
      let (x, y) = none_of_head (is_goal key) (goal name j) goals n in rw (x, first) (name_not_open key g y)
  name_not_open key (is_closed {name} {j} {goals} v f g) n = name_not_open key g (none_of_head (is_goal key) (goal name j) goals n).1

  -- A goal's value says whether it is open.
  pub closed_is_none : {table : List ℕ} {b e : ℕ} {goals open_goals : List Goal} {name : Name} {j : Term} → GoalsAt table Means results b goals open_goals
      → Sits b goals e (goal name j)
      → closed_from ≤ get_or table (e + value_offset) 0
      → first (is_goal name) open_goals ≡ none
  unfolding first is_goal
  closed_is_none {table} {e} (still_open {b} {w} (v, l, o) m f g) (here h) z =
      let u = at_same table (e + value_offset) (b + value_offset) (omega arith) in absurd (omega arith)
  closed_is_none (no_goal) x9 z = elim x9 [ ]
  closed_is_none {name} (still_open {name = other} v m f g) (there s) z =
      let x : named name other ≡ false = other_name other name (none_of_sitting (is_goal other) s f) in
      rw (x, first) (closed_is_none g s z)
  closed_is_none {name} (is_closed {goals} v f g) (here h) z = name_not_open name g f
  closed_is_none (is_closed v f g) (there s) z = closed_is_none g s z

  pub open_is_some : {table : List ℕ} {b e : ℕ} (v : ℕ) {goals open_goals : List Goal} {name : Name} {j : Term}
      → GoalsAt table Means results b goals open_goals
      → Sits b goals e (goal name j)
      → (get_or table (e + value_offset) 0 ≡ v) × (v < closed_from)
      → (first (is_goal name) open_goals ≡ some (goal name j)) × Means v j
  unfolding first is_goal
  open_is_some {table} {e} v {name} {j} (still_open {b} {w} (u, l, o) m f g) (here h) (z, y) =
      let q = at_same table (e + value_offset) (b + value_offset) (omega arith) in
      let k : w ≡ v = omega arith in
      (rw (named_decides.same name, first), rw (← k) m)
  open_is_some v (no_goal) x9 z = elim x9 [ ]
  open_is_some v {name} (still_open {name = other} u m f g) (there s) z =
      let x : named name other ≡ false = other_name other name (none_of_sitting (is_goal other) s f) in
      let (p, q) = open_is_some v g s z in
      (rw (x, first) p, q)
  open_is_some {table} {e} v (is_closed {b} {n} (u, c) f g) (here h) (z, y) =
      let q = at_same table (e + value_offset) (b + value_offset) (omega arith) in absurd (omega arith)
  open_is_some v (is_closed u f g) (there s) z = open_is_some v g s z

  -- A name that no goal has is not taken out.
  without_none : {table : List ℕ} {b : ℕ} {goals open_goals : List Goal} (key : Name) → GoalsAt table Means results b goals open_goals
      → some_of (is_goal key) goals ≡ false
      → without key open_goals ≡ open_goals
  unfolding without
  without_none key no_goal n = refl
  without_none key (still_open {name} {j} {goals} {open_goals} v m f g) n =
      let (x, y) = none_of_head (is_goal key) (goal name j) goals n in
      rw (x, without) (ap (λ (gs : List Goal). goal name j ∷ gs) (without_none key g y))
  without_none key (is_closed {name} {j} {goals} v f g) n = without_none key g (none_of_head (is_goal key) (goal name j) goals n).1

  values_more : {table : List ℕ} {b : ℕ} {goals open_goals : List Goal} (name : Name) (n : ℕ) → GoalsAt table Means results b goals open_goals
      → some_of (is_goal name) goals ≡ false
      → GoalsAt table Means (results ++ (witness name n ∷ [])) b goals open_goals
  unfolding is_goal
  values_more name n no_goal k = no_goal
  values_more name n (still_open {name = other} {j} {goals} (v, l, o) m f g) k =
      let (x, y) = none_of_head (is_goal name) (goal other j) goals k in
      still_open (v, l, other_result results other name n (other_name name other x) ∙ o) m f (values_more name n g y)
  values_more name n (is_closed {name = other} {j} {goals} (v, c) f g) k =
      let (x, y) = none_of_head (is_goal name) (goal other j) goals k in
      is_closed (v, other_result results other name n (other_name name other x) ∙ c) f (values_more name n g y)

  -- Closing an open goal: its value says its result's step, and it is taken out of the open ones, which are one fewer.
  pub values_close : {table : List ℕ} {b e : ℕ} (v n c : ℕ) {goals open_goals : List Goal} {name : Name} {j : Term}
      → GoalsAt table Means results b goals open_goals
      → Sits b goals e (goal name j)
      → (get_or table (e + value_offset) 0 ≡ v) × (v < closed_from)
      → e + entry_words ≤ length table
      → c ≡ closed_from + n
      → GoalsAt (set table (e + value_offset) c) Means (results ++ (witness name n ∷ [])) b goals (without name open_goals)
      × (length open_goals ≡ length (without name open_goals) + 1)
  unfolding without is_goal
  values_close {table} {e} v n c {name} {j} (still_open {b} {w} {goals} {open_goals} (u, k, o) m f g) (here h) z l d =
      rw (named_decides.same name, without, without_none name g f) (
        is_closed (
          at_same (set table (e + value_offset) c) (b + value_offset) (e + value_offset) (omega arith)
              ∙ get_or-set_same table (e + value_offset) c 0 (omega arith) ∙ d,
          own_result results name n o,
        ) f
            (values_more name n (values_kept g (λ i x y. get_or-set_other table (e + value_offset) i c 0 (λ q. omega arith))) f),
        omega arith,
      )
  values_close v n c (no_goal) x17 z l d = elim x17 [ ]
  values_close {table} {e} v n c {name} {j} (still_open {b} {w} {name = other} {j = i} {goals} {open_goals} (u, k, o) m f g) (there s) z l d =
      let y : named other name ≡ false = none_of_sitting (is_goal other) s f in
      let x : named name other ≡ false = other_name other name y in
      let (low, high) = sits_bounds s in
      let (p, q) = values_close v n c g s z l d in
      rw (x, without)
      (still_open {w = w} (get_or-set_other table (e + value_offset) (b + value_offset) c 0 (λ q. omega arith) ∙ u, k, other_result results other name n y ∙ o) m f p, omega arith)
  values_close {table} {e} v n c (is_closed {b} {n = i} (u, r) f g) (here h) (z, y) l d =
      let q = at_same table (e + value_offset) (b + value_offset) (omega arith) in absurd (omega arith)
  values_close {table} {e} v n c {name} (is_closed {b} {name = other} (u, r) f g) (there s) z l d =
      let y : named other name ≡ false = none_of_sitting (is_goal other) s f in
      let (low, high) = sits_bounds s in
      let (p, q) = values_close v n c g s z l d in
      (is_closed (get_or-set_other table (e + value_offset) (b + value_offset) c 0 (λ q. omega arith) ∙ u, other_result results other name n y ∙ r) f p, q)

-- One goal more, whose name is new, before any result.
pub values_add : {Means : ℕ → Term → Type 0} {table : List ℕ} {b : ℕ} {goals open_goals : List Goal} (w : ℕ) (name : Name) (j : Term)
    → GoalsAt table Means [] b goals open_goals
    → get_or table (b + entry_words * length goals + value_offset) 0 ≡ w
    → w < closed_from
    → Means w j
    → some_of (is_goal name) goals ≡ false
    → GoalsAt table Means [] b (goals ++ (goal name j ∷ [])) (open_goals ++ (goal name j ∷ []))
unfolding is_goal some_of first
values_add {table} w name j (no_goal {b}) v l m n =
    still_open {b = b} {w = w} (at_same table (b + value_offset) (b + entry_words * 0 + value_offset) (omega arith) ∙ v, l, refl) m refl no_goal
values_add {table} w name j (still_open {b} {name = other} {j = i} {goals} u k f g) v l m n =
    let (x, y) = none_of_head (is_goal name) (goal other i) goals n in
    still_open u k (none_of_more (is_goal other) goals (goal name j) f (other_name name other x))
    (values_add w name j g
    (at_same table (b + entry_words + entry_words * length goals + value_offset) (b + entry_words * suc (length goals) + value_offset) (omega arith) ∙ v) l m y)
values_add {table} w name j (is_closed {b} {name = other} {j = i} {goals} u f g) v l m n =
    let (x, y) = none_of_head (is_goal name) (goal other i) goals n in
    is_closed u (none_of_more (is_goal other) goals (goal name j) f (other_name name other x))
    (values_add w name j g
    (at_same table (b + entry_words + entry_words * length goals + value_offset) (b + entry_words * suc (length goals) + value_offset) (omega arith) ∙ v) l m y)

module _ {text table : List ℕ} {base : ℕ} {Means : ℕ → Term → Type 0} {goals open_goals : List Goal} {results : List Witness} where
  -- Whatever keeps the buckets of goals and the goals' words keeps the goals.
  pub goals_kept : (table' : List ℕ) → Goals text table base Means goals open_goals results
      → length table' ≡ length table
      → Same table table' 0 goal_buckets
      → Same table table' base (base + entry_words * length goals)
      → Goals text table' base Means goals open_goals results
  goals_kept table' g l h k =
      let b = g.below in
      let n = g.inside in
      record {
        entries = g.entries;
        names = kept_within table' g.names l (λ i x y. h.words i x y) (λ i x y. k.words i x (omega arith));
        below = b;
        inside = omega arith;
        stands = g.stands;
        values = values_kept g.values (λ i x y. k.words i x y);
      }

-- One goal more, before any result.
module _ {text table : List ℕ} {base : ℕ} {Means : ℕ → Term → Type 0} {goals open_goals : List Goal} where
  pub goals_add : (s t w : ℕ) (j : Term) → Goals text table base Means goals open_goals []
      → base + entry_words * length goals + entry_words ≤ length table
      → s < 4294967296
      → t < 4294967296
      → w < closed_from
      → Means w j
      → some_of (is_goal (part s t text)) goals ≡ false
      → Goals text (entered 0 goal_buckets (base + entry_words * length goals) text s t w table) base Means
      (goals ++ (goal (part s t text) j ∷ [])) (open_goals ++ (goal (part s t text) j ∷ [])) []
  unfolding top is_goal entered
  goals_add s t w j g room x y z m n =
      let e : ℕ = base + entry_words * length goals in
      let name : Name = part s t text in
      let new : List Goal = goal name j ∷ [] in
      let f = g.names.buckets_first in
      let o = one_more goals (goal name j) in
      let c = length-entered table 0 goal_buckets e text s t w in
      record {
        entries = entry e name ∷ g.entries;
        names = kept_put (e + value_offset) w (add_law e s t g.names g.below (omega arith) x y) (omega arith);
        below = omega arith;
        inside = omega arith;
        stands = declared refl (λ key. refl) (sits_last base e goals (goal name j) refl) n
            (stands_kept is_goal (Sits base goals) (Sits base (goals ++ new)) g.stands (λ d other a p q. sits_more new q));
        values =
            values_add w name j
            (values_kept g.values (λ i l h. (entered_same table 0 goal_buckets e text s t w (omega arith) base e (omega arith) (omega arith)).words i l h))
            (entered-value table 0 goal_buckets e text s t w (omega arith)) z m n;
      }

-- An address that stands for something.
pub stands_means : {A : Type 0} {test : Name → A → Bool} {M : ℕ → A → Type 0} {entries : List Entry} {things : List A} {e : ℕ} {name : Name}
    → Stands test M entries things
    → Memᴰ (entry e name) entries
    → (a : A) × M e a
stands_means (other_kind q n s) m = stands_means s m
stands_means nothing_yet m = elim m [ ]
stands_means {M} {e} (declared {a} {e = d} q n k f s) (Memᴰ.head m) = let h : e ≡ d = cc in (a, rw h k)
stands_means (declared q n k f s) (Memᴰ.tail m) = stands_means s m

-- Entries are four words apart.
sits_apart : {A : Type 0} {b d e : ℕ} {things : List A} {a c : A} → Sits b things d a → Sits b things e c → d ≤ e + value_offset
    → e + value_offset < d + value_offset → ⊥
sits_apart (here h) (here k) l r = omega arith
sits_apart (here h) (there k) l r = let (x, y) = sits_bounds k in omega arith
sits_apart (there h) (here k) l r = let (x, y) = sits_bounds h in omega arith
sits_apart (there h) (there k) l r = sits_apart h k l r

-- The cases of an agreement, with what they equate.
pub agreed {ℓ} : {A : Type 0} {C : Type ℓ} {M : ℕ → A → Type 0} {o : Option ℕ} {p : Option A} → Agree M o p
    → (o ≡ none → p ≡ none → C)
    → ((e : ℕ) (a : A) → o ≡ some e → p ≡ some a → M e a → C)
    → C
agreed both_none f g = f refl refl
agreed (both_some {e} {a} m) f g = g e a refl refl m

module _ {text table : List ℕ} {base : ℕ} {Means : ℕ → Term → Type 0} {goals open_goals : List Goal} {results : List Witness}
    (g : Goals text table base Means goals open_goals results) where
  -- The test for duplicates.
  pub goal_known : (key : Name) → present (goal_found text key table) ≡ some_of (is_goal key) goals
  unfolding goal_found
  goal_known key = find_present is_goal (Sits base goals) key g.names g.stands

  open_by : (key : Name) (e : ℕ) (a : Goal) → is_goal key a ≡ true → Sits base goals e a
      → OpenAgree table base Means goals key (open_at table e) (first (is_goal key) open_goals)
  unfolding open_at is_goal
  open_by key e (goal name j) h s =
      let k : key ≡ name = named_decides.equal key name h in
      let s' : Sits base goals e (goal key j) = rw k s in
      case (leb closed_from (get_or table (e + value_offset) 0))
      (λ z. rw (z, open_at, closed_is_none g.values s' (leb-true _ _ z)) none_open)
      (λ z.
      let v : (get_or table (e + value_offset) 0 ≡ get_or table (e + value_offset) 0) × (get_or table (e + value_offset) 0 < closed_from)
      = (refl, leb-false closed_from (get_or table (e + value_offset) 0) z) in
      let (p, m) = open_is_some (get_or table (e + value_offset) 0) g.values s' v in
      rw (z, open_at, p) (one_open (record { judgment = j; is_goal_lem = refl; sits = s'; value = v; means = m })))

  -- The search for a goal still open is the definition's.
  pub open_agrees : (key : Name) → OpenAgree table base Means goals key (goal_open text key table) (first (is_goal key) open_goals)
  unfolding goal_open goal_found
  open_agrees key =
      agreed (find_agrees is_goal (Sits base goals) key g.names g.stands)
      (λ f n. rw (f, goal_open, name_not_open key g.values (sym (goal_known key) ∙ ap present f)) none_open)
      (λ e a f n s. rw (f, goal_open) (open_by key e a (first-some (is_goal key) goals n).1 s))

  -- Closing an open goal.
  pub goals_close : (key : Name) (e w n c : ℕ) (a : Goal) → OpenAt table base Means goals key e w a
      → c ≡ closed_from + n
      → Goals text (set table (e + value_offset) c) base Means goals (without key open_goals) (results ++ (witness key n ∷ []))
      × (length open_goals ≡ length (without key open_goals) + 1)
  goals_close key e w n c a o d =
      let s : Sits base goals e (goal key o.judgment) = rw o.is_goal_lem at o.sits in
      let (low, high) = sits_bounds s in
      let inside = g.inside in
      let f = g.names.buckets_first in
      let (p, q) = values_close w n c g.values s o.value (omega arith) d in (
        record {
          entries = g.entries;
          names = kept_set (e + value_offset) c g.names (not_owned s);
          below = g.below;
          inside = rw (length-set table (e + value_offset) c) g.inside;
          stands = g.stands;
          values = p;
        },
        q,
      ) where
        not_owned : {j : Term} → Sits base goals e (goal key j) → Owns 0 goal_buckets g.entries (e + value_offset) → ⊥
        not_owned s (bucket_word l h) = let (low, high) = sits_bounds s in let f = g.names.buckets_first in omega arith
        not_owned s (entry_word m l h) = let (b, t) = stands_means g.stands m in sits_apart t s l h
