-- Steps: what keeps them, and what adding and reading one does. Assumes nothing.
use mathlib.Core.Path.{◌≡◌, sym, ◌∙◌}
use mathlib.Core.List.{List, [], ◌∷◌, ◌++◌}
use mathlib.Core.Option.{none}
use Prim.Native.Nat.{ℕ, ◌+◌, ◌*◌, ◌-◌, ◌≤◌, ◌<◌}
use native.Mathlib.Nat.{mod-eq_of_lt, add-zero}
use native.Mathlib.Omega.{arith}
use borrow.Author.Tests.{le-leb, leb-true, leb-false}
use lib.Dec.{leb}
use lib.ListN.{length, get_or, set, get_elem?, length-set}
use lib.Seq.{get_or-set_same, get_or-set_other}
use Rattle.capacity.specs.Below.horn.specs.Matching.{Step}
use Rattle.capacity.specs.Below.horn.proofs.Equality.{case, at_below, at_there}
use Rattle.capacity.specs.Below.horn.proofs.Inversion.{some_equal}
use Rattle.names.proofs.Holds.{by_number}
use Rattle.words.specs.Sums.{low32}
use Rattle.tables.specs.Words.{step_words, step_at, step_added, step_word}
use Rattle.tables.specs.declared.Tally.{Tally}
use Rattle.tables.specs.Representation.{StepAt, Steps, StepAgree, no_step, one_step}
use Rattle.names.specs.Below.facts.proofs.Lists.{one_more, last_is, before_last, beyond}
use Rattle.tables.proofs.Areas.{Same}

-- Four words in a row.
module _ (table : List ℕ) (a j r p q : ℕ) where
  abbrev one : List ℕ
  one = set table a j

  abbrev two : List ℕ
  two = set one (a + 1) r

  abbrev three : List ℕ
  three = set two (a + 2) p

  abbrev four : List ℕ
  four = set three (a + 3) q

  four-length : length four ≡ length table
  four-length = simp length-set

  four_other : (i : ℕ) → (a ≤ i → i < a + step_words → ⊥) → get_or four i 0 ≡ get_or table i 0
  four_other i n =
      get_or-set_other three (a + 3) i q 0 (λ z. n (omega arith) (omega arith))
      ∙ get_or-set_other two (a + 2) i p 0 (λ z. n (omega arith) (omega arith))
      ∙ get_or-set_other one (a + 1) i r 0 (λ z. n (omega arith) (omega arith))
      ∙ get_or-set_other table a i j 0 (λ z. n (omega arith) (omega arith))

  module _ (fits : a + step_words ≤ length table) where
    four_first : get_or four a 0 ≡ j
    four_first =
        get_or-set_other three (a + 3) a q 0 (λ z. omega arith)
        ∙ get_or-set_other two (a + 2) a p 0 (λ z. omega arith)
        ∙ get_or-set_other one (a + 1) a r 0 (λ z. omega arith)
        ∙ get_or-set_same table a j 0 (omega arith)

    four_second : get_or four (a + 1) 0 ≡ r
    four_second =
        get_or-set_other three (a + 3) (a + 1) q 0 (λ z. omega arith)
        ∙ get_or-set_other two (a + 2) (a + 1) p 0 (λ z. omega arith)
        ∙ get_or-set_same one (a + 1) r 0 (simp length-set (omega arith))

    four_third : get_or four (a + 2) 0 ≡ p
    four_third = get_or-set_other three (a + 3) (a + 2) q 0 (λ z. omega arith) ∙ get_or-set_same two (a + 2) p 0 (simp length-set (omega arith))

    four_fourth : get_or four (a + 3) 0 ≡ q
    four_fourth = get_or-set_same three (a + 3) q 0 (simp length-set (omega arith))

-- One step more: the words of all others stay.
module _ (table : List ℕ) (j r place tested : ℕ) (tally : Tally) where
  pub step_added_length : length (step_added j r place tested tally table) ≡ length table
  unfolding step_added
  step_added_length = four-length table (step_at (length table) tally.steps) j r (low32 place) (low32 tested)

  pub step_added_below : (low high : ℕ) → high + step_words * (tally.steps + 1) ≤ length table → Same table (step_added j r place tested tally table) low high
  unfolding step_added step_at
  step_added_below low high h =
      record { words = λ i l k. four_other table (length table - step_words * (tally.steps + 1)) j r (low32 place) (low32 tested) i (λ x y. omega arith) }

  step_added_above : (low high : ℕ) → step_words * (tally.steps + 1) ≤ length table → length table ≤ low + step_words * tally.steps
      → Same table (step_added j r place tested tally table) low high
  unfolding step_added step_at
  step_added_above low high f h =
      record { words = λ i l k. four_other table (length table - step_words * (tally.steps + 1)) j r (low32 place) (low32 tested) i (λ x y. omega arith) }

  step_newest : step_words * (tally.steps + 1) ≤ length table → place < 4294967296 → tested < 4294967296
      → (get_or (step_added j r place tested tally table) (step_at (length table) tally.steps) 0 ≡ j)
      × (get_or (step_added j r place tested tally table) (step_at (length table) tally.steps + 1) 0 ≡ r)
      × (get_or (step_added j r place tested tally table) (step_at (length table) tally.steps + 2) 0 ≡ place)
      × (get_or (step_added j r place tested tally table) (step_at (length table) tally.steps + 3) 0 ≡ tested)
  unfolding step_added step_at
  step_newest h k l =
      let a : ℕ = length table - step_words * (tally.steps + 1) in
      let f : a + step_words ≤ length table = omega arith in (
        four_first table a j r (low32 place) (low32 tested) f,
        four_second table a j r (low32 place) (low32 tested) f,
        four_third table a j r (low32 place) (low32 tested) f
            ∙ mod-eq_of_lt k,
        four_fourth table a j r (low32 place) (low32 tested) f
            ∙ mod-eq_of_lt l,
      )

module _ {table : List ℕ} {Recorded : ℕ → ℕ → ℕ → ℕ → Step → Type 0} {steps : List Step} where
  -- Whatever keeps the words of the steps keeps them.
  pub steps_kept : (table' : List ℕ) → Steps table Recorded steps
      → length table' ≡ length table
      → Same table table' (length table - step_words * length steps) (length table)
      → Steps table' Recorded steps
  unfolding StepAt step_at
  steps_kept table' st l k =
      let i = st.inside in
      record {
        inside = omega arith;
        words = λ n s h.
            let b = at_below steps n h in
            rw (
              l,
              k.words (length table - step_words * (n + 1)) (omega arith) (omega arith),
              k.words (length table - step_words * (n + 1) + 1) (omega arith)
                  (omega arith),
              k.words (length table - step_words * (n + 1) + 2) (omega arith) (omega arith),
              k.words (length table - step_words * (n + 1) + 3) (omega arith) (omega arith),
            )
            (st.words n s h);
      }

  -- Reading a step is the definition's.
  pub step_agrees : (n : ℕ) (tally : Tally) → Steps table Recorded steps → tally.steps ≡ length steps
      → StepAgree Recorded (step_word n 0 tally table) (get_elem? steps n)
  unfolding step_word StepAt
  step_agrees n tally st c =
      case (leb tally.steps n)
      (λ p. let k = leb-true tally.steps n p in rw (p, step_word, beyond steps n (omega arith)) no_step)
      (λ p.
      let k = leb-false tally.steps n p in
      let (s, h) = at_there steps n (omega arith) in
      rw (p, step_word, h, add-zero (step_at (length table) n)) (one_step (st.words n s h)))

  pub steps_add : (j r place tested : ℕ) (s : Step) (tally : Tally) → Steps table Recorded steps
      → tally.steps ≡ length steps
      → step_words * length steps + step_words ≤ length table
      → place < 4294967296
      → tested < 4294967296
      → Recorded j r place tested s
      → Steps (step_added j r place tested tally table) Recorded (steps ++ (s ∷ []))
  unfolding StepAt
  steps_add j r place tested s tally st c room small small_tested m =
      let i = st.inside in
      let o = one_more steps s in
      let l = step_added_length table j r place tested tally in
      let older = steps_kept (step_added j r place tested tally table) st l
      (step_added_above table j r place tested tally (length table - step_words * length steps) (length table) (omega arith) (omega arith)) in
      let (x, y, z, w) = step_newest table j r place tested tally (omega arith) small small_tested in
      record {
        inside = omega arith;
        words = λ n t h.
            by_number n (length steps)
            (λ q.
            let e : s ≡ t = some_equal (sym (last_is steps s n q) ∙ h) in
            rw (l, q, ← c, x, y, z, w, ← e) m)
            (λ q.
            let b = at_below (steps ++ (s ∷ [])) n h in
            older.words n t (sym (before_last steps s n (omega arith)) ∙ h));
      }

-- A step that is not there yet has no words.
pub word_none : (n which : ℕ) (tally : Tally) (table : List ℕ) → tally.steps ≤ n → none ≡ step_word n which tally table
unfolding step_word
word_none n which tally table h = rw (le-leb tally.steps n h, step_word)
