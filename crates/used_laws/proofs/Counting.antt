-- The used steps are counted as the definition counts them, where the table holds the results and the places of the references. Assumes
-- nothing.
use Prim.Native.Nat.{ℕ, zero, suc, ◌+◌, ◌<◌, ◌≤◌}
use mathlib.Core.Path.{◌≡◌, refl, sym, ◌∙◌}
use mathlib.Core.Bool.{true≢false}
use mathlib.Core.List.{List, [], ◌∷◌, ◌++◌, Memᴰ}
use mathlib.Core.Option.{some}
use native.Mathlib.Omega.{arith}
use borrow.Author.Tests.{eqb-true, eq-eqb, ne_eqb}
use lib.Dec.{eqb}
use lib.ListN.{length, get_or, get_elem?}
use Rattle.used_steps.specs.Below.horn.specs.Refusals.{Result, ok}
use Rattle.used_steps.specs.Below.horn.specs.Names.{some_of}
use Rattle.used_steps.specs.Below.horn.specs.Tokens.{Stream, Token}
use Rattle.used_steps.specs.Below.horn.specs.Matching.{Step, references_of}
use Rattle.used_steps.specs.Below.horn.specs.Used.{references_at, used_below}
use Rattle.used_steps.specs.Below.horn.proofs.Equality.{case, some_of_true, some_of_member, at_there}
use Rattle.used_steps.specs.Below.horn.proofs.Inversion.{ok_equal, not_ok}
use Rattle.used_steps.specs.Below.names.proofs.Holds.{by_number}
use Rattle.used_steps.specs.Below.words.specs.Sums.{sum32}
use Rattle.used_steps.specs.Below.words.proofs.Sums.{sum_small}
use Rattle.used_steps.specs.Below.lex.specs.declared.Reader.{Reader}
use Rattle.used_steps.specs.Below.outcomes.specs.Leaving.{Did}
use Rattle.used_steps.specs.Below.outcomes.specs.Simulation.{Simulates, refuse, leave}
use Rattle.used_steps.specs.Below.tables.specs.Words.{step_kept}
use Rattle.steps_laws.specs.Below.asking_laws.proofs.Places.{Any, at_within}
use Rattle.steps_laws.specs.Below.matching_laws.proofs.Relations.{as_it_is, at_most, ReferencesAt, no_references, one_reference}
use Rattle.used_steps.specs.Below.references.specs.References.{references}
use Rattle.steps_laws.proofs.References.{ReferencesRead, references_from_lem}
use Rattle.steps_laws.proofs.Whole.{ReferencesListed}
use Rattle.used_steps.specs.Marks.{marked, marking, leaned, counted}
use Rattle.used_laws.proofs.Marking.{Leaned, leaned_more, length_marked}

-- References by their places: where one stands, and which stands at a place.
refers_at : {stack : List ℕ} {k : ℕ} (ns : List ℕ) (i : ℕ) → i < 4294967295 → ReferencesAt stack k ns → Memᴰ i ns
    → (j : ℕ) × (j < length ns) × (i ≡ get_or stack (k + j) 0)
refers_at [] i b _ x4 = elim x4 [ ]
refers_at {stack} {k} (n ∷ ns) i b (one_reference (as_it_is e l) rs) (Memᴰ.head q) =
    let z : k + 0 ≡ k = omega arith in (0, omega arith, rw z (q ∙ sym e))
refers_at (n ∷ ns) i b (one_reference (at_most e l) rs) (Memᴰ.head q) = absurd (omega arith)
refers_at {stack} {k} (n ∷ ns) i b (one_reference r rs) (Memᴰ.tail m) =
    let (j, c, e) = refers_at {k = k + 1} ns i b rs m in
    let z : k + suc j ≡ k + 1 + j = omega arith in
    (suc j, omega arith, rw z e)

at_refers : {stack : List ℕ} {k : ℕ} (ns : List ℕ) (i j : ℕ) → i < 4294967295 → ReferencesAt stack k ns → j < length ns → i ≡ get_or stack (k + j) 0
    → Memᴰ i ns
at_refers {stack} {k} (n ∷ ns) i zero b (one_reference (as_it_is e l) rs) c q =
    let z : k + 0 ≡ k = omega arith in Memᴰ.head ((rw z at q) ∙ e)
at_refers {stack} {k} (n ∷ ns) i zero b (one_reference (at_most e l) rs) c q =
    let z : k + 0 ≡ k = omega arith in let q' : i ≡ get_or stack k 0 = rw z at q in absurd (omega arith)
at_refers {stack} {k} (n ∷ ns) i (suc j) b (one_reference r rs) c q =
    let z : k + suc j ≡ k + 1 + j = omega arith in Memᴰ.tail (at_refers {k = k + 1} ns i j b rs (omega arith) (rw z at q))
at_refers [] i j b rs c q = absurd (omega arith)

-- What was read of a list is marked.
references_marked : (refs marks : List ℕ) (n : ℕ) {leaned : List ℕ} (ns : List ℕ) → n ≤ length marks → n < 4294967295 → Leaned marks n leaned
    → ReferencesAt refs 0 ns
    → Leaned (marked (length ns) refs marks) n (ns ++ leaned)
references_marked refs marks n ns long small l rs =
    leaned_more (λ j. get_or refs j 0) (length ns) marks n ns long l
    (λ i b m. let (j, c, e) = refers_at ns i (omega arith) rs m in let z : 0 + j ≡ j = omega arith in (j, c, rw z at e))
    (λ i j b c e. let z : 0 + j ≡ j = omega arith in at_refers ns i j (omega arith) rs c (rw z e))

module _ (certificate table : List ℕ) (short : length certificate ≤ 32768) (steps : List Step) (few : length steps < 4294967295)
    (listed : (n : ℕ) (s : Step) → get_elem? steps n ≡ some s → ReferencesListed certificate (step_kept table n 2) (step_kept table n 3) (references_of s)) where
  -- The areas between two turns.
  pub record Marks (areas : List ℕ × List ℕ) (on : List ℕ) : Type 0 where
    pub refs_long : length areas.0 ≡ 16384
    pub marks_long : length steps ≤ length areas.1
    pub marks : Leaned areas.1 (length steps) on

  -- A used step leans on those that it refers to.
  step_leans : (n : ℕ) (s : Step) (refs marks on : List ℕ) → get_elem? steps n ≡ some s → Marks (refs, marks) on
      → Marks (leaned certificate table n (refs, marks)) (references_of s ++ on)
  unfolding leaned references
  step_leans n s refs marks on e k =
      let l = listed n s e in
      let h = at_within l.reader in
      by l.reads
      (references_from_lem certificate short Any (length certificate + 1) l.items 0 1 [] _ refs refl (omega arith) (omega arith) k.refs_long
      no_references l.reader) where
        by : {d : Did (List ℕ) (ℕ × Reader)} {m : Result (List ℕ)} {L : Stream Token → Type 0} → m ≡ ok (references_of s)
            → Simulates (ReferencesRead certificate L 1 []) d m
            → Marks (marking d marks) (references_of s ++ on)
        by q (refuse r) = not_ok q
        by q (leave {a = x} {s = left} {b = y} r) =
            let same : y ≡ references_of s = ok_equal q in
            record {
              refs_long = r.long;
              marks_long = rw (length_marked (λ j. get_or left j 0) x.0 marks) k.marks_long;
              marks = rw (← same, r.count) (references_marked left marks (length steps) y k.marks_long few k.marks r.refs);
            }

  -- Back over the first n steps.
  pub counted_law : (n used : ℕ) (areas : List ℕ × List ℕ) (on : List ℕ) → n ≤ length steps → used + n < 4294967296 → Marks areas on
      → (counted n certificate table used areas).0 ≡ used + length (used_below steps n on)
  unfolding counted used_below references_at
  counted_law zero used areas on b u k = omega arith
  counted_law (suc n) used areas on b u k =
      case (some_of (eqb n) on)
      (λ t.
      let (i, m, e) = some_of_true (eqb n) on t in
      let (s, q) = at_there steps n (omega arith) in
      let z : get_or areas.1 n 0 ≡ 0 → ⊥ = k.marks.has n (omega arith) (rw (← eqb-true n i e) at m) in
      let rest = counted_law n (sum32 used 1) (leaned certificate table n areas) (references_of s ++ on) (omega arith)
      (let p = sum_small used 1 (omega arith) in omega arith) (step_leans n s areas.0 areas.1 on q k) in
      let p = sum_small used 1 (omega arith) in
      rw (ne_eqb _ _ z, counted, t, used_below, q, references_at) (rest ∙ omega arith))
      (λ t.
      let z : get_or areas.1 n 0 ≡ 0 =
      by_number (get_or areas.1 n 0) 0 (λ e. e)
      (λ d. absurd (true≢false (sym (some_of_member (eqb n) on n (k.marks.only n (omega arith) d) (eq-eqb n n refl)) ∙ t))) in
      rw (eq-eqb _ _ z, counted, t, used_below) (counted_law n used areas on (omega arith) (omega arith) k))
