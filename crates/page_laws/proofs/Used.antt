-- The used steps of an accepted release are counted as the definition counts them. Assumes nothing.
use Prim.Native.Nat.{ℕ, suc, ◌+◌, ◌*◌, ◌≤◌, ◌<◌}
use mathlib.Core.Path.{◌≡◌, ap, sym, subst, ◌∙◌}
use mathlib.Core.List.Memᴰ
use mathlib.Core.List.{List, [], ◌∷◌, map, append-nil, Memᴰ}
use mathlib.Core.Option.{some}
use native.Mathlib.Omega.{arith}
use lib.ListN.{length, get_elem?}
use Rattle.checker_laws.specs.Below.horn.specs.Setting.{document01}
use Rattle.checker_laws.specs.Below.horn.specs.StoredTerms.{Term}
use Rattle.checker_laws.specs.Below.horn.specs.Checker.{Goal, goal}
use Rattle.checker_laws.specs.Below.horn.specs.Matching.{Step, references_of}
use Rattle.checker_laws.specs.Below.horn.specs.Certificate.{Witness, witness}
use Rattle.checker_laws.specs.Below.horn.specs.Calls.{Release}
use Rattle.checker_laws.specs.Below.horn.specs.Used.{result_step, used_steps}
use Rattle.checker_laws.specs.Below.horn.specs.Page.{is_result_of}
use Rattle.checker_laws.specs.Below.horn.proofs.Equality.{first-some, at_member, at_there}
use Rattle.checker_laws.specs.Below.horn.proofs.Accepting.{ReadRun}
use Rattle.checker_laws.specs.Below.horn.proofs.Progressing.{run_progressing, goal_shown}
use Rattle.page_walks.specs.Below.words.specs.Parts.{cleared}
use Rattle.page_walks.specs.Below.words.proofs.Writing.{length-cleared, get_d_cleared}
use Rattle.used_laws.specs.Below.tables.specs.Words.{goal_buckets, goal_at, goal_result, step_kept}
use Rattle.used_laws.specs.Below.tables.specs.Representation.{Goals}
use Rattle.used_laws.specs.Below.nodes.specs.Limits.{def_buckets}
use Rattle.used_laws.specs.Below.steps_laws.proofs.Whole.{ReferencesListed}
use Rattle.used_laws.specs.Below.used_steps.specs.Marks.{marked_by, used_count}
use Rattle.used_laws.proofs.Marking.{Leaned, leaned_more, length_marked}
use Rattle.used_laws.proofs.Counting.{Marks, counted_law}
use Rattle.page_laws.proofs.Kept.{goal_result_lem}

-- What is in a list stands at a place of it.
member_at : {A : Type 0} {a : A} (xs : List A) → Memᴰ a xs → (k : ℕ) × (k < length xs) × (get_elem? xs k ≡ some a)
member_at [] x' = elim x' [ ]
member_at (x ∷ xs) (Memᴰ.head e) = (0, omega arith, ap some (sym e))
member_at (x ∷ xs) (Memᴰ.tail m) = let (k, b, e) = member_at xs m in (suc k, omega arith, e)

module _ {rulebook text certificate : List ℕ} {r : Release} (run : ReadRun document01 rulebook text certificate r) {table : List ℕ}
    {Means : ℕ → Term → Type 0} {open_goals : List Goal}
    (g : Goals text table (goal_buckets + def_buckets) Means r.goals open_goals r.progress.results) (small : length table < 4294967296) where
  abbrev results : List ℕ
  results = map result_step r.progress.results

  abbrev result_at : ℕ → ℕ
  result_at k = goal_result (goal_at def_buckets k) table

  -- Each result's step is that of a goal,
  result_kept : (i : ℕ) → Memᴰ i results → (k : ℕ) × (k < length r.goals) × (i ≡ result_at k)
  unfolding result_step
  result_kept i m = let (w, o, e) = Memᴰ.of_map result_step r.progress.results m in by w o e where
    by : (w : Witness) → Memᴰ w r.progress.results → result_step w ≡ i → (k : ℕ) × (k < length r.goals) × (i ≡ result_at k)
    by (witness name n) o e =
        let f = (run_progressing run).results-goals name n o in
        let (k, b, q) = member_at r.goals f.among in
        (k, b, sym e ∙ sym (goal_result_lem g small k q f.is_shown))

  -- and each goal has one.
  kept_result : (i k : ℕ) → k < length r.goals → i ≡ result_at k → Memᴰ i results
  unfolding result_step
  kept_result i k b e = let (x, q) = at_there r.goals k b in by x q where
    by : (x : Goal) → get_elem? r.goals k ≡ some x → Memᴰ i results
    by (goal name j) q =
        let sh = goal_shown run name j (at_member r.goals k q) in
        let n = goal_result_lem g small k q sh.shown in
        subst (λ z. Memᴰ z results) (sym (e ∙ n))
        (Memᴰ.map result_step (first-some (is_result_of name) r.progress.results sh.shown).0)

  none_leaned : (n : ℕ) (marks : List ℕ) → Leaned (cleared n marks) n []
  none_leaned n marks = record { has = λ i b m. elim m [ ]; only = λ i b s. absurd (s (get_d_cleared n marks i b)) }

  -- So their count is the definition's.
  pub used_law : (store stack : List ℕ) → length certificate ≤ 32768 → 12 * length r.progress.steps ≤ 32768
      → length stack ≡ 16384
      → length r.progress.steps ≤ length store
      → ((n : ℕ) (s : Step) → get_elem? r.progress.steps n ≡ some s
      → ReferencesListed certificate (step_kept table n 2) (step_kept table n 3) (references_of s))
      → (used_count certificate table (length r.goals) (length r.progress.steps) (stack, store)).0 ≡ length (used_steps r.progress)
  unfolding used_count used_steps
  used_law store stack short few long room listed =
      let steps = r.progress.steps in
      let clear = cleared (length steps) store in
      let l : length steps ≤ length clear = let e = length-cleared (length steps) store in omega arith in
      let n = length_marked result_at (length r.goals) clear in
      let m = leaned_more result_at (length r.goals) clear (length steps) results l (none_leaned (length steps) store) (λ i b o. result_kept i o)
      (λ i j b c e. kept_result i j c e) in
      let marks : Marks certificate table short steps (omega arith) listed (stack, marked_by result_at (length r.goals) clear) results
      = record { refs_long = long; marks_long = omega arith; marks = rw (append-nil results) at m } in
      counted_law certificate table short steps (omega arith) listed (length steps) 0 (stack, marked_by result_at (length r.goals) clear) results (omega arith)
      (omega arith) marks
      ∙ omega arith
