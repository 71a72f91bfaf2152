-- The release page: how long it is, the percentage on its last line, and what the call that writes it answers and leaves. Assumes nothing.
use Prim.Native.Nat.{ℕ, ◌+◌, ◌*◌, ◌/◌, ◌≤◌, ◌<◌}
use native.Mathlib.Omega.{arith}
use native.Mathlib.Nat.{mul-div-le, lt-mul-div-succ, div-lt_iff_lt-mul, le-div_iff_mul-le}
use mathlib.Core.Path.{◌≡◌, refl, sym, ap, subst, ◌∙◌}
use mathlib.Core.List.{List, [], ◌∷◌, ◌++◌, Memᴰ}
use lib.ListN.{length, length-append}
use Rattle.horn.specs.Setting.{Setting, document01}
use Rattle.horn.specs.Names.{Name, codes}
use Rattle.horn.specs.StoredTerms.{Term}
use Rattle.horn.specs.Checker.{Goal, goal}
use Rattle.horn.specs.Layout.{rule_name}
use Rattle.horn.specs.Matching.{Step, rule_of}
use Rattle.horn.specs.Certificate.{Progress}
use Rattle.horn.specs.Calls.{Release}
use Rattle.horn.specs.Output.{spaces, padded, right_aligned, name_field}
use Rattle.horn.specs.Used.{used_steps}
use Rattle.horn.specs.Page.{goal_line, line_of, goal_lines, percentage, last_line, page_of}
use Rattle.horn.proofs.Equality.{at_below}
use Rattle.horn.proofs.Output.{length-spaces, length-padded, length-right_aligned, length-name_field, plain_short}
use Rattle.horn.proofs.Accepting.{ReadRun}
use Rattle.horn.proofs.Arising.{few_steps, last_progress}
use Rattle.horn.proofs.Progressing.{goal_shown, goal_line_lem, some_step}
use Rattle.horn.proofs.Used.{few_used}
use Rattle.horn.proofs.OutputCharacters.{WholeName, cut_whole}
use Rattle.horn.proofs.CompleteUtf8.{All}
use Rattle.horn.proofs.CompleteTokens.{Word}
use Rattle.horn.proofs.CompleteTheory.{theory_looks}
use Rattle.horn.proofs.CompleteGoals.{GoalWord, read_known}
use Rattle.horn.proofs.SoundnessReading.{text_apart, apart_one_each}
use Rattle.horn.proofs.SoundnessRulebook.{theory_formed}
use Rattle.horn.proofs.SoundnessCertificate.{steps_sound}

-- "100 times used divided by steps, halves up": the whole number that is nearest, and of two equally near the larger one.
pub halves_up : (used steps : ℕ) → 0 < steps
    → let p = percentage used steps in (2 * steps * p ≤ 200 * used + steps) × (200 * used + steps < 2 * steps * (p + 1))
unfolding percentage
halves_up used steps h = (mul-div-le (200 * used + steps) (2 * steps), lt-mul-div-succ (200 * used + steps) (omega arith))

-- No more than all steps are used, so no more than 100 of a hundred.
pub percentage_most : (used steps : ℕ) → 0 < steps → used ≤ steps → percentage used steps ≤ 100
unfolding percentage
percentage_most used steps h k =
    let below : (200 * used + steps) / (2 * steps) < 101 = (div-lt_iff_lt-mul {k = 2 * steps} (omega arith)).1 (omega arith) in
    omega arith

-- It is at least 1 where a half of one in a hundred steps is used.
pub percentage_least : (used steps : ℕ) → 0 < steps → steps ≤ 200 * used → 1 ≤ percentage used steps
unfolding percentage
percentage_least used steps h k = (le-div_iff_mul-le {k = 2 * steps} (omega arith)).1 (omega arith)

-- It is 0 where fewer are.
pub percentage_none : (used steps : ℕ) → 200 * used < steps → percentage used steps ≡ 0
unfolding percentage
percentage_none used steps k =
    let below : (200 * used + steps) / (2 * steps) < 1 = (div-lt_iff_lt-mul {k = 2 * steps} (omega arith)).1 (omega arith) in
    omega arith

-- A goal's line has 64 bytes before 0A where the step's number has at most eight digits.
pub length-goal_line : (name : Name) (n : ℕ) (rule : Name) → n < 100_000_000 → length (goal_line name n rule) ≡ 65
unfolding goal_line
length-goal_line name n rule h =
    let shown = name_field 32 name in
    let number = right_aligned 8 n in
    let s₁ = length-append shown (spaces 1) in
    let s₂ = length-append (shown ++ spaces 1) number in
    let s₃ = length-append (shown ++ spaces 1 ++ number) (spaces 1) in
    let s₄ = length-append (shown ++ spaces 1 ++ number ++ spaces 1) (name_field 22 rule) in
    let s₅ = length-append (shown ++ spaces 1 ++ number ++ spaces 1 ++ name_field 22 rule) (0x0A ∷ []) in
    omega (
      arith,
      length-name_field 32 name,
      length-name_field 22 rule,
      length-spaces 1,
      length-right_aligned 8 n (plain_short 7 n h),
    )

-- The last line has 64 bytes before 0A where the percentage has at most three digits.
pub length-last_line : (used steps : ℕ) → percentage used steps < 1000 → length (last_line used steps) ≡ 65
unfolding last_line codes
length-last_line used steps h =
    let p = percentage used steps in
    let s₁ = length-append (codes "used ") (right_aligned 3 p) in
    let s₂ = length-append (codes "used " ++ right_aligned 3 p) (codes "%") in
    let s₃ = length-right_aligned 3 p (plain_short 2 p h) in
    let text = codes "used " ++ right_aligned 3 p ++ codes "%" in
    omega (arith, length-append (padded 64 text) (0x0A ∷ []), length-padded 64 text (omega arith))

-- One line for each goal.
pub length-goal_lines : (last : Progress) (gs : List Goal) → ((g : Goal) → Memᴰ g gs → length (line_of last g) ≡ 65)
    → length (goal_lines last gs) ≡ 65 * length gs
unfolding goal_lines
length-goal_lines last [] h = refl
length-goal_lines last (g ∷ gs) h =
    let rest = length-goal_lines last gs (λ x m. h x (Memᴰ.tail m)) in
    omega (arith, length-append (line_of last g) (goal_lines last gs), h g (Memᴰ.head refl))

word_whole : (k : ℕ) {name : Name} → Word name → WholeName k name
word_whole k {name} w = cut_whole k name w.decodes

all_at : {A : Type 0} (P : A → Type 0) (xs : List A) → All P xs → (a : A) → Memᴰ a xs → P a
all_at P (x ∷ xs) all a (Memᴰ.head e) = subst P (sym e) all.0
all_at P [] all a x'' = elim x'' [ ]
all_at P (x ∷ xs) all a (Memᴰ.tail m) = all_at P xs all.1 a m

module _ {limits : Setting} {rulebook text certificate : List ℕ} {r : Release} (run : ReadRun limits rulebook text certificate r) where
  -- An accepted release has at most as many steps as its certificate may have bytes.
  pub run_steps : length r.progress.steps ≤ limits.certificate_bytes
  run_steps = few_steps limits (last_progress limits rulebook text certificate run.short_certificate run.gives run.read run.taken)

  -- Its percentage is at most 100.
  pub run_percentage : percentage (length (used_steps r.progress)) (length r.progress.steps) ≤ 100
  run_percentage = percentage_most _ _ (some_step run) (few_used r.progress)

  -- Each of its goals has a line of 65 bytes.
  pub length-line_of : limits.certificate_bytes ≤ 100_000_000 → (g : Goal) → Memᴰ g r.goals → length (line_of r.progress g) ≡ 65
  length-line_of h (goal name j) m =
      let sh = goal_shown run name j m in
      let b = at_below r.progress.steps sh.number sh.there in
      let s = run_steps in
      ap length (goal_line_lem run name j m) ∙ length-goal_line name sh.number _ (omega arith)

  -- Its page has 65 bytes for each goal and 65 for the last line.
  pub length-page_of : limits.certificate_bytes ≤ 100_000_000 → length (page_of r) ≡ 65 * (length r.goals + 1)
  unfolding page_of
  length-page_of h =
      let used = length (used_steps r.progress) in
      let steps = length r.progress.steps in
      let p = run_percentage in
      omega (
        arith,
        length-append (goal_lines r.progress r.goals) (last_line used steps),
        length-goal_lines r.progress r.goals (length-line_of h),
        length-last_line used steps (omega arith),
      )

  -- A goal's name is cut behind a whole character.
  pub goal_name_whole : (name : Name) (j : Term) → Memᴰ (goal name j) r.goals → WholeName 32 name
  goal_name_whole name j m = word_whole 32 (all_at GoalWord r.goals (read_known limits run.th text run.read).words (goal name j) m)

  -- The name of a step's rule is cut behind a whole character.
  pub rule_name_whole : (s : Step) → Memᴰ s r.progress.steps → WholeName 22 (rule_name (rule_of s))
  rule_name_whole s m =
      let one = apart_one_each r.goals (text_apart limits run.th text run.read) in
      let formed = theory_formed rulebook run.gives in
      let c = steps_sound limits run.th formed r.goals certificate run.store one run.taken s m in
      let known = subst (λ x. Memᴰ x run.th.rules) c.own c.is.declared in
      word_whole 22 ((theory_looks rulebook run.gives).rule_is_word (rule_of s) known).0

-- The page's length under 01's limits.
pub page_length : {rulebook text certificate : List ℕ} {r : Release} → ReadRun document01 rulebook text certificate r
    → length (page_of r) ≡ 65 * (length r.goals + 1)
unfolding document01
page_length run = length-page_of run (omega arith)
