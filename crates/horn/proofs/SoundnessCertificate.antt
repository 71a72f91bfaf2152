-- If a certificate is not refused, the judgment of each goal that was open before it is derivable.
use Prim.Native.Nat.{ℕ}
use mathlib.Core.Path.{◌≡◌, sym, ap, subst, ◌∙◌}
use mathlib.Core.Bool.{true, true≢false}
use mathlib.Core.List.{List, [], ◌∷◌, ◌++◌, Memᴰ}
use mathlib.Core.Logic.{◌⊎◌, inl, inr, ⊎_elim}
use lib.ListN.{length}
use Rattle.horn.specs.Refusals.{ok}
use Rattle.horn.specs.Setting.{Setting}
use Rattle.horn.specs.Names.{Name, is_zero}
use Rattle.horn.specs.NestedLists.{Items}
use Rattle.horn.specs.Rulebook.{Rule, Theory}
use Rattle.horn.specs.StoredTerms.{Term, Store}
use Rattle.horn.specs.Checker.{Def, def, meaning, Goal, is_goal, goal_judgment}
use Rattle.horn.specs.Matching.{Step, step, judgment_of, rule_of}
use Rattle.horn.specs.Certificate.{Progress, begun, without, certificate_of}
use Rattle.horn.specs.Arising.{Proceeds, proceeds_none, proceeds_next}
use Rattle.horn.specs.Forced.{Derivable, Concluded}
use Rattle.horn.proofs.Equality.{case, chose_true, chose_false, same_term_decides, first-some, in_cons, in_or_last, at_member}
use Rattle.horn.proofs.Taken.{Taken, def_taken, step_taken, result_taken, form_taken, certificate_proceeds}
use Rattle.horn.proofs.SoundnessWords.{WellFormed}
use Rattle.horn.proofs.SoundnessReading.{SomeSort, GroundDefs, term_sorted, OneEach}
use Rattle.horn.proofs.WasRead.{asked_term_read}
use Rattle.horn.proofs.SoundnessSteps.{concluded_derivable, SoundSteps, step_concluded_lem}

-- Where the goals of a name are taken out, a goal has that name or stays; and a goal that stays was there.
pub named_or_kept {ℓ} : {C : Type ℓ} (name : Name) (gs : List Goal) {g : Goal} → Memᴰ g gs → (is_goal name g ≡ true → C)
    → (Memᴰ g (without name gs) → C)
    → C
unfolding without
named_or_kept name (x ∷ gs) (Memᴰ.head e) f k =
    case (is_goal name x)
    (λ p. f (ap (is_goal name) e ∙ p))
    (λ p. k (subst (Memᴰ _) (sym (chose_false _ _ p)) (Memᴰ.head e)))
named_or_kept name [] x3 f k = elim x3 [ ]
named_or_kept name (x ∷ gs) (Memᴰ.tail m) f k =
    named_or_kept name gs m f λ n.
    case (is_goal name x)
    (λ p. k (subst (Memᴰ _) (sym (chose_true _ _ p)) n))
    (λ p. k (subst (Memᴰ _) (sym (chose_false _ _ p)) (Memᴰ.tail n)))

pub was_there : (name : Name) (gs : List Goal) {g : Goal} → Memᴰ g (without name gs) → Memᴰ g gs
unfolding without
was_there name [] m = m
was_there name (x ∷ gs) {g} m =
    case (is_goal name x)
    (λ p. Memᴰ.tail (was_there name gs (subst (Memᴰ g) (chose_true _ _ p) m)))
    (λ p. in_cons (λ n. was_there name gs n) (subst (Memᴰ g) (chose_false _ _ p) m))

pub none_open : {C : Type 0} (gs : List Goal) {g : Goal} → is_zero (length gs) ≡ true → Memᴰ g gs → C
unfolding is_zero
none_open (x ∷ gs) e m = absurd (true≢false (sym e))
-- What holds between the forms: each of the goals is still open, or its judgment is derivable.
none_open [] e m = elim m [ ]

pub record SoundProgress (th : Theory) (goals : List Goal) (now : Progress) : Type 0 where
  pub ground_defs : GroundDefs th now.defs
  pub sound_steps : SoundSteps th now.steps
  pub one_each : OneEach now.open_goals
  pub open_or_derived : (g : Goal) → Memᴰ g goals → Memᴰ g now.open_goals ⊎ Derivable th (goal_judgment g)

def_more : {th : Theory} (defs : List Def) (name : Name) (t : Term) → GroundDefs th defs → SomeSort th t → GroundDefs th (defs ++ (def name t ∷ []))
unfolding meaning
def_more {th} defs name t ds g d m = in_or_last defs m (ds d) (λ e. subst (λ z. SomeSort th (meaning z)) (sym e) g)

step_more : {th : Theory} (steps : List Step) (j : Term) (r : Rule) (refs : List ℕ) → SoundSteps th steps → Concluded th j r
    → SoundSteps th (steps ++ (step j r refs ∷ []))
unfolding judgment_of rule_of
step_more {th} steps j r refs ss c s m =
    in_or_last steps m (ss s) (λ e. subst (λ z. Concluded th (judgment_of z) (rule_of z)) (sym e) c)

module _ (limits : Setting) (th : Theory) (w : WellFormed th) (goals : List Goal) where
  sound_taken : {now next : Progress} {s : Store} → SoundProgress th goals now → Taken limits th now s next → SoundProgress th goals next
  sound_taken {now} {s = s} sp (def_taken name is {q = q} e) =
      record {
        ground_defs =
            def_more now.defs name q.0 sp.ground_defs
            (term_sorted sp.ground_defs (asked_term_read limits th now.defs 1 is s e).1);
        sound_steps = sp.sound_steps;
        one_each = sp.one_each;
        open_or_derived = sp.open_or_derived;
      }
  sound_taken {now} {s = s} sp (step_taken name is refs {r = r} {g = g} {j = j} e e₁ e₂) =
      record {
        ground_defs = sp.ground_defs;
        sound_steps =
            step_more now.steps j r refs sp.sound_steps
            (step_concluded_lem limits th w now.defs sp.ground_defs now.steps sp.sound_steps name e refs is g s e₁ e₂);
        one_each = sp.one_each;
        open_or_derived = sp.open_or_derived;
      }
  sound_taken {now} sp (result_taken name n {g = g} {t = t} f h k) =
      let d = concluded_derivable (sp.sound_steps t (at_member now.steps n h)) in
      let here = first-some (is_goal name) now.open_goals f in
      let d' = subst (Derivable th) (same_term_decides.equal (judgment_of t) (goal_judgment g) k) d in
      record {
        ground_defs = sp.ground_defs;
        sound_steps = sp.sound_steps;
        one_each = λ n x y m m'. sp.one_each n x y (was_there name now.open_goals m) (was_there name now.open_goals m');
        open_or_derived = λ x m.
            ⊎_elim
            (λ o. named_or_kept name now.open_goals o
            (λ i. inr (subst (λ y. Derivable th (goal_judgment y)) (sp.one_each name g x here.0 o here.1 i) d'))
            (λ o'. inl o'))
            (λ i. inr i)
            (sp.open_or_derived x m);
      }

  sound_proceeds : {now later : Progress} {is : Items} {s u : Store} → SoundProgress th goals now → Proceeds limits th now is s later u
      → SoundProgress th goals later
  sound_proceeds sp proceeds_none = sp
  sound_proceeds {now} sp (proceeds_next {item = item} {s = s} e p) = sound_proceeds (sound_taken sp (form_taken limits th now item s e)) p

  sound_begun : OneEach goals → SoundProgress th goals (begun goals)
  sound_begun one = record { ground_defs = λ d m. elim m [ ]; sound_steps = λ t m. elim m [ ]; one_each = one; open_or_derived = λ x m. inl m }

  -- A certificate that is not refused ends in progress that is sound and has no open goal.
  sound_end : (text : List ℕ) (s : Store) {s' : Store} {last : Progress} → OneEach goals
      → certificate_of limits th goals text s ≡ ok (last, s')
      → SoundProgress th goals last × (is_zero (length last.open_goals) ≡ true)
  sound_end text s one e =
      let (p, none) = certificate_proceeds limits th goals text s e in
      (sound_proceeds (sound_begun one) p, none)

  -- If a certificate is not refused, the judgment of each goal is derivable.
  pub certificate_sound : (text : List ℕ) (s : Store) {s' : Store} {last : Progress} → OneEach goals
      → certificate_of limits th goals text s ≡ ok (last, s')
      → (g : Goal)
      → Memᴰ g goals
      → Derivable th (goal_judgment g)
  certificate_sound text s one e g m =
      let (sp, none) = sound_end text s one e in
      ⊎_elim (λ o. none_open _ none o) (λ d. d) (sp.open_or_derived g m)

  -- If a certificate is not refused, an instance of its own rule concludes each step, from derivable premises.
  pub steps_sound : (text : List ℕ) (s : Store) {s' : Store} {last : Progress} → OneEach goals
      → certificate_of limits th goals text s ≡ ok (last, s')
      → SoundSteps th last.steps
  steps_sound text s one e = (sound_end text s one e).0.sound_steps
