-- Soundness on the bench set, with its conclusions computed: the condition of the theorem can be met, and what it says of goals and
-- steps is what these texts say.
use mathlib.Core.Path.{◌≡◌, refl, sym, ap, subst, ◌∙◌}
use mathlib.Core.List.{List, [], ◌∷◌, map, Memᴰ}
use Rattle.horn.specs.Refusals.{ok}
use Rattle.horn.specs.Setting.{document01}
use Rattle.horn.specs.Names.{codes}
use Rattle.horn.specs.Tokens.{tokens}
use Rattle.horn.specs.NestedLists.{word, group, closed, ended, ◌then◌, items, as_item, top_items}
use Rattle.horn.specs.Rulebook.{Theory, premises_of, conclusion_of}
use Rattle.horn.specs.StoredTerms.{Term, node, []ₜ, ◌∷ₜ◌, Store, empty_store}
use Rattle.horn.specs.Checker.{Goal, goal, goal_judgment, goals_of}
use Rattle.horn.specs.Matching.{Step, step, judgment_of, rule_of}
use Rattle.horn.specs.Certificate.{Progress, witness, certificate_of}
use Rattle.horn.specs.Calls.{release_call}
use Rattle.horn.specs.Written.{symbol_name, constant_or, term_sexp, judgment_sexp, goal_sexp}
use Rattle.horn.specs.Forced.{substitute, Instance, premises, conclusion, Derivable, Derivables, Forced, ForcedAmongSorted, Concluded, HasGoals}
use Rattle.horn.proofs.Inversion.{ok_equal}
use Rattle.horn.proofs.Run.{open_all}
use Rattle.horn.proofs.Bench.{text_r, text_g, text_c, hold, base, more, zero_term}
use Rattle.horn.proofs.Bench.{bench_theory, bench_judgment, bench_goals, bench_gives, bench_store, bench_read, bench_final}
use Rattle.horn.proofs.GoalsFixed.{read_exactly}
use Rattle.horn.specs.Demand3.{Established}
use Rattle.horn.proofs.Soundness.{soundness, soundness_forced, soundness_among_sorted}
use Rattle.horn.proofs.SoundnessOfSteps.{release_steps}

bench_zero : (release_call document01 16_384 16_384 16_384 16_384 text_r text_g text_c).number ≡ 0
unfolding open_all text_r text_g text_c
bench_zero = refl

-- The text has this goal, and no other list of goals: its items are the form of the goal.
pub bench_has : HasGoals bench_theory text_g bench_goals
bench_has = (read_exactly document01 text_r text_g {others = bench_goals} bench_gives bench_read).0

pub bench_only : (others : List Goal) → HasGoals bench_theory text_g others → others ≡ bench_goals
bench_only others h = (read_exactly document01 text_r text_g bench_gives bench_read).1 h

pub bench_forms :
    items (tokens text_g)
    ≡ group
    (word (codes "goal") then word (codes "g")
    then group (word (codes "hold") then group (word (codes "s") then word (codes "z") then closed) then closed) then closed)
    then ended
unfolding goal_sexp judgment_sexp term_sexp constant_or symbol_name top_items as_item
bench_forms = bench_has.forms

-- What is said of each goal of these texts is said of that goal's judgment.
of_goals {ℓ} : (P : Term → Type ℓ) {goals : List Goal} → bench_goals ≡ goals → ((g : Goal) → Memᴰ g goals → P (goal_judgment g))
    → P bench_judgment
unfolding goal_judgment
of_goals P e each = each (goal (codes "g") bench_judgment) (subst (Memᴰ _) e (Memᴰ.head refl))

said {ℓ} : (Said : Theory → Term → Type ℓ) → Established document01 text_r text_g Said → Said bench_theory bench_judgment
said Said x =
    let e : bench_theory ≡ x.th = ok_equal (sym bench_gives ∙ x.gives) in
    let same = bench_only x.goals (subst (λ th. HasGoals th text_g x.goals) (sym e) x.has) in
    of_goals (Said bench_theory) (sym same) (λ g m. subst (λ th. Said th (goal_judgment g)) (sym e) (x.each g m))

pub bench_derivable : Derivable bench_theory bench_judgment
bench_derivable = said Derivable (soundness document01 16_384 16_384 16_384 16_384 text_r text_g text_c bench_zero)

pub bench_forced {ℓ} : Forced {ℓ} bench_theory bench_judgment
bench_forced = said Forced (soundness_forced document01 16_384 16_384 16_384 16_384 text_r text_g text_c bench_zero)

pub bench_among_sorted {ℓ} : ForcedAmongSorted {ℓ} bench_theory bench_judgment
bench_among_sorted = said ForcedAmongSorted (soundness_among_sorted document01 16_384 16_384 16_384 16_384 text_r text_g text_c bench_zero)

-- What the certificate comes to.
abbrev pub bench_progress : Progress
bench_progress =
    record {
      defs = [];
      open_goals = [];
      steps = step (node hold (zero_term ∷ₜ []ₜ)) base [] ∷ step bench_judgment more (0 ∷ []) ∷ [];
      results = witness (codes "g") 1 ∷ [];
    }

pub bench_taken : certificate_of document01 bench_theory bench_goals text_c bench_store ≡ ok (bench_progress, bench_final)
unfolding open_all text_r text_g text_c
bench_taken = refl

-- The second step: an instance of `more` concludes it, from derivable premises.
of_run : (th : Theory) → bench_theory ≡ th → (goals : List Goal) (store : Store) → goals_of document01 th text_g empty_store ≡ ok (goals, store)
    → (last : Progress) (final : Store) → certificate_of document01 th goals text_c store ≡ ok (last, final)
    → ((t : Step) → Memᴰ t last.steps → Concluded th (judgment_of t) (rule_of t))
    → Concluded bench_theory bench_judgment more
unfolding judgment_of rule_of
of_run th e goals store r last final c each =
    let r' = subst (λ x. goals_of document01 x text_g empty_store ≡ ok (goals, store)) (sym e) r in
    let c' = subst (λ x. certificate_of document01 x goals text_c store ≡ ok (last, final)) (sym e) c in
    let read = ok_equal (sym bench_read ∙ r') in
    let c'' = subst (λ q. certificate_of document01 bench_theory q.0 text_c q.1 ≡ ok (last, final)) (sym read) c' in
    let taken = ap (λ (q : Progress × Store). q.0.steps) (ok_equal (sym bench_taken ∙ c'')) in
    subst (λ x. Concluded x bench_judgment more) (sym e)
    (each (step bench_judgment more (0 ∷ [])) (subst (Memᴰ _) taken (Memᴰ.tail (Memᴰ.head refl))))

pub bench_step : Concluded bench_theory bench_judgment more
bench_step =
    let x = release_steps document01 16_384 16_384 16_384 16_384 text_r text_g text_c bench_zero in
    let m = x.run.met in
    of_run m.th (ok_equal (sym bench_gives ∙ m.gives)) x.run.release.goals m.store m.read x.run.release.progress x.run.release.store
    m.taken
    x.each

-- The only premise of the instance that concludes the second step is `(hold z)`.
of_more : (i : Instance) → i.by_rule ≡ more → bench_judgment ≡ conclusion i → Derivables bench_theory (premises i)
    → Derivables bench_theory (node hold (zero_term ∷ₜ []ₜ) ∷ [])
unfolding premises conclusion premises_of conclusion_of substitute
of_more i e c d =
    let c' : bench_judgment ≡ substitute i.assignment (conclusion_of more) = c ∙ ap (λ r. substitute i.assignment (conclusion_of r)) e in
    let same : zero_term ≡ i.assignment (codes "?x") = cc in
    subst (λ t. Derivables bench_theory (node hold (t ∷ₜ []ₜ) ∷ [])) (sym same)
    (subst (λ r. Derivables bench_theory (map (substitute i.assignment) (premises_of r))) e d)

pub bench_premises : Derivables bench_theory (node hold (zero_term ∷ₜ []ₜ) ∷ [])
bench_premises = of_more bench_step.by bench_step.own bench_step.equal bench_step.from
