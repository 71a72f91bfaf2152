-- Completeness at the bench set, under limits that its two instances meet exactly: the conditions of the theorem can be met, and the
-- report that it gives is the one that is computed.
use Prim.Native.Nat.{ℕ, ◌≤◌}
use native.Mathlib.Omega.{arith}
use mathlib.Core.Path.{◌≡◌, refl, subst}
use mathlib.Core.List.{List, [], ◌∷◌, Memᴰ}
use Rattle.horn.specs.Setting.{Setting, document01}
use Rattle.horn.specs.Names.{Name, codes}
use Rattle.horn.specs.Rulebook.{variable, variables_of, premises_of, conclusion_of}
use Rattle.horn.specs.Checker.{goal_judgment}
use Rattle.horn.specs.Calls.{report, release_call}
use Rattle.horn.specs.Written
use Rattle.horn.specs.Forced.{Ground, ground, no_ground, Instance, IsInstance, LongEnough, Accepted, ReadWithoutRefusal}
use Rattle.horn.specs.Forced.{substitute, premises, conclusion, judgments}
use Rattle.horn.specs.Layout
use Rattle.horn.specs.Layout.{laid_out, WithinLimits, no_instance, instance_then, Proves}
use Rattle.horn.proofs.Run.{open_all}
use Rattle.horn.proofs.Bench.{text_r, text_g, tight_for, base, more, zero_term, bench_theory, bench_goals, bench_gives, bench_store, bench_read}
use Rattle.horn.proofs.Accepting.{gives_accepted}
use Rattle.horn.proofs.GoalsWritten.{given_reading}
use Rattle.horn.proofs.Complete.{complete, complete_01}
use Rattle.horn.proofs.SoundnessBench.{bench_has}
use Rattle.horn.proofs.WordsBench.{bench_accepted}

-- The limits that R, G and the layout meet exactly.
abbrev tight : Setting
tight = tight_for 70

tight_accepted : Accepted tight text_r
unfolding open_all text_r
tight_accepted = gives_accepted record { short = omega arith; gives = bench_gives }

tight_read : ReadWithoutRefusal tight bench_theory text_g
unfolding open_all text_g
tight_read = given_reading tight bench_theory text_g {q = (bench_goals, bench_store)} (omega arith) refl

read_01 : ReadWithoutRefusal document01 bench_theory text_g
unfolding open_all text_g
read_01 = given_reading document01 bench_theory text_g (omega arith) bench_read

-- The two instances: `?x` is z.
abbrev bench_instances : List Instance
bench_instances = record { by_rule = base; assignment = λ x. zero_term } ∷ record { by_rule = more; assignment = λ x. zero_term } ∷ []

zero_ground : Ground bench_theory (codes "t") zero_term
zero_ground = ground (Memᴰ.head refl) no_ground

base_instance : IsInstance bench_theory record { by_rule = base; assignment = λ x. zero_term }
unfolding variables_of
base_instance = record { declared = Memᴰ.head refl; sorted = λ name r m. elim m [ ] }

of_variable : {name r : Name} → Memᴰ (variable name r) (variable (codes "?x") (codes "t") ∷ []) → Ground bench_theory r zero_term
of_variable {name} {r} (Memᴰ.head e) = let h : codes "t" ≡ r = cc in subst (λ x. Ground bench_theory x zero_term) h zero_ground
of_variable (Memᴰ.tail m) = elim m [ ]

more_instance : IsInstance bench_theory record { by_rule = more; assignment = λ x. zero_term }
unfolding variables_of
more_instance = record { declared = Memᴰ.tail (Memᴰ.head refl); sorted = λ name r m. of_variable m }

bench_proves : Proves bench_theory bench_goals bench_instances
unfolding premises conclusion premises_of conclusion_of substitute judgments goal_judgment
bench_proves =
    record {
      supported = instance_then base_instance tt (instance_then more_instance (Memᴰ.head refl, tt) no_instance);
      reached = (Memᴰ.tail (Memᴰ.head refl), tt);
    }

-- The layout, computed. To unfold `laid` is to unfold all that the layout is made by.
unfoldable laid : List ℕ
unfolding open_all Layout.next Layout.counted_to Layout.plain Layout.plain_all Written.symbol_name Layout.rule_name Written.constant_or
    Written.term_sexp Written.judgment_sexp Layout.lowest Layout.step_sexp Layout.step_sexps Layout.result_sexp Layout.layout_forms Layout.printed
    Layout.printed_lines Layout.laid_out Layout.height Layout.depth Layout.subterms Layout.all_subterms Layout.distinct Layout.distinct_terms
    Layout.tree_size Layout.all_tree_sizes Layout.requested_nodes
    premises conclusion premises_of conclusion_of substitute judgments goal_judgment
laid = laid_out bench_goals bench_instances

bench_within : (limits : Setting) → LongEnough limits 16_384 16_384 16_384 16_384 → 70 ≤ limits.certificate_bytes → 4 ≤ limits.nodes
    → 7 ≤ limits.node_words
    → WithinLimits limits 16_384 16_384 16_384 16_384 bench_goals bench_instances
unfolding laid
bench_within limits l c n w = record { areas = l; short = c; shallow = omega arith; few = n; small = w }

pub bench_layout : laid_out bench_goals bench_instances ≡ codes "(step 0 base () (hold z))\n(step 1 more (0) (hold (s z)))\n(result g 1)\n"
unfolding laid
bench_layout = refl

pub bench_complete : release_call tight 16_384 16_384 16_384 16_384 text_r text_g (laid_out bench_goals bench_instances) ≡ report 0 2 1 4 70 8
unfolding laid
bench_complete =
    (complete tight (omega arith) 16_384 16_384 16_384 16_384 text_r text_g (laid_out bench_goals bench_instances)).accepts_layout bench_theory bench_goals bench_instances
    tight_accepted bench_gives tight_read bench_has bench_proves
    (bench_within tight
    record { first_area = omega arith; second_area = omega arith; third_area = omega arith; fourth_area = omega arith }
    (omega arith) (omega arith) (omega arith))
    refl

-- The same under 01's limits.
pub bench_complete_01 : release_call document01 16_384 16_384 16_384 16_384 text_r text_g (laid_out bench_goals bench_instances) ≡ report 0 2 1 4 70 8
unfolding laid
bench_complete_01 =
    (complete_01 16_384 16_384 16_384 16_384 text_r text_g (laid_out bench_goals bench_instances)).accepts_layout bench_theory bench_goals bench_instances
    bench_accepted bench_gives read_01 bench_has bench_proves
    (bench_within document01
    record { first_area = omega arith; second_area = omega arith; third_area = omega arith; fourth_area = omega arith }
    (omega arith) (omega arith) (omega arith))
    refl
