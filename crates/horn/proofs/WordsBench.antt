-- The theorems on the cut into items, on acceptance and on what arises in a run, at the bench set, with their conclusions computed.
-- SoundnessBench has those on goals and steps.
use Prim.Native.Nat.{◌<◌, ◌^◌}
use mathlib.Core.Path.{◌≡◌, refl, sym, ap, subst, ◌∙◌}
use mathlib.Core.List.{[], ◌∷◌}
use native.Mathlib.Omega.{arith}
use lib.ListN.{length}
use Rattle.horn.specs.Setting.{document01}
use Rattle.horn.specs.Names.{codes}
use Rattle.horn.specs.Tokens.{end, bad, ◌▹◌, opening, closing, atom, tokens}
use Rattle.horn.specs.NestedLists.{Item, word, group, Items, closed, ended, ◌then◌, items, around, written_out}
use Rattle.horn.specs.Rulebook.{Theory}
use Rattle.horn.specs.StoredTerms.{node, []ₜ, ◌∷ₜ◌, was_found, was_made, Store}
use Rattle.horn.specs.Matching.{Step, step}
use Rattle.horn.specs.Certificate.{Progress, witness, begun}
use Rattle.horn.specs.Calls.{rulebook_call}
use Rattle.horn.specs.Arising.{TheoryArises, declares_none, declares_next, Proceeds, proceeds_none, proceeds_next, StoreArises, ProgressArises}
use Rattle.horn.specs.Forced.{Accepted}
use Rattle.horn.proofs.Run.{open_all}
use Rattle.horn.proofs.Bench.{text_r, text_g, result_twice, z, hold, base, more, zero_term}
use Rattle.horn.proofs.Bench.{bench_theory, bench_judgment, bench_goals, bench_gives, bench_store, bench_read, bench_final}
use Rattle.horn.proofs.Firings.{firings}
use Rattle.horn.proofs.Inversion.{ok_equal}
use Rattle.horn.proofs.Cut.{cut}
use Rattle.horn.proofs.Accepting.{gives_accepted, answer_gives, accepted_gives}
use Rattle.horn.proofs.Arising.{between_forms, sixteen_bits_symbols, sixteen_bits_terms, sixteen_bits_steps}
use Rattle.horn.proofs.CompleteSteps.{progress}

-- The cut of G, written out, is its tokens.
pub bench_cut :
    written_out (around (tokens text_g))
    ≡ opening ▹ atom (codes "goal") ▹ atom (codes "g") ▹ opening ▹ atom (codes "hold") ▹ opening ▹ atom (codes "s") ▹ atom (codes "z")
    ▹ closing ▹ closing ▹ closing ▹ end
unfolding open_all text_g
bench_cut = cut (tokens text_g)

-- The cut of a text whose lists a bad line breaks off, written out, is its tokens up to that line: `(a(` and, on the next line, FF.
pub broken_cut : written_out (around (tokens (0x28 ∷ 0x61 ∷ 0x28 ∷ 0x0A ∷ 0xFF ∷ []))) ≡ opening ▹ atom (codes "a") ▹ opening ▹ bad
unfolding open_all
broken_cut = cut (tokens (0x28 ∷ 0x61 ∷ 0x28 ∷ 0x0A ∷ 0xFF ∷ []))

-- R is accepted, so that its number is 0 on longer areas too. Its theory follows from that, and from one answer 0.
pub bench_accepted : Accepted document01 text_r
unfolding open_all text_r
bench_accepted = gives_accepted record { short = omega arith; gives = bench_gives }

pub bench_answer : (rulebook_call document01 16_384 20_000 16_384 65_536 text_r).number ≡ 0
unfolding open_all
bench_answer =
    bench_accepted.answers_zero 16_384 20_000 16_384 65_536
    record { first_area = omega arith; second_area = omega arith; third_area = omega arith; fourth_area = omega arith }

pub bench_accepted_theory : (accepted_gives bench_accepted).0 ≡ bench_theory
bench_accepted_theory = ok_equal (sym (accepted_gives bench_accepted).1.gives ∙ bench_gives)

pub bench_answer_theory : (answer_gives document01 16_384 16_384 16_384 16_384 text_r (ap (λ r. r.number) firings.bench_rulebook)).0 ≡ bench_theory
bench_answer_theory =
    ok_equal (sym (answer_gives document01 16_384 16_384 16_384 16_384 text_r (ap (λ r. r.number) firings.bench_rulebook)).1.gives ∙ bench_gives)

-- After two declarations of R one symbol is declared.
abbrev begun_theory : Theory
begun_theory = record { sorts = codes "t" ∷ []; symbols = z ∷ []; rules = [] }

pub bench_symbols_arise : TheoryArises document01 text_r begun_theory
unfolding open_all text_r
bench_symbols_arise = record { short = omega arith; rulebook_forms = _; read_whole = refl; declares = declares_next refl (declares_next refl declares_none) }

pub bench_symbols : length begun_theory.symbols < 2 ^ 16
bench_symbols = sixteen_bits_symbols bench_symbols_arise

-- C with its result twice is refused 12. Before that, after three forms, there are two steps and four terms.
abbrev result_item : Item
result_item = group (word (codes "result") then word (codes "g") then word (codes "1") then closed)

abbrev twice_items : Items
twice_items =
    group (word (codes "step") then word (codes "0") then word (codes "base") then group closed then closed)
    then group (word (codes "step") then word (codes "1") then word (codes "more") then group (word (codes "0") then closed) then closed)
    then result_item
    then result_item
    then ended

twice_forms : items (tokens result_twice) ≡ twice_items
unfolding open_all result_twice
twice_forms = refl

abbrev first_step : Step
first_step = step (node hold (zero_term ∷ₜ []ₜ)) base []

abbrev second_step : Step
second_step = step bench_judgment more (0 ∷ [])

abbrev three_forms : Progress
three_forms = progress [] (first_step ∷ second_step ∷ []) (witness (codes "g") 1 ∷ [])

-- The store between the two steps.
abbrev after_first : Store
after_first = record { terms = bench_final.terms; requests = was_made ∷ was_found ∷ bench_store.requests }

twice_proceeds : Proceeds document01 bench_theory (begun bench_goals) twice_items bench_store three_forms bench_final
unfolding open_all
twice_proceeds =
    proceeds_next {next = progress bench_goals (first_step ∷ []) []} {t = after_first} refl
    (proceeds_next {next = progress bench_goals (first_step ∷ second_step ∷ []) []} {t = bench_final} refl
    (proceeds_next {next = three_forms} {t = bench_final} refl proceeds_none))

pub twice_arises : ProgressArises document01 text_r text_g result_twice three_forms
unfolding open_all result_twice
twice_arises =
    record {
      short = omega arith;
      th = bench_theory;
      gives = bench_gives;
      goals = bench_goals;
      store = bench_store;
      read = bench_read;
      then_store = bench_final;
      proceeds = subst (λ is. Proceeds document01 bench_theory (begun bench_goals) is bench_store three_forms bench_final) (sym twice_forms) twice_proceeds;
    }

pub twice_steps : length three_forms.steps < 2 ^ 16
twice_steps = sixteen_bits_steps twice_arises

pub twice_store_arises : StoreArises document01 text_r text_g result_twice bench_final
unfolding twice_arises
twice_store_arises = between_forms document01 twice_arises

pub twice_terms : length bench_final.terms < 2 ^ 16
twice_terms = sixteen_bits_terms twice_store_arises
