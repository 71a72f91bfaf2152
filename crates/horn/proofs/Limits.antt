-- 01's limits written out, and "numbers of terms, symbols and steps fit 16 bits" for the counts of the two reports.
use Prim.Native.Nat.{ℕ, ◌+◌, ◌<◌, ◌^◌}
use mathlib.Core.Path.{◌≡◌, refl, subst}
use mathlib.Core.List.{List, [], ◌∷◌}
use native.Mathlib.Omega.{arith}
use lib.ListN.{length}
use Rattle.horn.specs.Refusals.{Result, ok, refused}
use Rattle.horn.specs.Setting.{document01}
use Rattle.horn.specs.Rulebook.{Symbol, symbol, sort, judgment, Theory}
use Rattle.horn.specs.Calls.{Report, report_of, constructor_count, predicate_count, rulebook_answer, release_answer, rulebook_judged, release_judged}
use Rattle.horn.specs.Calls.{rulebook_call, release_call}
use Rattle.horn.proofs.Accepting.{judged_gives, judged_run}
use Rattle.horn.proofs.Arising.{last_theory, last_store, last_progress, sixteen_bits_symbols, sixteen_bits_terms, sixteen_bits_steps}

-- 01's limits: bytes of the three texts, words of the areas, nodes of the store and their words.
pub document01_values :
    document01
    ≡ record { area_words = 16384; last_area_words = 16384; rulebook_bytes = 8192; goals_bytes = 8192; certificate_bytes = 32768; nodes = 2048; node_words = 8192 }
unfolding document01
document01_values = refl

-- The counts of steps and terms in the report of the call with three texts. Of all that arises in a run, symbols included,
-- proofs/Arising says the same.
abbrev Counted : Report → Type 0
Counted r = (r.steps < 2 ^ 16) × (r.terms < 2 ^ 16)

pub sixteen_bits : (a b c d : ℕ) (rulebook goals certificate : List ℕ) → Counted (release_call document01 a b c d rulebook goals certificate)
unfolding release_call release_answer report_of
sixteen_bits a b c d rulebook goals certificate = go (release_judged document01 a b c d rulebook goals certificate) refl
  where
    go : (m : Result Report) → release_judged document01 a b c d rulebook goals certificate ≡ m → Counted (release_answer m)
    go (refused r) e = (omega arith, omega arith)
    go (ok r) e =
        let run = judged_run document01 a b c d rulebook goals certificate e in
        let x = run.met in
        subst Counted run.answers (
          sixteen_bits_steps (last_progress document01 rulebook goals certificate x.short_certificate x.gives x.read x.taken),
          sixteen_bits_terms (last_store document01 rulebook goals certificate x.gives x.read x.taken),
        )

symbols_counted : (ss : List Symbol) → constructor_count ss + predicate_count ss ≡ length ss
unfolding constructor_count predicate_count
symbols_counted [] = refl
symbols_counted (symbol n is (sort s) ∷ ss) = let h = symbols_counted ss in omega arith
symbols_counted (symbol n is judgment ∷ ss) = let h = symbols_counted ss in omega arith

pub sixteen_bits_declared : (a b c d : ℕ) (rulebook : List ℕ) →
    let r = rulebook_call document01 a b c d rulebook in
    r.constructors + r.predicates < 2 ^ 16
unfolding rulebook_call rulebook_answer
sixteen_bits_declared a b c d rulebook = go (rulebook_judged document01 a b c d rulebook) refl
  where
    go : (m : Result Theory) → rulebook_judged document01 a b c d rulebook ≡ m → (rulebook_answer m).constructors + (rulebook_answer m).predicates < 2 ^ 16
    go (refused r) e = omega arith
    go (ok th) e =
        let g = judged_gives document01 a b c d rulebook e in
        let h = sixteen_bits_symbols (last_theory document01 rulebook g.short g.gives) in
        let k = symbols_counted th.symbols in
        omega arith
