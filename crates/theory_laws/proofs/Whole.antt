-- Both walks over a rulebook answer as the definition does, for every text of at most 8,192 bytes and areas of 16,384
-- words of any contents; an accepted rulebook's theory stands in the words. Assumes nothing.
use mathlib.Core.Path.{◌≡◌, refl, ap, sym, subst, ◌∙◌}
use mathlib.Core.Bool.{Bool}
use mathlib.Core.List.{List, [], ◌∷◌}
use Prim.Native.Nat.{ℕ, ◌+◌, ◌/◌, ◌≤◌}
use native.Mathlib.Omega.{arith}
use lib.ListN.{length, take}
use Rattle.capacity.specs.Below.horn.specs.Refusals.{number, Result, ok, ◌>>=◌}
use Rattle.capacity.specs.Below.horn.specs.Tokens.{end, tokens}
use Rattle.capacity.specs.Below.horn.specs.NestedLists.{items, sexps, Sexps}
use Rattle.capacity.specs.Below.horn.specs.Rulebook as definition
use Rattle.capacity.specs.Below.horn.specs.Rulebook.{Theory, empty_theory}
use Rattle.capacity.specs.Below.horn.specs.Calls.{RulebookReport, rulebook_report, rulebook_answer}
use Rattle.capacity.specs.Below.horn.proofs.Counts.{stream_length, few_tokens}
use Rattle.capacity.specs.Below.horn.proofs.Inversion.{not_ok}
use Rattle.capacity.specs.Below.horn.specs.Names.{Name}
use Rattle.theory.specs.Below.words.specs.Parts.{cleared}
use Rattle.theory.specs.Below.words.proofs.Writing.{length-cleared, get_d_cleared}
use Rattle.theory.specs.Below.names.specs.Tables as tables
use Rattle.theory.specs.Below.names.specs.Tables.{nothing_yet}
use Rattle.theory.specs.Below.names.proofs.Kept.{empty_table}
use Rattle.theory.specs.Below.lex.specs.Answers as lexed
use Rattle.theory.specs.Below.lex.proofs.Standing.{Stands}
use Rattle.theory.specs.Below.sexp.specs.Flattening.{flattened, counts_all, counts}
use Rattle.theory.specs.Below.sexp.specs.Walk.{walked}
use Rattle.theory.specs.Below.sexp.proofs.Lengths.{walked-length}
use Rattle.theory.specs.Below.sexp.proofs.Whole.{few_lists}
use Rattle.theory.specs.Below.sexp.proofs.Ahead.{Ahead, ahead_start}
use Rattle.theory.specs.Below.sexp.proofs.Law.{walk_cases}
use Rattle.theory.specs.Below.outcomes.specs.Outcomes as outcomes
use Rattle.theory.specs.Below.outcomes.specs.Leaving.{Did, ◌leaving◌}
use Rattle.theory.specs.Below.items.specs.Places as places
use Rattle.theory.specs.Below.variables.specs.Variables.{Areas}
use Rattle.theory.specs.Declarations.{declarations, start_walk}
use Rattle.theory.specs.Walks as walk
use Rattle.theory.specs.Walks.{AllAreas, with_counts}
use Rattle.theory.specs.declared.Counts.{Counts}
use Rattle.theory.specs.Below.outcomes.specs.Simulation.{Simulates, refuse, leave}
use Rattle.theory_laws.specs.Reading.{Next, no_more, one_next, weight}
use Rattle.theory_laws.specs.Representation.{Entries, Declares, Holds}
use Rattle.theory_laws.proofs.Weights.{light_tokens}
use Rattle.theory_laws.proofs.Depth.{whole_shallow}
use Rattle.theory_laws.proofs.Tallies.{tally, none_counted, none_total}
use Rattle.theory_laws.proofs.Declarations.{Accepted, declarations_law, count_longer}
use Rattle.theory_laws.proofs.Readers.{reads}
use Rattle.capacity.specs.Below.horn.proofs.Refusing.{Judges, refuses, judging_number, judges_declarations}

next_ahead : (area : List ℕ) (k : ℕ) (cs : List ℕ) → Ahead area k cs → Next area k cs
unfolding Ahead
next_ahead area k [] a = no_more
next_ahead area k (c ∷ cs) a = one_next a.0 (next_ahead area (k + 1) cs a.1)

-- Before the first declaration.
abbrev no_entries : Entries
no_entries = record { sorts = []; constructors = []; predicates = []; rules = [] }

module _ (text heap : List ℕ) (long : length heap ≡ 16384) where
  declares_nothing : {A : Type 0} (test : Name → A → Bool) (Means : ℕ → A → Type 0) (buckets : ℕ) → buckets ≤ places.rules
      → Declares text (cleared places.entries heap) places.entries buckets [] test Means []
  unfolding tables.top
  declares_nothing test Means buckets b =
      let l = length-cleared places.entries heap in
      record {
        table = empty_table text (omega arith) (omega arith) (omega arith) (λ i x y. get_d_cleared places.entries heap i (omega arith));
        below = omega arith;
        stands = nothing_yet;
      }

  holds_nothing : Holds text (cleared places.entries heap) no_entries places.entries empty_theory
  unfolding empty_theory
  holds_nothing =
      record {
        long = length-cleared places.entries heap ∙ long;
        sorts = declares_nothing _ _ places.sorts (omega arith);
        constructors = declares_nothing _ _ places.constructors (omega arith);
        predicates = declares_nothing _ _ places.predicates (omega arith);
        rules = declares_nothing _ _ places.rules (omega arith);
      }

-- An accepted rulebook: its counts, and its theory in the words below `top`. The other two areas are as long as before.
pub record Judged (text : List ℕ) (c : Counts) (areas : AllAreas) (th : Theory) : Type 0 where
  pub tallied : c ≡ tally th
  pub entries : Entries
  pub top : ℕ
  pub holds : Holds text areas.2 entries top th
  pub low : places.entries ≤ top
  pub high : top ≤ places.theory_end
  pub vars_long : length areas.0 ≡ 16384
  pub counts_long : length areas.1 ≡ 16384

module _ (text : List ℕ) (short : length text ≤ 8192) where
  with_counts_lem : (area : List ℕ) → length area ≡ 16384 → {m : Did Areas Counts} {m' : Result Theory}
      → Simulates (Accepted text area (Stands text) (reads text) short) m m'
      → Simulates (Judged text) (with_counts area m) m'
  with_counts_lem area l (refuse e) = refuse e
  with_counts_lem area l (leave q) =
      leave record {
        tallied = q.tallied;
        entries = q.entries;
        top = q.top;
        holds = q.holds;
        low = q.low;
        high = q.high;
        vars_long = q.long;
        counts_long = l;
      }

  second_walk : (vars area heap : List ℕ) (xs : Sexps) → length vars ≡ 16384 → length heap ≡ 16384
      → sexps (items (tokens text)) ≡ ok xs
      → tokens text ≡ flattened xs
      → take (length (counts xs)) area ≡ counts xs
      → Simulates (Accepted text area (Stands text) (reads text) short) (declarations text area vars (cleared places.entries heap))
      (definition.declarations empty_theory xs)
  unfolding declarations start_walk flattened counts
  second_walk vars area heap xs long_vars long e whole found =
      let light = light_tokens text in
      let few = few_tokens text in
      let n = few_lists text xs e in
      let z = ap weight whole in
      let y = ap stream_length whole in
      let m = count_longer xs end in
      let t = none_total in
      rw (none_counted)
      (declarations_law text area (Stands text) (reads text) short xs (length text / 2 + 1) empty_theory no_entries vars
      record {
        walks = record {
          before = subst (Stands text lexed.start) whole (reads text).at_start;
          counted = next_ahead area 0 (counts_all xs []) (ahead_start area xs found);
          few = omega arith;
        };
        holds = holds_nothing text heap long;
        above = omega arith;
        base_low = omega arith;
        room = omega arith;
      }
      long_vars (whole_shallow (items (tokens text)) xs e 260 (omega arith)) (whole_shallow (items (tokens text)) xs e 259 (omega arith))
      (omega arith) (omega arith) (omega arith))

  -- Both walks.
  pub theory_law : (vars member_counts heap : List ℕ) → length vars ≡ 16384 → length member_counts ≡ 16384 → length heap ≡ 16384
      → Simulates (Judged text) (walk.theory text vars member_counts heap) (definition.theory text)
  unfolding walk.theory definition.theory ◌>>=◌
  theory_law vars member_counts heap long_vars long_counts long =
      walk_cases text member_counts short (omega arith)
      (λ r e a. rw (a, e) (refuse refl))
      (λ xs e whole a found.
      rw (a, e) (with_counts_lem (walked text member_counts).area (walked-length text member_counts ∙ long_counts)
      (second_walk vars (walked text member_counts).area heap xs long_vars long e whole found)))

-- The report of both walks: number and counts.
abbrev pub reported : Did AllAreas Counts → RulebookReport
reported (outcomes.ok c leaving s) = rulebook_report 0 c.sorts c.constructors c.predicates c.rules
reported (outcomes.refused n leaving s) = rulebook_report n 0 0 0 0

report_of_lem : {text : List ℕ} {m : Did AllAreas Counts} {m' : Result Theory} → Simulates (Judged text) m m' → reported m ≡ rulebook_answer m'
unfolding rulebook_answer
report_of_lem (refuse e) = rw e
report_of_lem (leave q) = rw q.tallied

-- Number and counts are the definition's, whatever the areas held.
pub report_law : (text vars member_counts heap : List ℕ) → length text ≤ 8192 → length vars ≡ 16384 → length member_counts ≡ 16384 → length heap ≡ 16384
    → reported (walk.theory text vars member_counts heap) ≡ rulebook_answer (definition.theory text)
report_law text vars member_counts heap short long_vars long_counts long = report_of_lem (theory_law text short vars member_counts heap long_vars long_counts long)

-- In the second walk refusals 3 to 6 and 10 cannot happen: what was read whole is only judged.
refuses_judging : {S A B : Type 0} {Q : A → S → B → Type 0} {m : Did S A} {m' : Result B} → Simulates Q m m' → Judges m' → {n : ℕ} {s : S}
    → m ≡ (outcomes.refused n leaving s)
    → (7 ≤ n) × (n ≡ 10 → ⊥)
refuses_judging (refuse {n = k} e) (refuses r j) {n} f =
    let q : n ≡ number r = (let z : n ≡ k = cc in z ∙ e) in rw q (judging_number j)
refuses_judging (leave q) j f = let z : ◌≡◌ {A = ℕ} 0 1 = cc in absurd (omega arith)

pub second_walk_judges : (text vars member_counts heap : List ℕ) → length text ≤ 8192 → length vars ≡ 16384 → length member_counts ≡ 16384 → length heap ≡ 16384
    → (xs : Sexps)
    → sexps (items (tokens text)) ≡ ok xs
    → {n : ℕ} {areas : Areas}
    → declarations text (walked text member_counts).area vars (cleared places.entries heap) ≡ (outcomes.refused n leaving areas)
    → (7 ≤ n) × (n ≡ 10 → ⊥)
second_walk_judges text vars member_counts heap short long_vars long_counts long xs e f =
    walk_cases text member_counts short (omega arith)
    (λ r g a. not_ok (sym g ∙ e))
    (λ ys g whole a found.
    refuses_judging (second_walk text short vars (walked text member_counts).area heap ys long_vars long g whole found) (judges_declarations empty_theory ys) f)
