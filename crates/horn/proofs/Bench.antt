-- The bench set of document 01: its texts, and what the rulebook and the goals text are read to.
use Prim.Native.Nat.{ℕ}
use mathlib.Core.Path.{◌≡◌, refl}
use mathlib.Core.List.{List, [], ◌∷◌}
use Rattle.horn.specs.Refusals.{ok}
use Rattle.horn.specs.Setting.{Setting, document01}
use Rattle.horn.specs.Names.{codes}
use Rattle.horn.specs.Rulebook.{Symbol, symbol, sort, judgment, variable, var, app, []ₚ, ◌∷ₚ◌, Rule, rule, Theory, theory}
use Rattle.horn.specs.StoredTerms.{Term, node, []ₜ, ◌∷ₜ◌, was_found, was_made, Store, empty_store}
use Rattle.horn.specs.Checker.{Goal, goal, goals_of}
use Rattle.horn.proofs.Run.{open_all}

-- The three texts.
unfoldable pub text_r : List ℕ
text_r = codes "(sort t)(ctor z () t)(ctor s (t) t)(pred hold (t))(rule base () (hold z))(rule more ((hold ?x)) (hold (s ?x)))"

unfoldable pub text_g : List ℕ
text_g = codes "(goal g (hold (s z)))"

unfoldable pub text_c : List ℕ
text_c = codes "(step 0 base ())\n(step 1 more (0))\n(result g 1)\n"

-- C with its result twice.
unfoldable pub result_twice : List ℕ
result_twice = codes "(step 0 base ())\n(step 1 more (0))\n(result g 1)\n(result g 1)\n"

-- The symbols and the rules of R.
abbrev pub z : Symbol
z = symbol (codes "z") [] (sort (codes "t"))

abbrev pub s : Symbol
s = symbol (codes "s") (codes "t" ∷ []) (sort (codes "t"))

abbrev pub hold : Symbol
hold = symbol (codes "hold") (codes "t" ∷ []) judgment

abbrev pub base : Rule
base = rule (codes "base") [] [] (app hold (app z []ₚ ∷ₚ []ₚ))

abbrev pub more : Rule
more =
    rule (codes "more") (variable (codes "?x") (codes "t") ∷ []) (app hold (var (codes "?x") ∷ₚ []ₚ) ∷ [])
    (app hold (app s (var (codes "?x") ∷ₚ []ₚ) ∷ₚ []ₚ))

-- The theory of R, the judgment of G's only goal, and the store after G.
abbrev pub bench_theory : Theory
bench_theory =
    record {
      sorts = codes "t" ∷ [];
      symbols = z ∷ s ∷ hold ∷ [];
      rules = base ∷ more ∷ [];
    }

abbrev pub zero_term : Term
zero_term = node z []ₜ

abbrev pub one_term : Term
one_term = node s (zero_term ∷ₜ []ₜ)

abbrev pub bench_judgment : Term
bench_judgment = node hold (one_term ∷ₜ []ₜ)

abbrev pub bench_goals : List Goal
bench_goals = goal (codes "g") bench_judgment ∷ []

pub bench_gives : theory text_r ≡ ok bench_theory
unfolding open_all text_r text_g
bench_gives = refl

abbrev pub bench_store : Store
bench_store = record { terms = zero_term ∷ one_term ∷ bench_judgment ∷ []; requests = was_made ∷ was_made ∷ was_made ∷ [] }

pub bench_read : goals_of document01 bench_theory text_g empty_store ≡ ok (bench_goals, bench_store)
unfolding open_all text_r text_g
bench_read = refl

-- The store after C.
abbrev pub bench_final : Store
bench_final =
    record {
      terms = zero_term ∷ one_term ∷ bench_judgment ∷ node hold (zero_term ∷ₜ []ₜ) ∷ [];
      requests = was_found ∷ was_found ∷ was_made ∷ was_found ∷ was_made ∷ was_made ∷ was_made ∷ [];
    }

-- Limits that R, G and a certificate of some bytes meet exactly, if the store is to hold the four terms of `bench_final`.
abbrev pub tight_for : ℕ → Setting
tight_for bytes =
    record {
      area_words = 16_384;
      last_area_words = 16_384;
      rulebook_bytes = 110;
      goals_bytes = 21;
      certificate_bytes = bytes;
      nodes = 4;
      node_words = 7;
    }
