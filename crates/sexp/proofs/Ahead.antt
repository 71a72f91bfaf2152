-- How the second walk reads the counts back: one word for each opening, in order.
use Rattle.std.proofs.Common.{◌≡◌, ℕ, suc, ◌+◌, ◌<◌, List, [], ◌∷◌, length, get_or, take, ap, ◌∙◌, arith}
use Rattle.lex.specs.Below.horn.specs.NestedLists.{Sexps}
use Rattle.sexp.specs.Flattening.{counts_all, counts}
use Rattle.sexp.proofs.Held.{count_at}

-- These counts stand in the words from place k on.
unfoldable pub Ahead : List ℕ → ℕ → List ℕ → Type 0
Ahead area k [] = Unit {0}
Ahead area k (c ∷ cs) = (get_or area k 0 ≡ c) × Ahead area (k + 1) cs

ahead_by : (area : List ℕ) (k : ℕ) (cs : List ℕ) → ((j : ℕ) → j < length cs → get_or area (k + j) 0 ≡ get_or cs j 0) → Ahead area k cs
unfolding Ahead
ahead_by area k [] e = tt
ahead_by area k (c ∷ cs) e = (
  ap (λ (n : ℕ). get_or area n 0) (let z : k ≡ k + 0 = omega arith in z) ∙ e 0 (omega arith),
  ahead_by area (k + 1) cs (λ j h. ap (λ (n : ℕ). get_or area n 0) (let z : k + 1 + j ≡ k + suc j = omega arith in z) ∙ e (suc j) (omega (arith, h))),
)

-- After the first walk all counts stand from word 0 on.
pub ahead_start : (area : List ℕ) (xs : Sexps) → take (length (counts xs)) area ≡ counts xs → Ahead area 0 (counts_all xs [])
unfolding counts
ahead_start area xs e =
    ahead_by area 0 (counts_all xs []) (λ j h. ap (λ (n : ℕ). get_or area n 0) (let z : 0 + j ≡ j = omega arith in z) ∙ count_at (counts_all xs []) area j e h)
