-- One law for each way through the loop of the walk.
use Rattle.std.proofs.Common.{◌≡◌, ℕ, suc, ◌+◌, ◌-◌, ◌<◌, ◌≤◌, List, sym, ap, ◌∙◌, arith}
use Rattle.lex.specs.Below.horn.specs.Refusals.{number}
use Rattle.lex.specs.Answers as lexed
use Rattle.lex.specs.declared.Token.{Token}
use Rattle.lex.specs.declared.Reader.{Reader}
use Rattle.lex.specs.declared.Read.TheVariants.{Got, End, Bad}
use Rattle.sexp.specs.declared.Place.{Place}
use Rattle.sexp.specs.Steps.{On, Refused}
use Rattle.sexp.specs.Walk.{refused, answering, stepped, area_stepped, ended_at, goes_on, turn, walk}

module _ (n i : ℕ) (text : List ℕ) (r : Reader) (p : Place) (area : List ℕ) where
  pub walk_out : n ≤ i → walk (n - i) text r p area ≡ answering (refused 2) area
  unfolding walk number
  walk_out h = ap (λ (f : ℕ). walk f text r p area) (let z : n - i ≡ 0 = omega arith in z)

  -- One turn.
  on : i < n → (a : lexed.Answer) → a ≡ lexed.taken text r → walk (n - i) text r p area ≡ turn (walk (n - (i + 1)) text) p area a
  unfolding walk
  on h a e =
      ap (λ (f : ℕ). walk f text r p area) (let z : n - i ≡ suc (n - (i + 1)) = omega arith in z)
      ∙ ap (turn (walk (n - (i + 1)) text) p area) (sym e)

  module _ (h : i < n) where
    pub walk_bad : lexed.answer Bad ≡ lexed.taken text r → walk (n - i) text r p area ≡ answering (refused 3) area
    unfolding turn lexed.answer number
    walk_bad e = on h (lexed.answer Bad) e

    pub walk_end : lexed.answer End ≡ lexed.taken text r → walk (n - i) text r p area ≡ answering (ended_at p) area
    unfolding turn lexed.answer
    walk_end e = on h (lexed.answer End) e

    module _ (t : Token) (r' : Reader) (e : lexed.answer (Got t r') ≡ lexed.taken text r) where
      steps : walk (n - i) text r p area ≡ goes_on (walk (n - (i + 1)) text) r' (area_stepped t p area) (stepped t p)
      unfolding turn lexed.answer
      steps = on h (lexed.answer (Got t r')) e

      pub walk-refused : {m : ℕ} → stepped t p ≡ Refused m → walk (n - i) text r p area ≡ answering (refused m) (area_stepped t p area)
      unfolding goes_on
      walk-refused q = steps ∙ ap (goes_on (walk (n - (i + 1)) text) r' (area_stepped t p area)) q

      pub walk_on_lem : {p' : Place} → stepped t p ≡ On p' → walk (n - i) text r p area ≡ walk (n - (i + 1)) text r' p' (area_stepped t p area)
      unfolding goes_on
      walk_on_lem q = steps ∙ ap (goes_on (walk (n - (i + 1)) text) r' (area_stepped t p area)) q

pub ruleset turns = (walk_out, walk_bad, walk_end, walk-refused, walk_on_lem)
