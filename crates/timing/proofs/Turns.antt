-- One turn of the count. Assumes nothing.
use Rattle.std.proofs.Common.{◌≡◌, refl, ℕ, suc, ◌+◌, ◌-◌, ◌<◌, ◌≤◌, List, arith}
use Rattle.lex.specs.Answers.{token, ended, refused, taken}
use Rattle.lex.specs.declared.Reader.{Reader}
use Rattle.timing.specs.Count.{counted}

module _ (e : ℕ) (text : List ℕ) (r : Reader) (n : ℕ) where
  pub turn : n < e → counted (e - n) text r n
      ≡ elim (taken text r) [ token t next ↦ counted (e - (n + 1)) text next (n + 1) | ended ↦ n | refused k ↦ n ]
  unfolding counted
  turn l = let same : e - n ≡ suc (e - (n + 1)) = omega arith in rw same

  pub over : e ≤ n → counted (e - n) text r n ≡ n
  unfolding counted
  over h = let none : e - n ≡ 0 = omega arith in rw none refl

pub ruleset turns = (turn, over)
