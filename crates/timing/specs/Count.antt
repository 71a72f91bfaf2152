-- The number of tokens that a reader takes, at most `fuel` of them.
use Rattle.std.specs.Prelude.{ℕ, zero, suc, ◌+◌, List}
use Rattle.lex.specs.Answers.{token, ended, refused, taken}
use Rattle.lex.specs.declared.Reader.{Reader}

unfoldable pub counted : ℕ → List ℕ → Reader → ℕ → ℕ
counted zero text r n = n
counted (suc fuel) text r n =
    elim (taken text r) [ token t next ↦ counted fuel text next (n + 1) | ended ↦ n | refused k ↦ n ]
