-- What each function answers.
use Rattle.std.specs.Prelude.{ℕ, true, false, ltb}
use Rattle.std.proofs.Math.Option.{Option, none, some}
use Rattle.std.specs.declared.option.Option as code
use Rattle.std.specs.declared.option.Option.TheVariants.{Some, None}

-- What the cases of an answer say: a number, or none, which is refusal 18.
abbrev pub read : code.Option ℕ → Option ℕ
read (Some n) = some n
read None = none

-- A number below 2 to the 32 less 1 as it is, any other as 2 to the 32 less 1.
unfoldable pub saturated : ℕ → ℕ
saturated n = elim (ltb n 4294967295) [ true ↦ n | false ↦ 4294967295 ]
