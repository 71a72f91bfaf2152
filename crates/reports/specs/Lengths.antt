-- The lengths that a call with three texts asks for.
use Rattle.std.specs.Prelude.{ℕ, leb}
use Rattle.clearing.specs.Lengths.{long_enough}
use Rattle.outcomes.specs.Outcomes.{Outcome, need, ◌>>=◌}

-- "Order: area lengths, text lengths", of four areas, and of the rulebook, the goals and the certificate.
unfoldable pub lengths_tested : ℕ → ℕ → ℕ → ℕ → ℕ → ℕ → ℕ → Outcome (Unit {0})
lengths_tested a b c d rulebook goals certificate = do
  _ ← need (long_enough a b c d) 1
  _ ← need (leb rulebook 8192) 2
  _ ← need (leb goals 8192) 2
  need (leb certificate 32768) 2
