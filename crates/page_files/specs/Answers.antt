-- "30 comes only from the program, before all else": what the program writes of three files.
use Rattle.std.specs.Prelude.{ℕ, ◌≡◌, List}
use Rattle.std.proofs.Math.Option.{Option, none, some}
use Rattle.horn.specs.Refusals.{refused, not_opened}
use Rattle.horn.specs.Setting.{document01}
use Rattle.horn.specs.Output.{Output, output_of}
use Rattle.horn.specs.Page.{page_call}

-- 30 and no byte if one of the three is not opened, whatever the others hold. Else what the call of the page writes.
unfoldable pub answered : Option (List ℕ) → Option (List ℕ) → Option (List ℕ) → List ℕ → Output
answered none g c buffer = output_of (refused not_opened) buffer
answered (some r) none c buffer = output_of (refused not_opened) buffer
answered (some r) (some g) none buffer = output_of (refused not_opened) buffer
answered (some r) (some g) (some c) buffer = page_call document01 16_384 16_384 16_384 16_384 r g c buffer

-- An output that is the definition's, of some texts. Which these are, no contract can say.
pub record Answered (o : Output) (buffer : List ℕ) : Type 0 where
  pub rulebook : Option (List ℕ)
  pub goals : Option (List ℕ)
  pub certificate : Option (List ℕ)
  pub same : o ≡ answered rulebook goals certificate buffer
