-- "30 comes only from the program, before all else": what the program answers on three files.
use Rattle.std.specs.Prelude.{ℕ, ◌≡◌, List}
use Rattle.std.proofs.Math.Option.{Option, none, some}
use Rattle.horn.specs.Refusals.{number, not_opened}
use Rattle.horn.specs.Setting.{document01}
use Rattle.horn.specs.Calls.{Report, report, release_call}
use Rattle.std.specs.Prelude as std
use Rattle.words.specs.Parts.{part}
use denote.Ref.{Bor}
use Rattle.release_files.specs.declared.Three.{Three}

-- The text that became of a file, or none.
abbrev pub text : std.Option (Bor (List ℕ)) → Option (List ℕ)
text (std.Some s) = some s.now
text std.None = none

-- The text that a buffer begins with, up to where its file was read, or none.
abbrev pub up_to : std.Option ℕ → List ℕ → Option (List ℕ)
up_to (std.Some n) buffer = some (part 0 n buffer)
up_to std.None buffer = none

-- Three things, or nothing if one is missing.
abbrev pub all_of : {T : Type 0} → std.Option T → std.Option T → std.Option T → std.Option (Three T)
all_of std.None g c = std.None
all_of (std.Some r) std.None c = std.None
all_of (std.Some r) (std.Some g) std.None = std.None
all_of (std.Some r) (std.Some g) (std.Some c) = std.Some (record { rulebook = r; goals = g; certificate = c })

-- 30 with zero counts if one of the three is not opened, whatever the others hold. Else what the call with three texts answers.
unfoldable pub answered : Option (List ℕ) → Option (List ℕ) → Option (List ℕ) → Report
answered none g c = report (number not_opened) 0 0 0 0 0
answered (some r) none c = report (number not_opened) 0 0 0 0 0
answered (some r) (some g) none = report (number not_opened) 0 0 0 0 0
answered (some r) (some g) (some c) = release_call document01 16_384 16_384 16_384 16_384 r g c

-- A report that is the definition's, of some texts. Which these are, no contract can say.
pub record Answered (r : Report) : Type 0 where
  pub rulebook : Option (List ℕ)
  pub goals : Option (List ℕ)
  pub certificate : Option (List ℕ)
  pub same : r ≡ answered rulebook goals certificate
