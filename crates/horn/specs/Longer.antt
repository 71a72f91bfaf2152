-- Request L4 of document 02: an old release under a longer rulebook.
use Rattle.std.specs.Prelude.{ℕ, ◌≡◌, List, ◌∷◌, ◌++◌}
use Rattle.horn.specs.Setting.{Setting}
use Rattle.horn.specs.Calls.{Report, release_call}
use Rattle.horn.specs.Forced.{LongEnough, Accepted}

-- "R, a new line and further text".
unfoldable pub longer : List ℕ → List ℕ → List ℕ
longer rulebook further = rulebook ++ (0x0A ∷ further)

-- "Let R be an accepted rulebook, and let R, a new line and further text be accepted too. Then every goals text and certificate accepted
-- under R is accepted under the longer one with the same counts." Said of the answer to a call with three texts on areas of these lengths,
-- whose rulebook is the longer one: it is the very report, number and counts, that is given under R, on whatever areas. "A refused release
-- may become accepted; nothing is promised there."
pub record Kept (limits : Setting) (a b c d : ℕ) (rulebook text certificate : List ℕ) (answer : Report) : Type 0 where
  pub keeps : (R further : List ℕ) (i j k l : ℕ)
      → rulebook ≡ longer R further
      → Accepted limits R
      → Accepted limits rulebook
      → LongEnough limits a b c d
      → (release_call limits i j k l R text certificate).number ≡ 0
      → answer ≡ release_call limits i j k l R text certificate
