-- A case that is read of a file.
use Rattle.std.specs.Prelude.{ℕ, ◌≡◌, List, ◌++◌, length, Option}
use Rattle.std.specs.Io.KnownBytes.{Consumes}
use Rattle.call_cases.specs.declared.Case.{Case}
use Rattle.call_cases.specs.Heads.{head_from}

-- Its label and its texts are as long as its head says.
abbrev pub IsOf : Case → Type 0
IsOf c = (length c.label.now ≡ c.head.label) × (length c.rulebook.now ≡ c.head.rulebook)
    × (length c.goals.now ≡ c.head.goals) × (length c.certificate.now ≡ c.head.certificate)

-- Its label and its texts, one behind the other.
abbrev pub texts_of : Case → List ℕ
texts_of c = c.label.now ++ c.rulebook.now ++ c.goals.now ++ c.certificate.now

-- What was read of the file is twenty bytes that say its head, and then its label and its texts.
abbrev pub IsNext : Option (List ℕ) → Option (List ℕ) → Case → Type 0
IsNext old new c = (b : List ℕ) × (length b ≡ 20) × (c.head ≡ head_from b) × Consumes old new (b ++ texts_of c)
