-- A lent buffer with bytes written into it.
use Rattle.std.specs.Prelude.{ℕ, List}
use Rattle.std.proofs.lemmas.List.Edits.{sets}

-- Bytes written over a buffer from a place on, as far as there are such places.
unfoldable pub placed : ℕ → List ℕ → List ℕ → List ℕ
placed start bytes out = sets out start bytes
