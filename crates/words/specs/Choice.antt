-- A choice whose two sides wait: a plain function would compute both.
use Rattle.std.specs.Prelude.{Bool, true, false}

abbrev pub pick : {A : Type 0} → Bool → (Unit {0} → A) → (Unit {0} → A) → A
pick true x y = x tt
pick false x y = y tt
