-- A line that is not UTF-8 is refusal 3, as models of readers have it by the definition's name.
use mathlib.Core.Path.{◌≡◌, refl}
use Rattle.names.specs.Below.horn.specs.Refusals.{number, not_utf8}

pub bad_line : number not_utf8 ≡ 3
unfolding number
bad_line = refl
