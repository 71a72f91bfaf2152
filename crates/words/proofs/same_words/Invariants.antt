use Rattle.std.proofs.Common.{◌≡◌, drop, length}
use Rattle.words.specs.Parts.{same_bytes}
use Rattle.words.proofs.same_words.Given as goal

abbrev pub invariant-loop-i : goal.invariant-loop-i
invariant-loop-i l = (same_bytes l.a l.b ≡ same_bytes (drop l.i l.a) (drop l.i l.b)) × (length l.a ≡ length l.b)
