use Rattle.std.proofs.Common.{◌≡◌, drop}
use Rattle.words.specs.Hash.{hashed_all}
use Rattle.words.proofs.hash_all.Given as goal

abbrev pub invariant-loop-word : goal.invariant-loop-word
invariant-loop-word l = hashed_all 0 l.s ≡ hashed_all l.h (drop l.word-index l.s)
