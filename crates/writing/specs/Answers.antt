-- What a call that writes one text answers, in the definition's words.
use Rattle.std.specs.Prelude.{ℕ, List}
use Rattle.horn.specs.Output.{Output, output}
use Rattle.writing.specs.declared.Written.{Written}

-- The answer, with what the buffer holds afterwards.
abbrev pub told : Written → List ℕ → Output
told w buffer = output w.number w.length buffer
