-- What the first walk says of a rulebook that it reads whole: its tokens are its nested lists written out, and how many
-- members each list has.
use Rattle.std.specs.Prelude.{ℕ, List, [], ◌∷◌}
use Rattle.lex.specs.Below.horn.specs.Tokens.{Stream, end, ◌▹◌, Token, opening, closing, atom}
use Rattle.lex.specs.Below.horn.specs.NestedLists.{Sexp, leaf, list, Sexps, []ₛ, ◌∷ₛ◌}
use Rattle.lex.specs.Below.horn.specs.Rulebook.{count}

-- A nested list written in front of other tokens, and several.
unfoldable mutual
  pub flat_one : Sexp → Stream Token → Stream Token
  flat_one (leaf bytes) ts = atom bytes ▹ ts
  flat_one (list xs) ts = opening ▹ flat xs (closing ▹ ts)

  pub flat : Sexps → Stream Token → Stream Token
  flat []ₛ ts = ts
  flat (x ∷ₛ xs) ts = flat_one x (flat xs ts)

-- All tokens of a text whose nested lists these are.
unfoldable pub flattened : Sexps → Stream Token
flattened xs = flat xs end

-- The number of members of each list, in the order of their openings, in front of other counts.
unfoldable mutual
  pub counts_one : Sexp → List ℕ → List ℕ
  counts_one (leaf bytes) cs = cs
  counts_one (list xs) cs = count xs ∷ counts_all xs cs

  pub counts_all : Sexps → List ℕ → List ℕ
  counts_all []ₛ cs = cs
  counts_all (x ∷ₛ xs) cs = counts_one x (counts_all xs cs)

-- The member counts of a text whose nested lists these are.
unfoldable pub counts : Sexps → List ℕ
counts xs = counts_all xs []
