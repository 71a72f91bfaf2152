-- What is taken of a reader, beside the token that the definition has next. Assumes nothing.
use Rattle.std.specs.Prelude.{None}
use Prim.Native.Nat.{ℕ, suc, ◌+◌, ◌≤◌, ◌<◌}
use mathlib.Core.Path.{◌≡◌, ap, sym}
use mathlib.Core.List.{List}
use lib.ListN.{length}
use native.Mathlib.Omega.{arith}
use Rattle.theory_laws.specs.Below.horn.specs.Tokens.{Stream, ◌▹◌, Token, opening, closing, atom}
use Rattle.theory_laws.specs.Below.words.specs.Parts.{part}
use Rattle.asking.specs.Below.lex.specs.Answers as lexed
use Rattle.asking.specs.Below.lex.specs.declared.Token.TheVariants.{Opening, Closing, Atom}
use Rattle.asking.specs.Below.lex.specs.declared.Reader.{Reader}
use Rattle.asking.specs.Below.lex.proofs.Readers.{Takes, take_opening, take_closing, take_atom}
use Rattle.theory_laws.specs.Reading.{weight}
use Rattle.theory_laws.specs.Below.words.proofs.Laws.{part-length}
use Rattle.asking_laws.proofs.Places.{At}

module _ (text : List ℕ) where
  -- A token that comes was taken: the reader stands behind it. An atom spends two bytes at least.
  pub data Got (K : Stream Token → Type 0) (n : ℕ) : Token → lexed.Answer → Type 0 where
    got_opening : {q : Reader} → At text K n q → q.ahead ≡ None → Got K n opening (lexed.token Opening q)
    got_closing : {q : Reader} → At text K n q → Got K n closing (lexed.token Closing q)
    got_atom : {a b : ℕ} {q : Reader} {bytes : List ℕ} → part a b text ≡ bytes → a < b → b ≤ length text → At text K (n + 2) q
        → Got K n (atom bytes) (lexed.token (Atom a b) q)

  pub got : {K : Stream Token → Type 0} {n : ℕ} (t : Token) (u : Stream Token) (a : lexed.Answer) → K u
      → n + weight (t ▹ u) ≤ suc (length text) → Takes text (t ▹ u) a → Got K n t a
  unfolding weight
  got opening u a k l (take_opening st bare) = got_opening record { coming = u; stands = st; here = k; light = l } bare
  got closing u a k l (take_closing st) = got_closing record { coming = u; stands = st; here = k; light = l }
  got (atom bytes) u a k l (take_atom {a = s} {b = t} st e g h) =
      let z : length bytes ≡ length (part s t text) = ap length (sym e) in
      let y = part-length s t text h in
      got_atom e g h record { coming = u; stands = st; here = k; light = omega arith }
