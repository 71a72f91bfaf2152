-- What a reader answers, by the tokens before which it stands: the form in which the walks ask for it. Assumes nothing.
use Rattle.std.specs.Prelude.{None}
use Prim.Native.Nat.{ℕ, ◌≤◌, ◌<◌}
use mathlib.Core.Path.{◌≡◌, refl}
use mathlib.Core.List.{List}
use lib.ListN.{length}
use native.Mathlib.Omega.{arith}
use Rattle.utf8.specs.Below.horn.specs.Refusals.{number}
use Rattle.utf8.specs.Below.horn.specs.Tokens.{Stream, end, bad, ◌▹◌, Token, opening, closing, atom}
use Rattle.utf8.specs.Below.words.specs.Parts.{part}
use Rattle.lex.specs.Answers as lexed
use Rattle.lex.specs.declared.Token.TheVariants.{Opening, Closing, Atom}
use Rattle.lex.specs.declared.Reader.{Reader}
use Rattle.lex.proofs.Standing as standing
use Rattle.lex.proofs.Standing.{Stands}
use Rattle.lex.proofs.Positions.{never_past}

-- What taking a token answers, by the tokens that come.
pub data Takes (text : List ℕ) : Stream Token → lexed.Answer → Type 0 where
  take_end : Takes text end lexed.ended
  take_bad : Takes text bad (lexed.refused 3)
  take_opening : {r : Reader} {s : Stream Token} → Stands text r s → r.ahead ≡ None → Takes text (opening ▹ s) (lexed.token Opening r)
  take_closing : {r : Reader} {s : Stream Token} → Stands text r s → Takes text (closing ▹ s) (lexed.token Closing r)
  take_atom : {a b : ℕ} {r : Reader} {bytes : List ℕ} {s : Stream Token} → Stands text r s → part a b text ≡ bytes → a < b → b ≤ length text
      → Takes text (atom bytes ▹ s) (lexed.token (Atom a b) r)

-- What a look answers.
pub data Sees (text : List ℕ) : Stream Token → lexed.Answer → Type 0 where
  see_end : Sees text end lexed.ended
  see_bad : Sees text bad (lexed.refused 3)
  see_opening : {r : Reader} {s : Stream Token} → Stands text r (opening ▹ s) → Sees text (opening ▹ s) (lexed.token Opening r)
  see_closing : {r : Reader} {s : Stream Token} → Stands text r (closing ▹ s) → Sees text (closing ▹ s) (lexed.token Closing r)
  see_atom : {a b : ℕ} {r : Reader} {bytes : List ℕ} {s : Stream Token} → Stands text r (atom bytes ▹ s)
      → Sees text (atom bytes ▹ s) (lexed.token (Atom a b) r)

module _ (text : List ℕ) where
  pub takes : (r : Reader) (s : Stream Token) → Stands text r s → Takes text s (lexed.taken text r)
  unfolding standing.TakenFrom standing.Moved standing.meant number
  takes r s st = by (lexed.taken text r) (standing.token_law text r s st) where
    by : (a : lexed.Answer) → standing.TakenFrom text (standing.place r) a s → Takes text s a
    by lexed.ended k = rw k take_end
    by (lexed.refused n) k = rw (k.0, k.1) take_bad
    by (lexed.token Opening q) k = rw k.next (take_opening k.stands k.cleared)
    by (lexed.token Closing q) k = rw k.next (take_closing k.stands)
    by (lexed.token (Atom a b) q) k =
        let m = k.moved in
        let u = never_past text q k.others k.stands in
        let e = m.to in
        rw k.next (take_atom k.stands refl m.some (omega arith))

  pub sees : (r : Reader) (s : Stream Token) → Stands text r s → Sees text s (lexed.peeked text r)
  unfolding standing.SeenFrom standing.meant number
  sees r s st = by (lexed.peeked text r) (standing.peek_law text r s st) where
    by : (a : lexed.Answer) → standing.SeenFrom text (standing.place r) a s → Sees text s a
    by lexed.ended k = rw k see_end
    by (lexed.refused n) k = rw (k.0, k.1) see_bad
    by (lexed.token Opening q) k = rw k.next (see_opening (rw k.next at k.stands))
    by (lexed.token Closing q) k = rw k.next (see_closing (rw k.next at k.stands))
    by (lexed.token (Atom a b) q) k = rw k.next (see_atom (rw k.next at k.stands))

  pub taken_end : {a : lexed.Answer} → Takes text end a → a ≡ lexed.ended
  taken_end take_end = refl

  pub taken_bad : {a : lexed.Answer} → Takes text bad a → a ≡ lexed.refused 3
  taken_bad take_bad = refl
