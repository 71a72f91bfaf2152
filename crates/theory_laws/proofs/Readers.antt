-- The reader's law in the form that the second walk asks for. Assumes nothing.
use Prim.Native.Nat.{ℕ}
use mathlib.Core.Path.{◌≡◌, refl}
use mathlib.Core.List.{List}
use Rattle.capacity.specs.Below.horn.specs.Tokens.{Stream, end, ◌▹◌, Token}
use Rattle.theory.specs.Below.lex.specs.Answers as lexed
use Rattle.theory.specs.Below.lex.specs.declared.Token.TheVariants.{Opening, Closing, Atom}
use Rattle.theory.specs.Below.lex.specs.declared.Reader.{Reader}
use Rattle.theory.specs.Below.lex.proofs.Standing.{Stands, start_stands}
use Rattle.theory.specs.Below.lex.proofs.Readers as readers
use Rattle.theory.specs.Below.lex.proofs.Readers.{take_opening, take_closing, take_atom, takes, see_end, see_opening, see_closing, see_atom, sees}
use Rattle.theory_laws.specs.Reading.{same_opening, same_closing, same_atom, Takes, Peeks, Reads}

module _ (text : List ℕ) (r : Reader) where
  token_is : (a : lexed.Answer) (t : Token) (ts : Stream Token) → lexed.taken text r ≡ a → readers.Takes text (t ▹ ts) a → Takes text (Stands text) r t ts
  token_is a t ts e (take_opening {r = q} st bare) = record { got = Opening; next = q; taken = e; same = same_opening; before = st }
  token_is a t ts e (take_closing {r = q} st) = record { got = Closing; next = q; taken = e; same = same_closing; before = st }
  token_is a t ts e (take_atom {a = s} {b = f} {r = q} st x y z) =
      record { got = Atom s f; next = q; taken = e; same = same_atom x y z; before = st }

  peek_is : (a : lexed.Answer) (t : Token) (ts : Stream Token) → lexed.peeked text r ≡ a → readers.Sees text (t ▹ ts) a → Peeks text (Stands text) r t ts
  peek_is a t ts e (see_opening {r = q} st) = record { got = Opening; next = q; peeked = e; before = st }
  peek_is a t ts e (see_closing {r = q} st) = record { got = Closing; next = q; peeked = e; before = st }
  peek_is a t ts e (see_atom {a = s} {b = f} {r = q} st) = record { got = Atom s f; next = q; peeked = e; before = st }

  ended_is : (a : lexed.Answer) → readers.Sees text end a → a ≡ lexed.ended
  ended_is a see_end = refl

pub reads : (text : List ℕ) → Reads text (Stands text)
reads text =
    record {
      at_start = start_stands text;
      at_token = λ r t ts s. token_is text r (lexed.taken text r) t ts refl (takes text r (t ▹ ts) s);
      peek_end = λ r s. ended_is text r (lexed.peeked text r) (sees text r end s);
      peek_token = λ r t ts s. peek_is text r (lexed.peeked text r) t ts refl (sees text r (t ▹ ts) s);
    }
