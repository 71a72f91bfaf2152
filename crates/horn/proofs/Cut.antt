-- The cut of a text into items is faithful: what stands around a reader, written out as tokens, is the tokens that are still to be read.
use mathlib.Core.Path.{◌≡◌, refl, sym, ap, ◌∙◌}
use Rattle.horn.specs.Tokens.{Stream, end, bad, ◌▹◌, Token, opening, closing, atom}
use Rattle.horn.specs.NestedLists.{Around, at_end, at_bad_line, ◌inside◌, innermost, outer, add, around, written, written_out}

-- What stands around a reader is what is left of its own list, then what stands around that.
pub in_front : (a : Around) → written_out a ≡ written (innermost a) (written_out (outer a))
unfolding written_out written innermost outer
in_front at_end = refl
in_front at_bad_line = refl
in_front (is inside a) = refl

-- A reader takes the next token by taking the first item, by entering it, or by finding a closing, the end or a bad line
-- where no item is left. Written out, each is that very token, and what follows it are the tokens behind. So nothing that
-- is read by items differs from reading token by token.
pub cut : (ts : Stream Token) → written_out (around ts) ≡ ts
unfolding written_out written around add
cut end = refl
cut bad = refl
cut (closing ▹ ts) = ap (λ x. closing ▹ x) (cut ts)
cut (atom bytes ▹ ts) = ap (λ x. atom bytes ▹ x) (sym (in_front (around ts)) ∙ cut ts)
cut (opening ▹ ts) =
    ap (λ x. opening ▹ x)
    (ap (written (innermost (around ts))) (sym (in_front (outer (around ts)))) ∙ sym (in_front (around ts)) ∙ cut ts)
