-- "Nested lists" in document 01.
use Rattle.std.specs.Prelude.{ℕ, suc, List, [], ◌∷◌, leb}
use Rattle.horn.specs.Refusals.{Refusal, nesting, not_utf8, text_ends, stray_closing, Result, ok, refused, ◌>>=◌, need}
use Rattle.horn.specs.Tokens.{Stream, end, bad, ◌▹◌, Token, opening, closing, atom}

-- What stands in a text to be asked for: an item is a word, which is an atom's bytes, or a group.
mutual
  pub data Item : Type 0 where
    word : List ℕ → Item
    group : Items → Item

  -- What is left of a group: items, up to its closing, to the end of the text or to a line that is not UTF-8.
  pub data Items : Type 0 where
    closed ended bad_line : Items
    ◌then◌ : Item → Items → Items

infixr 20 ◌then◌
-- What is left of the list that a reader stands in, then of the list around it, and so on. Where the text ends, or a bad
-- line comes, all that are left end alike. Before the `b` of `((a b) c)` that is: `b` up to the closing, then `c` up to the
-- closing, then the end of the text.
pub data Around : Type 0 where
  at_end at_bad_line : Around
  ◌inside◌ : Items → Around → Around

infixr 20 ◌inside◌
-- What is left of the list that the reader stands in.
unfoldable pub innermost : Around → Items
innermost at_end = ended
innermost at_bad_line = bad_line
innermost (items inside around) = items

-- What is left of the lists around that one.
unfoldable pub outer : Around → Around
outer at_end = at_end
outer at_bad_line = at_bad_line
outer (items inside around) = around

-- A token in front: a closing ends its list, an atom is an item, an opening begins an item that holds all up to its
-- closing.
unfoldable pub add : Token → Around → Around
add closing a = closed inside a
add (atom bytes) a = (word bytes then innermost a) inside outer a
add opening a = (group (innermost a) then innermost (outer a)) inside outer (outer a)

-- What stands around a reader before these tokens.
unfoldable pub around : Stream Token → Around
around end = at_end
around bad = at_bad_line
around (t ▹ ts) = add t (around ts)

-- The way back: items as tokens, in front of the tokens behind their closing.
unfoldable mutual
  pub written_item : Item → Stream Token → Stream Token
  written_item (word bytes) ts = atom bytes ▹ ts
  written_item (group inner) ts = opening ▹ written inner ts

  -- The items of a group, up to its closing. Where the end of the text or a bad line breaks them off, that ends the tokens too.
  pub written : Items → Stream Token → Stream Token
  written closed ts = closing ▹ ts
  written ended ts = end
  written bad_line ts = bad
  written (item then rest) ts = written_item item (written rest ts)

-- All that stands around a reader as tokens. That `written_out (around ts)` is `ts`, for all tokens, is proved (`cut` in proofs/Cut). So
-- nothing is lost or added where a text is cut into items: what is read by items is what would be read token by token.
unfoldable pub written_out : Around → Stream Token
written_out at_end = end
written_out at_bad_line = bad
written_out (items inside around) = written items (written_out around)

-- What stands at top level. There a closing has nothing to close: nothing behind it will be read.
unfoldable pub items : Stream Token → Items
items ts = innermost (around ts)

-- "Items at top level have depth 0, members one more. Asking for an item at depth 257 is refusal 4, before its token is
-- taken".
unfoldable pub asked_at : ℕ → Result (Unit {0})
asked_at depth = need (leb depth 256) nesting

-- An item that is asked for and is not there: "then end of text is 5, a closing 6", and a bad line 3.
unfoldable pub absent : {A : Type 0} → ℕ → Refusal → Result A
absent depth r = asked_at depth >>= λ _. refused r

-- A nested list that was read whole: an atom's bytes, or a list of such.
mutual
  pub data Sexp : Type 0 where
    leaf : List ℕ → Sexp
    list : Sexps → Sexp

  -- The members of a list, in order.
  pub data Sexps : Type 0 where
    []ₛ : Sexps
    ◌∷ₛ◌ : Sexp → Sexps → Sexps

infixr 20 ◌∷ₛ◌
-- A nested list as it stands in a text.
unfoldable mutual
  pub as_item : Sexp → Item
  as_item (leaf name) = word name
  as_item (list xs) = group (as_items xs)

  -- The members of a list as they stand in a text, up to its closing.
  pub as_items : Sexps → Items
  as_items []ₛ = closed
  as_items (x ∷ₛ xs) = as_item x then as_items xs

-- Nested lists one after another at top level, up to the end of the text.
unfoldable pub top_items : List Sexp → Items
top_items [] = ended
top_items (x ∷ xs) = as_item x then top_items xs

-- An item that was asked for at a depth, read whole.
unfoldable mutual
  pub sexp : ℕ → Item → Result Sexp
  sexp depth (word bytes) = ok (leaf bytes)
  sexp depth (group inner) = members (suc depth) inner >>= λ xs. ok (list xs)

  -- "After an opening, members are asked for until a closing is next. That look ahead comes first, so a bad line found by it is 3, not 4".
  pub members : ℕ → Items → Result Sexps
  members depth closed = ok []ₛ
  members depth bad_line = refused not_utf8
  members depth ended = absent depth text_ends
  members depth (item then rest) = do
    _ ← asked_at depth
    x ← sexp depth item
    xs ← members depth rest
    ok (x ∷ₛ xs)

-- "All of the rulebook is read so before any declaration is judged."
unfoldable pub sexps : Items → Result Sexps
sexps ended = ok []ₛ
sexps bad_line = refused not_utf8
sexps closed = refused stray_closing
sexps (item then rest) = do
  x ← sexp 0 item
  xs ← sexps rest
  ok (x ∷ₛ xs)
