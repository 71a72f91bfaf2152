-- A reader before tokens, and a walk before tokens with the member counts that come.
use Rattle.std.specs.Prelude.{ℕ, suc, ◌+◌, ◌≤◌, ◌<◌, ◌≡◌, List, [], ◌∷◌, length, get_or}
use Rattle.capacity.specs.Below.horn.specs.Tokens.{Stream, end, bad, ◌▹◌, Token, opening, closing, atom, tokens}
use Rattle.capacity.specs.Below.horn.specs.NestedLists.{Sexp, leaf, list, Sexps, []ₛ, ◌∷ₛ◌}
use Rattle.theory.specs.Below.words.specs.Parts.{part}
use Rattle.theory.specs.Below.lex.specs.Answers as lexed
use Rattle.theory.specs.Below.lex.specs.declared.Token as read
use Rattle.theory.specs.Below.lex.specs.declared.Token.TheVariants.{Opening, Closing, Atom}
use Rattle.theory.specs.Below.lex.specs.declared.Reader.{Reader}
use Rattle.theory.specs.Below.items.specs.declared.Walk.{Walk}

-- A token of the reader and one of the definition.
pub data Same (text : List ℕ) : read.Token → Token → Type 0 where
  same_opening : Same text Opening opening
  same_closing : Same text Closing closing
  same_atom : {s t : ℕ} {bytes : List ℕ} → part s t text ≡ bytes → s < t → t ≤ length text → Same text (Atom s t) (atom bytes)

pub record Takes (text : List ℕ) (Before : Reader → Stream Token → Type 0) (r : Reader) (t : Token) (ts : Stream Token) : Type 0 where
  pub got : read.Token
  pub next : Reader
  pub taken : lexed.taken text r ≡ lexed.token got next
  pub same : Same text got t
  pub before : Before next ts

pub record Peeks (text : List ℕ) (Before : Reader → Stream Token → Type 0) (r : Reader) (t : Token) (ts : Stream Token) : Type 0 where
  pub got : read.Token
  pub next : Reader
  pub peeked : lexed.peeked text r ≡ lexed.token got next
  pub before : Before next (t ▹ ts)

-- What is asked of "this reader stands before these tokens".
pub record Reads (text : List ℕ) (Before : Reader → Stream Token → Type 0) : Type 0 where
  pub at_start : Before lexed.start (tokens text)
  pub at_token : (r : Reader) (t : Token) (ts : Stream Token) → Before r (t ▹ ts) → Takes text Before r t ts
  pub peek_end : (r : Reader) → Before r end → lexed.peeked text r ≡ lexed.ended
  pub peek_token : (r : Reader) (t : Token) (ts : Stream Token) → Before r (t ▹ ts) → Peeks text Before r t ts

-- The member counts that come, from a place on.
pub data Next (counts : List ℕ) : ℕ → List ℕ → Type 0 where
  no_more : {o : ℕ} → Next counts o []
  one_next : {o k : ℕ} {ks : List ℕ} → get_or counts o 0 ≡ k → Next counts (o + 1) ks → Next counts o (k ∷ ks)

-- The walk stands before these tokens, and these member counts come.
pub record Walks (text counts : List ℕ) (Before : Reader → Stream Token → Type 0) (ts : Stream Token) (ks : List ℕ) (w : Walk) : Type 0 where
  pub before : Before w.reader ts
  pub counted : Next counts w.opened ks
  pub few : w.opened + length ks ≤ 8192

-- Bytes of the atoms that come, with one byte for each that parts it from the next.
unfoldable pub weight : Stream Token → ℕ
weight end = 0
weight bad = 0
weight (opening ▹ ts) = weight ts
weight (closing ▹ ts) = weight ts
weight (atom bytes ▹ ts) = suc (length bytes) + weight ts

-- Nested lists that a walk with so much depth left goes through.
mutual
  pub data Shallow : ℕ → Sexp → Type 0 where
    shallow_leaf : {left d : ℕ} {bytes : List ℕ} → left ≡ suc d → Shallow left (leaf bytes)
    shallow_list : {left d : ℕ} {xs : Sexps} → left ≡ suc d → Shallows d xs → Shallow left (list xs)

  pub data Shallows : ℕ → Sexps → Type 0 where
    shallow_none : {left : ℕ} → Shallows left []ₛ
    shallow_more : {left : ℕ} {x : Sexp} {xs : Sexps} → Shallow left x → Shallows left xs → Shallows left (x ∷ₛ xs)
