-- The tokens of printed forms are those of the forms, if every atom in them is a word: the bytes of one or more ordinary characters.
use Prim.Native.Nat.{ℕ}
use mathlib.Core.Path.{◌≡◌, refl, sym, ap, ◌∙◌}
use mathlib.Core.List.{List, [], ◌∷◌, ◌++◌, append-nil, append_assoc}
use mathlib.Core.Option.{some}
use Rattle.horn.specs.Utf8.{Char, char, within, sequences, started_by, resumed, decoded}
use Rattle.horn.specs.Tokens.{Stream, end, ◌▹◌, before, kind, white, white_ranges, in_some, blank, ordinary}
use Rattle.horn.specs.Tokens.{Token, opening, closing, atom, between, in_atom, begins, continues, move, unended, tokens_from, tokens}
use Rattle.horn.specs.NestedLists.{Sexp, leaf, list, Sexps, []ₛ, ◌∷ₛ◌, as_item, as_items, top_items, written_item, written}
use Rattle.horn.specs.Layout.{printed, printed_all, spaced, printed_lines}
use Rattle.horn.proofs.CompleteUtf8.{All, decoded-append}
use Rattle.horn.proofs.CompleteLines.{before-append, by_lines}

abbrev pub Ordinary : Char → Type 0
Ordinary (char bs v) = kind v ≡ ordinary

abbrev pub bytes_of : List Char → List ℕ
bytes_of [] = []
bytes_of (char bs v ∷ cs) = bs ++ bytes_of cs

-- Bytes that are read as one atom.
pub record Word (name : List ℕ) : Type 0 where
  pub first_char : Char
  pub other_chars : List Char
  pub decodes : decoded name ≡ some (first_char ∷ other_chars)
  pub bytes : bytes_of (first_char ∷ other_chars) ≡ name
  pub ordinarily : All Ordinary (first_char ∷ other_chars)

-- A text that is UTF-8 as a whole, with its tokens; and such a text that ends an atom which stands before it.
pub record Lexed (text : List ℕ) (ts : Stream Token) : Type 0 where
  pub chars : List Char
  pub decodes : decoded text ≡ some chars
  pub lexes : tokens_from between (before chars end) ≡ ts

pub record Delimiting (text : List ℕ) (ts : Stream Token) : Type 0 where
  pub lexed : Lexed text ts
  pub ends : (bs : List ℕ) → tokens_from (in_atom bs) (before lexed.chars end) ≡ atom bs ▹ ts

pub tokens_lexed : {text : List ℕ} {ts : Stream Token} → Lexed text ts → tokens text ≡ ts
unfolding tokens
tokens_lexed {text} l = ap (tokens_from between) (by_lines text l.decodes) ∙ l.lexes

-- The four bytes that the layout puts between words.
opened : {tl : List ℕ} {ts : Stream Token} → Lexed tl ts → Lexed (0x28 ∷ tl) (opening ▹ ts)
unfolding decoded resumed started_by sequences within before tokens_from move begins kind white white_ranges in_some
opened {tl} l =
    record {
      chars = char (0x28 ∷ []) 0x28 ∷ l.chars;
      decodes = decoded-append (0x28 ∷ []) tl refl l.decodes;
      lexes = ap (opening ▹◌) l.lexes;
    }

closed_by : {tl : List ℕ} {ts : Stream Token} → Lexed tl ts → Delimiting (0x29 ∷ tl) (closing ▹ ts)
unfolding decoded resumed started_by sequences within before tokens_from move begins continues kind white white_ranges in_some
closed_by {tl} l =
    record {
      lexed = record {
        chars = char (0x29 ∷ []) 0x29 ∷ l.chars;
        decodes = decoded-append (0x29 ∷ []) tl refl l.decodes;
        lexes = ap (closing ▹◌) l.lexes;
      };
      ends = λ bs. ap (λ x. atom bs ▹ closing ▹ x) l.lexes;
    }

white_before : (b : ℕ) {tl : List ℕ} {ts : Stream Token} → decoded (b ∷ []) ≡ some (char (b ∷ []) b ∷ []) → kind b ≡ blank → Lexed tl ts
    → Delimiting (b ∷ tl) ts
unfolding before tokens_from move begins continues
white_before b {tl} p k l =
    record {
      lexed = record {
        chars = char (b ∷ []) b ∷ l.chars;
        decodes = decoded-append (b ∷ []) tl p l.decodes;
        lexes = rw k l.lexes;
      };
      ends = λ bs. rw k (ap (λ x. atom bs ▹ x) l.lexes);
    }

space_before : {tl : List ℕ} {ts : Stream Token} → Lexed tl ts → Delimiting (0x20 ∷ tl) ts
unfolding decoded resumed started_by sequences within kind white white_ranges in_some
space_before l = white_before 0x20 refl refl l

newline_before : {tl : List ℕ} {ts : Stream Token} → Lexed tl ts → Delimiting (0x0A ∷ tl) ts
unfolding decoded resumed started_by sequences within kind white white_ranges in_some
newline_before l = white_before 0x0A refl refl l

-- A word, in front of a text that ends it.
stays_in_atom : (cs : List Char) (bs : List ℕ) (s : Stream Char) → All Ordinary cs
    → tokens_from (in_atom bs) (before cs s) ≡ tokens_from (in_atom (bs ++ bytes_of cs)) s
unfolding before tokens_from move continues
stays_in_atom [] bs s o = ap (λ x. tokens_from (in_atom x) s) (sym (append-nil bs))
stays_in_atom (char b v ∷ cs) bs s o =
    rw o.0 (stays_in_atom cs (bs ++ b) s o.1 ∙ ap (λ x. tokens_from (in_atom x) s) (append_assoc bs b (bytes_of cs)))

begins_atom : (c : Char) (cs : List Char) (s : Stream Char) → All Ordinary (c ∷ cs)
    → tokens_from between (before (c ∷ cs) s) ≡ tokens_from (in_atom (bytes_of (c ∷ cs))) s
unfolding before tokens_from move begins
begins_atom (char b v) cs s o = rw o.0 (stays_in_atom cs b s o.1)

word_lexed : {name tl : List ℕ} {ts : Stream Token} → Word name → Delimiting tl ts → Lexed (name ++ tl) (atom name ▹ ts)
word_lexed {name} {tl} {ts} w d =
    record {
      chars = (w.first_char ∷ w.other_chars) ++ d.lexed.chars;
      decodes = decoded-append name tl w.decodes d.lexed.decodes;
      lexes =
          ap (tokens_from between) (before-append (w.first_char ∷ w.other_chars) d.lexed.chars end)
          ∙ begins_atom w.first_char w.other_chars (before d.lexed.chars end) w.ordinarily
          ∙ ap (λ x. tokens_from (in_atom x) (before d.lexed.chars end)) w.bytes
          ∙ d.ends name;
    }

-- Forms whose atoms are words.
mutual
  pub data WordsIn : Sexp → Type 0 where
    leaf_word : {name : List ℕ} → Word name → WordsIn (leaf name)
    list_words : {xs : Sexps} → AllWords xs → WordsIn (list xs)

  pub data AllWords : Sexps → Type 0 where
    no_words : AllWords []ₛ
    ◌and_words◌ : {x : Sexp} {xs : Sexps} → WordsIn x → AllWords xs → AllWords (x ∷ₛ xs)

infixr 20 ◌and_words◌
recast : {bs cs : List ℕ} {ts : Stream Token} → bs ≡ cs → Lexed cs ts → Lexed bs ts
recast e l = rw e l

mutual
  unfolding printed written_item as_item

  sexp_lexed : (x : Sexp) {tl : List ℕ} {ts : Stream Token} → WordsIn x → Delimiting tl ts → Lexed (printed x ++ tl) (written_item (as_item x) ts)
  sexp_lexed (leaf name) (leaf_word w) d = word_lexed w d
  sexp_lexed (list xs) {tl} (list_words ws) d =
      opened (recast (append_assoc (printed_all xs) (0x29 ∷ []) tl) (all_lexed xs ws d.lexed))

  all_lexed : (xs : Sexps) {tl : List ℕ} {ts : Stream Token} → AllWords xs → Lexed tl ts
      → Lexed (printed_all xs ++ (0x29 ∷ tl)) (written (as_items xs) ts)
  all_lexed []ₛ ws l = (closed_by l).lexed
  all_lexed (x ∷ₛ xs) {tl} (w and_words ws) l =
      recast (append_assoc (printed x) (spaced xs) (0x29 ∷ tl)) (sexp_lexed x w (spaced_lexed xs ws l))

  spaced_lexed : (xs : Sexps) {tl : List ℕ} {ts : Stream Token} → AllWords xs → Lexed tl ts
      → Delimiting (spaced xs ++ (0x29 ∷ tl)) (written (as_items xs) ts)
  spaced_lexed []ₛ ws l = closed_by l
  spaced_lexed (x ∷ₛ xs) {tl} (w and_words ws) l =
      space_before (recast (append_assoc (printed x) (spaced xs) (0x29 ∷ tl)) (sexp_lexed x w (spaced_lexed xs ws l)))

lines_lexed : (xs : List Sexp) → All WordsIn xs → Lexed (printed_lines xs) (written (top_items xs) end)
unfolding printed_lines top_items written_item decoded before tokens_from unended
lines_lexed [] ws = record { chars = []; decodes = refl; lexes = refl }
lines_lexed (x ∷ xs) ws = sexp_lexed x ws.0 (newline_before (lines_lexed xs ws.1))

pub tokens_printed : (xs : List Sexp) → All WordsIn xs → tokens (printed_lines xs) ≡ written (top_items xs) end
tokens_printed xs ws = tokens_lexed (lines_lexed xs ws)
