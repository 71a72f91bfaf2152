-- A text has at most as many tokens, and so at most as many forms, as it has bytes.
use Prim.Native.Nat.{ℕ, zero, suc, ◌+◌, ◌-◌, ◌≤◌}
use mathlib.Core.Path.{◌≡◌, refl, ap, ◌∙◌}
use mathlib.Core.List.{List, [], ◌∷◌}
use mathlib.Core.Option.{Option, none, some, map}
use native.Mathlib.Omega.{arith}
use lib.Dec.{eqb}
use lib.ListN.{length}
use Rattle.horn.specs.Utf8.{Range, Sequence, sequence, sequences, Char, char, within, started_by, resumed, decoded}
use Rattle.horn.specs.Tokens.{Stream, end, bad, ◌▹◌, before, onto_first_line, lines, characters, Kind, blank, opens, closes, comments, ordinary, kind}
use Rattle.horn.specs.Tokens.{Token, opening, closing, atom, Place, between, in_comment, in_atom, Move, begins, continues, ends_comment, move}
use Rattle.horn.specs.Tokens.{unended, tokens_from, tokens}
use Rattle.horn.specs.NestedLists.{word, group, Items, closed, ended, bad_line, ◌then◌, Around, at_end, at_bad_line, ◌inside◌, innermost, outer}
use Rattle.horn.specs.NestedLists.{add, around, items}
use Rattle.horn.proofs.Post.{either}

-- There are at most as many characters as bytes.
data Few (n : ℕ) : Option (List Char) → Type 0 where
  few_chars : {cs : List Char} → length cs ≤ n → Few n (some cs)
  not_any : Few n none

few_map : {n : ℕ} {o : Option (List Char)} (c : Char) → Few n o → Few (suc n) (map (λ cs. c ∷ cs) o)
few_map c (few_chars {cs} h) = few_chars {cs = c ∷ cs} (omega arith)
few_map c not_any = not_any

few_suc : {n : ℕ} {o : Option (List Char)} → Few n o → Few (suc n) o
few_suc (few_chars {cs} h) = few_chars {cs = cs} (omega arith)
few_suc not_any = not_any

-- The characters from the first byte of the next one on.
few_next : (taken : List ℕ) (value b : ℕ) (bs : List ℕ) → ((v : ℕ) (rest : List Range) → Few (suc (length bs)) (resumed (b ∷ []) v rest bs))
    → (o : Option Sequence)
    → Few (suc (suc (length bs)))
    (elim o [ none ↦ none | some (sequence first mark rest) ↦ map (λ cs. char taken value ∷ cs) (resumed (b ∷ []) (b - mark) rest bs) ])
few_next taken value b bs ih none = not_any
few_next taken value b bs ih (some (sequence first mark rest)) = few_map (char taken value) (ih _ rest)

few_resumed : (taken : List ℕ) (value : ℕ) (rs : List Range) (bs : List ℕ) → Few (suc (length bs)) (resumed taken value rs bs)
unfolding resumed
few_resumed taken value (r ∷ rs) [] = not_any
few_resumed taken value (r ∷ rs) (b ∷ bs) = either (Few (suc (suc (length bs)))) (within r b) (few_suc (few_resumed _ _ rs bs)) not_any
few_resumed taken value [] [] = few_chars {cs = char taken value ∷ []} (omega arith)
few_resumed taken value [] (b ∷ bs) = few_next taken value b bs (λ v rest. few_resumed (b ∷ []) v rest bs) (started_by b sequences)

few_decoded : (bs : List ℕ) → Few (length bs) (decoded bs)
unfolding decoded
few_decoded [] = few_chars {cs = []} (omega arith)
few_decoded (b ∷ bs) = go (started_by b sequences)
  where
    go : (o : Option Sequence) → Few (suc (length bs)) (elim o [ none ↦ none | some (sequence first mark rest) ↦ resumed (b ∷ []) (b - mark) rest bs ])
    go none = not_any
    go (some (sequence first mark rest)) = few_resumed _ _ rest bs

unfoldable pub stream_length : {A : Type 0} → Stream A → ℕ
stream_length end = zero
stream_length bad = zero
stream_length (a ▹ s) = suc (stream_length s)

length-before : {A : Type 0} (as' : List A) (s : Stream A) → stream_length (before as' s) ≡ length as' + stream_length s
unfolding stream_length before
length-before [] s = omega arith
length-before (a ∷ as') s = let h = length-before as' s in omega arith

-- The bytes of all lines are the bytes of the text.
unfoldable pub byte_count : List (List ℕ) → ℕ
byte_count [] = zero
byte_count (line ∷ rest) = length line + byte_count rest

bytes_onto : (b : ℕ) (ls : List (List ℕ)) → byte_count (onto_first_line b ls) ≡ suc (byte_count ls)
unfolding byte_count onto_first_line
bytes_onto b [] = omega arith
bytes_onto b (line ∷ rest) = omega arith

pub bytes_lines : (text : List ℕ) → byte_count (lines text) ≡ length text
unfolding byte_count lines
bytes_lines [] = refl
bytes_lines (b ∷ bs) =
    let h = bytes_lines bs in
    either (λ ls. byte_count ls ≡ suc (length bs)) (eqb b 0x0A) {x = (b ∷ []) ∷ lines bs} {y = onto_first_line b (lines bs)}
    (omega arith) (bytes_onto b (lines bs) ∙ ap suc h)

few_characters : (ls : List (List ℕ)) → stream_length (characters ls) ≤ byte_count ls
unfolding stream_length byte_count characters
few_characters [] = omega arith
few_characters (line ∷ rest) = go (decoded line) (few_characters rest) (few_decoded line)
  where
    go : (o : Option (List Char)) → stream_length (characters rest) ≤ byte_count rest → Few (length line) o
        → stream_length {A = Char} (elim o [ none ↦ bad | some cs ↦ before cs (characters rest) ]) ≤ length line + byte_count rest
    go none r f = omega arith
    go (some cs) r (few_chars h) = let e = length-before cs (characters rest) in omega arith

-- There are at most as many tokens as characters. An atom that is being read will be one token.
pending : Place → ℕ
pending between = 0
pending in_comment = 0
pending (in_atom bytes) = 1

-- In a comment a character ends no token: the reader stands in the comment behind it, or between tokens.
pub in_comment_lem {ℓ} : (P : Move → Type ℓ) (c : Char) → P ([], between) → P ([], in_comment) → P (move in_comment c)
unfolding move
in_comment_lem P (char bytes value) p q = either P (ends_comment value) p q

few_begins : (k : Kind) (bytes : List ℕ) → length (begins k bytes).0 + pending (begins k bytes).1 ≤ 1
unfolding begins pending
few_begins blank bytes = omega arith
few_begins opens bytes = omega arith
few_begins closes bytes = omega arith
few_begins comments bytes = omega arith
few_begins ordinary bytes = omega arith

few_continues : (a : List ℕ) (k : Kind) (bytes : List ℕ) → length (continues a k bytes).0 + pending (continues a k bytes).1 ≤ 2
unfolding continues pending
few_continues a blank bytes = omega arith
few_continues a opens bytes = omega arith
few_continues a closes bytes = omega arith
few_continues a comments bytes = omega arith
few_continues a ordinary bytes = omega arith

few_move : (place : Place) (c : Char) → length (move place c).0 + pending (move place c).1 ≤ suc (pending place)
unfolding move pending
few_move between (char bytes value) = few_begins (kind value) bytes
few_move (in_atom a) (char bytes value) = few_continues a (kind value) bytes
few_move in_comment c = in_comment_lem (λ m. length m.0 + pending m.1 ≤ 1) c (omega arith) (omega arith)

few_unended : (place : Place) → length (unended place) ≡ pending place
unfolding unended pending
few_unended between = refl
few_unended in_comment = refl
few_unended (in_atom bytes) = refl

few_tokens_from : (place : Place) (cs : Stream Char) → stream_length (tokens_from place cs) ≤ pending place + stream_length cs
unfolding tokens_from stream_length
few_tokens_from place end = let e = length-before (unended place) end in let u = few_unended place in omega arith
few_tokens_from place bad = let e = length-before (unended place) bad in let u = few_unended place in omega arith
few_tokens_from place (c ▹ cs) =
    let e = length-before (move place c).0 (tokens_from (move place c).1 cs) in
    let m = few_move place c in
    let h = few_tokens_from (move place c).1 cs in
    omega arith

pub few_tokens : (text : List ℕ) → stream_length (tokens text) ≤ length text
unfolding tokens pending
few_tokens text =
    let t = few_tokens_from between (characters (lines text)) in
    let c = few_characters (lines text) in
    let b = bytes_lines text in
    omega arith

-- There are at most as many items as tokens, at each level around a reader.
unfoldable pub item_count : Items → ℕ
item_count closed = zero
item_count ended = zero
item_count bad_line = zero
item_count (item then rest) = suc (item_count rest)

-- Something holds of what is left of each list around a reader.
pub data AllAround (P : Items → Type 0) : Around → Type 0 where
  all_end : AllAround P at_end
  all_bad : AllAround P at_bad_line
  all_inside : (is : Items) {a : Around} → P is → AllAround P a → AllAround P (is inside a)

pub all_innermost : {P : Items → Type 0} {a : Around} → P ended → P bad_line → AllAround P a → P (innermost a)
unfolding innermost
all_innermost e b all_end = e
all_innermost e b all_bad = b
all_innermost e b (all_inside is h k) = h

pub all_outer : {P : Items → Type 0} {a : Around} → AllAround P a → AllAround P (outer a)
unfolding outer
all_outer all_end = all_end
all_outer all_bad = all_bad
all_outer (all_inside is h k) = k

abbrev AtMost : ℕ → Around → Type 0
AtMost n = AllAround (λ is. item_count is ≤ n)

at_innermost : {n : ℕ} {a : Around} → AtMost n a → item_count (innermost a) ≤ n
unfolding item_count
at_innermost h = all_innermost (omega arith) (omega arith) h

at_suc : {n : ℕ} {a : Around} → AtMost n a → AtMost (suc n) a
at_suc all_end = all_end
at_suc all_bad = all_bad
at_suc (all_inside is h k) = all_inside is (omega arith) (at_suc k)

at_add : {n : ℕ} (t : Token) {a : Around} → AtMost n a → AtMost (suc n) (add t a)
unfolding add item_count
at_add closing h = all_inside closed (omega arith) (at_suc h)
at_add (atom bytes) {a} h =
    let i = at_innermost h in
    all_inside (word bytes then innermost a) (omega arith) (at_suc (all_outer h))
at_add opening {a} h =
    let i = at_innermost (all_outer h) in
    all_inside (group (innermost a) then innermost (outer a)) (omega arith) (at_suc (all_outer (all_outer h)))

at_around : (ts : Stream Token) → AtMost (stream_length ts) (around ts)
unfolding around stream_length item_count
at_around end = all_end
at_around bad = all_bad
at_around (t ▹ ts) = at_add t (at_around ts)

-- A text has at most as many items at top level as bytes.
pub few_items : (text : List ℕ) → item_count (items (tokens text)) ≤ length text
unfolding items
few_items text = let a = at_innermost (at_around (tokens text)) in let t = few_tokens text in omega arith
