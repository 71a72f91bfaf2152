-- The tokens of a text, a new line and a further text are those of the one, then those of the other: the 0A ends a line, and with it an
-- atom or a comment that the first text ends in. Where the first text has a bad line, nothing behind that is read.
use Prim.Native.Nat.{ℕ, ◌*◌, ◌+◌, ◌-◌}
use mathlib.Core.Path.{◌≡◌, refl, sym, ap, ◌∙◌}
use mathlib.Core.List.{List, [], ◌∷◌, ◌++◌}
use mathlib.Core.Option.{Option, none, some, map, map-map}
use lib.Dec.{eqb}
use Rattle.horn.specs.Utf8.{Range, within, Sequence, sequence, sequences, started_by, Char, char, resumed, decoded}
use Rattle.horn.specs.Tokens.{Stream, end, bad, ◌▹◌, before, onto_first_line, lines, characters, kind, white, white_ranges, in_some}
use Rattle.horn.specs.Tokens.{Place, between, in_comment, in_atom, begins, continues, ends_comment, move, unended, tokens_from, tokens}
use Rattle.horn.specs.Longer.{longer}
use Rattle.horn.proofs.Equality.{case}
use Rattle.horn.proofs.Inversion.{case_option}
use Rattle.horn.proofs.CompleteUtf8.{All, resumed_done}
use Rattle.horn.proofs.CompleteLines.{before-append, Inner, inner, head_line, tail_lines, onto_parts, characters_first, characters-bad}

-- One stream behind another. A stream that breaks off at a bad line has nothing behind it.
unfoldable pub followed_by : {A : Type 0} → Stream A → Stream A → Stream A
followed_by end s = s
followed_by bad s = bad
followed_by (a ▹ t) s = a ▹ followed_by t s

pub followed_before : {A : Type 0} (xs : List A) (t s : Stream A) → followed_by (before xs t) s ≡ before xs (followed_by t s)
unfolding followed_by before
followed_before [] t s = refl
followed_before (x ∷ xs) t s = ap (x ▹◌) (followed_before xs t s)

-- The character 0A.
abbrev newline_char : Char
newline_char = char (0x0A ∷ []) 0x0A

-- Bytes with a 0A behind them are UTF-8 exactly if they are so without it, and then have this one character more.
abbrev with_newline : Option (List Char) → Option (List Char)
with_newline o = map (λ cs. cs ++ (newline_char ∷ [])) o

case_sequence {ℓ} : {C : Type ℓ} (o : Option Sequence) → (o ≡ none → C)
    → ((a : Range) (m : ℕ) (r : List Range) → o ≡ some (sequence a m r) → C)
    → C
case_sequence none x y = x refl
case_sequence (some (sequence a m r)) x y = y a m r refl

begun_newline : (b : ℕ) (bs : List ℕ)
    → ((m : ℕ) (r : List Range) → All Inner r → resumed (b ∷ []) (b - m) r (bs ++ (0x0A ∷ [])) ≡ with_newline (resumed (b ∷ []) (b - m) r bs))
    → decoded (b ∷ bs ++ (0x0A ∷ [])) ≡ with_newline (decoded (b ∷ bs))
unfolding decoded
begun_newline b bs k =
    case_sequence (started_by b sequences)
    (λ n. rw (n, decoded))
    (λ a m r s. rw (s, decoded) (k m r (inner b s)))

resumed_newline : (bs taken : List ℕ) (value : ℕ) (rs : List Range) → All Inner rs
    → resumed taken value rs (bs ++ (0x0A ∷ [])) ≡ with_newline (resumed taken value rs bs)
unfolding resumed started_by sequences within
resumed_newline [] taken value (r ∷ rs) i = rw (i.0, resumed)
resumed_newline [] taken value [] i = refl
resumed_newline (b ∷ bs) taken value (r ∷ rs) i =
    case (within r b)
    (λ w. rw (w, resumed) (resumed_newline bs (taken ++ (b ∷ [])) (value * 0x40 + (b - 0x80)) rs i.1))
    (λ w. rw (w, resumed))
resumed_newline (b ∷ bs) taken value [] i =
    resumed_done taken value (b ∷ bs ++ (0x0A ∷ []))
    ∙ ap (map (λ cs. char taken value ∷ cs)) (begun_newline b bs (λ m r. resumed_newline bs (b ∷ []) (b - m) r))
    ∙ map-map (λ cs. char taken value ∷ cs) (λ cs. cs ++ (newline_char ∷ [])) (decoded (b ∷ bs))
    ∙ sym (map-map (λ cs. cs ++ (newline_char ∷ [])) (λ cs. char taken value ∷ cs) (decoded (b ∷ bs)))
    ∙ ap with_newline (sym (resumed_done taken value (b ∷ bs)))

decoded_newline : (bs : List ℕ) → decoded (bs ++ (0x0A ∷ [])) ≡ with_newline (decoded bs)
unfolding decoded resumed started_by sequences within
decoded_newline [] = refl
decoded_newline (b ∷ bs) = begun_newline b bs (λ m r. resumed_newline bs (b ∷ []) (b - m) r)

-- Bytes put at the beginning of the first line, all of them.
unfoldable pub onto_line : List ℕ → List (List ℕ) → List (List ℕ)
onto_line [] ls = ls
onto_line (b ∷ bs) ls = onto_first_line b (onto_line bs ls)

pub onto_line_lem : (b : ℕ) (bs : List ℕ) (ls : List (List ℕ)) → onto_line (b ∷ bs) ls ≡ (b ∷ bs ++ head_line ls) ∷ tail_lines ls
unfolding onto_line onto_first_line
onto_line_lem b [] ls = onto_parts b ls
onto_line_lem b (c ∷ bs) ls = ap (onto_first_line b) (onto_line_lem c bs ls)

-- The lines of a text, and those of the same text with another directly behind it, which continues the last line unless a 0A ends that.
pub data Joined (further : List ℕ) : List (List ℕ) → List (List ℕ) → Type 0 where
  behind_lines : Joined further [] (lines further)
  within_line : (b : ℕ) (line : List ℕ) → Joined further ((b ∷ line) ∷ []) (onto_line (b ∷ line) (lines further))
  next_line : (line : List ℕ) {ls ms : List (List ℕ)} → Joined further ls ms → Joined further (line ∷ ls) (line ∷ ms)

joined_onto : {further : List ℕ} (b : ℕ) {ls ms : List (List ℕ)} → Joined further ls ms → Joined further (onto_first_line b ls) (onto_first_line b ms)
unfolding onto_first_line onto_line
joined_onto b behind_lines = within_line b []
joined_onto b (within_line c line) = within_line b (c ∷ line)
joined_onto b (next_line line j) = next_line (b ∷ line) j

pub lines_joined : (text further : List ℕ) → Joined further (lines text) (lines (text ++ further))
unfolding lines
lines_joined [] further = behind_lines
lines_joined (b ∷ bs) further =
    case (eqb b 0x0A)
    (λ n. rw (n, lines) (next_line (b ∷ []) (lines_joined bs further)))
    (λ n. rw (n, lines) (joined_onto b (lines_joined bs further)))

-- Behind a 0A the characters of the further text follow, whatever line the 0A ends.
characters_ended : {further : List ℕ} {ls ms : List (List ℕ)} → Joined (0x0A ∷ further) ls ms
    → characters ms ≡ followed_by (characters ls) (newline_char ▹ characters (lines further))
unfolding characters followed_by before decoded resumed started_by sequences within lines head_line tail_lines
characters_ended behind_lines = refl
characters_ended {further} (within_line b line) =
    ap characters (onto_line_lem b line (lines (0x0A ∷ further)))
    ∙ case_option (decoded (b ∷ line))
    (λ n.
    characters-bad (b ∷ line ++ (0x0A ∷ [])) (lines further) (decoded_newline (b ∷ line) ∙ ap with_newline n)
    ∙ ap (λ s. followed_by s (newline_char ▹ characters (lines further))) (sym (characters-bad (b ∷ line) [] n)))
    (λ cs e.
    characters_first (b ∷ line ++ (0x0A ∷ [])) (lines further) (decoded_newline (b ∷ line) ∙ ap with_newline e)
    ∙ before-append cs (newline_char ∷ []) (characters (lines further))
    ∙ sym (followed_before cs end (newline_char ▹ characters (lines further)))
    ∙ ap (λ s. followed_by s (newline_char ▹ characters (lines further))) (sym (characters_first (b ∷ line) [] e)))
characters_ended {further} (next_line line {ls} {ms} h) =
    case_option (decoded line)
    (λ n.
    characters-bad line ms n
    ∙ ap (λ s. followed_by s (newline_char ▹ characters (lines further))) (sym (characters-bad line ls n)))
    (λ cs e.
    characters_first line ms e
    ∙ ap (before cs) (characters_ended h)
    ∙ sym (followed_before cs (characters ls) (newline_char ▹ characters (lines further)))
    ∙ ap (λ s. followed_by s (newline_char ▹ characters (lines further))) (sym (characters_first line ls e)))

-- Wherever a reader stands, a 0A behind the text does what the text's end does, and the reader stands between tokens behind it.
tokens_newline : (place : Place) (s : Stream Char) → tokens_from place (newline_char ▹ s) ≡ before (unended place) (tokens_from between s)
unfolding tokens_from move begins continues ends_comment kind white white_ranges in_some within unended before
tokens_newline between s = refl
tokens_newline in_comment s = refl
tokens_newline (in_atom bs) s = refl

tokens_followed : (s : Stream Char) (place : Place) (further : Stream Char)
    → tokens_from place (followed_by s (newline_char ▹ further)) ≡ followed_by (tokens_from place s) (tokens_from between further)
unfolding followed_by tokens_from
tokens_followed end place further =
    tokens_newline place further ∙ sym (followed_before (unended place) end (tokens_from between further))
tokens_followed bad place further = sym (followed_before (unended place) bad (tokens_from between further))
tokens_followed (c ▹ cs) place further =
    ap (before (move place c).0) (tokens_followed cs (move place c).1 further)
    ∙ sym (followed_before (move place c).0 (tokens_from (move place c).1 cs) (tokens_from between further))

-- The tokens of R, a new line and further text: those of R, then those of the further text.
pub tokens-longer : (R further : List ℕ) → tokens (longer R further) ≡ followed_by (tokens R) (tokens further)
unfolding tokens longer
tokens-longer R further =
    ap (tokens_from between) (characters_ended (lines_joined R (0x0A ∷ further))) ∙ tokens_followed (characters (lines R)) between (characters (lines further))
