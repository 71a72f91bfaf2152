-- The characters of a text have no more bytes than it. Assumes nothing.
use Prim.Native.Nat.{ℕ, suc, ◌+◌, ◌-◌, ◌≤◌, ◌<◌}
use mathlib.Core.Path.{◌≡◌, refl}
use mathlib.Core.List.{List, [], ◌∷◌}
use mathlib.Core.Option.{Option, none, some, map}
use native.Mathlib.Omega.{arith}
use lib.ListN.{length, length-append}
use Rattle.horn.specs.Utf8.{Range, Sequence, sequence, sequences, Char, char, within, started_by, resumed, decoded}
use Rattle.horn.specs.Tokens.{Stream, end, bad, ◌▹◌, before, lines, characters}
use Rattle.horn.proofs.Post.{either}
use Rattle.horn.proofs.Counts.{byte_count, bytes_lines}
use Rattle.capacity.specs.Costs.{wide}

-- A character has a byte at least.
pub wide_some : (bytes : List ℕ) → 1 ≤ wide bytes
unfolding wide
wide_some [] = omega arith
wide_some (b ∷ bs) = omega arith

pub wide_all : (bytes : List ℕ) → length bytes ≤ wide bytes
unfolding wide
wide_all [] = omega arith
wide_all (b ∷ bs) = omega arith

wide_is : (bytes : List ℕ) → 0 < length bytes → wide bytes ≡ length bytes
unfolding wide
wide_is [] h = absurd (omega arith)
wide_is (b ∷ bs) h = refl

-- The bytes of characters.
unfoldable char_bytes : List Char → ℕ
char_bytes [] = 0
char_bytes (char bytes value ∷ cs) = wide bytes + char_bytes cs

unfoldable pub stream_bytes : Stream Char → ℕ
stream_bytes end = 0
stream_bytes bad = 0
stream_bytes (char bytes value ▹ cs) = wide bytes + stream_bytes cs

-- At most so many bytes, if they are decoded.
data Within (n : ℕ) : Option (List Char) → Type 0 where
  within_some : {cs : List Char} → char_bytes cs ≤ n → Within n (some cs)
  within_none : Within n none

within_map : {n m : ℕ} {o : Option (List Char)} (taken : List ℕ) (value : ℕ) → 0 < length taken → m ≡ length taken + n → Within n o
    → Within m (map (λ cs. char taken value ∷ cs) o)
unfolding char_bytes
within_map taken value l e (within_some {cs} h) = let w = wide_is taken l in within_some {cs = char taken value ∷ cs} (omega arith)
within_map taken value l e within_none = within_none

within_next : (taken : List ℕ) (value b : ℕ) (bs : List ℕ) → 0 < length taken
    → ((v : ℕ) (rest : List Range) → Within (1 + length bs) (resumed (b ∷ []) v rest bs)) → (o : Option Sequence)
    → Within (length taken + suc (length bs))
    (elim o [ none ↦ none | some (sequence first mark rest) ↦ map (λ cs. char taken value ∷ cs) (resumed (b ∷ []) (b - mark) rest bs) ])
within_next taken value b bs l ih none = within_none
within_next taken value b bs l ih (some (sequence first mark rest)) = within_map taken value l (omega arith) (ih _ rest)

within_resumed : (taken : List ℕ) (value : ℕ) (rs : List Range) (bs : List ℕ) (n : ℕ) → 0 < length taken → n ≡ length taken + length bs
    → Within n (resumed taken value rs bs)
unfolding resumed char_bytes
within_resumed taken value (r ∷ rs) [] n l e = within_none
within_resumed taken value (r ∷ rs) (b ∷ bs) n l e =
    either (Within n) (within r b)
    (within_resumed _ _ rs bs n (let h = length-append taken (b ∷ []) in omega arith) (let h = length-append taken (b ∷ []) in omega arith)) within_none
within_resumed taken value [] [] n l e = let w = wide_is taken l in within_some {cs = char taken value ∷ []} (omega arith)
within_resumed taken value [] (b ∷ bs) n l e =
    rw e (within_next taken value b bs l (λ v rest. within_resumed (b ∷ []) v rest bs (1 + length bs) (omega arith) (omega arith)) (started_by b sequences))

within_decoded : (bs : List ℕ) → Within (length bs) (decoded bs)
unfolding decoded char_bytes
within_decoded [] = within_some {cs = []} (omega arith)
within_decoded (b ∷ bs) = go (started_by b sequences)
  where
    go : (o : Option Sequence) → Within (suc (length bs)) (elim o [ none ↦ none | some (sequence first mark rest) ↦ resumed (b ∷ []) (b - mark) rest bs ])
    go none = within_none
    go (some (sequence first mark rest)) = within_resumed (b ∷ []) _ rest bs (suc (length bs)) (omega arith) (omega arith)

bytes_before : (cs : List Char) (s : Stream Char) → stream_bytes (before cs s) ≡ char_bytes cs + stream_bytes s
unfolding stream_bytes char_bytes before
bytes_before [] s = omega arith
bytes_before (char bytes value ∷ cs) s = let h = bytes_before cs s in omega arith

few_bytes : (ls : List (List ℕ)) → stream_bytes (characters ls) ≤ byte_count ls
unfolding stream_bytes byte_count characters
few_bytes [] = omega arith
few_bytes (line ∷ rest) = go (decoded line) (few_bytes rest) (within_decoded line)
  where
    go : (o : Option (List Char)) → stream_bytes (characters rest) ≤ byte_count rest → Within (length line) o
        → stream_bytes (elim o [ none ↦ bad | some cs ↦ before cs (characters rest) ]) ≤ length line + byte_count rest
    go none r f = omega arith
    go (some cs) r (within_some h) = let e = bytes_before cs (characters rest) in omega arith

pub characters_few : (text : List ℕ) → stream_bytes (characters (lines text)) ≤ length text
characters_few text = let c = few_bytes (lines text) in let b = bytes_lines text in omega arith
