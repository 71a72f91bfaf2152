-- The tokens of a text cost no more bytes than it has. Assumes nothing.
use Prim.Native.Nat.{ℕ, ◌+◌, ◌≤◌}
use mathlib.Core.Path.{◌≡◌, refl}
use mathlib.Core.Bool.{Bool, true, false}
use mathlib.Core.List.{List, [], ◌∷◌, ◌++◌}
use native.Mathlib.Omega.{arith}
use lib.ListN.{length, length-append}
use Rattle.horn.specs.Utf8.{Char, char}
use Rattle.horn.specs.Tokens.{Stream, end, bad, ◌▹◌, before, lines, characters, Kind, blank, opens, closes, comments, ordinary, kind}
use Rattle.horn.specs.Tokens.{Token, Place, between, in_comment, in_atom, begins, continues, move, unended, tokens_from, tokens}
use Rattle.horn.proofs.Counts.{in_comment_lem}
use Rattle.capacity.proofs.Characters.{wide_some, wide_all, stream_bytes, characters_few}
use Rattle.capacity.specs.Costs.{wide, atom_first, cost, gap, atom_bytes, bytes}

-- Where the reader stands: an atom's bytes so far are to be paid for.
begun : Place → ℕ
begun between = 0
begun in_comment = 0
begun (in_atom bytes) = wide bytes

wide-append : (a b : List ℕ) → wide (a ++ b) ≤ wide a + wide b
unfolding wide
wide-append [] b = omega (arith, wide_some b)
wide-append (x ∷ a) b = let h = length-append a b in omega (arith, wide_all b)

gap_small : (b : Bool) → gap b ≤ 1
unfolding gap
gap_small true = omega arith
gap_small false = omega arith

-- One character between tokens, then all that follows.
after_begins : (k : Kind) (word : List ℕ) (s : Place → Stream Token) (n : ℕ) → ((p : Place) → bytes (s p) ≤ begun p + n)
    → bytes (before (begins k word).0 (s (begins k word).1)) ≤ wide word + n
unfolding begins begun cost before
after_begins blank word s n h = let i = h between in omega (arith, wide_some word)
after_begins opens word s n h = let i = h between in omega (arith, wide_some word)
after_begins closes word s n h = let i = h between in omega (arith, wide_some word)
after_begins comments word s n h = let i = h in_comment in omega (arith, wide_some word)
after_begins ordinary word s n h = h (in_atom word)

after_continues : (a : List ℕ) (k : Kind) (word : List ℕ) (s : Place → Stream Token) (n : ℕ) → ((p : Place) → bytes (s p) ≤ begun p + n)
    → bytes (before (continues a k word).0 (s (continues a k word).1)) ≤ wide a + wide word + n
unfolding continues begun cost before atom_bytes atom_first gap
after_continues a blank word s n h = let i = h between in let g = gap_small (atom_first (s between)) in omega (arith, wide_some word)
after_continues a opens word s n h = let i = h between in omega (arith, wide_some word)
after_continues a closes word s n h = let i = h between in omega (arith, wide_some word)
after_continues a comments word s n h = let i = h in_comment in let g = gap_small (atom_first (s in_comment)) in omega (arith, wide_some word)
after_continues a ordinary word s n h = let i = h (in_atom (a ++ word)) in omega (arith, wide-append a word)

after_move : (place : Place) (word : List ℕ) (value : ℕ) (s : Place → Stream Token) (n : ℕ) → ((p : Place) → bytes (s p) ≤ begun p + n)
    → bytes (before (move place (char word value)).0 (s (move place (char word value)).1)) ≤ begun place + (wide word + n)
unfolding move begun before
after_move between word value s n h = let i = after_begins (kind value) word s n h in omega arith
after_move (in_atom a) word value s n h = let i = after_continues a (kind value) word s n h in omega arith
after_move in_comment word value s n h =
    in_comment_lem (λ m. bytes (before m.0 (s m.1)) ≤ 0 + (wide word + n)) (char word value)
    (let i = h between in omega (arith, wide_some word)) (let i = h in_comment in omega (arith, wide_some word))

at_end_lem : (place : Place) (s : Stream Token) → bytes s ≡ 0 → atom_first s ≡ false → bytes (before (unended place) s) ≤ begun place + 0
unfolding unended begun cost before atom_bytes gap
at_end_lem between s e f = omega arith
at_end_lem in_comment s e f = omega arith
at_end_lem (in_atom word) s e f = rw f (omega arith)

from_place : (cs : Stream Char) (place : Place) → bytes (tokens_from place cs) ≤ begun place + stream_bytes cs
unfolding tokens_from stream_bytes cost atom_first
from_place end place = at_end_lem place end refl refl
from_place bad place = at_end_lem place bad refl refl
from_place (char word value ▹ cs) place = after_move place word value (λ p. tokens_from p cs) (stream_bytes cs) (λ p. from_place cs p)

-- The law that every capacity is drawn from.
pub text_bytes : (text : List ℕ) → bytes (tokens text) ≤ length text
unfolding tokens begun
text_bytes text =
    let t = from_place (characters (lines text)) between in
    let c = characters_few text in
    omega arith
