-- The atoms of a text, with one byte for each to part it from the next, are at most one byte longer than the text.
-- Assumes nothing.
use Prim.Native.Nat.{ℕ, suc, ◌+◌, ◌≤◌}
use mathlib.Core.Path.{◌≡◌, refl}
use mathlib.Core.List.{List, [], ◌∷◌}
use native.Mathlib.Omega.{arith}
use lib.ListN.{length, length-append}
use Rattle.capacity.specs.Below.horn.specs.Utf8.{Char, char}
use Rattle.capacity.specs.Below.horn.specs.Tokens.{Stream, end, bad, ◌▹◌, before, lines, characters, Kind, blank, opens, closes, comments, ordinary, kind}
use Rattle.capacity.specs.Below.horn.specs.Tokens.{Token, opening, closing, atom, Place, between, in_comment, in_atom, begins, continues, move, unended, tokens_from, tokens}
use Rattle.capacity.specs.Below.horn.proofs.Counts.{in_comment_lem}
use Rattle.capacity.specs.Costs.{wide}
use Rattle.capacity.proofs.Characters.{wide_some, wide_all, stream_bytes, characters_few}
use Rattle.theory_laws.specs.Reading.{weight}

-- Where the reader stands: an atom's bytes so far are to be paid for.
begun : Place → ℕ
begun between = 0
begun in_comment = 0
begun (in_atom bytes) = length bytes

pub weight-before : (ts : List Token) (s : Stream Token) → weight (before ts s) ≡ weight (before ts end) + weight s
unfolding weight before
weight-before [] s = omega arith
weight-before (opening ∷ ts) s = let h = weight-before ts s in omega arith
weight-before (closing ∷ ts) s = let h = weight-before ts s in omega arith
weight-before (atom bytes ∷ ts) s = let h = weight-before ts s in omega arith

-- One character: what it ends, and what is begun behind it.
light_begins : (k : Kind) (bytes : List ℕ) → weight (before (begins k bytes).0 end) + begun (begins k bytes).1 ≤ wide bytes
unfolding begins begun weight before
light_begins blank bytes = omega (arith, wide_some bytes)
light_begins opens bytes = omega (arith, wide_some bytes)
light_begins closes bytes = omega (arith, wide_some bytes)
light_begins comments bytes = omega (arith, wide_some bytes)
light_begins ordinary bytes = omega (arith, wide_all bytes)

light_continues : (a : List ℕ) (k : Kind) (bytes : List ℕ)
    → weight (before (continues a k bytes).0 end) + begun (continues a k bytes).1 ≤ length a + wide bytes
unfolding continues begun weight before
light_continues a blank bytes = omega (arith, wide_some bytes)
light_continues a opens bytes = omega (arith, wide_some bytes)
light_continues a closes bytes = omega (arith, wide_some bytes)
light_continues a comments bytes = omega (arith, wide_some bytes)
light_continues a ordinary bytes = let h = length-append a bytes in omega (arith, wide_all bytes)

light_move : (place : Place) (bytes : List ℕ) (value : ℕ)
    → weight (before (move place (char bytes value)).0 end) + begun (move place (char bytes value)).1 ≤ begun place + wide bytes
unfolding move begun weight before
light_move between bytes value = let h = light_begins (kind value) bytes in omega arith
light_move (in_atom a) bytes value = light_continues a (kind value) bytes
light_move in_comment bytes value =
    in_comment_lem (λ m. weight (before m.0 end) + begun m.1 ≤ 0 + wide bytes) (char bytes value)
    (omega (arith, wide_some bytes)) (omega (arith, wide_some bytes))

light_unended : (place : Place) (s : Stream Token) → weight s ≡ 0 → weight (before (unended place) s) ≤ suc (begun place)
unfolding unended begun weight before
light_unended between s e = omega arith
light_unended in_comment s e = omega arith
light_unended (in_atom bytes) s e = omega arith

light_tokens_from : (place : Place) (cs : Stream Char) → weight (tokens_from place cs) ≤ suc (begun place + stream_bytes cs)
unfolding tokens_from stream_bytes weight
light_tokens_from place end = let h = light_unended place end refl in omega arith
light_tokens_from place bad = let h = light_unended place bad refl in omega arith
light_tokens_from place (char bytes value ▹ cs) =
    let e = weight-before (move place (char bytes value)).0 (tokens_from (move place (char bytes value)).1 cs) in
    let m = light_move place bytes value in
    let h = light_tokens_from (move place (char bytes value)).1 cs in
    omega arith

-- The law that every capacity is drawn from.
pub light_tokens : (text : List ℕ) → weight (tokens text) ≤ suc (length text)
unfolding tokens begun
light_tokens text =
    let t = light_tokens_from between (characters (lines text)) in
    let c = characters_few text in
    omega arith
