-- A rulebook that is read whole: its tokens are its nested lists written out, and it has no more lists than bytes.
use Rattle.std.proofs.Common.{◌≡◌, ℕ, zero, ◌+◌, ◌≤◌, List, [], length, ap, ◌∙◌, arith}
use Rattle.lex.specs.Below.horn.specs.Refusals.{ok}
use Rattle.lex.specs.Below.horn.specs.Tokens.{Stream, end, ◌▹◌, Token, closing, tokens}
use Rattle.lex.specs.Below.horn.specs.NestedLists.{items, sexps, Sexp, leaf, list, Sexps, []ₛ, ◌∷ₛ◌}
use Rattle.lex.specs.Below.horn.proofs.Counts.{stream_length, few_tokens}
use Rattle.lex.specs.Below.horn.proofs.Inversion.{onᵣ}
use Rattle.lex.specs.Below.horn.proofs.Post.{post_at}
use Rattle.sexp.specs.Flattening.{flat_one, flat, flattened, counts_one, counts_all, counts}
use Rattle.sexp.proofs.Levels.{top, written, read-written, read-sexps}

-- The tokens of a text that is read whole.
pub whole_tokens : (ts : Stream Token) (xs : Sexps) → sexps (items ts) ≡ ok xs → ts ≡ flattened xs
unfolding flattened written
whole_tokens ts xs e = post_at (read-sexps ts ∙ onᵣ (λ ys. ok (top ys)) e) (read-written ts zero)

-- Every list has an opening among the tokens.
mutual
  unfolding flat counts_all stream_length

  few_one : (x : Sexp) (cs : List ℕ) (ts : Stream Token) → length (counts_one x cs) + stream_length ts ≤ length cs + stream_length (flat_one x ts)
  few_one (leaf bytes) cs ts = omega arith
  few_one (list xs) cs ts = let h = few_all xs cs (closing ▹ ts) in omega arith

  few_all : (xs : Sexps) (cs : List ℕ) (ts : Stream Token) → length (counts_all xs cs) + stream_length ts ≤ length cs + stream_length (flat xs ts)
  few_all []ₛ cs ts = omega arith
  few_all (x ∷ₛ xs) cs ts =
      let g = few_one x (counts_all xs cs) (flat xs ts) in
      let h = few_all xs cs ts in
      omega arith

-- A text that is read whole has at most one list for each byte.
pub few_lists : (text : List ℕ) (xs : Sexps) → sexps (items (tokens text)) ≡ ok xs → length (counts xs) ≤ length text
unfolding flattened counts stream_length
few_lists text xs e =
    let t = few_tokens text in
    let w = ap stream_length (whole_tokens (tokens text) xs e) in
    let h = few_all xs [] end in
    omega arith
