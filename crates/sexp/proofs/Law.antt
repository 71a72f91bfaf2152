-- The first walk is the definition's: for every text of at most 8,192 bytes and every area of at least 16,384 words the
-- answer is the definition's refusal, or the area's first words are the member counts of the definition's nested lists.
use Rattle.std.proofs.Common.{◌≡◌, ℕ, ◌≤◌, List, [], length, take, refl, subst, arith}
use Rattle.lex.specs.Below.horn.specs.Refusals.{Refusal, number, Result, ok, ◌>>=◌}
use Rattle.lex.specs.Below.horn.specs.Refusals as refusals
use Rattle.lex.specs.Below.horn.specs.Tokens.{tokens}
use Rattle.lex.specs.Below.horn.specs.NestedLists.{items, sexps, Sexps}
use Rattle.lex.specs.Below.horn.proofs.Counts.{stream_length, few_tokens}
use Rattle.lex.specs.Answers as lexed
use Rattle.lex.proofs.Standing.{start_stands}
use Rattle.sexp.specs.Flattening.{flattened, counts}
use Rattle.sexp.specs.Walk.{whole, refused, place, AnswerAndArea, walked}
use Rattle.sexp.proofs.Counting.{counting-sexps}
use Rattle.sexp.proofs.Held.{start_held}
use Rattle.sexp.proofs.Simulation.{Agrees, agrees_refused, agrees_whole, simulates}
use Rattle.sexp.proofs.Whole.{whole_tokens}

-- What a walk leaves where the definition reads so.
pub data Meets : AnswerAndArea → Result Sexps → Type 0 where
  meets_refused : {l : AnswerAndArea} (r : Refusal) → l.answer ≡ refused (number r) → Meets l (refusals.refused r)
  meets_whole : {l : AnswerAndArea} (xs : Sexps) → l.answer ≡ whole (length (counts xs)) → take (length (counts xs)) l.area ≡ counts xs
      → Meets l (ok xs)

meets_of : {l : AnswerAndArea} (m : Result Sexps) → Agrees l (m >>= λ xs. ok (counts xs)) → Meets l m
unfolding ◌>>=◌
meets_of (ok xs) (agrees_whole cs e f) = meets_whole xs e f
meets_of (refusals.refused r) (agrees_refused s e) = meets_refused r e

-- The law.
pub walk_meets : (text area : List ℕ) → length text ≤ 8_192 → 16_384 ≤ length area → Meets (walked text area) (sexps (items (tokens text)))
unfolding walked
walk_meets text area short long =
    let t = few_tokens text in
    meets_of (sexps (items (tokens text)))
    (subst
    (λ (m : Result (List ℕ)). Agrees (walked text area) m)
    (counting-sexps (tokens text))
    (simulates text _ (tokens text) lexed.start (start_stands text) (omega arith) (place 0 0) area [] []
    (start_held (stream_length (tokens text)) area (omega arith) long)))

-- The two cases of a walk, each with what the definition says.
pub walk_cases {ℓ} : {C : Type ℓ} (text area : List ℕ) → length text ≤ 8_192 → 16_384 ≤ length area
    → ((r : Refusal) → sexps (items (tokens text)) ≡ refusals.refused r → (walked text area).answer ≡ refused (number r) → C)
    → ((xs : Sexps) → sexps (items (tokens text)) ≡ ok xs → tokens text ≡ flattened xs → (walked text area).answer ≡ whole (length (counts xs))
    → take (length (counts xs)) (walked text area).area ≡ counts xs → C)
    → C
walk_cases {C} text area short long refuses reads_whole = by (sexps (items (tokens text))) refl (walk_meets text area short long)
  where
    by : (m : Result Sexps) → sexps (items (tokens text)) ≡ m → Meets (walked text area) m → C
    by (refusals.refused r) e (meets_refused s f) = refuses r e f
    by (ok xs) e (meets_whole ys f g) = reads_whole xs e (whole_tokens (tokens text) xs e) f g
