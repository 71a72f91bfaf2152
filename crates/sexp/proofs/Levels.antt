-- The definition of nested lists says the same as a machine that goes over the tokens and knows only how many lists are
-- open.
use Rattle.std.proofs.Common.{◌≡◌, ℕ, zero, suc, sym, refl, ap, ◌∙◌}
use Rattle.lex.specs.Below.horn.specs.Refusals.{Refusal, not_utf8, text_ends, stray_closing, Result, ok, refused, ◌>>=◌, need}
use Rattle.lex.specs.Below.horn.specs.Tokens.{Stream, end, bad, ◌▹◌, Token, opening, closing, atom}
use Rattle.lex.specs.Below.horn.specs.NestedLists.{Around}
use Rattle.lex.specs.Below.horn.specs.NestedLists.{innermost, outer, add, around, items, asked_at, absent, sexp, members, sexps}
use Rattle.lex.specs.Below.horn.specs.NestedLists.{Sexp, leaf, list, Sexps, []ₛ, ◌∷ₛ◌}
use Rattle.lex.specs.Below.horn.proofs.Post.{Post, post_ok, post_refused, post_bind, post_after}
use Rattle.sexp.specs.Flattening.{flat_one, flat}

-- What was read of each list that is open, innermost first, and then at top level.
pub data Levels : ℕ → Type 0 where
  top : Sexps → Levels zero
  ◌within◌ : {d : ℕ} → Sexps → Levels d → Levels (suc d)

infixr 20 ◌within◌
-- One item more in front of the innermost.
unfoldable pub put : {d : ℕ} → Sexp → Levels d → Levels d
put x (top xs) = top (x ∷ₛ xs)
put x (xs within l) = (x ∷ₛ xs) within l

-- The innermost list read whole is an item of the one around it.
unfoldable pub ended_list : {d : ℕ} → Levels (suc d) → Levels d
ended_list (xs within l) = put (list xs) l

-- The machine: how many lists are open, and the tokens.
unfoldable pub read : (d : ℕ) → Stream Token → Result (Levels d)
read zero end = ok (top []ₛ)
read (suc d) end = absent (suc d) text_ends
read d bad = refused not_utf8
read zero (closing ▹ ts) = refused stray_closing
read (suc d) (closing ▹ ts) = read d ts >>= λ l. ok ([]ₛ within l)
read d (atom bytes ▹ ts) = asked_at d >>= λ _. read d ts >>= λ l. ok (put (leaf bytes) l)
read d (opening ▹ ts) = asked_at d >>= λ _. read (suc d) ts >>= λ l. ok (ended_list l)

-- What the definition says of what stands around a reader in so many lists.
unfoldable outcome : (d : ℕ) → Around → Result (Levels d)
outcome zero a = sexps (innermost a) >>= λ xs. ok (top xs)
outcome (suc d) a = members (suc d) (innermost a) >>= λ xs. outcome d (outer a) >>= λ l. ok (xs within l)

-- Each token, over any results of the parts.
unended : {A : Type 0} (u : Result (Unit {0})) (r : Refusal) (f : Sexps → Result A)
    → (u >>= λ _. refused r) ≡ ((u >>= λ _. refused r) >>= f)
unfolding ◌>>=◌
unended (ok t) r f = refl
unended (refused s) r f = refl

atom_top : (x : Sexp) (m : Result Sexps)
    → ((m >>= λ xs. ok (top xs)) >>= λ l. ok (put x l)) ≡ ((m >>= λ xs. ok (x ∷ₛ xs)) >>= λ xs. ok (top xs))
unfolding ◌>>=◌ put
atom_top x (ok xs) = refl
atom_top x (refused r) = refl

atom_within : {d : ℕ} (x : Sexp) (u : Result (Unit {0})) (m : Result Sexps) (o : Result (Levels d))
    → (u >>= λ _. (m >>= λ xs. o >>= λ l. ok (xs within l)) >>= λ l. ok (put x l))
    ≡ ((u >>= λ _. ok x >>= λ y. m >>= λ xs. ok (y ∷ₛ xs)) >>= λ xs. o >>= λ l. ok (xs within l))
unfolding ◌>>=◌ put
atom_within x (refused r) m o = refl
atom_within x (ok t) (refused r) o = refl
atom_within x (ok t) (ok xs) (refused r) = refl
atom_within x (ok t) (ok xs) (ok l) = refl

opening_top : (m n : Result Sexps)
    → ((m >>= λ xs. (n >>= λ ys. ok (top ys)) >>= λ l. ok (xs within l)) >>= λ l. ok (ended_list l))
    ≡ (((m >>= λ xs. ok (list xs)) >>= λ x. n >>= λ ys. ok (x ∷ₛ ys)) >>= λ xs. ok (top xs))
unfolding ◌>>=◌ put ended_list
opening_top (refused r) n = refl
opening_top (ok xs) (refused r) = refl
opening_top (ok xs) (ok ys) = refl

opening_within : {d : ℕ} (u : Result (Unit {0})) (m n : Result Sexps) (o : Result (Levels d))
    → (u >>= λ _. (m >>= λ xs. (n >>= λ ys. o >>= λ l. ok (ys within l)) >>= λ l. ok (xs within l)) >>= λ l. ok (ended_list l))
    ≡ ((u >>= λ _. (m >>= λ xs. ok (list xs)) >>= λ x. n >>= λ ys. ok (x ∷ₛ ys)) >>= λ ys. o >>= λ l. ok (ys within l))
unfolding ◌>>=◌ put ended_list
opening_within (refused r) m n o = refl
opening_within (ok t) (refused r) n o = refl
opening_within (ok t) (ok xs) (refused r) o = refl
opening_within (ok t) (ok xs) (ok ys) (refused r) = refl
opening_within (ok t) (ok xs) (ok ys) (ok l) = refl

-- For an opening this holds by the very shape of `add opening`.
read_is : (ts : Stream Token) (d : ℕ) → read d ts ≡ outcome d (around ts)
unfolding read outcome around add innermost outer sexps members sexp asked_at absent need ◌>>=◌
read_is end zero = refl
read_is end (suc d) = unended (asked_at (suc d)) text_ends _
read_is bad zero = refl
read_is bad (suc d) = refl
read_is (closing ▹ ts) zero = refl
read_is (closing ▹ ts) (suc d) = rw (read_is ts d)
read_is (atom bytes ▹ ts) zero = rw (read_is ts zero) (atom_top (leaf bytes) (sexps (innermost (around ts))))
read_is (atom bytes ▹ ts) (suc d) =
    rw (read_is ts (suc d)) (atom_within (leaf bytes) (asked_at (suc d)) (members (suc d) (innermost (around ts))) (outcome d (outer (around ts))))
read_is (opening ▹ ts) zero = rw (read_is ts (suc zero)) (opening_top (members 1 (innermost (around ts))) (sexps (innermost (outer (around ts)))))
read_is (opening ▹ ts) (suc d) =
    rw (read_is ts (suc (suc d))) (opening_within (asked_at (suc d)) (members (suc (suc d)) (innermost (around ts)))
    (members (suc d) (innermost (outer (around ts)))) (outcome d (outer (outer (around ts)))))

-- The tokens that were read are the levels written out.
unfoldable pub written : {d : ℕ} → Levels d → Stream Token
written (top xs) = flat xs end
written (xs within l) = flat xs (closing ▹ written l)

written-put : {d : ℕ} (x : Sexp) (l : Levels d) → written (put x l) ≡ flat_one x (written l)
unfolding written put flat
written-put x (top xs) = refl
written-put x (xs within l) = refl

written_ended : {d : ℕ} (l : Levels (suc d)) → written (ended_list l) ≡ opening ▹ written l
unfolding written ended_list flat
written_ended (xs within l) = written-put (list xs) l

pub read-written : (ts : Stream Token) (d : ℕ) → Post (λ l. ts ≡ written l) (read d ts)
unfolding read written flat absent ◌>>=◌
read-written end zero = post_ok refl
read-written end (suc d) = post_after (asked_at (suc d)) _ (λ _. post_refused)
read-written bad d = post_refused
read-written (closing ▹ ts) zero = post_refused
read-written (closing ▹ ts) (suc d) = post_bind _ (read-written ts d) (λ l e. post_ok (ap (λ s. closing ▹ s) e))
read-written (atom bytes ▹ ts) d =
    post_after (asked_at d) _ (λ _. post_bind _ (read-written ts d) (λ l e. post_ok (ap (λ s. atom bytes ▹ s) e ∙ sym (written-put (leaf bytes) l))))
read-written (opening ▹ ts) d =
    post_after (asked_at d) _ (λ _. post_bind _ (read-written ts (suc d)) (λ l e. post_ok (ap (λ s. opening ▹ s) e ∙ sym (written_ended l))))

-- At top level.
pub read-sexps : (ts : Stream Token) → read zero ts ≡ (sexps (items ts) >>= λ xs. ok (top xs))
unfolding outcome items
read-sexps ts = read_is ts zero
