-- The counts of members kept while the tokens are read are those of the nested lists that come of it.
use Rattle.std.proofs.Common.{subst, ◌≡◌, ℕ, zero, suc, ◌+◌, ◌<◌, List, [], ◌∷◌, ◌++◌, length, get_or, set, sym, refl, ap, ◌∙◌, ap₂, append-nil, arith, length-append, length-set}
use lib.ListN.{get_or-append}
use lib.Seq.{set-append_left, set_at, get_or_at, append_snoc}
use Rattle.lex.specs.Below.horn.specs.Refusals.{Refusal, not_utf8, text_ends, stray_closing, Result, ok, refused, ◌>>=◌}
use Rattle.lex.specs.Below.horn.specs.Tokens.{Stream, end, bad, ◌▹◌, Token, opening, closing, atom}
use Rattle.lex.specs.Below.horn.specs.NestedLists.{items, sexps, asked_at, absent, Sexp, leaf, list, []ₛ}
use Rattle.lex.specs.Below.horn.specs.Rulebook.{count}
use Rattle.sexp.specs.Flattening.{counts_one, counts_all, counts}
use Rattle.sexp.proofs.Levels.{Levels, top, ◌within◌, put, ended_list, read, read-sexps}

-- k members more of the i-th list.
abbrev pub bump : List ℕ → ℕ → ℕ → List ℕ
bump cs i k = set cs i (get_or cs i 0 + k)

-- One member more of the innermost of the lists that are open.
unfoldable pub member_of : List ℕ → List ℕ → List ℕ
member_of [] cs = cs
member_of (i ∷ open') cs = bump cs i 1

-- The counts so far, the lists that are open (innermost first, by their numbers), and the tokens that come.
unfoldable pub counting : List ℕ → List ℕ → Stream Token → Result (List ℕ)
counting [] cs end = ok cs
counting (i ∷ is) cs end = absent (suc (length is)) text_ends
counting is cs bad = refused not_utf8
counting [] cs (closing ▹ ts) = refused stray_closing
counting (i ∷ is) cs (closing ▹ ts) = counting is cs ts
counting is cs (atom bytes ▹ ts) = asked_at (length is) >>= λ _. counting is (member_of is cs) ts
counting is cs (opening ▹ ts) = asked_at (length is) >>= λ _. counting (length cs ∷ is) (member_of is cs ++ (0 ∷ [])) ts

-- What the levels that are read will add to the counts of the lists that are open; and the counts of later lists.
unfoldable pub bumps : (is : List ℕ) → List ℕ → Levels (length is) → List ℕ
bumps [] cs l = cs
bumps (i ∷ is) cs (xs within l) = bumps is (bump cs i (count xs)) l

unfoldable pub later : {d : ℕ} → Levels d → List ℕ
later (top xs) = counts xs
later (xs within l) = counts_all xs (later l)

unfoldable pub Below : ℕ → List ℕ → Type 0
Below n [] = Unit {0}
Below n (i ∷ is) = (i < n) × Below n is

pub below_more : (n : ℕ) (is : List ℕ) → Below n is → Below (suc n) is
unfolding Below
below_more n [] b = tt
below_more n (i ∷ is) b = (omega (arith, b.0), below_more n is b.1)

bump_none : (cs : List ℕ) (i : ℕ) → bump cs i 0 ≡ cs
bump_none [] i = refl
bump_none (c ∷ cs) zero = ap (λ (m : ℕ). m ∷ cs) (omega arith)
bump_none (c ∷ cs) (suc i) = ap (λ (s : List ℕ). c ∷ s) (bump_none cs i)

bump-bump : (cs : List ℕ) (i k : ℕ) → bump (bump cs i 1) i k ≡ bump cs i (suc k)
bump-bump [] i k = refl
bump-bump (c ∷ cs) zero k = ap (λ (m : ℕ). m ∷ cs) (omega arith)
bump-bump (c ∷ cs) (suc i) k = ap (λ (s : List ℕ). c ∷ s) (bump-bump cs i k)

pub length_member : (is cs : List ℕ) → length (member_of is cs) ≡ length cs
unfolding member_of
length_member [] cs = refl
length_member (i ∷ is) cs = length-set cs i (get_or cs i 0 + 1)

bump-append : (cs ks : List ℕ) (i k : ℕ) → i < length cs → bump (cs ++ ks) i k ≡ bump cs i k ++ ks
bump-append cs ks i k h =
    ap (λ (m : ℕ). set (cs ++ ks) i (m + k)) (get_or-append cs ks 0 i h) ∙ set-append_left cs ks i (get_or cs i 0 + k) h

bumps-append : (is cs ks : List ℕ) (l : Levels (length is)) → Below (length cs) is → bumps is (cs ++ ks) l ≡ bumps is cs l ++ ks
unfolding bumps Below
bumps-append [] cs ks l b = refl
bumps-append (i ∷ is) cs ks (xs within l) b =
    ap (λ (s : List ℕ). bumps is s l) (bump-append cs ks i (count xs) b.0)
    ∙ bumps-append is (bump cs i (count xs)) ks l (rw (length-set cs i (get_or cs i 0 + count xs)) b.1)

-- An item in front.
bumps-put : (is cs : List ℕ) (x : Sexp) (l : Levels (length is)) → bumps is cs (put x l) ≡ bumps is (member_of is cs) l
unfolding bumps member_of put count
bumps-put [] cs x l = refl
bumps-put (i ∷ is) cs x (xs within l) = ap (λ (s : List ℕ). bumps is s l) (sym (bump-bump cs i (count xs)))

later-put : {d : ℕ} (x : Sexp) (l : Levels d) → later (put x l) ≡ counts_one x (later l)
unfolding later put counts counts_one
later-put x (top xs) = refl
later-put x (xs within l) = refl

-- All counts in the end.
abbrev pub final : (is : List ℕ) → List ℕ → Levels (length is) → List ℕ
final is cs l = bumps is cs l ++ later l

final_atom : (is cs bytes : List ℕ) (l : Levels (length is)) → final is (member_of is cs) l ≡ final is cs (put (leaf bytes) l)
unfolding counts_one
final_atom is cs bytes l = ap₂ ◌++◌ (sym (bumps-put is cs (leaf bytes) l)) (sym (later-put (leaf bytes) l))

final_closing : (i : ℕ) (is cs : List ℕ) (l : Levels (length is)) → final is cs l ≡ final (i ∷ is) cs ([]ₛ within l)
unfolding bumps later count counts_all
final_closing i is cs l = ap (λ (s : List ℕ). bumps is s l ++ later l) (sym (bump_none cs i))

bump_last : (cs : List ℕ) (n k : ℕ) → length cs ≡ n → bump (cs ++ (0 ∷ [])) n k ≡ cs ++ (k ∷ [])
bump_last cs n k e =
    ap (λ (m : ℕ). set (cs ++ (0 ∷ [])) n m) (let h = get_or_at cs 0 [] 0 n e in omega arith) ∙ set_at cs 0 [] k n e

final_opening : (is cs : List ℕ) (l : Levels (suc (length is))) → Below (length cs) is
    → final (length cs ∷ is) (member_of is cs ++ (0 ∷ [])) l ≡ final is cs (ended_list l)
unfolding bumps later ended_list counts_one
final_opening is cs (xs within l) b =
    ap (λ (s : List ℕ). bumps is s l ++ counts_all xs (later l)) (bump_last (member_of is cs) (length cs) (count xs) (length_member is cs))
    ∙ ap (λ (s : List ℕ). s ++ counts_all xs (later l)) (bumps-append is (member_of is cs) (count xs ∷ []) l (rw (length_member is cs) b))
    ∙ append_snoc (bumps is (member_of is cs) l) (count xs) (counts_all xs (later l))
    ∙ ap₂ ◌++◌ (sym (bumps-put is cs (list xs) l)) (sym (later-put (list xs) l))

-- Over any results of the parts.
on_through : {A B C : Type 0} (m : Result A) (f : A → B) (g : B → C) (h : A → C) → ((a : A) → h a ≡ g (f a))
    → (m >>= λ a. ok (h a)) ≡ ((m >>= λ a. ok (f a)) >>= λ b. ok (g b))
unfolding ◌>>=◌
on_through (ok a) f g h e = ap ok (e a)
on_through (refused r) f g h e = refl

asked_through : {A B C : Type 0} (u : Result (Unit {0})) (m : Result A) (f : A → B) (g : B → C) (h : A → C) → ((a : A) → h a ≡ g (f a))
    → (u >>= λ _. m >>= λ a. ok (h a)) ≡ ((u >>= λ _. m >>= λ a. ok (f a)) >>= λ b. ok (g b))
unfolding ◌>>=◌
asked_through (ok t) m f g h e = on_through m f g h e
asked_through (refused r) m f g h e = refl

ended_through : {A B : Type 0} (u : Result (Unit {0})) (r : Refusal) (g : A → B)
    → (u >>= λ _. refused r) ≡ ((u >>= λ _. refused r) >>= λ a. ok (g a))
unfolding ◌>>=◌
ended_through (ok t) r g = refl
ended_through (refused s) r g = refl

below_member : (is cs : List ℕ) → Below (length cs) is → Below (length (member_of is cs)) is
below_member is cs b = rw (length_member is cs) b

below_opening : (is cs : List ℕ) → Below (length cs) is → Below (length (member_of is cs ++ (0 ∷ []))) (length cs ∷ is)
unfolding Below
below_opening is cs b =
    let e : length (member_of is cs ++ (0 ∷ [])) ≡ suc (length cs) =
    length-append (member_of is cs) (0 ∷ []) ∙ (let h = length_member is cs in omega arith) in
    (omega (arith, e), subst (λ (n : ℕ). Below n is) (sym e) (below_more (length cs) is b))

pub counting_is : (ts : Stream Token) (is cs : List ℕ) → Below (length cs) is
    → counting is cs ts ≡ (read (length is) ts >>= λ l. ok (final is cs l))
unfolding counting read Below absent bumps later counts counts_all ◌>>=◌
counting_is end [] cs b = ap ok (sym (append-nil cs))
counting_is end (i ∷ is) cs b = ended_through (asked_at (suc (length is))) text_ends (final (i ∷ is) cs)
counting_is bad is cs b = refl
counting_is (closing ▹ ts) [] cs b = refl
counting_is (closing ▹ ts) (i ∷ is) cs b =
    counting_is ts is cs b.1 ∙ on_through (read (length is) ts) _ (final (i ∷ is) cs) (final is cs) (final_closing i is cs)
counting_is (atom bytes ▹ ts) is cs b =
    ap (λ (m : Result (List ℕ)). asked_at (length is) >>= λ _. m) (counting_is ts is (member_of is cs) (below_member is cs b))
    ∙ asked_through (asked_at (length is)) (read (length is) ts) (put (leaf bytes)) (final is cs) _ (final_atom is cs bytes)
counting_is (opening ▹ ts) is cs b =
    ap (λ (m : Result (List ℕ)). asked_at (length is) >>= λ _. m) (counting_is ts (length cs ∷ is) (member_of is cs ++ (0 ∷ [])) (below_opening is cs b))
    ∙ asked_through (asked_at (length is)) (read (suc (length is)) ts) ended_list (final is cs) _ (λ l. final_opening is cs l b)

-- From the start of a text.
pub counting-sexps : (ts : Stream Token) → counting [] [] ts ≡ (sexps (items ts) >>= λ xs. ok (counts xs))
unfolding Below bumps later
counting-sexps ts =
    counting_is ts [] [] tt
    ∙ ap (λ (m : Result (Levels zero)). m >>= λ l. ok (final [] [] l)) (read-sexps ts)
    ∙ sym (on_through (sexps (items ts)) top (final [] []) counts (λ xs. refl))
