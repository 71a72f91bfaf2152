-- Decoding in parts: bytes that decode, put one after the other, decode to the characters of both; each character's own
-- bytes decode to it alone.
use Prim.Native.Nat.{ℕ, ◌+◌, ◌*◌, ◌-◌}
use mathlib.Core.Path.{◌≡◌, refl, sym, ap, ◌∙◌}
use mathlib.Core.List.{List, [], ◌∷◌, ◌++◌, append-nil, append_assoc}
use mathlib.Core.Option.{Option, none, some, map, map-id, map-map}
use Rattle.horn.specs.Utf8.{Range, within, Sequence, sequence, sequences, started_by, Char, char, resumed, decoded}
use Rattle.horn.proofs.Equality.{chosen, chose_true}
use Rattle.horn.proofs.Inversion.{none-some, some_equal}

-- Where a first byte begins a character, the alternative of the grammar that it begins.
pub started {ℓ} : {C : Type ℓ} {B : Type 0} (o : Option Sequence) {f : Range → ℕ → List Range → Option B} {z : B}
    → (elim o [ none ↦ none | some (sequence a m r) ↦ f a m r ]) ≡ some z
    → ((a : Range) (m : ℕ) (r : List Range) → o ≡ some (sequence a m r) → f a m r ≡ some z → C)
    → C
started none e k = none-some e
started (some (sequence a m r)) e k = k a m r refl e

map_started : (o : Option Sequence) (f : Range → ℕ → List Range → Option (List Char)) (g : List Char → List Char)
    → (elim o [ none ↦ none | some (sequence a m r) ↦ map g (f a m r) ])
    ≡ map g (elim o [ none ↦ none | some (sequence a m r) ↦ f a m r ])
map_started none f g = refl
map_started (some (sequence a m r)) f g = refl

-- After a whole character the rest is decoded by itself.
pub resumed_done : (taken : List ℕ) (value : ℕ) (rest : List ℕ)
    → resumed taken value [] rest ≡ map (λ cs. char taken value ∷ cs) (decoded rest)
unfolding resumed decoded
resumed_done taken value [] = refl
resumed_done taken value (b ∷ bs) =
    map_started (started_by b sequences) (λ a m r. resumed (b ∷ []) (b - m) r bs) (λ cs. char taken value ∷ cs)

pub mapped {ℓ} : {A : Type 0} {C : Type ℓ} (o : Option A) {g : A → A} {z : A} → map g o ≡ some z
    → ((a : A) → o ≡ some a → g a ≡ z → C)
    → C
mapped none e k = none-some e
mapped (some a) e k = k a refl (some_equal e)

-- What stands behind bytes that are decoded is decoded by itself.
resumed_before : (bs rest taken : List ℕ) (value : ℕ) (rs : List Range) {cs : List Char} → resumed taken value rs bs ≡ some cs
    → resumed taken value rs (bs ++ rest) ≡ map (λ ds. cs ++ ds) (decoded rest)
unfolding resumed decoded
resumed_before [] rest taken value (r ∷ rs) e = none-some e
resumed_before (b ∷ bs) rest taken value (r ∷ rs) e =
    chosen (within r b) e
    (λ w q. rw (w, resumed) (resumed_before bs rest (taken ++ (b ∷ [])) (value * 0x40 + (b - 0x80)) rs q))
    (λ w q. none-some q)
resumed_before [] rest taken value [] e =
    resumed_done taken value rest ∙ ap (λ ks. map (λ ds. ks ++ ds) (decoded rest)) (some_equal e)
resumed_before (b ∷ bs) rest taken value [] e =
    mapped (decoded (b ∷ bs)) (sym (resumed_done taken value (b ∷ bs)) ∙ e) λ ks e₁ e₂.
    started (started_by b sequences) e₁ λ a m r s q.
    rw (s, resumed) (ap (map (λ us. char taken value ∷ us)) (resumed_before bs rest (b ∷ []) (b - m) r q)
    ∙ map-map (λ us. char taken value ∷ us) (λ ds. ks ++ ds) (decoded rest)
    ∙ ap (λ us. map (λ ds. us ++ ds) (decoded rest)) e₂)

pub decoded_before : (bs rest : List ℕ) {cs : List Char} → decoded bs ≡ some cs → decoded (bs ++ rest) ≡ map (λ ds. cs ++ ds) (decoded rest)
unfolding decoded
decoded_before [] rest e = sym (ap (λ f. f (decoded rest)) map-id) ∙ ap (λ ks. map (λ ds. ks ++ ds) (decoded rest)) (some_equal e)
decoded_before (b ∷ bs) rest e =
    started (started_by b sequences) e λ a m r s q. rw (s, decoded) (resumed_before bs rest (b ∷ []) (b - m) r q)

pub decoded-append : (bs rest : List ℕ) {cs ds : List Char} → decoded bs ≡ some cs → decoded rest ≡ some ds
    → decoded (bs ++ rest) ≡ some (cs ++ ds)
decoded-append bs rest {cs} e p = decoded_before bs rest e ∙ ap (map (λ ds. cs ++ ds)) p

pub decoded_of {ℓ} : {C : Type ℓ} (b : ℕ) (bs : List ℕ) {cs : List Char} → decoded (b ∷ bs) ≡ some cs
    → ((a : Range) (m : ℕ) (r : List Range) → started_by b sequences ≡ some (sequence a m r)
    → resumed (b ∷ []) (b - m) r bs ≡ some cs → C)
    → C
unfolding decoded
decoded_of b bs e k = started (started_by b sequences) e k

-- What holds of every entry of a list.
abbrev pub All : {A : Type 0} → (A → Type 0) → List A → Type 0
All P [] = Unit
All P (x ∷ xs) = P x × All P xs

pub all_append : {A : Type 0} (P : A → Type 0) (xs ys : List A) → All P xs → All P ys → All P (xs ++ ys)
all_append P [] ys p q = q
all_append P (x ∷ xs) ys p q = (p.0, all_append P xs ys p.1 q)

-- A character that its own bytes decode to.
abbrev pub Proper : Char → Type 0
Proper (char bs v) = decoded bs ≡ some (char bs v ∷ [])

pub decoded_begun : (b : ℕ) {a : Range} {m : ℕ} {r : List Range} (rest : List ℕ) → started_by b sequences ≡ some (sequence a m r)
    → decoded (b ∷ rest) ≡ resumed (b ∷ []) (b - m) r rest
unfolding decoded
decoded_begun b rest s = rw (s, decoded)

resumed_proper : (bs taken : List ℕ) (value : ℕ) (rs : List Range) {cs : List Char}
    → ((rest : List ℕ) → decoded (taken ++ rest) ≡ resumed taken value rs rest)
    → resumed taken value rs bs ≡ some cs
    → All Proper cs
unfolding resumed
resumed_proper [] taken value (r ∷ rs) inv e = none-some e
resumed_proper (b ∷ bs) taken value (r ∷ rs) inv e =
    chosen (within r b) e
    (λ w q.
    resumed_proper bs (taken ++ (b ∷ [])) (value * 0x40 + (b - 0x80)) rs
    (λ rest. ap decoded (append_assoc taken (b ∷ []) rest) ∙ inv (b ∷ rest) ∙ chose_true _ _ w) q)
    (λ w q. none-some q)
resumed_proper [] taken value [] inv e =
    rw (← some_equal e) (ap decoded (sym (append-nil taken)) ∙ inv [], tt)
resumed_proper (b ∷ bs) taken value [] inv e =
    mapped (decoded (b ∷ bs)) (sym (resumed_done taken value (b ∷ bs)) ∙ e) λ ks e₁ e₂.
    decoded_of b bs e₁ λ a m r s q.
    rw (← e₂) (ap decoded (sym (append-nil taken)) ∙ inv [], resumed_proper bs (b ∷ []) (b - m) r (λ rest. decoded_begun b rest s) q)

pub decoded_proper : (bs : List ℕ) {cs : List Char} → decoded bs ≡ some cs → All Proper cs
unfolding decoded
decoded_proper [] e = rw (← some_equal e) tt
decoded_proper (b ∷ bs) e =
    decoded_of b bs e λ a m r s q. resumed_proper bs (b ∷ []) (b - m) r (λ rest. decoded_begun b rest s) q
