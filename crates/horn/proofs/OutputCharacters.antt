-- "A long name is cut after the last whole character that fits": of a name that is UTF-8, what a cut leaves are the bytes of the
-- characters from the first on, for as long as they fit. Assumes nothing.
use Prim.Native.Nat.{ℕ, zero, suc, ◌+◌, ◌*◌, ◌-◌, ◌≤◌, ◌<◌}
use native.Mathlib.Omega.{arith}
use mathlib.Core.Path.{◌≡◌, refl, sym, ap, subst, ◌∙◌}
use mathlib.Core.Bool.{Bool, true, false, ◌&&◌}
use mathlib.Core.List.{List, [], ◌∷◌, ◌++◌, append-nil, append_assoc, nil≢cons, tail-eq_of_cons-eq}
use mathlib.Core.Option.{some}
use lib.Dec.{leb}
use lib.ListN.{length, get_or, length-append}
use lib.Seq.{get_or-append-add, take-append-add}
use borrow.Author.Tests.{leb-true, leb-false, le-leb, lt-leb}
use Rattle.horn.specs.Names.{Name}
use Rattle.horn.specs.Utf8.{Range, range, within, Sequence, sequence, tail, sequences, started_by, Char, char, resumed, decoded}
use Rattle.horn.specs.Output.{goes_on, cut}
use Rattle.horn.proofs.Equality.{case, both, chosen}
use Rattle.horn.proofs.Inversion.{none-some, some_equal}
use Rattle.horn.proofs.Output.{cut_inside, cut_here}
use Rattle.horn.proofs.CompleteUtf8.{All, resumed_done, mapped, decoded_of}
use Rattle.horn.proofs.CompleteTokens.{bytes_of}

-- The bytes of characters, from the first on, for as long as they fit into so many bytes.
unfoldable pub wholes : ℕ → List Char → List ℕ
wholes k [] = []
wholes k (char bs v ∷ cs) = elim (leb (length bs) k) [ true ↦ bs ++ wholes (k - length bs) cs | false ↦ [] ]

-- A range whose bytes all are UTF8-tail, and one of whose bytes none is.
abbrev InTail : Range → Type 0
InTail r = (b : ℕ) → within r b ≡ true → within tail b ≡ true

abbrev OffTail : Range → Type 0
OffTail r = (b : ℕ) → within r b ≡ true → within tail b ≡ false

in_tail : (low high : ℕ) → 0x80 ≤ low → high ≤ 0xBF → InTail (range low high)
unfolding within tail
in_tail low high l h b e =
    let (p, q) = both (leb low b) (leb b high) e in
    let p' = leb-true low b p in
    let q' = leb-true b high q in
    rw (le-leb 0x80 b (omega arith), le-leb b 0xBF (omega arith))

below_tail : (low high : ℕ) → high < 0x80 → OffTail (range low high)
unfolding within tail
below_tail low high h b e =
    let q = leb-true b high (both (leb low b) (leb b high) e).1 in
    rw (lt-leb 0x80 b (omega arith))

above_tail : (low high : ℕ) → 0xBF < low → OffTail (range low high)
unfolding within tail
above_tail low high h b e =
    let p = leb-true low b (both (leb low b) (leb b high) e).0 in
    rw (lt-leb b 0xBF (omega arith)) (and_false (leb 0x80 b)) where
      and_false : (a : Bool) → (a && false) ≡ false
      and_false true = refl
      and_false false = refl

-- An alternative of the grammar whose first byte is not UTF8-tail and all others are. Each one is such.
abbrev Marked : Sequence → Type 0
Marked (sequence a m r) = OffTail a × All InTail r

all_marked : All Marked sequences
unfolding sequences tail
all_marked =
    let t = in_tail 0x80 0xBF (omega arith) (omega arith) in (
      (below_tail 0x00 0x7F (omega arith), tt),
      (
        (above_tail 0xC2 0xDF (omega arith), (t, tt)),
        (
          (above_tail 0xE0 0xE0 (omega arith), (in_tail 0xA0 0xBF (omega arith) (omega arith), (t, tt))),
          (
            (above_tail 0xE1 0xEC (omega arith), (t, (t, tt))),
            (
              (above_tail 0xED 0xED (omega arith), (in_tail 0x80 0x9F (omega arith) (omega arith), (t, tt))),
              (
                (above_tail 0xEE 0xEF (omega arith), (t, (t, tt))),
                (
                  (above_tail 0xF0 0xF0 (omega arith), (in_tail 0x90 0xBF (omega arith) (omega arith), (t, (t, tt)))),
                  (
                    (above_tail 0xF1 0xF3 (omega arith), (t, (t, (t, tt)))),
                    (
                      (above_tail 0xF4 0xF4 (omega arith), (in_tail 0x80 0x8F (omega arith) (omega arith), (t, (t, tt)))),
                      tt,
                    ),
                  ),
                ),
              ),
            ),
          ),
        ),
      ),
    )

started_marked : (b : ℕ) (ss : List Sequence) {a : Range} {m : ℕ} {r : List Range} → All Marked ss → started_by b ss ≡ some (sequence a m r)
    → (within tail b ≡ false) × All InTail r
unfolding started_by
started_marked b [] all e = none-some e
started_marked b (sequence a' m' r' ∷ ss) {a} {m} {r} all e =
    chosen (within a' b) e
    (λ w q. let same : r' ≡ r = cc in (all.0.0 b w, subst (All InTail) same all.0.1))
    (λ w q. started_marked b ss all.1 q)

-- The first character of bytes that decode: its first byte is not UTF8-tail, all others are, and what is behind them decodes by itself.
record FirstOf (bytes : List ℕ) (cs : List Char) (taken : List ℕ) : Type 0 where
  others : List ℕ
  value : ℕ
  rest : List ℕ
  rest_chars : List Char
  are : cs ≡ char (taken ++ others) value ∷ rest_chars
  apart : bytes ≡ others ++ rest
  decodes : decoded rest ≡ some rest_chars
  tails : All (λ b. within tail b ≡ true) others

resumed_first : (bs taken : List ℕ) (value : ℕ) (rs : List Range) {cs : List Char} → All InTail rs → resumed taken value rs bs ≡ some cs
    → FirstOf bs cs taken
unfolding resumed
resumed_first [] taken value (r ∷ rs) all e = none-some e
resumed_first (b ∷ bs) taken value (r ∷ rs) {cs} all e =
    chosen (within r b) e
    (λ w q.
    let f = resumed_first bs (taken ++ (b ∷ [])) (value * 0x40 + (b - 0x80)) rs all.1 q in
    record {
      others = b ∷ f.others;
      value = f.value;
      rest = f.rest;
      rest_chars = f.rest_chars;
      are = f.are ∙ ap (λ l. char l f.value ∷ f.rest_chars) (append_assoc taken (b ∷ []) f.others);
      apart = ap (λ l. b ∷ l) f.apart;
      decodes = f.decodes;
      tails = (all.0 b w, f.tails);
    })
    (λ w q. none-some q)
resumed_first bs taken value [] {cs} all e =
    mapped (decoded bs) (sym (resumed_done taken value bs) ∙ e) λ ks e₁ e₂.
    record {
      others = [];
      value = value;
      rest = bs;
      rest_chars = ks;
      are = sym e₂ ∙ ap (λ l. char l value ∷ ks) (sym (append-nil taken));
      apart = refl;
      decodes = e₁;
      tails = tt;
    }

-- Bytes that decode do not begin in the midst of a character.
begins_off : (bytes : List ℕ) {cs : List Char} → decoded bytes ≡ some cs → within tail (get_or bytes 0 0) ≡ false
unfolding within tail
begins_off [] e = refl
begins_off (b ∷ bs) e = decoded_of b bs e λ a m r s q. (started_marked b sequences all_marked s).0

tail_at : (others rest : List ℕ) (k : ℕ) → All (λ b. within tail b ≡ true) others → k < length others
    → within tail (get_or (others ++ rest) k 0) ≡ true
tail_at [] rest k all h = absurd (omega arith)
tail_at (b ∷ bs) rest zero all h = all.0
tail_at (b ∷ bs) rest (suc k) all h = tail_at bs rest k all.1 (omega arith)

-- Where the first character does not fit, nothing is left.
cut_before : (lead : ℕ) (others rest : List ℕ) (k : ℕ) → All (λ b. within tail b ≡ true) others → k ≤ length others
    → cut k (lead ∷ (others ++ rest)) ≡ []
unfolding cut goes_on
cut_before lead others rest zero all h = refl
cut_before lead others rest (suc k) all h =
    cut_inside k (lead ∷ (others ++ rest)) (tail_at others rest k all (omega arith)) ∙ cut_before lead others rest k all (omega arith)

-- Where it fits, it is left, and what is behind it is cut by itself.
cut_past : (lead : ℕ) (others rest : List ℕ) (j : ℕ) → within tail (get_or rest 0 0) ≡ false
    → cut (suc (length others + j)) (lead ∷ (others ++ rest)) ≡ lead ∷ (others ++ cut j rest)
unfolding cut goes_on
cut_past lead others rest zero off =
    cut_here (length others + zero) (lead ∷ (others ++ rest)) (ap (within tail) (get_or-append-add others rest zero 0) ∙ off)
    ∙ ap (λ l. lead ∷ l) (take-append-add others rest zero)
cut_past lead others rest (suc j) off =
    case (goes_on (suc j) rest)
    (λ e.
    cut_inside (length others + suc j) (lead ∷ (others ++ rest)) (ap (within tail) (get_or-append-add others rest (suc j) 0) ∙ e)
    ∙ ap (λ n. cut n (lead ∷ (others ++ rest))) (more (length others) j)
    ∙ cut_past lead others rest j off
    ∙ ap (λ l. lead ∷ (others ++ l)) (sym (cut_inside j rest e)))
    (λ e.
    cut_here (length others + suc j) (lead ∷ (others ++ rest)) (ap (within tail) (get_or-append-add others rest (suc j) 0) ∙ e)
    ∙ ap (λ l. lead ∷ l) (take-append-add others rest (suc j))
    ∙ ap (λ l. lead ∷ (others ++ l)) (sym (cut_here j rest e))) where
      more : (n j : ℕ) → n + suc j ≡ suc (n + j)
      more n j = omega arith

-- The two ways through a character.
whole_fits : (k : ℕ) (bs : List ℕ) (v : ℕ) (cs : List Char) → leb (length bs) k ≡ true
    → wholes k (char bs v ∷ cs) ≡ bs ++ wholes (k - length bs) cs
unfolding wholes
whole_fits k bs v cs e = rw (e, wholes)

whole_stops : (k : ℕ) (bs : List ℕ) (v : ℕ) (cs : List Char) → leb (length bs) k ≡ false → wholes k (char bs v ∷ cs) ≡ []
unfolding wholes
whole_stops k bs v cs e = rw (e, wholes)

first_whole : (k lead : ℕ) (others rest : List ℕ) (v : ℕ) (cs : List Char) → All (λ b. within tail b ≡ true) others
    → within tail (get_or rest 0 0) ≡ false
    → ((j : ℕ) → cut j rest ≡ wholes j cs)
    → cut k (lead ∷ (others ++ rest)) ≡ wholes k (char (lead ∷ others) v ∷ cs)
first_whole k lead others rest v cs tails off later =
    case (leb (length (lead ∷ others)) k)
    (λ e.
    let h = leb-true (length (lead ∷ others)) k e in
    let j = k - length (lead ∷ others) in
    let same : k ≡ suc (length others + j) = omega arith in
    ap (λ n. cut n (lead ∷ (others ++ rest))) same
    ∙ cut_past lead others rest j off
    ∙ ap (λ l. lead ∷ (others ++ l)) (later j)
    ∙ sym (whole_fits k (lead ∷ others) v cs e))
    (λ e.
    let h = leb-false (length (lead ∷ others)) k e in
    cut_before lead others rest k tails (omega arith) ∙ sym (whole_stops k (lead ∷ others) v cs e))

cut_nothing : (k : ℕ) → cut k [] ≡ []
unfolding cut goes_on within tail
cut_nothing zero = refl
cut_nothing (suc k) = cut_here k [] refl

-- "Cut after the last whole character that fits": of a name that decodes, the characters from the first on for as long as they fit.
pub cut-wholes : (cs : List Char) (k : ℕ) (name : Name) → decoded name ≡ some cs → cut k name ≡ wholes k cs
unfolding wholes decoded
cut-wholes [] k [] e = cut_nothing k
cut-wholes [] k (b ∷ bs) e =
    decoded_of b bs e λ a m r s q.
    let f = resumed_first bs (b ∷ []) (b - m) r (started_marked b sequences all_marked s).1 q in
    absurd (nil≢cons f.are)
cut-wholes (c ∷ cs) k [] e = absurd (nil≢cons (some_equal e))
cut-wholes (c ∷ cs) k (b ∷ bs) e =
    decoded_of b bs e λ a m r s q.
    let f = resumed_first bs (b ∷ []) (b - m) r (started_marked b sequences all_marked s).1 q in
    let same : cs ≡ f.rest_chars = tail-eq_of_cons-eq f.are in
    ap (λ l. cut k (b ∷ l)) f.apart
    ∙ first_whole k b f.others f.rest f.value f.rest_chars f.tails (begins_off f.rest f.decodes)
    (λ j. cut-wholes cs j f.rest (f.decodes ∙ ap some (sym same)) ∙ ap (wholes j) same)
    ∙ sym (ap (wholes k) f.are)

-- The most characters from the first on that fit into so many bytes, with their bytes.
pub record Longest (k : ℕ) (cs : List Char) (bytes : List ℕ) : Type 0 where
  pub front : List Char
  pub behind : List Char
  pub parts : cs ≡ front ++ behind
  pub theirs : bytes ≡ bytes_of front
  pub fits : length bytes ≤ k
  pub no_more : (bs : List ℕ) (v : ℕ) (more : List Char) → behind ≡ char bs v ∷ more → k < length (bytes ++ bs)

-- These are what is left.
pub wholes_longest : (cs : List Char) (k : ℕ) → Longest k cs (wholes k cs)
unfolding wholes
wholes_longest [] k =
    record { front = []; behind = []; parts = refl; theirs = refl; fits = omega arith; no_more = λ bs v more e. absurd (nil≢cons e) }
wholes_longest (char bs v ∷ cs) k =
    case (leb (length bs) k)
    (λ e.
    let h = leb-true (length bs) k e in
    let l = wholes_longest cs (k - length bs) in
    let w = wholes (k - length bs) cs in
    subst (Longest k (char bs v ∷ cs)) (sym (whole_fits k bs v cs e))
    record {
      front = char bs v ∷ l.front;
      behind = l.behind;
      parts = ap (λ z. char bs v ∷ z) l.parts;
      theirs = ap (λ z. bs ++ z) l.theirs;
      fits = let f = l.fits in omega (arith, length-append bs w);
      no_more = λ ns u more p.
          let f = l.no_more ns u more p in
          omega (arith, length-append bs w, length-append (bs ++ w) ns, length-append w ns);
    })
    (λ e.
    let h = leb-false (length bs) k e in
    subst (Longest k (char bs v ∷ cs)) (sym (whole_stops k bs v cs e))
    record {
      front = [];
      behind = char bs v ∷ cs;
      parts = refl;
      theirs = refl;
      fits = omega arith;
      no_more = λ ns u more p. let same : bs ≡ ns = cc in subst (λ z. k < length z) same h;
    })

-- A name of whole characters, and what a cut leaves of it.
pub record WholeName (k : ℕ) (name : Name) : Type 0 where
  pub chars : List Char
  pub decodes : decoded name ≡ some chars
  pub longest : Longest k chars (cut k name)

-- So a name that decodes is cut behind a whole character, and no further one would fit.
pub cut_whole : (k : ℕ) (name : Name) {cs : List Char} → decoded name ≡ some cs → WholeName k name
cut_whole k name {cs} e = record { chars = cs; decodes = e; longest = subst (Longest k cs) (sym (cut-wholes cs k name e)) (wholes_longest cs k) }
