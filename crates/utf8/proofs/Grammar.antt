-- The first character by the class of its first byte is the first character by the grammar of RFC 3629.
-- Assumes nothing.
use mathlib.Core.Path.{◌≡◌, ◌∙◌, refl}
use mathlib.Core.Bool.{Bool, true, false}
use mathlib.Core.List.{List, [], ◌∷◌}
use mathlib.Core.Option.{Option, none, some}
use Prim.Native.Nat.{ℕ, ◌+◌, ◌*◌, ◌-◌, ◌/◌, ◌%◌, ◌≤◌, ◌<◌}
use native.Mathlib.Omega.{arith}
use borrow.Author.Tests.{lt-ltb, le-ltb, lt-leb, le-leb, ltb-true, ltb-false, ne_eqb}
use lib.Dec.{T, eqb, ltb, eqb→eq, ltb→lt}
use lib.ListN.{length, get_or, drop}
use lib.Seq.{get_or-drop}
use Rattle.horn.specs.Utf8.{Range, range, within, Sequence, sequence, sequences, started_by}
use Rattle.horn.specs.Tokens.{kind}
use Rattle.horn.proofs.Equality.{case}
use Rattle.utf8.specs.Classes.{kind_number, never, leads_two, leads_e0, leads_ed, leads_f0, leads_f4, class_of, low_of, high_of}
use Rattle.utf8.specs.Characters.{First, broken, found, one_more, rest, first, in_range, longer_by}
use Rattle.utf8.proofs.Table.{and_left, and_right, ruled, ruled_at}

-- What the class of a byte says of the sequence that it begins.
pub data Known (b c : ℕ) (o : Option Sequence) : Type 0 where
  nothing : c ≡ never → o ≡ none → Known b c o
  single : (r : Range) → c ≡ kind_number (kind b) → c < never → o ≡ some (sequence r 0 []) → Known b c o
  double : (r : Range) (mark : ℕ) → c ≡ leads_two → b - mark ≡ b % 32
      → o ≡ some (sequence r mark (range 0x80 0xBF ∷ [])) → Known b c o
  triple : (r : Range) (mark : ℕ) → leads_two < c → c < leads_f0 → b - mark ≡ b % 16
      → o ≡ some (sequence r mark (range (low_of c) (high_of c) ∷ range 0x80 0xBF ∷ [])) → Known b c o
  quadruple : (r : Range) (mark : ℕ) → leads_ed < c → b - mark ≡ b % 8
      → o ≡ some (sequence r mark (range (low_of c) (high_of c) ∷ range 0x80 0xBF ∷ range 0x80 0xBF ∷ [])) → Known b c o

known : (b c : ℕ) (o : Option Sequence) → T (ruled b c o) → Known b c o
unfolding ruled
known b c none t = nothing (eqb→eq c never t) refl
known b c (some (sequence r m [])) t =
    let e = eqb→eq m 0 (search (and_left, and_right) depth 9) in
    single r (eqb→eq c (kind_number (kind b)) (search (and_left, and_right) depth 9)) (ltb→lt c never (search (and_left, and_right) depth 9)) (cc)
known b c (some (sequence r m (range lo hi ∷ []))) t =
    let e = eqb→eq lo 0x80 (search (and_left, and_right) depth 9) in
    let f = eqb→eq hi 0xBF (search (and_left, and_right) depth 9) in
    double r m (eqb→eq c leads_two (search (and_left, and_right) depth 9)) (eqb→eq (b - m) (b % 32) (search (and_left, and_right) depth 9)) (cc)
known b c (some (sequence r m (range lo hi ∷ range lo₂ hi₂ ∷ []))) t =
    let e = eqb→eq lo (low_of c) (search (and_left, and_right) depth 9) in
    let f = eqb→eq hi (high_of c) (search (and_left, and_right) depth 9) in
    let g = eqb→eq lo₂ 0x80 (search (and_left, and_right) depth 9) in
    let h = eqb→eq hi₂ 0xBF (search (and_left, and_right) depth 9) in
    triple r m (ltb→lt leads_two c (search (and_left, and_right) depth 9)) (ltb→lt c leads_f0 (search (and_left, and_right) depth 9))
    (eqb→eq (b - m) (b % 16) (search (and_left, and_right) depth 9)) (cc)
known b c (some (sequence r m (range lo hi ∷ range lo₂ hi₂ ∷ range lo₃ hi₃ ∷ []))) t =
    let e = eqb→eq lo (low_of c) (search (and_left, and_right) depth 9) in
    let f = eqb→eq hi (high_of c) (search (and_left, and_right) depth 9) in
    let g = eqb→eq lo₂ 0x80 (search (and_left, and_right) depth 9) in
    let h = eqb→eq hi₂ 0xBF (search (and_left, and_right) depth 9) in
    let i = eqb→eq lo₃ 0x80 (search (and_left, and_right) depth 9) in
    let j = eqb→eq hi₃ 0xBF (search (and_left, and_right) depth 9) in
    quadruple r m (ltb→lt leads_ed c (search (and_left, and_right) depth 9))
    (eqb→eq (b - m) (b % 8) (search (and_left, and_right) depth 9)) (cc)
known b c (some (sequence r m (range lo hi ∷ range lo₂ hi₂ ∷ range lo₃ hi₃ ∷ r₄ ∷ rs))) t = absurd t

pub class_known : (b : ℕ) → b < 256 → Known b (class_of b) (started_by b sequences)
class_known b h = known b (class_of b) (started_by b sequences) (ruled_at b h)

-- A byte in its range, or none.
module _ (v lo hi : ℕ) (rs : List Range) where
  pub rest_at : (bs : List ℕ) → 0x80 ≤ lo → hi ≤ 0xBF
      → rest v (range lo hi ∷ rs) bs
      ≡ in_range lo hi (get_or bs 0 0) (one_more (rest (v * 0x40 + get_or bs 0 0 % 64) rs (drop 1 bs)))
  unfolding rest in_range within
  rest_at [] l h = rw (lt-ltb 0 lo (omega arith), in_range)
  rest_at (b ∷ bs) l h =
      case (ltb b lo)
      (λ t. rw (t, lt-leb lo b (ltb-true b lo t), in_range, rest, within))
      (λ f. case (ltb hi b)
      (λ t. rw (f, t, le-leb lo b (ltb-false b lo f), lt-leb b hi (ltb-true hi b t), in_range, rest, within))
      (λ g.
      let p : lo ≤ b = ltb-false b lo f in
      let q : b ≤ hi = ltb-false hi b g in
      let e : b - 0x80 ≡ b % 64 = omega arith in
      rw (f, g, le-leb lo b p, le-leb b hi q, e, in_range, rest, within)))

one_more_in : (lo hi b : ℕ) (f : First) → one_more (in_range lo hi b f) ≡ in_range lo hi b (one_more f)
unfolding in_range one_more
one_more_in lo hi b f = push (ltb b lo) (ltb hi b) where
  push : (p q : Bool) → one_more (elim p [ true ↦ broken | false ↦ elim q [ true ↦ broken | false ↦ f ] ])
      ≡ elim p [ true ↦ broken | false ↦ elim q [ true ↦ broken | false ↦ one_more f ] ]
  push true q = refl
  push false true = refl
  push false false = refl

low_least : (c : ℕ) → 0x80 ≤ low_of c
unfolding low_of
low_least c = least (eqb c leads_e0) (eqb c leads_f0) where
  least : (p q : Bool) → 0x80 ≤ elim p [ true ↦ 0xA0 | false ↦ elim q [ true ↦ 0x90 | false ↦ 0x80 ] ]
  least true q = omega arith
  least false true = omega arith
  least false false = omega arith

high_greatest : (c : ℕ) → high_of c ≤ 0xBF
unfolding high_of
high_greatest c = greatest (eqb c leads_ed) (eqb c leads_f4) where
  greatest : (p q : Bool) → elim p [ true ↦ 0x9F | false ↦ elim q [ true ↦ 0x8F | false ↦ 0xBF ] ] ≤ 0xBF
  greatest true q = omega arith
  greatest false true = omega arith
  greatest false false = omega arith

-- One, two and three bytes after the first.
module _ (v lo hi : ℕ) (bs : List ℕ) (l : 0x80 ≤ lo) (h : hi ≤ 0xBF) where
  with_one : one_more (rest v (range lo hi ∷ []) bs) ≡ in_range lo hi (get_or bs 0 0) (found 2 (v * 64 + get_or bs 0 0 % 64))
  unfolding rest one_more
  with_one = rw (rest_at v lo hi [] bs l h, one_more_in lo hi (get_or bs 0 0))

module _ (v lo hi : ℕ) (bs : List ℕ) (l : 0x80 ≤ lo) (h : hi ≤ 0xBF) where
  with_two : one_more (rest v (range lo hi ∷ range 0x80 0xBF ∷ []) bs)
      ≡ in_range lo hi (get_or bs 0 0) (in_range 0x80 0xBF (get_or bs 1 0) (found 3 ((v * 64 + get_or bs 0 0 % 64) * 64 + get_or bs 1 0 % 64)))
  unfolding one_more
  with_two =
      rw (
        rest_at v lo hi (range 0x80 0xBF ∷ []) bs l h,
        one_more_in lo hi (get_or bs 0 0),
        with_one (v * 64 + get_or bs 0 0 % 64) 0x80 0xBF (drop 1 bs) (omega arith) (omega arith),
        one_more_in 0x80 0xBF,
        get_or-drop 1 bs 0 0,
      )

module _ (v lo hi : ℕ) (bs : List ℕ) (l : 0x80 ≤ lo) (h : hi ≤ 0xBF) where
  with_three : one_more (rest v (range lo hi ∷ range 0x80 0xBF ∷ range 0x80 0xBF ∷ []) bs)
      ≡ in_range lo hi (get_or bs 0 0)
      (in_range 0x80 0xBF (get_or bs 1 0)
      (in_range 0x80 0xBF (get_or bs 2 0) (found 4 (((v * 64 + get_or bs 0 0 % 64) * 64 + get_or bs 1 0 % 64) * 64 + get_or bs 2 0 % 64))))
  unfolding one_more
  with_three =
      rw (
        rest_at v lo hi (range 0x80 0xBF ∷ range 0x80 0xBF ∷ []) bs l h,
        one_more_in lo hi (get_or bs 0 0),
        with_two (v * 64 + get_or bs 0 0 % 64) 0x80 0xBF (drop 1 bs) (omega arith) (omega arith),
        one_more_in 0x80 0xBF,
        one_more_in 0x80 0xBF (get_or (drop 1 bs) 1 0),
        get_or-drop 1 bs 0 0,
        get_or-drop 1 bs 1 0,
      )

-- The first character from what is known of its first byte.
module _ (b c : ℕ) (bs : List ℕ) where
  one_by : Known b c (started_by b sequences) → c < never → (first (b ∷ bs) ≡ found 1 b) × (c ≡ kind_number (kind b))
  unfolding first rest one_more
  one_by (nothing e o) h = absurd (omega arith)
  one_by (single r k l o) h =
      let e : b - 0 ≡ b = omega arith in
      (rw (o, first, e), k)
  one_by (double r m e v o) h = absurd (omega arith)
  one_by (triple r m l u v o) h = absurd (omega arith)
  one_by (quadruple r m l v o) h = absurd (omega arith)

  none_by : Known b c (started_by b sequences) → c ≡ never → first (b ∷ bs) ≡ broken
  unfolding first
  none_by (nothing e o) h = rw (o, first)
  none_by (single r k l o) h = absurd (omega arith)
  none_by (double r m e v o) h = absurd (omega arith)
  none_by (triple r m l u v o) h = absurd (omega arith)
  none_by (quadruple r m l v o) h = absurd (omega arith)

  longer_by_lem : Known b c (started_by b sequences) → never < c → first (b ∷ bs) ≡ longer_by c b (b ∷ bs)
  unfolding first longer_by low_of high_of
  longer_by_lem (nothing e o) h = absurd (omega arith)
  longer_by_lem (single r k l o) h = absurd (omega arith)
  longer_by_lem (double r m e v o) h = rw (o, first, e) (with_one (b - m) 0x80 0xBF bs (omega arith) (omega arith) ∙ rw (v, longer_by))
  longer_by_lem (triple r m l u v o) h =
      let n : eqb c leads_two ≡ false = ne_eqb c leads_two (λ e. omega arith) in
      rw (o, first) (with_two (b - m) (low_of c) (high_of c) bs (low_least c) (high_greatest c) ∙ rw (v, longer_by, n, lt-ltb c leads_f0 u))
  longer_by_lem (quadruple r m l v o) h =
      let n : eqb c leads_two ≡ false = ne_eqb c leads_two (λ e. omega arith) in
      rw (o, first) (with_three (b - m) (low_of c) (high_of c) bs (low_least c) (high_greatest c) ∙ rw (v, longer_by, n, le-ltb c leads_f0 l))

module _ (bs : List ℕ) (h : 0 < length bs) (u : get_or bs 0 0 < 256) where
  pub first_one : class_of (get_or bs 0 0) < never → first bs ≡ found 1 (get_or bs 0 0)
  first_one = one bs h u where
    one : (bs : List ℕ) → 0 < length bs → get_or bs 0 0 < 256 → class_of (get_or bs 0 0) < never → first bs ≡ found 1 (get_or bs 0 0)
    one [] h u l = absurd (omega arith)
    one (b ∷ bs) h u l = (one_by b (class_of b) bs (class_known b u) l).0

  pub first-none : class_of (get_or bs 0 0) ≡ never → first bs ≡ broken
  first-none = none' bs h u where
    none' : (bs : List ℕ) → 0 < length bs → get_or bs 0 0 < 256 → class_of (get_or bs 0 0) ≡ never → first bs ≡ broken
    none' [] h u l = absurd (omega arith)
    none' (b ∷ bs) h u l = none_by b (class_of b) bs (class_known b u) l

  pub first_longer : never < class_of (get_or bs 0 0) → first bs ≡ longer_by (class_of (get_or bs 0 0)) (get_or bs 0 0) bs
  first_longer = longer bs h u where
    longer : (bs : List ℕ) → 0 < length bs → get_or bs 0 0 < 256 → never < class_of (get_or bs 0 0)
        → first bs ≡ longer_by (class_of (get_or bs 0 0)) (get_or bs 0 0) bs
    longer [] h u l = absurd (omega arith)
    longer (b ∷ bs) h u l = longer_by_lem b (class_of b) bs (class_known b u) l

-- A class below `never` is the number of the character's kind.
pub kind_one : (b : ℕ) → b < 256 → class_of b < never → class_of b ≡ kind_number (kind b)
kind_one b u l = (one_by b (class_of b) [] (class_known b u) l).1

pub empty : (bs : List ℕ) → length bs ≡ 0 → bs ≡ []
empty [] e = refl
empty (b ∷ bs) e = absurd (omega arith)

pub lt_of_le_of_ne : {n m : ℕ} → n ≤ m → (m ≡ n → ⊥) → n < m
lt_of_le_of_ne h k = omega arith

-- A byte below its range, above it, and in it.
pub below_range : {lo b : ℕ} → b < lo → (hi : ℕ) (f : First) → in_range lo hi b f ≡ broken
unfolding in_range
below_range h hi f = rw (lt-ltb _ _ h, in_range)

pub above_range : {lo hi b : ℕ} → lo ≤ b → hi < b → (f : First) → in_range lo hi b f ≡ broken
unfolding in_range
above_range {lo} {hi} {b} l h f = rw (le-ltb b lo l, lt-ltb hi b h, in_range)

pub in_range_lem : {lo hi b : ℕ} → lo ≤ b → b ≤ hi → (f : First) → in_range lo hi b f ≡ f
unfolding in_range
in_range_lem {lo} {hi} {b} l h f = rw (le-ltb b lo l, le-ltb hi b h, in_range)

-- A later byte is one of 80 to BF.
pub later : (b : ℕ) → b / 64 ≡ 2 → (f : First) → in_range 0x80 0xBF b f ≡ f
later b e f = in_range_lem {lo = 0x80} {hi = 0xBF} {b = b} (omega arith) (omega arith) f

pub no_later : (b : ℕ) → (b / 64 ≡ 2 → ⊥) → (f : First) → in_range 0x80 0xBF b f ≡ broken
no_later b d f =
    case (ltb b 0x80)
    (λ t. below_range (ltb-true b 0x80 t) 0xBF f)
    (λ n. case (ltb 0xBF b)
    (λ t. above_range (ltb-false b 0x80 n) (ltb-true 0xBF b t) f)
    (λ m.
    let p = ltb-false b 0x80 n in
    let q = ltb-false 0xBF b m in
    absurd (d (omega arith))))

-- A character of two bytes.
pub two_bytes : (c b : ℕ) (bs : List ℕ) → c ≡ leads_two
    → longer_by c b bs ≡ in_range 0x80 0xBF (get_or bs 1 0) (found 2 (b % 32 * 64 + get_or bs 1 0 % 64))
unfolding longer_by low_of high_of
two_bytes c b bs e = rw e
