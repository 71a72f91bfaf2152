-- White space in 16 bits: by RFC 3629's grammar a character of four bytes lies above FFFF, and every other fits 16 bits. So what is
-- answered of a character, one of four bytes before it is put together, is what the definition says of its value. Assumes nothing.
use mathlib.Core.Path.{◌≡◌, refl, ap, sym, subst}
use mathlib.Core.Bool.{Bool, true, false}
use mathlib.Core.List.{List, [], ◌∷◌}
use mathlib.Core.Option.{some}
use Prim.Native.Nat.{ℕ, suc, ◌+◌, ◌*◌, ◌-◌, ◌≤◌, ◌<◌}
use native.Mathlib.Nat.{le_refl}
use native.Mathlib.Omega.{arith}
use borrow.Author.Tests.{ne_eqb, eqb-true, eqb-false}
use lib.Dec.{T, eqb, ltb, ltb→lt}
use lib.ListN.{length}
use Rattle.horn.specs.Utf8.{Range, range, within, Sequence, sequence, sequences, started_by, tail}
use Rattle.horn.specs.Tokens.{white, opens, closes, comments, ordinary, kind}
use Rattle.horn.proofs.Equality.{case}
use Rattle.horn.proofs.Inversion.{case_option}
use Rattle.utf8.specs.Classes.{is_white, kind_number}
use Rattle.utf8.specs.Characters.{First, broken, found, one_more, rest, first, value, kind_at}
use Rattle.utf8.proofs.Alternatives.{starts, all_pass, started}
use Rattle.utf8.proofs.Whiteness.{bounds, kind_above}

-- The lower end and the upper end of a range.
lower : Range → ℕ
lower (range low high) = low

upper : Range → ℕ
upper (range low high) = high

-- The value that a character whose value so far is given reaches if each of its bytes to come is that end of its range.
reached : (Range → ℕ) → ℕ → List Range → ℕ
reached end v [] = v
reached end v (r ∷ rs) = reached end (v * 0x40 + (end r - 0x80)) rs

reached_up : (end : Range → ℕ) (rs : List Range) {v w : ℕ} → v ≤ w → reached end v rs ≤ reached end w rs
unfolding reached
reached_up end [] h = h
reached_up end (r ∷ rs) h = reached_up end rs (omega arith)

-- A character of so many bytes whose value lies between two.
Lies : ℕ → ℕ → ℕ → First → Type 0
Lies n low high broken = Unit {0}
Lies n low high (found m v) = (m ≡ n) × (low ≤ v) × (v ≤ high)

more : (n low high : ℕ) (f : First) → Lies n low high f → Lies (suc n) low high (one_more f)
unfolding Lies one_more
more n low high broken w = tt
more n low high (found m v) w = (ap suc w.0, w.1, w.2)

wider : (n : ℕ) {low low' high high' : ℕ} (f : First) → low' ≤ low → high ≤ high' → Lies n low high f → Lies n low' high' f
unfolding Lies
wider n broken l h w = tt
wider n (found m v) l h w = (w.0, omega (arith, w.1), omega (arith, w.2))

rest_lies : (v : ℕ) (rs : List Range) (bs : List ℕ) → Lies (length rs) (reached lower v rs) (reached upper v rs) (rest v rs bs)
unfolding Lies rest reached lower upper
rest_lies v [] bs = (refl, le_refl v, le_refl v)
rest_lies v (r ∷ rs) [] = tt
rest_lies v (range low high ∷ rs) (b ∷ bs) =
    case (within (range low high) b)
    (λ t.
    let i = bounds low high b t in
    let u = v * 0x40 + (b - 0x80) in
    rw (t, rest)
    (more (length rs) _ _ (rest u rs bs)
    (wider (length rs) (rest u rs bs) (reached_up lower rs (omega (arith, i.0))) (reached_up upper rs (omega (arith, i.1))) (rest_lies u rs bs))))
    (λ f. rw (f, rest) tt)

-- What 16 bits mean for one alternative of the grammar, as a test: with four bytes all its values lie above FFFF, else none does.
sized : Sequence → Bool
sized (sequence (range low high) mark rs) =
    elim (eqb (length rs) 3) [ true ↦ ltb 0xFFFF (reached lower (low - mark) rs) | false ↦ ltb (reached upper (high - mark) rs) 0x10000 ]

-- Said once, over the whole grammar.
all_sized : T (all_pass sized sequences)
unfolding all_pass sized sequences tail reached lower upper
all_sized = tt

-- A character of four bytes lies above FFFF, and no other does.
Sized : First → Type 0
Sized broken = Unit {0}
Sized (found n v) = (n ≡ 4 → 0xFFFF < v) × ((n ≡ 4 → ⊥) → v < 0x10000)

by_length : (n low high : ℕ) (x : Bool) (f : First) → x ≡ eqb n 3 → T (elim x [ true ↦ ltb 0xFFFF low | false ↦ ltb high 0x10000 ]) → Lies n low high f
    → Sized (one_more f)
unfolding Lies one_more Sized
by_length n low high x broken e t w = tt
by_length n low high true (found m v) e t w =
    let l = ltb→lt 0xFFFF low t in
    let k = eqb-true n 3 (sym e) in
    (λ z. omega (arith, w.1), λ d. absurd (d (omega (arith, w.0))))
by_length n low high false (found m v) e t w =
    let l = ltb→lt high 0x10000 t in
    (λ z. absurd (eqb-false n 3 (sym e) (omega (arith, w.0))), λ d. omega (arith, w.2))

sized_first : (bs : List ℕ) → Sized (first bs)
unfolding first Sized sized starts
sized_first [] = tt
sized_first (b ∷ bs) =
    case_option (started_by b sequences) (λ o. rw (o, first) tt) (λ s o. by s o (started sized b sequences s all_sized o)) where
      by : (s : Sequence) → started_by b sequences ≡ some s → T (sized s) × (starts s b ≡ true) → Sized (first (b ∷ bs))
      by (sequence (range low high) mark rs) o g =
          let i = bounds low high b g.1 in
          rw (o, first)
          (by_length (length rs) (reached lower (low - mark) rs) (reached upper (high - mark) rs) (eqb (length rs) 3) (rest (b - mark) rs bs) refl
          g.0
          (wider (length rs) (rest (b - mark) rs bs) (reached_up lower rs (omega (arith, i.0))) (reached_up upper rs (omega (arith, i.1)))
          (rest_lies (b - mark) rs bs)))

white_number : (v : ℕ) → eqb (kind_number (kind v)) is_white ≡ white v
unfolding kind kind_number
white_number v =
    case (white v)
    (λ t. rw (t, kind))
    (λ f. rw (f, kind) (others (eqb v 0x28) (eqb v 0x29) (eqb v 0x3B))) where
      others : (a b c : Bool)
          → eqb (kind_number (elim a [ true ↦ opens | false ↦ elim b [ true ↦ closes | false ↦ elim c [ true ↦ comments | false ↦ ordinary ] ] ])) is_white
          ≡ false
      others true b c = refl
      others false true c = refl
      others false false true = refl
      others false false false = refl

-- Every character, as RFC 3629's grammar finds it at the beginning of some bytes: n bytes and the value v.
module _ (bs : List ℕ) {n v : ℕ} (e : first bs ≡ found n v) where
  told : Sized (found n v)
  told = subst Sized e (sized_first bs)

  pub four_above : n ≡ 4 → 0xFFFF < v
  unfolding Sized
  four_above = told.0

  -- But for four bytes, the value that the white-space test is asked is the character's.
  pub short_fits : (n ≡ 4 → ⊥) → (v < 0x10000) × (value (first bs) ≡ v)
  unfolding Sized value
  short_fits d = (told.1 d, rw (e, ne_eqb n 4 d, value))

  -- Its kind is the definition's.
  pub kind_at_lem : kind_at (first bs) ≡ kind_number (kind v)
  unfolding kind_at kind_number
  kind_at_lem =
      case (eqb n 4)
      (λ t. let a = four_above (eqb-true n 4 t) in rw (e, t, kind_at, kind_above v (omega arith)))
      (λ f. rw (e, f, kind_at))

  -- It is said to be white space exactly where 01's list has it: this is the law that L3 asks for.
  pub white_at : eqb (kind_at (first bs)) is_white ≡ white v
  white_at = rw kind_at_lem (white_number v)
