-- The table's rule, proved at all of its entries by tests that antt computes, one entry after the other.
-- Assumes nothing.
use mathlib.Core.Path.{◌≡◌, subst, sym}
use mathlib.Core.Bool.{Bool, true, false, ◌&&◌}
use mathlib.Core.List.{[], ◌∷◌}
use mathlib.Core.Option.{Option, none, some}
use Prim.Native.Nat.{ℕ, zero, suc, ◌*◌, ◌-◌, ◌/◌, ◌%◌, ◌^◌, ◌<◌}
use native.Mathlib.Nat.{not-suc-le-zero}
use native.Mathlib.Omega.{arith}
use lib.Dec.{T, eqb, ltb, eqb→eq, ltb→lt}
use lib.ListN.{get_or}
use Rattle.horn.specs.Utf8.{range, within, Sequence, sequence, sequences, started_by, tail}
use Rattle.horn.specs.Tokens.{kind, white, white_ranges, in_some}
use Rattle.utf8.specs.Classes.{kind_number, never, leads_two, leads_ed, leads_f0, lead_number, class_of, low_of, high_of, rows}

pub and_left : (a b : Bool) → T (a && b) → T a
and_left true b t = tt
and_left false b t = t

pub and_right : (a b : Bool) → T (a && b) → T b
and_right true b t = t
and_right false b t = absurd t

-- The test f passes at each number below n.
unfoldable pub every : (ℕ → Bool) → ℕ → Bool
every f zero = true
every f (suc n) = f n && every f n

pub at : (f : ℕ → Bool) (n : ℕ) → T (every f n) → (k : ℕ) → k < n → T (f k)
unfolding every
at f zero t k h = absurd (not-suc-le-zero h)
at f (suc n) t k h = by (native.Mathlib.Decide.ℕ_discrete k n) (at f n (and_right (f n) (every f n) t) k) where
  by : Dec (k ≡ n) → (k < n → T (f k)) → T (f k)
  by (yes e) below = subst (λ (m : ℕ). T (f m)) (sym e) (and_left (f n) (every f n) t)
  by (no d) below = below (omega arith)

-- The class that the table has for a byte.
unfoldable pub digit : ℕ → ℕ
digit b = get_or rows (b / 16) 0 / 2 ^ (4 * (b % 16)) % 16

right : ℕ → Bool
right b = eqb (digit b) (class_of b)

pub class_at : (b : ℕ) → b < 256 → digit b ≡ class_of b
unfolding right every digit rows class_of started_by sequences within tail kind white white_ranges in_some kind_number lead_number
class_at b h = eqb→eq (digit b) (class_of b) (at right 256 tt b h)

single : ℕ → Bool
single b = ltb (class_of b) never

-- Every byte of ASCII is a character.
pub ascii_class : (b : ℕ) → b < 128 → class_of b < never
unfolding single every class_of started_by sequences within tail kind white white_ranges in_some kind_number lead_number
ascii_class b h = ltb→lt (class_of b) never (at single 128 tt b h)

-- What the class of a byte says of the sequence that it begins, as a test.
unfoldable pub ruled : ℕ → ℕ → Option Sequence → Bool
ruled b c none = eqb c never
ruled b c (some (sequence r m [])) = eqb m 0 && eqb c (kind_number (kind b)) && ltb c never
ruled b c (some (sequence r m (range lo hi ∷ []))) = eqb c leads_two && eqb (b - m) (b % 32) && eqb lo 0x80 && eqb hi 0xBF
ruled b c (some (sequence r m (range lo hi ∷ range lo₂ hi₂ ∷ []))) =
    ltb leads_two c && ltb c leads_f0 && eqb (b - m) (b % 16) && eqb lo (low_of c) && eqb hi (high_of c) && eqb lo₂ 0x80 && eqb hi₂ 0xBF
ruled b c (some (sequence r m (range lo hi ∷ range lo₂ hi₂ ∷ range lo₃ hi₃ ∷ []))) =
    ltb leads_ed c && eqb (b - m) (b % 8) && eqb lo (low_of c) && eqb hi (high_of c) && eqb lo₂ 0x80 && eqb hi₂ 0xBF && eqb lo₃ 0x80
    && eqb hi₃ 0xBF
ruled b c (some (sequence r m (range lo hi ∷ range lo₂ hi₂ ∷ range lo₃ hi₃ ∷ r₄ ∷ rs))) = false

ruled_by : ℕ → Bool
ruled_by b = ruled b (class_of b) (started_by b sequences)

pub ruled_at : (b : ℕ) → b < 256 → T (ruled b (class_of b) (started_by b sequences))
unfolding ruled_by ruled every class_of started_by sequences within tail kind white white_ranges in_some kind_number lead_number low_of high_of
ruled_at b h = at ruled_by 256 tt b h
