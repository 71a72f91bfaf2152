-- One turn of each loop of this crate. Assumes nothing.
use Prim.Native.Nat.{ℕ, zero, suc, ◌+◌, ◌-◌, ◌/◌, ◌%◌, ◌≤◌, ◌<◌, min}
use native.Mathlib.Numerals.{add-one}
use native.Mathlib.Omega.{arith}
use mathlib.Core.Path.{◌≡◌, refl, sym, ap, ap₂, ◌∙◌}
use mathlib.Core.Bool.{true, false}
use mathlib.Core.List.{List, [], ◌∷◌, ◌++◌, append_assoc, append-nil}
use lib.ListN.{length, get_or, set, drop, length-set, length-take, drop_of_length-le}
use lib.Seq.{drop-cons, drop-set-lt, get_or-set_same}
use Rattle.horn.specs.Layout.{plain}
use Rattle.horn.specs.Output.{goes_on, cut}
use Rattle.horn.proofs.Output.{cut_inside, cut_here, plain_one, plain_more, plain_long, plain_short, length-plain_more}
use Rattle.writing.specs.Buffer.{placed}
use Rattle.writing.proofs.Placed.{placed_none, placed-cons, placed_out}

one_less : (n : ℕ) → suc n - 1 ≡ n
one_less n = omega arith

-- One byte more, and the last.
pub bytes_on : (bytes : List ℕ) (p i : ℕ) (out : List ℕ) → i < length bytes
    → placed p (drop i bytes) out ≡ placed (p + 1) (drop (i + 1) bytes) (set out p (get_or bytes i 0))
bytes_on bytes p i out h = rw (drop-cons bytes i 0 h, add-one i, add-one p) (placed-cons p (get_or bytes i 0) (drop (suc i) bytes) out)

pub bytes_end : (bytes : List ℕ) (p i : ℕ) (out : List ℕ) → length bytes ≤ i → placed p (drop i bytes) out ≡ out
bytes_end bytes p i out h = rw (drop_of_length-le bytes h) (placed_none p out)

pub ruleset putting = (bytes_on, bytes_end, placed_out)

-- One byte back, and where a cut is.
pub cut_back : (k : ℕ) (name : List ℕ) → 0 < k → goes_on k name ≡ true → cut k name ≡ cut (k - 1) name
cut_back zero name h e = absurd (omega arith)
cut_back (suc k) name h e = rw (one_less k) (cut_inside k name e)

pub cut-length : (k : ℕ) (name : List ℕ) → 0 < k → goes_on k name ≡ false → length (cut k name) ≡ min k (length name)
cut-length zero name h e = absurd (omega arith)
cut-length (suc k) name h e = ap length (cut_here k name e) ∙ length-take (suc k) name

pub cut_nothing : (k : ℕ) (name : List ℕ) → k ≤ 0 → length (cut k name) ≡ 0
unfolding cut
cut_nothing zero name h = refl
cut_nothing (suc k) name h = absurd (omega arith)

pub ruleset cutting = (cut_back, cut-length, cut_nothing)

-- A text with one byte more at its end.
drop-set : (text : List ℕ) (i b : ℕ) → 0 < i → i ≤ length text → drop (i - 1) (set text (i - 1) b) ≡ b ∷ drop i text
drop-set text zero b h k = absurd (omega arith)
drop-set text (suc j) b h k =
    rw (one_less j)
    (drop-cons (set text j b) j 0 (rw (length-set text j b) (omega arith))
    ∙ ap₂ (λ d ds. d ∷ ds) (get_or-set_same text j b 0 (omega arith)) (drop-set-lt (suc j) text j b (omega arith)))

-- No digit, one more, from the last on, and the first.
pub digits_first : (n : ℕ) (text : List ℕ) → length text ≡ 10 → plain n ≡ plain n ++ drop 10 text
digits_first n text h = rw (drop_of_length-le text {i = 10} (omega arith)) (sym (append-nil (plain n)))

pub digits_on : (m i : ℕ) (text : List ℕ) → 10 ≤ m → length (plain m) ≤ i → i ≤ length text
    → plain m ++ drop i text ≡ plain (m / 10) ++ drop (i - 1) (set text (i - 1) (m % 10 + 0x30))
digits_on m i text h k l =
    ap (λ ds. ds ++ drop i text) (plain_more m h)
    ∙ append_assoc (plain (m / 10)) ((0x30 + m % 10) ∷ []) (drop i text)
    ∙ ap (λ d. plain (m / 10) ++ (d ∷ drop i text)) (omega arith)
    ∙ sym (ap (λ ds. plain (m / 10) ++ ds) (drop-set text i (m % 10 + 0x30) (omega (arith, plain_long m)) l))

pub digits_end : (m i : ℕ) (text : List ℕ) → m < 10 → length (plain m) ≤ i → i ≤ length text
    → plain m ++ drop i text ≡ drop (i - 1) (set text (i - 1) (m + 0x30))
digits_end m i text h k l =
    ap (λ ds. ds ++ drop i text) (plain_one m h)
    ∙ ap (λ d. d ∷ drop i text) (omega arith)
    ∙ sym (drop-set text i (m + 0x30) (omega (arith, plain_long m)) l)

pub digits_word : (n : ℕ) → n < 4_294_967_296 → length (plain n) ≤ 10
digits_word n h = plain_short 9 n (omega arith)

pub digits_fewer : (m : ℕ) → 10 ≤ m → length (plain (m / 10)) + 1 ≡ length (plain m)
digits_fewer m h = sym (length-plain_more m h)

pub ruleset digits = (digits_first, digits_on, digits_end, digits_word, digits_fewer, plain_long, length-set)
