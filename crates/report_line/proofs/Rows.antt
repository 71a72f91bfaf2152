-- Numbers put one behind the other. Assumes nothing.
use Prim.Native.Nat.{ℕ, ◌+◌, ◌≤◌}
use native.Mathlib.Omega.{arith}
use mathlib.Core.Path.{◌≡◌, refl, sym, ap, ap₂, ◌∙◌}
use mathlib.Core.List.{List, [], ◌∷◌, ◌++◌}
use lib.ListN.{length, set, take, drop, length-append}
use lib.Seq.{take-append_seam}
use Rattle.horn.specs.Calls.{report}
use Rattle.horn.specs.Layout.{plain}
use Rattle.horn.specs.Output.{written}
use Rattle.io.specs.Digits.{last_digits, IsDigitCount}
use Rattle.writing.specs.Buffer.{placed}
use Rattle.writing.proofs.Placed.{length-placed, placed_then, placed_front}
use Rattle.report_line.specs.Lines.{field, line}
use Rattle.report_line.proofs.Digits.{plain_digits}

-- A number's digits, and the byte behind them.
module _ (n k end : ℕ) (text : List ℕ) (counts : k ≡ length (take k text)) (few : IsDigitCount 10 1 n k) (spelt : take k text ≡ last_digits 10 k n) where
  digits_plain : take k text ≡ plain n
  digits_plain = spelt ∙ plain_digits n k few

  pub field-text : (at : ℕ) (s : List ℕ) {o q : List ℕ} → o ≡ placed at (take k text) s → q ≡ set o (at + k) end → q ≡ placed at (field n end) s
  unfolding field placed
  field-text at s {o} e f = placed_then at (plain n) (end ∷ []) s (e ∙ ap (λ t. placed at t s) digits_plain) (counts ∙ ap (λ t. length t) digits_plain) f

  pub field_long : k + 1 ≡ length (field n end)
  unfolding field
  field_long = ap (λ q. q + 1) (counts ∙ ap (λ t. length t) digits_plain) ∙ sym (length-append (plain n) (end ∷ []))

-- A text behind another.
behind : (xs ys s : List ℕ) {a : ℕ} {o q : List ℕ} → o ≡ placed 0 xs s → a ≡ length xs → q ≡ placed a ys o → q ≡ placed 0 (xs ++ ys) s
behind xs ys s {a} {o} e l w = placed_then 0 xs ys s e l (w ∙ ap (λ p. placed p ys o) {x = a} {y = 0 + a} (omega arith))

long_behind : (xs ys : List ℕ) {a b : ℕ} → a ≡ length xs → b ≡ length ys → a + b ≡ length (xs ++ ys)
long_behind xs ys e f = ap₂ (λ m n. m + n) e f ∙ sym (length-append xs ys)

-- The six numbers of a report, behind each other: as many bytes as their sum, and these.
module _ (n s g t b r : ℕ) {i j k l m : ℕ} (long₁ : i ≡ length (field n 0x09)) (long₂ : j ≡ length (field s 0x09)) (long₃ : k ≡ length (field g 0x09))
    (long₄ : l ≡ length (field t 0x09)) (long₅ : m ≡ length (field b 0x09)) where
  two : i + j ≡ length (field n 0x09 ++ field s 0x09)
  two = long_behind (field n 0x09) (field s 0x09) long₁ long₂

  three : i + j + k ≡ length (field n 0x09 ++ field s 0x09 ++ field g 0x09)
  three = long_behind (field n 0x09 ++ field s 0x09) (field g 0x09) two long₃

  four : i + j + k + l ≡ length (field n 0x09 ++ field s 0x09 ++ field g 0x09 ++ field t 0x09)
  four = long_behind (field n 0x09 ++ field s 0x09 ++ field g 0x09) (field t 0x09) three long₄

  five : i + j + k + l + m ≡ length (field n 0x09 ++ field s 0x09 ++ field g 0x09 ++ field t 0x09 ++ field b 0x09)
  five = long_behind (field n 0x09 ++ field s 0x09 ++ field g 0x09 ++ field t 0x09) (field b 0x09) four long₅

  pub line_long : {p : ℕ} → p ≡ length (field r 0x0A) → i + j + k + l + m + p ≡ length (line (report n s g t b r))
  unfolding line
  line_long e = long_behind (field n 0x09 ++ field s 0x09 ++ field g 0x09 ++ field t 0x09 ++ field b 0x09) (field r 0x0A) five e

  pub line_text : (o : List ℕ) {o₁ o₂ o₃ o₄ o₅ o₆ : List ℕ} → o₁ ≡ placed 0 (field n 0x09) o → o₂ ≡ placed i (field s 0x09) o₁
      → o₃ ≡ placed (i + j) (field g 0x09) o₂
      → o₄ ≡ placed (i + j + k) (field t 0x09) o₃
      → o₅ ≡ placed (i + j + k + l) (field b 0x09) o₄
      → o₆ ≡ placed (i + j + k + l + m) (field r 0x0A) o₅
      → o₆ ≡ placed 0 (line (report n s g t b r)) o
  unfolding line
  line_text o e₁ e₂ e₃ e₄ e₅ e₆ =
      behind _ _ o (behind _ _ o (behind _ _ o (behind _ _ o (behind _ _ o e₁ long₁ e₂) two e₃) three e₄) four e₅) five e₆

-- The same as the code computes it.
module _ (n s g t b r : ℕ) where
  pub row_long : length (line (report n s g t b r))
      ≡ length (field n 0x09) + length (field s 0x09) + length (field g 0x09) + length (field t 0x09) + length (field b 0x09) + length (field r 0x0A)
  row_long = sym (line_long n s g t b r refl refl refl refl refl refl)

  pub row_text : (o : List ℕ)
      → placed 0 (line (report n s g t b r)) o
      ≡ placed (length (field n 0x09) + length (field s 0x09) + length (field g 0x09) + length (field t 0x09) + length (field b 0x09)) (field r 0x0A)
      (placed (length (field n 0x09) + length (field s 0x09) + length (field g 0x09) + length (field t 0x09)) (field b 0x09)
      (placed (length (field n 0x09) + length (field s 0x09) + length (field g 0x09)) (field t 0x09)
      (placed (length (field n 0x09) + length (field s 0x09)) (field g 0x09)
      (placed (length (field n 0x09)) (field s 0x09) (placed 0 (field n 0x09) o)))))
  row_text o = sym (line_text n s g t b r refl refl refl refl refl o refl refl refl refl refl refl)

pub ruleset row = (row_long, row_text)

-- What was put at the start is there.
pub there : (bs s : List ℕ) → length bs ≤ length s → take (length bs) (placed 0 bs s) ≡ bs
unfolding written
there bs s h = ap (λ t. take (length bs) t) (placed_front bs s h) ∙ take-append_seam bs (drop (length bs) s)

pub ruleset read = (there, length-placed)
