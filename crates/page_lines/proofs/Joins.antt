-- The fields of a line, each written behind those before it, are the line. Assumes nothing.
use Prim.Native.Nat.{ℕ, ◌+◌, ◌-◌, ◌<◌}
use native.Mathlib.Omega.{arith}
use mathlib.Core.Path.{◌≡◌, refl, sym, ap, ap₂, ◌∙◌}
use mathlib.Core.List.{List, [], ◌∷◌, ◌++◌}
use lib.Dec.{eqb}
use lib.ListN.{length, set, length-append}
use Rattle.horn.specs.Names.{codes}
use Rattle.horn.specs.Output.{spaces, padded, right_aligned, name_field}
use Rattle.horn.specs.Page.{goal_line}
use Rattle.horn.proofs.Equality.{case}
use Rattle.horn.proofs.Output.{length-spaces, length-right_aligned, length-name_field, plain_short}
use Rattle.writing.specs.Buffer.{placed}
use Rattle.writing.proofs.Placed.{placed_one, placed_then}
use Rattle.page_lines.specs.Lines.{percent, used_line}

-- A text of n bytes is written.
record Written (start n : ℕ) (text out now : List ℕ) : Type 0 where
  holds : now ≡ placed start text out
  long : length text ≡ n

first : {start n : ℕ} {text out now : List ℕ} → length text ≡ n → now ≡ placed start text out → Written start n text out now
first l e = record { holds = e; long = l }

then_text : {start n m : ℕ} {text out before now : List ℕ} (more : List ℕ) → Written start n text out before → length more ≡ m
    → now ≡ placed (start + n) more before
    → Written start (n + m) (text ++ more) out now
then_text {start} {text} {out} more w l e =
    record {
      holds = placed_then start text more out w.holds (sym w.long) e;
      long = length-append text more ∙ ap₂ ◌+◌ w.long l;
    }

then_byte : {start n : ℕ} {text out before now : List ℕ} (b : ℕ) → Written start n text out before
    → now ≡ set before (start + n) b
    → Written start (n + 1) (text ++ (b ∷ [])) out now
then_byte {start} {n} {before} b w e = then_text (b ∷ []) w refl (e ∙ sym (placed_one (start + n) b before))

pub goal_joined : (start n : ℕ) (name rule out : List ℕ) {o₁ o₂ o₃ o₄ o₅ o₆ : List ℕ} → n < 100000000
    → o₁ ≡ placed start (name_field 32 name) out
    → o₂ ≡ placed (start + 32) (spaces 1) o₁
    → o₃ ≡ placed (start + 33) (right_aligned 8 n) o₂
    → o₄ ≡ placed (start + 41) (spaces 1) o₃
    → o₅ ≡ placed (start + 42) (name_field 22 rule) o₄
    → o₆ ≡ set o₅ (start + 64) 0x0A
    → o₆ ≡ placed start (goal_line name n rule) out
unfolding goal_line
goal_joined start n name rule out small e₁ e₂ e₃ e₄ e₅ e₆ =
    let w₁ = first (length-name_field 32 name) e₁ in
    let w₂ = then_text _ w₁ (length-spaces 1) e₂ in
    let w₃ = then_text _ w₂ (length-right_aligned 8 n (plain_short 7 n small)) e₃ in
    let w₄ = then_text _ w₃ (length-spaces 1) e₄ in
    let w₅ = then_text _ w₄ (length-name_field 22 rule) e₅ in
    (then_byte 0x0A w₅ e₆).holds

-- The same as the code computes it.
pub goal_written : (start n : ℕ) (name rule out : List ℕ) → n < 100000000
    → placed start (goal_line name n rule) out
    ≡ set
    (placed (start + 42) (name_field 22 rule)
    (placed (start + 41) (spaces 1)
    (placed (start + 33) (right_aligned 8 n) (placed (start + 32) (spaces 1) (placed start (name_field 32 name) out)))))
    (start + 64)
    0x0A
goal_written start n name rule out small = sym (goal_joined start n name rule out small refl refl refl refl refl refl)

-- A percentage has three digits at most.
pub percent_small : (used steps : ℕ) → percent used steps < 1000
unfolding percent
percent_small used steps = case (eqb steps 0) (λ e. rw (e, percent) (omega arith)) (λ e. rw (e, percent) (omega arith))

pub last_joined : (start p : ℕ) (out : List ℕ) {o₁ o₂ o₃ o₄ o₅ : List ℕ} → p < 1000
    → o₁ ≡ placed start (codes "used ") out
    → o₂ ≡ placed (start + 5) (right_aligned 3 p) o₁
    → o₃ ≡ placed (start + 8) (codes "%") o₂
    → o₄ ≡ placed (start + 9) (spaces 55) o₃
    → o₅ ≡ set o₄ (start + 64) 0x0A
    → o₅ ≡ placed start (used_line p) out
unfolding used_line padded codes
last_joined start p out {o₃} small e₁ e₂ e₃ e₄ e₅ =
    let w₁ = first {n = 5} refl e₁ in
    let w₂ = then_text _ w₁ (length-right_aligned 3 p (plain_short 2 p small)) e₂ in
    let w₃ = then_text {m = 1} _ w₂ refl e₃ in
    let left = ap (λ n. 64 - n) w₃.long in
    let w₄ = then_text _ w₃ (length-spaces _ ∙ left) (e₄ ∙ ap (λ n. placed (start + 9) (spaces n) o₃) (sym left)) in
    (then_byte 0x0A w₄ e₅).holds

pub last_written : (start used steps : ℕ) (out : List ℕ)
    → placed start (used_line (percent used steps)) out
    ≡ set
    (placed (start + 9) (spaces 55)
    (placed (start + 8) (codes "%") (placed (start + 5) (right_aligned 3 (percent used steps)) (placed start (codes "used ") out))))
    (start + 64)
    0x0A
last_written start used steps out = sym (last_joined start (percent used steps) out (percent_small used steps) refl refl refl refl refl)
