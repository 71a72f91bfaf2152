-- The character at a place of a text: what `look` and `look_longer` answer there, and that a step over it stays in the text. Assumes nothing.
use mathlib.Core.Path.{◌≡◌, ◌∙◌, refl, ap, sym}
use mathlib.Core.Bool.{Bool, true, false}
use mathlib.Core.List.{List, [], ◌∷◌}
use mathlib.Core.Option.{Option, none, some}
use Prim.Native.Nat.{ℕ, suc, ◌+◌, ◌*◌, ◌-◌, ◌≤◌, ◌<◌}
use native.Mathlib.Nat.{add-zero}
use native.Mathlib.Omega.{arith}
use borrow.Author.Tests.{eq-eqb, ne_eqb, eqb-true, eqb-false}
use lib.Dec.{eqb, ltb}
use lib.ListN.{length, get_or, take, drop, length-drop, drop_of_length-le}
use lib.Seq.{take_all, get_or-drop}
use Rattle.horn.specs.Utf8.{Range, within, Sequence, sequence, sequences, started_by}
use Rattle.horn.specs.Tokens.{kind}
use Rattle.utf8.specs.Classes.{kind_number, never, leads_two, leads_e0, leads_f0, class_of, low_of, high_of}
use Rattle.utf8.specs.Characters.{First, broken, found, one_more, rest, first, width, value, kind_at, in_range, longer_by, by_class}
use Rattle.horn.proofs.Equality.{case}
use Rattle.utf8.proofs.Table.{ascii_class}
use Rattle.utf8.proofs.Grammar.{first_one, first-none, first_longer, kind_one, lt_of_le_of_ne, below_range}

-- A character has at least one byte, and no more than there are.
unfoldable pub Sound : First → ℕ → Type 0
Sound broken m = Unit {0}
Sound (found n v) m = (0 < n) × (n ≤ m)

-- In the midst of a character there may be none left.
Inner : First → ℕ → Type 0
Inner broken m = Unit {0}
Inner (found n v) m = n ≤ m

more_inner : (f : First) (m : ℕ) → Inner f m → Inner (one_more f) (suc m)
unfolding one_more Inner
more_inner broken m h = tt
more_inner (found n v) m h = omega arith

inner : (v : ℕ) (rs : List Range) (bs : List ℕ) → Inner (rest v rs bs) (length bs)
unfolding rest Inner
inner v [] bs = omega arith
inner v (r ∷ rs) [] = tt
inner v (r ∷ rs) (b ∷ bs) =
    case (within r b)
    (λ t. rw (t, rest) (more_inner (rest (v * 0x40 + (b - 0x80)) rs bs) (length bs) (inner (v * 0x40 + (b - 0x80)) rs bs)))
    (λ f. rw (f, rest) tt)

more_sound : (f : First) (m : ℕ) → Inner f m → Sound (one_more f) (suc m)
unfolding one_more Inner Sound
more_sound broken m h = tt
more_sound (found n v) m h = (omega arith, omega arith)

pub sound : (bs : List ℕ) → Sound (first bs) (length bs)
unfolding first Sound
sound [] = tt
sound (b ∷ bs) = by (started_by b sequences) where
  by : (o : Option Sequence)
      → Sound (elim o [ none ↦ broken | some (sequence r mark rs) ↦ one_more (rest (b - mark) rs bs) ]) (suc (length bs))
  by none = tt
  by (some (sequence r mark rs)) = more_sound (rest (b - mark) rs bs) (length bs) (inner (b - mark) rs bs)

module _ (m : ℕ) where
  kind_moves : (f : First) → Sound f m → (kind_at f ≡ never → ⊥) → (0 < width f) × (width f ≤ m)
  unfolding Sound kind_at width
  kind_moves broken s d = absurd (d refl)
  kind_moves (found n v) s d = s

  width_moves : (f : First) → Sound f m → (width f ≡ 0 → ⊥) → (0 < width f) × (width f ≤ m)
  unfolding Sound width
  width_moves broken s d = absurd (d refl)
  width_moves (found n v) s d = s

  pub width_zero : (f : First) → Sound f m → width f ≡ 0 → f ≡ broken
  unfolding Sound width
  width_zero broken s e = refl
  width_zero (found n v) s e = absurd (omega arith)

-- The kind of a character of four bytes is that of any other such, and of fewer bytes it is that of the value in 16 bits.
pub four_kind : (f : First) → width f ≡ 4 → kind_at (found 4 0) ≡ kind_at f
unfolding width kind_at
four_kind broken e = absurd (omega arith)
four_kind (found n v) e = rw (eq-eqb n 4 e, kind_at)

pub short_kind : (f : First) → (width f ≡ 0 → ⊥) → (width f ≡ 4 → ⊥) → kind_number (kind (value f)) ≡ kind_at f
unfolding width value kind_at
short_kind broken d k = absurd (d refl)
short_kind (found n v) d k = rw (ne_eqb n 4 k, kind_at, value)

pub rest_of : (text : List ℕ) (p : ℕ) → take (length text - p) (drop p text) ≡ drop p text
rest_of text p = take_all (length text - p) (drop p text) (simp length-drop (omega arith))

pub at_drop : (text : List ℕ) (p : ℕ) → get_or (drop p text) 0 0 ≡ get_or text p 0
at_drop text p = get_or-drop p text 0 0 ∙ ap (λ (n : ℕ). get_or text n 0) (add-zero p)

-- What `look` answers: past the end, at a character of one byte, and at others.
module _ (text : List ℕ) (p : ℕ) where
  pub look_past : length text ≤ p → first (drop p text) ≡ broken
  unfolding first
  look_past h = rw (drop_of_length-le text h)

  pub look_one : p < length text → get_or text p 0 < 256 → class_of (get_or text p 0) < never → first (drop p text) ≡ found 1 (get_or text p 0)
  look_one h u l =
      let a : get_or (drop p text) 0 0 ≡ get_or text p 0 = at_drop text p in
      rw a at (first_one (drop p text) (simp length-drop (omega arith)) (rw a u) (rw a l))

-- What `look_longer` answers, by a class from `never` on.
inside : (lo hi b : ℕ) (f : First) → (width f ≡ 0 → f ≡ broken) → width (in_range lo hi b f) ≡ 0 → in_range lo hi b f ≡ broken
unfolding in_range
inside lo hi b f k e =
    case (ltb b lo)
    (λ t. rw (t, in_range))
    (λ n. case (ltb hi b) (λ t. rw (n, t, in_range)) (λ m. rw (n, m, in_range) (k (rw (n, m, in_range) at e))))

never_zero : (n v : ℕ) → width (found (suc n) v) ≡ 0 → found (suc n) v ≡ broken
unfolding width
never_zero n v e = absurd (omega arith)

either : (x : Bool) {f g : First} → (width f ≡ 0 → f ≡ broken) → (width g ≡ 0 → g ≡ broken)
    → width (elim x [ true ↦ f | false ↦ g ]) ≡ 0 → elim x [ true ↦ f | false ↦ g ] ≡ broken
either true p q = p
either false p q = q

pub longer_zero : (c b : ℕ) (bs : List ℕ) → width (longer_by c b bs) ≡ 0 → longer_by c b bs ≡ broken
unfolding longer_by
longer_zero c b bs =
    inside _ _ _ _
    (either (eqb c leads_two) (never_zero 1 _)
    (inside _ _ _ _ (either (ltb c leads_f0) (never_zero 2 _) (inside _ _ _ _ (never_zero 3 _)))))

low_positive : (c : ℕ) → 0 < low_of c
unfolding low_of
low_positive c =
    case (eqb c leads_e0) (λ t. rw (t, low_of) (omega arith))
    (λ n. case (eqb c leads_f0) (λ t. rw (n, t, low_of) (omega arith)) (λ m. rw (n, m, low_of) (omega arith)))

longer_empty : (c : ℕ) → by_class c [] ≡ broken
unfolding by_class longer_by
longer_empty c =
    case (eqb c never) (λ t. rw (t, by_class)) (λ n. rw (n, by_class) (below_range (low_positive c) (high_of c) _))

module _ (text : List ℕ) (p c : ℕ) where
  -- At a byte of the class c it is the first character.
  pub longer_is : p < length text → get_or text p 0 < 256 → c ≡ class_of (get_or text p 0) → never ≤ c
      → by_class c (drop p text) ≡ first (drop p text)
  unfolding by_class
  longer_is h u e l =
      let a : get_or (drop p text) 0 0 ≡ get_or text p 0 = at_drop text p in
      let s : 0 < length (drop p text) = simp length-drop (omega arith) in
      case (eqb c never)
      (λ t. rw (t, by_class) (sym (first-none (drop p text) s (rw a u) (rw (a, ← e) (eqb-true c never t)))))
      (λ n. rw (n, by_class)
      (ap (λ (x : ℕ). longer_by x (get_or (drop p text) 0 0) (drop p text)) (e ∙ ap class_of (sym a))
      ∙ sym (first_longer (drop p text) s (rw a u) (rw (a, ← e) (lt_of_le_of_ne l (eqb-false c never n))))))

  pub longer_past : length text ≤ p → by_class c (drop p text) ≡ broken
  longer_past h = ap (by_class c) (drop_of_length-le text h) ∙ longer_empty c

  pub longer_here : (c ≡ never → ⊥) → by_class c (drop p text) ≡ longer_by c (get_or text p 0) (take (length text - p) (drop p text))
  unfolding by_class
  longer_here d = rw (ne_eqb c never d, by_class, rest_of text p) (ap (λ (b : ℕ). longer_by c b (drop p text)) (at_drop text p))

pub longer_never : (c : ℕ) (bs : List ℕ) → c ≡ never → by_class c bs ≡ broken
unfolding by_class
longer_never c bs e = rw (e, by_class)

pub ruleset looks = (look_past, look_one, kind_one, longer_is)

pub ruleset longer_looks = (longer_past, longer_never, longer_here, longer_zero, four_kind, short_kind)

-- An ASCII character has one byte.
pub ascii_width : (text : List ℕ) (p : ℕ) → p < length text → get_or text p 0 < 128 → 1 ≡ width (first (drop p text))
unfolding width
ascii_width text p h a = rw (look_one text p h (omega arith) (ascii_class (get_or text p 0) a))

-- A step over a character stays in the text and goes on.
module _ (text : List ℕ) (q n : ℕ) (en : n ≡ width (first (drop q text))) where
  pub kind_steps : (k : ℕ) → k ≡ kind_at (first (drop q text)) → (k ≡ never → ⊥) → (q + n ≤ length text) × (q < q + n)
  kind_steps k ek d =
      let m = kind_moves (length (drop q text)) (first (drop q text)) (sound (drop q text)) (λ z. d (ek ∙ z)) in
      (omega (arith, length-drop q text), omega arith)

  pub width_steps : (n ≡ 0 → ⊥) → (q + n ≤ length text) × (q < q + n)
  width_steps d =
      let m = width_moves (length (drop q text)) (first (drop q text)) (sound (drop q text)) (λ z. d (en ∙ z)) in
      (omega (arith, length-drop q text), omega arith)
