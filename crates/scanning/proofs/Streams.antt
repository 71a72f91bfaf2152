-- The characters of a text, one at a time: how the definition's lines and characters begin. Assumes nothing.
use mathlib.Core.Path.{◌≡◌, ◌∙◌, refl, ap, sym}
use mathlib.Core.Bool.{Bool, true, ◌&&◌}
use mathlib.Core.List.{List, [], ◌∷◌, ◌++◌, append_assoc, append-nil}
use mathlib.Core.Option.{Option, none, some, map}
use Prim.Native.Nat.{ℕ, suc, ◌+◌, ◌*◌, ◌-◌, ◌≤◌, ◌<◌}
use native.Mathlib.Omega.{arith}
use borrow.Author.Tests.{ne_eqb, eqb-true, eqb-false}
use lib.Dec.{T, eqb, ltb, leb, eqb→eq, ltb→lt, leb→le}
use lib.ListN.{length, get_or, take, drop}
use Rattle.utf8.specs.Below.horn.specs.Utf8.{Range, range, within, Sequence, sequence, sequences, started_by, tail, Char, char, resumed, decoded}
use Rattle.utf8.specs.Below.horn.specs.Tokens.{Stream, bad, ◌▹◌, before, onto_first_line, lines, characters}
use Rattle.utf8.specs.Characters.{First, broken, found, one_more, rest, first}
use Rattle.utf8.proofs.Table.{and_left, and_right}
use Rattle.utf8.proofs.Alternatives.{starts, all_pass, started}
use Rattle.utf8.specs.Below.horn.proofs.Equality.{case}
use Rattle.utf8.specs.Below.horn.proofs.Inversion.{case_option}
use Rattle.utf8.specs.Below.horn.proofs.CompleteUtf8.{resumed_done}

-- The first line and the others.
top_line : List (List ℕ) → List ℕ
top_line [] = []
top_line (l ∷ ls) = l

other_lines : List (List ℕ) → List (List ℕ)
other_lines [] = []
other_lines (l ∷ ls) = ls

opened : Option (List Char) → List (List ℕ) → Stream Char
opened none ls = bad
opened (some cs) ls = before cs (characters ls)

by_top : (ls : List (List ℕ)) → characters ls ≡ opened (decoded (top_line ls)) (other_lines ls)
unfolding characters decoded opened top_line other_lines before
by_top [] = refl
by_top (l ∷ ls) = by (decoded l) where
  by : (o : Option (List Char)) → elim o [ none ↦ bad | some cs ↦ before cs (characters ls) ] ≡ opened o ls
  by none = refl
  by (some cs) = refl

top_onto : (b : ℕ) (ls : List (List ℕ)) → top_line (onto_first_line b ls) ≡ b ∷ top_line ls
unfolding onto_first_line top_line
top_onto b [] = refl
top_onto b (l ∷ ls) = refl

others_onto : (b : ℕ) (ls : List (List ℕ)) → other_lines (onto_first_line b ls) ≡ other_lines ls
unfolding onto_first_line other_lines
others_onto b [] = refl
others_onto b (l ∷ ls) = refl

-- A byte that does not end its line.
module _ (b : ℕ) (bs : List ℕ) (d : b ≡ 0x0A → ⊥) where
  top_on : top_line (lines (b ∷ bs)) ≡ b ∷ top_line (lines bs)
  unfolding lines
  top_on = rw (ne_eqb b 0x0A d, lines) (top_onto b (lines bs))

  others_on : other_lines (lines (b ∷ bs)) ≡ other_lines (lines bs)
  unfolding lines
  others_on = rw (ne_eqb b 0x0A d, lines) (others_onto b (lines bs))

-- What the grammar's alternatives have in common: one byte stands for itself, later bytes are above 7F, and the value of
-- a longer character is above 0A.
high : List Range → Bool
high [] = true
high (range lo hi ∷ rs) = ltb 0x7F lo && high rs

fit : Sequence → Bool
fit (sequence (range f g) mark []) = eqb mark 0
fit (sequence (range f g) mark (range lo hi ∷ rs)) = ltb 0x0A ((f - mark) * 0x40 + (lo - 0x80)) && high (range lo hi ∷ rs)

fit_started : (b : ℕ) (s : Sequence) → started_by b sequences ≡ some s → T (fit s) × (starts s b ≡ true)
unfolding all_pass fit high sequences tail
fit_started b s e = started fit b sequences s tt e

-- A range above 7F.
above : (lo hi b : ℕ) (rs : List Range) → T (high (range lo hi ∷ rs)) → within (range lo hi) b ≡ true → (0x7F < b) × (lo ≤ b)
unfolding high within
above lo hi b rs t w =
    let l = ltb→lt 0x7F lo (and_left (ltb 0x7F lo) (high rs) t) in
    let g = leb→le lo b (and_left (leb lo b) (leb b hi) (rw w tt)) in
    (omega arith, g)

more_found : (f : First) (m w : ℕ) → one_more f ≡ found m w → (k : ℕ) × ((m ≡ suc k) × (f ≡ found k w))
unfolding one_more
more_found broken m w e = let z : ◌≡◌ {A = ℕ} 0 1 = cc in absurd (omega arith)
more_found (found k v) m w e = (k, (cc, cc))

more_broken : (f : First) → one_more f ≡ broken → f ≡ broken
unfolding one_more
more_broken broken e = refl
more_broken (found k v) e = let z : ◌≡◌ {A = ℕ} 0 1 = cc in absurd (omega arith)

-- The rest of a character: it lies on one line, and the definition reads it.
record Run (v : ℕ) (rs : List Range) (bs : List ℕ) (m w : ℕ) : Type 0 where
  top : top_line (lines bs) ≡ take m bs ++ top_line (lines (drop m bs))
  others : other_lines (lines bs) ≡ other_lines (lines (drop m bs))
  reads : (taken l : List ℕ) → resumed taken v rs (take m bs ++ l) ≡ map (λ cs. char (taken ++ take m bs) w ∷ cs) (decoded l)
  grows : v ≤ w

run : (v : ℕ) (rs : List Range) (bs : List ℕ) (m w : ℕ) → T (high rs) → rest v rs bs ≡ found m w → Run v rs bs m w
unfolding rest resumed high
run v [] bs m w h e =
    let p : 0 ≡ m = cc in
    let q : v ≡ w = cc in
    rw (← p, ← q)
    record {
      top = refl;
      others = refl;
      reads = λ taken l. rw (append-nil taken) (resumed_done taken v l);
      grows = omega arith;
    }
run v (r ∷ rs) [] m w h e = let z : ◌≡◌ {A = ℕ} 0 1 = cc in absurd (omega arith)
run v (range lo hi ∷ rs) (b ∷ bs) m w h e =
    case (within (range lo hi) b)
    (λ t.
    let u = above lo hi b rs h t in
    let f = more_found (rest (v * 0x40 + (b - 0x80)) rs bs) m w (rw (t, rest) at e) in
    let i = run (v * 0x40 + (b - 0x80)) rs bs f.0 w (and_right (ltb 0x7F lo) (high rs) h) f.1.1 in
    let d : b ≡ 0x0A → ⊥ = λ z. omega arith in
    rw f.1.0
    record {
      top = top_on b bs d ∙ ap (λ (x : List ℕ). b ∷ x) i.top;
      others = others_on b bs d ∙ i.others;
      reads = λ taken l.
          rw (t, resumed)
          (i.reads (taken ++ (b ∷ [])) l
          ∙ ap (λ (x : List ℕ). map (λ cs. char x w ∷ cs) (decoded l)) (append_assoc taken (b ∷ []) (take f.0 bs)));
      grows = omega (arith, i.grows);
    })
    (λ n.
    let g : broken ≡ found m w = rw (n, rest) at e in
    let z : ◌≡◌ {A = ℕ} 0 1 = cc in
    absurd (omega arith))

-- A broken character is broken on its line too.
broken-rest : (v : ℕ) (rs : List Range) (bs taken : List ℕ) → T (high rs) → rest v rs bs ≡ broken
    → resumed taken v rs (top_line (lines bs)) ≡ none
unfolding rest resumed high top_line lines
broken-rest v [] bs taken h e = let z : ◌≡◌ {A = ℕ} 0 1 = cc in absurd (omega arith)
broken-rest v (r ∷ rs) [] taken h e = refl
broken-rest v (range lo hi ∷ rs) (b ∷ bs) taken h e =
    case (within (range lo hi) b)
    (λ t.
    let u = above lo hi b rs h t in
    let d : b ≡ 0x0A → ⊥ = λ z. omega arith in
    rw (top_on b bs d, t, resumed)
    (broken-rest (v * 0x40 + (b - 0x80)) rs bs (taken ++ (b ∷ [])) (and_right (ltb 0x7F lo) (high rs) h)
    (more_broken (rest (v * 0x40 + (b - 0x80)) rs bs) (rw (t, rest) at e))))
    (λ n. case (eqb b 0x0A)
    (λ y. rw (y, lines) (rw (n, resumed)))
    (λ y. rw (y, lines) (rw (top_onto b (lines bs)) (rw (n, resumed)))))

-- The first character of a text: its bytes, its line, and how the definition reads it.
record Head (bs : List ℕ) (n v : ℕ) : Type 0 where
  top : decoded (top_line (lines bs)) ≡ map (λ cs. char (take n bs) v ∷ cs) (decoded (top_line (lines (drop n bs))))
  others : other_lines (lines bs) ≡ other_lines (lines (drop n bs))
  inner : v ≡ 0x0A → ⊥

value_above : (b f g mark lo hi v n w : ℕ) (rs : List Range) (bs : List ℕ) → T (fit (sequence (range f g) mark (range lo hi ∷ rs)))
    → within (range f g) b ≡ true → rest (b - mark) (range lo hi ∷ rs) bs ≡ found n w → 0x0A < w
unfolding rest fit within high
value_above b f g mark lo hi v n w rs [] t s e = let z : ◌≡◌ {A = ℕ} 0 1 = cc in absurd (omega arith)
value_above b f g mark lo hi v n w rs (x ∷ bs) t s e =
    case (within (range lo hi) x)
    (λ y.
    let l = ltb→lt 0x0A ((f - mark) * 0x40 + (lo - 0x80)) (and_left (ltb 0x0A ((f - mark) * 0x40 + (lo - 0x80))) (high (range lo hi ∷ rs)) t) in
    let h = and_right (ltb 0x0A ((f - mark) * 0x40 + (lo - 0x80))) (high (range lo hi ∷ rs)) t in
    let u = above lo hi x rs h y in
    let k = leb→le f b (and_left (leb f b) (leb b g) (rw s tt)) in
    let m = more_found (rest ((b - mark) * 0x40 + (x - 0x80)) rs bs) n w (rw (y, rest) at e) in
    let r = run ((b - mark) * 0x40 + (x - 0x80)) rs bs m.0 w (and_right (ltb 0x7F lo) (high rs) h) m.1.1 in
    omega (arith, r.grows))
    (λ y.
    let q : broken ≡ found n w = rw (y, rest) at e in
    let z : ◌≡◌ {A = ℕ} 0 1 = cc in
    absurd (omega arith))

fit-high : (r : Range) (mark : ℕ) (rs : List Range) → T (fit (sequence r mark rs)) → T (high rs)
unfolding fit high
fit-high (range f g) mark [] t = tt
fit-high (range f g) mark (range lo hi ∷ rs) t =
    and_right (ltb 0x0A ((f - mark) * 0x40 + (lo - 0x80))) (high (range lo hi ∷ rs)) t

-- A character that begins with a byte other than 0A is not 0A.
started_inner : (b : ℕ) (r : Range) (mark : ℕ) (rs : List Range) (bs : List ℕ) (n w : ℕ) → (b ≡ 0x0A → ⊥)
    → T (fit (sequence r mark rs)) → within r b ≡ true → rest (b - mark) rs bs ≡ found n w → w ≡ 0x0A → ⊥
unfolding rest fit
started_inner b (range f g) mark [] bs n w d t s e z =
    let m = eqb→eq mark 0 t in
    let v : b - mark ≡ w = cc in
    d (omega arith)
started_inner b (range f g) mark (range lo hi ∷ rs) bs n w d t s e z =
    let h = value_above b f g mark lo hi w n w rs bs t s e in omega arith

head : (bs : List ℕ) (n v : ℕ) → 0 < length bs → (get_or bs 0 0 ≡ 0x0A → ⊥) → first bs ≡ found n v → Head bs n v
unfolding first decoded starts
head [] n v h d e = absurd (omega arith)
head (b ∷ bs) n v h d e =
    case_option (started_by b sequences)
    (λ o.
    let g : broken ≡ found n v = rw (o, first) at e in
    let z : ◌≡◌ {A = ℕ} 0 1 = cc in
    absurd (omega arith))
    (λ s o. by s o)
  where
    by : (s : Sequence) → started_by b sequences ≡ some s → Head (b ∷ bs) n v
    by (sequence r mark rs) o =
        let t = fit_started b (sequence r mark rs) o in
        let m = more_found (rest (b - mark) rs bs) n v (rw (o, first) at e) in
        let i = run (b - mark) rs bs m.0 v (fit-high r mark rs t.0) m.1.1 in
        rw m.1.0
        record {
          top =
              ap decoded (top_on b bs d ∙ ap (λ (x : List ℕ). b ∷ x) i.top)
              ∙ rw (o, decoded) (i.reads (b ∷ []) (top_line (lines (drop m.0 bs))));
          others = others_on b bs d ∙ i.others;
          inner = started_inner b r mark rs bs m.0 v d t.0 t.1 m.1.1;
        }

pub first_newline : (bs : List ℕ) → first (0x0A ∷ bs) ≡ found 1 0x0A
unfolding first started_by sequences within rest one_more
first_newline bs = refl

-- The first line of a text is UTF-8.
pub GoodLine : List ℕ → Type 0
GoodLine bs = (cs : List Char) × (decoded (top_line (lines bs)) ≡ some cs)

-- The first line of a text is not UTF-8.
pub BadLine : List ℕ → Type 0
BadLine bs = decoded (top_line (lines bs)) ≡ none

pub head_broken : (bs : List ℕ) → 0 < length bs → first bs ≡ broken → BadLine bs
unfolding first decoded starts BadLine
head_broken [] h e = absurd (omega arith)
head_broken (b ∷ bs) h e =
    case (eqb b 0x0A)
    (λ y.
    let c : b ≡ 0x0A = eqb-true b 0x0A y in
    let g : found 1 0x0A ≡ broken = sym (first_newline bs) ∙ (rw c at e) in
    let z : ◌≡◌ {A = ℕ} 0 1 = cc in
    absurd (omega arith))
    (λ y.
    let d : b ≡ 0x0A → ⊥ = eqb-false b 0x0A y in
    ap decoded (top_on b bs d) ∙ case_option (started_by b sequences) (λ o. rw (o, decoded)) (λ s o. by s o))
  where
    by : (s : Sequence) → started_by b sequences ≡ some s → decoded (b ∷ top_line (lines bs)) ≡ none
    by (sequence r mark rs) o =
        let t = fit_started b (sequence r mark rs) o in
        rw (o, decoded)
        (broken-rest (b - mark) rs bs (b ∷ []) (fit-high r mark rs t.0) (more_broken (rest (b - mark) rs bs) (rw (o, first) at e)))

pub good_end : GoodLine []
unfolding GoodLine top_line lines decoded
good_end = ([], refl)

pub good_newline : (bs : List ℕ) → GoodLine (0x0A ∷ bs)
unfolding GoodLine top_line lines decoded started_by sequences within resumed
good_newline bs = (char (0x0A ∷ []) 0x0A ∷ [], refl)

pub stream_newline : (bs : List ℕ) → characters (lines (0x0A ∷ bs)) ≡ char (0x0A ∷ []) 0x0A ▹ characters (lines bs)
unfolding characters lines decoded started_by sequences within resumed before
stream_newline bs = refl

pub stream_bad : (bs : List ℕ) → BadLine bs → characters (lines bs) ≡ bad
unfolding BadLine opened
stream_bad bs e = by_top (lines bs) ∙ rw e

-- A character that does not end its line.
module _ (bs : List ℕ) (n v : ℕ) (h : 0 < length bs) (d : get_or bs 0 0 ≡ 0x0A → ⊥) (e : first bs ≡ found n v) where
  pub good_on : GoodLine (drop n bs) → GoodLine bs
  unfolding GoodLine
  good_on g = (char (take n bs) v ∷ g.0, (head bs n v h d e).top ∙ rw g.1)

  pub bad_on : BadLine (drop n bs) → BadLine bs
  unfolding BadLine
  bad_on g = (head bs n v h d e).top ∙ rw g

  pub stream_on : GoodLine (drop n bs) → characters (lines bs) ≡ char (take n bs) v ▹ characters (lines (drop n bs))
  unfolding GoodLine opened before
  stream_on g =
      by_top (lines bs) ∙ rw ((head bs n v h d e).top, g.1, (head bs n v h d e).others)
      (ap (λ (s : Stream Char). char (take n bs) v ▹ s) (sym (by_top (lines (drop n bs)) ∙ rw g.1)))

  pub value_on : v ≡ 0x0A → ⊥
  value_on = (head bs n v h d e).inner
