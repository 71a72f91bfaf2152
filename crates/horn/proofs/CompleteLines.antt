-- A text that is UTF-8 as a whole has the same characters read by lines as read at once: a line ends where a character does.
use Prim.Native.Nat.{ℕ, ◌+◌, ◌*◌, ◌-◌}
use mathlib.Core.Path.{◌≡◌, refl, sym, ap, ◌∙◌}
use mathlib.Core.Bool.{true, false, true≢false}
use mathlib.Core.List.{List, [], ◌∷◌, ◌++◌, append-nil}
use mathlib.Core.Option.{none, some, map}
use borrow.Author.Tests.{eqb-true}
use lib.Dec.{eqb}
use Rattle.horn.specs.Utf8.{Range, range, within, Sequence, sequence, tail, sequences, started_by, Char, char, resumed, decoded}
use Rattle.horn.specs.Tokens.{Stream, end, bad, ◌▹◌, before, onto_first_line, lines, characters}
use Rattle.horn.proofs.Equality.{case, chosen, chose_true}
use Rattle.horn.proofs.Inversion.{none-some, some_equal}
use Rattle.horn.proofs.CompleteUtf8.{resumed_done, mapped, decoded_of, decoded_begun, All}

pub before-append : {A : Type 0} (xs ys : List A) (s : Stream A) → before (xs ++ ys) s ≡ before xs (before ys s)
unfolding before
before-append [] ys s = refl
before-append (x ∷ xs) ys s = ap (x ▹◌) (before-append xs ys s)

-- No byte after a character's first is 0A.
abbrev pub Inner : Range → Type 0
Inner r = within r 0x0A ≡ false

abbrev Inners : Sequence → Type 0
Inners (sequence a m r) = All Inner r

started_inner : (b : ℕ) (seqs : List Sequence) {a : Range} {m : ℕ} {r : List Range} → All Inners seqs
    → started_by b seqs ≡ some (sequence a m r)
    → All Inner r
unfolding started_by
started_inner b [] p e = none-some e
started_inner b (sequence a m r ∷ seqs) {r = r'} p e =
    chosen (within a b) e
    (λ w q. let h : r ≡ r' = cc in rw (← h) p.0)
    (λ w q. started_inner b seqs p.1 q)

pub inner : (b : ℕ) {a : Range} {m : ℕ} {r : List Range} → started_by b sequences ≡ some (sequence a m r) → All Inner r
unfolding sequences within tail
inner b e =
    started_inner b sequences (
      tt,
      (
        (refl, tt),
        (
          (refl, (refl, tt)),
          (
            (refl, (refl, tt)),
            (
              (refl, (refl, tt)),
              (
                (refl, (refl, tt)),
                ((refl, (refl, (refl, tt))), ((refl, (refl, (refl, tt))), ((refl, (refl, (refl, tt))), tt))),
              ),
            ),
          ),
        ),
      ),
    )
    e

-- A character that 0A begins has no further byte.
alone : (b : ℕ) {a : Range} {m : ℕ} {r : List Range} → b ≡ 0x0A → started_by b sequences ≡ some (sequence a m r) → r ≡ []
unfolding started_by sequences within
alone b {a} {m} {r} h e =
    let k : some (sequence a m r) ≡ some (sequence (range 0x00 0x7F) 0x00 []) = sym e ∙ ap (λ x. started_by x sequences) h in
    cc

unfoldable pub head_line : List (List ℕ) → List ℕ
head_line [] = []
head_line (l ∷ ls) = l

unfoldable pub tail_lines : List (List ℕ) → List (List ℕ)
tail_lines [] = []
tail_lines (l ∷ ls) = ls

pub onto_parts : (b : ℕ) (ls : List (List ℕ)) → onto_first_line b ls ≡ (b ∷ head_line ls) ∷ tail_lines ls
unfolding onto_first_line head_line tail_lines
onto_parts b [] = refl
onto_parts b (l ∷ ls) = refl

line_on : (b : ℕ) (bs : List ℕ) → eqb b 0x0A ≡ false → lines (b ∷ bs) ≡ (b ∷ head_line (lines bs)) ∷ tail_lines (lines bs)
unfolding lines
line_on b bs e = rw (e, lines) (onto_parts b (lines bs))

line_end_lem : (b : ℕ) (bs : List ℕ) → eqb b 0x0A ≡ true → lines (b ∷ bs) ≡ (b ∷ []) ∷ lines bs
unfolding lines
line_end_lem b bs e = rw (e, lines)

-- The characters of lines, by the first of them.
pub characters_first : (line : List ℕ) (ls : List (List ℕ)) {cs : List Char} → decoded line ≡ some cs → characters (line ∷ ls) ≡ before cs (characters ls)
unfolding characters
characters_first line ls e = rw (e, characters)

pub characters-bad : (line : List ℕ) (ls : List (List ℕ)) → decoded line ≡ none → characters (line ∷ ls) ≡ bad
unfolding characters
characters-bad line ls e = rw (e, characters)

characters-cons : (l : List ℕ) (ls : List (List ℕ)) {cs : List Char} (ds : List Char) → decoded l ≡ some cs → characters ls ≡ before ds end
    → characters (l ∷ ls) ≡ before (cs ++ ds) end
characters-cons l ls {cs} ds p q = characters_first l ls p ∙ ap (before cs) q ∙ sym (before-append cs ds end)

-- A text that begins in the midst of a character: the characters of its first line, and those of its other lines.
record Split (taken : List ℕ) (value : ℕ) (rs : List Range) (bs : List ℕ) (cs : List Char) : Type 0 where
  head_chars : List Char
  tail_chars : List Char
  in_line : resumed taken value rs (head_line (lines bs)) ≡ some head_chars
  in_rest : characters (tail_lines (lines bs)) ≡ before tail_chars end
  whole : cs ≡ head_chars ++ tail_chars

split_nil : (taken : List ℕ) (value : ℕ) (rs : List Range) {cs : List Char} → resumed taken value rs [] ≡ some cs
    → Split taken value rs [] cs
unfolding lines head_line tail_lines characters before
split_nil taken value rs {cs} e =
    record { head_chars = cs; tail_chars = []; in_line = e; in_rest = refl; whole = sym (append-nil cs) }

not_last : (b : ℕ) (r : Range) → Inner r → within r b ≡ true → eqb b 0x0A ≡ false
not_last b r i w =
    case (eqb b 0x0A) (λ t. absurd (true≢false (sym w ∙ ap (within r) (eqb-true b 0x0A t) ∙ i))) (λ n. n)

split_inner : (b : ℕ) (bs taken : List ℕ) (value : ℕ) (r : Range) (rs : List Range) {cs : List Char} → Inner r
    → resumed taken value (r ∷ rs) (b ∷ bs) ≡ some cs
    → ((ds : List Char) → resumed (taken ++ (b ∷ [])) (value * 0x40 + (b - 0x80)) rs bs ≡ some ds
    → Split (taken ++ (b ∷ [])) (value * 0x40 + (b - 0x80)) rs bs ds)
    → Split taken value (r ∷ rs) (b ∷ bs) cs
unfolding resumed head_line tail_lines
split_inner b bs taken value r rs i e ih =
    chosen (within r b) e
    (λ w q.
    let d = ih _ q in
    let l = line_on b bs (not_last b r i w) in
    record {
      head_chars = d.head_chars;
      tail_chars = d.tail_chars;
      in_line = ap (λ x. resumed taken value (r ∷ rs) (head_line x)) l ∙ chose_true _ _ w ∙ d.in_line;
      in_rest = ap (λ x. characters (tail_lines x)) l ∙ d.in_rest;
      whole = d.whole;
    })
    (λ w q. none-some q)

split_next : (b : ℕ) (bs taken : List ℕ) (value : ℕ) {a : Range} {m : ℕ} {r : List Range} {cs ks : List Char}
    → started_by b sequences ≡ some (sequence a m r)
    → char taken value ∷ ks ≡ cs
    → eqb b 0x0A ≡ false
    → Split (b ∷ []) (b - m) r bs ks
    → Split taken value [] (b ∷ bs) cs
unfolding head_line tail_lines
split_next b bs taken value s e n d =
    let l = line_on b bs n in
    record {
      head_chars = char taken value ∷ d.head_chars;
      tail_chars = d.tail_chars;
      in_line =
          ap (λ x. resumed taken value [] (head_line x)) l
          ∙ resumed_done taken value (b ∷ head_line (lines bs))
          ∙ ap (map (λ us. char taken value ∷ us)) (decoded_begun b (head_line (lines bs)) s ∙ d.in_line);
      in_rest = ap (λ x. characters (tail_lines x)) l ∙ d.in_rest;
      whole = sym e ∙ ap (char taken value ∷◌) d.whole;
    }

-- 0A by itself is a character.
newline : (b : ℕ) {a : Range} {m : ℕ} {r : List Range} → started_by b sequences ≡ some (sequence a m r) → r ≡ []
    → decoded (b ∷ []) ≡ some (char (b ∷ []) (b - m) ∷ [])
unfolding resumed
newline b {m} s h = decoded_begun b [] s ∙ ap (λ x. resumed (b ∷ []) (b - m) x []) h

after_newline {ℓ} : {C : Type ℓ} (b : ℕ) (bs : List ℕ) (m : ℕ) {r : List Range} {ks : List Char} → r ≡ []
    → resumed (b ∷ []) (b - m) r bs ≡ some ks
    → ((us : List Char) → decoded bs ≡ some us → char (b ∷ []) (b - m) ∷ us ≡ ks → C)
    → C
after_newline b bs m h q k =
    mapped (decoded bs) (sym (resumed_done (b ∷ []) (b - m) bs) ∙ ap (λ x. resumed (b ∷ []) (b - m) x bs) (sym h) ∙ q) k

split_end : (b : ℕ) (bs taken : List ℕ) (value : ℕ) {a : Range} {m : ℕ} {r : List Range} {cs ks us : List Char}
    → started_by b sequences ≡ some (sequence a m r)
    → r ≡ []
    → char taken value ∷ ks ≡ cs
    → char (b ∷ []) (b - m) ∷ us ≡ ks
    → eqb b 0x0A ≡ true
    → characters (lines bs) ≡ before us end
    → Split taken value [] (b ∷ bs) cs
unfolding head_line tail_lines
split_end b bs taken value {m} {us} s h e₁ e₂ n p =
    let l = line_end_lem b bs n in
    record {
      head_chars = char taken value ∷ char (b ∷ []) (b - m) ∷ [];
      tail_chars = us;
      in_line =
          ap (λ x. resumed taken value [] (head_line x)) l
          ∙ resumed_done taken value (b ∷ [])
          ∙ ap (map (λ us. char taken value ∷ us)) (newline b s h);
      in_rest = ap (λ x. characters (tail_lines x)) l ∙ p;
      whole = sym e₁ ∙ ap (char taken value ∷◌) (sym e₂);
    }

lines_on : (b : ℕ) (bs : List ℕ) {a : Range} {m : ℕ} {r : List Range} {cs : List Char}
    → started_by b sequences ≡ some (sequence a m r)
    → eqb b 0x0A ≡ false
    → Split (b ∷ []) (b - m) r bs cs
    → characters (lines (b ∷ bs)) ≡ before cs end
lines_on b bs s n d =
    ap characters (line_on b bs n)
    ∙ characters-cons (b ∷ head_line (lines bs)) (tail_lines (lines bs)) d.tail_chars (decoded_begun b (head_line (lines bs)) s ∙ d.in_line) d.in_rest
    ∙ ap (λ x. before x end) (sym d.whole)

lines-end : (b : ℕ) (bs : List ℕ) {a : Range} {m : ℕ} {r : List Range} {cs us : List Char}
    → started_by b sequences ≡ some (sequence a m r)
    → r ≡ []
    → char (b ∷ []) (b - m) ∷ us ≡ cs
    → eqb b 0x0A ≡ true
    → characters (lines bs) ≡ before us end
    → characters (lines (b ∷ bs)) ≡ before cs end
lines-end b bs {us} s h e n p =
    ap characters (line_end_lem b bs n) ∙ characters-cons (b ∷ []) (lines bs) us (newline b s h) p ∙ ap (λ x. before x end) e

lines-nil : {cs : List Char} → decoded [] ≡ some cs → characters (lines []) ≡ before cs end
unfolding decoded lines characters before
lines-nil e = ap (λ x. before x end) (some_equal e)

mutual
  split : (bs taken : List ℕ) (value : ℕ) (rs : List Range) {cs : List Char} → All Inner rs
      → resumed taken value rs bs ≡ some cs
      → Split taken value rs bs cs
  split [] taken value rs {cs} i e = split_nil taken value rs e
  split (b ∷ bs) taken value (r ∷ rs) i e =
      split_inner b bs taken value r rs i.0 e (λ ds q. split bs (taken ++ (b ∷ [])) (value * 0x40 + (b - 0x80)) rs i.1 q)
  split (b ∷ bs) taken value [] {cs} i e =
      mapped (decoded (b ∷ bs)) (sym (resumed_done taken value (b ∷ bs)) ∙ e) λ ks e₁ e₂.
      decoded_of b bs e₁ λ a m r s q.
      case (eqb b 0x0A)
      (λ n.
      let h = alone b (eqb-true b 0x0A n) s in
      after_newline b bs m h q λ us d e₃. split_end b bs taken value s h e₂ e₃ n (by_lines bs d))
      (λ n. split_next b bs taken value s e₂ n (split bs (b ∷ []) (b - m) r (inner b s) q))

  pub by_lines : (bs : List ℕ) {cs : List Char} → decoded bs ≡ some cs → characters (lines bs) ≡ before cs end
  by_lines [] e = lines-nil e
  by_lines (b ∷ bs) e =
      decoded_of b bs e λ a m r s q.
      case (eqb b 0x0A)
      (λ n.
      let h = alone b (eqb-true b 0x0A n) s in
      after_newline b bs m h q λ us d e₃. lines-end b bs s h e₃ n (by_lines bs d))
      (λ n. lines_on b bs s n (split bs (b ∷ []) (b - m) r (inner b s) q))
