-- The walk over a reader that stands before some tokens answers as the counting over these tokens.
use Rattle.std.proofs.Common.{◌≡◌, ℕ, zero, suc, ◌<◌, ◌≤◌, leb, List, [], ◌∷◌, ◌++◌, length, take, sym, refl, ap, ◌∙◌, subst, ap₂, arith, le-leb, leb-false, leb-true}
use borrow.Author.Tests.{lt-leb}
use Rattle.lex.specs.Below.horn.specs.Refusals.{Refusal, number, not_utf8, nesting, text_ends, stray_closing, Result, ok, ◌>>=◌, need}
use Rattle.lex.specs.Below.horn.specs.Refusals as refusals
use Rattle.lex.specs.Below.horn.specs.Tokens.{Stream, end, bad, ◌▹◌, Token, opening, closing, atom}
use Rattle.lex.specs.Below.horn.specs.NestedLists.{asked_at, absent}
use Rattle.lex.specs.Below.horn.proofs.Counts.{stream_length}
use Rattle.lex.specs.Below.horn.proofs.Equality.{case}
use Rattle.lex.specs.Answers as lexed
use Rattle.lex.specs.declared.Token as read
use Rattle.lex.specs.declared.Token.TheVariants.{Opening, Closing, Atom}
use Rattle.lex.specs.declared.Reader.{Reader}
use Rattle.lex.proofs.Standing.{Stands}
use Rattle.lex.proofs.Readers.{Takes, take_end, take_bad, take_opening, take_closing, take_atom, takes}
use Rattle.sexp.specs.declared.Place.{Place}
use Rattle.sexp.specs.Steps.{On, Refused}
use Rattle.sexp.specs.Walk.{deepest, whole, refused, AnswerAndArea, answering, stepped, area_stepped, ended_at, goes_on, turn, walk}
use Rattle.sexp.proofs.Counting.{counting, member_of}
use Rattle.sexp.proofs.Held.{Held, member_held, opened_held, closed_held}
use Rattle.sexp.proofs.Paths.{end_top, end_deep, end_open, closing_top, closing_on, opening_deep, opening_on, atom_deep, atom_on}
use Rattle.sexp.proofs.Paths.{area_closing, area_opening, area_atom}

-- The walk's answer and words, and the counting's result.
pub data Agrees : AnswerAndArea → Result (List ℕ) → Type 0 where
  agrees_refused : {l : AnswerAndArea} (r : Refusal) → l.answer ≡ refused (number r) → Agrees l (refusals.refused r)
  agrees_whole : {l : AnswerAndArea} (cs : List ℕ) → l.answer ≡ whole (length cs) → take (length cs) l.area ≡ cs → Agrees l (ok cs)

agrees_by : {l l' : AnswerAndArea} {m m' : Result (List ℕ)} → l ≡ l' → m ≡ m' → Agrees l' m' → Agrees l m
agrees_by {l} {l'} {m} {m'} e f a = subst (λ (x : AnswerAndArea). Agrees x m) (sym e) (subst (λ (x : Result (List ℕ)). Agrees l' x) (sym f) a)

-- Asking for an item.
asked : {A : Type 0} (d : ℕ) (f : Unit {0} → Result A) → d ≤ deepest → (asked_at d >>= f) ≡ f tt
unfolding asked_at need ◌>>=◌
asked d f h = rw (le-leb d deepest h, asked_at)

too_deep : {A : Type 0} (d : ℕ) (f : Unit {0} → Result A) → deepest < d → (asked_at d >>= f) ≡ refusals.refused nesting
unfolding asked_at need ◌>>=◌
too_deep d f h = rw (lt-leb d deepest h, asked_at)

-- Either depth.
shallow_or_deep {ℓ} : {C : Type ℓ} (d : ℕ) → (d ≤ deepest → C) → (deepest < d → C) → C
shallow_or_deep d x y = case (leb d deepest) (λ e. x (leb-true d deepest e)) (λ e. y (leb-false d deepest e))

-- The end of the text.
ended_agrees : (p : Place) (area is cs : List ℕ) → Held is cs 0 p area → Agrees (answering (ended_at p) area) (counting is cs end)
unfolding counting absent number
ended_agrees p area [] cs h = agrees_whole cs (end_top p h.depth ∙ ap whole h.openings) h.kept
ended_agrees p area (i ∷ is) cs h =
    let d = h.depth in
    let z : p.depth ≡ 0 → ⊥ = λ e. omega (arith, d, e) in
    shallow_or_deep (suc (length is))
    (λ k. agrees_by refl (asked (suc (length is)) _ k) (agrees_refused text_ends (end_open p z (omega (arith, d, k)))))
    (λ k. agrees_by refl (too_deep (suc (length is)) _ k) (agrees_refused nesting (end_deep p z (omega (arith, d, k)))))

-- One token, where the walk goes on as the counting does.
module _ (on : Reader → Place → List ℕ → AnswerAndArea) (ts : Stream Token) (r : Reader)
    (ih : (p : Place) (area is cs : List ℕ) → Held is cs (stream_length ts) p area → Agrees (on r p area) (counting is cs ts)) where
  goes : (p p' : Place) (area area' : List ℕ) (got : read.Token) → area_stepped got p area ≡ area' → stepped got p ≡ On p'
      → goes_on on r (area_stepped got p area) (stepped got p) ≡ on r p' area'
  unfolding goes_on
  goes p p' area area' got e f = ap₂ (goes_on on r) e f

  stops : (p : Place) (area : List ℕ) (got : read.Token) (n : ℕ) → stepped got p ≡ Refused n
      → (goes_on on r (area_stepped got p area) (stepped got p)).answer ≡ refused n
  unfolding goes_on
  stops p area got n f = ap (λ (l : AnswerAndArea). l.answer) (ap (goes_on on r (area_stepped got p area)) f)

  closing_agrees : (p : Place) (area is cs : List ℕ) → Held is cs (suc (stream_length ts)) p area
      → Agrees (goes_on on r (area_stepped Closing p area) (stepped Closing p)) (counting is cs (closing ▹ ts))
  unfolding counting number
  closing_agrees p area [] cs h = agrees_refused stray_closing (stops p area Closing 6 (closing_top p h.depth))
  closing_agrees p area (i ∷ is) cs h =
      let d = h.depth in
      agrees_by (goes p _ area area Closing (area_closing p area) (closing_on p (λ e. omega (arith, d, e)))) refl
      (ih _ area is cs (closed_held is cs (stream_length ts) p area h))

  atom_agrees : (a e : ℕ) (bytes : List ℕ) (p : Place) (area is cs : List ℕ) → Held is cs (suc (stream_length ts)) p area
      → Agrees (goes_on on r (area_stepped (Atom a e) p area) (stepped (Atom a e) p)) (counting is cs (atom bytes ▹ ts))
  unfolding counting number
  atom_agrees a e bytes p area is cs h =
      let d = h.depth in
      shallow_or_deep (length is)
      (λ k. let z : p.depth ≤ deepest = omega (arith, d, k) in
      agrees_by (goes p p area _ (Atom a e) (area_atom p area a e z) (atom_on p a e z)) (asked (length is) _ k)
      (ih p _ is (member_of is cs) (member_held is cs (stream_length ts) p area h)))
      (λ k. agrees_by refl (too_deep (length is) _ k) (agrees_refused nesting (stops p area (Atom a e) 4 (atom_deep p a e (omega (arith, d, k))))))

  opening_agrees : (p : Place) (area is cs : List ℕ) → Held is cs (suc (stream_length ts)) p area
      → Agrees (goes_on on r (area_stepped Opening p area) (stepped Opening p)) (counting is cs (opening ▹ ts))
  unfolding counting number
  opening_agrees p area is cs h =
      let d = h.depth in
      shallow_or_deep (length is)
      (λ k. let z : p.depth ≤ deepest = omega (arith, d, k) in
      agrees_by (goes p _ area _ Opening (area_opening p area z) (opening_on p z)) (asked (length is) _ k)
      (ih _ _ (length cs ∷ is) (member_of is cs ++ (0 ∷ [])) (opened_held is cs (stream_length ts) p area z h)))
      (λ k. agrees_by refl (too_deep (length is) _ k) (agrees_refused nesting (stops p area Opening 4 (opening_deep p (omega (arith, d, k))))))

-- One turn, by what the reader answers. The walk goes on as the counting does wherever fewer tokens come.
module _ (text : List ℕ) (on : Reader → Place → List ℕ → AnswerAndArea) (few : ℕ)
    (ih : (ts : Stream Token) (r : Reader) → Stands text r ts → stream_length ts < few
    → (p : Place) (area is cs : List ℕ) → Held is cs (stream_length ts) p area → Agrees (on r p area) (counting is cs ts)) where
  turn_agrees : (ts : Stream Token) (a : lexed.Answer) → Takes text ts a → stream_length ts ≤ few
      → (p : Place) (area is cs : List ℕ) → Held is cs (stream_length ts) p area → Agrees (turn on p area a) (counting is cs ts)
  unfolding turn counting stream_length number
  turn_agrees end a take_end f p area is cs h = ended_agrees p area is cs h
  turn_agrees bad a take_bad f p area is cs h = agrees_refused not_utf8 refl
  turn_agrees (opening ▹ ts) a (take_opening {r} st bare) f p area is cs h = opening_agrees on ts r (ih ts r st (omega (arith, f))) p area is cs h
  turn_agrees (closing ▹ ts) a (take_closing {r} st) f p area is cs h = closing_agrees on ts r (ih ts r st (omega (arith, f))) p area is cs h
  turn_agrees (atom bytes ▹ ts) a (take_atom {a = s} {b = e} {r = r} st x y z) f p area is cs h =
      atom_agrees on ts r (ih ts r st (omega (arith, f))) s e bytes p area is cs h

pub simulates : (text : List ℕ) (fuel : ℕ) (ts : Stream Token) (r : Reader) → Stands text r ts → stream_length ts < fuel
    → (p : Place) (area is cs : List ℕ) → Held is cs (stream_length ts) p area
    → Agrees (walk fuel text r p area) (counting is cs ts)
unfolding walk
simulates text zero ts r s f p area is cs h = absurd (omega (arith, f))
simulates text (suc fuel) ts r s f p area is cs h =
    turn_agrees text (walk fuel text) fuel (simulates text fuel) ts (lexed.taken text r) (takes text r ts s) (omega (arith, f)) p area is cs h
