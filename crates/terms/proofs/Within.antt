-- Terms within terms, on the side of the models: a term is what begins and what then completes it. Assumes nothing.
use Prim.Native.Nat.{ℕ, zero, suc, ◌+◌, ◌-◌, ◌<◌, ◌≤◌}
use mathlib.Core.Path.{◌≡◌, ◌∙◌, refl, ap, sym}
use mathlib.Core.Bool.{Bool, true, false, not}
use mathlib.Core.List.{List}
use native.Mathlib.Omega.{arith}
use lib.Dec.{eqb}
use lib.ListN.{set}
use Rattle.lex.specs.declared.Reader.{Reader}
use Rattle.outcomes.specs.Outcomes.{Outcome, ok, refused, need}
use Rattle.outcomes.specs.Leaving.{Did, ◌leaving◌, ◌>>=◌}
use Rattle.words.specs.Sums.{sum32}
use Rattle.nodes.specs.Below.theory_reading.specs.Storing.{Areas}
use Rattle.nodes.specs.Below.asking.specs.Asking.{Met, atom, list, Ahead, closing, member, item_due, closing_next}
use Rattle.nodes.specs.Nodes.{make, atom_term, head_due}
use Rattle.terms.specs.Terms.{one_more, arguments_from, term_of, term, arguments}
use Rattle.terms.specs.Levels.{Next, none, one, argument_at, argument}
use Rattle.openings.specs.Openings.{Start, closed, whole, opened, look_for, begun_by, begun_at, begun}

-- What follows the arguments of a term in brackets.
abbrev compounded : List ℕ → ℕ → ℕ → Did Areas (ℕ × Reader) → Did Areas (ℕ × Reader)
compounded heap c top read = do
  ((n, r), (store, stack)) ← read
  _ ← need (not (eqb n 0)) 16 leaving (store, stack)
  make heap c top n r store stack

module _ {B : Type 0} (z : Reader → Areas → Did Areas B) (f : (ℕ × Reader) × Areas → Did Areas B) (text rules heap table : List ℕ) (top below : ℕ) where
  -- What completes what began, where `f` goes on with the term and `z` with a closing.
  abbrev completed : Start → Reader → List ℕ → List ℕ → Did Areas B
  completed closed r store stack = z r (store, stack)
  completed (whole k) r store stack = f ((k, r), (store, stack))
  completed (opened c) r store stack = compounded heap c top (arguments below text rules heap table (sum32 top 1) r store stack) >>= f

  abbrev begun_then : Did Areas (Start × Reader) → Did Areas B
  begun_then d = do
    ((b, r), (store, stack)) ← d
    completed b r store stack

  atom_then : (d : Did Areas (ℕ × Reader)) → (d >>= f) ≡ begun_then (d >>= λ x. ok (whole x.0.0, x.0.1) leaving (x.1.0, x.1.1))
  atom_then (ok a leaving s) = refl
  atom_then (refused n leaving s) = refl

  list_then : (o : Outcome (ℕ × Reader)) (store stack : List ℕ)
      → ((o leaving (store, stack) >>= λ x. compounded heap x.0.0 top
      (arguments below text rules heap table (sum32 top 1) x.0.1 x.1.0 x.1.1)) >>= f)
      ≡ begun_then (o leaving (store, stack) >>= λ x. ok (opened x.0.0, x.0.1) leaving (x.1.0, x.1.1))
  list_then (ok a) store stack = refl
  list_then (refused n) store stack = refl

  item_then : (left : ℕ) (o : Outcome Met) (store stack : List ℕ) → below ≡ left - 1
      → ((o leaving (store, stack) >>= λ x. term_of (term below text rules heap table) below text rules heap table top x.0 x.1.0 x.1.1) >>= f)
      ≡ begun_then (o leaving (store, stack) >>= λ x. begun_by left text rules heap table top x.0 x.1.0 x.1.1)
  unfolding arguments
  item_then left (ok (atom s t r)) store stack e = atom_then (atom_term text rules heap table top s t r store stack)
  item_then left (ok (list r)) store stack e = rw (← e) (list_then (head_due text rules heap below r) store stack)
  item_then left (refused n) store stack e = refl

module _ {B : Type 0} (z : Reader → Areas → Did Areas B) (f : (ℕ × Reader) × Areas → Did Areas B) (text rules heap table : List ℕ) (top : ℕ) where
  none_left : (r : Reader) (store stack : List ℕ)
      → (refused 4 leaving (store, stack)) ≡ begun_then z f text rules heap table top (0 - 1) (begun_at 0 text rules heap table top (member r) store stack)
  unfolding item_due
  none_left r store stack = refl

  -- A term is what begins, and what completes that.
  pub term_then : (left : ℕ) (r : Reader) (store stack : List ℕ)
      → (term left text rules heap table top r store stack >>= f)
      ≡ begun_then z f text rules heap table top (left - 1) (begun_at left text rules heap table top (member r) store stack)
  unfolding term
  term_then zero r store stack = none_left r store stack
  term_then (suc left) r store stack =
      let e : suc left - 1 ≡ left = omega arith in
      rw e (item_then z f text rules heap table top left (suc left) (item_due text (suc left) r) store stack (sym e))

-- With nothing behind it.
pub done : {S A : Type 0} (d : Did S A) → (d >>= λ x. ok x.0 leaving x.1) ≡ d
done (ok a leaving s) = refl
done (refused n leaving s) = refl

module _ (left : ℕ) (text rules heap table : List ℕ) (top : ℕ) (r : Reader) (store stack : List ℕ) where
  -- One that is asked for, where a closing is 6.
  pub term-begun : term left text rules heap table top r store stack
      ≡ begun_then (λ q s. refused 6 leaving s) (λ x. ok x.0 leaving x.1) text rules heap table top (left - 1)
      (begun false left text rules heap table top r store stack)
  unfolding begun
  term-begun =
      sym (done (term left text rules heap table top r store stack))
      ∙ term_then (λ q s. refused 6 leaving s) (λ x. ok x.0 leaving x.1) text rules heap table top left r store stack

  -- The same by the item that it is, with no look ahead.
  pub term-item : term left text rules heap table top r store stack
      ≡ begun_then (λ q s. refused 6 leaving s) (λ x. ok x.0 leaving x.1) text rules heap table top (left - 1)
      (begun_at left text rules heap table top (member r) store stack)
  term-item =
      sym (done (term left text rules heap table top r store stack))
      ∙ term_then (λ q s. refused 6 leaving s) (λ x. ok x.0 leaving x.1) text rules heap table top left r store stack

  look_begun : (o : Outcome Ahead)
      → (o leaving (store, stack) >>= λ x. argument_at left text rules heap table top x.0 x.1.0 x.1.1)
      ≡ begun_then (λ q s. ok (none, q) leaving s) (λ x. ok (one x.0.0, x.0.1) leaving (x.1.0, x.1.1)) text rules heap table top (left - 1)
      (o leaving (store, stack) >>= λ x. begun_at left text rules heap table top x.0 x.1.0 x.1.1)
  look_begun (ok (closing q)) = refl
  look_begun (ok (member q)) =
      term_then (λ q s. ok (none, q) leaving s) (λ x. ok (one x.0.0, x.0.1) leaving (x.1.0, x.1.1)) text rules heap table top left q store stack
  look_begun (refused n) = refl

  -- An argument, where it ends them.
  pub argument-begun : argument left text rules heap table top r store stack
      ≡ begun_then (λ q s. ok (none, q) leaving s) (λ x. ok (one x.0.0, x.0.1) leaving (x.1.0, x.1.1)) text rules heap table top (left - 1)
      (begun true left text rules heap table top r store stack)
  unfolding begun argument
  argument-begun = look_begun (closing_next text r)

abbrev opening : Start → ℕ
opening closed = 0
opening (whole k) = 0
opening (opened c) = 1

abbrev openings : Did Areas (Start × Reader) → ℕ
openings (ok a leaving s) = opening a.0
openings (refused n leaving s) = 0

-- Only with some depth left does a list begin.
list_within : (left : ℕ) (text rules heap table : List ℕ) (top : ℕ) (store stack : List ℕ) (o : Outcome Ahead) {c : ℕ} {q : Reader} {s : Areas}
    → (o leaving (store, stack) >>= λ x. begun_at left text rules heap table top x.0 x.1.0 x.1.1) ≡ (ok (opened c, q) leaving s)
    → 0 < left
unfolding item_due
list_within (suc left) text rules heap table top store stack o e = omega arith
list_within zero text rules heap table top store stack (ok (closing q)) e = let x : ◌≡◌ {A = ℕ} 0 1 = ap openings e in absurd (omega arith)
list_within zero text rules heap table top store stack (ok (member q)) e = let x : ◌≡◌ {A = ℕ} 0 1 = ap openings e in absurd (omega arith)
list_within zero text rules heap table top store stack (refused m) e = let x : ◌≡◌ {A = ℕ} 0 1 = ap openings e in absurd (omega arith)

pub opened_within : (m : Bool) (left : ℕ) (text rules heap table : List ℕ) (top : ℕ) (r : Reader) (store stack : List ℕ) {c : ℕ} {q : Reader} {s : Areas}
    → (ok (opened c, q) leaving s) ≡ begun m left text rules heap table top r store stack → 0 < left
unfolding begun
opened_within m left text rules heap table top r store stack e =
    list_within left text rules heap table top store stack (look_for text m r) (sym e)

pub item_within : (left : ℕ) (text rules heap table : List ℕ) (top : ℕ) (r : Reader) (store stack : List ℕ) {c : ℕ} {q : Reader} {s : Areas}
    → (ok (opened c, q) leaving s) ≡ begun_at left text rules heap table top (member r) store stack → 0 < left
item_within left text rules heap table top r store stack e = list_within left text rules heap table top store stack (ok (member r)) (sym e)

module _ (left : ℕ) (text rules heap table : List ℕ) (top n fuel : ℕ) where
  -- What follows an argument, or the closing behind the last.
  abbrev onward : Next → Reader → List ℕ → List ℕ → Did Areas (ℕ × Reader)
  onward none r store stack = ok (n, r) leaving (store, stack)
  onward (one k) r store stack =
      arguments_from (term left text rules heap table) fuel text top (sum32 n 1) r store (set stack (sum32 top n) k)

  abbrev argument_then : Did Areas (Next × Reader) → Did Areas (ℕ × Reader)
  argument_then d = do
    ((a, r), (store, stack)) ← d
    onward a r store stack

  one_then : (d : Did Areas (ℕ × Reader))
      → (d >>= λ x. arguments_from (term left text rules heap table) fuel text top (sum32 n 1) x.0.1 x.1.0 (set x.1.1 (sum32 top n) x.0.0))
      ≡ argument_then (d >>= λ x. ok (one x.0.0, x.0.1) leaving (x.1.0, x.1.1))
  one_then (ok a leaving s) = refl
  one_then (refused m leaving s) = refl

  look_then : (o : Outcome Ahead) (store stack : List ℕ)
      → (o leaving (store, stack) >>= λ x. one_more (term left text rules heap table)
      (arguments_from (term left text rules heap table) fuel text top) top n x.0 x.1.0 x.1.1)
      ≡ argument_then (o leaving (store, stack) >>= λ x. argument_at left text rules heap table (sum32 top n) x.0 x.1.0 x.1.1)
  look_then (ok (closing q)) store stack = refl
  look_then (ok (member q)) store stack = one_then (term left text rules heap table (sum32 top n) q store stack)
  look_then (refused m) store stack = refl

-- One turn of so many,
pub arguments_turn : (left : ℕ) (text rules heap table : List ℕ) (top n : ℕ) (e t : ℕ) (r : Reader) (store stack : List ℕ) → t < e
    → arguments_from (term left text rules heap table) (e - t) text top n r store stack
    ≡ argument_then left text rules heap table top n (e - (t + 1)) (argument left text rules heap table (sum32 top n) r store stack)
unfolding arguments_from argument
arguments_turn left text rules heap table top n e t r store stack l =
    let z : e - t ≡ suc (e - (t + 1)) = omega arith in
    rw z (look_then left text rules heap table top n (e - (t + 1)) (closing_next text r) store stack)

-- and none behind the last.
pub arguments_over : (left : ℕ) (text rules heap table : List ℕ) (top n : ℕ) (e t : ℕ) (r : Reader) (store stack : List ℕ) → e ≤ t
    → arguments_from (term left text rules heap table) (e - t) text top n r store stack ≡ (refused 2 leaving (store, stack))
unfolding arguments_from
arguments_over left text rules heap table top n e t r store stack l = let z : e - t ≡ 0 = omega arith in rw z

pub ruleset within = (term-item, argument-begun, opened_within, item_within, arguments_turn, arguments_over)
