-- Where a reader stands, in the definition's items: before an item, or before what is left of a list; and what holds of the
-- tokens behind it. So what is read inside a list keeps what stands around it without naming it. Assumes nothing.
use Prim.Native.Nat.{ℕ, suc, ◌+◌, ◌≤◌}
use mathlib.Core.Path.{◌≡◌, refl}
use mathlib.Core.List.{List}
use lib.ListN.{length}
use native.Mathlib.Omega.{arith}
use Rattle.theory_laws.specs.Below.horn.specs.Tokens.{Stream, end, bad, ◌▹◌, Token, opening, closing, atom, tokens}
use Rattle.theory_laws.specs.Below.horn.specs.NestedLists.{Item, word, group, Items, closed, ended, bad_line, ◌then◌, Around, at_end, at_bad_line, ◌inside◌, innermost}
use Rattle.theory_laws.specs.Below.horn.specs.NestedLists.{outer, add, around, items}
use Rattle.asking.specs.Below.lex.specs.Answers.{start}
use Rattle.asking.specs.Below.lex.specs.declared.Reader.{Reader}
use Rattle.asking.specs.Below.lex.proofs.Standing.{Stands, start_stands}
use Rattle.theory_laws.specs.Reading.{weight}
use Rattle.theory_laws.proofs.Weights.{light_tokens}

-- The tokens begin with this one, and K holds of the others.
pub record Begins (t : Token) (K : Stream Token → Type 0) (s : Stream Token) : Type 0 where
  pub others : Stream Token
  pub next : s ≡ t ▹ others
  pub on : K others

-- An item comes, and K holds of the tokens behind it. The rest of a list comes, these items, and K holds of the tokens behind its
-- closing.
unfoldable mutual
  pub Comes : Item → (Stream Token → Type 0) → Stream Token → Type 0
  Comes (word bytes) K s = Begins (atom bytes) K s
  Comes (group inner) K s = Begins opening (λ u. RestComes inner K u) s

  pub RestComes : Items → (Stream Token → Type 0) → Stream Token → Type 0
  RestComes closed K s = Begins closing K s
  RestComes ended K s = s ≡ end
  RestComes bad_line K s = s ≡ bad
  RestComes (item then rest) K s = Comes item (λ u. RestComes rest K u) s

pub then_on : {t : Token} {K L : Stream Token → Type 0} → ((s : Stream Token) → K s → L s) → {s : Stream Token} → Begins t K s → Begins t L s
then_on f b = record { others = b.others; next = b.next; on = f b.others b.on }

-- What holds behind may be weakened.
mutual
  unfolding Comes RestComes

  pub comes_more : (item : Item) {K L : Stream Token → Type 0} → ((s : Stream Token) → K s → L s) → (s : Stream Token) → Comes item K s → Comes item L s
  comes_more (word bytes) f s c = then_on f c
  comes_more (group inner) f s c = then_on (λ u d. rest_more inner f u d) c

  pub rest_more : (is : Items) {K L : Stream Token → Type 0} → ((s : Stream Token) → K s → L s) → (s : Stream Token) → RestComes is K s → RestComes is L s
  rest_more closed f s c = then_on f c
  rest_more ended f s c = c
  rest_more bad_line f s c = c
  rest_more (item then rest) f s c = comes_more item (λ u d. rest_more rest f u d) s c

-- Where the text ends, all lists end alike.
unfoldable Stacked : Around → Stream Token → Type 0
Stacked at_end s = s ≡ end
Stacked at_bad_line s = s ≡ bad
Stacked (is inside a) s = RestComes is (Stacked a) s

inward : (a : Around) (s : Stream Token) → Stacked a s → RestComes (innermost a) (Stacked (outer a)) s
unfolding innermost outer Stacked RestComes
inward at_end s h = h
inward at_bad_line s h = h
inward (is inside a) s h = h

around_stacked : (s : Stream Token) → Stacked (around s) s
unfolding around add Stacked RestComes Comes
around_stacked end = refl
around_stacked bad = refl
around_stacked (closing ▹ s) = record { others = s; next = refl; on = around_stacked s }
around_stacked (atom bytes ▹ s) = record { others = s; next = refl; on = inward (around s) s (around_stacked s) }
around_stacked (opening ▹ s) =
    record {
      others = s;
      next = refl;
      on = rest_more (innermost (around s)) (inward (outer (around s))) s (inward (around s) s (around_stacked s));
    }

-- At top level nothing is asked of what stands behind a closing.
abbrev pub Any : Stream Token → Type 0
Any s = Unit {0}

pub items_come : (s : Stream Token) → RestComes (items s) Any s
unfolding items
items_come s = rest_more (innermost (around s)) (λ _ _. tt) s (inward (around s) s (around_stacked s))

-- A reader before tokens of which K holds. Of the bytes of atoms, with one byte for each that parts it from the next, so
-- many are spent.
pub record At (text : List ℕ) (K : Stream Token → Type 0) (spent : ℕ) (r : Reader) : Type 0 where
  pub coming : Stream Token
  pub stands : Stands text r coming
  pub here : K coming
  pub light : spent + weight coming ≤ suc (length text)

pub at_start : (text : List ℕ) → At text (RestComes (items (tokens text)) Any) 0 start
at_start text =
    record {
      coming = tokens text;
      stands = start_stands text;
      here = items_come (tokens text);
      light = let h = light_tokens text in omega arith;
    }

-- Less may be said to be spent.
pub at_less : {text : List ℕ} {K : Stream Token → Type 0} {n : ℕ} {r : Reader} (m : ℕ) → m ≤ n → At text K n r → At text K m r
at_less m l a =
    record { coming = a.coming; stands = a.stands; here = a.here; light = let h = a.light in omega arith }

pub at_within : {text : List ℕ} {K : Stream Token → Type 0} {n : ℕ} {r : Reader} → At text K n r → n ≤ suc (length text)
at_within a = let h = a.light in omega arith
