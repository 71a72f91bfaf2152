-- One turn of the loop over declarations, and the second walk behind the first, on the side of the models.
use Prim.Native.Nat.{ℕ, suc, ◌+◌, ◌-◌, ◌<◌, ◌≤◌}
use mathlib.Core.Path.{◌≡◌}
use mathlib.Core.List.{List}
use native.Mathlib.Omega.{arith}
use Rattle.words.specs.Parts.{cleared}
use Rattle.sexp.specs.Walk as sexp
use Rattle.sexp.specs.Walk.{walked}
use Rattle.outcomes.specs.Outcomes.{Outcome, ok, refused}
use Rattle.outcomes.specs.Leaving.{◌leaving◌}
use Rattle.rules.specs.Below.variables.specs.Variables.{Areas}
use Rattle.items.specs.Places as places
use Rattle.items.specs.declared.Walk.{Walk}
use Rattle.theory.specs.Declarations.{another, nothing, declaration, counted, more_due, declarations_from, declarations}
use Rattle.theory.specs.Walks.{theory}
use Rattle.theory.specs.declared.Form.{Form}
use Rattle.theory.specs.declared.Counts.{Counts}

module _ (text counts : List ℕ) (n i : ℕ) (c : Counts) (w : Walk) (vars heap : List ℕ) where
  pub declarations_short : n ≤ i → declarations_from (n - i) text counts c w vars heap ≡ (refused 4 leaving (vars, heap))
  unfolding declarations_from
  declarations_short l = let e : n - i ≡ 0 = omega arith in rw e

  pub look_refused : {m : ℕ} → i < n → more_due text w ≡ refused m → declarations_from (n - i) text counts c w vars heap ≡ (refused m leaving (vars, heap))
  unfolding declarations_from
  look_refused l h = let e : n - i ≡ suc (n - (i + 1)) = omega arith in rw (e, h)

  pub declarations_end : i < n → more_due text w ≡ ok nothing → declarations_from (n - i) text counts c w vars heap ≡ (ok c leaving (vars, heap))
  unfolding declarations_from
  declarations_end l h = let e : n - i ≡ suc (n - (i + 1)) = omega arith in rw (e, h)

  pub declaration-refused : {v : Walk} {m : ℕ} {after : Areas} → i < n → more_due text w ≡ ok (another v)
      → declaration text counts v vars heap ≡ (refused m leaving after)
      → declarations_from (n - i) text counts c w vars heap ≡ (refused m leaving after)
  unfolding declarations_from
  declaration-refused l h g = let e : n - i ≡ suc (n - (i + 1)) = omega arith in rw (e, h, g)

  pub declarations_on : {v q : Walk} {form : Form} {vars' heap' : List ℕ} → i < n → more_due text w ≡ ok (another v)
      → declaration text counts v vars heap ≡ (ok (form, q) leaving (vars', heap'))
      → declarations_from (n - i) text counts c w vars heap ≡ declarations_from (n - (i + 1)) text counts (counted c form) q vars' heap'
  unfolding declarations_from
  declarations_on l h g = let e : n - i ≡ suc (n - (i + 1)) = omega arith in rw (e, h, g)

-- The first walk read the text whole, the buckets were cleared, and the second walk judged it;
pub second_walk : (text vars counts heap : List ℕ) {n : ℕ} {counts' heap' : List ℕ} {o : Outcome Counts} {vars' heap'' : List ℕ}
    → sexp.whole n ≡ (walked text counts).answer → counts' ≡ (walked text counts).area
    → heap' ≡ cleared places.entries heap → (o leaving (vars', heap'')) ≡ declarations text counts' vars heap'
    → theory text vars counts heap ≡ (o leaving (vars', counts', heap''))
unfolding theory
second_walk text vars counts heap answered counted_in emptied judged = rw (← answered, ← counted_in, ← emptied, ← judged)

-- or the first walk refused it.
pub first_walk : (text vars counts heap : List ℕ) {m : ℕ} {counts' : List ℕ}
    → sexp.refused m ≡ (walked text counts).answer → counts' ≡ (walked text counts).area
    → theory text vars counts heap ≡ (refused m leaving (vars, counts', heap))
unfolding theory
first_walk text vars counts heap answered counted_in = rw (← answered, ← counted_in)

pub ruleset turns = (declarations_short, look_refused, declarations_end, declaration-refused, declarations_on)

pub ruleset walks = (second_walk, first_walk)
