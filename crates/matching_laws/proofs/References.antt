-- The references of a step on the stack: none, one more, and what keeps them. Assumes nothing.
use mathlib.Core.Path.{◌≡◌, refl}
use mathlib.Core.List.{List, [], ◌∷◌, ◌++◌}
use Prim.Native.Nat.{ℕ, ◌+◌, ◌≤◌, ◌<◌}
use native.Mathlib.Omega.{arith}
use borrow.Author.Tests.{ltb-true, ltb-false}
use lib.Dec.{ltb}
use lib.ListN.{length, get_or, set}
use lib.Seq.{get_or-set_same}
use Rattle.numerals.specs.Below.horn.proofs.Equality.{case}
use Rattle.numerals.specs.Numbers.{saturated}
use Rattle.concluding.specs.Below.theory_laws.proofs.Frames.{Keeps, keeps_set}
use Rattle.matching_laws.proofs.Relations.{Saturates, as_it_is, at_most, ReferencesAt, no_references, one_reference}

-- A number saturated is held.
pub saturates : (n : ℕ) → Saturates (saturated n) n
unfolding saturated
saturates n =
    case (ltb n 4294967295)
    (λ t. rw (t, saturated) (as_it_is refl (ltb-true n 4294967295 t)))
    (λ t. rw (t, saturated) (at_most refl (ltb-false n 4294967295 t)))

-- Whatever keeps the words keeps the references.
pub references_kept : {stack stack' : List ℕ} {k p : ℕ} {ns : List ℕ} → Keeps p stack stack' → k + length ns ≤ p → ReferencesAt stack k ns
    → ReferencesAt stack' k ns
references_kept s l no_references = no_references
references_kept {stack} {stack'} {k} s l (one_reference {n} r rs) =
    let e : get_or stack' k 0 ≡ get_or stack k 0 = s.words k (omega arith) in
    let z : Saturates (get_or stack' k 0) n = rw e r in
    one_reference z (references_kept s (omega arith) rs)

-- One more, behind them.
last : {stack : List ℕ} {k : ℕ} (ns : List ℕ) {n : ℕ} (p : ℕ) → p ≡ k + length ns → ReferencesAt stack k ns → Saturates (get_or stack p 0) n
    → ReferencesAt stack k (ns ++ (n ∷ []))
last {stack} {k} [] p e no_references s = let z : p ≡ k = omega arith in one_reference (rw z at s) no_references
last {stack} {k} (m ∷ ns) p e (one_reference r rs) s = one_reference r (last {k = k + 1} ns p (omega arith) rs s)

pub references_more : {stack : List ℕ} {ns : List ℕ} (p word n : ℕ) → p ≡ length ns → p < length stack → Saturates word n → ReferencesAt stack 0 ns
    → ReferencesAt (set stack p word) 0 (ns ++ (n ∷ []))
references_more {stack} {ns} p word n e l s r =
    last ns p (omega arith) (references_kept (keeps_set p stack p word (omega arith)) (omega arith) r)
    (rw (get_or-set_same stack p word 0 l) s)
