-- The comparison of the code is the definition's, for bytes and words alike. Assumes nothing.
use Prim.Native.Nat.{ℕ}
use mathlib.Core.Path.{◌≡◌, refl, sym, ◌∙◌}
use mathlib.Core.List.{List, [], ◌∷◌}
use lib.Dec.{eqb}
use Rattle.words.specs.Parts.{same_bytes}
use Rattle.horn.specs.Names.{named, same_list}
use Rattle.horn.proofs.Equality.{Decides, case, named_decides}

pub same_named : (a b : List ℕ) → same_bytes a b ≡ named a b
unfolding same_bytes named same_list
same_named [] [] = refl
same_named [] (y ∷ b) = refl
same_named (x ∷ a) [] = refl
same_named (x ∷ a) (y ∷ b) = case (eqb x y) (λ t. rw (t, same_bytes, same_list) (same_named a b)) (λ t. rw (t, same_bytes, same_list))

pub words_decide : Decides same_bytes
words_decide =
    record {
      equal = λ x y e. named_decides.equal x y (sym (same_named x y) ∙ e);
      same = λ x. same_named x x ∙ named_decides.same x;
    }
