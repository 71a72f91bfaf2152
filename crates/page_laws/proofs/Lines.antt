-- The goals' lines, one behind the other, are the definition's. Assumes nothing.
use Prim.Native.Nat.{ℕ, zero, suc, ◌+◌, ◌*◌, ◌≤◌}
use mathlib.Core.Path.{◌≡◌, ap, sym, ◌∙◌}
use mathlib.Core.List.{List, [], ◌∷◌, ◌++◌, append-nil, append_assoc}
use mathlib.Core.Option.{some}
use native.Mathlib.Omega.{arith}
use lib.ListN.{length, take, get_elem?, length-append}
use Rattle.checker_laws.specs.Below.horn.specs.Checker.{Goal}
use Rattle.checker_laws.specs.Below.horn.specs.Certificate.{Progress}
use Rattle.checker_laws.specs.Below.horn.specs.Page.{line_of, goal_lines}
use Rattle.checker_laws.specs.Below.horn.proofs.Equality.{at_there}
use Rattle.checker_laws.specs.Below.horn.proofs.Inversion.{none-some, some_equal}
use Rattle.page_walks.specs.Below.writing.specs.Buffer.{placed}
use Rattle.page_walks.specs.Below.writing.proofs.Placed.{placed_none, placed-append}
use Rattle.page_walks.specs.Below.pages.specs.Pages.{line_at, lines_to}

module _ (last : Progress) where
  -- One line more.
  lines_more : (gs : List Goal) (k : ℕ) {g : Goal} → get_elem? gs k ≡ some g → goal_lines last (take (suc k) gs) ≡ goal_lines last (take k gs) ++ line_of last g
  unfolding goal_lines
  lines_more [] k e = none-some e
  lines_more (x ∷ gs) zero e = append-nil (line_of last x) ∙ ap (line_of last) (some_equal e)
  lines_more (x ∷ gs) (suc k) {g} e =
      ap (λ z. line_of last x ++ z) (lines_more gs k e) ∙ sym (append_assoc (line_of last x) (goal_lines last (take k gs)) (line_of last g))

  module _ (rulebook text table heap : List ℕ) (goals : List Goal)
      (line : (k : ℕ) (g : Goal) → get_elem? goals k ≡ some g → (out : List ℕ) → line_at rulebook text table heap k out ≡ placed (65 * k) (line_of last g) out)
      (long : (k : ℕ) (g : Goal) → get_elem? goals k ≡ some g → length (line_of last g) ≡ 65) where
    lines_long : (k : ℕ) → k ≤ length goals → length (goal_lines last (take k goals)) ≡ 65 * k
    unfolding goal_lines
    lines_long zero b = omega arith
    lines_long (suc k) b =
        let (g, e) = at_there goals k (omega arith) in
        let h = lines_long k (omega arith) in
        let l = long k g e in
        ap length (lines_more goals k e) ∙ length-append (goal_lines last (take k goals)) (line_of last g) ∙ omega arith

    pub lines_law : (k : ℕ) → k ≤ length goals → (out : List ℕ) → lines_to k rulebook text table heap out ≡ placed 0 (goal_lines last (take k goals)) out
    unfolding lines_to goal_lines
    lines_law zero b out = sym (placed_none 0 out)
    lines_law (suc k) b out =
        let (g, e) = at_there goals k (omega arith) in
        let pre = goal_lines last (take k goals) in
        let at : 65 * k ≡ 0 + length pre = let h = lines_long k (omega arith) in omega arith in
        line k g e (lines_to k rulebook text table heap out)
        ∙ ap (placed (65 * k) (line_of last g)) (lines_law k (omega arith) out)
        ∙ ap (λ p. placed p (line_of last g) (placed 0 pre out)) at
        ∙ placed-append 0 pre (line_of last g) out
        ∙ ap (λ z. placed 0 z out) (sym (lines_more goals k e))
