-- "J; closing (else 10); duplicate 13": a form without its closing is refused for that, whatever its name. Assumes nothing.
use Prim.Native.Nat.{ℕ}
use mathlib.Core.Path.{◌≡◌}
use mathlib.Core.Bool.{not}
use mathlib.Core.List.{List}
use Rattle.words.specs.Parts.{part}
use Rattle.lex.specs.declared.Reader.{Reader}
use Rattle.names.specs.Tables.{present}
use Rattle.outcomes.specs.Outcomes.{ok, refused, need}
use Rattle.outcomes.specs.Leaving.{Did, ◌leaving◌, ◌>>=◌}
use Rattle.tables.specs.declared.Tally.{Tally}
use Rattle.tables.specs.Words.{goal_found, goal_added, goal_counted}
use Rattle.asking.specs.Asking.{in_form, closing_due}
use Rattle.judgments.specs.Judgments.{judgment}
use Rattle.goals.specs.Goals.{Gathered, goal_name, goal}

module _ (text : List ℕ) (tally : Tally) (s t k : ℕ) (store stack table : List ℕ) where
  -- What is done behind the judgment.
  abbrev behind : Reader → Did Gathered (Tally × Reader)
  behind p = do
    (q, _) ← closing_due text p leaving ((store, stack), table)
    _ ← need (not (present (goal_found text (part s t text) table))) 13 leaving ((store, stack), table)
    ok (goal_counted tally, q) leaving ((store, stack), goal_added text s t k tally table)

  closing_first : (p : Reader) {n : ℕ} → closing_due text p ≡ refused n → behind p ≡ (refused n leaving ((store, stack), table))
  closing_first p e = rw e

-- For a reader of these files; no other theorem uses it.
pub unclosed : (text rules heap : List ℕ) (tally : Tally) (r : Reader) (store stack table : List ℕ)
    {s t k n : ℕ} {q p : Reader} {store' stack' : List ℕ}
    → goal_name text r ≡ ok (s, t, q)
    → judgment in_form text rules heap table 0 q store stack ≡ (ok (k, p) leaving (store', stack'))
    → closing_due text p ≡ refused n
    → goal text rules heap tally r store stack table ≡ (refused n leaving ((store', stack'), table))
unfolding goal
unclosed text rules heap tally r store stack table {s} {t} {k} {p} {store'} {stack'} named judged e =
    rw (named, judged) (closing_first text tally s t k store' stack' table p e)
