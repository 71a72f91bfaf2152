-- "T; duplicate 13; closing": an abbreviation that is known is refused for that, whatever stands behind it. Assumes nothing.
use Prim.Native.Nat.{ℕ}
use mathlib.Core.Path.{◌≡◌}
use mathlib.Core.Bool.{true, not}
use mathlib.Core.List.{List}
use Rattle.words.specs.Parts.{part}
use Rattle.lex.specs.declared.Reader.{Reader}
use Rattle.names.specs.Tables.{present}
use Rattle.outcomes.specs.Outcomes.{ok, refused, need}
use Rattle.outcomes.specs.Leaving.{Did, ◌leaving◌, ◌>>=◌}
use Rattle.nodes.specs.Below.theory_reading.specs.Storing.{Areas}
use Rattle.tables.specs.declared.Tally.{Tally}
use Rattle.tables.specs.Words.{def_found, def_added, def_counted}
use Rattle.asking.specs.Asking.{in_form, closing_due}
use Rattle.nodes.specs.Limits.{def_buckets}
use Rattle.terms.specs.Terms.{term}
use Rattle.forms.specs.Forms.{def_named, def_form}

module _ (text : List ℕ) (tally : Tally) (s t k : ℕ) (store stack table : List ℕ) where
  -- What is done behind the term.
  abbrev behind : Reader → Did (Areas × List ℕ) (Tally × Reader)
  behind p = do
    _ ← need (not (present (def_found def_buckets text (part s t text) table))) 13 leaving ((store, stack), table)
    (q, _) ← closing_due text p leaving ((store, stack), table)
    ok (def_counted tally, q) leaving ((store, stack), def_added def_buckets text s t k tally table)

  duplicate_first : (p : Reader) → present (def_found def_buckets text (part s t text) table) ≡ true → behind p ≡ (refused 13 leaving ((store, stack), table))
  duplicate_first p e = rw e

pub known_def : (text rules heap : List ℕ) (tally : Tally) (r : Reader) (store stack table : List ℕ)
    {s t k : ℕ} {q p : Reader} {store' stack' : List ℕ}
    → def_named text r ≡ ok (s, t, q)
    → term in_form text rules heap table 0 q store stack ≡ (ok (k, p) leaving (store', stack'))
    → present (def_found def_buckets text (part s t text) table) ≡ true
    → def_form text rules heap tally r store stack table ≡ (refused 13 leaving ((store', stack'), table))
unfolding def_form
known_def text rules heap tally r store stack table {s} {t} {k} {p} {store'} {stack'} named read e =
    rw (named, read) (duplicate_first text tally s t k store' stack' table p e)
