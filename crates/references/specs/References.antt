-- The head of a step and its references: what each function answers, and what it leaves of the stack.
use Rattle.std.specs.Prelude.{ℕ, zero, suc, ◌+◌, List, eqb, length, set}
use Rattle.numerals.specs.Below.horn.specs.Checker.{numeral}
use Rattle.words.specs.Parts.{part}
use Rattle.words.specs.Sums.{sum32}
use Rattle.lex.specs.declared.Reader.{Reader}
use Rattle.numerals.specs.Numbers.{saturated}
use Rattle.outcomes.specs.Outcomes.{Outcome, ok, refused, need, or_else}
use Rattle.outcomes.specs.Outcomes as outcomes
use Rattle.outcomes.specs.Leaving.{Did, ◌leaving◌, ◌>>=◌}
use Rattle.theory_reading.specs.Reading.{rule_found, premise_count}
use Rattle.asking.specs.Asking.{in_form, in_list, Ahead, closing, member, atom_due, list_due, closing_next}

-- "I as a number, 18": an atom, asked for with that much depth left, and the reader after it.
unfoldable pub number_due : List ℕ → ℕ → Reader → Outcome (ℕ × Reader)
number_due text left r =
    outcomes.◌>>=◌ (atom_due text left r) (λ p.
    outcomes.◌>>=◌ (or_else (numeral (part p.0 p.1 text)) 18) (λ n. ok (n, p.2)))

-- One reference more, kept as a word of the stack, and those behind it.
abbrev pub one_reference : (ℕ → Reader → List ℕ → Did (List ℕ) (ℕ × Reader)) → List ℕ → ℕ → Ahead → List ℕ → Did (List ℕ) (ℕ × Reader)
one_reference on text n (closing r) stack = ok (n, r) leaving stack
one_reference on text n (member r) stack = do
  ((i, r), stack) ← number_due text in_list r leaving stack
  on (sum32 n 1) r (set stack n (saturated i))

-- References from the n-th on, "each 18", asked for until a closing is next. `fuel` is a bound on their number.
unfoldable pub references_from : ℕ → List ℕ → ℕ → Reader → List ℕ → Did (List ℕ) (ℕ × Reader)
references_from zero text n r stack = refused 2 leaving stack
references_from (suc fuel) text n r stack = do
  (next, stack) ← closing_next text r leaving stack
  one_reference (references_from fuel text) text n next stack

-- "List of references", to the stack from its first word on: their number, and the reader after the closing.
unfoldable pub references : List ℕ → Reader → List ℕ → Did (List ℕ) (ℕ × Reader)
references text r stack = references_from (length text + 1) text 0 r stack

-- "I (18), not the number of steps so far 19; R 12; list": the rule's address, and the reader after the list's opening.
unfoldable pub rule_due : List ℕ → List ℕ → List ℕ → ℕ → Reader → Outcome (ℕ × Reader)
rule_due text rules heap steps r =
    outcomes.◌>>=◌ (number_due text in_form r) (λ p.
    outcomes.◌>>=◌ (need (eqb p.0 steps) 19) (λ _.
    outcomes.◌>>=◌ (atom_due text in_form p.1) (λ q.
    outcomes.◌>>=◌ (or_else (rule_found heap rules (part q.0 q.1 text)) 12) (λ e.
    outcomes.◌>>=◌ (list_due text in_form q.2) (λ r. ok (e, r))))))

-- "List of references, each 18; their count 20".
unfoldable pub counted_references : List ℕ → List ℕ → ℕ → Reader → List ℕ → Did (List ℕ) (ℕ × Reader)
counted_references text heap rule r stack = do
  ((n, r), stack) ← references text r stack
  _ ← need (eqb n (premise_count heap rule)) 20 leaving stack
  ok (n, r) leaving stack
