-- The items of a step: what each function answers, and what it leaves of the store, of the stack and of the theory's area with its bindings.
use Rattle.std.specs.Prelude.{ℕ, zero, suc, ◌+◌, List, eqb, length}
use Rattle.words.specs.Sums.{sum32}
use Rattle.lex.specs.declared.Reader.{Reader}
use Rattle.outcomes.specs.Outcomes.{ok, refused, need, pick}
use Rattle.outcomes.specs.Leaving.{Did, ◌leaving◌, ◌>>=◌}
use Rattle.items.specs.Items.{question}
use Rattle.nodes.specs.Below.theory_reading.specs.Storing.{before}
use Rattle.asking.specs.Asking.{in_form, in_list, Ahead, closing, member, atom_due, list_due, closing_next}
use Rattle.judgments.specs.Judgments.{headed_judgment}
use Rattle.step_bindings.specs.StepBindings.{Worked, binding}

-- "Otherwise a judgment; a second, once read, is 22." Its head was asked for. A stated conclusion is kept as its number plus 1.
unfoldable pub stated : List ℕ → List ℕ → List ℕ → ℕ → ℕ → ℕ → ℕ → Reader → List ℕ → List ℕ → List ℕ → Did Worked (ℕ × Reader)
stated text rules table top word s t r store stack heap = do
  ((k, r), areas) ← before heap (headed_judgment in_list text rules heap table top s t r store stack)
  _ ← need (eqb word 0) 22 leaving areas
  ok (sum32 k 1, r) leaving areas

-- An item by its head, which was asked for.
unfoldable pub headed_item : List ℕ → List ℕ → List ℕ → ℕ → ℕ → ℕ → ℕ → ℕ → Reader → List ℕ → List ℕ → List ℕ → Did Worked (ℕ × Reader)
headed_item text rules table rule top word s t r store stack heap =
    pick (question text s)
    (λ _. binding text rules table rule top s t r store stack heap >>= λ p. ok (word, p.0) leaving p.1)
    (λ _. stated text rules table top word s t r store stack heap)

-- "An item is a list with an atom head; after 4, 5 and 6, an answer that is no atom there is refused 7."
unfoldable pub item : List ℕ → List ℕ → List ℕ → ℕ → ℕ → ℕ → Reader → List ℕ → List ℕ → List ℕ → Did Worked (ℕ × Reader)
item text rules table rule top word r store stack heap = do
  (r, _) ← list_due text in_form r leaving ((store, stack), heap)
  ((s, t, r), _) ← atom_due text in_list r leaving ((store, stack), heap)
  headed_item text rules table rule top word s t r store stack heap

-- One item more, and those behind it.
abbrev pub one_item : (ℕ → Reader → List ℕ → List ℕ → List ℕ → Did Worked (ℕ × Reader)) → List ℕ → List ℕ → List ℕ → ℕ → ℕ → ℕ → Ahead → List ℕ → List ℕ → List ℕ
    → Did Worked (ℕ × Reader)
one_item on text rules table rule top word (closing r) store stack heap = ok (word, r) leaving ((store, stack), heap)
one_item on text rules table rule top word (member r) store stack heap = do
  ((word, r), ((store, stack), heap)) ← item text rules table rule top word r store stack heap
  on word r store stack heap

-- "Item...", asked for until a closing is next. `fuel` is a bound on their number.
unfoldable pub items_from : ℕ → List ℕ → List ℕ → List ℕ → ℕ → ℕ → ℕ → Reader → List ℕ → List ℕ → List ℕ → Did Worked (ℕ × Reader)
items_from zero text rules table rule top word r store stack heap = refused 2 leaving ((store, stack), heap)
items_from (suc fuel) text rules table rule top word r store stack heap = do
  (next, _) ← closing_next text r leaving ((store, stack), heap)
  one_item (items_from fuel text rules table rule top) text rules table rule top word next store stack heap

-- All items of a step: the stated conclusion's number plus 1, or 0; and the reader after the closing.
unfoldable pub items : List ℕ → List ℕ → List ℕ → ℕ → ℕ → Reader → List ℕ → List ℕ → List ℕ → Did Worked (ℕ × Reader)
items text rules table rule top r store stack heap = items_from (length text + 1) text rules table rule top 0 r store stack heap
