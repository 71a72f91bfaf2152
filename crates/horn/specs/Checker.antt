-- "Goals, steps, results" in document 01, its first part: what is read anywhere in goals and certificate, and the goals.
use Rattle.std.specs.Prelude.{ℕ, suc, ◌+◌, ◌*◌, ◌-◌, ◌^◌, Bool, true, false, not, ◌&&◌, List, [], ◌∷◌, ◌++◌, eqb, ltb, length}
use Rattle.std.proofs.Math.Option.{Option, none, some}
use Rattle.horn.specs.Refusals.{Result, ok, refused, need, found, ◌>>=◌ as ◌>>=ᵣ◌}
use Rattle.horn.specs.Refusals.{not_utf8, text_ends, stray_closing, atom_or_list, form, excess, variable_name, unknown}
use Rattle.horn.specs.Refusals.{duplicate, sort_arity, bracketed_constant, no_goal, not_number}
use Rattle.horn.specs.Setting.{Setting}
use Rattle.horn.specs.Utf8.{range, within}
use Rattle.horn.specs.Tokens.{tokens}
use Rattle.horn.specs.NestedLists.{Item, word, group, Items, closed, ended, bad_line, ◌then◌, items, asked_at, absent}
use Rattle.horn.specs.Names.{Name, named, codes, questioned, first, is_zero, some_of}
use Rattle.horn.specs.Rulebook.{Symbol, inputs, output, same_output, sort, Theory, constructor, predicate}
use Rattle.horn.specs.StoredTerms.{Term, node, Terms, []ₜ, ◌∷ₜ◌, Store, width, request}

-- Reading with the store at hand: a value and the store afterwards, or the first refusal.
abbrev pub Reading : Type 0 → Type 0
Reading A = Store → Result (A × Store)

-- One reading after another.
infixl 10 ◌>>=◌
unfoldable pub ◌>>=◌ : {A B : Type 0} → Reading A → (A → Reading B) → Reading B
(m >>= f) store = m store >>=ᵣ λ p. f p.0 p.1

-- A value that is there without reading.
unfoldable pub give : {A : Type 0} → A → Reading A
give a store = ok (a, store)

-- What does not touch the store.
unfoldable pub lift : {A : Type 0} → Result A → Reading A
lift r store = r >>=ᵣ λ a. ok (a, store)

-- "A list where an atom is due, or the reverse, is 7." What must be an atom.
unfoldable pub word_due : Item → Result Name
word_due (word name) = ok name
word_due (group inner) = refused atom_or_list

-- "A list where an atom is due, or the reverse, is 7." What must be a list.
unfoldable pub group_due : Item → Result Items
group_due (word name) = refused atom_or_list
group_due (group inner) = ok inner

-- "All members are asked for as above": the next item, and what follows it. No look ahead comes first: "in goals and certificate a head is
-- asked for without it", and for any other member that is asked for here, at depth 1 or 2, it would make no difference.
unfoldable pub ask : ℕ → Items → Result (Item × Items)
ask depth closed = absent depth stray_closing
ask depth ended = absent depth text_ends
ask depth bad_line = absent depth not_utf8
ask depth (item then rest) = asked_at depth >>=ᵣ λ _. ok (item, rest)

-- The next item, where an atom is due: "A list where an atom is due, or the reverse, is 7."
unfoldable pub ask_word : ℕ → Items → Result (Name × Items)
ask_word depth is = ask depth is >>=ᵣ λ p. word_due p.0 >>=ᵣ λ name. ok (name, p.1)

-- The next item, where a list is due: "A list where an atom is due, or the reverse, is 7."
unfoldable pub ask_group : ℕ → Items → Result (Items × Items)
ask_group depth is = ask depth is >>=ᵣ λ p. group_due p.0 >>=ᵣ λ inner. ok (inner, p.1)

-- "Where a closing is due, end of text is 5 and any other token 10."
unfoldable pub closing_due : Items → Result (Unit {0})
closing_due closed = ok tt
closing_due ended = refused text_ends
closing_due bad_line = refused not_utf8
closing_due (item then rest) = refused excess

-- "A number is an optional `+`, then one or more ASCII digits, below 2 to the 64." The digits, after those that give n.
unfoldable pub decimal : ℕ → Name → Option ℕ
decimal n [] = elim (ltb n (2 ^ 64)) [ true ↦ some n | false ↦ none ]
decimal n (b ∷ bs) = elim (within (range 0x30 0x39) b) [ true ↦ decimal (n * 10 + (b - 0x30)) bs | false ↦ none ]

-- "One or more ASCII digits": a number without a sign.
unfoldable pub digits : Name → Option ℕ
digits [] = none
digits (b ∷ bs) = decimal 0 (b ∷ bs)

-- "An optional `+`": a number.
unfoldable pub numeral : Name → Option ℕ
numeral [] = none
numeral (b ∷ bs) = elim (eqb b 0x2B) [ true ↦ digits bs | false ↦ digits (b ∷ bs) ]

-- "I as a number, 18".
unfoldable pub number_due : Item → Result ℕ
number_due item = word_due item >>=ᵣ λ name. found (numeral name) not_number

-- The next item, where a number is due.
unfoldable pub ask_number : ℕ → Items → Result (ℕ × Items)
ask_number depth is = ask depth is >>=ᵣ λ p. number_due p.0 >>=ᵣ λ n. ok (n, p.1)

-- An abbreviation: its name, and the term that it stands for.
pub data Def : Type 0 where
  def : Name → Term → Def

-- A goal: its name, and its judgment.
pub data Goal : Type 0 where
  goal : Name → Term → Goal

-- Whether an abbreviation has this name.
unfoldable pub is_def : Name → Def → Bool
is_def name (def n t) = named name n

-- What an abbreviation stands for.
unfoldable pub meaning : Def → Term
meaning (def n t) = t

-- "A goal's judgment is the J of its form."
unfoldable pub goal_judgment : Goal → Term
goal_judgment (goal name j) = j

-- Whether a goal has this name.
unfoldable pub is_goal : Name → Goal → Bool
is_goal name (goal n j) = named name n

-- Whether a term has this sort: for "15 for arity and sorts" and for "wrong sort 21".
unfoldable pub has_sort : Name → Term → Bool
has_sort s (node c ts) = same_output (output c) (sort s)

-- "Arity and sorts": as many terms as inputs, each of its input's sort.
unfoldable pub accepts : List Name → Terms → Bool
accepts [] []ₜ = true
accepts [] (t ∷ₜ ts) = false
accepts (s ∷ ss) []ₜ = false
accepts (s ∷ ss) (t ∷ₜ ts) = has_sort s t && accepts ss ts

-- A term that is put into the store, if it is not there yet. Nothing else is a request to the store.
unfoldable pub stored : Setting → Term → Reading Term
stored limits t store = request limits t store >>=ᵣ λ after. ok (t, after)

-- "Then 15 for arity and sorts, then the store."
unfoldable pub make : Setting → Symbol → Terms → Reading Term
make limits c ts = do
  _ ← lift (need (accepts (inputs c) ts) sort_arity)
  stored limits (node c ts)

module _ (limits : Setting) (th : Theory) where
  -- "An atom with a leading `?`, `?` alone too, is an earlier abbreviation (12). An atom or head is a constructor (12)."
  unfoldable pub atom_term : List Def → Name → Reading Term
  atom_term defs name =
      elim (questioned name) [
        | true ↦ lift (found (first (is_def name) defs) unknown) >>= λ d. give (meaning d)
        | false ↦ lift (constructor th name) >>= λ c. make limits c []ₜ
      ]

  -- "A term reads its arguments, and each argument is a term": an item that was asked for at a depth.
  unfoldable mutual
    pub term : List Def → ℕ → Item → Reading Term
    term defs depth (word name) = atom_term defs name
    term defs depth (group inner) = compound_term defs (suc depth) inner

    -- "After the closing come 16 for a bracketed constructor without arguments, then 15 for arity and sorts, then the
    -- store." Its head is asked for without a look ahead.
    pub compound_term : List Def → ℕ → Items → Reading Term
    compound_term defs depth closed = lift (absent depth stray_closing)
    compound_term defs depth ended = lift (absent depth text_ends)
    compound_term defs depth bad_line = lift (absent depth not_utf8)
    compound_term defs depth (item then rest) = do
      _ ← lift (asked_at depth)
      name ← lift (word_due item)
      c ← lift (constructor th name)
      ts ← arguments defs depth rest
      _ ← lift (need (not (is_zero (width ts))) bracketed_constant)
      make limits c ts

    -- "Each argument is a term", asked for until a closing is next.
    pub arguments : List Def → ℕ → Items → Reading Terms
    arguments defs depth closed = give []ₜ
    arguments defs depth bad_line = lift (refused not_utf8)
    arguments defs depth ended = lift (absent depth text_ends)
    arguments defs depth (item then rest) = do
      _ ← lift (asked_at depth)
      t ← term defs depth item
      ts ← arguments defs depth rest
      give (t ∷ₜ ts)

  -- The next item, where a term is due.
  unfoldable pub ask_term : List Def → ℕ → Items → Reading (Term × Items)
  ask_term defs depth is = do
    (item, rest) ← lift (ask depth is)
    t ← term defs depth item
    give (t, rest)

  -- "Judgment: list, head a predicate (12), arguments, 15, store." Here its head was asked for and is a name.
  unfoldable pub headed_judgment : List Def → ℕ → Name → Items → Reading Term
  headed_judgment defs depth name rest = do
    p ← lift (predicate th name)
    ts ← arguments defs depth rest
    make limits p ts

  -- The next item, where a judgment is due: a list, whose head is asked for without a look ahead.
  unfoldable pub ask_judgment : List Def → ℕ → Items → Reading (Term × Items)
  ask_judgment defs depth is = do
    (inner, rest) ← lift (ask_group depth is)
    (name, operands) ← lift (ask_word (suc depth) inner)
    j ← headed_judgment defs (suc depth) name operands
    give (j, rest)

  -- "`(goal N J)`: another head is 9, N with `?` 11; J; closing (else 10); duplicate 13."
  unfoldable pub goal_form : List Goal → Item → Reading (List Goal)
  goal_form goals item = do
    inner ← lift (group_due item)
    (head, is₁) ← lift (ask_word 1 inner)
    _ ← lift (need (named head (codes "goal")) form)
    (name, is₂) ← lift (ask_word 1 is₁)
    _ ← lift (need (not (questioned name)) variable_name)
    (j, is₃) ← ask_judgment [] 1 is₂
    _ ← lift (closing_due is₃)
    _ ← lift (need (not (some_of (is_goal name) goals)) duplicate)
    give (goals ++ (goal name j ∷ []))

  -- All goals, in order.
  unfoldable pub goal_forms : List Goal → Items → Reading (List Goal)
  goal_forms goals ended = give goals
  goal_forms goals bad_line = lift (refused not_utf8)
  goal_forms goals closed = lift (refused stray_closing)
  goal_forms goals (item then rest) = do
    more ← goal_form goals item
    goal_forms more rest

  -- "After all goals, none is 17."
  unfoldable pub goals_of : List ℕ → Reading (List Goal)
  goals_of text = do
    goals ← goal_forms [] (items (tokens text))
    _ ← lift (need (not (is_zero (length goals))) no_goal)
    give goals
