-- "Refusals by example" in document 01: one constructor for each row of its table, and its number. Behind them the refusals of document 02.
use Rattle.std.specs.Prelude.{ℕ, Bool, true, false}
use Rattle.std.proofs.Math.Option.{Option, none, some}

-- The refusals, in the order of the table's rows.
pub data Refusal : Type 0 where
  area_short text_long not_utf8 nesting text_ends stray_closing atom_or_list empty_list form excess : Refusal
  variable_name unknown duplicate two_sorts sort_arity bracketed_constant no_goal not_number step_order reference_count : Refusal
  bad_binding second_conclusion bad_conclusion no_such_step bad_premise unbound other_judgment store_full goal_open not_opened : Refusal
  -- L2: "31, output longer than the lent buffer, after all of 1 to 29, nothing written".
  output_long : Refusal

-- Column "No." of the table, and 31 by L2.
unfoldable pub number : Refusal → ℕ
number area_short = 1
number text_long = 2
number not_utf8 = 3
number nesting = 4
number text_ends = 5
number stray_closing = 6
number atom_or_list = 7
number empty_list = 8
number form = 9
number excess = 10
number variable_name = 11
number unknown = 12
number duplicate = 13
number two_sorts = 14
number sort_arity = 15
number bracketed_constant = 16
number no_goal = 17
number not_number = 18
number step_order = 19
number reference_count = 20
number bad_binding = 21
number second_conclusion = 22
number bad_conclusion = 23
number no_such_step = 24
number bad_premise = 25
number unbound = 26
number other_judgment = 27
number store_full = 28
number goal_open = 29
number not_opened = 30
number output_long = 31

-- "The first refusal met is given": a value, or the refusal that ends the call.
pub data Result (A : Type 0) : Type 0 where
  ok : A → Result A
  refused : Refusal → Result A

-- "The first refusal met is given": what comes after it is not looked at.
infixl 10 ◌>>=◌
unfoldable pub ◌>>=◌ : {A B : Type 0} → Result A → (A → Result B) → Result B
ok a >>= f = f a
refused r >>= f = refused r

-- A test: where it does not hold, this is the refusal.
unfoldable pub need : Bool → Refusal → Result (Unit {0})
need true r = ok tt
need false r = refused r

-- A search: the value that was found; where there is none, this is the refusal.
unfoldable pub found : {A : Type 0} → Option A → Refusal → Result A
found (some a) r = ok a
found none r = refused r
