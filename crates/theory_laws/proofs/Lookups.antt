-- Looking up: variables of the rule by their bytes, sorts by their addresses, symbols by their names. Assumes nothing.
use mathlib.Core.Path.{◌≡◌, ap, sym, ◌∙◌}
use mathlib.Core.Bool.{true, true≢false}
use mathlib.Core.List.{List, [], ◌∷◌}
use mathlib.Core.Option.{Option}
use Prim.Native.Nat.{ℕ, zero, suc, ◌+◌, ◌*◌, ◌-◌, ◌≤◌, ◌<◌}
use native.Mathlib.Omega.{arith}
use borrow.Author.Tests.{eq-eqb, ne_eqb}
use lib.Dec.{eqb}
use lib.ListN.{length, get_or, take, drop}
use lib.Seq.{drop-cons}
use Rattle.capacity.specs.Below.horn.specs.Names.{Name, named, same_list, questioned, bare, codes, first}
use Rattle.capacity.specs.Below.horn.specs.Rulebook.{Output, same_output, Variable, variable, is_variable, Theory}
use Rattle.capacity.specs.Below.horn.proofs.Equality.{case, named_decides, decides_false}
use Rattle.capacity.specs.Below.horn.proofs.Inversion.{some_equal}
use Rattle.theory.specs.Below.words.specs.Parts.{part, same_bytes}
use Rattle.theory.specs.Below.facts.proofs.Comparing.{same_named}
use Rattle.theory.specs.Below.names.specs.Chains.{name_at}
use Rattle.theory.specs.Below.names.specs.Tables.{lookup, Agree, both_none, both_some}
use Rattle.theory.specs.Below.names.proofs.Holds.{by_name}
use Rattle.theory.specs.Below.names.proofs.Kept.{member_named, member_bounds}
use Rattle.theory.specs.Below.names.proofs.Declared.{lookup_member, stands_distinct}
use Rattle.theory.specs.Below.items.specs.Places as places
use Rattle.theory.specs.Below.items.specs.Items.{question}
use Rattle.theory.specs.Below.variables.specs.Variables.{name_of_variable, variable_from}
use Rattle.theory_laws.specs.Representation.{Entries, SortAt, sort_at, OutputAt, sort_output, judgment_output, Nth, here, there, VariablesAt}
use Rattle.theory_laws.specs.Representation.{no_variables, one_variable, Holds}

pub named_turned : (a b : Name) → named a b ≡ named b a
named_turned a b =
    by_name a b
    (λ e. rw e)
    (λ n. decides_false named_decides a b n ∙ sym (decides_false named_decides b a (λ e. n (sym e))))

-- A name by its bounds: its first byte, and whether it is `?` alone.
pub part-question : (s t : ℕ) (text : List ℕ) → s < t → t ≤ length text → questioned (part s t text) ≡ question text s
unfolding part question questioned
part-question s t text l h = by (t - s) (omega arith) where
  by : (n : ℕ) → 0 < n → questioned (take n (drop s text)) ≡ eqb (get_or text s 0) 0x3F
  by zero p = absurd (omega arith)
  by (suc n) p = rw (drop-cons text s 0 (omega arith))

pub bare_width : (name : Name) (n : ℕ) → questioned name ≡ true → length name ≡ n → bare name ≡ eqb n 1
unfolding questioned bare named same_list codes
bare_width [] n q e = absurd (true≢false (sym q))
bare_width (b ∷ []) n q e = rw (q, same_list) (sym (eq-eqb n 1 (omega arith)))
bare_width (b ∷ c ∷ cs) n q e = rw (q, same_list) (sym (ne_eqb n 1 (λ h. omega arith)))

-- A variable of the rule by its bytes, the words of its variables standing from `place` on: v is its number.
pub data Placed (area : List ℕ) (es : Entries) (place i : ℕ) (us : List Variable) (key : Name) (v : ℕ) : Variable → Type 0 where
  placed : {k : ℕ} {name s : Name} → v ≡ i + k → name ≡ key → Nth us k key → SortAt es (get_or area (place + places.variable_words * v + 2) 0) s
      → Placed area es place i us key v (variable name s)

placed_later : {area : List ℕ} {es : Entries} {place i : ℕ} {u : Variable} {us : List Variable} {key : Name} {o : Option ℕ} {p : Option Variable}
    → Agree (Placed area es place (i + 1) us key) o p
    → Agree (Placed area es place i (u ∷ us) key) o p
placed_later both_none = both_none
placed_later (both_some {e = v} (placed {k} e q n a)) = both_some {e = v} (placed {k = suc k} (omega arith) q (there n) a)

module _ (text area : List ℕ) (place : ℕ) (key : Name) where
  name_same : (i o : ℕ) (name s : Name) → o ≡ place + places.variable_words * i → part (get_or area o 0) (get_or area (o + 1) 0) text ≡ name
      → same_bytes (name_of_variable area text place i) key ≡ is_variable key (variable name s)
  unfolding name_of_variable is_variable
  name_same i o name s e n = same_named _ _ ∙ rw (← e, n) (named_turned name key)

  name_equal : (name s : Name) → is_variable key (variable name s) ≡ true → key ≡ name
  unfolding is_variable
  name_equal name s q = named_decides.equal key name q

  pub variables_from : {es : Entries} {o : ℕ} {us : List Variable} (i : ℕ) → o ≡ place + places.variable_words * i → VariablesAt text area es o us
      → Agree (Placed area es place i us key) (variable_from (length us) area text place key i) (first (is_variable key) us)
  unfolding variable_from first
  variables_from i e no_variables = both_none
  variables_from {o} i e (one_variable {name} {s} {vs} n a r) =
      case (is_variable key (variable name s))
      (λ q.
      let k = name_equal name s q in
      rw (name_same i o name s e n, q, variable_from, first)
      (both_some {e = i} (placed {k = 0} {name = name} {s = s} (omega arith) (sym k) (rw k here) (rw (← e) a))))
      (λ q.
      rw (name_same i o name s e n, q, variable_from, first)
      (placed_later (variables_from (i + 1) (omega arith) r)))

-- Equal addresses of sorts are equal sorts.
module _ {text heap : List ℕ} {es : Entries} {top : ℕ} {th : Theory} (h : Holds text heap es top th) where
  pub sort_low : {a : ℕ} {s : Name} → SortAt es a s → places.entries ≤ a
  sort_low (sort_at m) = (member_bounds h.sorts.table.chain m).0

  pub same_sort : {a b : ℕ} {s t : Name} → SortAt es a s → SortAt es b t → eqb a b ≡ named s t
  same_sort {a} {b} {s} {t} (sort_at m) (sort_at n) =
      by_name s t
      (λ e.
      let d = stands_distinct named (SortAt es) h.sorts.stands in
      let p = lookup_member s a d m in
      let q = lookup_member t b d n in
      let k : a ≡ b = some_equal (sym p ∙ ap (λ (x : Name). lookup x es.sorts) e ∙ q) in
      eq-eqb a b k ∙ sym (rw e (named_decides.same t)))
      (λ u.
      ne_eqb a b (λ k. u (sym (member_named h.sorts.table.chain m) ∙ ap (name_at heap text) k ∙ member_named h.sorts.table.chain n))
      ∙ sym (decides_false named_decides s t u))

  pub same_output_lem : {a b : ℕ} {o p : Output} → OutputAt es a o → OutputAt es b p → eqb a b ≡ same_output o p
  unfolding same_output
  same_output_lem (sort_output m) (sort_output n) = same_sort m n
  same_output_lem {a} {b} (sort_output m) (judgment_output e) = let l = sort_low m in ne_eqb a b (λ k. omega arith)
  same_output_lem {a} {b} (judgment_output e) (sort_output n) = let l = sort_low n in ne_eqb a b (λ k. omega arith)
  same_output_lem {a} {b} (judgment_output d) (judgment_output e) = eq-eqb a b (d ∙ sym e)
