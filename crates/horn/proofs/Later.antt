-- Refusals 1 and 2 come from the lengths alone: reading and judging a rulebook gives later ones, 3 to 29, and so does all that reads goals
-- and certificate. 30 and 31 are those of callers and writers.
use Prim.Native.Nat.{ℕ, suc, ◌≤◌}
use mathlib.Core.List.{List, [], ◌∷◌}
use native.Mathlib.Omega.{arith}
use lib.ListN.{get_elem?}
use Rattle.horn.specs.Refusals.{Refusal, number, Result}
use Rattle.horn.specs.Setting.{Setting}
use Rattle.horn.specs.Tokens.{tokens}
use Rattle.horn.specs.NestedLists.{Item, word, group, Items, closed, ended, bad_line, ◌then◌, items, asked_at, absent}
use Rattle.horn.specs.NestedLists.{sexp, members, sexps}
use Rattle.horn.specs.Names.{Name}
use Rattle.horn.specs.Rulebook.{Pattern, Theory, constructor, predicate, rule_named, empty_theory, theory}
use Rattle.horn.specs.StoredTerms.{Term, Store, holds, intern, request}
use Rattle.horn.specs.Checker
use Rattle.horn.specs.Matching
use Rattle.horn.specs.Matching.{Step, Bind, match, judgment_of}
use Rattle.horn.specs.Certificate
use Rattle.horn.proofs.Post.{either}
use Rattle.horn.proofs.Refusing.{Refuses, refuses_none, refuses, refuses_bind, refuses_need, refuses_found}
use Rattle.horn.proofs.Refusing.{Judges, judging_number, judging_last, judges_declarations}

abbrev pub Later : {A : Type 0} → Result A → Type 0
Later = Refuses (λ r. (3 ≤ number r) × (number r ≤ 29))

pub later_asked : (depth : ℕ) → Later (asked_at depth)
unfolding asked_at number
later_asked depth = refuses_need _ Refusal.nesting (omega arith)

mutual
  unfolding sexp absent number

  later_sexp : (depth : ℕ) (item : Item) → Later (sexp depth item)
  later_sexp depth (word bytes) = refuses_none
  later_sexp depth (group inner) = refuses_bind _ (later_members (suc depth) inner) λ xs. refuses_none

  later_members : (depth : ℕ) (is : Items) → Later (members depth is)
  later_members depth closed = refuses_none
  later_members depth bad_line = refuses Refusal.not_utf8 (omega arith)
  later_members depth ended = refuses_bind _ (later_asked depth) λ _. refuses Refusal.text_ends (omega arith)
  later_members depth (item then rest) =
      refuses_bind _ (later_asked depth) λ _.
      refuses_bind _ (later_sexp depth item) λ x. refuses_bind _ (later_members depth rest) λ xs. refuses_none

pub later_sexps : (is : Items) → Later (sexps is)
unfolding sexps number
later_sexps ended = refuses_none
later_sexps bad_line = refuses Refusal.not_utf8 (omega arith)
later_sexps closed = refuses Refusal.stray_closing (omega arith)
later_sexps (item then rest) = refuses_bind _ (later_sexp 0 item) λ x. refuses_bind _ (later_sexps rest) λ xs. refuses_none

pub later_judges : {A : Type 0} {m : Result A} → Judges m → Later m
later_judges refuses_none = refuses_none
later_judges (refuses r j) = let h = judging_number j in let k = judging_last j in refuses r (omega arith)

-- Reading a rulebook whole and judging it gives only refusals 3 to 29.
pub later_theory : (text : List ℕ) → Later (theory text)
unfolding theory
later_theory text = refuses_bind _ (later_sexps (items (tokens text))) λ xs. later_judges (judges_declarations empty_theory xs)

-- The parts that goals and certificate are read by and that do not touch the store.
pub later_absent : {A : Type 0} (depth : ℕ) (r : Refusal) → (3 ≤ number r) × (number r ≤ 29) → Later (absent {A = A} depth r)
unfolding absent
later_absent depth r h = refuses_bind _ (later_asked depth) λ _. refuses r h

pub later_word : (item : Item) → Later (Checker.word_due item)
unfolding Checker.word_due number
later_word (word name) = refuses_none
later_word (group inner) = refuses Refusal.atom_or_list (omega arith)

pub later_group : (item : Item) → Later (Checker.group_due item)
unfolding Checker.group_due number
later_group (word name) = refuses Refusal.atom_or_list (omega arith)
later_group (group inner) = refuses_none

pub later_ask : (depth : ℕ) (is : Items) → Later (Checker.ask depth is)
unfolding Checker.ask number
later_ask depth closed = later_absent depth Refusal.stray_closing (omega arith)
later_ask depth ended = later_absent depth Refusal.text_ends (omega arith)
later_ask depth bad_line = later_absent depth Refusal.not_utf8 (omega arith)
later_ask depth (item then rest) = refuses_bind _ (later_asked depth) λ _. refuses_none

pub later_ask_word : (depth : ℕ) (is : Items) → Later (Checker.ask_word depth is)
unfolding Checker.ask_word
later_ask_word depth is = refuses_bind _ (later_ask depth is) λ p. refuses_bind _ (later_word p.0) λ _. refuses_none

pub later_ask_group : (depth : ℕ) (is : Items) → Later (Checker.ask_group depth is)
unfolding Checker.ask_group
later_ask_group depth is = refuses_bind _ (later_ask depth is) λ p. refuses_bind _ (later_group p.0) λ _. refuses_none

pub later_number : (item : Item) → Later (Checker.number_due item)
unfolding Checker.number_due number
later_number item = refuses_bind _ (later_word item) λ name. refuses_found _ Refusal.not_number (omega arith)

pub later_ask_number : (depth : ℕ) (is : Items) → Later (Checker.ask_number depth is)
unfolding Checker.ask_number
later_ask_number depth is = refuses_bind _ (later_ask depth is) λ p. refuses_bind _ (later_number p.0) λ _. refuses_none

pub later_closing : (is : Items) → Later (Checker.closing_due is)
unfolding Checker.closing_due number
later_closing closed = refuses_none
later_closing ended = refuses Refusal.text_ends (omega arith)
later_closing bad_line = refuses Refusal.not_utf8 (omega arith)
later_closing (item then rest) = refuses Refusal.excess (omega arith)

pub later_constructor : (th : Theory) (name : Name) → Later (constructor th name)
unfolding constructor number
later_constructor th name = refuses_found _ Refusal.unknown (omega arith)

pub later_predicate : (th : Theory) (name : Name) → Later (predicate th name)
unfolding predicate number
later_predicate th name = refuses_found _ Refusal.unknown (omega arith)

pub later_rule : (th : Theory) (name : Name) → Later (rule_named th name)
unfolding rule_named number
later_rule th name = refuses_found _ Refusal.unknown (omega arith)

pub later_references : (is : Items) → Later (Certificate.references is)
unfolding Certificate.references number
later_references closed = refuses_none
later_references bad_line = refuses Refusal.not_utf8 (omega arith)
later_references ended = later_absent 2 Refusal.text_ends (omega arith)
later_references (item then rest) =
    refuses_bind _ (later_asked 2) λ _.
    refuses_bind _ (later_number item) λ n. refuses_bind _ (later_references rest) λ _. refuses_none

pub later_premises : (steps : List Step) (ps : List Pattern) (ns : List ℕ) (binds : List Bind) → Later (Matching.match_premises steps ps ns binds)
unfolding Matching.match_premises number
later_premises steps [] [] binds = refuses_none
later_premises steps [] (n ∷ ns) binds = refuses Refusal.reference_count (omega arith)
later_premises steps (p ∷ ps) [] binds = refuses Refusal.reference_count (omega arith)
later_premises steps (p ∷ ps) (n ∷ ns) binds =
    refuses_bind _ (refuses_found (get_elem? steps n) Refusal.no_such_step (omega arith)) λ s.
    refuses_bind _ (refuses_found (match p (judgment_of s) binds) Refusal.bad_premise (omega arith)) λ more.
    later_premises steps ps ns more

-- Storing a term.
later_intern : (limits : Setting) (t : Term) (terms : List Term) → Later (intern limits t terms)
unfolding intern number
later_intern limits t terms = either Later (holds terms t) refuses_none (refuses_bind _ (refuses_need _ Refusal.store_full (omega arith)) λ _. refuses_none)

pub later_request : (limits : Setting) (t : Term) (store : Store) → Later (request limits t store)
unfolding request
later_request limits t store = refuses_bind _ (later_intern limits t store.terms) λ _. refuses_none
