-- Terms and judgments, written out and not too deep, are read as the terms and judgments that they are; the store then has their
-- subterms.
use Prim.Native.Nat.{ℕ, suc, ◌+◌, ◌≤◌}
use native.Mathlib.Omega.{arith}
use mathlib.Core.Path.{◌≡◌, refl, ◌∙◌}
use mathlib.Core.Bool.{true, false}
use mathlib.Core.List.Memᴰ
use mathlib.Core.List.{List, [], Memᴰ}
use borrow.Author.Tests.{le-leb}
use Rattle.horn.specs.Refusals.{Result, ok}
use Rattle.horn.specs.Setting.{Setting}
use Rattle.horn.specs.Names.{Name, questioned, is_zero}
use Rattle.horn.specs.NestedLists.{as_item, as_items, asked_at}
use Rattle.horn.specs.Rulebook.{Symbol, symbol, sort, judgment, output, inputs, Theory, is_constructor, is_predicate, constructor, predicate}
use Rattle.horn.specs.StoredTerms.{Term, node, Terms, []ₜ, ◌∷ₜ◌, Store, width, within_limits}
use Rattle.horn.specs.Checker.{Reading, ◌>>=◌, give, lift, word_due, has_sort, accepts, make, stored, atom_term, term, arguments, headed_judgment}
use Rattle.horn.specs.Forced.{Ground, ground, Grounds, no_ground, ground_then}
use Rattle.horn.specs.Written.{symbol_name, constant_or, term_sexp, term_sexps}
use Rattle.horn.specs.Layout.{height, heights, subterms, subterms_of}
use Rattle.horn.proofs.Equality.{named_decides, same_output_decides}
use Rattle.horn.proofs.Inversion.{onᵣ, on, lift_on, need_on, found_on}
use Rattle.horn.proofs.CompleteTheory.{Lookups}
use Rattle.horn.proofs.CompleteCount.{◌⊆◌}
use Rattle.horn.proofs.CompleteStore.{kept, with_term, with_terms, DrawnFrom, drawn_term, drawn_terms, request_drawn}

pub on_lift : {A B : Type 0} (r : Result A) (f : A → Reading B) (s : Store) {a : A} → r ≡ ok a → (lift r >>= f) s ≡ f a s
on_lift r f s e = on (lift r) f s (lift_on s e)

-- Depth 256 may be asked for.
pub asked_ok : (depth : ℕ) → depth ≤ 256 → asked_at depth ≡ ok tt
unfolding asked_at
asked_ok depth h = need_on _ (le-leb depth 256 h)

-- A ground term of a sort passes the test for that sort.
ground_has_sort : {th : Theory} {s : Name} {t : Term} → Ground th s t → has_sort s t ≡ true
unfolding has_sort output
ground_has_sort (ground {s = s} m gs) = same_output_decides.same (sort s)

accepts_grounds : {th : Theory} {ins : List Name} {ts : Terms} → Grounds th ins ts → accepts ins ts ≡ true
unfolding accepts
accepts_grounds no_ground = refl
accepts_grounds (ground_then g gs) = rw (ground_has_sort g, accepts_grounds gs)

module _ (limits : Setting) (th : Theory) (l : Lookups th) (us : List Term) (within : within_limits limits us ≡ true) where
  constructor-ok : (name s : Name) (ins : List Name) → Memᴰ (symbol name ins (sort s)) th.symbols
      → constructor th name ≡ ok (symbol name ins (sort s))
  unfolding constructor is_constructor symbol_name
  constructor-ok name s ins m = found_on _ (l.finds_constructor (symbol name ins (sort s)) m (named_decides.same name))

  predicate-ok : (name : Name) (ins : List Name) → Memᴰ (symbol name ins judgment) th.symbols
      → predicate th name ≡ ok (symbol name ins judgment)
  unfolding predicate is_predicate symbol_name
  predicate-ok name ins m = found_on _ (l.finds_predicate (symbol name ins judgment) m (named_decides.same name))

  unquestioned : (name : Name) (ins : List Name) (s : Name) → Memᴰ (symbol name ins (sort s)) th.symbols
      → questioned name ≡ false
  unfolding symbol_name
  unquestioned name ins s m = (l.symbol_is_word (symbol name ins (sort s)) m).1

  make_stored : (c : Symbol) (ts : Terms) (store : Store) → accepts (inputs c) ts ≡ true → DrawnFrom us store → Memᴰ (node c ts) us
      → make limits c ts store ≡ ok (node c ts, kept (node c ts) store)
  unfolding make stored
  make_stored c ts store a f m = on_lift _ _ _ (need_on _ a) ∙ onᵣ _ (request_drawn limits us (node c ts) store within f m)

  atom_constant : (name : Name) (store : Store) → questioned name ≡ false
      → atom_term limits th [] name store ≡ (lift (constructor th name) >>= λ c. make limits c []ₜ) store
  unfolding atom_term
  atom_constant name store q = rw (q, atom_term)

  -- A term is read, if its arguments are.
  over : (ts : Terms) (name s : Name) (ins : List Name) (store : Store) (depth : ℕ)
      → Memᴰ (symbol name ins (sort s)) th.symbols
      → Grounds th ins ts
      → (suc depth + heights (term_sexps ts) ≤ 257
      → arguments limits th [] (suc depth) (as_items (term_sexps ts)) store ≡ ok (ts, with_terms ts store))
      → depth + height (term_sexp (node (symbol name ins (sort s)) ts)) ≤ 256
      → Memᴰ (node (symbol name ins (sort s)) ts) us
      → DrawnFrom us (with_terms ts store)
      → term limits th [] depth (as_item (term_sexp (node (symbol name ins (sort s)) ts))) store
      ≡ ok (node (symbol name ins (sort s)) ts, kept (node (symbol name ins (sort s)) ts) (with_terms ts store))
  unfolding term_sexp constant_or symbol_name as_item term height inputs with_term is_zero width word_due
  over []ₜ name s ins store depth m gs as' h u f =
      atom_constant name store (unquestioned name ins s m)
      ∙ on_lift _ _ _ (constructor-ok name s ins m)
      ∙ make_stored (symbol name ins (sort s)) []ₜ store (accepts_grounds gs) f u
  over (t ∷ₜ ts) name s ins store depth m gs as' h u f =
      on_lift _ _ _ (asked_ok (suc depth) (omega arith))
      ∙ on_lift _ _ _ refl
      ∙ on_lift _ _ _ (constructor-ok name s ins m)
      ∙ on _ _ _ (as' (omega arith))
      ∙ on_lift _ _ _ (need_on _ refl)
      ∙ make_stored (symbol name ins (sort s)) (t ∷ₜ ts) (with_terms (t ∷ₜ ts) store) (accepts_grounds gs) f u

  mutual
    unfolding term term_sexp as_item with_term heights subterms give

    pub term_back : {s : Name} {t : Term} → Ground th s t → (depth : ℕ) (store : Store)
        → depth + height (term_sexp t) ≤ 256
        → subterms t ⊆ us
        → DrawnFrom us store
        → term limits th [] depth (as_item (term_sexp t)) store ≡ ok (t, with_term t store)
    term_back (ground {name = name} {s = s} {ins = ins} {ts = ts} m gs) depth store h sub f =
        over ts name s ins store depth m gs
        (λ k. terms_back gs (suc depth) store k (λ u n. sub u (Memᴰ.tail n)) f)
        h (sub _ (Memᴰ.head refl)) (drawn_terms us ts store f (λ u n. sub u (Memᴰ.tail n)))

    pub terms_back : {ins : List Name} {ts : Terms} → Grounds th ins ts → (depth : ℕ) (store : Store)
        → depth + heights (term_sexps ts) ≤ 257
        → subterms_of ts ⊆ us
        → DrawnFrom us store
        → arguments limits th [] depth (as_items (term_sexps ts)) store ≡ ok (ts, with_terms ts store)
    terms_back no_ground depth store h sub f = refl
    terms_back (ground_then {t = t} {ts = ts} g gs) depth store h sub f =
        on_lift _ _ _ (asked_ok depth (omega arith))
        ∙ on _ _ _ (term_back g depth store (omega arith) (λ u n. sub u (Memᴰ.append_left (subterms_of ts) n)) f)
        ∙ on _ _ _
        (terms_back gs depth (with_term t store) (omega arith) (λ u n. sub u (Memᴰ.append_right (subterms t) n))
        (drawn_term us t store f (λ u n. sub u (Memᴰ.append_left (subterms_of ts) n))))

  -- A judgment is read, behind its head.
  pub judgment_back : (name : Name) (ins : List Name) (ts : Terms) → Memᴰ (symbol name ins judgment) th.symbols
      → Grounds th ins ts
      → (depth : ℕ) (store : Store)
      → depth + heights (term_sexps ts) ≤ 257
      → subterms (node (symbol name ins judgment) ts) ⊆ us
      → DrawnFrom us store
      → headed_judgment limits th [] depth name (as_items (term_sexps ts)) store
      ≡ ok (node (symbol name ins judgment) ts, with_term (node (symbol name ins judgment) ts) store)
  unfolding headed_judgment inputs subterms with_term
  judgment_back name ins ts m gs depth store h sub f =
      let below : subterms_of ts ⊆ us = λ u n. sub u (Memᴰ.tail n) in
      on_lift _ _ _ (predicate-ok name ins m)
      ∙ on _ _ _ (terms_back gs depth store h below f)
      ∙ make_stored (symbol name ins judgment) ts (with_terms ts store) (accepts_grounds gs) (drawn_terms us ts store f below)
      (sub _ (Memᴰ.head refl))
