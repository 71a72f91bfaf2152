-- If all terms that are put into a store come from a list that is within the limits, none of them is refused; what the store holds in the
-- end, and how many requests to it there were.
use Prim.Native.Nat.{◌+◌, ◌≤◌}
use native.Mathlib.Omega.{arith}
use mathlib.Core.Path.{◌≡◌, refl, sym, ap, subst, ◌∙◌}
use mathlib.Core.Bool.{and-eq-true_iff, true, false}
use mathlib.Core.List.Memᴰ
use mathlib.Core.List.{List, [], ◌∷◌, ◌++◌, Memᴰ}
use mathlib.Core.Logic.{⊎_elim}
use lib.Dec.{leb}
use lib.ListN.{length}
use borrow.Author.Tests.{leb-true, le-leb}
use Rattle.horn.specs.Refusals.{ok, need, ◌>>=◌}
use Rattle.horn.specs.Setting.{Setting}
use Rattle.horn.specs.Names.{some_of}
use Rattle.horn.specs.StoredTerms.{Term, node, Terms, []ₜ, ◌∷ₜ◌, size, holds, within_limits, intern, same_term}
use Rattle.horn.specs.StoredTerms.{met_by, Store, empty_store, request}
use Rattle.horn.specs.Layout.{subterms, subterms_of, all_subterms, distinct, tree_size, tree_size_of, all_tree_sizes}
use Rattle.horn.proofs.Equality.{case, both, chosen, chose_true, chose_false, in_or_last}
use Rattle.horn.proofs.Inversion.{ok_equal, afterᵣ, after_needᵣ, onᵣ}
use Rattle.horn.proofs.CompleteCount.{◌⊆◌, Distinct, distinct_more, length_below, size_below, length_same}
use Rattle.horn.proofs.CompleteCount.{held_member, not_held, from_distinct, to_distinct, distinct-distinct}

-- Terms once one is put among them.
unfoldable pub joined : Term → List Term → List Term
joined t terms = elim (holds terms t) [ true ↦ terms | false ↦ terms ++ (t ∷ []) ]

-- The store once a term is put into it: the term alone (`kept`), the term after its arguments (`with_term`), some arguments one after
-- another (`with_terms`), or the terms of a list (`with_all`).
unfoldable pub kept : Term → Store → Store
kept t store = record { terms = joined t store.terms; requests = met_by store.terms t ∷ store.requests }

unfoldable mutual
  pub with_term : Term → Store → Store
  with_term (node c ts) store = kept (node c ts) (with_terms ts store)

  pub with_terms : Terms → Store → Store
  with_terms []ₜ store = store
  with_terms (t ∷ₜ ts) store = with_terms ts (with_term t store)

unfoldable pub with_all : List Term → Store → Store
with_all [] store = store
with_all (t ∷ ts) store = with_all ts (with_term t store)

pub with_all-append : (ts us : List Term) (store : Store) → with_all (ts ++ us) store ≡ with_all us (with_all ts store)
unfolding with_all
with_all-append [] us store = refl
with_all-append (t ∷ ts) us store = with_all-append ts us (with_term t store)

-- What `intern` answers, and so what a request answers, where it refuses nothing.
intern-joined : (limits : Setting) (t : Term) (terms : List Term) {after : List Term} → intern limits t terms ≡ ok after → after ≡ joined t terms
unfolding intern joined
intern-joined limits t terms e =
    chosen (holds terms t) e
    (λ h q. sym (ok_equal q) ∙ sym (chose_true _ _ h))
    (λ h q. after_needᵣ _ _ _ q λ w e₁. sym (ok_equal e₁) ∙ sym (chose_false _ _ h))

pub request-kept : (limits : Setting) (t : Term) (store : Store) {after : Store} → request limits t store ≡ ok after → after ≡ kept t store
unfolding request kept
request-kept limits t store e =
    afterᵣ _ e λ terms e₁ e₂.
    sym (ok_equal e₂)
    ∙ ap {B = Store} (λ (x : List Term). record { terms = x; requests = met_by store.terms t ∷ store.requests }) (intern-joined limits t store.terms e₁)

-- The store keeps what it held, and holds what is put into it.
old_joined : (t : Term) (terms : List Term) → terms ⊆ joined t terms
unfolding joined
old_joined t terms u m =
    case (holds terms t) (λ h. rw (h, joined) m) (λ h. rw (h, joined) (Memᴰ.append_left (t ∷ []) m))

new_joined : (t : Term) (terms : List Term) → Memᴰ t (joined t terms)
unfolding joined holds
new_joined t terms =
    case (some_of (same_term t) terms)
    (λ h. rw (h, joined) (held_member t terms h))
    (λ h. rw (h, joined) (Memᴰ.append_right terms (Memᴰ.head refl)))

mutual
  unfolding with_term kept

  pub old_term : (t : Term) (store : Store) → store.terms ⊆ (with_term t store).terms
  old_term (node c ts) store u m = old_joined (node c ts) (with_terms ts store).terms u (old_terms ts store u m)

  pub old_terms : (ts : Terms) (store : Store) → store.terms ⊆ (with_terms ts store).terms
  old_terms []ₜ store u m = m
  old_terms (t ∷ₜ ts) store u m = old_terms ts (with_term t store) u (old_term t store u m)

mutual
  unfolding with_term kept subterms

  new_term : (t : Term) (store : Store) → subterms t ⊆ (with_term t store).terms
  new_term (node c ts) store u (Memᴰ.head e) =
      subst (λ z. Memᴰ z (joined (node c ts) (with_terms ts store).terms)) (sym e) (new_joined (node c ts) (with_terms ts store).terms)
  new_term (node c ts) store u (Memᴰ.tail m) = old_joined (node c ts) (with_terms ts store).terms u (new_terms ts store u m)

  new_terms : (ts : Terms) (store : Store) → subterms_of ts ⊆ (with_terms ts store).terms
  new_terms []ₜ store u m = elim m [ ]
  new_terms (t ∷ₜ ts) store u m =
      ⊎_elim
      (λ k. old_terms ts (with_term t store) u (new_term t store u k))
      (λ k. new_terms ts (with_term t store) u k)
      (Memᴰ.append_cases (subterms t) m)

old_all : (ts : List Term) (store : Store) → store.terms ⊆ (with_all ts store).terms
unfolding with_all
old_all [] store u m = m
old_all (t ∷ ts) store u m = old_all ts (with_term t store) u (old_term t store u m)

new_all : (ts : List Term) (store : Store) → all_subterms ts ⊆ (with_all ts store).terms
unfolding with_all all_subterms
new_all [] store u m = elim m [ ]
new_all (t ∷ ts) store u m =
    ⊎_elim
    (λ k. old_all ts (with_term t store) u (new_term t store u k))
    (λ k. new_all ts (with_term t store) u k)
    (Memᴰ.append_cases (subterms t) m)

-- Terms drawn from a list: without repetition, and all of them are in the list.
pub record Drawn (us terms : List Term) : Type 0 where
  pub once : Distinct terms
  pub among : terms ⊆ us

-- A store drawn from a list, by its terms.
abbrev pub DrawnFrom : List Term → Store → Type 0
DrawnFrom us store = Drawn us store.terms

pub drawn_none : (us : List Term) → DrawnFrom us empty_store
drawn_none us = record { once = tt; among = λ t m. elim m [ ] }

drawn_new : (us : List Term) (t : Term) (terms : List Term) → Drawn us terms → Memᴰ t us → holds terms t ≡ false
    → Drawn us (terms ++ (t ∷ []))
unfolding holds
drawn_new us t terms f m h =
    record {
      once = distinct_more terms t f.once (not_held t terms h);
      among = λ u n. in_or_last terms n (f.among u) (λ e. subst (λ z. Memᴰ z us) (sym e) m);
    }

drawn_joined : (us : List Term) (t : Term) (terms : List Term) → Drawn us terms → Memᴰ t us → Drawn us (joined t terms)
unfolding joined
drawn_joined us t terms f m =
    case (holds terms t) (λ h. rw (h, joined) f) (λ h. rw (h, joined) (drawn_new us t terms f m h))

mutual
  unfolding with_term kept subterms

  pub drawn_term : (us : List Term) (t : Term) (store : Store) → DrawnFrom us store → subterms t ⊆ us → DrawnFrom us (with_term t store)
  drawn_term us (node c ts) store f s =
      drawn_joined us (node c ts) (with_terms ts store).terms
      (drawn_terms us ts store f (λ u m. s u (Memᴰ.tail m))) (s (node c ts) (Memᴰ.head refl))

  pub drawn_terms : (us : List Term) (ts : Terms) (store : Store) → DrawnFrom us store → subterms_of ts ⊆ us → DrawnFrom us (with_terms ts store)
  drawn_terms us []ₜ store f s = f
  drawn_terms us (t ∷ₜ ts) store f s =
      drawn_terms us ts (with_term t store)
      (drawn_term us t store f (λ u m. s u (Memᴰ.append_left (subterms_of ts) m)))
      (λ u m. s u (Memᴰ.append_right (subterms t) m))

pub drawn_all : (us ts : List Term) (store : Store) → DrawnFrom us store → all_subterms ts ⊆ us → DrawnFrom us (with_all ts store)
unfolding with_all all_subterms
drawn_all us [] store f s = f
drawn_all us (t ∷ ts) store f s =
    drawn_all us ts (with_term t store)
    (drawn_term us t store f (λ u m. s u (Memᴰ.append_left (all_subterms ts) m)))
    (λ u m. s u (Memᴰ.append_right (subterms t) m))

-- Terms are within the limits exactly if they are at most so many nodes and at most so many words.
pub within_limits_holds : (limits : Setting) (terms : List Term) → length terms ≤ limits.nodes → size terms ≤ limits.node_words
    → within_limits limits terms ≡ true
unfolding within_limits
within_limits_holds limits terms h k =
    (and-eq-true_iff _ _).1 (le-leb (length terms) limits.nodes h, le-leb (size terms) limits.node_words k)

pub within_limits_says : (limits : Setting) (terms : List Term) → within_limits limits terms ≡ true
    → (length terms ≤ limits.nodes) × (size terms ≤ limits.node_words)
unfolding within_limits
within_limits_says limits terms w =
    let (h, k) = both (leb (length terms) limits.nodes) (leb (size terms) limits.node_words) w in
    (leb-true (length terms) limits.nodes h, leb-true (size terms) limits.node_words k)

-- Terms drawn from a list are within the limits if the list is, and so no term of the list is refused.
within_limits_drawn : (limits : Setting) (us terms : List Term) → within_limits limits us ≡ true → Drawn us terms
    → within_limits limits terms ≡ true
within_limits_drawn limits us terms w f =
    let m = within_limits_says limits us w in
    let l = length_below terms us f.once f.among in
    let s = size_below terms us f.once f.among in
    within_limits_holds limits terms (omega arith) (omega arith)

intern_drawn : (limits : Setting) (us : List Term) (t : Term) (terms : List Term) → within_limits limits us ≡ true
    → Drawn us terms
    → Memᴰ t us
    → intern limits t terms ≡ ok (joined t terms)
unfolding intern joined need ◌>>=◌
intern_drawn limits us t terms w f m =
    case (holds terms t)
    (λ h. rw (h, intern, joined))
    (λ h. rw (h, intern, joined, within_limits_drawn limits us (terms ++ (t ∷ [])) w (drawn_new us t terms f m h)))

pub request_drawn : (limits : Setting) (us : List Term) (t : Term) (store : Store) → within_limits limits us ≡ true
    → DrawnFrom us store
    → Memᴰ t us
    → request limits t store ≡ ok (kept t store)
unfolding request kept
request_drawn limits us t store w f m = onᵣ _ (intern_drawn limits us t store.terms w f m)

-- Once some judgments are put into the empty store, it has as many terms as they have distinct subterms.
pub stored_count : (js : List Term) → length (with_all js empty_store).terms ≡ length (distinct (all_subterms js))
stored_count js =
    let us = all_subterms js in
    let f = drawn_all us js empty_store (drawn_none us) (λ u m. m) in
    length_same (with_all js empty_store).terms (distinct us) f.once (distinct-distinct us)
    (λ u m. to_distinct us u (f.among u m))
    (λ u m. new_all js empty_store u (from_distinct us u m))

-- Each node of a term, as a tree, is one request.
mutual
  unfolding with_term kept tree_size

  requests_term : (t : Term) (store : Store) → length (with_term t store).requests ≡ tree_size t + length store.requests
  requests_term (node c ts) store = let h = requests_terms ts store in omega arith

  requests_terms : (ts : Terms) (store : Store) → length (with_terms ts store).requests ≡ tree_size_of ts + length store.requests
  requests_terms []ₜ store = omega arith
  requests_terms (t ∷ₜ ts) store =
      let h = requests_term t store in let k = requests_terms ts (with_term t store) in omega arith

pub requests_all : (js : List Term) (store : Store) → length (with_all js store).requests ≡ all_tree_sizes js + length store.requests
unfolding with_all all_tree_sizes
requests_all [] store = omega arith
requests_all (t ∷ ts) store =
    let h = requests_term t store in let k = requests_all ts (with_term t store) in omega arith
