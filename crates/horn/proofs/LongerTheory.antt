-- The theory of a rulebook, a new line and further text is that of the rulebook, then declared further by the nested lists of the further
-- text. It is used here that the shorter rulebook gives a theory: its lists are all closed and none of its declarations is refused.
use Prim.Native.Nat.{ℕ, suc}
use mathlib.Core.Path.{◌≡◌, refl, sym, ap, ap₂, ◌∙◌}
use mathlib.Core.List.{List}
use Rattle.horn.specs.Refusals.{Result, ok, refused, ◌>>=◌}
use Rattle.horn.specs.Tokens.{Stream, ◌▹◌, Token, opening, tokens}
use Rattle.horn.specs.NestedLists.{Item, word, group, Items, closed, ended, bad_line, ◌then◌, innermost, outer, around, items}
use Rattle.horn.specs.NestedLists.{Sexp, leaf, list, Sexps, []ₛ, ◌∷ₛ◌, as_item, as_items, written_item, written, written_out, sexp, members, sexps}
use Rattle.horn.specs.Rulebook.{Theory, declaration, declarations, empty_theory, theory}
use Rattle.horn.specs.Longer.{longer}
use Rattle.horn.proofs.Cut.{in_front, cut}
use Rattle.horn.proofs.Inversion.{afterᵣ, onᵣ, not_ok, ok_equal, absent_not}
use Rattle.horn.proofs.CompleteItems.{around_item}
use Rattle.horn.proofs.LongerTokens.{followed_by, tokens-longer}

-- Nested lists at top level, in front of what follows them.
unfoldable pub lists_then : Sexps → Items → Items
lists_then []ₛ is = is
lists_then (x ∷ₛ xs) is = as_item x then lists_then xs is

-- Items that were read whole are those of the nested lists read.
mutual
  unfolding sexp as_item

  sexp_stands : (item : Item) (depth : ℕ) {x : Sexp} → sexp depth item ≡ ok x → item ≡ as_item x
  sexp_stands (word bs) depth e = ap as_item (ok_equal e)
  sexp_stands (group inner) depth e =
      afterᵣ (members (suc depth) inner) e λ xs e₁ e₂. ap group (members_stand inner (suc depth) e₁) ∙ ap as_item (ok_equal e₂)

  members_stand : (is : Items) (depth : ℕ) {xs : Sexps} → members depth is ≡ ok xs → is ≡ as_items xs
  members_stand closed depth e = ap as_items (ok_equal e)
  members_stand bad_line depth e = not_ok e
  members_stand ended depth e = absent_not _ _ e
  members_stand (item then rest) depth e =
      afterᵣ _ e λ u e₁ e₂.
      afterᵣ _ e₂ λ x e₃ e₄.
      afterᵣ _ e₄ λ xs e₅ e₆.
      ap₂ (λ i is. i then is) (sexp_stands item depth e₃) (members_stand rest depth e₅) ∙ ap as_items (ok_equal e₆)

sexps_stand : (is : Items) {xs : Sexps} → sexps is ≡ ok xs → is ≡ lists_then xs ended
unfolding sexps lists_then
sexps_stand ended e = ap (λ xs. lists_then xs ended) (ok_equal e)
sexps_stand bad_line e = not_ok e
sexps_stand closed e = not_ok e
sexps_stand (item then rest) e =
    afterᵣ _ e λ x e₁ e₂.
    afterᵣ _ e₂ λ xs e₃ e₄.
    ap₂ (λ i is. i then is) (sexp_stands item 0 e₁) (sexps_stand rest e₃) ∙ ap (λ ys. lists_then ys ended) (ok_equal e₄)

-- Lists that are closed stay as they are, whatever follows.
mutual
  unfolding written_item as_item followed_by

  item_stays : (x : Sexp) (ts us : Stream Token) → followed_by (written_item (as_item x) ts) us ≡ written_item (as_item x) (followed_by ts us)
  item_stays (leaf name) ts us = refl
  item_stays (list xs) ts us = ap (opening ▹◌) (items_stay xs ts us)

  items_stay : (xs : Sexps) (ts us : Stream Token) → followed_by (written (as_items xs) ts) us ≡ written (as_items xs) (followed_by ts us)
  items_stay []ₛ ts us = refl
  items_stay (x ∷ₛ xs) ts us =
      item_stays x (written (as_items xs) ts) us ∙ ap (written_item (as_item x)) (items_stay xs ts us)

lists_followed : (xs : Sexps) (ts us : Stream Token) → items (followed_by (written (lists_then xs ended) ts) us) ≡ lists_then xs (items us)
unfolding lists_then written followed_by items innermost
lists_followed []ₛ ts us = refl
lists_followed (x ∷ₛ xs) ts us =
    ap items (item_stays x (written (lists_then xs ended) ts) us)
    ∙ ap innermost (around_item x (followed_by (written (lists_then xs ended) ts) us))
    ∙ ap (as_item x then◌) (lists_followed xs ts us)

-- Tokens that were read whole are those of the nested lists.
pub written_whole : (ts : Stream Token) {xs : Sexps} → sexps (items ts) ≡ ok xs → ts ≡ written (lists_then xs ended) (written_out (outer (around ts)))
unfolding items
written_whole ts e =
    sym (cut ts) ∙ in_front (around ts) ∙ ap (λ is. written is (written_out (outer (around ts)))) (sexps_stand (items ts) e)

-- The items of tokens that were read whole, followed by others: the nested lists of the ones, then the items of the others.
items_of_followed : (ts us : Stream Token) {xs : Sexps} → sexps (items ts) ≡ ok xs → items (followed_by ts us) ≡ lists_then xs (items us)
items_of_followed ts us {xs} e =
    ap (λ vs. items (followed_by vs us)) (written_whole ts e) ∙ lists_followed xs (written_out (outer (around ts))) us

-- Nested lists that were read and declared, with items behind them: what is behind is read, and declared after them.
declared_next : (m : Result Sexps) (x : Sexp) (th : Theory) {next : Theory} → declaration th x ≡ ok next
    → (m >>= (λ xs. ok (x ∷ₛ xs)) >>= declarations th) ≡ (m >>= declarations next)
unfolding ◌>>=◌ declarations
declared_next (ok xs) x th e = onᵣ _ e
declared_next (refused r) x th e = refl

lists_read : (xs : Sexps) (is : Items) (th : Theory) {next : Theory} → sexps (lists_then xs ended) ≡ ok xs → declarations th xs ≡ ok next
    → (sexps (lists_then xs is) >>= declarations th) ≡ (sexps is >>= declarations next)
unfolding lists_then sexps declarations
lists_read []ₛ is th e d = ap (λ t. sexps is >>= declarations t) (ok_equal d)
lists_read (x ∷ₛ xs) is th {next} e d =
    afterᵣ _ e λ y e₁ e₂.
    afterᵣ _ e₂ λ ys e₃ e₄.
    afterᵣ _ d λ t d₁ d₂.
    let h : y ≡ x = cc in
    let k : ys ≡ xs = cc in
    ap (λ m. m >>= declarations th) (onᵣ _ (e₁ ∙ ap ok h))
    ∙ declared_next (sexps (lists_then xs is)) x th d₁
    ∙ lists_read xs is t (e₃ ∙ ap ok k) d₂

-- The theory of a text whose tokens are those of R and then others: refusals of the others included.
pub theory_followed : (R text : List ℕ) (us : Stream Token) {th : Theory} → theory R ≡ ok th → tokens text ≡ followed_by (tokens R) us
    → theory text ≡ (sexps (items us) >>= declarations th)
unfolding theory
theory_followed R text us e same =
    afterᵣ _ e λ xs e₁ e₂.
    ap (λ ts. sexps (items ts) >>= declarations empty_theory) same
    ∙ ap (λ is. sexps is >>= declarations empty_theory) (items_of_followed (tokens R) us e₁)
    ∙ lists_read xs (items us) empty_theory (ap sexps (sym (sexps_stand (items (tokens R)) e₁)) ∙ e₁) e₂

-- The theory of R, a new line and further text.
pub theory-longer : (R further : List ℕ) {th : Theory} → theory R ≡ ok th
    → theory (longer R further) ≡ (sexps (items (tokens further)) >>= declarations th)
theory-longer R further e = theory_followed R (longer R further) (tokens further) e (tokens-longer R further)
