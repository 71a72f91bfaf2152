-- Without the new line: the tokens of a rulebook that gives a theory, with a text put directly behind it, begin with the rulebook's, if the two
-- as one rulebook give a theory too. For such a rulebook has no bad line and does not end in an atom; it may end in a comment, which swallows
-- what follows on its line.
use Prim.Native.Nat.{ℕ}
use mathlib.Core.Path.{◌≡◌, refl, sym, ap, subst, ◌∙◌}
use mathlib.Core.List.{List, [], ◌∷◌, ◌++◌}
use mathlib.Core.Option.{some}
use Rattle.horn.specs.Refusals.{ok}
use Rattle.horn.specs.Utf8.{Char, decoded}
use Rattle.horn.specs.Tokens.{Stream, end, bad, ◌▹◌, before, lines, characters}
use Rattle.horn.specs.Tokens.{Token, opening, closing, atom, Place, between, in_comment, in_atom, move, unended, tokens_from, tokens}
use Rattle.horn.specs.NestedLists.{ended, Sexp, leaf, list, Sexps, []ₛ, ◌∷ₛ◌, as_item, as_items, written_item, written}
use Rattle.horn.specs.Rulebook.{Theory, declarations, theory}
use Rattle.horn.proofs.Inversion.{some_equal, case_option, afterᵣ}
use Rattle.horn.proofs.Declaring.{declaration_by}
use Rattle.horn.proofs.CompleteUtf8.{mapped, decoded_before}
use Rattle.horn.proofs.CompleteLines.{before-append, head_line, tail_lines, characters_first, characters-bad}
use Rattle.horn.proofs.LongerTokens.{followed_by, followed_before, onto_line_lem, Joined, behind_lines, within_line, next_line, lines_joined}
use Rattle.horn.proofs.LongerTheory.{lists_then, written_whole}
use Rattle.horn.proofs.LongerNames.{ExtendedBy, followed_extends}

-- A stream that no bad line breaks off.
data Whole {A : Type 0} : Stream A → Type 0 where
  whole_end : Whole end
  whole_next : {a : A} {s : Stream A} → Whole s → Whole (a ▹ s)

-- Tokens that no bad line breaks off, the last of them a closing, if there is one.
data Shut : Stream Token → Type 0 where
  shut_end : Shut end
  shut_closing : {s : Stream Token} → Shut s → Shut (closing ▹ s)
  shut_next : {t u : Token} {s : Stream Token} → Shut (u ▹ s) → Shut (t ▹ u ▹ s)

shut_rest : {t : Token} {s : Stream Token} → Shut (t ▹ s) → Shut s
shut_rest (shut_closing h) = h
shut_rest (shut_next h) = h

-- A stream that is shut with any token before it.
abbrev ShutBehind : Stream Token → Type 0
ShutBehind s = (t : Token) → Shut (t ▹ s)

mutual
  unfolding written_item as_item

  item_shut : (x : Sexp) {s : Stream Token} → ShutBehind s → ShutBehind (written_item (as_item x) s)
  item_shut (leaf name) h t = shut_next (h (atom name))
  item_shut (list xs) h t = shut_next (items_shut xs (shut_rest (h t)) opening)

  items_shut : (xs : Sexps) {s : Stream Token} → Shut s → ShutBehind (written (as_items xs) s)
  items_shut []ₛ h t = shut_next (shut_closing h)
  items_shut (x ∷ₛ xs) h t = item_shut x (items_shut xs h) t

-- The tokens of declarations: each is a list.
declared_shut : (xs : Sexps) (th : Theory) (s : Stream Token) {later : Theory} → declarations th xs ≡ ok later → Shut (written (lists_then xs ended) s)
unfolding declarations lists_then written as_item
declared_shut []ₛ th s e = shut_end
declared_shut (x ∷ₛ xs) th s e =
    afterᵣ _ e λ next e₁ e₂.
    let b = declaration_by th x e₁ in
    subst (λ y. Shut (written_item (as_item y) (written (lists_then xs ended) s))) (sym b.shape)
    (items_shut (b.head ∷ₛ b.name_member ∷ₛ b.behind) (declared_shut xs next s e₂) opening)

theory_shut : (text : List ℕ) {th : Theory} → theory text ≡ ok th → Shut (tokens text)
unfolding theory
theory_shut text e = afterᵣ _ e λ xs e₁ e₂. subst Shut (sym (written_whole (tokens text) e₁)) (declared_shut xs _ _ e₂)

-- Where a reader stands behind characters.
unfoldable pub place_after : Place → Stream Char → Place
place_after place end = place
place_after place bad = place
place_after place (c ▹ cs) = place_after (move place c).1 cs

-- If their tokens are shut, no bad line breaks them off, and no atom is left unended.
shut_before : (ts : List Token) {s : Stream Token} → Shut (before ts s) → Shut s
unfolding before
shut_before [] h = h
shut_before (t ∷ ts) h = shut_before ts (shut_rest h)

record Closes (place : Place) (s : Stream Char) : Type 0 where
  whole : Whole s
  nothing_unended : unended (place_after place s) ≡ []

shut_closes : (s : Stream Char) (place : Place) → Shut (tokens_from place s) → Closes place s
unfolding tokens_from unended before place_after
shut_closes end between h = record { whole = whole_end; nothing_unended = refl }
shut_closes end in_comment h = record { whole = whole_end; nothing_unended = refl }
shut_closes end (in_atom bs) h = elim h [ ]
shut_closes bad place h = elim (shut_before (unended place) h) [ ]
shut_closes (c ▹ cs) place h =
    let k = shut_closes cs (move place c).1 (shut_before (move place c).0 h) in
    record { whole = whole_next k.whole; nothing_unended = k.nothing_unended }

-- The characters of lines that begin with one that is decoded.
characters_head : (ls : List (List ℕ)) {cs : List Char} → decoded (head_line ls) ≡ some cs → characters ls ≡ before cs (characters (tail_lines ls))
unfolding head_line tail_lines decoded characters before
characters_head [] e = ap (λ cs. before cs end) (some_equal e)
characters_head (line ∷ ls) e = characters_first line ls e

whole_before : {A : Type 0} (xs : List A) {s : Stream A} → Whole (before xs s) → Whole s
unfolding before
whole_before [] w = w
whole_before (x ∷ xs) (whole_next w) = whole_before xs w

-- A first line that is not bad.
first_decoded {ℓ} : {C : Type ℓ} (line : List ℕ) (ls : List (List ℕ)) → Whole (characters (line ∷ ls))
    → ((cs : List Char) → decoded line ≡ some cs → Whole (characters ls) → C)
    → C
first_decoded line ls w k =
    case_option (decoded line)
    (λ n. absurd (not_whole (subst Whole (characters-bad line ls n) w)))
    (λ cs e. k cs e (whole_before cs (subst Whole (characters_first line ls e) w)))
  where
    not_whole : Whole {A = Char} bad → ⊥
    not_whole w = elim w [ ]

-- So the characters of what is put behind follow directly, where no line is bad.
characters_joined : {further : List ℕ} {ls ms : List (List ℕ)} → Joined further ls ms → Whole (characters ls) → Whole (characters ms)
    → characters ms ≡ followed_by (characters ls) (characters (lines further))
unfolding followed_by characters
characters_joined behind_lines w v = refl
characters_joined {further} (within_line b line) w v =
    let h = head_line (lines further) in
    let t = tail_lines (lines further) in
    let j = onto_line_lem b line (lines further) in
    first_decoded (b ∷ line) [] w λ cs e w₁.
    first_decoded (b ∷ line ++ h) t (subst (λ ms. Whole (characters ms)) j v) λ es f v₁.
    mapped (decoded h) (sym (decoded_before (b ∷ line) h e) ∙ f) λ ds g same.
    ap characters j
    ∙ characters_first (b ∷ line ++ h) t f
    ∙ ap (λ us. before us (characters t)) (sym same)
    ∙ before-append cs ds (characters t)
    ∙ ap (before cs) (sym (characters_head (lines further) g))
    ∙ sym (followed_before cs end (characters (lines further)))
    ∙ ap (λ s. followed_by s (characters (lines further))) (sym (characters_first (b ∷ line) [] e))
characters_joined {further} (next_line line {ls} {ms} j) w v =
    first_decoded line ls w λ cs e w₁.
    first_decoded line ms v λ ds f v₁.
    characters_first line ms e
    ∙ ap (before cs) (characters_joined j w₁ v₁)
    ∙ sym (followed_before cs (characters ls) (characters (lines further)))
    ∙ ap (λ s. followed_by s (characters (lines further))) (sym (characters_first line ls e))

-- And so do its tokens, from where the reader then stands.
tokens_joined : (s : Stream Char) (place : Place) (further : Stream Char) → Whole s → unended (place_after place s) ≡ []
    → tokens_from place (followed_by s further) ≡ followed_by (tokens_from place s) (tokens_from (place_after place s) further)
unfolding followed_by tokens_from place_after before
tokens_joined end place further w e = rw e
tokens_joined bad place further w e = elim w [ ]
tokens_joined (c ▹ cs) place further (whole_next w) e =
    ap (before (move place c).0) (tokens_joined cs (move place c).1 further w e)
    ∙ sym (followed_before (move place c).0 (tokens_from (move place c).1 cs) _)

-- The tokens of a rulebook with a text directly behind it: its own, then others.
pub tokens_directly : (R further : List ℕ) {th later : Theory} → theory R ≡ ok th → theory (R ++ further) ≡ ok later
    → tokens (R ++ further) ≡ followed_by (tokens R) (tokens_from (place_after between (characters (lines R))) (characters (lines further)))
unfolding tokens
tokens_directly R further e e₁ =
    let k = shut_closes (characters (lines R)) between (theory_shut R e) in
    let j = shut_closes (characters (lines (R ++ further))) between (theory_shut (R ++ further) e₁) in
    ap (tokens_from between) (characters_joined (lines_joined R further) k.whole j.whole)
    ∙ tokens_joined (characters (lines R)) between (characters (lines further)) k.whole k.nothing_unended

pub theory_directly : (R further : List ℕ) {th later : Theory} → theory R ≡ ok th → theory (R ++ further) ≡ ok later → ExtendedBy th later
theory_directly R further e e₁ = followed_extends R (R ++ further) _ e (tokens_directly R further e e₁) e₁
