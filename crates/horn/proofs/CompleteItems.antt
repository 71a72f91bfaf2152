-- The items of printed forms are those forms; and every atom of a text is a word, that is, made of ordinary characters.
use Prim.Native.Nat.{ℕ, suc}
use mathlib.Core.Path.{◌≡◌, refl, sym, ap, ◌∙◌}
use mathlib.Core.List.{List, [], ◌∷◌, ◌++◌, append-nil, append_assoc}
use mathlib.Core.Option.{Option, none, some}
use Rattle.horn.specs.Refusals.{ok}
use Rattle.horn.specs.Utf8.{Char, char, decoded}
use Rattle.horn.specs.Tokens.{Stream, end, bad, ◌▹◌, before, lines, characters, Kind, blank, opens, closes, comments, ordinary, kind}
use Rattle.horn.specs.Tokens.{Token, opening, closing, atom, Place, between, in_comment, in_atom, Move, begins, continues, move}
use Rattle.horn.specs.Tokens.{unended, tokens_from, tokens}
use Rattle.horn.specs.NestedLists.{Item, word, group, Items, closed, ended, bad_line, ◌then◌, Around, ◌inside◌, innermost, outer}
use Rattle.horn.specs.NestedLists.{add, around, items}
use Rattle.horn.specs.NestedLists.{Sexp, leaf, list, Sexps, []ₛ, ◌∷ₛ◌, as_item, as_items, top_items, written_item, written}
use Rattle.horn.specs.NestedLists.{absent, asked_at, sexp, members, sexps}
use Rattle.horn.specs.Layout.{printed_lines}
use Rattle.horn.proofs.Counts.{in_comment_lem, AllAround, all_end, all_bad, all_inside, all_innermost, all_outer}
use Rattle.horn.proofs.Inversion.{afterᵣ, not_ok, ok_equal}
use Rattle.horn.proofs.CompleteUtf8.{All, all_append, Proper, decoded-append, decoded_proper}
use Rattle.horn.proofs.CompleteTokens.{Ordinary, bytes_of, Word, WordsIn, leaf_word, list_words, AllWords, no_words, ◌and_words◌, tokens_printed}

mutual
  unfolding around add innermost outer written_item as_item

  pub around_item : (x : Sexp) (ts : Stream Token)
      → around (written_item (as_item x) ts) ≡ (as_item x then innermost (around ts)) inside outer (around ts)
  around_item (leaf name) ts = refl
  around_item (list xs) ts = ap (add opening) (around_items xs ts)

  around_items : (xs : Sexps) (ts : Stream Token) → around (written (as_items xs) ts) ≡ as_items xs inside around ts
  around_items []ₛ ts = refl
  around_items (x ∷ₛ xs) ts =
      around_item x (written (as_items xs) ts) ∙ ap (λ a. (as_item x then innermost a) inside outer a) (around_items xs ts)

items_forms : (xs : List Sexp) → items (written (top_items xs) end) ≡ top_items xs
unfolding items top_items around innermost written_item
items_forms [] = refl
items_forms (x ∷ xs) = ap innermost (around_item x (written (top_items xs) end)) ∙ ap (as_item x then◌) (items_forms xs)

pub items_printed : (xs : List Sexp) → All WordsIn xs → items (tokens (printed_lines xs)) ≡ top_items xs
items_printed xs ws = ap items (tokens_printed xs ws) ∙ items_forms xs

-- Each character that a text is decoded to is the one that its own bytes are decoded to.
abbrev AllIn : {A : Type 0} → (A → Type 0) → Stream A → Type 0
AllIn P end = Unit
AllIn P bad = Unit
AllIn P (a ▹ s) = P a × AllIn P s

all_before : {A : Type 0} (P : A → Type 0) (xs : List A) (s : Stream A) → All P xs → AllIn P s → AllIn P (before xs s)
unfolding before
all_before P [] s p q = q
all_before P (x ∷ xs) s p q = (p.0, all_before P xs s p.1 q)

line_proper : (o : Option (List Char)) (s : Stream Char) → ((cs : List Char) → o ≡ some cs → All Proper cs) → AllIn Proper s
    → AllIn Proper (elim o [ none ↦ bad | some cs ↦ before cs s ])
line_proper none s p q = tt
line_proper (some cs) s p q = all_before Proper cs s (p cs refl) q

characters_proper : (ls : List (List ℕ)) → AllIn Proper (characters ls)
unfolding characters
characters_proper [] = tt
characters_proper (l ∷ ls) = line_proper (decoded l) (characters ls) (λ cs e. decoded_proper l e) (characters_proper ls)

-- Every atom among the tokens of a text is a word.
abbrev WordToken : Token → Type 0
WordToken opening = Unit
WordToken closing = Unit
WordToken (atom bs) = Word bs

abbrev WordPlace : Place → Type 0
WordPlace between = Unit
WordPlace in_comment = Unit
WordPlace (in_atom bs) = Word bs

abbrev WordMove : Move → Type 0
WordMove m = All WordToken m.0 × WordPlace m.1

pub first_word : (bs : List ℕ) (v : ℕ) → Proper (char bs v) → kind v ≡ ordinary → Word bs
first_word bs v p o =
    record { first_char = char bs v; other_chars = []; decodes = p; bytes = append-nil bs; ordinarily = (o, tt) }

bytes_of-append : (cs ds : List Char) → bytes_of (cs ++ ds) ≡ bytes_of cs ++ bytes_of ds
bytes_of-append [] ds = refl
bytes_of-append (char bs v ∷ cs) ds = ap (bs ++◌) (bytes_of-append cs ds) ∙ sym (append_assoc bs (bytes_of cs) (bytes_of ds))

pub word_append : {as' bs : List ℕ} → Word as' → Word bs → Word (as' ++ bs)
word_append {as'} {bs} w v =
    record {
      first_char = w.first_char;
      other_chars = w.other_chars ++ (v.first_char ∷ v.other_chars);
      decodes = decoded-append as' bs w.decodes v.decodes;
      bytes =
          bytes_of-append (w.first_char ∷ w.other_chars) (v.first_char ∷ v.other_chars)
          ∙ ap (◌++ bytes_of (v.first_char ∷ v.other_chars)) w.bytes
          ∙ ap (as' ++◌) v.bytes;
      ordinarily = all_append Ordinary (w.first_char ∷ w.other_chars) (v.first_char ∷ v.other_chars) w.ordinarily v.ordinarily;
    }

begins_words : (k : Kind) (bs : List ℕ) (v : ℕ) → Proper (char bs v) → kind v ≡ k → WordMove (begins k bs)
unfolding begins
begins_words blank bs v p e = (tt, tt)
begins_words opens bs v p e = ((tt, tt), tt)
begins_words closes bs v p e = ((tt, tt), tt)
begins_words comments bs v p e = (tt, tt)
begins_words ordinary bs v p e = (tt, first_word bs v p e)

continues_words : (k : Kind) (as' bs : List ℕ) (v : ℕ) → Word as' → Proper (char bs v) → kind v ≡ k → WordMove (continues as' k bs)
unfolding continues
continues_words blank as' bs v w p e = ((w, tt), tt)
continues_words opens as' bs v w p e = ((w, (tt, tt)), tt)
continues_words closes as' bs v w p e = ((w, (tt, tt)), tt)
continues_words comments as' bs v w p e = ((w, tt), tt)
continues_words ordinary as' bs v w p e = (tt, word_append w (first_word bs v p e))

move_words : (place : Place) (c : Char) → WordPlace place → Proper c → WordMove (move place c)
unfolding move
move_words between (char bs v) w p = begins_words (kind v) bs v p refl
move_words (in_atom as') (char bs v) w p = continues_words (kind v) as' bs v w p refl
move_words in_comment c w p = in_comment_lem WordMove c (tt, tt) (tt, tt)

unended_words : (place : Place) → WordPlace place → All WordToken (unended place)
unfolding unended
unended_words between w = tt
unended_words in_comment w = tt
unended_words (in_atom bs) w = (w, tt)

tokens_from_words : (s : Stream Char) (place : Place) → WordPlace place → AllIn Proper s → AllIn WordToken (tokens_from place s)
unfolding tokens_from
tokens_from_words end place w p = all_before WordToken (unended place) end (unended_words place w) tt
tokens_from_words bad place w p = all_before WordToken (unended place) bad (unended_words place w) tt
tokens_from_words (c ▹ cs) place w p =
    let m = move_words place c w p.0 in
    all_before WordToken (move place c).0 (tokens_from (move place c).1 cs) m.0
    (tokens_from_words cs (move place c).1 m.1 p.1)

-- Every atom among the items of a text is a word.
mutual
  pub data WordItem : Item → Type 0 where
    a_word : {name : List ℕ} → Word name → WordItem (word name)
    a_group : {is : Items} → WordItems is → WordItem (group is)

  pub data WordItems : Items → Type 0 where
    at_closed : WordItems closed
    at_ended : WordItems ended
    at_broken : WordItems bad_line
    ◌then_words◌ : {item : Item} {rest : Items} → WordItem item → WordItems rest → WordItems (item then rest)

infixr 20 ◌then_words◌
abbrev WordAround : Around → Type 0
WordAround = AllAround WordItems

innermost_words : {a : Around} → WordAround a → WordItems (innermost a)
innermost_words w = all_innermost at_ended at_broken w

around_words : (ts : Stream Token) → AllIn WordToken ts → WordAround (around ts)
unfolding around add
around_words end w = all_end
around_words bad w = all_bad
around_words (closing ▹ ts) w = all_inside closed at_closed (around_words ts w.1)
around_words (atom bs ▹ ts) w =
    let a = around_words ts w.1 in
    all_inside _ (a_word w.0 then_words innermost_words a) (all_outer a)
around_words (opening ▹ ts) w =
    let a = around_words ts w.1 in
    all_inside _ (a_group (innermost_words a) then_words innermost_words (all_outer a)) (all_outer (all_outer a))

pub items_words : (text : List ℕ) → WordItems (items (tokens text))
unfolding items tokens
items_words text =
    innermost_words (around_words _ (tokens_from_words (characters (lines text)) between tt (characters_proper (lines text))))

-- Nested lists that were read have words for atoms.
mutual
  unfolding sexp absent

  sexp_words : (item : Item) (depth : ℕ) {x : Sexp} → WordItem item → sexp depth item ≡ ok x → WordsIn x
  sexp_words (word bs) depth (a_word w) e = rw (← ok_equal e) (leaf_word w)
  sexp_words (group inner) depth (a_group w) e =
      afterᵣ (members (suc depth) inner) e λ xs e₁ e₂. rw (← ok_equal e₂) (list_words (members_words inner (suc depth) w e₁))

  members_words : (is : Items) (depth : ℕ) {xs : Sexps} → WordItems is → members depth is ≡ ok xs → AllWords xs
  members_words closed depth at_closed e = rw (← ok_equal e) no_words
  members_words bad_line depth at_broken e = not_ok e
  members_words ended depth at_ended e = afterᵣ (asked_at depth) e λ u e₁ e₂. not_ok e₂
  members_words (item then rest) depth (w then_words ws) e =
      afterᵣ (asked_at depth) e λ u e₀ e'.
      afterᵣ (sexp depth item) e' λ x e₁ e''.
      afterᵣ (members depth rest) e'' λ xs e₂ e₃.
      rw (← ok_equal e₃) (sexp_words item depth w e₁ and_words members_words rest depth ws e₂)

pub sexps_words : (is : Items) {xs : Sexps} → WordItems is → sexps is ≡ ok xs → AllWords xs
unfolding sexps
sexps_words ended at_ended e = rw (← ok_equal e) no_words
sexps_words bad_line at_broken e = not_ok e
sexps_words closed at_closed e = not_ok e
sexps_words (item then rest) (w then_words ws) e =
    afterᵣ (sexp 0 item) e λ x e₁ e''.
    afterᵣ (sexps rest) e'' λ xs e₂ e₃.
    rw (← ok_equal e₃) (sexp_words item 0 w e₁ and_words sexps_words rest ws e₂)
