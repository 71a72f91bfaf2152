-- The lent words hold the counts so far and the lists that are open; each token keeps that.
use Rattle.std.proofs.Common.{◌≡◌, ℕ, zero, suc, ◌+◌, ◌-◌, ◌%◌, ◌<◌, ◌≤◌, List, [], ◌∷◌, ◌++◌, length, get_or, take, set, sym, refl, ap, ◌∙◌, subst, ap₂, mod-eq_of_lt, arith, length-append, length-set, get_or-set_other, get_or-take, get_or-set_same, take-suc-set}
use lib.Seq.{take-set-lt, take-set-le}
use Rattle.sexp.specs.declared.Place.{Place}
use Rattle.sexp.specs.Walk.{deepest, open_lists, before_open, place, counted, member_added, list_opened}
use Rattle.sexp.proofs.Counting.{bump, member_of, length_member, Below, below_more}
use Rattle.sexp.proofs.Paths.{no_member, a_member}

-- The lists that are open, innermost first, stand downwards from where the innermost stands.
unfoldable pub Stacked : List ℕ → List ℕ → Type 0
Stacked area [] = Unit {0}
Stacked area (i ∷ is) = (get_or area (open_lists + length is) 0 ≡ i) × Stacked area is

stacked_below : (area is : List ℕ) (j v : ℕ) → j < open_lists → Stacked area is → Stacked (set area j v) is
unfolding Stacked
stacked_below area [] j v h s = tt
stacked_below area (i ∷ is) j v h s =
    (get_or-set_other area j (open_lists + length is) v 0 (λ e. omega (arith, e, h)) ∙ s.0, stacked_below area is j v h s.1)

stacked_above : (area is : List ℕ) (j v : ℕ) → open_lists + length is ≤ j → Stacked area is → Stacked (set area j v) is
unfolding Stacked
stacked_above area [] j v h s = tt
stacked_above area (i ∷ is) j v h s =
    (get_or-set_other area j (open_lists + length is) v 0 (λ e. omega (arith, e, h)) ∙ s.0, stacked_above area is j v (omega (arith, h)) s.1)

-- `left` tokens are still to come: every table and every count has room for them.
pub record Held (is cs : List ℕ) (left : ℕ) (p : Place) (area : List ℕ) : Type 0 where
  pub openings : p.openings ≡ length cs
  pub depth : p.depth ≡ length is
  pub kept : take (length cs) area ≡ cs
  pub stacked : Stacked area is
  pub below : Below (length cs) is
  pub room : length cs + left ≤ open_lists
  pub small : (k : ℕ) → get_or cs k 0 + left ≤ 8_192
  pub long : 16_384 ≤ length area

-- Counts after one member more, and after one list more.
bump_small : (cs : List ℕ) (i k : ℕ) → get_or (bump cs i 1) k 0 ≤ suc (get_or cs k 0)
bump_small [] i k = omega arith
bump_small (c ∷ cs) zero zero = omega arith
bump_small (c ∷ cs) zero (suc k) = omega arith
bump_small (c ∷ cs) (suc i) zero = omega arith
bump_small (c ∷ cs) (suc i) (suc k) = bump_small cs i k

member_small : (is cs : List ℕ) (k : ℕ) → get_or (member_of is cs) k 0 ≤ suc (get_or cs k 0)
unfolding member_of
member_small [] cs k = omega arith
member_small (i ∷ is) cs k = bump_small cs i k

get_d_snoc : (cs : List ℕ) (k : ℕ) → get_or (cs ++ (0 ∷ [])) k 0 ≡ get_or cs k 0
get_d_snoc [] zero = refl
get_d_snoc [] (suc k) = refl
get_d_snoc (c ∷ cs) zero = refl
get_d_snoc (c ∷ cs) (suc k) = get_d_snoc cs k

-- The word of a list's count is its count.
pub count_at : (cs area : List ℕ) (i : ℕ) → take (length cs) area ≡ cs → i < length cs → get_or area i 0 ≡ get_or cs i 0
count_at cs area i e h = sym (get_or-take (length cs) area i 0 h) ∙ ap (λ (s : List ℕ). get_or s i 0) e

-- Also after one more, in 32 bits.
counted_kept : (cs area : List ℕ) (i : ℕ) → take (length cs) area ≡ cs → i < length cs → get_or cs i 0 + 1 ≤ 8_192
    → take (length cs) (counted area i) ≡ bump cs i 1
unfolding counted
counted_kept cs area i e h small =
    take-set-lt (length cs) area i _ h
    ∙ ap₂ (λ (s : List ℕ) (v : ℕ). set s i v) e
    (ap (λ (v : ℕ). (v + 1) % 4_294_967_296) (count_at cs area i e h) ∙ mod-eq_of_lt (omega (arith, small)))

length-counted : (area : List ℕ) (i : ℕ) → length (counted area i) ≡ length area
unfolding counted
length-counted area i = length-set area i _

stacked_counted : (area is : List ℕ) (i : ℕ) → i < open_lists → Stacked area is → Stacked (counted area i) is
unfolding counted
stacked_counted area is i h s = stacked_below area is i _ h s

-- One token fewer to come.
module _ {is cs : List ℕ} {left : ℕ} {p : Place} {area : List ℕ} (h : Held is cs (suc left) p area) where
  fewer : (k : ℕ) → get_or cs k 0 + left ≤ 8_192
  fewer k = let s = h.small k in omega arith

  member_room : length (member_of is cs) + left ≤ open_lists
  member_room = let e = length_member is cs in let r = h.room in omega arith

  member_counts : (k : ℕ) → get_or (member_of is cs) k 0 + left ≤ 8_192
  member_counts k = let s = h.small k in let m = member_small is cs k in omega arith

-- Where the innermost list stands.
innermost_counted : {i : ℕ} (is cs : List ℕ) (left : ℕ) (p : Place) (area : List ℕ) → Held (i ∷ is) cs left p area
    → member_added p.depth area ≡ counted area i
unfolding Stacked
innermost_counted is cs left p area h =
    let d = h.depth in
    a_member p.depth area (λ e. omega (arith, d, e))
    ∙ ap (counted area) (ap (λ (n : ℕ). get_or area n 0) (let z : before_open + p.depth ≡ open_lists + length is = omega arith in z) ∙ h.stacked.0)

innermost_below : {i : ℕ} (is cs : List ℕ) (left : ℕ) (p : Place) (area : List ℕ) → Held (i ∷ is) cs left p area → i < length cs
unfolding Below
innermost_below is cs left p area h = h.below.0

-- An atom or a list is one member more.
pub member_held : (is cs : List ℕ) (left : ℕ) (p : Place) (area : List ℕ) → Held is cs (suc left) p area
    → Held is (member_of is cs) left p (member_added p.depth area)
unfolding member_of
member_held [] cs left p area h =
    subst
    (λ (a : List ℕ). Held [] cs left p a)
    (sym (no_member p.depth area h.depth))
    record {
      openings = h.openings;
      depth = h.depth;
      kept = h.kept;
      stacked = h.stacked;
      below = h.below;
      room = member_room h;
      small = fewer h;
      long = h.long;
    }
member_held (i ∷ is) cs left p area h =
    let b = innermost_below is cs (suc left) p area h in
    let r = h.room in
    let c = h.small i in
    let l = h.long in
    let m = length-counted area i in
    subst
    (λ (a : List ℕ). Held (i ∷ is) (bump cs i 1) left p a)
    (sym (innermost_counted is cs (suc left) p area h))
    record {
      openings = h.openings ∙ sym (length_member (i ∷ is) cs);
      depth = h.depth;
      kept = ap (λ (n : ℕ). take n (counted area i)) (length_member (i ∷ is) cs) ∙ counted_kept cs area i h.kept b (omega arith);
      stacked = stacked_counted area (i ∷ is) i (omega arith) h.stacked;
      below = rw (length_member (i ∷ is) cs) h.below;
      room = member_room h;
      small = member_counts h;
      long = omega arith;
    }

opened_kept : (cs area : List ℕ) (n d : ℕ) → length cs ≡ n → take (length cs) area ≡ cs → n < open_lists → n < length area
    → take (suc n) (set (set area n 0) (open_lists + d) n) ≡ cs ++ (0 ∷ [])
opened_kept cs area n d e kept h k =
    take-set-le (suc n) (set area n 0) (open_lists + d) n (omega (arith, h))
    ∙ take-suc-set area n 0 k
    ∙ ap (λ (s : List ℕ). s ++ (0 ∷ [])) (ap (λ (m : ℕ). take m area) (sym e) ∙ kept)

opened_innermost : (area : List ℕ) (n d v : ℕ) → d ≡ n → open_lists + d < length area
    → get_or (set area (open_lists + d) v) (open_lists + n) 0 ≡ v
opened_innermost area n d v e h =
    ap (λ (m : ℕ). get_or (set area (open_lists + d) v) (open_lists + m) 0) (sym e) ∙ get_or-set_same area (open_lists + d) v 0 h

-- A list that is opened has no member yet, and is the innermost.
pub opened_held : (is cs : List ℕ) (left : ℕ) (p : Place) (area : List ℕ) → p.depth ≤ deepest → Held is cs (suc left) p area
    → Held (length cs ∷ is) (member_of is cs ++ (0 ∷ [])) left (place ((p.openings + 1) % 4_294_967_296) (p.depth + 1))
    (list_opened p.openings p.depth area)
unfolding list_opened Stacked Below
opened_held is cs left p area deep h =
    let g = member_held is cs left p area h in
    let n = h.openings in
    let d = h.depth in
    let r = h.room in
    let m = length_member is cs in
    let e : length (member_of is cs ++ (0 ∷ [])) ≡ suc (length cs) = length-append (member_of is cs) (0 ∷ []) ∙ (omega arith) in
    let l = g.long in
    let l₁ = length-set (member_added p.depth area) p.openings 0 in
    let l₂ = length-set (set (member_added p.depth area) p.openings 0) (open_lists + p.depth) p.openings in
    record {
      openings = mod-eq_of_lt (omega arith) ∙ (let z : p.openings + 1 ≡ suc (length cs) = omega arith in z) ∙ sym e;
      depth = omega arith;
      kept =
          ap (λ (k : ℕ). take k (list_opened p.openings p.depth area)) (let z : length (member_of is cs ++ (0 ∷ [])) ≡ suc p.openings = omega arith in z)
          ∙ opened_kept (member_of is cs) (member_added p.depth area) p.openings p.depth (omega arith) g.kept (omega arith) (omega arith);
      stacked = (
        opened_innermost (set (member_added p.depth area) p.openings 0) (length is) p.depth p.openings d (omega arith) ∙ n,
        stacked_above (set (member_added p.depth area) p.openings 0) is (open_lists + p.depth) p.openings (omega arith)
            (stacked_below (member_added p.depth area) is p.openings 0 (omega arith) g.stacked),
      );
      below = (omega (arith, e), subst (λ (n : ℕ). Below n is) (sym e) (below_more (length cs) is h.below));
      room = omega arith;
      small = λ k. let s = g.small k in let t = get_d_snoc (member_of is cs) k in omega arith;
      long = omega arith;
    }

-- A closing.
pub closed_held : {i : ℕ} (is cs : List ℕ) (left : ℕ) (p : Place) (area : List ℕ) → Held (i ∷ is) cs (suc left) p area
    → Held is cs left (place p.openings (p.depth - 1)) area
unfolding Stacked Below
closed_held is cs left p area h =
    let d = h.depth in
    let r = h.room in
    record {
      openings = h.openings;
      depth = omega arith;
      kept = h.kept;
      stacked = h.stacked.1;
      below = h.below.1;
      room = omega arith;
      small = fewer h;
      long = h.long;
    }

-- The start of a text.
pub start_held : (left : ℕ) (area : List ℕ) → left ≤ 8_192 → 16_384 ≤ length area → Held [] [] left (place 0 0) area
unfolding Stacked Below
start_held left area h l =
    record {
      openings = refl;
      depth = refl;
      kept = refl;
      stacked = tt;
      below = tt;
      room = omega (arith, h);
      small = λ k. omega (arith, h);
      long = l;
    }
