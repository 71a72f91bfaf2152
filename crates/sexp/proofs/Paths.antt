-- One law for each way through a token's step and through the end of the text.
use Rattle.std.proofs.Common.{◌≡◌, ℕ, ◌+◌, ◌-◌, ◌%◌, ◌<◌, ◌≤◌, Bool, true, false, List, get_or, set, refl, ap, le-ltb, lt-ltb, eq-eqb, ne_eqb}
use Rattle.lex.specs.Below.horn.specs.Refusals.{number}
use Rattle.lex.specs.declared.Token.TheVariants.{Opening, Closing, Atom}
use Rattle.sexp.specs.declared.Place.{Place}
use Rattle.sexp.specs.Steps.{On, Refused}
use Rattle.sexp.specs.Walk.{deepest, open_lists, before_open, whole, refused, place, counted, member_added, list_opened, stepped, area_stepped, ended_at}

pub no_member : (d : ℕ) (area : List ℕ) → d ≡ 0 → member_added d area ≡ area
unfolding member_added
no_member d area e = rw (eq-eqb d 0 e, member_added)

pub a_member : (d : ℕ) (area : List ℕ) → (d ≡ 0 → ⊥) → member_added d area ≡ counted area (get_or area (before_open + d) 0)
unfolding member_added
a_member d area e = rw (ne_eqb d 0 e, member_added)

-- The three words that an opening changes, one after the other.
pub opened_list : (n d : ℕ) (area : List ℕ) {added zeroed opened : List ℕ} → added ≡ member_added d area → zeroed ≡ set added n 0
    → opened ≡ set zeroed (open_lists + d) n
    → opened ≡ list_opened n d area
unfolding list_opened
opened_list n d area e f g = rw (g, f, e)

module _ (p : Place) where
  pub end_top : p.depth ≡ 0 → ended_at p ≡ whole p.openings
  unfolding ended_at
  end_top e = rw (eq-eqb p.depth 0 e, ended_at)

  pub end_open : (p.depth ≡ 0 → ⊥) → p.depth ≤ deepest → ended_at p ≡ refused 5
  unfolding ended_at number
  end_open e h = rw (ne_eqb p.depth 0 e, ended_at, le-ltb deepest p.depth h)

  pub end_deep : (p.depth ≡ 0 → ⊥) → deepest < p.depth → ended_at p ≡ refused 4
  unfolding ended_at number
  end_deep e h = rw (ne_eqb p.depth 0 e, ended_at, lt-ltb deepest p.depth h)

  pub closing_top : p.depth ≡ 0 → stepped Closing p ≡ Refused 6
  unfolding stepped number
  closing_top e = rw (eq-eqb p.depth 0 e, stepped)

  pub closing_on : (p.depth ≡ 0 → ⊥) → stepped Closing p ≡ On (place p.openings (p.depth - 1))
  unfolding stepped
  closing_on e = rw (ne_eqb p.depth 0 e, stepped)

  pub opening_on : p.depth ≤ deepest → stepped Opening p ≡ On (place ((p.openings + 1) % 4_294_967_296) (p.depth + 1))
  unfolding stepped
  opening_on h = rw (le-ltb deepest p.depth h, stepped)

  pub opening_deep : deepest < p.depth → stepped Opening p ≡ Refused 4
  unfolding stepped number
  opening_deep h = rw (lt-ltb deepest p.depth h, stepped)

  pub atom_on : (s e : ℕ) → p.depth ≤ deepest → stepped (Atom s e) p ≡ On p
  unfolding stepped number
  atom_on s e h = ap (λ (b : Bool). elim b [ true ↦ Refused 4 | false ↦ On p ]) (le-ltb deepest p.depth h)

  pub atom_deep : (s e : ℕ) → deepest < p.depth → stepped (Atom s e) p ≡ Refused 4
  unfolding stepped number
  atom_deep s e h = rw (lt-ltb deepest p.depth h, stepped)

  module _ (area : List ℕ) where
    pub area_closing : area_stepped Closing p area ≡ area
    unfolding area_stepped
    area_closing = refl

    pub area_opening_deep : deepest < p.depth → area_stepped Opening p area ≡ area
    unfolding area_stepped
    area_opening_deep h = rw (lt-ltb deepest p.depth h, area_stepped)

    pub area_opening : p.depth ≤ deepest → area_stepped Opening p area ≡ list_opened p.openings p.depth area
    unfolding area_stepped
    area_opening h = rw (le-ltb deepest p.depth h, area_stepped)

    pub area_atom_deep : (s e : ℕ) → deepest < p.depth → area_stepped (Atom s e) p area ≡ area
    unfolding area_stepped
    area_atom_deep s e h = rw (lt-ltb deepest p.depth h, area_stepped)

    pub area_atom : (s e : ℕ) → p.depth ≤ deepest → area_stepped (Atom s e) p area ≡ member_added p.depth area
    unfolding area_stepped
    area_atom s e h = rw (le-ltb deepest p.depth h, area_stepped)

pub ruleset members = (no_member, a_member)

pub ruleset ends = (end_top, end_open, end_deep)

pub ruleset steps = (
  closing_top,
  closing_on,
  opening_on,
  opening_deep,
  atom_on,
  atom_deep,
  area_closing,
  area_opening_deep,
  area_opening,
  area_atom_deep,
  area_atom,
)
