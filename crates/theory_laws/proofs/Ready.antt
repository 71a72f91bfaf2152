-- Where the walk stands while a rule's patterns are read: before which tokens, with which variables, over which theory.
-- Assumes nothing.
use mathlib.Core.Path.{◌≡◌, ◌∙◌}
use mathlib.Core.List.{List, [], ◌∷◌, ◌++◌}
use Prim.Native.Nat.{ℕ, zero, suc, ◌+◌, ◌*◌, ◌≤◌, ◌<◌}
use native.Mathlib.Omega.{arith}
use lib.ListN.{length, get_or, set}
use Rattle.capacity.specs.Below.horn.specs.Names.{Name}
use Rattle.capacity.specs.Below.horn.specs.Tokens.{Stream, Token}
use Rattle.capacity.specs.Below.horn.specs.Rulebook.{Variable, variable, Pattern, Theory}
use Rattle.theory.specs.Below.words.specs.Parts.{part}
use Rattle.theory.specs.Below.lex.specs.declared.Reader.{Reader}
use Rattle.theory.specs.Below.words.specs.Sums.{sum32}
use Rattle.theory.specs.Below.items.specs.Places as places
use Rattle.theory.specs.Below.items.specs.Items.{with_top}
use Rattle.theory.specs.Below.variables.specs.Variables.{Areas}
use Rattle.theory.specs.Below.items.specs.declared.Walk.{Walk}
use Rattle.theory_laws.specs.Reading.{Walks, weight}
use Rattle.theory_laws.specs.Representation.{Entries, SortAt, Nth, here, there, Flat, VariablesAt, no_variables, one_variable, Holds}
use Rattle.theory.specs.Below.words.proofs.Sums.{sum_small}
use Rattle.theory_laws.proofs.Frames.{Keeps, keeps_set, keeps_then, grown_none, flat_kept, holds_kept}

-- One variable more behind others.
pub nth_more : (vs ws : List Variable) {v : ℕ} {name : Name} → Nth vs v name → Nth (vs ++ ws) v name
nth_more (variable name s ∷ vs) ws here = here
nth_more [] ws x' = elim x' [ ]
nth_more (x ∷ vs) ws (there n) = there (nth_more vs ws n)

pub nth_last : (vs : List Variable) (name s : Name) {v : ℕ} → v ≡ length vs → Nth (vs ++ (variable name s ∷ [])) v name
nth_last [] name s e = rw e here
nth_last (x ∷ vs) name s {v = zero} e = absurd (omega arith)
nth_last (x ∷ vs) name s {v = suc v} e = there {v = v} (nth_last vs name s {v = v} (omega arith))

pub nth_below : (vs : List Variable) {v : ℕ} {name : Name} → Nth vs v name → v < length vs
nth_below (variable name s ∷ vs) here = omega arith
nth_below [] x' = elim x' [ ]
nth_below (x ∷ vs) (there n) = omega (arith, nth_below vs n)

pub variables_more : {text area : List ℕ} {es : Entries} {o : ℕ} {vs : List Variable} (name s : Name) (p : ℕ)
    → VariablesAt text area es o vs
    → p ≡ o + places.variable_words * length vs
    → part (get_or area p 0) (get_or area (p + 1) 0) text ≡ name
    → SortAt es (get_or area (p + 2) 0) s
    → VariablesAt text area es o (vs ++ (variable name s ∷ []))
variables_more {o} name s p no_variables e n a =
    let q : o ≡ p = omega arith in one_variable {o = o} {name = name} {s = s} (rw q n) (rw q a) no_variables
variables_more name s p (one_variable n' a' r) e n a = one_variable n' a' (variables_more name s p r (omega arith) n a)

module _ (text counts : List ℕ) (Before : Reader → Stream Token → Type 0) (th : Theory) (es : Entries) (base spare : ℕ) where
  -- The tokens and member counts that come, the variables so far. Each token that comes pays for the words that it may
  -- need, and `credit` is what is paid already: three for each word. A rule's entry takes one more than `rule` pays for its
  -- seven words; a name that is an atom pays it and has `spare` left, and no rule is entered by another.
  pub record Ready (credit : ℕ) (ts : Stream Token) (ks : List ℕ) (vs : List Variable) (w : Walk) (vars heap : List ℕ) : Type 0 where
    pub walks : Walks text counts Before ts ks w
    pub holds : Holds text heap es base th
    pub above : base + places.patterns ≤ w.top
    pub base_low : places.entries ≤ base
    pub many : w.variables ≡ length vs
    pub long : length vars ≡ 16384
    pub variables : VariablesAt text vars es 0 vs
    pub room : 3 * w.top + 9 * length vs + 4 * weight ts + credit + spare ≤ 35846

  -- What reading leaves.
  pub record Reached (ts : Stream Token) (ks : List ℕ) (vs : List Variable) (from : ℕ) (heap : List ℕ) (q : Walk) (areas : Areas)
      (vs' : List Variable) : Type 0 where
    pub ready : Ready 0 ts ks vs' q areas.0 areas.1
    pub keeps : Keeps from heap areas.1
    pub rises : from ≤ q.top
    pub more : (v : ℕ) (name : Name) → Nth vs v name → Nth vs' v name

  pub record PatternRead (ts : Stream Token) (ks : List ℕ) (vs : List Variable) (from : ℕ) (heap : List ℕ) (q : Walk) (areas : Areas)
      (r : Pattern × List Variable) : Type 0 where
    pub reached : Reached ts ks vs from heap q areas r.1
    pub flat : Flat areas.1 es base (base + places.patterns) q.top r.1 from r.0 q.top

  -- One word more.
  pub push_ready : {ts : Stream Token} {ks : List ℕ} {vs : List Variable} {w : Walk} {vars heap : List ℕ} (word : ℕ)
      → Ready 3 ts ks vs w vars heap
      → Ready 0 ts ks vs (with_top w (sum32 w.top 1)) vars (set heap w.top word)
  push_ready {w} {heap} word r =
      let a = r.above in
      let m = r.room in
      let e : sum32 w.top 1 ≡ w.top + 1 = sum_small w.top 1 (omega arith) in
      record {
        walks = record { before = r.walks.before; counted = r.walks.counted; few = r.walks.few };
        holds = holds_kept (keeps_set base heap w.top word (omega arith)) (omega arith) r.holds;
        above = rw e (omega arith);
        base_low = r.base_low;
        many = r.many;
        long = r.long;
        variables = r.variables;
        room = rw e (omega arith);
      }

  -- Behind other tokens, with the words as they are.
  pub ready_on : {c d : ℕ} {ts us : Stream Token} {ks ls : List ℕ} {vs : List Variable} {w q : Walk} {vars heap : List ℕ} → Ready c ts ks vs w vars heap
      → Walks text counts Before us ls q → q.top ≡ w.top → q.variables ≡ w.variables → 4 * weight us + d ≤ 4 * weight ts + c
      → Ready d us ls vs q vars heap
  ready_on r walks t v p =
      let a = r.above in
      let m = r.room in
      record {
        walks = walks;
        holds = r.holds;
        above = omega arith;
        base_low = r.base_low;
        many = v ∙ r.many;
        long = r.long;
        variables = r.variables;
        room = omega arith;
      }

  -- One reading after another: what both leave, and that a pattern of the first stays.
  module _ {ts us : Stream Token} {ks ls : List ℕ} {vs vs₁ vs₂ : List Variable} {from : ℕ} {heap : List ℕ} {q q' : Walk} {areas areas' : Areas}
      (y : Reached us ls vs from heap q areas vs₁) (z : Reached ts ks vs₁ q.top areas.1 q' areas' vs₂) where
    pub reached_then : Reached ts ks vs from heap q' areas' vs₂
    reached_then =
        let a = y.rises in
        let b = z.rises in
        record {
          ready = z.ready;
          keeps = keeps_then a y.keeps z.keeps;
          rises = omega arith;
          more = λ v e m. z.more v e (y.more v e m);
        }

    pub flat_then : {o o' : ℕ} {p : Pattern} → Flat areas.1 es base (base + places.patterns) q.top vs₁ o p o'
        → Flat areas'.1 es base (base + places.patterns) q'.top vs₂ o p o'
    flat_then f =
        let u = y.ready.above in
        flat_kept grown_none (λ i g h. z.keeps.words i (omega arith)) (omega arith) (λ i g h. z.keeps.words i h) z.rises z.more f
