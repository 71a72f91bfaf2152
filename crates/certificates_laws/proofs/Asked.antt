-- What a form asks without its areas, beside the definition: tests, names and searches. Assumes nothing.
use Prim.Native.Nat.{ℕ, ◌+◌, ◌-◌, ◌≤◌, ◌<◌}
use mathlib.Core.Path.{◌≡◌, refl, ap, sym, ◌∙◌}
use mathlib.Core.Bool.{Bool, true, false, not, ◌&&◌}
use mathlib.Core.List.{List}
use lib.Dec.{eqb}
use lib.ListN.{length}
use Rattle.certificates.specs.Below.horn.specs.Refusals as refusals
use Rattle.certificates.specs.Below.horn.specs.Refusals.{Refusal, Result, number, variable_name}
use Rattle.certificates.specs.Below.horn.specs.Names.{Name, questioned, bare}
use Rattle.certificates.specs.Below.horn.specs.Tokens.{Stream, Token}
use Rattle.certificates.specs.Below.horn.specs.NestedLists.{Items}
use Rattle.certificates.specs.Below.horn.specs.StoredTerms.{Store}
use Rattle.certificates.specs.Below.horn.specs.Checker as definition
use Rattle.certificates.specs.Below.horn.proofs.Equality.{case}
use Rattle.certificates.specs.Below.words.specs.Parts.{part}
use Rattle.certificates.specs.Below.words.proofs.Laws.{part-length}
use Rattle.certificates.specs.Below.lex.specs.declared.Reader.{Reader}
use Rattle.certificates.specs.Below.outcomes.specs.Outcomes as outcomes
use Rattle.certificates.specs.Below.outcomes.specs.Outcomes.{Outcome}
use Rattle.certificates.specs.Below.outcomes.specs.Leaving as leaving
use Rattle.certificates.specs.Below.outcomes.specs.Leaving.{Did, ◌leaving◌}
use Rattle.certificates.specs.Below.items.specs.Items.{question}
use Rattle.certificates.specs.Below.outcomes.specs.Simulation.{Answers, both_refuse, both_ok, then, Simulates, refuse}
use Rattle.certificates.specs.Below.theory_laws.proofs.Lookups.{part-question, bare_width}
use Rattle.steps_laws.specs.Below.asking_laws.proofs.Places.{RestComes, At}
use Rattle.steps_laws.specs.Below.asking_laws.proofs.Asking.{WordMet, word_met, word_law}
use Rattle.certificates.specs.Below.asking.specs.Asking.{in_form, atom_due}
use Rattle.certificates.specs.Below.forms.specs.Forms.{def_named}

-- What was asked for and tested at once, where the definition does one after the other.
pub lifted_tested : {S A B C D : Type 0} {Q : A → B → Type 0} {R : C → S → D → Type 0} {o : Outcome A} {s : S} (ts : Store) (m : Result B) (g : B → Bool)
    (r : Refusal)
    (f : A × S → Did S C) (f' : B → Store → Result D)
    → Answers Q o (refusals.◌>>=◌ m (λ b. refusals.◌>>=◌ (refusals.need (g b) r) (λ _. refusals.ok b)))
    → ((a : A) (b : B) → Q a b → Simulates R (f (a, s)) (f' b ts))
    → Simulates R (leaving.◌>>=◌ (o leaving s) f)
    (refusals.◌>>=◌ {A = B × Store} (refusals.◌>>=◌ m (λ b. refusals.ok (b, ts)))
    (λ p. refusals.◌>>=◌ {A = Unit {0} × Store} (refusals.◌>>=◌ (refusals.need (g p.0) r) (λ u. refusals.ok (u, p.1))) (λ u. f' p.0 u.1)))
unfolding refusals.◌>>=◌ refusals.need
lifted_tested {A} {Q} {R} {s} ts (refusals.ok b) g r f f' h k = by (g b) h where
  by : {o : Outcome A} (t : Bool) → Answers Q o (refusals.◌>>=◌ (refusals.need t r) (λ _. refusals.ok b))
      → Simulates R (leaving.◌>>=◌ (o leaving s) f)
      (refusals.◌>>=◌ {A = Unit {0} × Store} (refusals.◌>>=◌ (refusals.need t r) (λ u. refusals.ok (u, ts))) (λ u. f' b u.1))
  by true (both_ok q) = k _ _ q
  by false (both_refuse e) = refuse e
lifted_tested ts (refusals.refused r') g r f f' (both_refuse e) k = refuse e

module _ (text : List ℕ) (K : Stream Token → Type 0) (n : ℕ) where
  -- An atom that was asked for, by its bounds.
  pub record WordIs (x : ℕ × ℕ × Reader) (y : Name × Items) : Type 0 where
    pub name : part x.0 x.1 text ≡ y.0
    pub some : x.0 < x.1
    pub inside : x.1 ≤ length text
    pub reader : At text (RestComes y.1 K) (n + 2) x.2

  word_is : {x : ℕ × ℕ × Reader} {y : Name × Items} → WordMet text K n x y → WordIs x y
  word_is (word_met e l u a) = record { name = e; some = l; inside = u; reader = a }

  answered : {o : Outcome (ℕ × ℕ × Reader)} {m : Result (Name × Items)} → Answers (WordMet text K n) o m → Answers WordIs o m
  answered (both_refuse e) = both_refuse e
  answered (both_ok m) = both_ok (word_is m)

  -- An atom of a form.
  pub member_law : (is : Items) {r : Reader} → At text (RestComes is K) n r → Answers WordIs (atom_due text in_form r) (definition.ask_word 1 is)
  member_law is a = answered (word_law text K n is in_form 1 refl a)

  -- "Name without `?`, or `?` alone, 11".
  pub def_named_lem : (is : Items) {r : Reader} → At text (RestComes is K) n r
      → Answers WordIs (def_named text r)
      (refusals.◌>>=◌ (definition.ask_word 1 is) (λ y. refusals.◌>>=◌ (refusals.need (questioned y.0 && not (bare y.0)) variable_name)
      (λ _. refusals.ok y)))
  unfolding def_named refusals.◌>>=◌ refusals.need number
  def_named_lem is a = then _ _ (member_law is a) (λ x y m. by x y m) where
    by : (x : ℕ × ℕ × Reader) (y : Name × Items) → WordIs x y
        → Answers WordIs
        (outcomes.◌>>=◌ (outcomes.need (question text x.0) 11) (λ _. outcomes.◌>>=◌ (outcomes.need (not (eqb (x.1 - x.0) 1)) 11) (λ _. outcomes.ok x)))
        (refusals.◌>>=◌ (refusals.need (questioned y.0 && not (bare y.0)) variable_name) (λ _. refusals.ok y))
    by x y m =
        let z : question text x.0 ≡ questioned y.0 = sym (part-question x.0 x.1 text m.some m.inside) ∙ ap questioned m.name in
        case (questioned y.0)
        (λ q.
        let b : bare y.0 ≡ eqb (x.1 - x.0) 1
        = bare_width y.0 (x.1 - x.0) q (ap length (sym m.name) ∙ part-length x.0 x.1 text m.inside) in
        case (eqb (x.1 - x.0) 1)
        (λ e. rw (z, q, b, e) (both_refuse refl))
        (λ e. rw (z, q, b, e) (both_ok m)))
        (λ q. rw (z, q) (both_refuse refl))
