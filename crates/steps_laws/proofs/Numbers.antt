-- What a step asks of a reader beside atoms and lists: numbers, and members of a list by the look ahead. Assumes nothing.
use Prim.Native.Nat.{ℕ, ◌+◌}
use mathlib.Core.Path.{◌≡◌, refl}
use mathlib.Core.List.{List}
use mathlib.Core.Option.{Option, none, some}
use Rattle.matching_laws.specs.Below.horn.specs.Refusals as refusals
use Rattle.matching_laws.specs.Below.horn.specs.Refusals.{Result, number, not_number, text_ends}
use Rattle.matching_laws.specs.Below.horn.specs.Tokens.{Stream, Token}
use Rattle.matching_laws.specs.Below.horn.specs.NestedLists.{Item, Items, ended, ◌then◌, absent}
use Rattle.matching_laws.specs.Below.horn.specs.Checker as definition
use Rattle.matching_laws.specs.Below.horn.specs.Checker.{numeral}
use Rattle.matching_laws.specs.Below.words.specs.Parts.{part}
use Rattle.steps.specs.Below.lex.specs.declared.Reader.{Reader}
use Rattle.steps.specs.Below.outcomes.specs.Outcomes as outcomes
use Rattle.steps.specs.Below.outcomes.specs.Outcomes.{Outcome}
use Rattle.steps.specs.Below.outcomes.specs.Simulation.{Answers, both_refuse, both_ok}
use Rattle.matching_laws.specs.Below.asking.specs.Asking as asked
use Rattle.matching_laws.specs.Below.asking.specs.Asking.{in_form, in_list, Met, atom_due, list_due}
use Rattle.terms_laws.specs.Below.asking_laws.proofs.Places.{RestComes, At}
use Rattle.terms_laws.specs.Below.asking_laws.proofs.Asking.{ItemMet, atom_met, list_met, item_law, GroupMet, group_met, group_law}
use Rattle.terms_laws.proofs.Reading.{asked_yes}
use Rattle.steps.specs.Below.references.specs.References as walk

module _ (text : List ℕ) (K : Stream Token → Type 0) (n : ℕ) where
  -- A number that was asked for.
  pub record NumberMet (x : ℕ × Reader) (y : ℕ × Items) : Type 0 where
    pub same : y.0 ≡ x.0
    pub reader : At text (RestComes y.1 K) (n + 2) x.1

  -- "I as a number, 18".
  pub number_law : (is : Items) (left depth : ℕ) {r : Reader} → depth + left ≡ 257 → At text (RestComes is K) n r
      → Answers NumberMet (walk.number_due text left r) (definition.ask_number depth is)
  unfolding walk.number_due atom_due definition.ask_number definition.number_due definition.word_due refusals.◌>>=◌ refusals.found number
  number_law is left depth e a = by (item_law text K n is left depth e a) where
    numbered : {r : Reader} (rest : Items) (o : Option ℕ) → At text (RestComes rest K) (n + 2) r
        → Answers NumberMet (outcomes.◌>>=◌ (outcomes.or_else o 18) (λ i. outcomes.ok (i, r)))
        (refusals.◌>>=◌ (refusals.found o not_number) (λ i. refusals.ok (i, rest)))
    numbered rest none there = both_refuse refl
    numbered rest (some i) there = both_ok record { same = refl; reader = there }

    by : {o : Outcome Met} {m : Result (Item × Items)} → Answers (ItemMet text K n) o m
        → Answers NumberMet
        (outcomes.◌>>=◌ (outcomes.◌>>=◌ o asked.atom_only) (λ p. outcomes.◌>>=◌ (outcomes.or_else (numeral (part p.0 p.1 text)) 18)
        (λ i. outcomes.ok (i, p.2))))
        (refusals.◌>>=◌ m (λ p. refusals.◌>>=◌ (definition.number_due p.0) (λ i. refusals.ok (i, p.1))))
    by (both_refuse f) = both_refuse f
    by (both_ok (list_met there bare)) = both_refuse refl
    by (both_ok (atom_met {name} {rest} p l u there)) = rw p (numbered rest (numeral name) there)

  -- At the end of the text the look ahead meets a member too.
  pub number_ended : {r : Reader} → At text (RestComes ended K) n r → Answers NumberMet (walk.number_due text in_list r) (refusals.refused text_ends)
  unfolding definition.ask_number definition.ask absent refusals.◌>>=◌
  number_ended a = rw (asked_yes 254 2 refl) at (number_law ended in_list 2 refl a)

  pub list_ended : {r : Reader} → At text (RestComes ended K) n r → Answers (GroupMet text K n) (list_due text in_form r) (refusals.refused text_ends)
  unfolding definition.ask_group definition.ask absent refusals.◌>>=◌
  list_ended a = rw (asked_yes 255 1 refl) at (group_law text K n ended in_form 1 refl a)

  -- A member that is a number, or a list, where the look ahead met one.
  module _ (item : Item) (rest : Items) {r : Reader} (a : At text (RestComes (item then rest) K) n r) where
    pub number_member : Answers (λ x i. (i ≡ x.0) × At text (RestComes rest K) (n + 2) x.1) (walk.number_due text in_list r) (definition.number_due item)
    unfolding definition.ask_number definition.ask refusals.◌>>=◌
    number_member = by (definition.number_due item) (rw (asked_yes 254 2 refl) at (number_law (item then rest) in_list 2 refl a)) where
      by : {o : Outcome (ℕ × Reader)} (m : Result ℕ) → Answers NumberMet o (refusals.◌>>=◌ m (λ i. refusals.ok (i, rest)))
          → Answers (λ x i. (i ≡ x.0) × At text (RestComes rest K) (n + 2) x.1) o m
      by (refusals.ok i) (both_ok k) = both_ok (k.same, k.reader)
      by (refusals.refused x) (both_refuse f) = both_refuse f

    pub list_member : Answers (λ q inner. At text (RestComes inner (RestComes rest K)) n q) (list_due text in_form r) (definition.group_due item)
    unfolding definition.ask_group definition.ask refusals.◌>>=◌
    list_member = by (definition.group_due item) (rw (asked_yes 255 1 refl) at (group_law text K n (item then rest) in_form 1 refl a)) where
      by : {o : Outcome Reader} (m : Result Items) → Answers (GroupMet text K n) o (refusals.◌>>=◌ m (λ inner. refusals.ok (inner, rest)))
          → Answers (λ q inner. At text (RestComes inner (RestComes rest K)) n q) o m
      by (refusals.ok inner) (both_ok (group_met there bare)) = both_ok there
      by (refusals.refused x) (both_refuse f) = both_refuse f
