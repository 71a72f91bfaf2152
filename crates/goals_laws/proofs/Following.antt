-- What follows something that is asked for, where the definition has its store at hand. Assumes nothing.
use Prim.Native.Nat.{ℕ, ◌+◌, ◌≤◌, ◌<◌}
use mathlib.Core.Path.{◌≡◌}
use mathlib.Core.List.{List}
use lib.ListN.{length}
use Rattle.goals.specs.Below.horn.specs.Refusals as refusals
use Rattle.goals.specs.Below.horn.specs.Refusals.{Result}
use Rattle.goals.specs.Below.horn.specs.Names.{Name}
use Rattle.goals.specs.Below.horn.specs.Tokens.{Stream, Token}
use Rattle.goals.specs.Below.horn.specs.NestedLists.{Items}
use Rattle.goals.specs.Below.horn.specs.StoredTerms.{Store}
use Rattle.goals.specs.Below.horn.specs.Checker as definition
use Rattle.goals.specs.Below.words.specs.Parts.{part}
use Rattle.goals.specs.Below.lex.specs.declared.Reader.{Reader}
use Rattle.goals.specs.Below.outcomes.specs.Outcomes as outcomes
use Rattle.goals.specs.Below.outcomes.specs.Outcomes.{Outcome}
use Rattle.goals.specs.Below.outcomes.specs.Leaving as leaving
use Rattle.goals.specs.Below.outcomes.specs.Leaving.{Did, ◌leaving◌}
use Rattle.goals.specs.Below.outcomes.specs.Simulation.{Simulates}
use Rattle.goals.specs.Below.asking.specs.Asking.{atom_due}
use Rattle.terms_laws.specs.Below.asking_laws.proofs.Places.{RestComes, At}
use Rattle.terms_laws.proofs.Following.{first_of_lem}
use Rattle.terms_laws.specs.Below.asking_laws.proofs.Asking.{WordMet, word_met, word_law}

module _ {S C D E : Type 0} {R : E → S → D → Type 0} (s : S) (ts : Store) (f : C × S → Did S E) where
  -- What comes first of something that leaves the areas as they are, where that is an atom, by its bounds.
  pub word_first_lem : (text : List ℕ) (K : Stream Token → Type 0) (n : ℕ) (is : Items) (left depth : ℕ) {r : Reader} (k : ℕ × ℕ × Reader → Outcome C)
      (g : (Name × Items) × Store → Result D)
      → depth + left ≡ 257 → At text (RestComes is K) n r
      → ((a b : ℕ) (q : Reader) (rest : Items) → a < b → b ≤ length text → At text (RestComes rest K) (n + 2) q
      → Simulates R (leaving.◌>>=◌ (k (a, b, q) leaving s) f) (g ((part a b text, rest), ts)))
      → Simulates R (leaving.◌>>=◌ (outcomes.◌>>=◌ (atom_due text left r) k leaving s) f)
      (refusals.◌>>=◌ {A = (Name × Items) × Store} (refusals.◌>>=◌ (definition.ask_word depth is) (λ b. refusals.ok (b, ts))) g)
  word_first_lem text K n is left depth k g e there j = first_of_lem s ts f k g (word_law text K n is left depth e there) (λ x y m. by m) where
    by : {x : ℕ × ℕ × Reader} {y : Name × Items} → WordMet text K n x y → Simulates R (leaving.◌>>=◌ (k x leaving s) f) (g (y, ts))
    by (word_met {s = a} {t = b} {r = q} {rest} z l u m) = rw (← z) (j a b q rest l u m)
