-- What a function answers and what it leaves in the areas that it was lent, refused or not.
use Rattle.outcomes.specs.Outcomes.{Outcome, ok, refused}

pub data Did (S A : Type 0) : Type 0 where
  ◌leaving◌ : Outcome A → S → Did S A

infix 10 ◌leaving◌
infixl 5 ◌>>=◌
abbrev pub ◌>>=◌ : {S A B : Type 0} → Did S A → (A × S → Did S B) → Did S B
(ok a leaving s) >>= f = f (a, s)
(refused n leaving s) >>= f = refused n leaving s

-- What leaves one area, beside another that it is not lent.
abbrev pub beside : {R S A : Type 0} → R → Did S A → Did (R × S) A
beside r (o leaving s) = o leaving (r, s)
