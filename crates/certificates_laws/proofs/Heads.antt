-- The head of a form: the walk's keyword is the definition's. Assumes nothing.
use mathlib.Core.Bool.{Bool, true, false}
use Rattle.certificates.specs.Below.horn.specs.Names.{Name, named, codes}
use Rattle.certificates.specs.Below.horn.specs.Certificate as definition
use Rattle.certificates.specs.Below.horn.specs.Certificate.{form_word, step_word, result_word, def_word, other_form}
use Rattle.certificates.specs.Below.outcomes.specs.Outcomes.{pick}
use Rattle.certificates.specs.Below.facts.proofs.Comparing.{same_named}
use Rattle.certificates.specs.Below.forms.specs.Forms.{step_name, result_name, def_name, keyword_of}
use Rattle.certificates.specs.Below.forms.specs.declared.Keyword.{Keyword}
use Rattle.certificates.specs.Below.forms.specs.declared.Keyword.TheVariants.{Step, Result, Def, Other}

pub data Headed : Keyword → definition.FormWord → Type 0 where
  is_step_lem : Headed Step step_word
  is_result : Headed Result result_word
  is_def_lem : Headed Def def_word
  is_other : Headed Other other_form

by_tests : (a b c : Bool)
    → Headed (pick a (λ _. Step) (λ _. pick b (λ _. Result) (λ _. pick c (λ _. Def) (λ _. Other))))
    (elim a [ true ↦ step_word | false ↦ elim b [ true ↦ result_word | false ↦ elim c [ true ↦ def_word | false ↦ other_form ] ] ])
by_tests true b c = is_step_lem
by_tests false true c = is_result
by_tests false false true = is_def_lem
by_tests false false false = is_other

pub headed : (name : Name) → Headed (keyword_of name) (form_word name)
unfolding keyword_of form_word codes
headed name =
    rw (same_named name step_name, same_named name result_name, same_named name def_name)
    (by_tests (named name (codes "step")) (named name (codes "result")) (named name (codes "def")))
