-- Every theory that a rulebook gives is well-formed.
use Prim.Native.Nat.{ℕ}
use mathlib.Core.Path.{◌≡◌, sym, subst}
use mathlib.Core.List.Memᴰ
use mathlib.Core.List.{List, [], Memᴰ}
use Rattle.horn.specs.Refusals.{ok}
use Rattle.horn.specs.Names.{Name}
use Rattle.horn.specs.NestedLists.{Sexp, Sexps}
use Rattle.horn.specs.Rulebook.{Symbol, Variable, Pattern, Rule, rule, variables_of, premises_of, conclusion_of, Theory, empty_theory, theory}
use Rattle.horn.specs.Arising.{Declares, declares_none, declares_next}
use Rattle.horn.proofs.Equality.{in_or_last}
use Rattle.horn.proofs.Inversion.{afterᵣ}
use Rattle.horn.proofs.Declaring.{Declared, sort_declared, symbol_declared, rule_declared, declaration_by, declares_last}
use Rattle.horn.proofs.SoundnessWords.{judgment_in_more, no_names, RuleFormed, WellFormed}
use Rattle.horn.proofs.SoundnessPatterns.{JudgmentReadAs, JudgmentsReadAs, read_judgment_pattern}
use Rattle.horn.proofs.SoundnessPatterns.{read_judgment_patterns}

-- Rules stay well-formed where symbols are added.
formed_in_more : {symbols more : List Symbol} {r : Rule} → ((c : Symbol) → Memᴰ c symbols → Memᴰ c more)
    → RuleFormed symbols r
    → RuleFormed more r
formed_in_more f w =
    record {
      sorted_premises = λ p m. judgment_in_more f (λ v n. n) (w.sorted_premises p m);
      sorted_conclusion = judgment_in_more f (λ v n. n) w.sorted_conclusion;
      one_sort = w.one_sort;
      apart = w.apart;
      occur = w.occur;
    }

-- Premises and then a conclusion, read with no variable known before them, make a well-formed rule.
rule_formed : {symbols : List Symbol} (name : Name) {q : List Pattern × List Variable} {r : Pattern × List Variable}
    → JudgmentsReadAs symbols [] q
    → JudgmentReadAs symbols q.1 r
    → RuleFormed symbols (rule name r.1 q.0 r.0)
unfolding premises_of conclusion_of variables_of
rule_formed name x y =
    record {
      sorted_premises = λ p m. judgment_in_more (λ c n. n) y.extends.grow (x.sorted p m);
      sorted_conclusion = y.sorted;
      one_sort = y.extends.keep (x.extends.keep (λ n s t m. elim m [ ]));
      apart = y.extends.apart (x.extends.apart no_names);
      occur = λ P us u. y.extends.occur P u (x.extends.occur P us (λ n s m. elim m [ ]));
    }

-- A declaration keeps a theory well-formed.
declared_formed : {th next : Theory} {n : Sexp} → WellFormed th → Declared th n next → WellFormed next
declared_formed w (sort_declared e) = record { formed = w.formed }
declared_formed w (symbol_declared ins out e f g) = record { formed = λ r m. formed_in_more (λ d k. Memᴰ.append_left _ k) (w.formed r m) }
declared_formed {th} w (rule_declared {name = name} xs j {q = q} e₁ e₂ e f) =
    record {
      formed = λ x m.
          in_or_last th.rules m (w.formed x)
          (λ same. subst (RuleFormed th.symbols) (sym same)
          (rule_formed name (read_judgment_patterns th xs [] e₁) (read_judgment_pattern th j q.1 e₂)));
    }

declares_formed : {th later : Theory} {xs : Sexps} → WellFormed th → Declares th xs later → WellFormed later
declares_formed w declares_none = w
declares_formed w (declares_next {th} {x = x} e d) = declares_formed (declared_formed w (declaration_by th x e).has_declared) d

pub theory_formed : (text : List ℕ) {th : Theory} → theory text ≡ ok th → WellFormed th
unfolding theory empty_theory
theory_formed text e = afterᵣ _ e λ xs e₁ e₂. declares_formed record { formed = λ r m. elim m [ ] } (declares_last xs _ e₂)
