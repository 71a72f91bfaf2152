-- What stands in the place of a rule's name: what each function answers.
use Rattle.std.specs.Prelude.{ℕ, zero, suc, ◌-◌, List, ltb, length}
use Rattle.lex.specs.Answers as lex
use Rattle.lex.specs.Answers.{Answer, taken}
use Rattle.lex.specs.declared.Token.TheVariants as tokens
use Rattle.outcomes.specs.Outcomes.{Outcome, ok, refused, pick, ◌>>=◌}
use Rattle.words.specs.Sums.{sum32}
use Rattle.items.specs.Items.{Met, atom, list, read_on, opened_one, item_due}
use Rattle.items.specs.declared.Walk.{Walk}
use Rattle.rule_names.specs.declared.RuleName.{RuleName}
use Rattle.rule_names.specs.declared.RuleName.TheVariants as rule_names

-- How far a token goes down into lists, and 1: an opening 2, an atom 1, a closing 0.
abbrev pub passed_from : Walk → Answer → Outcome (ℕ × Walk)
passed_from w (lex.token tokens.Opening r) = ok (2, opened_one w r)
passed_from w (lex.token tokens.Closing r) = ok (0, read_on w r)
passed_from w (lex.token (tokens.Atom s t) r) = ok (1, read_on w r)
passed_from w lex.ended = refused 5
passed_from w (lex.refused n) = refused n

unfoldable pub passed : List ℕ → Walk → Outcome (ℕ × Walk)
passed text w = passed_from w (taken text w.reader)

-- Past the closing of so many lists.
unfoldable pub skipped : ℕ → ℕ → List ℕ → Walk → Outcome Walk
skipped zero depth text w = pick (ltb 0 depth) (λ _. refused 4) (λ _. ok w)
skipped (suc fuel) depth text w =
    pick (ltb 0 depth)
    (λ _. passed text w >>= λ (k, q). skipped fuel (sum32 (depth - 1) k) text q)
    (λ _. ok w)

-- A rule's name is judged after its patterns, so it is kept; a list there is skipped.
abbrev pub kept_from : List ℕ → Met → Outcome (RuleName × Walk)
kept_from text (atom s t w) = ok (rule_names.Atom s t, w)
kept_from text (list n w) = skipped (length text) 1 text w >>= λ q. ok (rule_names.List, q)

unfoldable pub name_kept : List ℕ → List ℕ → Walk → Outcome (RuleName × Walk)
name_kept text counts w = item_due text counts w >>= kept_from text
