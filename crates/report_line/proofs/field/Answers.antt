-- How many digits a number has, from what `io::decimal` says: the check alone does not find which number they are of.
use Rattle.report_line.proofs.Digits.{at_most_ten}
use Rattle.report_line.proofs.Rows.{field-text, field_long}
use borrow.Author.Rules.{rules}
use Rattle.report_line.proofs.field.Goals as goal

pub overflow_cast-result : goal.overflow_cast-result
overflow_cast-result c = search (rules, at_most_ten _ _ (search rules) c.decimal-k.ensures.len)

pub overflow_add-result : goal.overflow_add-result
overflow_add-result c = search (rules, at_most_ten _ _ (search rules) c.decimal-k.ensures.len)

pub returns : goal.returns
returns c = record { text = field-text _ _ _ _ c.decimal-k.ensures.in_bounds.1 c.decimal-k.ensures.len c.decimal-k.ensures.digits _ _ c.put_bytes.ensures c.put.ensures; long = field_long _ _ _ _ c.decimal-k.ensures.in_bounds.1 c.decimal-k.ensures.len c.decimal-k.ensures.digits; few = search (rules, at_most_ten _ _ (search rules) c.decimal-k.ensures.len) }
