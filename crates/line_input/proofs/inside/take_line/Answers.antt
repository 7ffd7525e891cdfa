-- `inside::take_line` meets its contract. Assumes nothing.
use borrow.Author.Rules.{rules}
use Rattle.line_input.proofs.Parts.{line_kept, line-ended, line-open}
use Rattle.line_input.proofs.inside.take_line.Goals as goal

pub returns-then-end-part-clause-value : goal.returns-then-end-part-clause-value
returns-then-end-part-clause-value c = (search line-ended, search line_kept)

pub returns-then-end-part-clause-used_in_bounds : goal.returns-then-end-part-clause-used_in_bounds
returns-then-end-part-clause-used_in_bounds c = (search rules, search rules, search rules)

pub returns-clause-value : goal.returns-clause-value
returns-clause-value c = (search line-open, search line_kept)

pub returns-clause-used_in_bounds : goal.returns-clause-used_in_bounds
returns-clause-used_in_bounds c = (search rules, search rules, search rules)
