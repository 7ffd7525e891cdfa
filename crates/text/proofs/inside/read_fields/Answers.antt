-- `inside::read_fields` meets its contract. Assumes nothing.
use borrow.Author.Rules.{rules}
use Rattle.text.proofs.Lines.{take_count, prefix-short, one_field, two_fields, three-fields, more-fields}
use Rattle.text.proofs.inside.read_fields.Goals as goal

pub returns-then-a-line : goal.returns-then-a-line
returns-then-a-line c = search one_field

pub slice_bounds-word-end : goal.slice_bounds-word-end
slice_bounds-word-end c = search take_count

pub returns-then-b-rest : goal.returns-then-b-rest
returns-then-b-rest c = search two_fields

pub returns-then-first-last : goal.returns-then-first-last
returns-then-first-last c = search more-fields

pub slice_bounds-read_three-end : goal.slice_bounds-read_three-end
slice_bounds-read_three-end c = search take_count

pub read_three-requires : goal.read_three-requires
read_three-requires c = (search prefix-short, search rules)

pub returns : goal.returns
returns c = search three-fields
