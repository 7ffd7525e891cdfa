-- `keys_parts::inside::full_data` meets its contract. Assumes nothing.
use borrow.Author.Rules.{rules}
use Rattle.key_layer.proofs.Fitting.{withins}
use Rattle.key_layer.proofs.Calls.{data-none, data-none-at, data-all, data-all-at}
use Rattle.keys_parts.proofs.inside.full_data.Goals as goal

pub slice_bounds-result-count : goal.slice_bounds-result-count
slice_bounds-result-count c = search (rules, withins)

pub slice_bounds-result-start : goal.slice_bounds-result-start
slice_bounds-result-start c = search (rules, withins)

pub returns-then-is_fit : goal.returns-then-is_fit
returns-then-is_fit c = (search data-all, (search rules, search data-all-at))

pub returns : goal.returns
returns c = (search data-none, (search rules, search data-none-at))
