-- `keys_parts::inside::suffix` meets its contract. Assumes nothing.
use borrow.Author.Rules.{rules}
use Rattle.key_layer.proofs.Fitting.{withins}
use Rattle.key_layer.proofs.Calls.{suffix-none, suffix-none-at, suffix-some, suffix-some-at}
use Rattle.keys_parts.proofs.inside.suffix.Goals as goal

pub slice_bounds-result-count : goal.slice_bounds-result-count
slice_bounds-result-count c = search withins

pub slice_bounds-result-start : goal.slice_bounds-result-start
slice_bounds-result-start c = search withins

pub returns-then-is_fit : goal.returns-then-is_fit
returns-then-is_fit c = (search suffix-some, (search rules, search suffix-some-at))

pub returns : goal.returns
returns c = (search suffix-none, (search rules, search suffix-none-at))
