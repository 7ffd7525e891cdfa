-- `index_count::count` meets its contract. Assumes nothing.
use mathlib.Core.Path.{◌≡◌}
use Rattle.std.specs.Prelude.{Ok}
use Rattle.index_count.proofs.Counting.{counting}
use Rattle.index_count.proofs.count.Goals as goal

pub bounds-nodes-1 : goal.bounds-nodes-1
bounds-nodes-1 c = let w : c.lengths.result ≡ Ok c.in_ok-lengths.field-0 = c.in_ok-lengths.was in search counting

pub returns : goal.returns
returns c = let w : c.lengths.result ≡ Ok c.in_ok-lengths.field-0 = c.in_ok-lengths.was in search counting
