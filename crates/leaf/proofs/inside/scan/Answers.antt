-- `leaf::inside::scan` meets its contract. Assumes nothing.
use borrow.Author.Count.{below_none}
use borrow.Author.Rules.{rules}
use Rattle.leaf.proofs.Searches.{start-within, scan-end, scan-on, scan-met, scan-less, scan-kind}
use Rattle.leaf.proofs.inside.scan.Goals as goal

pub loop-i-init : goal.loop-i-init
loop-i-init c = below_none _

pub loop-i-preserved : goal.loop-i-preserved
loop-i-preserved c = search scan-on

pub met-requires : goal.met-requires
met-requires c = search (rules, scan-kind, start-within)

pub returns-in-Equal : goal.returns-in-Equal
returns-in-Equal c = search scan-met

pub returns-in-Less : goal.returns-in-Less
returns-in-Less c = search scan-less

pub returns : goal.returns
returns c = search scan-end
