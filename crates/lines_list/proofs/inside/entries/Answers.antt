-- `inside::entries` meets its contract: after k turns, k entries are printed. Assumes nothing.
use borrow.Author.Rules.{rules}
use mathlib.Core.Path.{refl}
use Rattle.lines_list.proofs.Listings.{entries_none, entry-room, entry-again, entries-cut, entries-done}
use Rattle.lines_list.proofs.inside.entries.Goals as goal

pub loop-k-init : goal.loop-k-init
loop-k-init c = (refl, entries_none _)

pub entry-next-requires : goal.entry-next-requires
entry-next-requires c = search entry-room

pub loop-k-preserved : goal.loop-k-preserved
loop-k-preserved c = (search rules, search entry-again)

pub returns-in_default : goal.returns-in_default
returns-in_default c = search entries-cut

pub returns : goal.returns
returns c = search entries-done
