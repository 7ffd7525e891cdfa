-- `slots_sorted::inside::word_at` meets its contract: each arm by computation, the rest past the end. Assumes nothing.
use Rattle.slots_sorted.proofs.Table.{entry-none}
use Rattle.slots_sorted.proofs.inside.word_at.Goals as goal

pub returns-in_default : goal.returns-in_default
returns-in_default c = entry-none _ c.in_default.in_default-own.rest
