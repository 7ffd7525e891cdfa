-- `words` meets its contract: the fold over the members is the sum.
use Rattle.std.proofs.Common.{rules}
use Rattle.replay_sum.specs.Sums.{summed}
use Rattle.replay_sum.proofs.words.Goals as goal

pub returns : goal.returns
unfolding summed
returns c = search rules
