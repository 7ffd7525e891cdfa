-- `replay_slots::line::replayed` meets its contract: each field is what `hex_digits` reads, and `ask` says the rest.
use Rattle.replay_slots.specs.Lines.{replayed_of}
use Rattle.replay_slots.proofs.line.replayed.Goals as goal

pub returns : goal.returns
unfolding replayed_of
returns c = cc
