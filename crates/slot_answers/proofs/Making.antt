-- The laws of making, with what they ask of a word's width: whether it is 1 to 15. Assumes nothing.
use Rattle.bank.proofs.Making.{makings}
use Rattle.nibbles.proofs.Words.{wrong_width, wide_enough}

pub ruleset made = (makings, wrong_width, wide_enough)
