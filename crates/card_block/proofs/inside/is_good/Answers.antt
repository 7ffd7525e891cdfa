-- `is_good` meets its contract. Assumes nothing.
use Rattle.card_block.proofs.Checks.{good-first, good-not}
use Rattle.card_block.proofs.inside.is_good.Goals as goal

pub returns-then-word-s : goal.returns-then-word-s
returns-then-word-s c = search good-first

pub returns-else-word-s : goal.returns-else-word-s
returns-else-word-s c = search good-not
