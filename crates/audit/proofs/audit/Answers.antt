-- `audit::audit` meets its contract. Assumes nothing.
use Rattle.audit.proofs.Judging.{says}
use Rattle.audit.proofs.audit.Goals as goal

pub returns-then-not-is_tree : goal.returns-then-not-is_tree
returns-then-not-is_tree c = search says

pub returns : goal.returns
returns c = search says
