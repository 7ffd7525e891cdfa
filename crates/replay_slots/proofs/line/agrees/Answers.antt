-- `replay_slots::line::agrees` meets its contract: a law for each return.
use Rattle.replay_slots.proofs.Agreement.{first-differs, number-differs, second-differs, third-decides}
use Rattle.replay_slots.proofs.line.agrees.Goals as goal

pub returns-then-said-one : goal.returns-then-said-one
returns-then-said-one c = search number-differs

pub returns-then-said-sixteen : goal.returns-then-said-sixteen
returns-then-said-sixteen c = search first-differs

pub returns-then-said-four : goal.returns-then-said-four
returns-then-said-four c = search second-differs

pub returns : goal.returns
returns c = search third-decides
