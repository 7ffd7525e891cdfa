-- `shape::inside::internode_right` meets its contract. Assumes nothing.
use Rattle.shape.proofs.Internodes.{internodes}
use Rattle.shape.proofs.inside.internode_right.Goals as goal

pub returns-then-nodes-at-ne-INTERNODE : goal.returns-then-nodes-at-ne-INTERNODE
returns-then-nodes-at-ne-INTERNODE c = search internodes

pub returns-then-count-gt15 : goal.returns-then-count-gt15
returns-then-count-gt15 c = search internodes

pub returns-then-not-ikeys_rising : goal.returns-then-not-ikeys_rising
returns-then-not-ikeys_rising c = search internodes

pub returns-then-not-words_zero : goal.returns-then-not-words_zero
returns-then-not-words_zero c = search internodes

pub returns : goal.returns
returns c = search internodes
