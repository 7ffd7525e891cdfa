-- `seek::inside::children_of` meets its contract. Assumes nothing.
use Rattle.seek.proofs.Reaches.{reaches}
use Rattle.seek.proofs.inside.children_of.Goals as goal

pub returns-then-n-ge255 : goal.returns-then-n-ge255
returns-then-n-ge255 c = search reaches

pub returns-then-nodes-start : goal.returns-then-nodes-start
returns-then-nodes-start c = search reaches

pub returns-then-count-room : goal.returns-then-count-room
returns-then-count-room c = search reaches

pub returns : goal.returns
returns c = search reaches
