-- `index_empty_layers::inside::give_back` meets its contract. Assumes nothing.
use Rattle.index_empty_layers.proofs.inside.+give_back.Given as goal

-- the steps that are left
abbrev pub decreases-give_back : goal.decreases-give_back
decreases-give_back l = l.steps
