-- `inside::valid` meets its contract. Assumes nothing.
use Rattle.nibbles.proofs.Words.{validity}
use Rattle.nibbles.proofs.inside.valid.Goals as goal

pub returns-then-width-size_of : goal.returns-then-width-size_of
returns-then-width-size_of c = search validity

pub each_once-requires : goal.each_once-requires
each_once-requires c = search validity

pub returns : goal.returns
returns c = search validity
