-- `store::inside::put_new` meets its contract. Assumes nothing.
use Rattle.store.proofs.Writing.{put_all, rests-passed}
use Rattle.store.proofs.inside.put_new.Goals as goal

pub returns : goal.returns
returns c = (search put_all, search rests-passed)
