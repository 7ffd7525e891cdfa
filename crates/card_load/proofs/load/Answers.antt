-- `load` meets its contract. Assumes nothing.
use Rattle.card_load.proofs.Exams.{load-bad, pass-lent, pass_all, pass-some}
use Rattle.card_load.proofs.Fills.{load-good}
use Rattle.card_load.proofs.load.Goals as goal

pub refill-requires : goal.refill-requires
refill-requires c = (search pass-lent, search pass_all, search pass-some)

pub returns-in-Bad : goal.returns-in-Bad
returns-in-Bad c = search load-bad

pub returns-in-Good : goal.returns-in-Good
returns-in-Good c =
    search (load-good, c.shared_slice_known-1.given)
