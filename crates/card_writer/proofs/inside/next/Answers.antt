-- `inside::next` meets its contract. Assumes nothing.
use Rattle.card_writer.proofs.Cursors.{next-stays, next-in, next-over}
use Rattle.card_writer.proofs.inside.next.Goals as goal

pub returns-then-n-p : goal.returns-then-n-p
returns-then-n-p c = search (next-stays, next-in, next-over)

pub returns-then-at-size_of : goal.returns-then-at-size_of
returns-then-at-size_of c = search (next-stays, next-in, next-over)

pub returns : goal.returns
returns c = search (next-stays, next-in, next-over)
