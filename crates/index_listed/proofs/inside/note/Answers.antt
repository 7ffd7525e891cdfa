-- `inside::note` meets its contract. Assumes nothing.
use Rattle.index_listed.proofs.Notes.{note-one, note-none}
use Rattle.index_listed.proofs.inside.note.Goals as goal

pub returns-then-at-order : goal.returns-then-at-order
returns-then-at-order c = search note-one

pub returns : goal.returns
returns c = search note-none
