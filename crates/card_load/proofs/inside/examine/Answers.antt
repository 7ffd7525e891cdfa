-- `inside::examine` meets its contract. Assumes nothing.
use Rattle.card_load.proofs.Exams.{exam-lent, exam-none, exam-odd, exam-check, exam-stream, exam-good}
use Rattle.card_load.proofs.inside.examine.Goals as goal

pub returns-in_default : goal.returns-in_default
returns-in_default c = search exam-lent

pub returns-then-image-eq0 : goal.returns-then-image-eq0
returns-then-image-eq0 c = search exam-none

pub returns-then-image-ne0 : goal.returns-then-image-ne0
returns-then-image-ne0 c = search exam-odd

pub returns-then-bad-n : goal.returns-then-bad-n
returns-then-bad-n c = search exam-check

pub returns-in-Wrong : goal.returns-in-Wrong
returns-in-Wrong c = search exam-stream

pub returns : goal.returns
returns c = search exam-good
