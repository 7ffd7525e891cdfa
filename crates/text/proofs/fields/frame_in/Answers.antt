-- `fields::frame_in` meets its contract. Assumes nothing.
use Rattle.text.proofs.Frames.{frame-empty, frame-zero, frame-single, frame-several}
use Rattle.text.proofs.fields.frame_in.Goals as goal

pub returns-then-field-eq0 : goal.returns-then-field-eq0
returns-then-field-eq0 c = search frame-empty

pub returns-then-field-eq1 : goal.returns-then-field-eq1
returns-then-field-eq1 c = search frame-single

pub returns-then-field-eq48 : goal.returns-then-field-eq48
returns-then-field-eq48 c = search frame-zero

pub returns : goal.returns
returns c = search frame-several
