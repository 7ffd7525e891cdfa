-- `inside::whole` meets its contract. Assumes nothing.
use Rattle.card_fields.proofs.Ways.{wholes}
use Rattle.card_fields.proofs.inside.whole.Goals as goal

pub returns-in-Counting : goal.returns-in-Counting
returns-in-Counting c = search wholes

pub returns-in-Measuring : goal.returns-in-Measuring
returns-in-Measuring c = search wholes

pub returns-in-Naming : goal.returns-in-Naming
returns-in-Naming c = search wholes

pub returns-in-Framing : goal.returns-in-Framing
returns-in-Framing c = search wholes

pub returns-in-Filling : goal.returns-in-Filling
returns-in-Filling c = search wholes

pub returns-in-Stopped : goal.returns-in-Stopped
returns-in-Stopped c = search wholes
