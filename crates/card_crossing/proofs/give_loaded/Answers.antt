-- `card_crossing::give_loaded` meets its contract: a law for each case of the answer. Assumes nothing.
use Rattle.card_crossing.proofs.Crosses.{loaded-entries, loaded-few, loaded-length, loaded-check, loaded-stream, loaded-refused}
use Rattle.card_crossing.proofs.give_loaded.Goals as goal

pub returns-in-Entries : goal.returns-in-Entries
returns-in-Entries c = search loaded-entries

pub returns-in-TooFewNodes : goal.returns-in-TooFewNodes
returns-in-TooFewNodes c = search loaded-few

pub returns-in-Length : goal.returns-in-Length
returns-in-Length c = search loaded-length

pub returns-in-Check : goal.returns-in-Check
returns-in-Check c = search loaded-check

pub returns-in-Stream : goal.returns-in-Stream
returns-in-Stream c = search loaded-stream

pub returns-in-Refused : goal.returns-in-Refused
returns-in-Refused c = search loaded-refused
