-- `new_name` meets its contract.
use Rattle.card_files.proofs.Names.{name_typed}
use Rattle.card_files.proofs.new_name.Goals as goal

pub returns-clause-typed : goal.returns-clause-typed
returns-clause-typed c = search name_typed
