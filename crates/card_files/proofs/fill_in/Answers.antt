-- `fill_in` meets its contract.
use Rattle.std.proofs.Common.{rules}
use Rattle.card_files.proofs.Text.{number_again, number_named}
use Rattle.card_files.proofs.fill_in.Goals as goal

pub returns-clause-named : goal.returns-clause-named
returns-clause-named c = search (rules, number_named)

pub returns-clause-again : goal.returns-clause-again
returns-clause-again c = search (rules, number_again)
