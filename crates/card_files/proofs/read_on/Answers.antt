-- A read goes on where the last one ended.
use Rattle.std.proofs.Common.{rules}
use Rattle.card_files.proofs.Readings.{read_more}
use Rattle.card_files.proofs.read_on.Goals as goal

pub loop-done-preserved : goal.loop-done-preserved
loop-done-preserved g c = (search rules, search rules, search (rules, read_more))
