-- The number rises, and the name has it filled in.
use Rattle.std.proofs.Common.{◌≡◌, ◌-◌, ◌≤◌, ◌++◌}
use Rattle.card_files.specs.Names.{filled_in, IsNewName}
use Rattle.card_files.proofs.make.Given as goal

abbrev pub invariant-loop-n : goal.invariant-loop-n
invariant-loop-n g l = (l.n ≤ 999999) × (l.name ≡ l.path ++ filled_in l.n) × IsNewName l.path l.name

abbrev pub decreases-loop-n : goal.decreases-loop-n
decreases-loop-n g l = 999999 - l.n
