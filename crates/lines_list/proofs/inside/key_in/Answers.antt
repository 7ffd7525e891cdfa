-- `inside::key_in` meets its contract. Assumes nothing.
use borrow.Author.Rules.{rules}
use Rattle.lines_list.proofs.Parts.{part-beyond, part_cut}
use Rattle.arena.proofs.Words.{between}
use Rattle.lines_list.proofs.inside.key_in.Goals as goal

pub returns-then-all-cell : goal.returns-then-all-cell
returns-then-all-cell c = part-beyond _ _ _ (search rules)

pub returns-then-all-from : goal.returns-then-all-from
returns-then-all-from c = part_cut _ _ _ (search rules)

pub returns : goal.returns
returns c = between _ _ _
