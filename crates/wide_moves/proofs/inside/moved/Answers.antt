-- `inside::moved` meets its contract. Assumes nothing.
use native.Mathlib.Omega.{arith}
use borrow.Author.Rules.{rules}
use Rattle.wide_moves.proofs.Moves.{moved_here}
use Rattle.wide_moves.proofs.inside.moved.Goals as goal

pub returns : goal.returns
returns c =
    moved_here c.args.a c.args.b c.args.c c.args.size (omega arith) (omega arith) (omega arith) c.args.bank
    (search rules) c.copy-one.ensures c.copy-both.ensures
