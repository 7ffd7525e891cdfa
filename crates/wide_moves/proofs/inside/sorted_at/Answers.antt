-- `inside::sorted_at` meets its contract. Assumes nothing.
use native.Mathlib.Omega.{arith}
use borrow.Author.Tests.{lt-ltb, le-ltb}
use Rattle.wide_moves.proofs.inside.sorted_at.Goals as goal

pub returns-then-i-n : goal.returns-then-i-n
returns-then-i-n c = (rw (lt-ltb c.args.i c.args.n (omega arith)), omega arith)

pub returns : goal.returns
returns c = (rw (le-ltb c.args.i c.args.n (omega arith)), omega arith)
