-- `inside::low` meets its contract. Assumes nothing.
use native.Mathlib.Omega.{arith}
use lib.Pow.{pow_pos}
use Rattle.nibbles.proofs.Nibbles.{one_shl, mask_low}
use Rattle.nibbles.proofs.inside.low.Goals as goal

pub overflow_sub-result : goal.overflow_sub-result
overflow_sub-result c = rw (one_shl c.args.k (omega arith)) (pow_pos _)

pub returns : goal.returns
returns c = mask_low _ _ (omega arith)
