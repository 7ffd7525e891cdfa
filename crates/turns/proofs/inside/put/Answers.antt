-- `inside::put` meets its contract. Assumes nothing.
use Prim.Native.Nat.{◌-◌}
use native.Mathlib.Omega.{arith}
use Rattle.nibbles.proofs.Nibbles.{low-lt, high_lt, join-lt}
use Rattle.turns.proofs.Moves.{pack-set}
use Rattle.turns.proofs.inside.put.Goals as goal

pub join-requires : goal.join-requires
join-requires c =
    (omega arith, omega arith, high_lt _ _ c.args.width 15 c.high.ensures c.requires.3 (omega arith))

pub join-requires-2 : goal.join-requires-2
join-requires-2 c = (
  omega arith,
  low-lt _ _ c.low.ensures,
  join-lt (15 - c.args.k - 1) 1 _ c.join.ensures (high_lt _ _ c.args.width _ c.high.ensures c.requires.3
      (omega arith)) (omega arith) (omega arith),
)

pub returns : goal.returns
returns c =
    cc (pack-set c.args.width c.args.x c.args.k c.args.d c.requires.0 c.requires.3)
