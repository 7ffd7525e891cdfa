-- `inside::turn` meets its contract. Assumes nothing.
use Prim.Native.Nat.{◌-◌, ◌+◌}
use native.Mathlib.Omega.{arith}
use Rattle.nibbles.proofs.Nibbles.{low-lt, high_lt, join-lt}
use Rattle.turns.proofs.Moves.{pack-turned}
use Rattle.turns.proofs.inside.turn.Goals as goal

pub join-above-requires : goal.join-above-requires
join-above-requires c = (
  omega arith,
  low-lt _ _ c.low-first.ensures,
  high_lt _ _ c.args.width _ c.high-3.ensures
      c.requires.4 (omega arith),
)

pub join-requires : goal.join-requires
join-requires c = (
  omega arith,
  low-lt _ _ c.low-second.ensures,
  join-lt (15 - c.args.c) (c.args.b - c.args.a) _ c.join-above.ensures
      (high_lt _ _ c.args.width _ c.high-3.ensures c.requires.4 (omega arith))
      (low-lt _ _ c.low-first.ensures) (omega arith),
)

pub join-requires-2 : goal.join-requires-2
join-requires-2 c = (
  omega arith,
  low-lt _ _ c.low.ensures,
  join-lt (15 - c.args.c + (c.args.b - c.args.a)) (c.args.c - c.args.b) _ c.join.ensures
      (join-lt (15 - c.args.c) (c.args.b - c.args.a) _ c.join-above.ensures
      (high_lt _ _ c.args.width _ c.high-3.ensures c.requires.4 (omega arith))
      (low-lt _ _ c.low-first.ensures) (omega arith))
      (low-lt _ _ c.low-second.ensures) (omega arith),
)

pub returns : goal.returns
returns c =
    cc (pack-turned c.args.width c.args.x c.args.a c.args.b c.args.c c.requires.0 c.requires.1 c.requires.2 c.requires.4)
