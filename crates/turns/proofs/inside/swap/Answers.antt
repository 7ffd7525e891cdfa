-- `inside::swap` meets its contract. Assumes nothing.
use mathlib.Core.Path.{ap, ◌∙◌}
use mathlib.Core.List.{List}
use Prim.Native.Nat.{ℕ}
use native.Mathlib.Omega.{arith}
use Rattle.bank.specs.Lists.{swapped}
use Rattle.nibbles.specs.Nibbles.{pack}
use Rattle.nibbles.proofs.Nibbles.{wider}
use Rattle.turns.proofs.Moves.{put-lt}
use Rattle.turns.proofs.Words.{positions-lt, positions-here, swapped_here, moved_here}
use Rattle.turns.proofs.inside.swap.Goals as goal

pub put-one-requires : goal.put-one-requires
put-one-requires c =
    (c.requires.0, c.requires.2, omega (arith, c.nibble.ensures), positions-lt _ _ c.positions-slots.ensures)

pub put-both-requires : goal.put-both-requires
put-both-requires c = (
  c.requires.1,
  c.requires.2,
  omega (arith, c.nibble-2.ensures),
  put-lt _ _ _ _ c.requires.0
      (omega (arith, c.nibble.ensures)) c.put-one.ensures,
)

pub join-requires : goal.join-requires
join-requires c = (
  omega arith,
  omega (arith, c.low.ensures),
  wider c.args.width 15 c.requires.2
      (put-lt _ _ _ _ c.requires.1 (omega (arith, c.nibble-2.ensures)) c.put-both.ensures),
)

pub returns : goal.returns
returns c =
    let slots = c.positions-slots in
    let one = rw c.nibble.ensures at c.put-one.ensures in
    let both = rw c.nibble-2.ensures at c.put-both.ensures in
    rw (c.join.ensures, c.low.ensures)
    (moved_here _ _
    (swapped_here c.args.width _ c.args.i c.args.j c.requires.0 c.requires.1 one both
    ∙ ap (λ (l : List ℕ). pack (swapped c.args.i c.args.j l)) (positions-here _ _ slots.ensures)))
