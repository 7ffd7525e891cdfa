-- `inside::moved` meets its contract. Assumes nothing.
use mathlib.Core.Path.{ap, ◌∙◌}
use mathlib.Core.List.{List}
use Prim.Native.Nat.{ℕ}
use native.Mathlib.Omega.{arith}
use Rattle.bank.specs.Lists.{turned}
use Rattle.nibbles.specs.Nibbles.{pack}
use Rattle.nibbles.proofs.Nibbles.{wider}
use Rattle.turns.proofs.Moves.{turned_lt}
use Rattle.turns.proofs.Words.{positions-lt, positions-here, moved_here}
use Rattle.turns.proofs.inside.moved.Goals as goal

pub turn-requires : goal.turn-requires
turn-requires c =
    let p = c.requires in
    (p.0, p.1, p.2, p.3, positions-lt _ _ c.positions.ensures)

pub join-requires : goal.join-requires
join-requires c =
    (omega arith, c.requires.4, wider c.args.width 15 c.requires.3 (turned_lt _ _ _ _ _ c.requires.0 c.requires.1 c.turn.ensures))

pub returns : goal.returns
returns c =
    let slots = positions-here c.args.width c.args.word c.positions.ensures in
    rw c.join.ensures
    (moved_here _ _
    (c.turn.ensures ∙ ap (λ (l : List ℕ). pack (turned c.args.a c.args.b c.args.c l)) slots))
