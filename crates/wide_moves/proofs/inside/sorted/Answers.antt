-- `inside::sorted` meets its contract. The loop's invariant: so many slots stand in place. Assumes nothing.
use mathlib.Core.Path.{◌≡◌}
use native.Mathlib.Omega.{arith}
use Rattle.wide_moves.proofs.Moves.{begun-none, begun_more, begun_all}
use Rattle.wide_moves.proofs.inside.sorted.Goals as goal

pub loop-k-init : goal.loop-k-init
loop-k-init c = begun-none c.args.width c.args.n

pub loop-k-preserved : goal.loop-k-preserved
loop-k-preserved c =
    let a = c.args in
    let more = begun_more a.width a.n (omega arith) (omega arith) c.loop-k.k (omega arith) c.sorted_at.ensures.0 in
    rw c.loop-k.invariant more

pub returns : goal.returns
returns c =
    let a = c.args in
    let e : c.loop-k.k ≡ a.width = omega arith in
    rw (c.loop-k.invariant, e) (begun_all a.width a.n (omega arith) (omega arith))
