-- `keys_read::inside::read_ikey_slow` meets its contract. The invariant: i bytes are read, the number is theirs. Assumes nothing.
use Prim.Native.Nat.{◌<◌}
use native.Mathlib.Omega.{arith}
use Rattle.keys_read.proofs.Ikeys.{slow-start, slow-next, slow-room, slow-bound}
use Rattle.keys_read.proofs.inside.read_ikey_slow.Goals as goal

pub loop-i-init : goal.loop-i-init
loop-i-init c = (slow-start _, omega arith)

pub overflow_mul-ikey : goal.overflow_mul-ikey
overflow_mul-ikey c =
    let l = c.loop-i in
    let h : l.i < 8 = omega arith in
    record { fits = omega (arith, slow-room l.i {b = 0} h l.invariant.1 (omega arith)) }

pub overflow_add-ikey : goal.overflow_add-ikey
overflow_add-ikey c =
    let l = c.loop-i in
    let h : l.i < 8 = omega arith in
    record { fits = slow-room l.i h l.invariant.1 c.byte_or_zero.ensures.1 }

pub loop-i-preserved : goal.loop-i-preserved
loop-i-preserved c =
    let l = c.loop-i in
    let b = c.byte_or_zero.ensures in
    (slow-next _ l.i l.invariant.0 b.0, slow-bound l.i l.invariant.1 b.1)
