-- `keys_read::inside::read_ikey_slow` meets its contract. The invariant: i bytes are read, the number is theirs. Assumes nothing.
use Prim.Native.Nat.{◌^◌, ◌<◌}
use mathlib.Core.Path.{◌≡◌}
use Rattle.order.specs.Layer.{big_endian}
use Rattle.keys_read.proofs.inside.read_ikey_slow.Given as goal

abbrev pub invariant-loop-i : goal.invariant-loop-i
invariant-loop-i l = (l.ikey ≡ big_endian l.i l.rest) × (l.ikey < 256 ^ l.i)
