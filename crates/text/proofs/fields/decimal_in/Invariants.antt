-- `fields::decimal_in` meets its contract: n is the value of the digits so far. Assumes nothing.
use Prim.Native.Nat.{◌<◌, ◌^◌}
use Rattle.text.proofs.Frames.{Run}
use Rattle.text.proofs.fields.decimal_in.Given as goal

abbrev pub invariant-loop-b : goal.invariant-loop-b
invariant-loop-b l = Run l.field l.n l.b-index × (l.n < 2 ^ 64)
