-- `inside::each_once` meets its contract. The loop's invariant: the marks are those of the nibbles passed, and some are left.
-- Assumes nothing.
use native.Mathlib.Omega.{arith}
use lib.Bits.{and_mask}
use Rattle.nibbles.specs.Nibbles.{nibbles}
use Rattle.nibbles.proofs.Nibbles.{length-nibbles}
use Rattle.nibbles.proofs.Marks.{halves-none, halves-next, halves-all, marked_all}
use Rattle.nibbles.proofs.inside.each_once.Goals as goal

pub loop-high-init : goal.loop-high-init
loop-high-init c = (halves-none _, omega arith)

pub overflow_cast-marks : goal.overflow_cast-marks
overflow_cast-marks c = rw (and_mask _ 5) (omega arith)

pub overflow_shl-marks : goal.overflow_shl-marks
overflow_shl-marks c = rw (and_mask _ 5) (omega arith)

pub overflow_cast-marks-in-loop-high : goal.overflow_cast-marks-in-loop-high
overflow_cast-marks-in-loop-high c = rw (and_mask _ 5) (omega arith)

pub overflow_shl-marks-in-loop-high : goal.overflow_shl-marks-in-loop-high
overflow_shl-marks-in-loop-high c = rw (and_mask _ 5) (omega arith)

pub loop-high-smaller : goal.loop-high-smaller
loop-high-smaller c = omega (arith, c.loop-high.invariant.1)

pub loop-high-preserved : goal.loop-high-preserved
loop-high-preserved c =
    let v = c.loop-high.invariant in
    (halves-next v.0 (omega arith) (λ e. omega (arith, e, v.1)), omega arith)

pub returns : goal.returns
returns c =
    let x = c.args.x in
    let v = c.loop-high.invariant in
    let last = halves-next v.0 (omega arith) (λ e. omega (arith, e, v.1)) in
    marked_all (nibbles 16 x) (length-nibbles 16 x) (halves-all last (omega arith) (omega arith)) last.small
