-- `fields::pairs_to` meets its contract: after i turns, i bytes are written. Assumes nothing.
use native.Mathlib.Omega.{arith}
use Rattle.text.proofs.Keys.{hex-even, hex-odd, pairs-none, pairs-more, pairs-done}
use Rattle.text.proofs.fields.pairs_to.Goals as goal

pub loop-i-init : goal.loop-i-init
loop-i-init c = pairs-none _ _

pub hex_value-high-requires : goal.hex_value-high-requires
hex_value-high-requires c = hex-even c.args.field.now c.loop-i.i c.requires.0 (omega (arith, c.loop-i-test.true))

pub hex_value-low-requires : goal.hex_value-low-requires
hex_value-low-requires c = hex-odd c.args.field.now c.loop-i.i c.requires.0 (omega (arith, c.loop-i-test.true))

pub loop-i-preserved : goal.loop-i-preserved
loop-i-preserved c =
    pairs-more _ _ c.loop-i.i c.loop-i.invariant (omega (arith, c.loop-i-test.true)) c.requires.1 c.hex_value-high.ensures.0
    c.hex_value-low.ensures.0

pub returns : goal.returns
returns c = pairs-done _ _ c.loop-i.invariant (omega (arith, c.loop-i.auto.i-end, c.loop-i-test.false))
