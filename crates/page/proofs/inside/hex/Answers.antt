-- `inside::hex` meets its contract: the bytes so far are printed. Assumes nothing.
use borrow.Author.Rules.{rules}
use mathlib.Core.Path.{refl}
use native.Mathlib.Omega.{arith}
use Rattle.page.proofs.Pages.{hex-start, hex-fits, hex-again, hex-done}
use Rattle.page.proofs.inside.hex.Goals as goal

pub loop-b-init : goal.loop-b-init
loop-b-init c = (search hex-fits, refl, omega arith, search hex-start)

pub hex_digit-requires : goal.hex_digit-requires
hex_digit-requires c = omega (arith, c.type_inv.key c.loop-b.b-index)

pub loop-b-preserved : goal.loop-b-preserved
loop-b-preserved c = (search rules, search rules, search rules, search hex-again)

pub returns : goal.returns
returns c = search hex-done
