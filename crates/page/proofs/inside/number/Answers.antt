-- `inside::number` meets its contract. Assumes nothing.
use native.Mathlib.Omega.{arith}
use Rattle.page.proofs.Pages.{number-length, number-typed}
use Rattle.page.proofs.inside.number.Goals as goal

pub decimal-next-requires : goal.decimal-next-requires
decimal-next-requires c = omega (arith, number-length c.args.n)

pub append_byte-requires : goal.append_byte-requires
append_byte-requires c = omega (arith, number-length c.args.n)

pub returns : goal.returns
returns c = search number-typed
