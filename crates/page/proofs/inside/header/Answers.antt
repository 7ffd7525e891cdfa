-- `inside::header` meets its contract. Assumes nothing.
use native.Mathlib.Omega.{arith}
use Rattle.page.proofs.Pages.{header-length, header-typed}
use Rattle.page.proofs.inside.header.Goals as goal

pub decimal-next-requires : goal.decimal-next-requires
decimal-next-requires c = omega (arith, header-length c.args.n)

pub append-requires : goal.append-requires
append-requires c = omega (arith, header-length c.args.n)

pub returns : goal.returns
returns c = search header-typed
