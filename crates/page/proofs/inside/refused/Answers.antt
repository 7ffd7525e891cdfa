-- `inside::refused` meets its contract. Assumes nothing.
use native.Mathlib.Omega.{arith}
use Rattle.page.proofs.Pages.{refused-length, refused-typed}
use Rattle.page.proofs.inside.refused.Goals as goal

pub append-next-requires : goal.append-next-requires
append-next-requires c = omega (arith, refused-length c.args.n)

pub decimal-next-requires : goal.decimal-next-requires
decimal-next-requires c = omega (arith, refused-length c.args.n)

pub append_byte-requires : goal.append_byte-requires
append_byte-requires c = omega (
  arith,
  refused-length c.args.n,
)

pub returns : goal.returns
returns c = search refused-typed
