-- `inside::entry` meets its contract. Assumes nothing.
use native.Mathlib.Omega.{arith}
use Rattle.page.proofs.Pages.{entry_length, entry-typed}
use Rattle.page.proofs.inside.entry.Goals as goal

pub key-next-requires : goal.key-next-requires
key-next-requires c = omega (arith, entry_length c.args.stored.now c.args.frame)

pub append_byte-next-requires : goal.append_byte-next-requires
append_byte-next-requires c = omega (
  arith,
  entry_length c.args.stored.now
      c.args.frame,
)

pub decimal-next-requires : goal.decimal-next-requires
decimal-next-requires c = omega (
  arith,
  entry_length c.args.stored.now
      c.args.frame,
)

pub append_byte-requires : goal.append_byte-requires
append_byte-requires c = omega (
  arith,
  entry_length c.args.stored.now
      c.args.frame,
)

pub returns : goal.returns
returns c = search entry-typed
