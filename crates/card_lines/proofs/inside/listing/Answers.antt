-- `inside::listing` meets its contract: each word of the cells is below 2^64, so there is room for any listing. Assumes nothing.
use native.Mathlib.Omega.{arith}
use borrow.Author.Rules.{rules}
use Rattle.arena.specs.Memory.{memory}
use Rattle.lines.proofs.Fits.{roomy}
use Rattle.card_lines.proofs.inside.listing.Goals as goal

pub list-requires : goal.list-requires
list-requires c = let s = c.args in
    roomy (memory c.args.nodes.now c.args.cells.now c.args.bytes.now) (λ i. omega (arith, c.shared_slice_known-2-1.given i)) (search rules)
