-- `inside::place` meets its contract. The loop's invariant: no position passed holds the slot. Assumes nothing.
use mathlib.Core.Path.{◌≡◌}
use native.Mathlib.Omega.{arith}
use borrow.Author.Rules.{rules}
use lib.ListN.{length, get_or}
use Rattle.wide_moves.proofs.Moves.{place_here, place-nowhere}
use Rattle.wide_moves.proofs.inside.place.Goals as goal

pub bounds-bank-i : goal.bounds-bank-i
bounds-bank-i c = omega arith

pub returns-then-bank-i : goal.returns-then-bank-i
returns-then-bank-i c =
    let n : length c.args.bank ≡ 25 = search rules in
    place_here c.args.width c.args.slot c.args.bank n c.requires.0 c.requires.1 c.loop-i.i (omega arith)
    c.loop-i.invariant c.if-bank-i.true

pub returns : goal.returns
returns c =
    let n : length c.args.bank ≡ 25 = search rules in
    let e : c.loop-i.i ≡ get_or c.args.bank 0 0 = omega arith in
    place-nowhere c.args.width c.args.slot c.args.bank n c.requires.0 c.requires.1
    (λ k l. c.loop-i.invariant k (omega arith))
