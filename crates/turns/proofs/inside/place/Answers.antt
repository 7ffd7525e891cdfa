-- `inside::place` meets its contract. Assumes nothing.
use mathlib.Core.Path.{sym, ◌∙◌}
use native.Mathlib.Omega.{arith}
use borrow.Author.Count.{below_more}
use Rattle.turns.proofs.Words.{place_here, place-nowhere}
use Rattle.turns.proofs.inside.place.Goals as goal

pub returns-then-nibble-slot : goal.returns-then-nibble-slot
returns-then-nibble-slot c =
    place_here c.args.width c.args.word c.args.slot c.requires.0 c.loop-i.i (omega arith)
    c.loop-i.invariant (sym c.nibble.ensures ∙ c.if-nibble-slot.true)

pub loop-i-preserved : goal.loop-i-preserved
loop-i-preserved c = below_more _ _ c.loop-i.invariant (λ e. c.if-nibble-slot.false (c.nibble.ensures ∙ e))

pub returns : goal.returns
returns c =
    c.size_of-size.ensures
    ∙ place-nowhere c.args.width c.args.word c.args.slot c.requires.0 (λ k l. c.loop-i.invariant k (omega arith))
