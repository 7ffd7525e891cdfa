-- `shape::inside::ikeys_rising` meets its contract. Assumes nothing.
use Rattle.internode.proofs.Judgement.{RisesTo}
use Rattle.arena.specs.Parts.{part}
use Rattle.shape.proofs.inside.ikeys_rising.Given as goal

abbrev pub invariant-loop-i : goal.invariant-loop-i
invariant-loop-i l = RisesTo (part l.words l.at l.n) l.i
