-- `fields::pairs_to` meets its contract: after i turns, i bytes are written. Assumes nothing.
use mathlib.Core.Path.{◌≡◌}
use Rattle.arena.specs.Parts.{part, put_part}
use Rattle.text.specs.Fields.{pairs}
use Rattle.text.proofs.fields.pairs_to.Given as goal

abbrev pub invariant-loop-i : goal.invariant-loop-i
invariant-loop-i l = l.key ≡ put_part l.initial.key 0 (part (pairs l.field) 0 l.i)
