-- A part is used up bit by bit, and each line that ends in it is carried out once.
use Rattle.std.proofs.Common.{◌≡◌, ◌-◌, ◌≤◌, length, take}
use Rattle.std.specs.Io.KnownBytes.{Appends}
use Rattle.arena.specs.Memory.{memory}
use Rattle.each_line.specs.Parts.{lines_here}
use Rattle.each_line.specs.Written.{printed_by}
use Rattle.each_line.proofs.Turns.{Going}
use Rattle.each_line.proofs.inside.answer_part.Given as goal

abbrev pub invariant-loop-from : goal.invariant-loop-from
invariant-loop-from g l =
    (l.from ≤ length l.part) × (length l.nodes ≡ length l.initial.nodes) × (length l.cells ≡ length l.initial.cells)
    × (length l.bytes ≡ length l.initial.bytes) × (length l.line ≡ length l.initial.line) × (length l.out ≡ length l.initial.out)
    × Going (memory l.initial.nodes l.initial.cells l.initial.bytes) (take l.kept l.initial.line) l.part l.from l.answered
    (memory l.nodes l.cells l.bytes) l.line l.held
    × Appends (g.W.Write.contents l.initial.to) (g.W.Write.contents l.to)
    (printed_by (memory l.initial.nodes l.initial.cells l.initial.bytes)
    (take l.answered (lines_here (take l.kept l.initial.line) l.part)))

abbrev pub decreases-loop-from : goal.decreases-loop-from
decreases-loop-from g l = length l.part - l.from
