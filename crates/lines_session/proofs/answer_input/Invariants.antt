-- The count of parts rises, and as much is lent as before.
use Rattle.std.proofs.Common.{◌≡◌, ◌-◌, ◌≤◌, length}
use Rattle.lines_session.proofs.answer_input.Given as goal

abbrev pub invariant-loop-parts : goal.invariant-loop-parts
invariant-loop-parts g l =
    (l.kept ≤ 1201) × (length l.nodes ≡ length l.initial.nodes) × (length l.cells ≡ length l.initial.cells)
    × (length l.bytes ≡ length l.initial.bytes) × (length l.line ≡ 1201) × (length l.out ≡ 136182) × (length l.part ≡ 65536)

abbrev pub decreases-loop-parts : goal.decreases-loop-parts
decreases-loop-parts g l = 18446744073709551615 - l.parts
