-- As much memory is lent as before.
use Rattle.std.proofs.Common.{◌≡◌, length}
use Rattle.replay_index.proofs.replay_all.Given as goal

abbrev pub invariant-loop : goal.invariant-loop
invariant-loop g l =
    (length l.nodes ≡ length l.initial.nodes) × (length l.cells ≡ length l.initial.cells) × (length l.bytes ≡ length l.initial.bytes)
