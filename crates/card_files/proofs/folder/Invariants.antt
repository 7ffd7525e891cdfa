-- What begins behind the last slash.
use Rattle.std.proofs.Common.{◌≡◌, ◌-◌, ◌≤◌, ◌<◌, length, get_or}
use Rattle.card_files.proofs.folder.Given as goal

abbrev pub invariant-loop-i : goal.invariant-loop-i
invariant-loop-i l = (l.n ≤ l.i) × (l.i ≤ length l.path) × (0 < l.n → get_or l.path (l.n - 1) 0 ≡ 47)

abbrev pub decreases-loop-i : goal.decreases-loop-i
decreases-loop-i l = length l.path - l.i
