-- `inside::entries` meets its contract: after k turns, k entries are printed. Assumes nothing.
use mathlib.Core.Path.{◌≡◌}
use lib.ListN.{length, take}
use Rattle.page.specs.Page.{Typed}
use Rattle.lines_said.specs.Said.{entry_texts}
use Rattle.arena.specs.Memory.{memory}
use Rattle.model.specs.Calls.{in_key_order}
use Rattle.lines_list.proofs.inside.entries.Given as goal

abbrev pub invariant-loop-k : goal.invariant-loop-k
invariant-loop-k l = (length l.out ≡ length l.initial.out)
    × Typed l.initial.out l.at (entry_texts (memory l.nodes l.cells l.bytes) (take l.k (in_key_order (memory l.nodes l.cells l.bytes)))) l.next l.out
