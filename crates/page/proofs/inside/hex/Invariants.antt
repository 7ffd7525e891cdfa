-- `inside::hex` meets its contract: the bytes so far are printed. Assumes nothing.
use Prim.Native.Nat.{◌+◌, ◌*◌, ◌≤◌}
use mathlib.Core.Path.{◌≡◌}
use lib.ListN.{length, take}
use Rattle.page.specs.Page.{Typed}
use Rattle.page.specs.Shown.{hex_of}
use Rattle.page.proofs.inside.hex.Given as goal

abbrev pub invariant-loop-b : goal.invariant-loop-b
invariant-loop-b l = (l.at + 2 * length l.key ≤ length l.initial.out) × (length l.out ≡ length l.initial.out)
    × (l.next ≡ l.at + 2 * l.b-index) × Typed l.initial.out l.at (hex_of (take l.b-index l.key)) l.next l.out
