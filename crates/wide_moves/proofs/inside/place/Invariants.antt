-- `inside::place` meets its contract. The loop's invariant: no position passed holds the slot. Assumes nothing.
use mathlib.Core.Path.{◌≡◌}
use Prim.Native.Nat.{ℕ, ◌+◌, ◌<◌}
use lib.ListN.{get_or}
use Rattle.wide_moves.proofs.inside.place.Given as goal

abbrev pub invariant-loop-i : goal.invariant-loop-i
invariant-loop-i l = (k : ℕ) → k < l.i → get_or l.bank (k + 1) 0 ≡ l.slot → ⊥
