-- `clear` by its one rule, and memory as it was where it is refused. Assumes nothing.
use Prim.Native.Nat.{◌<◌}
use mathlib.Core.Path.{◌≡◌, refl}
use mathlib.Core.Bool.{Bool, true, false, cond}
use mathlib.Core.List.{[], ◌∷◌}
use native.Mathlib.Omega.{arith}
use lib.ListN.{length}
use Rattle.refusal.specs.Answer.{accepted, answered, ◌unless◌}
use Rattle.arena.specs.Memory.{Memory, right_lengths, did, cleared}

-- the answer is that of the rule for the lent lengths
pub clear-says : (m : Memory)
    → (cleared m).answer ≡ answered ((10 unless right_lengths (length m.nodes) (length m.cells) (length m.bytes)) ∷ []) [] []
unfolding cleared
clear-says m = by (right_lengths (length m.nodes) (length m.cells) (length m.bytes)) _
  where
    by : (right : Bool) (after : Memory)
        → (cond right (did (accepted []) after) (did (record { number = 10; values = [] }) m)).answer ≡ answered ((10 unless right) ∷ []) []
        []
    by true after = refl
    by false after = refl

-- a refused clear leaves every word and byte
pub clear_kept : (m : Memory) → 0 < (cleared m).answer.number → (cleared m).after ≡ m
unfolding cleared
clear_kept m = by (right_lengths (length m.nodes) (length m.cells) (length m.bytes)) _
  where
    by : (right : Bool) (after : Memory)
        → 0 < (cond right (did (accepted []) after) (did (record { number = 10; values = [] }) m)).answer.number
        → (cond right (did (accepted []) after) (did (record { number = 10; values = [] }) m)).after ≡ m
    by true after h = absurd (omega arith)
    by false after h = refl
