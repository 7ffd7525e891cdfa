-- A refused call of the index leaves every word and byte as it was. Assumes nothing.
use Prim.Native.Nat.{◌<◌}
use mathlib.Core.Path.{◌≡◌, refl}
use mathlib.Core.Bool.{Bool, true, false, cond}
use native.Mathlib.Omega.{arith}
use lib.Dec.{T, eqb, eqb→eq}
use Rattle.refusal.specs.Answer.{Answer}
use Rattle.arena.specs.Memory.{Memory}
use Rattle.model.specs.Calls.{when_accepted}

pub kept-if-refused : (a : Answer) (after before : Memory) → 0 < a.number → when_accepted a after before ≡ before
kept-if-refused a after before h = by (eqb a.number 0) (eqb→eq a.number 0)
  where
    by : (zero? : Bool) → (T zero? → a.number ≡ 0) → cond zero? after before ≡ before
    by true f = absurd (omega (arith, f tt))
    by false f = refl
