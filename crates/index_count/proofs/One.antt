-- The answer is known by what it says: the contract of `count` leaves one outcome. Assumes nothing.
use mathlib.Core.Path.{◌≡◌, sym, ap, ◌∙◌}
use Prim.Native.Nat.{ℕ}
use Rattle.std.specs.Prelude.{Result, Ok, Err}
use Rattle.refusal.specs.declared.Refusal.{Refusal}
use Rattle.refusal.proofs.Laws.{number-one}
use Rattle.refusal.proofs.One.{number-of, value_of, differ}
use Rattle.arena.specs.Memory.{Memory}
use Rattle.model.specs.Calls.{count_said}
use Rattle.index_count.specs.Answers.{said_counted}

pub counted-one : (x y : Result ℕ Refusal) → said_counted x ≡ said_counted y → x ≡ y
counted-one (Ok a) (Ok b) e = ap Ok (value_of 0 e)
counted-one (Ok a) (Err r) e = absurd (differ r (number-of e))
counted-one (Err r) (Ok b) e = absurd (differ r (sym (number-of e)))
counted-one (Err r) (Err q) e = ap Err (number-one r q (number-of e))

-- any two outcomes that the contract of `count` admits are one
pub count-once : (m : Memory) (x y : Result ℕ Refusal) → said_counted x ≡ count_said m → said_counted y ≡ count_said m → x ≡ y
count-once m x y e f = counted-one x y (e ∙ sym f)
