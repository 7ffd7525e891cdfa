-- The answer is known by what it says: the contract of `audit` leaves one outcome. Assumes nothing.
use mathlib.Core.Path.{◌≡◌, refl, sym, ap, ◌∙◌}
use Rattle.std.specs.Prelude.{Result, Ok, Err}
use Rattle.refusal.specs.declared.Refusal.{Refusal}
use Rattle.refusal.proofs.Laws.{number-one}
use Rattle.refusal.proofs.One.{number-of, differ}
use Rattle.arena.specs.Memory.{Memory}
use Rattle.audit.specs.Audit.{audited, said_audited}

pub audited-one : (x y : Result (Unit {0}) Refusal) → said_audited x ≡ said_audited y → x ≡ y
audited-one (Ok _) (Ok _) e = refl
audited-one (Ok _) (Err r) e = absurd (differ r (number-of e))
audited-one (Err r) (Ok _) e = absurd (differ r (sym (number-of e)))
audited-one (Err r) (Err q) e = ap Err (number-one r q (number-of e))

-- any two outcomes that the contract of `audit` admits are one
pub audit-one : (m : Memory) (x y : Result (Unit {0}) Refusal) → said_audited x ≡ audited m → said_audited y ≡ audited m → x ≡ y
audit-one m x y e f = audited-one x y (e ∙ sym f)
