-- An answer is known by what it says: each contract leaves one outcome. Assumes nothing.
use Prim.Native.Nat.{ℕ}
use mathlib.Core.Path.{◌≡◌, sym, ap, ap₂}
use mathlib.Core.List.{List}
use lib.ListN.{get_or}
use Rattle.std.specs.Prelude.{Result, Ok, Err}
use Rattle.refusal.specs.declared.Refusal.{Refusal}
use Rattle.refusal.proofs.Laws.{number-one}
use Rattle.refusal.proofs.One.{number-of, value_of, differ, same-values}
use Rattle.slot_answers.specs.declared.Refused.{Refused}
use Rattle.slot_answers.specs.declared.HandedOut.{HandedOut}
use Rattle.slot_answers.specs.Answers.{said_changed, said_inserted, said_told, said_made}

-- refused for one reason, with one word back
refusing : {T : Type 0} → Refusal → ℕ → Result T Refused
refusing why word = Err (record { why = why; word = word })

pub changed-one : (x y : Result ℕ Refused) → said_changed x ≡ said_changed y → x ≡ y
unfolding refusing
changed-one (Ok a) (Ok b) e = ap Ok (value_of 0 e)
changed-one (Ok a) (Err r) e = absurd (differ r.why (number-of e))
changed-one (Err r) (Ok b) e = absurd (differ r.why (sym (number-of e)))
changed-one (Err r) (Err q) e = ap₂ refusing (number-one r.why q.why (number-of e)) (value_of 0 e)

pub inserted-one : (x y : Result HandedOut Refused) → said_inserted x ≡ said_inserted y → x ≡ y
unfolding refusing
inserted-one (Ok a) (Ok b) e =
    ap (λ (told : List ℕ). Ok (record { word = get_or told 0 0; slot = get_or told 1 0; resting = get_or told 2 0 })) (same-values e)
inserted-one (Ok a) (Err r) e = absurd (differ r.why (number-of e))
inserted-one (Err r) (Ok b) e = absurd (differ r.why (sym (number-of e)))
inserted-one (Err r) (Err q) e = ap₂ refusing (number-one r.why q.why (number-of e)) (value_of 0 e)

-- a question says what a change says
pub told-one : (x y : Result ℕ Refused) → said_told x ≡ said_told y → x ≡ y
told-one = changed-one

pub made_one : (x y : Result ℕ Refusal) → said_made x ≡ said_made y → x ≡ y
made_one (Ok a) (Ok b) e = ap Ok (value_of 0 e)
made_one (Ok a) (Err r) e = absurd (differ r (number-of e))
made_one (Err r) (Ok b) e = absurd (differ r (sym (number-of e)))
made_one (Err r) (Err q) e = ap Err (number-one r q (number-of e))
