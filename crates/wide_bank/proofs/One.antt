-- An answer is known by what it says: each contract leaves one outcome. Assumes nothing.
use mathlib.Core.Path.{◌≡◌, refl, sym, ap, ap₂, ◌∙◌}
use mathlib.Core.List.{List, [], ◌∷◌, ◌++◌}
use Prim.Native.Nat.{ℕ}
use native.Mathlib.Omega.{arith}
use lib.ListN.{length, get_or, take, drop, length-append}
use lib.Seq.{take_at, drop_at}
use Rattle.std.specs.Prelude.{Result, Ok, Err}
use Rattle.refusal.specs.Answer.{Answer, refused}
use Rattle.refusal.specs.declared.Refusal.{Refusal}
use Rattle.refusal.proofs.One.{no-refusal, same-refusal, same-values, same-value}
use Rattle.wide_answers.specs.declared.Refused.{Refused}
use Rattle.wide_answers.specs.declared.HandedOut.{HandedOut}
use Rattle.wide_answers.specs.Answers.{said_changed, said_inserted, said_told}

refused_with : Refusal → List ℕ → Refused
refused_with why bank = record { why = why; bank = bank }

-- a refusal says why, and the bank
refused-one : (r q : Refused) → refused r.why r.bank ≡ refused q.why q.bank → r ≡ q
unfolding refused_with
refused-one r q e = ap₂ refused_with (same-refusal r.why q.why e) (ap (λ (x : Answer). x.values) e)

pub changed-one : (x y : Result (List ℕ) Refused) → said_changed x ≡ said_changed y → x ≡ y
changed-one (Ok a) (Ok b) e = ap Ok (same-values e)
changed-one (Ok a) (Err q) e = no-refusal q.why e
changed-one (Err r) (Ok b) e = no-refusal r.why (sym e)
changed-one (Err r) (Err q) e = ap Err (refused-one r q e)

handed_with : List ℕ → List ℕ → HandedOut
handed_with bank told = record { bank = bank; slot = get_or told 0 0; resting = get_or told 1 0 }

-- as many bytes before what is told, so the same bytes, the same slot and as many that rest
handed-one : (x y : HandedOut) → x.bank ++ x.slot ∷ x.resting ∷ [] ≡ y.bank ++ y.slot ∷ y.resting ∷ [] → x ≡ y
unfolding handed_with
handed-one x y v =
    let xs = x.slot ∷ x.resting ∷ [] in
    let ys = y.slot ∷ y.resting ∷ [] in
    let l : length y.bank ≡ length x.bank = omega (arith, ap length v, length-append x.bank xs, length-append y.bank ys) in
    ap₂ handed_with
    (sym (take_at x.bank xs (length x.bank) refl) ∙ ap (take (length x.bank)) v ∙ take_at y.bank ys (length x.bank) l)
    (sym (drop_at x.bank xs (length x.bank) refl) ∙ ap (drop (length x.bank)) v ∙ drop_at y.bank ys (length x.bank) l)

pub inserted-one : (x y : Result HandedOut Refused) → said_inserted x ≡ said_inserted y → x ≡ y
inserted-one (Ok a) (Ok b) e = ap Ok (handed-one a b (same-values e))
inserted-one (Ok a) (Err q) e = no-refusal q.why e
inserted-one (Err r) (Ok b) e = no-refusal r.why (sym e)
inserted-one (Err r) (Err q) e = ap Err (refused-one r q e)

-- of the bank that was asked about
pub told-one : (bank : List ℕ) (x y : Result ℕ Refusal) → said_told bank x ≡ said_told bank y → x ≡ y
told-one bank (Ok a) (Ok b) e = ap Ok (same-value e)
told-one bank (Ok a) (Err r) e = no-refusal r e
told-one bank (Err r) (Ok b) e = no-refusal r (sym e)
told-one bank (Err r) (Err q) e = ap Err (same-refusal r q e)
