-- An answer is known by what it says: each contract leaves one outcome. Assumes nothing.
use mathlib.Core.Path.{◌≡◌, refl, sym, ap, ap₂, ◌∙◌}
use Prim.Native.Nat.{ℕ}
use Rattle.std.specs.Prelude.{Result, Ok, Err}
use Rattle.refusal.specs.declared.Refusal.{Refusal}
use Rattle.refusal.proofs.Laws.{number-one}
use Rattle.refusal.proofs.One.{number-of, value_of, differ}
use Rattle.arena.specs.declared.Fit.{Fit}
use Rattle.arena.specs.Memory.{Memory, Did, did, cleared, said_measured, said_cleared}

pub measured-one : (x y : Result Fit Refusal) → said_measured x ≡ said_measured y → x ≡ y
measured-one (Ok a) (Ok b) e = let p : a.nodes ≡ b.nodes = value_of 0 e in let q : a.cells ≡ b.cells = value_of 1 e in ap₂ (λ (n c : ℕ). Ok (record { nodes = n; cells = c })) p q
measured-one (Ok a) (Err r) e = absurd (differ r (number-of e))
measured-one (Err r) (Ok b) e = absurd (differ r (sym (number-of e)))
measured-one (Err r) (Err q) e = ap Err (number-one r q (number-of e))

pub cleared-one : (x y : Result (Unit {0}) Refusal) → said_cleared x ≡ said_cleared y → x ≡ y
cleared-one (Ok _) (Ok _) e = refl
cleared-one (Ok _) (Err r) e = absurd (differ r (number-of e))
cleared-one (Err r) (Ok _) e = absurd (differ r (sym (number-of e)))
cleared-one (Err r) (Err q) e = ap Err (number-one r q (number-of e))

-- any two outcomes that the contract of `clear` admits are one: the answer, and all three slices
pub clear-one : (given : Memory) (x y : Result (Unit {0}) Refusal) (after other : Memory) → did (said_cleared x) after ≡ cleared given
    → did (said_cleared y) other ≡ cleared given
    → (x ≡ y) × (after ≡ other)
clear-one given x y after other e f =
    let q : did (said_cleared x) after ≡ did (said_cleared y) other = e ∙ sym f in
    (cleared-one x y (ap (λ (d : Did). d.answer) q), ap (λ (d : Did). d.after) q)
