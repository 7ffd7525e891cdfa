-- Tests of numbers, and a test at each number below another. Assumes nothing.
use mathlib.Core.Path.{◌≡◌, sym, subst}
use mathlib.Core.Bool.{Bool}
use Prim.Native.Nat.{ℕ, zero, suc, ◌<◌}
use native.Mathlib.Nat.{not-suc-le-zero}
use native.Mathlib.Omega.{arith}
use native.Mathlib.Decide.{ℕ_discrete}
use lib.Dec.{T, eqb, eqb_refl}
use Rattle.bank.specs.Lists.{all_below}
pub use Rattle.refusal.proofs.Tests.{and_left, and_right, and_both, is_true, holds, same_test}

pub equal : {a b : ℕ} → a ≡ b → T (eqb a b)
equal {a} {b} e = subst (λ (x : ℕ). T (eqb a x)) e (eqb_refl a)

-- a test that passes at each number below n, at one of them
pub at : (n : ℕ) (test : ℕ → Bool) → T (all_below n test) → (k : ℕ) → k < n → T (test k)
at zero test t k h = absurd (not-suc-le-zero h)
at (suc n) test t k h =
    elim (ℕ_discrete k n) [
      | yes e ↦ subst (λ (x : ℕ). T (test x)) (sym e) (and_left (test n) (all_below n test) t)
      | no e ↦ at n test (and_right (test n) (all_below n test) t) k (omega arith)
    ]

pub all-at : (n : ℕ) (test : ℕ → Bool) → ((k : ℕ) → k < n → T (test k)) → T (all_below n test)
all-at zero test h = tt
all-at (suc n) test h = and_both (test n) (all_below n test) (h n (omega arith)) (all-at n test (λ k l. h k (omega arith)))
