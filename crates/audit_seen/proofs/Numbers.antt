-- Laws on a number taken once: one for each way that the code returns. Assumes nothing.
use mathlib.Core.Path.{◌≡◌, refl}
use mathlib.Core.Bool.{true, false}
use mathlib.Core.List.{List, [], ◌∷◌}
use Prim.Native.Nat.{ℕ, zero, suc, ◌<◌}
use native.Mathlib.Omega.{arith}
use borrow.Author.Rules.{rules}
use borrow.Author.Tests.{eq-eqb, ne_eqb}
use lib.ListN.{length, get_or, set}
use Rattle.forest.specs.Walk.{Seen, see}
use Rattle.audit_seen.specs.Seen.{told}

module _ (seen : Seen) (i : ℕ) (l : i < length seen) where
  default : (xs : List ℕ) (j a b : ℕ) → j < length xs → get_or xs j a ≡ get_or xs j b
  default [] j a b h = absurd (omega arith)
  default (x ∷ xs) zero a b h = refl
  default (x ∷ xs) (suc j) a b h = default xs j a b (omega arith)

  pub see-old : (get_or seen i 0 ≡ 0 → ⊥) → told false seen ≡ see i seen
  unfolding see told
  see-old h = rw (default seen i 1 0 l, ne_eqb _ _ h)

  pub see-new : get_or seen i 0 ≡ 0 → told true (set seen i 1) ≡ see i seen
  unfolding see told
  see-new h = rw (default seen i 1 0 l, eq-eqb _ _ h)

pub ruleset sees = (rules, see-old, see-new)
