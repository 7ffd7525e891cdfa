-- Strictly rising lists: what holds of any two places, of parts, and of a list with one more. Assumes nothing.
use mathlib.Core.Path.{sym, subst}
use mathlib.Core.List.{List, [], ◌∷◌}
use Prim.Native.Nat.{ℕ, zero, suc, ◌+◌, ◌<◌}
use native.Mathlib.Nat.{not-suc-le-zero}
use native.Mathlib.Omega.{arith}
use native.Mathlib.Decide.{ℕ_discrete}
use lib.Dec.{T, ltb, ltb→lt, lt→ltb}
use lib.ListN.{length, get_or, take, drop, length-take, length-drop}
use lib.Seq.{get_or-take, get_or-drop}
pub use Rattle.refusal.proofs.Tests.{and_left, and_right, and_both, is_true, is_false, holds}
use Rattle.internode_places.specs.Lists.{rising}

-- ---- rising at neighbours, and so at any two places

pub rising-next : (ks : List ℕ) → T (rising ks) → (i : ℕ) → suc i < length ks → get_or ks i 0 < get_or ks (suc i) 0
unfolding rising
rising-next [] t i h = absurd (not-suc-le-zero h)
rising-next (k ∷ []) t i h = absurd (omega arith)
rising-next (k ∷ (m ∷ ks)) t zero h = ltb→lt k m (and_left (ltb k m) (rising (m ∷ ks)) t)
rising-next (k ∷ (m ∷ ks)) t (suc i) h = rising-next (m ∷ ks) (and_right (ltb k m) (rising (m ∷ ks)) t) i (omega arith)

pub rising-all : (ks : List ℕ) → ((i : ℕ) → suc i < length ks → get_or ks i 0 < get_or ks (suc i) 0) → T (rising ks)
unfolding rising
rising-all [] f = tt
rising-all (k ∷ []) f = tt
rising-all (k ∷ (m ∷ ks)) f =
    and_both (ltb k m) (rising (m ∷ ks)) (lt→ltb k m (f 0 (omega arith))) (rising-all (m ∷ ks) (λ i h. f (suc i) (omega arith)))

pub rising-lt : (ks : List ℕ) → T (rising ks) → (i j : ℕ) → i < j → j < length ks → get_or ks i 0 < get_or ks j 0
rising-lt ks t i zero l h = absurd (not-suc-le-zero l)
rising-lt ks t i (suc j) l h =
    elim (ℕ_discrete i j) [
      | yes e ↦ subst (λ (x : ℕ). get_or ks x 0 < get_or ks (suc j) 0) (sym e) (rising-next ks t j h)
      | no e ↦ omega (arith, rising-lt ks t i j (omega arith) (omega arith), rising-next ks t j h)
    ]

-- ---- parts

pub rising-take : (n : ℕ) (ks : List ℕ) → T (rising ks) → T (rising (take n ks))
rising-take n ks t =
    rising-all (take n ks)
    (λ i h.
    let l = length-take n ks in
    rw (get_or-take n ks i 0 (omega arith), get_or-take n ks (suc i) 0 (omega arith)) (rising-next ks t i (omega arith)))

pub rising-drop : (n : ℕ) (ks : List ℕ) → T (rising ks) → T (rising (drop n ks))
rising-drop n ks t =
    rising-all (drop n ks)
    (λ i h.
    let l = length-drop n ks in
    rw (get_or-drop n ks i 0, get_or-drop n ks (suc i) 0) (rising-lt ks t (n + i) (n + suc i) (omega arith) (omega arith)))
