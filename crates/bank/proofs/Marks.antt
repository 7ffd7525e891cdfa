-- Slots marked by the bits of a number: what a mark says, and a number whose marks are all set. Assumes nothing.
use mathlib.Core.Path.{◌≡◌, sym, ap, ◌∙◌, subst}
use mathlib.Core.List.{[], ◌∷◌}
use Prim.Native.Nat.{ℕ, zero, suc, ◌+◌, ◌-◌, ◌*◌, ◌/◌, ◌%◌, ◌^◌, ◌<◌, min, max}
use native.Mathlib.Nat.{div_self, div-one, div-eq_of_lt}
use native.Mathlib.Omega.{arith}
use native.Mathlib.Decide.{ℕ_discrete, dec_lt}
use native.Mathlib.Numerals.{add-one}
use lib.Bits.{bit_or, or_step, or_shr}
use lib.Pow.{pow-add, pow_pos, pow-lt, shl-shr, shr-shr}
use Rattle.bank.specs.Lists.{count}
use Rattle.bank.proofs.Counts.{count_none, count_same, count-other}

-- bit s of a number
abbrev pub bit : ℕ → ℕ → ℕ
bit x s = x / 2 ^ s % 2

pub bit-or : (x y s : ℕ) → bit (bit_or x y) s ≡ max (bit x s) (bit y s)
bit-or x y s = ap (λ (z : ℕ). z % 2) (or_shr x y s) ∙ omega (arith, or_step (x / 2 ^ s) (y / 2 ^ s))

pub bit-same : (p : ℕ) → bit (2 ^ p) p ≡ 1
bit-same p = ap (λ (z : ℕ). z % 2) (div_self (pow_pos p))

pub bit-other : (p s : ℕ) → (p ≡ s → ⊥) → bit (2 ^ p) s ≡ 0
bit-other p s h =
    elim (dec_lt p s) [
      | yes l ↦ ap (λ (z : ℕ). z % 2) (div-eq_of_lt (pow-lt l))
      | no l ↦
          let e : 2 ^ p ≡ 2 ^ (p - s - 1 + 1) * 2 ^ s = ap (λ (k : ℕ). 2 ^ k) (let z : p ≡ p - s - 1 + 1 + s = omega arith in z)
          ∙ pow-add 2 (p - s - 1 + 1) s in
          let d : 2 ^ (p - s - 1 + 1) ≡ 2 ^ (p - s - 1) * 2 = pow-add 2 (p - s - 1) 1 in
          ap (λ (z : ℕ). z / 2 ^ s % 2) e ∙ ap (λ (z : ℕ). z % 2) (shl-shr (2 ^ (p - s - 1 + 1)) s) ∙ omega arith
    ]

-- a number of k bits that are all set
pub ones : (k x : ℕ) → x < 2 ^ k → ((s : ℕ) → s < k → bit x s ≡ 1) → x + 1 ≡ 2 ^ k
ones zero x l h = omega arith
ones (suc k) x l h =
    let p : 2 ^ suc k ≡ 2 ^ k * 2 = ap (λ (j : ℕ). 2 ^ j) (sym (add-one k)) ∙ pow-add 2 k 1 in
    let low : x % 2 ≡ 1 = ap (λ (z : ℕ). z % 2) (sym (div-one x)) ∙ h 0 (omega arith) in
    let high : x / 2 + 1 ≡ 2 ^ k = ones k (x / 2) (omega arith)
    (λ s m. ap (λ (z : ℕ). z % 2) (shr-shr x 1 s ∙ ap (λ (j : ℕ). x / 2 ^ j) (let z : 1 + s ≡ suc s = omega arith in z))
    ∙ h (suc s) (omega arith)) in
    omega arith

-- and the other way round
pub all_ones : (k x s : ℕ) → x + 1 ≡ 2 ^ k → s < k → bit x s ≡ 1
all_ones zero x s e l = absurd (omega arith)
all_ones (suc k) x zero e l =
    let p : 2 ^ suc k ≡ 2 ^ k * 2 = ap (λ (j : ℕ). 2 ^ j) (sym (add-one k)) ∙ pow-add 2 k 1 in
    ap (λ (z : ℕ). z % 2) (div-one x) ∙ omega arith
all_ones (suc k) x (suc s) e l =
    let p : 2 ^ suc k ≡ 2 ^ k * 2 = ap (λ (j : ℕ). 2 ^ j) (sym (add-one k)) ∙ pow-add 2 k 1 in
    ap (λ (z : ℕ). z % 2) (ap (λ (j : ℕ). x / 2 ^ j) (let z : suc s ≡ 1 + s = omega arith in z) ∙ sym (shr-shr x 1 s))
    ∙ all_ones k (x / 2) s (omega arith) (omega arith)

-- the mark of one number
pub marked-one : (p s : ℕ) → bit (2 ^ p) s ≡ count s (p ∷ [])
marked-one p s =
    elim (ℕ_discrete p s) [
      | yes e ↦ subst (λ (x : ℕ). bit (2 ^ p) x ≡ count x (p ∷ [])) e (bit-same p ∙ sym (count_same p [] ∙ ap suc (count_none p)))
      | no e ↦ bit-other p s e ∙ sym (count-other p s [] e ∙ count_none s)
    ]

-- the marks of a list, and of one more
pub more-marks : (a b c d : ℕ) → a ≡ min 1 c → b ≡ d → d < 2 → max a b ≡ min 1 (c + d)
more-marks a b c d e f h = omega arith
