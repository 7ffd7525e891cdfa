-- Rising and falling runs of slots, and the sorted bank, at every width. Assumes nothing.
use mathlib.Core.Path.{◌≡◌, refl, sym, ap, ap₂, ◌∙◌, subst}
use mathlib.Core.Bool.{true}
use mathlib.Core.List.{List, [], ◌∷◌, ◌++◌, reverse, reverse-cons}
use Prim.Native.Nat.{ℕ, zero, suc, ◌+◌, ◌-◌, ◌≤◌, ◌<◌}
use native.Mathlib.Nat.{add-zero, suc-add, zero-add}
use native.Mathlib.Omega.{arith}
use native.Mathlib.Decide.{dec_lt}
use lib.ListN.{length, take, drop, length-append}
use lib.Seq.{take_at, drop_at}
use lib.Dec.{T}
use borrow.Author.Tests.{lt-ltb, le-ltb, le-leb}
use Rattle.bank.specs.Lists.{count, each_once, up, listed}
use Rattle.bank.specs.Bank.{sorted_at, sorted, valid}
use Rattle.bank.proofs.Tests.{same_test, is_true}
use Rattle.bank.proofs.Counts.{count_none, count_same, count-other, count-append, once-if-all, once}

-- ---- rising runs

pub length_up : (s k : ℕ) → length (up s k) ≡ k
unfolding up
length_up s zero = refl
length_up s (suc k) = ap suc (length_up (suc s) k)

pub up-append : (s j k : ℕ) → up s (j + k) ≡ up s j ++ up (s + j) k
unfolding up
up-append s zero k = ap₂ up (sym (add-zero s)) (zero-add k)
up-append s (suc j) k =
    ap (up s) (suc-add j k)
    ∙ ap (λ (l : List ℕ). s ∷ l) (up-append (suc s) j k ∙ ap (λ (n : ℕ). up (suc s) j ++ up n k)
    (let e : suc s + j ≡ s + suc j = omega arith in e))

pub take-up : (s j k : ℕ) → j ≤ k → take j (up s k) ≡ up s j
take-up s j k h =
    ap (λ (n : ℕ). take j (up s n)) (let e : k ≡ j + (k - j) = omega arith in e)
    ∙ ap (take j) (up-append s j (k - j))
    ∙ take_at (up s j) (up (s + j) (k - j)) j (length_up s j)

pub drop-up : (s j k : ℕ) → j ≤ k → drop j (up s k) ≡ up (s + j) (k - j)
drop-up s j k h =
    ap (λ (n : ℕ). drop j (up s n)) (let e : k ≡ j + (k - j) = omega arith in e)
    ∙ ap (drop j) (up-append s j (k - j))
    ∙ drop_at (up s j) (up (s + j) (k - j)) j (length_up s j)

count-up-out : (x s k : ℕ) → (x < s) → count x (up s k) ≡ 0
unfolding up
count-up-out x s zero h = count_none x
count-up-out x s (suc k) h = count-other s x (up (suc s) k) (λ e. omega arith) ∙ count-up-out x (suc s) k (omega arith)

count-up-in : (x s k : ℕ) → s ≤ x → x < s + k → count x (up s k) ≡ 1
unfolding up
count-up-in x s zero h l = absurd (omega arith)
count-up-in x s (suc k) h l =
    elim (native.Mathlib.Decide.ℕ_discrete s x) [
      | yes e ↦ subst (λ (y : ℕ). count y (s ∷ up (suc s) k) ≡ 1) e
          (omega (arith, count_same s (up (suc s) k), count-up-out s (suc s) k (omega arith)))
      | no e ↦ count-other s x (up (suc s) k) e ∙ count-up-in x (suc s) k (omega arith) (omega arith)
    ]

-- places above the width that hold their own numbers change nothing of the rule
pub once-filled : (ps : List ℕ) (k : ℕ) → each_once (ps ++ up (length ps) k) ≡ each_once ps
once-filled ps k = same_test (each_once (ps ++ up (length ps) k)) (each_once ps) there back
  where
    len : length (ps ++ up (length ps) k) ≡ length ps + k
    len = length-append ps (up (length ps) k) ∙ ap (λ (n : ℕ). length ps + n) (length_up (length ps) k)

    there : T (each_once (ps ++ up (length ps) k)) → T (each_once ps)
    there t =
        once-if-all ps (λ s h. omega (
          arith,
          once (ps ++ up (length ps) k) t s (omega (arith, len)),
          count-append s ps (up (length ps) k),
          count-up-out s (length ps) k h,
        ))

    back : T (each_once ps) → T (each_once (ps ++ up (length ps) k))
    back t =
        once-if-all (ps ++ up (length ps) k) (λ s h.
        elim (dec_lt s (length ps)) [
          | yes l ↦ omega (arith, once ps t s l, count-append s ps (up (length ps) k))
          | no l ↦ omega (arith, count-append s ps (up (length ps) k), count-up-in s (length ps) k (omega arith) (omega (arith, len)))
        ])

-- ---- listed values

pub length-listed : (f : ℕ → ℕ) (s k : ℕ) → length (listed f s k) ≡ k
unfolding listed
length-listed f s zero = refl
length-listed f s (suc k) = ap suc (length-listed f (suc s) k)

module _ (f : ℕ → ℕ) where
  listed-append : (s j k : ℕ) → listed f s (j + k) ≡ listed f s j ++ listed f (s + j) k
  unfolding listed
  listed-append s zero k = ap₂ (listed f) (sym (add-zero s)) (zero-add k)
  listed-append s (suc j) k =
      ap (listed f s) (suc-add j k)
      ∙ ap (λ (l : List ℕ). f s ∷ l)
      (listed-append (suc s) j k ∙ ap (λ (n : ℕ). listed f (suc s) j ++ listed f n k) (let e : suc s + j ≡ s + suc j = omega arith in e))

  listed-rising : (s k : ℕ) → ((i : ℕ) → s ≤ i → i < s + k → f i ≡ i) → listed f s k ≡ up s k
  unfolding listed up
  listed-rising s zero h = refl
  listed-rising s (suc k) h =
      ap₂ (λ (x : ℕ) (l : List ℕ). x ∷ l) (h s (omega arith) (omega arith))
      (listed-rising (suc s) k (λ i a b. h i (omega arith) (omega arith)))

  listed-falling : (s n k : ℕ) → ((j : ℕ) → j < k → f (s + j) ≡ n + (k - 1 - j)) → listed f s k ≡ reverse (up n k)
  unfolding listed up
  listed-falling s n zero h = refl
  listed-falling s n (suc k) h =
      ap (listed f s) (let e : suc k ≡ k + 1 = omega arith in e)
      ∙ listed-append s k 1
      ∙ ap₂ (λ (l : List ℕ) (x : ℕ). l ++ x ∷ [])
      (listed-falling s (suc n) k (λ j l. h j (omega arith) ∙ (let e : n + (suc k - 1 - j) ≡ suc n + (k - 1 - j) = omega arith in e)))
      (h k (omega arith) ∙ (let e : n + (suc k - 1 - k) ≡ n = omega arith in e))
      ∙ sym (reverse-cons n (up (suc n) k))

-- ---- the sorted bank: 0 to n-1 in use, and the rest so that n goes out first

module _ (w n : ℕ) (h : n ≤ w) where
  pub sorted-slots : (sorted w n).slots ≡ up 0 n ++ reverse (up n (w - n))
  unfolding sorted
  sorted-slots =
      ap (listed (sorted_at w n) 0) (let e : w ≡ n + (w - n) = omega arith in e)
      ∙ listed-append (sorted_at w n) 0 n (w - n)
      ∙ ap₂ (λ (x y : List ℕ). x ++ y)
      (listed-rising (sorted_at w n) 0 n (λ i a b. rw (lt-ltb i n (omega arith))))
      (ap (λ (s : ℕ). listed (sorted_at w n) s (w - n)) (zero-add n)
      ∙ listed-falling (sorted_at w n) n n (w - n) (λ j l. rw (le-ltb (n + j) n (omega arith)) (omega arith)))

  pub sorted-size : (sorted w n).size ≡ n
  unfolding sorted
  sorted-size = refl

  pub sorted-width : length (sorted w n).slots ≡ w
  unfolding sorted
  sorted-width = length-listed (sorted_at w n) 0 w

  count-reverse : (x : ℕ) (l : List ℕ) → count x (reverse l) ≡ count x l
  count-reverse x [] = refl
  count-reverse x (y ∷ l) =
      ap (count x) (reverse-cons y l)
      ∙ count-append x (reverse l) (y ∷ [])
      ∙ (let e : count x (reverse l) + count x (y ∷ []) ≡ count x (y ∷ l) = omega
      (arith, count-reverse x l, count-append x (y ∷ []) l) in e)

  pub sorted-once : T (each_once (sorted w n).slots)
  sorted-once =
      once-if-all (sorted w n).slots (λ x l.
      let counts : count x (sorted w n).slots ≡ count x (up 0 n) + count x (reverse (up n (w - n)))
      = ap (count x) sorted-slots ∙ count-append x (up 0 n) (reverse (up n (w - n))) in
      let whole : count x (up 0 w) ≡ count x (up 0 n) + count x (up n (w - n))
      = ap (λ (k : ℕ). count x (up 0 k)) (let e : w ≡ n + (w - n) = omega arith in e)
      ∙ ap (count x) (up-append 0 n (w - n) ∙ ap (λ (s : ℕ). up 0 n ++ up s (w - n)) (zero-add n))
      ∙ count-append x (up 0 n) (up n (w - n)) in
      omega (arith, count-reverse x (up n (w - n)), count-up-in x 0 w (omega arith) (omega (arith, sorted-width))))

  pub sorted-valid : valid (sorted w n) ≡ true
  unfolding valid
  sorted-valid = rw (sorted-width, sorted-size, le-leb n w h) (is_true (each_once (sorted w n).slots) sorted-once)
