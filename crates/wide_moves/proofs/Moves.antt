-- What the moves make, and what their loops keep. Assumes nothing.
use mathlib.Core.Path.{◌≡◌, sym, ap, ap₂, ◌∙◌}
use mathlib.Core.List.{List, [], ◌∷◌, ◌++◌, append_assoc}
use Prim.Native.Nat.{ℕ, zero, suc, ◌+◌, ◌-◌, ◌≤◌, ◌<◌}
use native.Mathlib.Omega.{arith}
use native.Mathlib.Numerals.{add-one}
use native.Mathlib.Nat.{suc-sub-suc}
use lib.ListN.{length, get_or, take, drop, set, replicate, length-drop}
use lib.Seq.{drop-drop, length-take-le, get_or-take, take_all, paste, paste-zero, paste-suc, take-paste, drop-paste}
use Rattle.bank.specs.Lists.{turned, part, listed}
use Rattle.bank.specs.Bank.{place_in_use, sorted_at, sorted}
use Rattle.bank.proofs.Counts.{place_at, place_none}
use Rattle.bank.proofs.Sorted.{sorted-size, sorted-width, length-listed}
use Rattle.wide_bytes.specs.Wide.{bank_of, bytes_of}
use Rattle.wide_bytes.proofs.Judging.{slots_length, slot-at}

-- ---- copies, and two of them that turn positions

-- two copies turn the positions
pub turned-pasted : (a b c : ℕ) (ps : List ℕ) → a ≤ b → b ≤ c → c ≤ length ps
    → paste (paste ps a (drop b ps) (c - b)) (a + (c - b)) (drop a ps) (b - a) ≡ turned a b c ps
unfolding turned
turned-pasted a b c ps h k l =
    ap₂ (λ (x y : List ℕ). (x ++ part a b ps) ++ y)
    (take-paste ps a (drop b ps) (c - b) (omega arith) (rw length-drop (omega arith))) top
    ∙ append_assoc (take a ps ++ part b c ps) (part a b ps) (drop c ps)
    ∙ append_assoc (take a ps) (part b c ps) (part a b ps ++ drop c ps)
  where
    top : drop (a + (c - b) + (b - a)) (paste ps a (drop b ps) (c - b)) ≡ drop c ps
    top =
        sym (drop-drop (b - a) (a + (c - b)) (paste ps a (drop b ps) (c - b)))
        ∙ ap (drop (b - a)) (drop-paste ps a (drop b ps) (c - b) (omega arith) (rw length-drop (omega arith)))
        ∙ drop-drop (b - a) (a + (c - b)) ps
        ∙ ap (λ (n : ℕ). drop n ps) (let e : a + (c - b) + (b - a) ≡ c = omega arith in e)

-- positions are one byte further on
turned-suc : (a b c x : ℕ) (xs : List ℕ) → turned (a + 1) (b + 1) (c + 1) (x ∷ xs) ≡ x ∷ turned a b c xs
unfolding turned
turned-suc a b c x xs = rw (add-one a, add-one b, add-one c, suc-sub-suc c b, suc-sub-suc b a)

module _ (a b c size : ℕ) (h : a ≤ b) (k : b ≤ c) (m : c ≤ 24) where
  pub moved_here : (bytes : List ℕ) {second both : List ℕ} → length bytes ≡ 25
      → second ≡ paste bytes (a + 1) (drop (b + 1) bytes) (c - b) → both ≡ paste second (a + 1 + (c - b)) (drop (a + 1) bytes) (b - a)
      → set both 0 size ≡ size ∷ turned a b c (drop 1 bytes)
  moved_here [] l d e = absurd (omega arith)
  moved_here (x ∷ xs) {second} {both} l d e =
      ap (λ (y : List ℕ). set y 0 size) (e ∙ same ∙ turned-suc a b c x xs)
    where
      same : paste second (a + 1 + (c - b)) (drop (a + 1) (x ∷ xs)) (b - a) ≡ turned (a + 1) (b + 1) (c + 1) (x ∷ xs)
      same =
          let first : c - b ≡ c + 1 - (b + 1) = omega arith in
          let second-part : b - a ≡ b + 1 - (a + 1) = omega arith in
          ap₂ (λ (n : ℕ) (y : List ℕ). paste y (a + 1 + n) (drop (a + 1) (x ∷ xs)) (b - a)) first
          (d ∙ ap (paste (x ∷ xs) (a + 1) (drop (b + 1) (x ∷ xs))) first)
          ∙ ap
          (paste (paste (x ∷ xs) (a + 1) (drop (b + 1) (x ∷ xs)) (c + 1 - (b + 1))) (a + 1 + (c + 1 - (b + 1))) (drop (a + 1) (x ∷ xs)))
          second-part
          ∙ turned-pasted (a + 1) (b + 1) (c + 1) (x ∷ xs) (omega arith) (omega arith) (omega arith)

-- ---- the position in use that holds a slot, or the size: i positions are passed

module _ (w slot : ℕ) (bytes : List ℕ) (l : length bytes ≡ 25) (h : get_or bytes 0 0 ≤ w) (m : w ≤ 24) where
  in_use : List ℕ
  in_use = take (get_or bytes 0 0) (take w (drop 1 bytes))

  in-use-at : (k : ℕ) → k < get_or bytes 0 0 → get_or in_use k 0 ≡ get_or bytes (k + 1) 0
  unfolding in_use
  in-use-at k n = get_or-take (get_or bytes 0 0) (take w (drop 1 bytes)) k 0 n ∙ slot-at w k bytes (omega arith)

  in-use-length : length in_use ≡ get_or bytes 0 0
  unfolding in_use
  in-use-length = length-take-le (get_or bytes 0 0) (take w (drop 1 bytes)) (omega (arith, slots_length w bytes (omega arith)))

  pub place_here : (i : ℕ) → i < get_or bytes 0 0 → ((k : ℕ) → k < i → get_or bytes (k + 1) 0 ≡ slot → ⊥) → get_or bytes (i + 1) 0 ≡ slot
      → i ≡ place_in_use slot (bank_of w bytes)
  unfolding in_use
  place_here i n f e =
      place_at slot in_use i (omega (arith, in-use-length)) (λ k o q. f k o (sym (in-use-at k (omega arith)) ∙ q)) (in-use-at i n ∙ e)

  pub place-nowhere : ((k : ℕ) → k < get_or bytes 0 0 → get_or bytes (k + 1) 0 ≡ slot → ⊥) → get_or bytes 0 0 ≡ place_in_use slot (bank_of w bytes)
  unfolding in_use
  place-nowhere f =
      sym in-use-length
      ∙ place_none slot in_use (λ k o q. let n : k < get_or bytes 0 0 = omega (arith, in-use-length) in f k n (sym (in-use-at k n) ∙ q))

-- ---- the sorted bank, slot by slot

get_d-listed : (f : ℕ → ℕ) (s k i : ℕ) → i < k → get_or (listed f s k) i 0 ≡ f (s + i)
unfolding listed
get_d-listed f s zero i h = absurd (omega arith)
get_d-listed f s (suc k) zero h = ap f (let e : s ≡ s + 0 = omega arith in e)
get_d-listed f s (suc k) (suc i) h = get_d-listed f (suc s) k i (omega arith) ∙ ap f (let e : suc s + i ≡ s + suc i = omega arith in e)

drop-replicate : (k n : ℕ) → drop {A = ℕ} k (replicate n 0) ≡ replicate (n - k) 0
drop-replicate zero n = ap (λ (j : ℕ). replicate j 0) (let e : n ≡ n - 0 = omega arith in e)
drop-replicate (suc k) zero = ap (λ (j : ℕ). replicate j 0) (let e : 0 ≡ 0 - suc k = omega arith in e)
drop-replicate (suc k) (suc n) = drop-replicate k n ∙ ap (λ (j : ℕ). replicate j 0) (sym (suc-sub-suc n k))

-- so many slots of it stand in place
unfoldable pub begun : ℕ → ℕ → ℕ → List ℕ
begun w n k = paste (replicate 25 0) 1 (sorted w n).slots k

pub begun-none : (w n : ℕ) → replicate 25 0 ≡ begun w n 0
unfolding begun
begun-none w n = paste-zero (replicate 25 0) 1 (sorted w n).slots

module _ (w n : ℕ) (h : n ≤ w) (m : w ≤ 24) where
  pub begun_more : {slot : ℕ} (k : ℕ) → k < w → slot ≡ sorted_at w n k → set (begun w n k) (1 + k) slot ≡ begun w n (k + 1)
  unfolding begun sorted
  begun_more {slot} k l e =
      ap (set (begun w n k) (1 + k))
      (e ∙ ap (sorted_at w n) (let z : k ≡ 0 + k = omega arith in z) ∙ sym (get_d-listed (sorted_at w n) 0 w k l))
      ∙ paste-suc (replicate 25 0) 1 (listed (sorted_at w n) 0 w) k 0 (omega arith) (omega (arith, length-listed (sorted_at w n) 0 w))
      ∙ ap (paste (replicate 25 0) 1 (listed (sorted_at w n) 0 w)) (sym (add-one k))

  pub begun_all : set (begun w n w) 0 n ≡ bytes_of (sorted w n)
  unfolding begun
  begun_all =
      ap₂ (λ (x y : List ℕ). n ∷ (x ++ y)) (take_all w (sorted w n).slots (omega (arith, sorted-width w n h)))
      (drop-replicate (1 + w) 25 ∙ ap (λ (j : ℕ). replicate j 0) (let e : 25 - (1 + w) ≡ 24 - w = omega arith in e))
      ∙ sym (rw (sorted-size w n h, sorted-width w n h))
