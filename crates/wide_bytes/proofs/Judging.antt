-- A wide bank by its bytes: what the loops of the judgement keep, and what is valid. Assumes nothing.
use mathlib.Core.Path.{◌≡◌, sym, ap, ◌∙◌}
use mathlib.Core.Bool.{Bool, true, false}
use mathlib.Core.List.{List, [], ◌∷◌, ◌++◌}
use Prim.Native.Nat.{ℕ, zero, suc, ◌+◌, ◌*◌, ◌%◌, ◌^◌, ◌≤◌, ◌<◌}
use mathlib.Core.Logic.{◌⊎◌, inl, inr}
use native.Mathlib.Omega.{arith}
use native.Mathlib.Numerals.{add-one}
use lib.ListN.{length, get_or, take, drop, length-drop}
use lib.Seq.{take-suc, get_or-drop, drop-cons, drop-length, length-take-le, get_or-take}
use lib.Bits.{bit_and, bit_or}
use borrow.Author.Rules.{rules}
use borrow.Author.Tests.{lt-leb, le-leb}
use lib.Dec.{T, eqb, eqb→eq}
use Rattle.std.specs.Prelude.{◌↔◌, IsTrue, EachIndex}
use Rattle.bank.specs.Lists.{each_once}
use Rattle.bank.specs.Bank.{valid}
use Rattle.bank.proofs.Judged.{judging}
use Rattle.bank.proofs.Tests.{and_left, and_right, and_both, is_true, holds, same_test, equal}
use Rattle.wide_bytes.specs.Wide.{good_width, all_zero, valid_bytes}
use Rattle.wide_bytes.proofs.Marks.{Passed, passed-more}

-- ---- the positions, one after the other

pub slots_length : (w : ℕ) (bytes : List ℕ) → w + 1 ≤ length bytes → length (take w (drop 1 bytes)) ≡ w
slots_length w bytes h = length-take-le w (drop 1 bytes) (rw length-drop (omega arith))

pub slot-at : (w k : ℕ) (bytes : List ℕ) → k < w → get_or (take w (drop 1 bytes)) k 0 ≡ get_or bytes (k + 1) 0
slot-at w k bytes h =
    get_or-take w (drop 1 bytes) k 0 h
    ∙ get_or-drop 1 bytes k 0
    ∙ ap (λ (n : ℕ). get_or bytes n 0) (let e : 1 + k ≡ k + 1 = omega arith in e)

slots-more : (k : ℕ) (bytes : List ℕ) → k + 1 < length bytes
    → take (k + 1) (drop 1 bytes) ≡ take k (drop 1 bytes) ++ get_or bytes (k + 1) 0 ∷ []
slots-more k bytes h =
    ap (λ (n : ℕ). take n (drop 1 bytes)) (add-one k)
    ∙ take-suc (drop 1 bytes) k 0 (rw length-drop (omega arith))
    ∙ ap (λ (x : ℕ). take k (drop 1 bytes) ++ x ∷ [])
    (get_or-drop 1 bytes k 0 ∙ ap (λ (n : ℕ). get_or bytes n 0) (let e : 1 + k ≡ k + 1 = omega arith in e))

-- one position more is passed
pub passed-next : {marks over slot : ℕ} (k : ℕ) (bytes : List ℕ) → k + 1 < length bytes → slot ≡ get_or bytes (k + 1) 0
    → Passed marks over (take k (drop 1 bytes))
    → Passed (bit_or marks ((1 * 2 ^ bit_and slot 63) % 2 ^ 64)) (bit_or over slot) (take (k + 1) (drop 1 bytes))
passed-next {slot = slot} k bytes h e m = rw (slots-more k bytes h, ← e) (passed-more slot m)

-- ---- zeros

each-zero : (xs : List ℕ) → EachIndex xs (λ k. get_or xs k 0 ≡ 0) → T (all_zero xs)
each-zero [] f = tt
each-zero (x ∷ xs) f = and_both (eqb x 0) (all_zero xs) (equal (f 0 (omega arith))) (each-zero xs (λ k h. f (suc k) (omega arith)))

zero-each : (xs : List ℕ) → T (all_zero xs) → EachIndex xs (λ k. get_or xs k 0 ≡ 0)
zero-each [] t k h = absurd (omega arith)
zero-each (x ∷ xs) t zero h = eqb→eq x 0 (and_left (eqb x 0) (all_zero xs) t)
zero-each (x ∷ xs) t (suc k) h = zero-each xs (and_right (eqb x 0) (all_zero xs) t) k (omega arith)

-- a test that passes exactly where each is zero
pub zeros-tested : (b : Bool) (xs : List ℕ) → IsTrue b ↔ EachIndex xs (λ k. get_or xs k 0 ≡ 0) → b ≡ all_zero xs
zeros-tested b xs t =
    same_test b (all_zero xs) (λ h. each-zero xs (t.0 (is_true b h))) (λ h. holds (t.1 (zero-each xs h)))

-- ---- the judgement

module _ (w : ℕ) (bytes : List ℕ) (l : length bytes ≡ 25) (m : w ≤ 24) where
  pub valid-size : {b : Bool} → w < get_or bytes 0 0 → b ≡ false → b ≡ valid_bytes w bytes
  unfolding valid_bytes valid
  valid-size h e = rw (slots_length w bytes (omega arith), lt-leb (get_or bytes 0 0) w h, e)

  pub valid-not-once : {b : Bool} → get_or bytes 0 0 ≤ w → b ≡ each_once (take w (drop 1 bytes)) → b ≡ false → b ≡ valid_bytes w bytes
  unfolding valid_bytes valid
  valid-not-once h d e = rw (slots_length w bytes (omega arith), le-leb (get_or bytes 0 0) w h, ← d, e)

  pub valid-rest : {a b : Bool} → get_or bytes 0 0 ≤ w → a ≡ each_once (take w (drop 1 bytes)) → a ≡ true
      → b ≡ all_zero (drop (w + 1) bytes) → b ≡ valid_bytes w bytes
  unfolding valid_bytes valid
  valid-rest h d e z = rw (slots_length w bytes (omega arith), le-leb (get_or bytes 0 0) w h, ← d, e, z)

-- ---- the width

pub out_of_width : (w : ℕ) → (w < 16) ⊎ ((16 ≤ w) × (24 < w)) → good_width w ≡ false
out_of_width w (inl h) = rw (lt-leb 16 w h)
out_of_width w (inr (h, m)) = rw (le-leb 16 w h, lt-leb w 24 m)

pub in_width : (w : ℕ) → 16 ≤ w → w ≤ 24 → good_width w ≡ true
in_width w h m = rw (le-leb 16 w h, le-leb w 24 m)

pub ruleset judges = (rules, judging, out_of_width, in_width)
