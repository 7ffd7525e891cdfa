-- Hex digits and the fields that they spell. Assumes nothing.
use Prim.Native.Nat.{ℕ, zero, suc, ◌+◌, ◌-◌, ◌*◌, ◌^◌, ◌≤◌, ◌<◌}
use native.Mathlib.Omega.{arith}
use native.Mathlib.Numerals.{add-one}
use native.Mathlib.Nat.{pow-suc, pow-le-pow_right}
use mathlib.Core.Path.{◌≡◌, refl}
use mathlib.Core.Bool.{Bool, true, false, cond}
use mathlib.Core.List.{List}
use lib.ListN.{length, get_or, get_or-eq_default}
use lib.Dec.{ltb, leb}
use borrow.Author.Tests.{lt-ltb, le-ltb, le-leb, lt-leb, leb-true}
use Rattle.hex_digits.specs.Digits.{digit_of, hex_at}

module _ {byte : ℕ} where
  pub before-0 : byte < 48 → 0 ≡ digit_of byte
  unfolding digit_of
  before-0 h = rw (lt-ltb byte 48 h) refl

  pub to-9 : 48 ≤ byte → byte < 58 → byte - 48 ≡ digit_of byte
  unfolding digit_of
  to-9 h k = rw (le-ltb byte 48 h, le-leb byte 57 (omega arith)) refl

  pub before-a : 48 ≤ byte → 57 < byte → byte < 97 → 0 ≡ digit_of byte
  unfolding digit_of
  before-a h k l = rw (le-ltb byte 48 h, lt-leb byte 57 k, lt-ltb byte 97 l) refl

  pub to-f : 48 ≤ byte → 57 < byte → 97 ≤ byte → byte < 103 → byte - 97 + 10 ≡ digit_of byte
  unfolding digit_of
  to-f h k l m = rw (le-ltb byte 48 h, lt-leb byte 57 k, le-ltb byte 97 l, le-leb byte 102 (omega arith)) refl

  pub past-f : 48 ≤ byte → 57 < byte → 97 ≤ byte → 102 < byte → 0 ≡ digit_of byte
  unfolding digit_of
  past-f h k l m = rw (le-ltb byte 48 h, lt-leb byte 57 k, le-ltb byte 97 l, lt-leb byte 102 m) refl

-- what is behind the end counts as 0
past_end : (text : List ℕ) (i : ℕ) → length text ≤ i → 0 ≡ digit_of (get_or text i 0)
unfolding digit_of
past_end text i h = rw (get_or-eq_default text 0 {n = i} h) refl

module _ (text : List ℕ) (from k : ℕ) where
  pub starts-past : length text ≤ from → 0 ≡ digit_of (get_or text (from + k) 0)
  starts-past h = past_end text (from + k) (omega arith)

  pub goes-past : length text - from ≤ k → 0 ≡ digit_of (get_or text (from + k) 0)
  goes-past h = past_end text (from + k) (omega arith)

-- what both ways of a test keep below n
both_below : (test : Bool) {x y n : ℕ} → (test ≡ true → x < n) → (test ≡ false → y < n) → cond test x y < n
both_below true f g = f refl
both_below false f g = g refl

-- a digit is below 16
pub digit-below : (byte : ℕ) → digit_of byte < 16
unfolding digit_of
digit-below byte =
    both_below (ltb byte 48) (λ _. omega arith)
    (λ _. both_below (leb byte 57) (λ h. omega (arith, leb-true byte 57 h))
    (λ _. both_below (ltb byte 97) (λ _. omega arith)
    (λ _. both_below (leb byte 102) (λ h. omega (arith, leb-true byte 102 h)) (λ _. omega arith))))

module _ (text : List ℕ) (from : ℕ) where
  -- k digits spell a number below 16 ^ k
  hex-below : (k : ℕ) → hex_at text from k < 16 ^ k
  unfolding hex_at
  hex-below zero = omega arith
  hex-below (suc k) =
      let h = hex-below k in
      let d = digit-below (get_or text (from + k) 0) in
      rw (pow-suc 16 k) (omega arith)

  module _ (k : ℕ) {value : ℕ} (e : value ≡ hex_at text from k) where
    -- so that there is room for one more after fewer than sixteen
    room : k < 16 → value * 16 + 15 < 2 ^ 64
    room h =
        let p : 16 ^ suc k ≤ 16 ^ 16 = pow-le-pow_right (omega arith) h in
        let q = hex-below k in
        let s = pow-suc 16 k in
        let t : 16 ^ 16 ≡ 2 ^ 64 = refl in
        omega arith

    pub times-room : {digits : ℕ} → digits ≤ 16 → k < digits → value * 16 < 2 ^ 64
    times-room h l = omega (arith, room (omega arith))

    module _ {d : ℕ} (f : d ≡ digit_of (get_or text (from + k) 0)) where
      pub one-more-room : {digits : ℕ} → digits ≤ 16 → k < digits → value * 16 + d < 2 ^ 64
      one-more-room h l = omega (arith, room (omega arith), digit-below (get_or text (from + k) 0))

      -- one digit more
      pub one_more : value * 16 + d ≡ hex_at text from (k + 1)
      unfolding hex_at
      one_more = rw (add-one, e, f) refl

    pub all_read : {digits : ℕ} → k ≤ digits → digits ≤ k → value ≡ hex_at text from digits
    all_read {digits} h l = let q : digits ≡ k = omega arith in rw q e

    pub all-below : {digits : ℕ} → k ≤ digits → digits ≤ k → value < 16 ^ digits
    all-below {digits} h l = let q : digits ≡ k = omega arith in rw (q, e) (hex-below k)
