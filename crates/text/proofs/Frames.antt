-- Laws on frame numbers: decimal digits, read from the left. Assumes nothing.
use Prim.Native.Nat.{ℕ, ◌+◌, ◌-◌, ◌*◌, ◌^◌, ◌≤◌, ◌<◌}
use mathlib.Core.Path.{◌≡◌, refl, ap, ◌∙◌}
use mathlib.Core.Bool.{Bool, true, false, ◌&&◌}
use mathlib.Core.List.{List, [], ◌∷◌}
use native.Mathlib.Numerals.{add-one}
use native.Mathlib.Omega.{arith}
use lib.ListN.{length, get_or, drop}
use lib.Seq.{drop-cons, drop-length}
use borrow.Author.Tests.{eq-eqb, ne_eqb, le-leb, lt-leb, lt-ltb, le-ltb}
use Rattle.std.specs.Prelude.{Option, Some, None}
use Rattle.text.specs.Fields.{every, is_digit, decimal_from, number_in, starts_right, is_decimal, is_frame}
use Rattle.text.specs.Command.{frame_if}
use Rattle.text.proofs.Keys.{every-no, every_more, every-end}

-- digits behind a number make it no smaller
from-grows : (n : ℕ) (ds : List ℕ) → n ≤ decimal_from n ds
unfolding decimal_from
from-grows n [] = omega arith
from-grows n (d ∷ ds) = let h = from-grows (n * 10 + (d - 48)) ds in omega arith

and-false : (a : Bool) → (a && false) ≡ false
and-false true = refl
and-false false = refl

-- the digits before i have this value, and all are digits
pub record Run (s : List ℕ) (n i : ℕ) : Type 0 where
  pub within : i ≤ length s
  pub digits : every is_digit s ≡ every is_digit (drop i s)
  pub value : number_in s ≡ decimal_from n (drop i s)

pub run-start : (s : List ℕ) → Run s 0 0
unfolding number_in
run-start s = record { within = omega arith; digits = refl; value = refl }

module _ (s : List ℕ) (n i : ℕ) (run : Run s n i) where
  no_digit : every is_digit (drop i s) ≡ false → None ≡ frame_if (is_decimal s) s
  unfolding is_decimal
  no_digit e = rw (run.digits, e)

  pub run-low : i < length s → get_or s i 0 < 48 → None ≡ frame_if (is_decimal s) s
  run-low h k = no_digit (every-no is_digit s i h (rw (lt-leb 48 (get_or s i 0) k)))

  pub run-high : i < length s → 57 < get_or s i 0 → None ≡ frame_if (is_decimal s) s
  run-high h k =
      no_digit (every-no is_digit s i h (rw (le-leb 48 (get_or s i 0) (omega arith), lt-leb (get_or s i 0) 57 k)))

  module _ (h : i < length s) where
    value-more : number_in s ≡ decimal_from (n * 10 + (get_or s i 0 - 48)) (drop (i + 1) s)
    unfolding decimal_from
    value-more = run.value ∙ rw (add-one i, drop-cons s i 0 h) refl

    over : 2 ^ 64 ≤ n * 10 + (get_or s i 0 - 48) → None ≡ frame_if (is_decimal s) s
    unfolding is_decimal
    over o =
        let g = from-grows (n * 10 + (get_or s i 0 - 48)) (drop (i + 1) s) in
        let l : 2 ^ 64 ≤ number_in s = rw value-more (omega arith) in
        rw (le-ltb (number_in s) (2 ^ 64) l, and-false)

    pub over-ten : {x : Option ℕ} → x ≡ None → (n * 10 < 2 ^ 64 → ⊥) → x ≡ frame_if (is_decimal s) s
    over-ten e o = e ∙ over (omega arith)

    module _ {tens : ℕ} (t : tens ≡ n * 10) where
      pub over-sum : {x : Option ℕ} → x ≡ None → (tens + (get_or s i 0 - 48) < 2 ^ 64 → ⊥) → x ≡ frame_if (is_decimal s) s
      over-sum e o = e ∙ over (omega arith)

      pub run_more : {m : ℕ} → m ≡ tens + (get_or s i 0 - 48) → 48 ≤ get_or s i 0 → get_or s i 0 ≤ 57 → Run s m (i + 1)
      run_more e lo hi =
          record {
            within = omega arith;
            digits = run.digits ∙ every_more is_digit s i h (rw (le-leb 48 (get_or s i 0) lo, le-leb (get_or s i 0) 57 hi));
            value = value-more ∙ ap (λ (m : ℕ). decimal_from m (drop (i + 1) s)) (omega arith);
          }

  pub run_end : length s ≤ i → n < 2 ^ 64 → Some n ≡ frame_if (is_decimal s) s
  unfolding is_decimal decimal_from
  run_end h k =
      let e : i ≡ length s = omega (arith, run.within) in
      let v : number_in s ≡ n = run.value ∙ rw (e, drop-length) refl in
      rw (run.digits, every-end is_digit s i e, v, lt-ltb n (2 ^ 64) k)

module _ (s : List ℕ) where
  pub frame-empty : length s ≡ 0 → None ≡ frame_if (is_frame s) s
  unfolding is_frame starts_right
  frame-empty e = rw e

  pub frame-zero : (length s ≡ 1 → ⊥) → get_or s 0 0 ≡ 48 → None ≡ frame_if (is_frame s) s
  unfolding is_frame starts_right
  frame-zero h e = rw (ne_eqb (length s) 1 h, eq-eqb (get_or s 0 0) 48 e, and-false)

  starts : starts_right s ≡ true → is_frame s ≡ is_decimal s
  unfolding is_frame
  starts e = rw e

  frame-one : length s ≡ 1 → is_frame s ≡ is_decimal s
  unfolding starts_right
  frame-one e = starts (rw (e))

  frame-more : (length s ≡ 0 → ⊥) → (length s ≡ 1 → ⊥) → (get_or s 0 0 ≡ 48 → ⊥) → is_frame s ≡ is_decimal s
  unfolding starts_right
  frame-more z h e =
      starts (rw (lt-ltb 0 (length s) (omega arith), ne_eqb (length s) 1 h, ne_eqb (get_or s 0 0) 48 e))

  pub frame-single : {x : Option ℕ} → length s ≡ 1 → x ≡ frame_if (is_decimal s) s → x ≡ frame_if (is_frame s) s
  frame-single e f = rw (frame-one e) f

  pub frame-several : {x : Option ℕ} → (length s ≡ 0 → ⊥) → (length s ≡ 1 → ⊥) → (get_or s 0 0 ≡ 48 → ⊥) → x ≡ frame_if (is_decimal s) s
      → x ≡ frame_if (is_frame s) s
  frame-several z h e f = rw (frame-more z h e) f
