-- `inside::each_once` meets its contract. The loop's invariant: so many positions are passed. Assumes nothing.
use mathlib.Core.Path.{◌≡◌, refl, subst}
use Prim.Native.Nat.{ℕ, ◌+◌, ◌-◌, ◌^◌}
use native.Mathlib.Omega.{arith}
use borrow.Author.Rules.{rules}
use lib.ListN.{length, get_or, take, drop}
use lib.Bits.{mask_lt}
use lib.Pow.{pow_pos}
use Rattle.wide_bytes.proofs.Marks.{Passed, passed_none, passed_over, passed-all, shifted_one}
use Rattle.wide_bytes.proofs.Judging.{passed-next, slots_length}
use Rattle.wide_bytes.proofs.inside.each_once.Goals as goal

pub loop-k-init : goal.loop-k-init
loop-k-init c = passed_none

pub overflow_shl-marks : goal.overflow_shl-marks
overflow_shl-marks c = mask_lt (get_or c.args.bank (c.loop-k.k + 1) 0) 6

pub loop-k-preserved : goal.loop-k-preserved
loop-k-preserved c =
    let a = c.args in
    let n : length a.bank ≡ 25 = search rules in
    passed-next c.loop-k.k a.bank (omega arith) refl c.loop-k.invariant

pub returns-then-over-gt63 : goal.returns-then-over-gt63
returns-then-over-gt63 c =
    let a = c.args in
    let n : length a.bank ≡ 25 = search rules in
    let done : c.loop-k.k ≡ a.width = omega arith in
    passed_over a.width (take a.width (drop 1 a.bank)) (slots_length a.width a.bank (omega arith)) (omega arith)
    (subst (λ (k : ℕ). Passed c.loop-k.marks c.loop-k.over (take k (drop 1 a.bank))) done c.loop-k.invariant) (omega arith)

pub overflow_sub-result : goal.overflow_sub-result
overflow_sub-result c = rw (shifted_one c.args.width (omega arith)) (pow_pos _)

pub returns : goal.returns
returns c =
    let a = c.args in
    let n : length a.bank ≡ 25 = search rules in
    let done : c.loop-k.k ≡ a.width = omega arith in
    rw (shifted_one a.width (omega arith))
    (passed-all a.width (take a.width (drop 1 a.bank)) (slots_length a.width a.bank (omega arith)) (omega arith)
    (subst (λ (k : ℕ). Passed c.loop-k.marks c.loop-k.over (take k (drop 1 a.bank))) done c.loop-k.invariant)
    (2 ^ a.width - 1) (omega arith) (omega (arith, pow_pos a.width)))
