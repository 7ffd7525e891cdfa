-- `fields::decimal_in` meets its contract: n is the value of the digits so far. Assumes nothing.
use borrow.Author.Rules.{rules}
use Rattle.text.proofs.Frames.{run-start, run-low, run-high, over-ten, over-sum, run_more, run_end}
use native.Mathlib.Omega.{arith}
use Rattle.text.proofs.fields.decimal_in.Goals as goal
use Rattle.text.proofs.fields.decimal_in.Goals.{then-b-lt48-via-then-b-lt48, then-b-lt48-via-else-b-lt48+then-b-gt57}

pub loop-b-init : goal.loop-b-init
loop-b-init c = (run-start _, omega arith)

pub returns-then-b-lt48 : goal.returns-then-b-lt48
returns-then-b-lt48 c =
    elim c.then-b-lt48.branch [
      | then-b-lt48-via-then-b-lt48 w ↦ search run-low
      | then-b-lt48-via-else-b-lt48+then-b-gt57 w ↦ search run-high
    ]

pub returns-in_err-checked_mul : goal.returns-in_err-checked_mul
returns-in_err-checked_mul c =
    over-ten _ _ _ c.loop-b.invariant.0 c.loop-b-test.true c.from_residual.ensures c.in_err-checked_mul.ensures

pub returns-in_err-n : goal.returns-in_err-n
returns-in_err-n c =
    over-sum _ _ _ c.loop-b.invariant.0 c.loop-b-test.true c.in_ok-checked_mul.ensures.1 c.from_residual-in_err-n.ensures
    c.in_err-n.ensures

pub loop-b-preserved : goal.loop-b-preserved
loop-b-preserved c = (
  run_more _ _ _ c.loop-b.invariant.0 c.loop-b-test.true c.in_ok-checked_mul.ensures.1 c.in_ok-n.ensures.1 (search rules) (search rules),
  omega (arith, c.in_ok-n.ensures.0, c.in_ok-n.ensures.1),
)

pub returns : goal.returns
returns c = search run_end
