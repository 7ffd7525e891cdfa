-- `inside::zero_from` meets its contract: the test goes over the bytes from one on, which are as many as there are. Assumes nothing.
use mathlib.Core.Path.{◌≡◌, ap, ◌∙◌}
use Prim.Native.Nat.{ℕ, ◌-◌}
use mathlib.Core.List.{List}
use native.Mathlib.Omega.{arith}
use borrow.Author.Rules.{rules}
use lib.ListN.{length, take, drop, length-drop}
use lib.Seq.{take_all}
use Rattle.wide_bytes.specs.Wide.{all_zero}
use Rattle.wide_bytes.proofs.Judging.{zeros-tested}
use Rattle.wide_bytes.proofs.inside.zero_from.Goals as goal

pub returns : goal.returns
returns c =
    let n : length c.args.bank ≡ 25 = search rules in
    let rest : List ℕ = drop c.args.from c.args.bank in
    zeros-tested c.all.result (take (25 - c.args.from) rest) (search rules)
    ∙ ap all_zero (take_all (25 - c.args.from) rest (simp length-drop (omega arith)))
