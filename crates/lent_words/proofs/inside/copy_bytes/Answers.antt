-- `inside::copy_bytes` meets its contract. Assumes nothing.
use mathlib.Core.Path.{◌≡◌, refl}
use native.Mathlib.Omega.{arith}
use borrow.Author.Rules.{rules}
use Rattle.lent_words.proofs.Words.{copy-none, copy_more}
use Rattle.lent_words.proofs.inside.copy_bytes.Goals as goal

pub loop-i-init : goal.loop-i-init
loop-i-init c = (refl, copy-none _ _ _ _)

pub loop-i-preserved : goal.loop-i-preserved
loop-i-preserved c =
    let k = c.loop-i.invariant in
    (search rules, rw k.1 (copy_more _ _ _ _ _ (search rules) (search rules)))

pub returns : goal.returns
returns c = let e : c.loop-i.i ≡ c.args.n = omega arith in rw (← e) c.loop-i.invariant.1
