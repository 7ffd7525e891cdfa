-- `text::first` meets its contract. Assumes nothing.
use Rattle.std.proofs.Common.{◌≡◌, rules}
use Rattle.std.proofs.lemmas.Iterator.{IsFirst-from_position, YieldsList-from_slice}
use borrow.Author.Tests.{tests}
use Rattle.text.proofs.Splits.{first_is}
use Rattle.text.proofs.first.Goals as goal

pub returns : goal.returns
returns c =
    first_is c.args.separator c.args.s.now c.position.result
    (IsFirst-from_position _ _ _ (λ b. b ≡ c.args.separator) (λ b. b ≡ c.args.separator → ⊥) c.position.ensures.ran
    (YieldsList-from_slice c.args.s.now cc) (λ x q k. search (rules, tests)) (λ x q k. search (rules, tests)))
    c.unwrap_or.ensures
