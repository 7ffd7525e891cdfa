-- `fields::is_pairs` meets its contract. Assumes nothing.
use Rattle.std.proofs.Common.{◌≡◌, true, false, rules}
use Rattle.std.proofs.lemmas.Iterator.{cases_from_all, YieldsList-from_slice}
use borrow.Author.Tests.{tests}
use Rattle.text.specs.Fields.{is_hex}
use Rattle.text.proofs.Keys.{pairs-empty, pairs-odd, pairs-right}
use Rattle.text.proofs.fields.is_pairs.Goals as goal
use Rattle.text.proofs.fields.is_pairs.Goals.{then-field-eq0-via-then-field-eq0, then-field-eq0-via-else-field-eq0+then-field-ne0}

pub returns-then-field-eq0 : goal.returns-then-field-eq0
returns-then-field-eq0 c =
    elim c.then-field-eq0.branch [
      | then-field-eq0-via-then-field-eq0 w ↦ search pairs-empty
      | then-field-eq0-via-else-field-eq0+then-field-ne0 w ↦ search pairs-odd
    ]

pub returns : goal.returns
returns c =
    pairs-right c.args.field.now c.if-field-eq0.false c.if-field-ne0.false
    (cases_from_all _ _ _ (λ b. is_hex b ≡ true) (λ b. is_hex b ≡ false) c.all.ensures.ran (YieldsList-from_slice c.args.field.now cc)
    (λ x q k. search (rules, tests)) (λ x q k. search (rules, tests)))
