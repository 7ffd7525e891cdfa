-- `inside::read_three` meets its contract. Assumes nothing.
use borrow.Author.Rules.{rules}
use Rattle.text.proofs.Wishes.{key_right, not-put, no_key, is-put}
use Rattle.text.proofs.inside.read_three.Goals as goal
use Rattle.text.proofs.inside.read_three.Goals.{then-not-same-via-then-not-same, then-not-same-via-else-not-same+then-not-is_key}

pub returns-then-not-same : goal.returns-then-not-same
returns-then-not-same c =
    elim c.then-not-same.branch [
      | then-not-same-via-then-not-same w ↦ search not-put
      | then-not-same-via-else-not-same+then-not-is_key w ↦ search no_key
    ]

pub read_put-requires : goal.read_put-requires
read_put-requires c = (search key_right, search rules, search rules)

pub returns : goal.returns
returns c = search is-put
