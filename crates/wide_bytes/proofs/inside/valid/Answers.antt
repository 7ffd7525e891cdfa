-- `inside::valid` meets its contract. Assumes nothing.
use borrow.Author.Rules.{rules}
use Rattle.wide_bytes.proofs.Judging.{valid-size, valid-not-once, valid-rest}
use Rattle.wide_bytes.proofs.inside.valid.Goals as goal
use Rattle.wide_bytes.proofs.inside.valid.Goals.{then-byte-width, else-byte-width}

pub returns-then-each_once : goal.returns-then-each_once
returns-then-each_once c =
    elim c.if-byte-width.branch [
      | then-byte-width w ↦ search (rules, valid-rest)
      | else-byte-width w ↦ search (rules, valid-size)
    ]

pub returns-else-each_once : goal.returns-else-each_once
returns-else-each_once c =
    elim c.if-byte-width.branch [
      | then-byte-width w ↦ search (rules, valid-not-once)
      | else-byte-width w ↦ search (rules, valid-size)
    ]
