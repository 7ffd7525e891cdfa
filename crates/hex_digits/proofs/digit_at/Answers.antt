-- `digit_at` meets its contract: what is behind the end counts as 0.
use Rattle.hex_digits.proofs.Digits.{starts-past, goes-past}
use Rattle.hex_digits.proofs.digit_at.Goals as goal
use Rattle.hex_digits.proofs.digit_at.Goals.{else-from-text-via-then-from-text+else-k-text, else-from-text-via-else-from-text}

pub returns-else-from-text : goal.returns-else-from-text
returns-else-from-text c =
    elim c.else-from-text.branch [
      | else-from-text-via-then-from-text+else-k-text w ↦ search goes-past
      | else-from-text-via-else-from-text w ↦ search starts-past
    ]
