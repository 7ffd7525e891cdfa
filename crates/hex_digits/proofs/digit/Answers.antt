-- `digit` meets its contract: a law for each range of bytes.
use Rattle.hex_digits.proofs.Digits.{before-0, to-9, before-a, to-f, past-f}
use Rattle.hex_digits.proofs.digit.Goals as goal

pub returns-in-48-to-57 : goal.returns-in-48-to-57
returns-in-48-to-57 c = search to-9

pub returns-in-97-to-102 : goal.returns-in-97-to-102
returns-in-97-to-102 c = search to-f

pub returns-in_default : goal.returns-in_default
returns-in_default c = search before-0

pub returns-in_default-2 : goal.returns-in_default-2
returns-in_default-2 c = search before-a

pub returns-in_default-3 : goal.returns-in_default-3
returns-in_default-3 c = search past-f
