-- `fields::is_hex` meets its contract. Assumes nothing.
use Rattle.text.proofs.Keys.{hex-low, hex-digit, hex-middle, hex-letter, hex-high}
use Rattle.text.proofs.fields.is_hex.Goals as goal

pub returns-in-48-to-57 : goal.returns-in-48-to-57
returns-in-48-to-57 c = search hex-digit

pub returns-in-48-to-57-2 : goal.returns-in-48-to-57-2
returns-in-48-to-57-2 c = search hex-letter

pub returns-in_default : goal.returns-in_default
returns-in_default c = search hex-low

pub returns-in_default-2 : goal.returns-in_default-2
returns-in_default-2 c = search hex-middle

pub returns-in_default-3 : goal.returns-in_default-3
returns-in_default-3 c = search hex-high
