-- `inside::key` meets its contract. Assumes nothing.
use Rattle.page.proofs.Pages.{dash-room, shown-room, key-empty, key-hex}
use Rattle.page.proofs.inside.key.Goals as goal

pub append_byte-requires : goal.append_byte-requires
append_byte-requires c = search dash-room

pub returns-then-key-eq0 : goal.returns-then-key-eq0
returns-then-key-eq0 c = search key-empty

pub hex-requires : goal.hex-requires
hex-requires c = search shown-room

pub returns : goal.returns
returns c = search key-hex
