-- `inside::append_byte` meets its contract. Assumes nothing.
use Rattle.page.proofs.Pages.{typed_byte}
use Rattle.page.proofs.inside.append_byte.Goals as goal

pub returns : goal.returns
returns c = search typed_byte
