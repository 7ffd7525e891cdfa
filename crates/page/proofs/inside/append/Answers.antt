-- `inside::append` meets its contract. Assumes nothing.
use Rattle.page.proofs.Pages.{typed-all}
use Rattle.page.proofs.inside.append.Goals as goal

pub returns : goal.returns
returns c = search typed-all
