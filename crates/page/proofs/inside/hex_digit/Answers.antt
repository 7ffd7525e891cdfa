-- `inside::hex_digit` meets its contract. Assumes nothing.
use Rattle.page.proofs.Pages.{digit-shown, letter-shown}
use Rattle.page.proofs.inside.hex_digit.Goals as goal

pub returns-then-n-lt10 : goal.returns-then-n-lt10
returns-then-n-lt10 c = search digit-shown

pub returns-else-n-lt10 : goal.returns-else-n-lt10
returns-else-n-lt10 c = search letter-shown
