-- `ikey::inside::compare_parts` meets its contract, by the layer law. It ends: at each call of itself the first part is eight bytes
-- shorter.
-- Assumes nothing.
use Rattle.ikey.proofs.Orders.{halves}
use Rattle.ikey.proofs.inside.+compare_parts.Goals as goal
use Rattle.ikey.proofs.inside.+compare_parts.Goals.{
  then-is_ne-via-then-is_ne,
  then-is_ne-via-else-is_ne+then-m-lt9,
  then-is_ne-via-else-is_ne+else-m-lt9+then-n-lt9,
}

pub returns-then-is_ne : goal.returns-then-is_ne
returns-then-is_ne t c = elim c.then-is_ne.branch [
  | then-is_ne-via-then-is_ne w ↦ search halves
  | then-is_ne-via-else-is_ne+then-m-lt9 w ↦ search halves
  | then-is_ne-via-else-is_ne+else-m-lt9+then-n-lt9 w ↦ search halves
]

pub returns : goal.returns
returns t c = search halves
