-- `measure` meets its contract. Assumes nothing.
use Rattle.arena.proofs.Measures.{measuring}
use Rattle.arena.proofs.measure.Goals as goal
use Rattle.arena.proofs.measure.Goals.{
  then-n-gt-MOST_LENT-via-then-n-gt-MOST_LENT,
  then-n-gt-MOST_LENT-via-else-n-gt-MOST_LENT+then-nodes-n,
  then-c-lt1-via-then-c-lt1,
  then-c-lt1-via-else-c-lt1+then-c-gt-MOST_LENT,
  then-c-lt1-via-else-c-lt1+else-c-gt-MOST_LENT+then-cells-c,
  then-c-lt1-via-else-c-lt1+else-c-gt-MOST_LENT+else-cells-c+then-bytes-c,
}

pub returns-then-nodes-lt49 : goal.returns-then-nodes-lt49
returns-then-nodes-lt49 c = search measuring

pub returns-then-n-gt-MOST_LENT : goal.returns-then-n-gt-MOST_LENT
returns-then-n-gt-MOST_LENT c =
    elim c.then-n-gt-MOST_LENT.branch [
      | then-n-gt-MOST_LENT-via-then-n-gt-MOST_LENT w ↦ search measuring
      | then-n-gt-MOST_LENT-via-else-n-gt-MOST_LENT+then-nodes-n w ↦ search measuring
    ]

pub returns-then-c-lt1 : goal.returns-then-c-lt1
returns-then-c-lt1 c =
    elim c.then-c-lt1.branch [
      | then-c-lt1-via-then-c-lt1 w ↦ search measuring
      | then-c-lt1-via-else-c-lt1+then-c-gt-MOST_LENT w ↦ search measuring
      | then-c-lt1-via-else-c-lt1+else-c-gt-MOST_LENT+then-cells-c w ↦ search measuring
      | then-c-lt1-via-else-c-lt1+else-c-gt-MOST_LENT+else-cells-c+then-bytes-c w ↦ search measuring
    ]

pub returns : goal.returns
returns c = search measuring
