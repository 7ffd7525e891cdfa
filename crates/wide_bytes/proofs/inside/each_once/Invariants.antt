-- `inside::each_once` meets its contract. The loop's invariant: so many positions are passed. Assumes nothing.
use lib.ListN.{take, drop}
use Rattle.wide_bytes.proofs.Marks.{Passed}
use Rattle.wide_bytes.proofs.inside.each_once.Given as goal

abbrev pub invariant-loop-k : goal.invariant-loop-k
invariant-loop-k l = Passed l.marks l.over (take l.k (drop 1 l.bank))
