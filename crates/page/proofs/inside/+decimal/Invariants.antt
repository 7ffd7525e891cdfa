-- `inside::decimal` meets its contract: the digits before the last are those of the tenth part. Assumes nothing.
use Rattle.page.proofs.inside.+decimal.Given as goal

abbrev pub decreases-decimal : goal.decreases-decimal
decreases-decimal l = l.n
