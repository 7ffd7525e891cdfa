-- `inside::copy_bytes` meets its contract. Assumes nothing.
use mathlib.Core.Path.{◌≡◌}
use lib.ListN.{length}
use Rattle.lent_words.specs.Parts.{part, put_part}
use Rattle.lent_words.proofs.inside.copy_bytes.Given as goal

abbrev pub invariant-loop-i : goal.invariant-loop-i
invariant-loop-i l = (length l.dst ≡ length l.initial.dst) × (l.dst ≡ put_part l.initial.dst l.to (part l.src l.from l.i))
