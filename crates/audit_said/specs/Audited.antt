-- What the audit answers, by document 01's numbers.
use Rattle.std.specs.Prelude.{[], ◌∷◌}
use Rattle.refusal.specs.Answer.{Answer, answered, ◌unless◌}
use Rattle.arena.specs.Memory.{Memory}
use Rattle.forest.specs.Walk.{is_tree}

-- refusal 10 unless memory is a tree by the rules
unfoldable pub audited : Memory → Answer
audited m = answered ((10 unless is_tree m) ∷ []) [] []
