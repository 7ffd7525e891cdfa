-- What the way to a key keeps within, whatever stands in memory.
use Rattle.std.specs.Prelude.{ℕ, ◌≤◌, ◌<◌}
use Rattle.model.specs.declared.Met.{Met}
use Rattle.model.specs.declared.Met.TheVariants.{Stored, Conflict, Missing}

-- its leaf is one of n nodes, its position one of fifteen, a stored key's cell one of c, and no more links than a key has
abbrev pub Within : ℕ → ℕ → Met → Type 0
Within n c (Stored leaf position cell) = (leaf < n) × (position < 15) × (cell < c)
Within n c (Conflict leaf position cell links) = (leaf < n) × (position < 15) × (links ≤ 31)
Within n c (Missing holder root links) = links ≤ 32
