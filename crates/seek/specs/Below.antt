-- The cells of an entry, and those of the layers below a link.
use Rattle.std.specs.Prelude.{ℕ, zero, suc, List, []}
use Rattle.leaf_entries.specs.declared.Entry.{Entry}
use Rattle.forest.specs.Trees.{seen_as}
use Rattle.model.specs.Listed.{cells_of, cells_of_layer}

-- their cells in key order, by the number of the root below, where l links more may follow one another: none after the last
unfoldable pub layers_below : ℕ → List ℕ → ℕ → List ℕ
layers_below zero nodes = λ root. []
layers_below (suc l) nodes = cells_of_layer l nodes

-- an entry's cell, or all of the layer below
unfoldable pub cells_at : (ℕ → List ℕ) → Entry → List ℕ
cells_at below e = cells_of below (seen_as e).1
