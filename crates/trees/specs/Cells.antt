-- Key cells as a list: cell c is the c-th, with its key and its frame, or free.
use Rattle.std.specs.Prelude.{List, [], ◌∷◌, ℕ, suc, get_or}
use Rattle.std.proofs.Math.Option.{Option, none, some}

-- cells: a key and its frame, or free
abbrev pub CellList : Type 0
CellList = List (Option (List ℕ × ℕ))

-- what is there, or z
abbrev pub or_else : {A : Type 0} → A → Option A → A
or_else z none = z
or_else z (some x) = x

-- the key and the frame of cell c
abbrev pub cell_at : CellList → ℕ → List ℕ × ℕ
cell_at cs c = or_else ([], 0) (get_or cs c none)

-- the numbers of the free cells from i on, lowest first
abbrev pub free_cell_numbers : ℕ → CellList → List ℕ
free_cell_numbers i [] = []
free_cell_numbers i (none ∷ cs) = i ∷ free_cell_numbers (suc i) cs
free_cell_numbers i (some x ∷ cs) = free_cell_numbers (suc i) cs
