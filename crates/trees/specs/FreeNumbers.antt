-- The numbers of the free nodes, lowest first: new nodes take the lowest.
use Rattle.std.specs.Prelude.{List, [], ◌∷◌, ℕ, suc, get_or}
use Rattle.order.specs.Lists.{total}
use Rattle.trees.specs.Nodes.{free, leaf, internode, NodeList, one_at}

-- the free numbers from i on, lowest first
abbrev pub free_numbers : {W : Type 0} → ℕ → NodeList W → List ℕ
free_numbers i [] = []
free_numbers i (free ∷ m) = i ∷ free_numbers (suc i) m
free_numbers i (leaf es ∷ m) = free_numbers (suc i) m
free_numbers i (internode ks cs ∷ m) = free_numbers (suc i) m

-- how often j is among the numbers
abbrev pub times_in : List ℕ → ℕ → ℕ
times_in fs j = total (λ n. one_at n j) fs

-- the lowest free number
abbrev pub lowest_free : {W : Type 0} → NodeList W → ℕ
lowest_free m = get_or (free_numbers 0 m) 0 0
