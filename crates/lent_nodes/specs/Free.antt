-- Which nodes and cells are free: those whose first word is 0.
use Rattle.std.specs.Prelude.{ℕ, zero, suc, ◌+◌, ◌*◌, Bool, true, false, List, [], ◌∷◌, get_or, eqb, Option, Some, None}
use Rattle.lent_nodes.specs.Layout.{node_start, cell_start}

-- a number in front of a list, where the test holds
abbrev pub cons_if : Bool → ℕ → List ℕ → List ℕ
cons_if true k ks = k ∷ ks
cons_if false k ks = ks

-- those of the n numbers from i on that pass the test, lowest first
unfoldable pub passing : (ℕ → Bool) → ℕ → ℕ → List ℕ
passing test i zero = []
passing test i (suc n) = cons_if (test i) i (passing test (suc i) n)

-- what stands at k's place is 0
abbrev pub is_free : (ℕ → ℕ) → List ℕ → ℕ → Bool
is_free place xs k = eqb (get_or xs (place k) 0) 0

-- the free ones of n, lowest first
abbrev pub frees : (ℕ → ℕ) → List ℕ → ℕ → List ℕ
frees place xs n = passing (is_free place xs) 0 n

-- the free ones of n nodes: those whose kind is 0
abbrev pub free_nodes : List ℕ → ℕ → List ℕ
free_nodes nodes n = frees node_start nodes n

-- the free ones of n cells: those whose mark is 0
abbrev pub free_cells : List ℕ → ℕ → List ℕ
free_cells cells n = frees cell_start cells n

-- places at a distance of `step`
abbrev pub every : ℕ → ℕ → ℕ → ℕ
every start step k = start + k * step

-- the first of a list of numbers
abbrev pub lowest : List ℕ → Option ℕ
lowest [] = None
lowest (k ∷ ks) = Some k
