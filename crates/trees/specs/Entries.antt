-- The entries of the layers, with the trees left out: an entry has a cell, or the entries of the layer below. `cell` gives the key and
-- the frame of each cell; ks is the path of a layer, l how many links more may follow below it.
use Rattle.std.specs.Prelude.{List, [], ◌∷◌, ◌++◌, ◌≢◌, ◌⊎◌, ◌≡◌, ℕ, ◌≤◌, zero, suc, ◌*◌, length}
use Rattle.std.proofs.Common.{inl, inr}
use Rattle.std.proofs.Math.Option.{Option, none, some}
use Rattle.order.specs.Lists.{total, flattened}
use Rattle.order.specs.Map.{All, Sorted}
use Rattle.trees.specs.Nodes.{IkeyClass, layer_order, one_at}
use Rattle.trees.specs.Paths.{rest_below, BelowLinks, layer_key}

-- what an entry has: a cell, or the entries of the layer below, if a link may follow
abbrev pub EntryValue : ℕ → Type 0
EntryValue zero = ℕ
EntryValue (suc l) = ℕ ⊎ List (IkeyClass × EntryValue l)

-- a cell
abbrev pub cell_value : (l : ℕ) → ℕ → EntryValue l
cell_value zero c = c
cell_value (suc l) c = inl c

-- f of what is there, or b
abbrev pub from_option : {A B : Type 0} → B → (A → B) → Option A → B
from_option b f none = b
from_option b f (some x) = f x

module _ (cell : ℕ → List ℕ × ℕ) where
  -- the key in cell c
  abbrev pub cell_key : ℕ → List ℕ
  cell_key c = (cell c).0

  -- the keys and frames that lie below an entry, in order
  abbrev pub value_listing : (l : ℕ) → EntryValue l → List (List ℕ × ℕ)
  value_listing zero c = cell c ∷ []
  value_listing (suc l) (inl c) = cell c ∷ []
  value_listing (suc l) (inr es) = flattened (λ e. value_listing l e.1) es

  -- those of an entry by its value
  abbrev pub entry_listing : (l : ℕ) → IkeyClass × EntryValue l → List (List ℕ × ℕ)
  entry_listing l e = value_listing l e.1

  -- the key lies below this path, and what is left of it is short enough for the links that may follow
  abbrev pub FitsLayers : ℕ → List ℕ → List ℕ → Type 0
  FitsLayers l ks K = BelowLinks ks K × (length (rest_below ks K) ≤ 8 * suc l)

  -- An entry's value is right for its ikey and class κ: the cell's key lies below the path and has that ikey and class there; the
  -- entries of the layer below strictly rise and are right below the path and this link, and the entry is of class 9.
  abbrev pub RightValue : (l : ℕ) → List ℕ → IkeyClass → EntryValue l → Type 0
  RightValue zero ks κ c = FitsLayers zero ks (cell_key c) × (layer_key ks (cell_key c) ≡ κ)
  RightValue (suc l) ks κ (inl c) = FitsLayers (suc l) ks (cell_key c) × (layer_key ks (cell_key c) ≡ κ)
  RightValue (suc l) ks κ (inr es) = (κ.1 ≡ 9) × Sorted layer_order es × All (λ e. RightValue l (ks ++ κ.0 ∷ []) e.0 e.1) es

  -- all keys below an entry lie below the path, with the ikey and class of the entry
  abbrev pub OwnKeys : (l : ℕ) → List ℕ → IkeyClass × EntryValue l → Type 0
  OwnKeys l ks e = All (λ x. BelowLinks ks x.0 × (layer_key ks x.0 ≡ e.0)) (entry_listing l e)

  module _ (c : ℕ) where
    -- the key of cell c is none of these
    abbrev pub NewKey : List (List ℕ × ℕ) → Type 0
    NewKey xs = All (λ x. cell_key c ≢ x.0) xs

module _ (cell : ℕ → List ℕ × ℕ) where
  -- the entries of a layer are right: they strictly rise, and each has a right value
  abbrev pub RightLayer : (l : ℕ) → List ℕ → List (IkeyClass × EntryValue l) → Type 0
  RightLayer l ks es = Sorted layer_order es × All (λ e. RightValue cell l ks e.0 e.1) es

-- how often the cell j is used below an entry
abbrev pub cell_uses : (l : ℕ) → EntryValue l → ℕ → ℕ
cell_uses zero c j = one_at c j
cell_uses (suc l) (inl c) j = one_at c j
cell_uses (suc l) (inr es) j = total (λ e. cell_uses l e.1 j) es
