-- Layers over layers. A layer is its tree, whose entries have cells and links as numbers, beside the list of the same entries with
-- what they lead to. l is how many links more may follow. `top` is the room of a node, `hi` lies right of all ikeys.
use Rattle.std.specs.Prelude.{List, map, ◌⊎◌, ◌≡◌, ℕ, zero, suc, ◌+◌}
use Rattle.std.proofs.Common.{inl, inr}
use Rattle.order.specs.Lists.{total}
use Rattle.order.specs.Map.{All}
use Rattle.trees.specs.Nodes.{IkeyClass, NodeList}
use Rattle.trees.specs.Tree.{AnyTree, any_root, any_entries, any_reaches, HoldsAny}
use Rattle.trees.specs.Became.{Became}
use Rattle.trees.specs.Entries.{EntryValue}

-- what an entry of a leaf has: the number of a cell, or a link, the number of the root of the layer below
pub data Pointer : Type 0 where
  cell link : ℕ → Pointer

-- what an entry has: a cell, or a layer, if a link may follow
abbrev pub LayeredValue : ℕ → Type 0
LayeredValue zero = ℕ
LayeredValue (suc l) = ℕ ⊎ (AnyTree Pointer × List (IkeyClass × LayeredValue l))

-- a layer with at most l links below one another: its tree, and the entries that the tree lists, with what they have
abbrev pub Layered : ℕ → Type 0
Layered l = AnyTree Pointer × List (IkeyClass × LayeredValue l)

-- a cell
abbrev pub layered_cell : (l : ℕ) → ℕ → LayeredValue l
layered_cell zero c = c
layered_cell (suc l) c = inl c

-- the entries alone, with the trees left out
abbrev pub bare_value : (l : ℕ) → LayeredValue l → EntryValue l
bare_value zero c = c
bare_value (suc l) (inl c) = inl c
bare_value (suc l) (inr v) = inr (map (λ (e : IkeyClass × LayeredValue l). (e.0, bare_value l e.1)) v.1)

-- an entry of that kind
abbrev pub bare_entry : (l : ℕ) → IkeyClass × LayeredValue l → IkeyClass × EntryValue l
bare_entry l e = (e.0, bare_value l e.1)

-- the number of the layer's root
abbrev pub layer_root : (l : ℕ) → Layered l → ℕ
layer_root l v = any_root Pointer v.0

-- a value as the leaf has it
abbrev pub pointer_of : (l : ℕ) → LayeredValue l → Pointer
pointer_of zero c = cell c
pointer_of (suc l) (inl c) = cell c
pointer_of (suc l) (inr v) = link (any_root Pointer v.0)

-- an entry as the leaf has it
abbrev pub pointer_entry : (l : ℕ) → IkeyClass × LayeredValue l → IkeyClass × Pointer
pointer_entry l e = (e.0, pointer_of l e.1)

-- how often node j is reached below an entry
abbrev pub value_reaches : (l : ℕ) → LayeredValue l → ℕ → ℕ
value_reaches zero c j = 0
value_reaches (suc l) (inl c) j = 0
value_reaches (suc l) (inr v) j = any_reaches Pointer v.0 j + total (λ e. value_reaches l e.1 j) v.1

-- how often node j is reached from the layer
abbrev pub layer_reaches : (l : ℕ) → Layered l → ℕ → ℕ
layer_reaches l v j = any_reaches Pointer v.0 j + total (λ e. value_reaches l e.1 j) v.1

module _ (top hi : ℕ) where
  -- memory has what lies below an entry: the tree, which lists these entries, and what lies below each
  abbrev pub HoldsValue : NodeList Pointer → (l : ℕ) → LayeredValue l → Type 0
  HoldsValue m zero c = Unit {0}
  HoldsValue m (suc l) (inl c) = Unit {0}
  HoldsValue m (suc l) (inr v) =
      HoldsAny Pointer top hi m v.0
      × (any_entries Pointer v.0 ≡ map (pointer_entry l) v.1)
      × All (λ e. HoldsValue m l e.1) v.1

  -- memory has the layer
  abbrev pub HoldsLayer : (l : ℕ) → NodeList Pointer → Layered l → Type 0
  HoldsLayer l m v =
      HoldsAny Pointer top hi m v.0
      × (any_entries Pointer v.0 ≡ map (pointer_entry l) v.1)
      × All (λ e. HoldsValue m l e.1) v.1

  -- memory has become one with this layer, where n counted what stood there before
  abbrev pub LayerBecame : (l : ℕ) → (ℕ → ℕ) → ℕ → NodeList Pointer → Layered l → ℕ × NodeList Pointer → Type 0
  LayerBecame l = Became (HoldsLayer l) (layer_reaches l) (layer_root l)
