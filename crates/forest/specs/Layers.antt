-- Layers: the tree of each, and below its links the layers that they lead to.
use Rattle.std.specs.Prelude.{ℕ, zero, suc, ◌+◌, ◌≡◌, ◌⊎◌, List, [], ◌∷◌, ◌++◌, map, T}
use Rattle.std.proofs.Common.{inl, inr}
use Rattle.order.specs.Map.{All}
use Rattle.order.specs.Lists.{total, flattened}
use Rattle.arena.specs.Layout.{key_at, frame_at}
use Rattle.arena.specs.Memory.{Memory}
use Rattle.forest.specs.Cells.{filed}
use Rattle.forest.specs.Trees.{Key, Ref, cell, link, Tree, top_of, entries_of, cell_no, once, nodes_of, Holds, Bounded}
use Rattle.forest.specs.Trees.{leftmost, rightmost}

-- a tree of any height
abbrev pub Tall : Type 0
Tall = (h : ℕ) × Tree h

-- what an entry has, where l links more may follow: a cell, or a layer
abbrev pub Value : ℕ → Type 0
Value zero = ℕ
Value (suc l) = ℕ ⊎ (Tall × List (Key × Value l))

-- a layer with at most l links below one another: its tree, and beside it the entries that the tree lists, with what they have
abbrev pub Layer : ℕ → Type 0
Layer l = Tall × List (Key × Value l)

-- the number of its root
abbrev pub root_of : {E : Type 0} → Tall × E → ℕ
root_of v = top_of v.0.0 v.0.1

-- a value as the entry has it
abbrev pub ref_of : (l : ℕ) → Value l → Ref
ref_of zero c = cell c
ref_of (suc l) (inl c) = cell c
ref_of (suc l) (inr v) = link (root_of v)

-- How often a node or a cell is reached: each node of the tree, each cell of an entry, and what the layers below reach
abbrev pub reached_by : (l : ℕ) → Value l → ℕ → ℕ
reached_by zero c i = once (cell_no c) i
reached_by (suc l) (inl c) i = once (cell_no c) i
reached_by (suc l) (inr v) i = nodes_of v.0.0 v.0.1 i + total (λ e. reached_by l e.1 i) v.1

-- how often a layer reaches number i
abbrev pub reached : (l : ℕ) → Layer l → ℕ → ℕ
reached l v i = nodes_of v.0.0 v.0.1 i + total (λ e. reached_by l e.1 i) v.1

-- Memory has the layer: its tree, which lists these entries, and the layers below
abbrev pub HeldBy : List ℕ → (l : ℕ) → Value l → Type 0
HeldBy nodes zero c = Unit {0}
HeldBy nodes (suc l) (inl c) = Unit {0}
HeldBy nodes (suc l) (inr v) =
    Holds nodes v.0.0 v.0.1
    × (entries_of v.0.0 v.0.1 ≡ map (λ e. (e.0, ref_of l e.1)) v.1)
    × All (λ e. HeldBy nodes l e.1) v.1

-- memory has a layer: its tree, and behind each entry what it refers to
abbrev pub Held : List ℕ → (l : ℕ) → Layer l → Type 0
Held nodes l v =
    Holds nodes v.0.0 v.0.1
    × (entries_of v.0.0 v.0.1 ≡ map (λ e. (e.0, ref_of l e.1)) v.1)
    × All (λ e. HeldBy nodes l e.1) v.1

-- Each layer's ikeys keep within their edges; a layer has no ikey to the left of it, and none to the right
abbrev pub InEdgesBy : (l : ℕ) → Value l → Type 0
InEdgesBy zero c = Unit {0}
InEdgesBy (suc l) (inl c) = Unit {0}
InEdgesBy (suc l) (inr v) =
    Bounded v.0.0 leftmost rightmost v.0.1 × All (λ e. InEdgesBy l e.1) v.1

-- every tree of a layer and of those below it keeps its bounds
abbrev pub InEdges : (l : ℕ) → Layer l → Type 0
InEdges l v = Bounded v.0.0 leftmost rightmost v.0.1 × All (λ e. InEdgesBy l e.1) v.1

-- Each cell holds a key that belongs where its entry stands, below the links on the way
abbrev pub FiledBy : List ℕ → List ℕ → (l : ℕ) → List ℕ → Key → Value l → Type 0
FiledBy cells bytes zero above k c = T (filed cells bytes above k.0 k.1 c)
FiledBy cells bytes (suc l) above k (inl c) = T (filed cells bytes above k.0 k.1 c)
FiledBy cells bytes (suc l) above k (inr v) =
    All (λ e. FiledBy cells bytes l (above ++ k.0 ∷ []) e.0 e.1) v.1

-- every cell of a layer has the key that the links above and its own entry say
abbrev pub Filed : List ℕ → List ℕ → (l : ℕ) → List ℕ → Layer l → Type 0
Filed cells bytes l above v = All (λ e. FiledBy cells bytes l above e.0 e.1) v.1

-- The listing: keys and frames, in order
abbrev pub listed_by : List ℕ → List ℕ → (l : ℕ) → Value l → List (List ℕ × ℕ)
listed_by cells bytes zero c = (key_at cells bytes c, frame_at cells c) ∷ []
listed_by cells bytes (suc l) (inl c) = (key_at cells bytes c, frame_at cells c) ∷ []
listed_by cells bytes (suc l) (inr v) = flattened (λ e. listed_by cells bytes l e.1) v.1

-- the keys and frame numbers of a layer, in order
abbrev pub listed : List ℕ → List ℕ → (l : ℕ) → Layer l → List (List ℕ × ℕ)
listed cells bytes l v = flattened (λ e. listed_by cells bytes l e.1) v.1
