-- The walk that decides whether memory is a tree. Layer walk calls node walk, which calls layer walk at a link. Each step takes the
-- numbers seen so far and hands back those with its own, or nothing where a rule does not hold or a number was seen before.
use Rattle.std.specs.Prelude.{ℕ, zero, suc, ◌+◌, Bool, true, false, cond, ◌&&◌, ◌||◌, List, [], ◌∷◌, ◌++◌, map, leb, ltb, eqb, length, get_or, set}
use Rattle.std.proofs.Math.Option.{Option, none, some}
use Rattle.bank.specs.Lists.{all_below}
use Rattle.arena.specs.Parts.{zeros}
use Rattle.arena.specs.Layout as layout
use Rattle.arena.specs.Layout.{kind_at}
use Rattle.arena.specs.Memory.{Memory, node_count, cell_count, right_lengths}
use Rattle.forest.specs.Count.{count_of, how_many}
use Rattle.forest.specs.Nodes.{entries_at, ikeys_at, children_at, leaf_right, internode_right, node_free}
use Rattle.forest.specs.Cells.{filed, is_cell_free}
use Rattle.forest.specs.Trees.{Key, Ref, cell, link, seen_as, node_no, cell_no, leftmost, rightmost}

-- 1 at each number that was seen, 0 at the others
abbrev pub Seen : Type 0
Seen = List ℕ

-- a step of the walk: the numbers seen after it, or nothing where it refuses
abbrev pub Step : Type 0
Step = Seen → Option Seen

-- only where a rule holds
abbrev pub when : {A : Type 0} → Bool → Option A → Option A
when true o = o
when false o = none

-- one step after the other, unless the first refuses
abbrev pub and_then : {A : Type 0} → Option A → (A → Option A) → Option A
and_then none f = none
and_then (some x) f = f x

-- one after the other
unfoldable pub each : {X : Type 0} → (X → Step) → List X → Step
each go [] seen = some seen
each go (x ∷ xs) seen = and_then (go x seen) (each go xs)

-- a number, if it was not seen before
unfoldable pub see : ℕ → Step
see i seen = when (eqb (get_or seen i 1) 0) (some (set seen i 1))

-- ---- entries

-- an entry's cell, rightly filed; or the layer below, whose walk is handed in
abbrev pub walk_ref : (List ℕ → ℕ → Step) → Memory → List ℕ → Key → Ref → Step
walk_ref below m above k (cell c) seen =
    when (filed m.cells m.bytes above k.0 k.1 c) (see (cell_no c) seen)
walk_ref below m above k (link root) seen = below (above ++ k.0 ∷ []) root seen

-- the entry lies at or above the left edge and below the right one
abbrev pub within : ℕ → ℕ → Key × Ref → Bool
within lo hi e = leb lo (suc e.0.0) && ltb (suc e.0.0) hi

-- an entry within its edges
unfoldable pub walk_entry : (Key → Ref → Step) → ℕ → ℕ → Key × Ref → Step
walk_entry ref lo hi e seen = when (within lo hi e) (ref e.0 e.1 seen)

-- ---- nodes

-- children between their edges: left edge, right edge, number
abbrev pub Span : Type 0
Span = ℕ × ℕ × ℕ

-- each child with the edges between which it lies
unfoldable pub spans : ℕ → ℕ → List ℕ → List ℕ → List Span
spans lo hi ks [] = []
spans lo hi [] (c ∷ cs) = (lo, hi, c) ∷ []
spans lo hi (k ∷ ks) (c ∷ cs) = (lo, suc k, c) ∷ spans (suc k) hi ks cs

-- a child is walked where its edges strictly rise
unfoldable pub walk_span : (ℕ → ℕ → ℕ → Step) → Span → Step
walk_span node s seen = when (ltb s.0 s.1) (node s.0 s.1 s.2 seen)

-- one leaf, its entries in order
unfoldable pub walk_leaf : (Key → Ref → Step) → List ℕ → ℕ → ℕ → ℕ → Step
walk_leaf ref nodes lo hi n seen =
    when (leaf_right nodes n) (each (walk_entry ref lo hi) (map seen_as (entries_at nodes n)) seen)

-- one internode, its children in order
unfoldable pub walk_internode : (ℕ → ℕ → ℕ → Step) → List ℕ → ℕ → ℕ → ℕ → Step
walk_internode node nodes lo hi n seen =
    when (internode_right nodes n) (each (walk_span node) (spans lo hi (ikeys_at nodes n) (children_at nodes n)) seen)

-- a node of this height: a leaf at height 0, an internode above
unfoldable pub walk_node : (Key → Ref → Step) → List ℕ → ℕ → ℕ → ℕ → ℕ → Step
walk_node ref nodes zero lo hi n seen = and_then (see (node_no n) seen) (walk_leaf ref nodes lo hi n)
walk_node ref nodes (suc h) lo hi n seen =
    and_then (see (node_no n) seen) (walk_internode (walk_node ref nodes h) nodes lo hi n)

-- ---- layers

-- how far it is down to a leaf, by first children; `most` steps at most
unfoldable pub height_at : List ℕ → ℕ → ℕ → ℕ
height_at nodes zero n = 0
height_at nodes (suc most) n =
    cond (eqb (kind_at nodes n) 2) (suc (height_at nodes most (get_or (children_at nodes n) 0 0))) 0

-- one layer, with the walk of the layers below handed in
unfoldable pub walk_one : (List ℕ → ℕ → Step) → Memory → List ℕ → ℕ → Step
walk_one below m above root seen =
    walk_node (walk_ref below m above) m.nodes (height_at m.nodes 255 root) leftmost rightmost root seen

-- a layer below which l links may follow one another; `above` are the ikeys of the links above it
unfoldable pub walk_layer : ℕ → Memory → List ℕ → ℕ → Step
walk_layer zero m above root seen = walk_one (λ above root seen. none) m above root seen
walk_layer (suc l) m above root seen = walk_one (walk_layer l m) m above root seen

-- ---- the whole

-- everything not seen is free
unfoldable pub rest_free : Memory → Seen → Bool
rest_free m seen =
    all_below (node_count (length m.nodes)) (λ k. eqb (get_or seen (node_no k) 0) 1 || node_free m.nodes k)
    && all_below (cell_count (length m.cells)) (λ c. eqb (get_or seen (cell_no c) 0) 1 || is_cell_free m.cells m.bytes c)

-- how many of the lent cells were seen
unfoldable pub cells_seen : Memory → Seen → ℕ
cells_seen m seen = how_many (cell_count (length m.cells)) (λ c. eqb (get_or seen (cell_no c) 0) 1)

-- the walk refused nothing, all that it left unseen is free, and memory counts as many entries as it saw cells
abbrev pub walked_well : Memory → Option Seen → Bool
walked_well m none = false
walked_well m (some seen) = rest_free m seen && eqb (count_of m) (cells_seen m seen)

-- the lent lengths are right, the walk from the root sees no rule broken, what it does not see is free, and the count is right
unfoldable pub is_tree : Memory → Bool
is_tree m =
    right_lengths (length m.nodes) (length m.cells) (length m.bytes)
    && walked_well m (walk_layer 31 m [] (layout.root_of m.nodes) (zeros 510))
