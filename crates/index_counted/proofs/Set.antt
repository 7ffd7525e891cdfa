-- Setting word 1 changes no node, no cell and no view: memory has the same tree, which lists the same. Assumes nothing.
use mathlib.Core.Path.{◌≡◌, refl, sym, ap, ◌∙◌, subst}
use mathlib.Core.List.{List}
use Prim.Native.Nat.{ℕ, zero, suc, ◌+◌, ◌*◌, ◌<◌}
use native.Mathlib.Omega.{arith}
use lib.Dec.{T}
use lib.ListN.{length, get_or, set, length-set}
use lib.Seq.{get_or-set_same, get_or-set_other}
use Rattle.order.specs.Bytes.{Bytes}
use Rattle.arena.specs.Free.{is_free, passing}
use Rattle.arena.specs.Layout as layout
use Rattle.arena.specs.Layout.{node_start}
use Rattle.arena.specs.Memory.{Memory, node_count}
use Rattle.forest.specs.IsTree.{Layers, Forest, listing}
use Rattle.trees.specs.Nodes.{NodeList}
use Rattle.trees.specs.Layers.{Pointer, Layered}
use Rattle.trees.specs.WholeTree.{layer_listing, IsWholeTree}
use Rattle.views.specs.Views.{tabled, node_view, nodes_view, cells_view, node_sound, layer_view, Sound}
use Rattle.views.proofs.Nodes.{nodes_in, cells_in}
use Rattle.views.proofs.LayerViews.{right_edge}
use Rattle.views.proofs.Whole.{ViewIsTree, sound-of, to-trees, listing-view, from-trees, lengths}
use Rattle.growth.proofs.Frames.{Same, node-same}
use Rattle.growth.proofs.Memory.{tabled-within}
use Rattle.model.specs.Calls.{with_count}

-- the same nodes are free
pub free-kept : (nodes : List ℕ) (n i k : ℕ) → passing (is_free node_start (set nodes 1 n)) i k ≡ passing (is_free node_start nodes) i k
unfolding passing
free-kept nodes n i zero = refl
free-kept nodes n i (suc k) = rw (get_or-set_other nodes 1 (node_start i) n 0 (λ e. omega arith), free-kept nodes n (suc i) k)

module _ (m : Memory) (n : ℕ) (sound : Sound m) where
  whole : length m.nodes ≡ 2 + nodes_in m * 47
  whole = (lengths m sound.lent).nodes-whole

  as_long : length (set m.nodes 1 n) ≡ length m.nodes
  as_long = length-set m.nodes 1 n

  as_many : nodes_in (with_count m n) ≡ nodes_in m
  as_many = ap node_count as_long

  -- every word of every node
  words_same : (k : ℕ) → Same m.nodes (set m.nodes 1 n) k
  words_same k i b = get_or-set_other m.nodes 1 (node_start k + i) n 0 (λ e. omega arith)

  node_kept : (k : ℕ) → k < nodes_in m → T (node_sound (set m.nodes 1 n) k) × (node_view (set m.nodes 1 n) k ≡ node_view m.nodes k)
  node_kept k h =
      node-same m.nodes (set m.nodes 1 n) k (omega (arith, whole)) (omega (arith, whole, as_long)) (words_same k)
      (sound.nodes-sound k h)

  pub set-sound : Sound (with_count m n)
  set-sound = record {
    lent = rw as_long sound.lent;
    nodes-sound = λ k h. (node_kept k (rw (← as_many) h)).0;
    cells-sound = sound.cells-sound;
  }

  -- the views
  set_view : nodes_view (with_count m n) ≡ nodes_view m
  set_view =
      ap (λ (i : ℕ). tabled (node_view (set m.nodes 1 n)) 0 i) as_many
      ∙ tabled-within (node_view m.nodes) (node_view (set m.nodes 1 n)) 0 (nodes_in m) (λ j l u. (node_kept j (omega arith)).1)

  set-root : layout.root_of (set m.nodes 1 n) ≡ layout.root_of m.nodes
  set-root = get_or-set_other m.nodes 1 0 n 0 (λ e. omega arith)

  pub set-tree : (w : Layered 31) → ViewIsTree m w → ViewIsTree (with_count m n) w
  set-tree w t =
      subst (λ (i : ℕ). IsWholeTree 15 right_edge 31 i (cells_in m) (nodes_view (with_count m n)) (cells_view m)
      (layout.root_of (set m.nodes 1 n)) w) (sym as_many)
      (subst (λ (s : NodeList Pointer). IsWholeTree 15 right_edge 31 (nodes_in m) (cells_in m) s (cells_view m)
      (layout.root_of (set m.nodes 1 n)) w) (sym set_view)
      (subst (λ (r : ℕ). IsWholeTree 15 right_edge 31 (nodes_in m) (cells_in m) (nodes_view m) (cells_view m) r w) (sym set-root) t))

  -- and the count is the one that was set
  set-count : get_or (set m.nodes 1 n) 1 0 ≡ n
  set-count = get_or-set_same m.nodes 1 n 0 (omega (arith, whole))

module _ (m : Memory) (v : Layers) (n : ℕ) (t : Forest m v) where
  -- with another count, memory has a tree that lists the same
  pub count_set : Bytes m.bytes → (u : Layers) × Forest (with_count m n) u × (listing (with_count m n) u ≡ listing m v)
  count_set bytes =
      let s = sound-of m v t in
      let (u, U, e) = from-trees (with_count m n) (set-sound m n s) (layer_view 31 v)
      (set-tree m n s (layer_view 31 v) (to-trees m v t bytes)) in (
        u,
        U,
        listing-view (with_count m n) u U ∙ ap (layer_listing 31 (cells_view m)) e ∙ sym (listing-view m v t),
      )

  pub count-is : get_or (set m.nodes 1 n) 1 0 ≡ n
  count-is = set-count m n (sound-of m v t)
