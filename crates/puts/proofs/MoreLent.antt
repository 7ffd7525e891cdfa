-- More free nodes lent: memory is the same tree, and a put needs as many nodes as before. Assumes nothing.
use mathlib.Core.Path.{◌≡◌, refl, sym, ap, ◌∙◌, subst}
use mathlib.Core.Bool.{true, false}
use mathlib.Core.Logic.{⊎_elim, inl, inr}
use mathlib.Core.List.{List, [], ◌∷◌, ◌++◌, map}
use Prim.Native.Nat.{ℕ, zero, suc, ◌+◌, ◌-◌, ◌*◌, ◌≤◌, ◌<◌}
use native.Mathlib.Omega.{arith}
use lib.Dec.{T, eqb}
use lib.ListN.{length, get_or, take, drop, length-append, length-replicate, get_or-append}
use lib.Seq.{drop-append-add}
use Rattle.order.specs.Bytes.{Bytes}
use Rattle.order.specs.Map.{All}
use Rattle.order.proofs.Map.{all_map}
use Rattle.bank.proofs.Tests.{is_true, holds}
use Rattle.leaf.specs.Lists.{every}
use Rattle.leaf_entries.specs.declared.Entry.{Entry}
use Rattle.arena.specs.Parts.{part, zeros}
use Rattle.arena.specs.Layout.{node_start, word_at}
use Rattle.arena.specs.Memory.{Memory, node_count, right_lengths}
use Rattle.arena.proofs.Words.{lt-or-ge}
use Rattle.arena.proofs.Measures.{Right, right-means, right-if, counts-follow}
use Rattle.forest.specs.Count.{count_of}
use Rattle.forest.specs.Nodes.{all_zero, leaf_right, internode_right, node_free, entries_at}
use Rattle.forest.specs.Trees.{Tree, Holds, node_no, seen_as}
use Rattle.forest.specs.Layers.{Value, Layer, HeldBy, Held, reached}
use Rattle.forest.specs.IsTree.{Layers, Forest, IsTree, listing}
use Rattle.forest.proofs.Inside.{leaf-inside, internode-inside}
use Rattle.forest.proofs.Cleared.{part-zero}
use Rattle.model.specs.Calls.{stored, needed, nodes_of, cells_of}
use Rattle.growth.proofs.Frames.{Same, leaf-same, internode-same, free-same}
use Rattle.places.proofs.Found.{stored-lookup}
use Rattle.puts.specs.Needed.{lent_more}
use Rattle.puts.proofs.Needed.{needed-as-said}

module _ (nodes : List ℕ) (N : ℕ) (whole : length nodes ≡ 2 + N * 47) (k : ℕ) where
  abbrev longer : List ℕ
  longer = nodes ++ zeros (k * 47)

  longer-length : length longer ≡ 2 + (N + k) * 47
  longer-length =
      let e : length (zeros (k * 47)) ≡ k * 47 = length-replicate (k * 47) 0 in omega (arith, length-append nodes (zeros (k * 47)))

  -- ---- a node that was lent before is as it was

  module _ (j : ℕ) (inside : j < N) where
    fits : node_start j + 47 ≤ length nodes
    fits = omega arith

    fits-longer : node_start j + 47 ≤ length longer
    fits-longer = omega (arith, longer-length)

    same : Same nodes longer j
    same i h = get_or-append nodes (zeros (k * 47)) 0 (node_start j + i) (omega (arith, fits))

    pub free-still : T (node_free nodes j) → T (node_free longer j)
    free-still t = free-same nodes longer j fits fits-longer same t

  -- a node that is lent now is free
  pub free-now : (j : ℕ) → N ≤ j → T (node_free longer j)
  unfolding node_free part
  free-now j h =
      let z : node_start j ≡ length nodes + (node_start j - length nodes) = omega arith in
      subst (λ (xs : List ℕ). T (all_zero (take 47 xs)))
      (sym (ap (λ (a : ℕ). drop a longer) z ∙ drop-append-add nodes (zeros (k * 47)) (node_start j - length nodes)))
      (holds (part-zero (k * 47) (node_start j - length nodes) 47))

  -- ---- trees and layers

  holds-longer : (h : ℕ) (t : Tree h) → Holds nodes h t → Holds longer h t
  holds-longer zero t (right, e) =
      let inside = leaf-inside nodes N whole t.0 right in
      let (still, entries) = leaf-same nodes longer t.0 (fits t.0 inside) (fits-longer t.0 inside) (same t.0 inside) right in
      (still, ap (map seen_as) entries ∙ e)
  holds-longer (suc h) t (right, edges, children, below) =
      let inside = internode-inside nodes N whole t.0 right in
      let (still, (ikeys, kids)) = internode-same nodes longer t.0 (fits t.0 inside) (fits-longer t.0 inside)
      (same t.0 inside) right in
      (still, ap (map suc) ikeys ∙ edges, kids ∙ children, all_map (λ p. holds-longer h p.1) below)

  held-by-longer : (l : ℕ) (x : Value l) → HeldBy nodes l x → HeldBy longer l x
  held-by-longer zero c held = tt
  held-by-longer (suc l) (inl c) held = tt
  held-by-longer (suc l) (inr v) (tree, e, below) =
      (holds-longer v.0.0 v.0.1 tree, e, all_map (λ x. held-by-longer l x.1) below)

  pub held-longer : (l : ℕ) (v : Layer l) → Held nodes l v → Held longer l v
  held-longer l v (tree, e, below) = (holds-longer v.0.0 v.0.1 tree, e, all_map (λ x. held-by-longer l x.1) below)

-- ---- the whole

module _ (m : Memory) (v : Layers) (t : Forest m v) (k : ℕ) (few : nodes_of m + k ≤ 255) where
  abbrev N : ℕ
  N = nodes_of m

  before : Right (length m.nodes) (length m.cells) (length m.bytes) (nodes_of m) (cells_of m)
  before = right-means _ _ _ (is_true _ t.lent)

  after : Right (length (lent_more m k).nodes) (length m.cells) (length m.bytes) (nodes_of m + k) (cells_of m)
  after = record {
    n-low = omega (arith, before.n-low);
    n-high = few;
    c-low = before.c-low;
    c-high = before.c-high;
    nodes-whole = longer-length m.nodes N before.nodes-whole k;
    cells_whole = before.cells_whole;
    bytes_whole = before.bytes_whole;
  }

  first-words : (i : ℕ) → i < 2 → get_or (lent_more m k).nodes i 0 ≡ get_or m.nodes i 0
  first-words i h = get_or-append m.nodes (zeros (k * 47)) 0 i (omega (arith, before.nodes-whole))

  -- memory with free nodes more is the same tree
  pub more-lent : Forest (lent_more m k) v
  more-lent = record {
    lent = holds (right-if _ _ _ _ _ after);
    rooted = first-words 0 (omega arith) ∙ t.rooted;
    held = held-longer m.nodes N before.nodes-whole k 31 v t.held;
    in-edges = t.in-edges;
    at-most-once = t.at-most-once;
    filed = t.filed;
    other-nodes = λ j h r. ⊎_elim (λ g. free-still m.nodes N before.nodes-whole k j g (t.other-nodes j g r))
        (λ g. free-now m.nodes N before.nodes-whole k j g) (lt-or-ge j N);
    other-cells = t.other-cells;
  }

  -- with as many entries counted
  pub more-counted : count_of m ≡ length (listing m v) → IsTree (lent_more m k) v
  more-counted e = record { forest = more-lent; counted = first-words 1 (omega arith) ∙ e }

  -- and a put of a new key needs as many nodes
  pub same-need : Bytes m.bytes → (key : List ℕ) → Bytes key → length key ≤ 256 → stored m key ≡ false
      → needed (lent_more m k) key ≡ needed m key
  same-need bytes key b short absent =
      needed-as-said (lent_more m k) v more-lent bytes key b short
      (stored-lookup (lent_more m k) v more-lent bytes key b ∙ sym (stored-lookup m v t bytes key b) ∙ absent)
      ∙ sym (needed-as-said m v t bytes key b short absent)
