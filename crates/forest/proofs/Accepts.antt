-- The walk accepts exactly the memory that is a tree. Assumes nothing.
use mathlib.Core.Path.{◌≡◌, refl, sym, ◌∙◌}
use mathlib.Core.Bool.{Bool, true, ◌&&◌, ◌||◌}
use mathlib.Core.List.{List, [], ◌∷◌}
use mathlib.Core.Logic.{⊎_elim}
use mathlib.Core.Option.{Option, none, some}
use Prim.Native.Nat.{ℕ, zero, suc, ◌≤◌, ◌<◌}
use native.Mathlib.Omega.{arith}
use lib.Dec.{T, eqb, eqb→eq}
use lib.ListN.{length, get_or, length-replicate, get_or-replicate, get_or-eq_default}
use Rattle.bank.specs.Lists.{all_below}
use Rattle.bank.proofs.Tests.{and_left, and_right, and_both, is_true, holds, equal, at, all-at}
use Rattle.arena.specs.Parts.{zeros}
use Rattle.arena.specs.Layout as layout
use Rattle.arena.specs.Memory.{Memory, node_count, cell_count, right_lengths}
use Rattle.arena.proofs.Words.{lt-or-ge}
use Rattle.arena.proofs.Measures.{Right, right-means}
use Rattle.forest.specs.Nodes.{node_free}
use Rattle.forest.specs.Cells.{is_cell_free}
use Rattle.forest.specs.Trees.{node_no, cell_no}
use Rattle.forest.specs.Layers.{reached}
use Rattle.forest.specs.Count.{count_of}
use Rattle.forest.specs.IsTree.{Layers, listing, Forest, IsTree}
use Rattle.forest.specs.Walk.{Seen, walk_layer, rest_free, cells_seen, walked_well, is_tree}
use Rattle.forest.proofs.Decides.{mark, Adds, Fits}
use Rattle.forest.proofs.LayerWalk.{layer-decides}
use Rattle.forest.proofs.Beyond.{layer-none}
use Rattle.forest.proofs.Counts.{as-many-marked, cells-counted, few-255}

-- ---- marks from nothing

get_d-inside : (xs : List ℕ) (i a b : ℕ) → i < length xs → get_or xs i a ≡ get_or xs i b
get_d-inside [] i a b h = absurd (omega arith)
get_d-inside (x ∷ xs) zero a b h = refl
get_d-inside (x ∷ xs) (suc i) a b h = get_d-inside xs i a b (omega arith)

unmarked : (n i : ℕ) → i < n → mark (zeros n) i ≡ 0
unmarked n i h = get_or-replicate n i 0 1 h

past-marks : (n i : ℕ) → n ≤ i → mark (zeros n) i ≡ 1
past-marks n i h = get_or-eq_default (zeros n) 1 (omega (arith, length-replicate {A = ℕ} n 0))

module _ (n : ℕ) (count : ℕ → ℕ) (after : Seen) (a : Adds (zeros n) count after) where
  counted-most : (i : ℕ) → count i ≤ 1
  counted-most i =
      ⊎_elim (λ h. omega (arith, unmarked n i h, a.sum i, a.most-once i (omega (arith, unmarked n i h))))
      (λ h. omega (arith, past-marks n i h, a.sum i, a.most-once i (omega (arith, past-marks n i h)))) (lt-or-ge i n)

  counted-at : (i : ℕ) → i < n → get_or after i 0 ≡ count i
  counted-at i h =
      get_d-inside after i 0 1 (omega (arith, a.as_long, length-replicate {A = ℕ} n 0)) ∙ omega (arith, a.sum i, unmarked n i h)

-- ---- seen, or free

seen-free : (x : ℕ) (free : Bool) → T (eqb x 1 || free) → x ≡ 0 → T free
seen-free x free t e = rw e at t

free_seen : (x : ℕ) (free : Bool) → x ≤ 1 → (x ≡ 0 → T free) → T (eqb x 1 || free)
free_seen zero free h f = f refl
free_seen (suc zero) free h f = tt
free_seen (suc (suc x)) free h f = absurd (omega arith)

-- the numbers of a row, of nodes or of cells: each was seen or is free, exactly where those not counted are free
module _ (count : ℕ → ℕ) (after : Seen) (a : Adds (zeros 510) count after) (n : ℕ) (number : ℕ → ℕ) (free : ℕ → Bool)
    (few : (k : ℕ) → k < n → number k < 510) where
  abbrev seen_or_free : ℕ → Bool
  seen_or_free k = eqb (get_or after (number k) 0) 1 || free k

  others-free : T (all_below n seen_or_free) → (k : ℕ) → k < n → count (number k) ≡ 0 → T (free k)
  others-free t k h e =
      seen-free (get_or after (number k) 0) (free k) (at n seen_or_free t k h) (counted-at 510 count after a (number k) (few k h) ∙ e)

  free-others : ((k : ℕ) → k < n → count (number k) ≡ 0 → T (free k)) → T (all_below n seen_or_free)
  free-others f =
      all-at n seen_or_free (λ k h.
      let e = counted-at 510 count after a (number k) (few k h) in
      let few-times : get_or after (number k) 0 ≤ 1 = omega (arith, counted-most 510 count after a (number k)) in
      free_seen (get_or after (number k) 0) (free k) few-times (λ z. f k h (sym e ∙ z)))

-- ---- the whole

module _ (m : Memory) where
  abbrev nodes_in : ℕ
  nodes_in = node_count (length m.nodes)

  abbrev cells_in : ℕ
  cells_in = cell_count (length m.cells)

  abbrev lent_right : Bool
  lent_right = right_lengths (length m.nodes) (length m.cells) (length m.bytes)

  abbrev root_in : ℕ
  root_in = layout.root_of m.nodes

  abbrev nodes_free : Seen → Bool
  nodes_free after = all_below nodes_in (λ k. eqb (get_or after (node_no k) 0) 1 || node_free m.nodes k)

  abbrev are_cells_free : Seen → Bool
  are_cells_free after = all_below cells_in (λ c. eqb (get_or after (cell_no c) 0) 1 || is_cell_free m.cells m.bytes c)

  abbrev RightIn : Type 0
  RightIn = Right (length m.nodes) (length m.cells) (length m.bytes) nodes_in cells_in

  low-node : RightIn → (k : ℕ) → k < nodes_in → node_no k < 510
  low-node right k h = omega (arith, right.n-high)

  low-cell : RightIn → (c : ℕ) → c < cells_in → cell_no c < 510
  low-cell right c h = omega (arith, right.c-high)

  abbrev count_right : Seen → Bool
  count_right after = eqb (count_of m) (cells_seen m after)

  -- the cells that were seen are as many as the entries of the tree
  module _ (right : RightIn) (v : Layers) (t : Forest m v) (after : Seen) (a : Adds (zeros 510) (reached 31 v) after) where
    seen-listed : cells_seen m after ≡ length (listing m v)
    unfolding cells_seen
    seen-listed =
        as-many-marked cells_in (λ c. get_or after (cell_no c) 0) (λ c. reached 31 v (cell_no c))
        (λ c h. counted-at 510 (reached 31 v) after a (cell_no c) (low-cell right c h)) (λ c h. t.at-most-once (cell_no c))
        ∙ sym (cells-counted m v t)

  -- what the walk accepts is a tree
  pub tree-found : T (is_tree m) → (v : Layers) × IsTree m v
  unfolding is_tree rest_free
  tree-found t = go (walk_layer 31 m [] root_in (zeros 510)) refl (and_right lent_right _ t)
    where
      right : RightIn
      right = right-means _ _ _ (is_true lent_right (and_left lent_right _ t))

      go : (o : Option Seen) → walk_layer 31 m [] root_in (zeros 510) ≡ o → T (walked_well m o) → (v : Layers) × IsTree m v
      go none e w = absurd w
      go (some after) e w =
          let (y, a) = (layer-decides m nodes_in right.nodes-whole right.n-high 31 [] root_in).sound (zeros 510) after e in
          let (v, rooted, held, edges, filed) = y in
          let free : T (nodes_free after && are_cells_free after) = and_left (nodes_free after && are_cells_free after) (count_right after) w in
          let forest : Forest m v = record {
            lent = and_left lent_right _ t;
            rooted = sym rooted;
            held = held;
            in-edges = edges;
            at-most-once = counted-most 510 (reached 31 v) after a;
            filed = filed;
            other-nodes =
                others-free (reached 31 v) after a nodes_in node_no (node_free m.nodes) (low-node right)
                (and_left (nodes_free after) (are_cells_free after) free);
            other-cells =
                others-free (reached 31 v) after a cells_in cell_no (is_cell_free m.cells m.bytes) (low-cell right)
                (and_right (nodes_free after) (are_cells_free after) free);
          } in (
            v,
            record {
              forest = forest;
              counted = eqb→eq _ _ (and_right (nodes_free after && are_cells_free after) (count_right after) w)
                  ∙ seen-listed right v forest after a;
            },
          )

  -- a tree is accepted by the walk
  pub tree-accepted : (v : Layers) → IsTree m v → T (is_tree m)
  unfolding is_tree rest_free
  tree-accepted v tree =
      let t = tree.forest in
      let right : RightIn = right-means _ _ _ (is_true lent_right t.lent) in
      let past-nodes : node_no nodes_in ≤ 510 = omega (arith, right.n-high) in
      let past-cells : node_no cells_in ≤ 510 = omega (arith, right.c-high) in
      let beyond : (i : ℕ) → 510 ≤ i → reached 31 v i ≡ 0 = λ i h.
      layer-none m nodes_in cells_in right.nodes-whole right.cells_whole i (omega arith) (omega arith)
      31 [] v t.held t.filed in
      let fits : Fits (zeros 510) (reached 31 v) = λ i.
      ⊎_elim (λ h. omega (arith, unmarked 510 i h, t.at-most-once i))
      (λ h. omega (arith, past-marks 510 i h, beyond i h)) (lt-or-ge i 510) in
      let (after, e, a) =
      (layer-decides m nodes_in right.nodes-whole right.n-high 31 [] root_in
      ).complete (zeros 510) (v, sym t.rooted, t.held, t.in-edges, t.filed) fits in
      let nodes-free : T (nodes_free after) =
      free-others (reached 31 v) after a nodes_in node_no (node_free m.nodes) (low-node right) t.other-nodes in
      let cells_free : T (are_cells_free after) =
      free-others (reached 31 v) after a cells_in cell_no (is_cell_free m.cells m.bytes) (low-cell right) t.other-cells in
      let count-right : T (count_right after) = equal (tree.counted ∙ sym (seen-listed right v t after a)) in
      and_both lent_right _ t.lent
      (rw e
      (and_both (nodes_free after && are_cells_free after) (count_right after)
      (and_both (nodes_free after) (are_cells_free after) nodes-free cells_free) count-right))

  -- what the walk accepts counts 255 entries at most
  pub count-few : is_tree m ≡ true → count_of m ≤ 255
  count-few e = let (v, t) = tree-found (holds e) in omega (arith, t.counted, few-255 m v t.forest)
