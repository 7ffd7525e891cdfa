-- One layer of a put whose key meets an entry there: a conflict, or a link to the layer below; the layer's root stays. Assumes nothing.
use mathlib.Core.Path.{◌≡◌, refl, sym, ap, ap₂, ◌∙◌, subst}
use mathlib.Core.Logic.{◌≢◌}
use mathlib.Core.List.{List}
use mathlib.Core.Option.{none, some}
use Prim.Native.Nat.{ℕ, suc, ◌+◌, ◌≤◌, ◌<◌}
use native.Mathlib.Omega.{arith}
use lib.Dec.{T}
use lib.ListN.{length, get_or, set}
use Rattle.leaf_entries.specs.declared.Entry.{Entry}
use Rattle.leaf.specs.Leaf as leaf
use Rattle.forest.specs.Nodes.{entries_at, leaf_right}
use Rattle.order.specs.Bytes.{Bytes}
use Rattle.trees.specs.Nodes.{IkeyClass, layer_order, Node, leaf, NodeList, node_in, one_at, leaf_entries}
use Rattle.trees.specs.FreeNumbers.{free_numbers, times_in, lowest_free}
use Rattle.trees.specs.Tree.{AnyTree, any_root, any_reaches, HoldsAny}
use Rattle.trees.specs.TreePut.{tree_find}
use Rattle.trees.specs.Cut.{cut_place}
use Rattle.trees.specs.PutInMemory.{layer_put}
use Rattle.trees.specs.Paths.{raised_ikey}
use Rattle.trees.specs.Entries.{cell_key, FitsLayers}
use Rattle.trees.specs.Layers.{Pointer, link}
use Rattle.trees.specs.LayersPut.{conflict_count, conflict_written}
use Rattle.trees.proofs.Layers.{any-framed}
use Rattle.trees.proofs.ConflictLayers.{conflict-became}
use Rattle.trees.proofs.WholeCalls.{one_at-zero}
use Rattle.order.specs.Map.{alter}
use Rattle.model.specs.Meet.{number_word}
use Rattle.growth.proofs.Memory.{both, Nodes, View}
use Rattle.growth.proofs.LayerGrown.{LayerGrows}
use Rattle.growth.proofs.Puts.{conflict_words, conflict-grown, link-grown, root-stays}
use Rattle.growth.proofs.Replaced.{leaf_at, leaf-counted, layer-link}

-- the leaf k of a tree has the entry of this key at position p
module _ (nodes : List ℕ) (n : ℕ) (N : Nodes nodes n) (k : ℕ) (h : k < n) (lf : T (leaf_right nodes k)) (p : ℕ)
    (p< : p < length (entries_at nodes k))
    (hi : ℕ) (t : AnyTree Pointer) (H : HoldsAny Pointer 15 hi (View nodes n) t)
    (once : (j : ℕ) → any_reaches Pointer t j + times_in (free_numbers 0 (View nodes n)) j ≤ 1)
    (x : IkeyClass) (below : x.0 < hi) (there : k ≡ (leaf_at t.0 x.0 (0, t.1)).0) (w : Pointer)
    (found : tree_find Pointer t.0 x (0, t.1) ≡ some w)
    (same_key : (suc (get_or (entries_at nodes k) p leaf.none).ikey, 9) ≡ x) where
  abbrev seen : NodeList Pointer
  seen = View nodes n

  abbrev r : ℕ
  r = any_root Pointer t

  abbrev old : Entry
  old = get_or (entries_at nodes k) p leaf.none

  counted : 1 ≤ any_reaches Pointer t k
  counted = subst (λ (i : ℕ). 1 ≤ any_reaches Pointer t i) (sym there)
      (leaf-counted x.0 t.0 0 hi (0, t.1) (refl, omega arith, below, H.0))

  not_own : (j : ℕ) → any_reaches Pointer t j ≡ 0 → one_at k j ≡ 0
  not_own j z = one_at-zero k j (λ q. absurd (omega (arith, counted, z, ap (any_reaches Pointer t) q)))

  -- a link in that leaf, over memory in which the layer stands as it did
  linked : (m : NodeList Pointer) (v : ℕ) → ((j : ℕ) → 0 < any_reaches Pointer t j → node_in m j ≡ node_in seen j)
      → layer_put Pointer 15 9 cut_place t.0 x (λ o. some (link v)) r m
      ≡ (r, set m k (leaf (alter layer_order x (λ o. some (link v)) (leaf_entries (node_in m k)))))
  linked m v s = layer-link m x (link v) w hi t below (any-framed 15 hi seen m t s H) (λ j. omega (arith, once j)) found k there

  -- ---- a conflict

  pub conflict-layer : (holder : ℕ) (at : ℕ → List ℕ × ℕ) (c b : ℕ) (ne : cell_key at c ≢ cell_key at b)
      → ((K : List ℕ) → Bytes K → raised_ikey K < hi) → old.class ≡ 9
      → (l : ℕ) (ks : List ℕ) → FitsLayers at l ks (cell_key at c) → FitsLayers at l ks (cell_key at b)
      → conflict_count (cell_key at c) (cell_key at b) l ks ≤ length (free_numbers 0 seen)
      → LayerGrows (any_reaches Pointer t) nodes n holder r (conflict_words nodes n N k h lf p p< at (cell_key at c) c b ne l (length ks))
      (layer_put Pointer 15 9 cut_place t.0 x (λ o. some (link (lowest_free seen))) r (conflict_written at (cell_key at c) c b l ks seen))
  conflict-layer holder at c b ne hi-ok c9 l ks fK fJ en =
      let K = cell_key at c in
      let m = conflict_written at K c b l ks seen in
      let D = (conflict-became 15 9 cut_place hi at c hi-ok (omega arith) b l ks seen fK fJ ne (λ j. omega (arith, once j)) en).1 in
      let s : (j : ℕ) → 0 < any_reaches Pointer t j → node_in m j ≡ node_in seen j = λ j g. D.same j refl (omega (arith, once j)) in
      let B = conflict-grown nodes n N k h lf p p< at K c b ne c9 l ks fK fJ en in
      let e : layer_put Pointer 15 9 cut_place t.0 x (λ o. some (link (lowest_free seen))) r m
      ≡ (r, set m k (leaf (alter layer_order (suc old.ikey, 9) (λ o. some (link (lowest_free seen))) (leaf_entries (node_in seen k))))) =
      linked m (lowest_free seen) s
      ∙ both refl
      (ap₂ (λ (y : IkeyClass) (z : Node Pointer). set m k
      (leaf (alter layer_order y (λ o. some (link (lowest_free seen))) (leaf_entries z)))) (sym same_key) (s k (omega (arith, counted)))) in
      subst (LayerGrows (any_reaches Pointer t) nodes n holder r (conflict_words nodes n N k h lf p p< at K c b ne l (length ks))) (sym e)
      (root-stays (any_reaches Pointer t) nodes n holder r (conflict_words nodes n N k h lf p p< at K c b ne l (length ks)) _
      (record { still = B.still; view = B.view; head = B.head; kept = λ j z u. B.kept j (not_own j z) u }))

  -- ---- a link, whose layer below grew

  pub link-layer : (holder : ℕ) (own : ℕ → ℕ) → old.class ≡ 10 → own k ≡ 0 → (result : List ℕ) (b : ℕ × NodeList Pointer)
      → LayerGrows own nodes n (number_word nodes k p) old.at result b
      → ((j : ℕ) → 0 < any_reaches Pointer t j → node_in b.1 j ≡ node_in seen j)
      → LayerGrows (λ j. any_reaches Pointer t j + own j) nodes n holder r result
      (layer_put Pointer 15 9 cut_place t.0 x (λ o. some (link b.0)) r b.1)
  link-layer holder own c10 o result b G s =
      let B = link-grown own nodes n N k h lf p p< c10 o result b G in
      let e : layer_put Pointer 15 9 cut_place t.0 x (λ o. some (link b.0)) r b.1
      ≡ (r, set b.1 k (leaf (alter layer_order (suc old.ikey, 9) (λ o. some (link b.0)) (leaf_entries (node_in b.1 k))))) =
      linked b.1 b.0 s
      ∙ both refl
      (ap (λ (y : IkeyClass). set b.1 k (leaf (alter layer_order y (λ o. some (link b.0)) (leaf_entries (node_in b.1 k)))))
      (sym same_key)) in
      subst (LayerGrows (λ j. any_reaches Pointer t j + own j) nodes n holder r result) (sym e)
      (root-stays (λ j. any_reaches Pointer t j + own j) nodes n holder r result _
      (record {
        still = B.still;
        view = B.view;
        head = B.head;
        kept = λ j z u. B.kept j (let y = not_own j (omega arith) in omega (arith, y)) u;
      }))
