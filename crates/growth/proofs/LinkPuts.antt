-- The link above a layer that was made or that grew is the trees' entry altered. Assumes nothing.
use mathlib.Core.Path.{◌≡◌, sym, ap, ap₂, ◌∙◌}
use mathlib.Core.List.{List, [], ◌∷◌, ◌++◌, map, map-append}
use mathlib.Core.Option.{none, some}
use Prim.Native.Nat.{Ordering}
use Prim.Native.Nat.{ℕ, zero, suc, ◌<◌}
use native.Mathlib.Omega.{arith}
use lib.Dec.{T}
use lib.ListN.{length, get_or, take, drop, length-map, get_or-map}
use Rattle.bank.proofs.Tests.{and_left, and_right, is_true, holds}
use Rattle.leaf_entries.specs.declared.Entry.{Entry}
use Rattle.leaf.specs.Lists.{every}
use Rattle.leaf.specs.Leaf as leaf
use Rattle.leaf.specs.Leaf.{rank, less, rising}
use Rattle.leaf.proofs.Lists as lists
use Rattle.leaf.proofs.Orders.{is-less}
use Rattle.forest.specs.Nodes.{entries_at, of_class, leaf_right}
use Rattle.forest.specs.Trees.{seen_as}
use Rattle.order.specs.Map.{All, a[], ◌a∷◌, alter, Sorted, s[], ◌s∷◌}
use Rattle.order.proofs.Map.{all_map, gt-of-lt}
use Rattle.trees.specs.Nodes.{IkeyClass, layer_order, Node, leaf, node_in, leaf_entries}
use Rattle.trees.specs.Layers.{Pointer, link}
use Rattle.trees.proofs.Nodes.{layer-order}
use Rattle.growth.proofs.Frames.{view-leaf}
use Rattle.growth.proofs.Memory.{Nodes, View, view-at}
use Rattle.growth.proofs.Entries.{view_of, view-key, against-view}
use Rattle.growth.proofs.LeafGrown.{leaf-classes}
use Rattle.growth.proofs.EntrySets.{leaf-rises}
use Rattle.growth.proofs.Holders.{link_of, linked_at}

-- rising entries are sorted
pub rises_sorted : (es : List Entry) → T (every of_class es) → T (rising es) → Sorted layer_order (map view_of es)
unfolding every rising
rises_sorted [] c r = s[]
rises_sorted (e ∷ []) c r = a[] s∷ s[]
rises_sorted (e ∷ d ∷ es) c r = by (rises_sorted (d ∷ es) (and_right (of_class e) _ c) (and_right (less e d) _ r))
  where
    lt : layer_order (view_of e).0 (view_of d).0 ≡ Ordering.lt
    lt =
        ap (λ (k : IkeyClass). layer_order k (view_of d).0) (view-key e (and_left (of_class e) _ c))
        ∙ against-view e.ikey (rank e) d (and_left (of_class d) _ (and_right (of_class e) _ c))
        ∙ is-less (is_true (less e d) (and_left (less e d) _ r))

    by : Sorted layer_order (view_of d ∷ map view_of es) → Sorted layer_order (view_of e ∷ view_of d ∷ map view_of es)
    by (x s∷ s) = (lt a∷ all_map (λ y. layer-order.trans (view_of e).0 (view_of d).0 y.0 lt) x) s∷ x s∷ s

all-at : {A : Type 0} {P : A → Type 0} {xs : List A} → All P xs → (p : ℕ) (z : A) → p < length xs → P (get_or xs p z)
all-at a[] p z h = absurd (omega arith)
all-at (q a∷ qs) zero z h = q
all-at (q a∷ qs) (suc p) z h = all-at qs p z (omega arith)

-- a value at the key of position p
pub altered-at : (w : Pointer) (k : IkeyClass) (xs : List (IkeyClass × Pointer)) → Sorted layer_order xs
    → (p : ℕ) (z : IkeyClass × Pointer) → p < length xs → (get_or xs p z).0 ≡ k
    → alter layer_order k (λ o. some w) xs ≡ take p xs ++ (k, w) ∷ drop (suc p) xs
unfolding alter
altered-at w k [] s p z h e = absurd (omega arith)
altered-at w k (x ∷ xs) (a s∷ s) zero z h e =
    let q : layer_order k x.0 ≡ Ordering.eq = ap (layer_order k) e ∙ layer-order.same k in rw q
altered-at w k (x ∷ xs) (a s∷ s) (suc p) z h e =
    let q : layer_order k x.0 ≡ Ordering.gt = gt-of-lt layer-order (ap (layer_order x.0) (sym e) ∙ all-at a p z (omega arith)) in
    rw q (ap (x ∷◌) (altered-at w k xs s p z (omega arith) e))

module _ (nodes : List ℕ) (n : ℕ) (N : Nodes nodes n) (k : ℕ) (h : k < n) (t : T (leaf_right nodes k)) (p : ℕ)
    (p< : p < length (entries_at nodes k)) where
  abbrev es : List Entry
  es = entries_at nodes k

  abbrev old : Entry
  old = get_or es p leaf.none

  abbrev linked : ℕ → Node Pointer
  linked v = linked_at nodes n N k h t p p< v

  -- the key of a link there
  abbrev pub link_key : IkeyClass
  link_key = (suc old.ikey, 9)

  old-key : rank old ≡ 9 → (view_of old).0 ≡ link_key
  old-key r = view-key old (holds (lists.every-at of_class leaf.none es (is_true _ (leaf-classes nodes k t)) p p<))
      ∙ ap (λ (c : ℕ). (suc old.ikey, c)) r

  -- a link at position p is the entry of its key altered
  pub linked-is : rank old ≡ 9 → (v : ℕ) → linked v
      ≡ leaf (alter layer_order link_key (λ o. some (link v)) (leaf_entries (node_in (View nodes n) k)))
  unfolding seen_as
  linked-is r v =
      let xs = map view_of es in
      let at_p : (get_or xs p (view_of leaf.none)).0 ≡ link_key =
      ap (λ (x : IkeyClass × Pointer). x.0) (get_or-map view_of es p leaf.none) ∙ old-key r in
      let a : alter layer_order link_key (λ o. some (link v)) xs ≡ take p xs ++ (link_key, link v) ∷ drop (suc p) xs =
      altered-at (link v) link_key xs (rises_sorted es (leaf-classes nodes k t) (leaf-rises nodes k t)) p (view_of leaf.none)
      (omega (arith, length-map es view_of)) at_p in
      let m : map view_of (take p es ++ link_of old.ikey v ∷ drop (suc p) es) ≡ take p xs ++ (link_key, link v) ∷ drop (suc p) xs =
      map-append view_of (take p es) (link_of old.ikey v ∷ drop (suc p) es)
      ∙ ap₂ (λ (x y : List (IkeyClass × Pointer)). x ++ (link_key, link v) ∷ y) (lists.map-take view_of p es)
      (lists.map-drop view_of (suc p) es) in
      ap leaf (m ∙ sym a ∙ ap (alter layer_order link_key (λ o. some (link v)))
      (sym (ap leaf_entries (view-at nodes n k h ∙ view-leaf nodes k t))))
