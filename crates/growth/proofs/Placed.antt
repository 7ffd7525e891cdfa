-- A key's entry in its layer, in the trees' own words: layer keys, the height read off memory, and the nodes needed. Assumes nothing.
use mathlib.Core.Path.{◌≡◌, refl, sym, ap, ap₂, ◌∙◌, subst}
use mathlib.Core.List.{List}
use mathlib.Core.Option.{Option, none, some}
use Prim.Native.Nat.{ℕ, suc, ◌+◌, ◌≤◌, ◌<◌}
use native.Mathlib.Omega.{arith}
use lib.ListN.{length}
use Rattle.leaf_entries.specs.declared.Entry.{Entry}
use Rattle.forest.specs.Walk.{height_at}
use Rattle.order.specs.Map.{alter, lookup}
use Rattle.trees.specs.Nodes.{IkeyClass, layer_order, NodeList}
use Rattle.trees.specs.FreeNumbers.{free_numbers, times_in}
use Rattle.trees.specs.Tree.{AnyTree, any_root, any_entries, any_reaches, HoldsAny}
use Rattle.trees.specs.TreePut.{tree_find, layer_needs, any_leaf, leaf_kept}
use Rattle.trees.specs.Cut.{cut_place}
use Rattle.trees.specs.PutInMemory.{layer_put}
use Rattle.trees.specs.FindInMemory.{memory_needs}
use Rattle.trees.specs.Paths.{layer_key}
use Rattle.trees.specs.Layers.{Pointer, cell}
use Rattle.trees.specs.LayersPut.{height_in}
use Rattle.trees.proofs.FindInTree.{height_from-is, tree_find-is, memory_needs-new}
use Rattle.trees.proofs.OneLayer.{lows-agree}
use Rattle.trees.proofs.Depth.{height-below-length}
use Rattle.model.specs.Needed.{need_in}
use Rattle.model.specs.Leaves.{rest_of}
use Rattle.model.specs.Grow.{entry_for, layer_grown, layer_rests}
use Rattle.growth.proofs.Memory.{Nodes, View}
use Rattle.growth.proofs.Entries.{key_of, putting}
use Rattle.growth.proofs.LayerGrown.{LayerGrows, layer-grown}
use Rattle.growth.proofs.LayerKeys.{layer-key}
use Rattle.growth.proofs.Needs.{need-layer}
use Rattle.growth.proofs.Rests.{layer-rests}

module _ (nodes : List ℕ) (n : ℕ) (N : Nodes nodes n) (n≤ : n ≤ 255) (hi : ℕ) (K ks : List ℕ) (c : ℕ) (below : (layer_key ks K).0 < hi)
    (t : AnyTree Pointer) where
  abbrev seen : NodeList Pointer
  seen = View nodes n

  abbrev r : ℕ
  r = any_root Pointer t

  abbrev entry : Entry
  entry = entry_for K c (length ks)

  small : entry.class ≤ 9
  unfolding entry_for
  small = omega arith

  key-is : key_of entry small ≡ layer_key ks K
  unfolding entry_for
  key-is = sym (layer-key ks K)

  ikey-is : suc entry.ikey ≡ (layer_key ks K).0
  ikey-is = ap (λ (k : IkeyClass). k.0) key-is

  putting-is : putting entry small ≡ (λ (o : Option Pointer). some (cell c))
  unfolding entry_for
  putting-is = refl

  module _ (H : HoldsAny Pointer 15 hi seen t) (once : (j : ℕ) → any_reaches Pointer t j + times_in (free_numbers 0 seen) j ≤ 1) where
    pub tall-is : height_in seen r ≡ t.0
    tall-is =
        let low = lows-agree Pointer 15 9 cut_place hi t.0 0 hi t.1 H.0 in
        height_from-is Pointer 15 seen t.0 (length seen)
        (height-below-length Pointer 15 seen t.0 0 t.1 H.1 low (λ j. omega (arith, once j))) 0 t.1 H.1 low

    -- the nodes needed
    pub needed-is : need_in nodes (height_at nodes 255 r) r entry.ikey 1
        ≡ memory_needs Pointer 15 (height_in seen r) (layer_key ks K).0 (0, r) seen 1
    needed-is =
        need-layer nodes n N entry.ikey n≤ hi (omega (arith, ikey-is)) t H (λ j. omega (arith, once j))
        ∙ ap (λ (x : ℕ). memory_needs Pointer 15 (height_in seen r) x (0, r) seen 1) ikey-is

    -- the layer with the entry more
    pub missing-grown : (holder : ℕ) → lookup layer_order (layer_key ks K) (any_entries Pointer t) ≡ none
        → memory_needs Pointer 15 (height_in seen r) (layer_key ks K).0 (0, r) seen 1 ≤ length (free_numbers 0 seen)
        → LayerGrows (any_reaches Pointer t) nodes n holder r (layer_grown nodes n holder r entry)
        (layer_put Pointer 15 9 cut_place (height_in seen r) (layer_key ks K) (λ o. some (cell c)) r seen)
    missing-grown holder new en =
        let key = key_of entry small in
        let f = putting entry small in
        let low = lows-agree Pointer 15 9 cut_place hi t.0 0 hi t.1 H.0 in
        let no : lookup layer_order key (any_entries Pointer t) ≡ none =
        ap (λ (k : IkeyClass). lookup layer_order k (any_entries Pointer t)) key-is ∙ new in
        let none-there : tree_find Pointer t.0 key (0, t.1) ≡ none =
        tree_find-is Pointer 15 key t.0 0 hi (0, t.1) (omega arith) (omega (arith, ikey-is)) H.0 ∙ no in
        let need : layer_needs Pointer 15 9 cut_place key f t ≡ memory_needs Pointer 15 (height_in seen r) (layer_key ks K).0 (0, r) seen 1 =
        sym (memory_needs-new Pointer 15 9 cut_place key (cell entry.at) seen t.0 1 (0, t.1) H.1 low none-there)
        ∙ ap₂ (λ (d x : ℕ). memory_needs Pointer 15 d x (0, r) seen 1) (sym tall-is) ikey-is in
        subst (λ (b : ℕ × NodeList Pointer). LayerGrows (any_reaches Pointer t) nodes n holder r (layer_grown nodes n holder r entry) b)
        (ap₂ (λ (d : ℕ) (k : IkeyClass). layer_put Pointer 15 9 cut_place d k f r seen) (sym tall-is) key-is
        ∙ ap (λ (g : Option Pointer → Option Pointer). layer_put Pointer 15 9 cut_place (height_in seen r) (layer_key ks K) g r seen)
        putting-is)
        (layer-grown nodes n N n≤ entry small hi (omega (arith, ikey-is)) t holder H once no (omega (arith, en, need)))

    -- and how many slots rest then where the entry is
    pub missing-rests : lookup layer_order (layer_key ks K) (any_entries Pointer t) ≡ none
        → layer_rests nodes n r entry ≡ rest_of (length (leaf_kept Pointer 15 cut_place (layer_key ks K).0
        (alter layer_order (layer_key ks K) (λ o. some (cell c)) (any_leaf Pointer (layer_key ks K).0 t))))
    missing-rests new =
        let no : lookup layer_order (key_of entry small) (any_entries Pointer t) ≡ none =
        ap (λ (k : IkeyClass). lookup layer_order k (any_entries Pointer t)) key-is ∙ new in
        layer-rests nodes n N entry small n≤ hi (omega (arith, ikey-is)) t H (λ j. omega (arith, once j)) no
        ∙ ap₂ (λ (k : IkeyClass) (g : Option Pointer → Option Pointer). rest_of (length (leaf_kept Pointer 15 cut_place k.0
        (alter layer_order k g (any_leaf Pointer k.0 t))))) key-is putting-is
