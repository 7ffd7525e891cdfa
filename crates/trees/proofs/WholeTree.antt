-- A put into the whole tree: it stays one, and its listing changes as the sorted map. Assumes nothing.
use mathlib.Core.Bool.{Bool, true, false, cond}
use mathlib.Core.List.{List, [], ◌∷◌}
use mathlib.Core.Logic.{◌≢◌}
use mathlib.Core.Option.{some}
use mathlib.Core.Path.{◌≡◌, sym, ap, ◌∙◌, subst, ap₂}
use Prim.Native.Nat.{ℕ, ◌≤◌, ◌<◌, suc, ◌+◌, ◌*◌}
use native.Mathlib.Omega.{arith}
use lib.Dec.{ltb}
use lib.ListN.{length, set, drop, length-set}
use Rattle.order.specs.Bytes.{Bytes, bytewise}
use Rattle.order.specs.Lists.{total, flattened}
use Rattle.order.specs.Map.{All, alter}
use Rattle.trees.specs.Nodes.{IkeyClass, NodeList, one_at}
use Rattle.trees.specs.FreeNumbers.{free_numbers, times_in}
use Rattle.trees.specs.TreePut.{CutsWell}
use Rattle.trees.specs.Paths.{raised_ikey, rest_below, BelowLinks}
use Rattle.trees.specs.Entries.{RightLayer, EntryValue, cell_key, entry_listing, FitsLayers, NewKey, cell_uses}
use Rattle.trees.specs.Cells.{CellList, cell_at, free_cell_numbers}
use Rattle.trees.specs.Layers.{Pointer, Layered, layer_root}
use Rattle.trees.specs.LayersPut.{layers_put, layers_need}
use Rattle.trees.specs.LeafOfKey.{leaf_of_key, size_after_put}
use Rattle.trees.specs.WholeTree.{ones_below, bare_entries, layer_uses, layer_listing, IsWholeTree}
use Rattle.trees.proofs.Nodes.{one_at-other}
use Rattle.trees.proofs.EntriesPut.{layer-put-list}
use Rattle.trees.proofs.EntriesRight.{layer-put-right}
use Rattle.trees.proofs.CellsUsed.{layer-listing-same, right-layer-same, layer-put-uses}
use Rattle.trees.proofs.Cells.{cell-taken, cell_same, cell_other}
use Rattle.trees.proofs.PutThroughLayers.{PutBecame, layers_put-became}
use Rattle.trees.proofs.NeededThroughLayers.{layers_need-same}

pub ones_below-le : (n j : ℕ) → ones_below n j ≤ 1
ones_below-le n j = go (ltb j n)
  where
    go : (b : Bool) → cond b 1 0 ≤ 1
    go true = omega arith
    go false = omega arith

pub below-no-links : (K : List ℕ) → Bytes K → BelowLinks [] K
unfolding BelowLinks
below-no-links K by = by

pub fits-first-layer : (at : ℕ → List ℕ × ℕ) (l : ℕ) (K : List ℕ) → Bytes K → length K ≤ 8 * suc l → FitsLayers at l [] K
unfolding BelowLinks rest_below
fits-first-layer at l K by le = (by, le)

module _ (top mid : ℕ) (cut : List (IkeyClass × Pointer) → ℕ) (hi : ℕ) (l N C : ℕ) where
  module _ (cut_ok : CutsWell Pointer top mid cut) (mid-lo : 1 ≤ mid) (mid-hi : mid ≤ suc top)
      (tp : 2 ≤ top) (hi-ok : (K : List ℕ) → Bytes K → raised_ikey K < hi) where
    -- a new key K with frame x, into the lowest free cell c
    pub whole-put : (m : NodeList Pointer) (cs : CellList) (r : ℕ) (v : Layered l) → IsWholeTree top hi l N C m cs r v
        → (K : List ℕ) (x : ℕ) → Bytes K → length K ≤ 8 * suc l
        → All (λ e. K ≢ e.0) (layer_listing l cs v) → (c : ℕ) (fs : List ℕ) → free_cell_numbers 0 cs ≡ c ∷ fs
        → let cs' = set cs c (some (K, x)) in let n = layers_need top (cell_at cs) K l [] r m in let b = layers_put top mid cut
        (cell_at cs') K c l [] r m in n ≤ length (free_numbers 0 m)
        → (w : Layered l) × IsWholeTree top hi l N C b.1 cs' b.0 w
        × (layer_listing l cs' w ≡ alter bytewise K (λ o. some x) (layer_listing l cs v)) × (free_numbers 0 b.1 ≡ drop n (free_numbers 0 m))
        × (length (leaf_of_key K l [] w) ≡ size_after_put K top cut c l [] v)
    whole-put m cs r v T K x by le new c fs fe en =
        let cs' = set cs c (some (K, x)) in
        let at = cell_at cs in
        let at' = cell_at cs' in
        let es = bare_entries l v in
        let (c<, left) = cell-taken cs c fs (K, x) fe in
        let ce : at' c ≡ (K, x) = cell_same cs c (K, x) c< in
        let fr : (j : ℕ) → times_in (free_cell_numbers 0 cs) j ≡ one_at c j + times_in fs j = λ j. ap (λ (l : List ℕ). times_in l j) fe in
        let sm : (j : ℕ) → 0 < layer_uses l v j → at' j ≡ at j =
        λ j g. cell_other cs c j (some (K, x)) (one_at-other c j (omega (arith, T.cells j, fr j, ones_below-le C j))) in
        let good' : RightLayer at' l [] es = (T.good.0, right-layer-same at at' l [] sm T.good.1) in
        let ls : flattened (entry_listing at' l) es ≡ layer_listing l cs v = layer-listing-same at at' l es sm in
        let new' : NewKey at' c (flattened (entry_listing at' l) es) =
        subst (λ (xs : List (List ℕ × ℕ)). All (λ e. cell_key at' c ≢ e.0) xs) (sym ls)
        (subst (λ (y : List ℕ × ℕ). All (λ e. y.0 ≢ e.0) (layer_listing l cs v)) (sym ce) new) in
        let fits : FitsLayers at' l [] (cell_key at' c) =
        subst (λ (y : List ℕ × ℕ). FitsLayers at' l [] y.0) (sym ce) (fits-first-layer at' l K by le) in
        let q = T.rooted in
        let kc : cell_key at' c ≡ K = ap (λ (y : List ℕ × ℕ). y.0) ce in
        let ns : layers_need top at' K l [] (layer_root l v) m ≡ layers_need top at K l [] (layer_root l v) m =
        layers_need-same top mid cut hi at at' K hi-ok l [] m v (below-no-links K by) T.holds T.good
        (λ j. omega (arith, T.nodes j, ones_below-le N j)) sm in
        let Z : PutBecame top mid cut hi at' c l [] m v (layers_need top at' K l [] (layer_root l v) m)
        (layers_put top mid cut at' K c l [] (layer_root l v) m) =
        subst (λ (J : List ℕ). layers_need top at' J l [] (layer_root l v) m ≤ length (free_numbers 0 m)
        → PutBecame top mid cut hi at' c l [] m v (layers_need top at' J l [] (layer_root l v) m)
        (layers_put top mid cut at' J c l [] (layer_root l v) m)) kc
        (layers_put-became top mid cut hi at' c cut_ok mid-lo mid-hi tp hi-ok l [] m v fits T.holds good' new'
        (λ j. omega (arith, T.nodes j, ones_below-le N j)))
        (subst (λ n. n ≤ length (free_numbers 0 m)) (sym ns)
        (subst (λ r. layers_need top at K l [] r m ≤ length (free_numbers 0 m)) (sym q) en)) in
        let (w, D, E, F) = Z in
        let U : (j : ℕ) → layer_uses l w j ≡ one_at c j + layer_uses l v j =
        λ j. ap (λ (es : List (IkeyClass × EntryValue l)). total (λ e. cell_uses l e.1 j) es) E
        ∙ layer-put-uses at' c l [] es j fits good'.1 new' in
        let L : layer_listing l cs' w ≡ alter bytewise K (λ o. some x) (layer_listing l cs v) =
        ap (flattened (entry_listing at' l)) E ∙ layer-put-list at' c l [] es fits good'.0 good'.1 new'
        ∙ ap₂ (λ (y : List ℕ × ℕ) (xs : List (List ℕ × ℕ)). alter bytewise y.0 (λ o. some y.1) xs) ce ls in
        let G : RightLayer at' l [] (bare_entries l w) =
        subst (RightLayer at' l []) (sym E) (layer-put-right at' c l [] es fits good' new') in
        subst (λ r. let n = layers_need top at K l [] r m in let b = layers_put top mid cut at' K c l [] r m in
        (w : Layered l) × IsWholeTree top hi l N C b.1 cs' b.0 w
        × (layer_listing l cs' w ≡ alter bytewise K (λ o. some x) (layer_listing l cs v))
        × (free_numbers 0 b.1 ≡ drop n (free_numbers 0 m))
        × (length (leaf_of_key K l [] w) ≡ size_after_put K top cut c l [] v)) q (
          w,
          record {
            rooted = D.rooted;
            holds = D.holds;
            good = G;
            size = (D.size ∙ T.size.0, length-set cs c (some (K, x)) ∙ T.size.1);
            nodes = λ j. omega (arith, D.keep j, T.nodes j);
            cells = λ j. omega (arith, U j, T.cells j, fr j, ap (λ (l : List ℕ). times_in l j) left);
          },
          L,
          D.left ∙ ap (λ n. drop n (free_numbers 0 m)) ns,
          subst (λ (J : List ℕ). length (leaf_of_key J l [] w) ≡ size_after_put J top cut c l [] v) kc F,
        )
