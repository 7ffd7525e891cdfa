-- The whole tree: what clear leaves, the search, the listing and the removal are those of the sorted map. Assumes nothing.
use mathlib.Core.Bool.{Bool, true, false, cond, not}
use mathlib.Core.List.{List, [], ◌∷◌, map}
use mathlib.Core.Logic.{◌≢◌}
use mathlib.Core.Option.{none, some}
use mathlib.Core.Path.{◌≡◌, refl, sym, ap, ◌∙◌, subst}
use Prim.Native.Nat.{ℕ, ◌≤◌, ◌<◌, zero, suc, ◌+◌}
use native.Mathlib.Decide.{ℕ_discrete}
use native.Mathlib.Omega.{arith}
use lib.Arith.{lt_of_le-ne}
use lib.Dec.{eqb, T, eqb→eq, leb, ltb, ltb→lt, leb→le, nleb→lt}
use lib.ListN.{length, set, length-set, replicate, length-replicate}
use Rattle.order.specs.Bytes.{Bytes, bytewise}
use Rattle.order.specs.Lists.{total, flattened}
use Rattle.order.specs.Map.{a[], Sorted, alter, lookup, s[]}
use Rattle.order.specs.Options.{map_option, worth}
use Rattle.trees.specs.Nodes.{IkeyClass, Node, free, leaf, NodeList, one_at}
use Rattle.trees.specs.FreeNumbers.{free_numbers, times_in}
use Rattle.trees.specs.TreePut.{CutsWell}
use Rattle.trees.specs.Paths.{raised_ikey}
use Rattle.trees.specs.Entries.{RightLayer, EntryValue, entry_listing, cell_uses}
use Rattle.trees.specs.EntriesFound.{entries_find}
use Rattle.trees.specs.Cells.{CellList, cell_at, free_cell_numbers}
use Rattle.trees.specs.Layers.{Pointer, Layered}
use Rattle.trees.specs.LayersFound.{layers_find, layers_cells, layers_remove}
use Rattle.trees.specs.WholeTree.{ones_below, bare_entries, layer_uses, layer_listing, IsWholeTree, all_free}
use Rattle.trees.proofs.Nodes.{one_at-same, one_at-other}
use Rattle.trees.proofs.NeededInLayer.{leb-is, leb-not}
use Rattle.trees.proofs.EntriesRight.{listing-is-sorted}
use Rattle.trees.proofs.CellsUsed.{layer-listing-same, right-layer-same}
use Rattle.trees.proofs.EntriesRemoved.{entries_find-list, layer-without-list, layer-without-right, layer-without-uses}
use Rattle.trees.proofs.Cells.{cell_other, cell-given}
use Rattle.trees.proofs.FindThroughLayers.{layers_find-is, layers_cells-is}
use Rattle.trees.proofs.RemoveThroughLayers.{layers_remove-became}
use Rattle.trees.proofs.WholeTree.{ones_below-le, below-no-links}

-- ---- counting what is below n

ones_below-inside : (n j : ℕ) → 1 ≤ ones_below n j → j < n
ones_below-inside n j h = go (ltb j n) (λ t. ltb→lt j n t) h
  where
    go : (b : Bool) → (T b → j < n) → 1 ≤ cond b 1 0 → j < n
    go true f h = f tt
    go false f h = absurd (omega arith)

pub ones_below-one : (n j : ℕ) → j < n → ones_below n j ≡ 1
ones_below-one n j h = rw (leb-is (suc j) n h)

pub ones_below-zero : (n j : ℕ) → n ≤ j → ones_below n j ≡ 0
ones_below-zero n j h = rw (leb-not (suc j) n (omega arith))

pub one_at-zero : (i j : ℕ) → i ≢ j → one_at i j ≡ 0
unfolding one_at
one_at-zero i j n = go (eqb i j) (eqb→eq i j)
  where
    go : (b : Bool) → (T b → i ≡ j) → ◌≡◌ {A = ℕ} (cond b 1 0) 0
    go true f = absurd (n (f tt))
    go false f = refl

ones_below-next : (i j : ℕ) → ones_below i j + one_at i j ≡ ones_below (suc i) j
ones_below-next i j = go (ℕ_discrete i j) (leb (suc j) i) (leb→le (suc j) i) (nleb→lt (suc j) i)
  where
    go : Dec (i ≡ j) → (b : Bool) → (T b → suc j ≤ i) → (T (not b) → i < suc j) → ones_below i j + one_at i j ≡ ones_below (suc i) j
    go (yes e) b f g = omega (arith, ones_below-zero i j (omega arith), ones_below-one (suc i) j (omega arith), ap (one_at i) e, one_at-same i)
    go (no n) true f g =
        let h : suc j ≤ i = f tt in omega (arith, ones_below-one i j (omega arith), ones_below-one (suc i) j (omega arith), one_at-zero i j n)
    go (no n) false f g =
        let h : i < suc j = g tt in
        omega (arith, ones_below-zero i j (omega arith), ones_below-zero (suc i) j (lt_of_le-ne (omega arith) n), one_at-zero i j n)

free_numbers-all : (n i j : ℕ) → ones_below i j + times_in (free_numbers i (all_free n)) j ≡ ones_below (i + n) j
free_numbers-all zero i j = let z : i + 0 ≡ i = omega arith in omega (arith, ap (λ (k : ℕ). ones_below k j) z)
free_numbers-all (suc n) i j =
    let z : suc i + n ≡ i + suc n = omega arith in
    omega (arith, ones_below-next i j, free_numbers-all n (suc i) j, ap (λ (k : ℕ). ones_below k j) z)

free_cell_numbers-all : (n i j : ℕ) → ones_below i j + times_in (free_cell_numbers i (replicate n none)) j ≡ ones_below (i + n) j
free_cell_numbers-all zero i j = let z : i + 0 ≡ i = omega arith in omega (arith, ap (λ (k : ℕ). ones_below k j) z)
free_cell_numbers-all (suc n) i j =
    let z : suc i + n ≡ i + suc n = omega arith in
    omega (arith, ones_below-next i j, free_cell_numbers-all n (suc i) j, ap (λ (k : ℕ). ones_below k j) z)

module _ (top mid : ℕ) (cut : List (IkeyClass × Pointer) → ℕ) (hi : ℕ) (l N C : ℕ) where
  -- the keys and frames, in order
  abbrev listed : CellList → Layered l → List (List ℕ × ℕ)
  listed cs v = layer_listing l cs v

  -- nodes and cells are the tree of these layers
  abbrev Whole : NodeList Pointer → CellList → ℕ → Layered l → Type 0
  Whole m cs r v = IsWholeTree top hi l N C m cs r v

  -- ---- clear, of suc n nodes

  pub whole-cleared : (n : ℕ) → N ≡ suc n → Whole (leaf [] ∷ all_free n) (replicate C none) 0 ((zero, (0, [])), [])
  whole-cleared n e = record {
    rooted = refl;
    holds = (((s[], a[], omega arith), refl), refl, a[]);
    good = (s[], a[]);
    size = (omega (arith, length-replicate {A = Node Pointer} n free), length-replicate C none);
    nodes = λ j. omega (
      arith,
      free_numbers-all n 1 j,
      ones_below-next 0 j,
      ones_below-zero 0 j (omega arith),
      ap (λ (k : ℕ). ones_below k j) (one-plus n ∙ sym e),
    );
    cells = λ j. omega (arith, free_cell_numbers-all C 0 j, ones_below-zero 0 j (omega arith), ap (λ (k : ℕ). ones_below k j) (zero-plus C));
  }
    where
      one-plus : (n : ℕ) → 1 + n ≡ suc n
      one-plus n = omega arith

      zero-plus : (n : ℕ) → 0 + n ≡ n
      zero-plus n = omega arith

  pub whole-sorted : (m : NodeList Pointer) (cs : CellList) (r : ℕ) (v : Layered l) → Whole m cs r v → Sorted bytewise (listed cs v)
  whole-sorted m cs r v T = listing-is-sorted (cell_at cs) l [] (bare_entries l v) T.good

  module _ (hi-ok : (K : List ℕ) → Bytes K → raised_ikey K < hi) where
    whole-find-cell : (m : NodeList Pointer) (cs : CellList) (r : ℕ) (v : Layered l) → Whole m cs r v → (K : List ℕ) → Bytes K
        → layers_find (cell_at cs) K l [] r m ≡ entries_find (cell_at cs) K l [] (bare_entries l v)
    whole-find-cell m cs r v T K by = subst (λ r. layers_find (cell_at cs) K l [] r m ≡ entries_find (cell_at cs) K l [] (bare_entries l v))
        T.rooted
        (layers_find-is top mid cut hi (cell_at cs) hi-ok K l [] m v (below-no-links K by) T.holds T.good
        (λ j. omega (arith, T.nodes j, ones_below-le N j)))

    pub whole-find : (m : NodeList Pointer) (cs : CellList) (r : ℕ) (v : Layered l) → Whole m cs r v → (K : List ℕ) → Bytes K
        → map_option (λ b. (cell_at cs b).1) (layers_find (cell_at cs) K l [] r m) ≡ lookup bytewise K (listed cs v)
    whole-find m cs r v T K by = ap (map_option (λ b. (cell_at cs b).1)) (whole-find-cell m cs r v T K by)
        ∙ entries_find-list (cell_at cs) K l [] (bare_entries l v) (below-no-links K by) T.good

    pub whole-listed : (m : NodeList Pointer) (cs : CellList) (r : ℕ) (v : Layered l) → Whole m cs r v
        → map (cell_at cs) (layers_cells l r m) ≡ listed cs v
    whole-listed m cs r v T = subst (λ r. map (cell_at cs) (layers_cells l r m) ≡ listed cs v) T.rooted
        (layers_cells-is top mid cut hi (cell_at cs) hi-ok l m v T.holds (λ j. omega (arith, T.nodes j, ones_below-le N j)))

    module _ (cut_ok : CutsWell Pointer top mid cut) (mid-lo : 1 ≤ mid) (mid-hi : mid ≤ suc top) (tp : 2 ≤ top) where
      pub whole-remove : (m : NodeList Pointer) (cs : CellList) (r : ℕ) (v : Layered l) → Whole m cs r v → (K : List ℕ) → Bytes K
          → (c : ℕ) → layers_find (cell_at cs) K l [] r m ≡ some c
          → let b = layers_remove top mid cut (cell_at cs) K l [] r m in
          (w : Layered l) × Whole b.1 (set cs c none) b.0 w × (listed (set cs c none) w ≡ alter bytewise K (λ o. none) (listed cs v))
      whole-remove m cs r v T K by c e =
          let cs' = set cs c none in
          let at = cell_at cs in
          let es = bare_entries l v in
          let sp : entries_find at K l [] es ≡ some c = sym (whole-find-cell m cs r v T K by) ∙ e in
          let (rt, w, D, E) = layers_remove-became top mid cut hi at K cut_ok mid-lo mid-hi tp hi-ok l [] m v (below-no-links K by)
          T.holds T.good (λ j. omega (arith, T.nodes j, ones_below-le N j)) c sp in
          let U : (j : ℕ) → layer_uses l w j + one_at c j ≡ layer_uses l v j = λ j.
          omega (
            arith,
            ap (λ (es : List (IkeyClass × EntryValue l)). total (λ e. cell_uses l e.1 j) es) E,
            layer-without-uses at K l [] es j,
            ap (worth (λ b. one_at b j)) sp,
          ) in
          let c< : c < length cs = rw T.size.1 (ones_below-inside C c (omega (arith, T.cells c, U c, one_at-same c))) in
          let gv = cell-given cs c c< (omega (arith, T.cells c, U c, one_at-same c, ones_below-le C c)) in
          let sm : (j : ℕ) → 0 < layer_uses l w j → cell_at cs' j ≡ at j =
          λ j g. cell_other cs c j none (one_at-other c j (omega (arith, U j, T.cells j, ones_below-le C j))) in
          let G : RightLayer at l [] (bare_entries l w) = subst (RightLayer at l []) (sym E) (layer-without-right at K l [] es T.good) in
          subst (λ r. let b = layers_remove top mid cut at K l [] r m in (w : Layered l) × Whole b.1 cs' b.0 w
          × (listed cs' w ≡ alter bytewise K (λ o. none) (listed cs v))) T.rooted (
            w,
            record {
              rooted = D.rooted;
              holds = D.holds;
              good = (G.0, right-layer-same at (cell_at cs') l [] sm G.1);
              size = (D.size ∙ T.size.0, length-set cs c none ∙ T.size.1);
              nodes = λ j. omega (arith, D.keep j, T.nodes j);
              cells = λ j. omega (arith, U j, T.cells j, gv j);
            },
            layer-listing-same at (cell_at cs') l (bare_entries l w) sm ∙ ap (flattened (entry_listing at l)) E
                ∙ layer-without-list at K l [] es (below-no-links K by) T.good,
          )
