-- The layers of a conflict, on memory, are those of the entries. Assumes nothing.
use mathlib.Core.List.{List, [], ◌∷◌, map}
use mathlib.Core.Logic.{◌≢◌, inr}
use mathlib.Core.Option.{some}
use mathlib.Core.Path.{◌≡◌, refl, sym, ap, ◌∙◌, subst}
use Prim.Native.Nat.{ℕ, ◌≤◌, ◌<◌, Ordering, zero, suc, ◌+◌}
use native.Mathlib.Omega.{arith}
use lib.ListN.{get_or, length, set, drop, length-set}
use lib.Seq.{get_or-set_same, get_or-set_other}
use Rattle.order.specs.Bytes.{Bytes}
use Rattle.order.specs.Map.{All, a[], ◌a∷◌, ◌s∷◌, alter, pick, s[]}
use Rattle.order.proofs.Changes.{alter-sum, alter-map}
use Rattle.order.proofs.Map.{alter-sorted, alter-all, alter-length}
use Rattle.trees.specs.Nodes.{IkeyClass, layer_order, free, leaf, NodeList, node_in, InBounds, one_at}
use Rattle.trees.specs.FreeNumbers.{free_numbers, times_in, lowest_free}
use Rattle.trees.specs.Paths.{raised_ikey, rest_below, BelowLinks, layer_key, path_down}
use Rattle.trees.specs.Entries.{EntryValue, cell_value, cell_key, FitsLayers}
use Rattle.trees.specs.EntriesPut.{two_entries, conflict_entries}
use Rattle.trees.specs.Layers.{Pointer, cell, link, LayeredValue, Layered, layered_cell, bare_value, bare_entry, layer_root, pointer_of}
use Rattle.trees.specs.Layers.{pointer_entry, value_reaches, LayerBecame}
use Rattle.trees.specs.LayersPut.{conflict_count, conflict_leaf, conflict_written}
use Rattle.trees.specs.LeafOfKey.{leaf_of_key}
use Rattle.trees.proofs.Nodes.{layer-order, one_at-same, one_at-other}
use Rattle.trees.proofs.FreeNumbers.{lowest-taken}
use Rattle.trees.proofs.Paths.{class-le, bytes_rest}
use Rattle.trees.proofs.EntriesPut.{short-class, same_key, fits_more, both-longer}
use Rattle.trees.proofs.Layers.{bare_value-one, pointer_of-one, value_reaches-one, HoldsValue-one, alter-holds}
use Rattle.trees.proofs.LeafOfKey.{found-put, two-entries, ends-here, goes_on}
use Rattle.order.proofs.Lookup.{lookup_head}

-- the ikey and class of the key in cell b, below a path
abbrev cell_layer_key : (ℕ → List ℕ × ℕ) → List ℕ → ℕ → IkeyClass
cell_layer_key at ks b = layer_key ks (cell_key at b)

module _ (top mid : ℕ) (cut : List (IkeyClass × Pointer) → ℕ) (hi : ℕ) (at : ℕ → List ℕ × ℕ) (c : ℕ) where
  -- ---- the layers of a conflict

  uncons : (fs : List ℕ) → 1 ≤ length fs → (r : ℕ) × (gs : List ℕ) × (fs ≡ r ∷ gs)
  uncons [] h = absurd (omega arith)
  uncons (r ∷ gs) h = (r, gs, refl)

  module _ (hi-ok : (K : List ℕ) → Bytes K → raised_ikey K < hi) (tp : 2 ≤ top) where
    pub cell_layer_key-lt : (ks : List ℕ) (b : ℕ) → BelowLinks ks (cell_key at b) → (cell_layer_key at ks b).0 < hi
    unfolding layer_key
    cell_layer_key-lt ks b u = hi-ok _ (bytes_rest ks (cell_key at b) u)

    -- the two cells in one layer, in order
    abbrev two_layered : (b l : ℕ) → List ℕ → List (IkeyClass × LayeredValue l)
    two_layered b l ks = alter layer_order (cell_layer_key at ks c) (λ o. some (layered_cell l c)) ((cell_layer_key at ks b, layered_cell l b) ∷ [])

    two_layered-pointers : (b l : ℕ) (ks : List ℕ) → map (pointer_entry l) (two_layered b l ks) ≡ conflict_leaf at (cell_key at c) c ks b
    two_layered-pointers b l ks = alter-map layer_order (cell_layer_key at ks c) (pointer_of l) (λ o. some (layered_cell l c))
        (λ o. some (cell c)) ((cell_layer_key at ks b, layered_cell l b) ∷ []) (ap some (pointer_of-one l c))
        ∙ ap (λ p. alter layer_order (cell_layer_key at ks c) (λ o. some (cell c)) ((cell_layer_key at ks b, p) ∷ [])) (pointer_of-one l b)

    two_layered-bare : (b l : ℕ) (ks : List ℕ) → map (bare_entry l) (two_layered b l ks) ≡ two_entries at c b l ks
    two_layered-bare b l ks = alter-map layer_order (cell_layer_key at ks c) (bare_value l) (λ o. some (layered_cell l c))
        (λ o. some (cell_value l c)) ((cell_layer_key at ks b, layered_cell l b) ∷ []) (ap some (bare_value-one l c))
        ∙ ap (λ p. alter layer_order (cell_layer_key at ks c) (λ o. some (cell_value l c)) ((cell_layer_key at ks b, p) ∷ [])) (bare_value-one l b)

    -- Memory m has become m', with a new layer in the lowest free node, for n nodes, whose entries are es; the leaf of the key has two.
    abbrev pub ConflictBecame : (b l : ℕ) → List ℕ → NodeList Pointer → List (IkeyClass × EntryValue l) → ℕ → NodeList Pointer → Type 0
    ConflictBecame b l ks m es n m' = (w : Layered l) × LayerBecame top hi l (λ j. 0) n m w (lowest_free m, m')
        × (map (bare_entry l) w.1 ≡ es) × (length (leaf_of_key (cell_key at c) l ks w) ≡ 2)

    -- the two cells' ikeys or classes differ at this layer
    abbrev Apart : (b : ℕ) → List ℕ → Type 0
    Apart b ks = layer_order (cell_layer_key at ks c) (cell_layer_key at ks b) ≢ Prim.Native.Nat.Ordering.eq

    last-became-at : (b l : ℕ) (ks : List ℕ) (m : NodeList Pointer) → BelowLinks ks (cell_key at c) → BelowLinks ks (cell_key at b)
        → Apart b ks → (r : ℕ) (fs : List ℕ) → free_numbers 0 m ≡ r ∷ fs
        → ConflictBecame b l ks m (two_entries at c b l ks) 1 (set m (lowest_free m) (leaf (conflict_leaf at (cell_key at c) c ks b)))
    last-became-at b l ks m uc ub apart r fs fe =
        let x = leaf (conflict_leaf at (cell_key at c) c ks b) in
        let (r<, left) = lowest-taken m r fs x tt fe in
        let F : ℕ → LayeredValue l → ℕ = λ j v. value_reaches l v j in (
          ((zero, (r, conflict_leaf at (cell_key at c) c ks b)), two_layered b l ks),
          rw fe (record {
            rooted = refl;
            holds = (
              (
                (
                  alter-sorted layer-order _ _ (a[] s∷ s[]),
                  alter-all layer-order (cell_layer_key at ks c) _ (λ w. (omega arith, cell_layer_key-lt ks c uc, class-le ks (cell_key at c)))
                      ((omega arith, cell_layer_key-lt ks b ub, class-le ks (cell_key at b)) a∷ a[]),
                  omega (arith, alter-length layer-order (cell_layer_key at ks c) (λ o. some (cell c)) ((cell_layer_key at ks b, cell b) ∷ [])),
                ),
                get_or-set_same m r x free r<,
              ),
              sym (two_layered-pointers b l ks),
              alter-holds top hi (set m r x) (set m r x) l (cell_layer_key at ks c) (layered_cell l c) (HoldsValue-one top hi _ l c)
                  (HoldsValue-one top hi _ l b a∷ a[]) (λ j g. refl),
            );
            left = left ∙ sym (ap (drop 1) fe);
            size = length-set m r x;
            same = λ j a e. get_or-set_other m r j x free (one_at-other r j (let y : times_in (r ∷ fs) j ≡ 0 = rw fe at e in omega arith));
            keep =
                λ j. rw (left, fe)
                (omega (
                  arith,
                  alter-sum layer_order (cell_layer_key at ks c) (F j) (λ o. some (layered_cell l c))
                      ((cell_layer_key at ks b, layered_cell l b) ∷ []),
                  value_reaches-one l c j,
                  value_reaches-one l b j,
                ));
          }),
          two_layered-bare b l ks,
          ap length (ends-here (cell_key at c) ks l c ((zero, (r, conflict_leaf at (cell_key at c) c ks b)), two_layered b l ks)
              (found-put (cell_layer_key at ks c) (layered_cell l c) ((cell_layer_key at ks b, layered_cell l b) ∷ [])))
              ∙ two-entries (cell_layer_key at ks c) (cell_layer_key at ks b) (cell c) (cell b) apart,
        )

    last-became : (b l : ℕ) (ks : List ℕ) (m : NodeList Pointer) → BelowLinks ks (cell_key at c) → BelowLinks ks (cell_key at b)
        → Apart b ks → 1 ≤ length (free_numbers 0 m)
        → ConflictBecame b l ks m (two_entries at c b l ks) 1 (set m (lowest_free m) (leaf (conflict_leaf at (cell_key at c) c ks b)))
    last-became b l ks m uc ub apart en = let (r, fs, fe) = uncons (free_numbers 0 m) en in last-became-at b l ks m uc ub apart r fs fe

    -- a leaf with one link over what the rest makes
    link-became : (b l : ℕ) (ks : List ℕ) (m : NodeList Pointer) → BelowLinks ks (cell_key at c)
        → ((j : ℕ) → times_in (free_numbers 0 m) j ≤ 1) → (r : ℕ) (fs : List ℕ) → free_numbers 0 m ≡ r ∷ fs
        → (es : List (IkeyClass × EntryValue l)) (n : ℕ) (m' : NodeList Pointer)
        → ConflictBecame b l (path_down (cell_key at c) ks) (set m r (leaf ((cell_layer_key at ks c, link (get_or fs 0 0)) ∷ []))) es n m'
        → ConflictBecame b (suc l) ks m ((cell_layer_key at ks c, inr es) ∷ []) (suc n) m'
    link-became b l ks m uc u r fs fe es n m' (w, D, E, F) =
        let y = leaf ((cell_layer_key at ks c, link (get_or fs 0 0)) ∷ []) in
        let (r<, left) = lowest-taken m r fs y tt fe in
        let lf : (j : ℕ) → times_in (free_numbers 0 (set m r y)) j + one_at r j ≡ times_in (free_numbers 0 m) j =
        λ j. rw (left, fe) (omega arith) in
        let g : node_in m' r ≡ leaf ((cell_layer_key at ks c, link (layer_root l w)) ∷ []) =
        D.same r refl (omega (arith, lf r, u r, one_at-same r)) ∙ get_or-set_same m r y free r<
        ∙ ap (λ (i : ℕ). leaf ((cell_layer_key at ks c, link i) ∷ [])) (sym (D.rooted ∙ ap (λ (l : List ℕ). get_or l 0 0) left)) in
        let bd : InBounds 0 hi (cell_layer_key at ks c, link (layer_root l w)) =
        (omega arith, cell_layer_key-lt ks c uc, class-le ks (cell_key at c)) in
        let al : All (InBounds 0 hi) ((cell_layer_key at ks c, link (layer_root l w)) ∷ []) = bd a∷ a[] in (
          ((zero, (r, (cell_layer_key at ks c, link (layer_root l w)) ∷ [])), (cell_layer_key at ks c, inr w) ∷ []),
          record {
            rooted = sym (ap (λ (l : List ℕ). get_or l 0 0) fe);
            holds = (((a[] s∷ s[], al, omega arith), g), refl, D.holds a∷ a[]);
            left = D.left ∙ ap (drop n) left ∙ sym (ap (drop (suc n)) fe);
            size = D.size ∙ length-set m r y;
            same = λ j a z. D.same j refl (omega (arith, lf j)) ∙ get_or-set_other m r j y free (one_at-other r j (omega (arith, lf j)));
            keep = λ j. omega (arith, D.keep j, lf j);
          },
          ap (λ es. (cell_layer_key at ks c, inr es) ∷ []) E,
          ap length (goes_on (cell_key at c) ks l (
            (zero, (r, (cell_layer_key at ks c, link (layer_root l w)) ∷ [])),
            (cell_layer_key at ks c, inr w) ∷ [],
          ) w (lookup_head layer-order (cell_layer_key at ks c, inr w) [])) ∙ F,
        )

    pub conflict-became : (b l : ℕ) (ks : List ℕ) (m : NodeList Pointer) → FitsLayers at l ks (cell_key at c)
        → FitsLayers at l ks (cell_key at b) → cell_key at c ≢ cell_key at b → ((j : ℕ) → times_in (free_numbers 0 m) j ≤ 1)
        → conflict_count (cell_key at c) (cell_key at b) l ks ≤ length (free_numbers 0 m)
        → ConflictBecame b l ks m (conflict_entries at c b l ks) (conflict_count (cell_key at c) (cell_key at b) l ks)
        (conflict_written at (cell_key at c) c b l ks m)
    conflict-became b zero ks m fc fb n u en =
        last-became b zero ks m fc.0 fb.0
        (λ q. n (same_key ks (cell_key at c) (cell_key at b) fc.0 fb.0 (layer-order.exact _ _ q)
        (short-class (rest_below ks (cell_key at c)) (omega (arith, fc.1))))) en
    conflict-became b (suc l) ks m fc fb n u en = go (layer_order (cell_layer_key at ks c) (cell_layer_key at ks b)) refl
        (conflict-became b l (path_down (cell_key at c) ks)) en
      where
        go : (o : Ordering) → layer_order (cell_layer_key at ks c) (cell_layer_key at ks b) ≡ o
            → ((m : NodeList Pointer) → FitsLayers at l (path_down (cell_key at c) ks) (cell_key at c)
            → FitsLayers at l (path_down (cell_key at c) ks) (cell_key at b) → cell_key at c ≢ cell_key at b
            → ((j : ℕ) → times_in (free_numbers 0 m) j ≤ 1)
            → conflict_count (cell_key at c) (cell_key at b) l (path_down (cell_key at c) ks) ≤ length (free_numbers 0 m)
            → ConflictBecame b l (path_down (cell_key at c) ks) m (conflict_entries at c b l (path_down (cell_key at c) ks))
            (conflict_count (cell_key at c) (cell_key at b) l (path_down (cell_key at c) ks))
            (conflict_written at (cell_key at c) c b l (path_down (cell_key at c) ks) m))
            → pick o 1 (suc (conflict_count (cell_key at c) (cell_key at b) l (path_down (cell_key at c) ks))) 1 ≤ length (free_numbers 0 m)
            → ConflictBecame b (suc l) ks m (pick o (two_entries at c b (suc l) ks)
            ((cell_layer_key at ks c, inr (conflict_entries at c b l (path_down (cell_key at c) ks))) ∷ []) (two_entries at c b (suc l) ks))
            (pick o 1 (suc (conflict_count (cell_key at c) (cell_key at b) l (path_down (cell_key at c) ks))) 1)
            (pick o (set m (lowest_free m) (leaf (conflict_leaf at (cell_key at c) c ks b)))
            (conflict_written at (cell_key at c) c b l (path_down (cell_key at c) ks)
            (set m (lowest_free m) (leaf ((cell_layer_key at ks c, link (get_or (free_numbers 0 m) 1 0)) ∷ []))))
            (set m (lowest_free m) (leaf (conflict_leaf at (cell_key at c) c ks b))))
        go Prim.Native.Nat.Ordering.lt q ih en = last-became b (suc l) ks m fc.0 fb.0
            (λ e. let z : ◌≡◌ {A = Ordering} Prim.Native.Nat.Ordering.lt Prim.Native.Nat.Ordering.eq = sym q ∙ e in let y : ◌≡◌ {A = ℕ} 0 1 = cc in omega arith) en
        go Prim.Native.Nat.Ordering.gt q ih en = last-became b (suc l) ks m fc.0 fb.0
            (λ e. let z : ◌≡◌ {A = Ordering} Prim.Native.Nat.Ordering.gt Prim.Native.Nat.Ordering.eq = sym q ∙ e in let y : ◌≡◌ {A = ℕ} 0 1 = cc in omega arith) en
        go Prim.Native.Nat.Ordering.eq q ih en =
            let e : cell_layer_key at ks c ≡ cell_layer_key at ks b = layer-order.exact _ _ q in
            let x : cell_layer_key at ks c ≡ ((cell_layer_key at ks c).0, 9) =
            both-longer at (suc l) ks (cell_key at c) (cell_key at b) fc fb n e in
            let (r, fs, fe) = uncons (free_numbers 0 m) (omega arith) in
            let y = leaf ((cell_layer_key at ks c, link (get_or fs 0 0)) ∷ []) in
            let (r<, left) = lowest-taken m r fs y tt fe in
            let z : set m (lowest_free m) (leaf ((cell_layer_key at ks c, link (get_or (free_numbers 0 m) 1 0)) ∷ [])) ≡ set m r y =
            ap (λ (l : List ℕ). set m (get_or l 0 0) (leaf ((cell_layer_key at ks c, link (get_or l 1 0)) ∷ []))) fe in
            let en' : conflict_count (cell_key at c) (cell_key at b) l (path_down (cell_key at c) ks) ≤ length (free_numbers 0 (set m r y)) =
            omega (arith, ap length fe, ap length left) in
            let u' : (j : ℕ) → times_in (free_numbers 0 (set m r y)) j ≤ 1 =
            λ j. omega (arith, u j, ap (λ (l : List ℕ). times_in l j) left, ap (λ (l : List ℕ). times_in l j) fe) in
            link-became b l ks m fc.0 u r fs fe (conflict_entries at c b l (path_down (cell_key at c) ks))
            (conflict_count (cell_key at c) (cell_key at b) l (path_down (cell_key at c) ks))
            (conflict_written at (cell_key at c) c b l (path_down (cell_key at c) ks)
            (set m (lowest_free m) (leaf ((cell_layer_key at ks c, link (get_or (free_numbers 0 m) 1 0)) ∷ []))))
            (subst (λ m₁. ConflictBecame b l (path_down (cell_key at c) ks) (set m r y)
            (conflict_entries at c b l (path_down (cell_key at c) ks))
            (conflict_count (cell_key at c) (cell_key at b) l (path_down (cell_key at c) ks))
            (conflict_written at (cell_key at c) c b l (path_down (cell_key at c) ks) m₁)) (sym z)
            (ih (set m r y) (fits_more at l ks (cell_layer_key at ks c).0 (cell_key at c) fc x)
            (fits_more at l ks (cell_layer_key at ks c).0 (cell_key at b) fb (sym e ∙ x)) n u' en'))
