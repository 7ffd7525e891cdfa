-- The trees' layers of a conflict: a node in use may be written before them or after. Assumes nothing.
use mathlib.Core.Path.{◌≡◌, refl, sym, ap, ◌∙◌, subst}
use mathlib.Core.List.{List, [], ◌∷◌}
use Prim.Native.Nat.{ℕ, zero, suc, ◌≤◌, Ordering}
use native.Mathlib.Omega.{arith}
use lib.ListN.{length, get_or, set}
use lib.Seq.{set_comm, get_or-set_other}
use Rattle.order.specs.Map.{pick}
use Rattle.trees.specs.Nodes.{layer_order, Node, free, leaf, NodeList, node_in, InUse}
use Rattle.trees.specs.FreeNumbers.{free_numbers, lowest_free}
use Rattle.trees.specs.Paths.{layer_key, path_down}
use Rattle.trees.specs.Entries.{cell_key}
use Rattle.trees.specs.Layers.{Pointer, link}
use Rattle.trees.specs.LayersPut.{conflict_count, conflict_leaf, conflict_written}
use Rattle.trees.proofs.FreeNumbers.{free-kept, in-use-not-lowest, lowest-taken}

-- ---- a node in use may be written before the layers or after

module _ (at : ℕ → List ℕ × ℕ) (K : List ℕ) (c b : ℕ) where
  one_set : (m : NodeList Pointer) (k : ℕ) (x : Node Pointer) → InUse (node_in m k) → InUse x → 1 ≤ length (free_numbers 0 m)
      → (y : List ℕ → Node Pointer)
      → set (set m k x) (lowest_free (set m k x)) (y (free_numbers 0 (set m k x))) ≡ set (set m (lowest_free m) (y (free_numbers 0 m))) k x
  one_set m k x u v h y = by (free_numbers 0 m) refl
    where
      by : (fs : List ℕ) → free_numbers 0 m ≡ fs → set (set m k x) (lowest_free (set m k x)) (y (free_numbers 0 (set m k x)))
          ≡ set (set m (lowest_free m) (y (free_numbers 0 m))) k x
      by [] e = absurd (omega (arith, h, ap length e))
      by (r ∷ fs) e =
          rw (free-kept m 0 k x u v, e) (set_comm m k r x (y (r ∷ fs)) (in-use-not-lowest m k r fs u e))

  pub layers-set : (l : ℕ) (ks : List ℕ) (m : NodeList Pointer) (k : ℕ) (x : Node Pointer) → InUse (node_in m k) → InUse x
      → conflict_count K (cell_key at b) l ks ≤ length (free_numbers 0 m)
      → conflict_written at K c b l ks (set m k x) ≡ set (conflict_written at K c b l ks m) k x
  layers-set zero ks m k x u v h = one_set m k x u v h (λ fs. leaf (conflict_leaf at K c ks b))
  layers-set (suc l) ks m k x u v h = by (layer_order (layer_key ks K) (layer_key ks (cell_key at b))) h (layers-set l (path_down K ks))
    where
      deep : NodeList Pointer → NodeList Pointer
      deep m = set m (lowest_free m) (leaf ((layer_key ks K, link (get_or (free_numbers 0 m) 1 0)) ∷ []))

      one : NodeList Pointer → NodeList Pointer
      one m = set m (lowest_free m) (leaf (conflict_leaf at K c ks b))

      still : (fs : List ℕ) → free_numbers 0 m ≡ fs → 1 ≤ length fs
          → InUse (node_in (deep m) k) × (length (free_numbers 0 m) ≡ suc (length (free_numbers 0 (deep m))))
      still [] e g = absurd (omega arith)
      still (r ∷ fs) e g =
          let y = leaf ((layer_key ks K, link (get_or (r ∷ fs) 1 0)) ∷ []) in
          let t = lowest-taken m r fs y tt e in
          rw (e) (subst InUse (sym (get_or-set_other m r k y free (in-use-not-lowest m k r fs u e))) u, ap suc (ap length (sym t.1)))

      by : (o : Ordering) → pick o 1 (suc (conflict_count K (cell_key at b) l (path_down K ks))) 1 ≤ length (free_numbers 0 m)
          → ((m : NodeList Pointer) (k : ℕ) (x : Node Pointer) → InUse (node_in m k) → InUse x
          → conflict_count K (cell_key at b) l (path_down K ks) ≤ length (free_numbers 0 m)
          → conflict_written at K c b l (path_down K ks) (set m k x) ≡ set (conflict_written at K c b l (path_down K ks) m) k x)
          → pick o (one (set m k x)) (conflict_written at K c b l (path_down K ks) (deep (set m k x))) (one (set m k x))
          ≡ set (pick o (one m) (conflict_written at K c b l (path_down K ks) (deep m)) (one m)) k x
      by Ordering.lt g ih = one_set m k x u v g (λ fs. leaf (conflict_leaf at K c ks b))
      by Ordering.gt g ih = one_set m k x u v g (λ fs. leaf (conflict_leaf at K c ks b))
      by Ordering.eq g ih =
          let s = still (free_numbers 0 m) refl (omega arith) in
          ap (conflict_written at K c b l (path_down K ks))
          (one_set m k x u v (omega arith) (λ fs. leaf ((layer_key ks K, link (get_or fs 1 0)) ∷ [])))
          ∙ ih (deep m) k x s.0 v (omega (arith, s.1))
