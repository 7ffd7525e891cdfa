-- The layers on a key's way as trees, from the last upward, and what a step does to them: the last goes, and the one above it has an entry
-- less. Assumes nothing.
use mathlib.Core.Path.{◌≡◌, refl, sym, ap, ◌∙◌}
use mathlib.Core.Bool.{Bool, false}
use mathlib.Core.Logic.{◌≢◌, inl, inr}
use mathlib.Core.List.{List, [], ◌∷◌, ◌++◌}
use mathlib.Core.Option.{none, some}
use Prim.Native.Nat.{ℕ, zero, suc, ◌+◌}
use native.Mathlib.Decide.{ℕ_discrete}
use native.Mathlib.Omega.{arith}
use lib.Dec.{eqb}
use lib.ListN.{length, set, length-map}
use lib.Seq.{get_or-set_same, get_or-set_other}
use borrow.Author.Tests.{ne_eqb}
use Rattle.order.specs.Lists.{total}
use Rattle.order.specs.Map.{lookup, alter}
use Rattle.order.specs.Options.{worth}
use Rattle.order.proofs.Changes.{alter-sum}
use Rattle.trees.specs.Nodes.{IkeyClass, layer_order, Node, free, leaf, internode, NodeList, node_in, leaf_entries}
use Rattle.trees.specs.Entries.{from_option}
use Rattle.trees.specs.Tree.{AnyTree, any_root, any_entries, HoldsAny}
use Rattle.trees.specs.Paths.{layer_key, path_down}
use Rattle.trees.specs.Layers.{Pointer, LayeredValue, Layered, layer_root, pointer_entry, HoldsLayer}
use Rattle.trees.proofs.FreeNumbers.{in-use-inside}
use Rattle.index_given_back.proofs.Hollow.{hollow}

-- ---- the layers on a key's way

module _ (K : List ℕ) where
  -- those below an entry
  abbrev pub trees_at : (l : ℕ) → List ℕ → LayeredValue l → List (AnyTree Pointer)
  trees_at zero ks c = []
  trees_at (suc l) ks (inl c) = []
  trees_at (suc l) ks (inr x) =
      from_option [] (trees_at l (path_down K ks)) (lookup layer_order (layer_key (path_down K ks) K) x.1) ++ x.0 ∷ []

  -- from the last up to this one
  abbrev pub trees_up : (l : ℕ) → Layered l → List ℕ → List (AnyTree Pointer)
  trees_up l v ks = from_option [] (trees_at l ks) (lookup layer_order (layer_key ks K) v.1) ++ v.0 ∷ []

  pub hollow-up : (l n : ℕ) (ks : List ℕ) → trees_at (suc l) ks (inr (hollow l n)) ≡ (zero, (n, [])) ∷ []
  unfolding lookup
  hollow-up l n ks = refl

-- one leaf and no more, with so many entries
abbrev pub leaf_with : ℕ → AnyTree Pointer → Bool
leaf_with n (zero, t) = eqb (length t.1) n
leaf_with n (suc d, t) = false

-- leaf n, which is empty, has gone from the front, and the next tree has an entry less
pub data Shorter (n : ℕ) : List (AnyTree Pointer) → List (AnyTree Pointer) → Type 0 where
  shorter : (y y' : AnyTree Pointer) (zs : List (AnyTree Pointer)) → any_root Pointer y' ≡ any_root Pointer y
      → leaf_with 0 y' ≡ leaf_with 1 y → Shorter n ((zero, (n, [])) ∷ y ∷ zs) (y' ∷ zs)

pub shorter-under : (n : ℕ) {us us' : List (AnyTree Pointer)} (t : AnyTree Pointer) → Shorter n us us'
    → Shorter n (us ++ t ∷ []) (us' ++ t ∷ [])
shorter-under n t (shorter y y' zs r e) = shorter y y' (zs ++ t ∷ []) r e

-- ---- an entry less in the tree of a layer

all_ones : {W : Type 0} (es : List (IkeyClass × W)) → total (λ e. 1) es ≡ length es
all_ones [] = refl
all_ones (e ∷ es) = omega (arith, all_ones es)

pub one_fewer : {W : Type 0} (k : IkeyClass) (x : W) (es : List (IkeyClass × W)) → lookup layer_order k es ≡ some x
    → length es ≡ suc (length (alter layer_order k (λ _. none) es))
one_fewer k x es q =
    omega (
      arith,
      alter-sum layer_order k (λ _. 1) (λ _. none) es,
      ap (worth (λ _. 1)) q,
      all_ones es,
      all_ones (alter layer_order k (λ _. none) es),
    )

same_test : (a b : ℕ) → b ≡ suc a → eqb a 0 ≡ eqb b 1
same_test zero b e = rw e refl
same_test (suc a) b e = ne_eqb (suc a) 0 (λ z. omega arith) ∙ sym (ne_eqb b 1 (λ z. omega arith))

module _ (M : NodeList Pointer) (lf n : ℕ) (had left : List (IkeyClass × Pointer)) (is_leaf : node_in M lf ≡ leaf had)
    (is-empty : node_in M n ≡ leaf []) (top hi : ℕ) where
  abbrev M' : NodeList Pointer
  M' = set (set M lf (leaf left)) n free

  -- a leaf that is not node n is a leaf still
  leaf-still : (r : ℕ) (es : List (IkeyClass × Pointer)) → node_in M r ≡ leaf es → r ≢ n
      → (es' : List (IkeyClass × Pointer)) × (node_in M' r ≡ leaf es')
  leaf-still r es e ne = go (ℕ_discrete r lf)
    where
      other : node_in M' r ≡ node_in (set M lf (leaf left)) r
      other = get_or-set_other (set M lf (leaf left)) n r free free ne

      go : Dec (r ≡ lf) → (es' : List (IkeyClass × Pointer)) × (node_in M' r ≡ leaf es')
      go (yes q) = (
        left,
        other ∙ ap (λ (i : ℕ). node_in (set M lf (leaf left)) i) q
            ∙ get_or-set_same M lf (leaf left) free (in-use-inside M lf (rw is_leaf tt)),
      )
      go (no q) = (es, other ∙ get_or-set_other M lf r (leaf left) free q ∙ e)

  -- and an internode is as it was
  internode-still : (r : ℕ) (ks cs : List ℕ) → node_in M r ≡ internode ks cs → node_in M' r ≡ internode ks cs
  internode-still r ks cs e =
      get_or-set_other (set M lf (leaf left)) n r free free
      (λ q. let z : ◌≡◌ {A = ℕ} 0 1 = cc (ap (node_in M) q) in omega arith)
      ∙ get_or-set_other M lf r (leaf left) free (λ q. let z : ◌≡◌ {A = ℕ} 0 1 = cc (ap (node_in M) q) in omega arith) ∙ e

  tree-less : (t u : AnyTree Pointer) → HoldsAny Pointer top hi M t → HoldsAny Pointer top hi M' u → any_root Pointer u ≡ any_root Pointer t
      → length (any_entries Pointer t) ≡ suc (length (any_entries Pointer u)) → leaf_with 0 u ≡ leaf_with 1 t
  tree-less (zero, (r, es)) (zero, (r', es')) H H' e len = same_test (length es') (length es) len
  tree-less (suc d, t) (suc d', u) H H' e len = refl
  tree-less (zero, (r, es)) (suc d, u) H H' e len =
      let apart : r ≢ n = λ q.
      let z : length es ≡ 0 = ap (λ (x : Node Pointer). length (leaf_entries x)) (sym H.1 ∙ ap (node_in M) q ∙ is-empty) in
      omega arith in
      let (xs, f) = leaf-still r es H.1 apart in
      let z : ◌≡◌ {A = ℕ} 0 1 = cc H'.1.0 in absurd (omega arith)
  tree-less (suc d, t) (zero, (r, es)) H H' e len =
      let f = internode-still t.0 _ _ H.1.0 in
      let z : ◌≡◌ {A = ℕ} 0 1 = cc H'.1 in absurd (omega arith)

  -- a layer without the entry of the link to node n
  pub layer-less : (l : ℕ) (v w : Layered l) (k : IkeyClass) (x : LayeredValue l) → HoldsLayer top hi l M v → HoldsLayer top hi l M' w
      → layer_root l w ≡ layer_root l v → lookup layer_order k v.1 ≡ some x → w.1 ≡ alter layer_order k (λ _. none) v.1
      → leaf_with 0 w.0 ≡ leaf_with 1 v.0
  layer-less l v w k x H H' e q a =
      tree-less v.0 w.0 H.0 H'.0 e
      (ap length H.1 ∙ length-map v.1 (pointer_entry l) ∙ one_fewer k x v.1 q
      ∙ ap suc (sym (ap length H'.1 ∙ length-map w.1 (pointer_entry l) ∙ ap length a)))
