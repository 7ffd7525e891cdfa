-- The ikey and class of a key at a layer, over words and over the trees. Assumes nothing.
use mathlib.Core.Path.{◌≡◌, refl, sym, ap, ◌∙◌}
use mathlib.Core.Logic.{◌≢◌}
use mathlib.Core.Bool.{Bool, true, false, cond}
use mathlib.Core.List.{List}
use Prim.Native.Nat.{ℕ, zero, suc, ◌+◌, ◌-◌, ◌*◌, ◌<◌, min, Ordering}
use native.Mathlib.Omega.{arith}
use lib.Dec.{ltb}
use lib.ListN.{length}
use borrow.Author.Tests.{ltb-true, lt-ltb, eqb-true, eq-eqb}
use Rattle.order.specs.Layer.{ikey_at, class_at}
use Rattle.order.specs.Map.{pick}
use Rattle.trees.specs.Nodes.{IkeyClass, layer_order}
use Rattle.trees.specs.Paths.{layer_key, path_down, key_below}
use Rattle.trees.specs.Entries.{FitsLayers}
use Rattle.trees.specs.LayersPut.{conflict_count}
use Rattle.trees.proofs.Nodes.{layer-order}
use Rattle.trees.proofs.Paths.{layer_key-at, down-length}
use Rattle.trees.proofs.EntriesPut.{fits_more, both-longer}
use Rattle.leaf.proofs.Lists.{both, never}
use Rattle.model.specs.Needed.{both_go_on, layers_of}
use Rattle.growth.proofs.Entries.{pair}

suc_inj : {a b : ℕ} → suc a ≡ suc b → a ≡ b
suc_inj e = omega arith

pub layer-key : (ks K : List ℕ) → layer_key ks K ≡ key_below K (length ks)
layer-key ks K = layer_key-at ks K (length ks) refl

-- ---- both keys go on where their layer keys are equal, unless they are one key

module _ (at : ℕ → List ℕ × ℕ) (l : ℕ) (ks K J : List ℕ) (fK : FitsLayers at l ks K) (fJ : FitsLayers at l ks J) (ne : K ≢ J) where
  pub go-on-eq : layer_order (layer_key ks K) (layer_key ks J) ≡ Ordering.eq → both_go_on K J (length ks) ≡ true
  unfolding both_go_on
  go-on-eq q =
      let n = length ks in
      let e : layer_key ks K ≡ layer_key ks J = layer-order.exact (layer_key ks K) (layer_key ks J) q in
      let x : (layer_key ks K).1 ≡ 9 = ap (λ (y : IkeyClass). y.1) (both-longer at l ks K J fK fJ ne e) in
      let a : min 9 (length K - 8 * n) ≡ 9 = sym (ap (λ (y : IkeyClass). y.1) (layer-key ks K)) ∙ x in
      let b : min 9 (length J - 8 * n) ≡ 9 = sym (ap (λ (y : IkeyClass). y.1) (layer-key ks J)) ∙ ap (λ (y : IkeyClass). y.1) (sym e)
      ∙ x in
      let i : ikey_at K (8 * n) ≡ ikey_at J (8 * n) = suc_inj
      (sym (ap (λ (y : IkeyClass). y.0) (layer-key ks K)) ∙ ap (λ (y : IkeyClass). y.0) e
      ∙ ap (λ (y : IkeyClass). y.0) (layer-key ks J)) in
      rw (
        lt-ltb (8 * n + 8) (length K) (omega arith),
        lt-ltb (8 * n + 8) (length J) (omega arith),
        eq-eqb (ikey_at K (8 * n)) (ikey_at J (8 * n)) i,
      )

  pub go-on-means : both_go_on K J (length ks) ≡ true → layer_order (layer_key ks K) (layer_key ks J) ≡ Ordering.eq
  unfolding both_go_on
  go-on-means t =
      let n = length ks in
      let (p, t2) = both {a = ltb (8 * n + 8) (length K)} t in
      let (q, r) = both {a = ltb (8 * n + 8) (length J)} t2 in
      let x : 8 * n + 8 < length K = ltb-true (8 * n + 8) (length K) p in
      let y : 8 * n + 8 < length J = ltb-true (8 * n + 8) (length J) q in
      let z : ikey_at K (8 * n) ≡ ikey_at J (8 * n) = eqb-true (ikey_at K (8 * n)) (ikey_at J (8 * n)) r in
      let e : layer_key ks K ≡ layer_key ks J = layer-key ks K
      ∙ pair (ap suc z) (let w : class_at K (8 * n) ≡ class_at J (8 * n) = omega arith in w) ∙ sym (layer-key ks J) in
      ap (layer_order (layer_key ks K)) (sym e) ∙ layer-order.same (layer_key ks K)

  -- the trees' three ways are the words' two
  pub go_on : {A : Type 0} (x y : A) → pick (layer_order (layer_key ks K) (layer_key ks J)) y x y ≡ cond (both_go_on K J (length ks)) x y
  go_on x y = by (layer_order (layer_key ks K) (layer_key ks J)) refl (both_go_on K J (length ks)) refl
    where
      by : (c : Ordering) → layer_order (layer_key ks K) (layer_key ks J) ≡ c → (b : Bool) → both_go_on K J (length ks) ≡ b
          → pick c y x y ≡ cond b x y
      by Ordering.eq q true t = refl
      by Ordering.eq q false t = never (sym (go-on-eq q) ∙ t)
      by Ordering.lt q true t = let z : ◌≡◌ {A = ℕ} 0 1 = cc (go-on-means t) in absurd (omega arith)
      by Ordering.lt q false t = refl
      by Ordering.gt q true t = let z : ◌≡◌ {A = ℕ} 0 1 = cc (go-on-means t) in absurd (omega arith)
      by Ordering.gt q false t = refl

-- ---- how many layers a conflict makes

module _ (at : ℕ → List ℕ × ℕ) (K J : List ℕ) (ne : K ≢ J) where
  -- one layer down, where both go on
  pub fits-down : (l : ℕ) (ks : List ℕ) → FitsLayers at (suc l) ks K → FitsLayers at (suc l) ks J → both_go_on K J (length ks) ≡ true
      → FitsLayers at l (path_down K ks) K × FitsLayers at l (path_down K ks) J
  fits-down l ks fK fJ t =
      let e : layer_key ks K ≡ layer_key ks J = layer-order.exact _ _ (go-on-means at (suc l) ks K J fK fJ ne t) in
      let x = both-longer at (suc l) ks K J fK fJ ne e in
      (fits_more at l ks (layer_key ks K).0 K fK x, fits_more at l ks (layer_key ks K).0 J fJ (sym e ∙ x))

  pub layers-chain : (l : ℕ) (ks : List ℕ) → FitsLayers at l ks K → FitsLayers at l ks J
      → layers_of l K J (length ks) ≡ conflict_count K J l ks
  unfolding layers_of
  layers-chain zero ks fK fJ = refl
  layers-chain (suc l) ks fK fJ =
      sym (go_on at (suc l) ks K J fK fJ ne (suc (conflict_count K J l (path_down K ks))) 1
      ∙ by (both_go_on K J (length ks)) refl (λ t. let (gK, gJ) = fits-down l ks fK fJ t in layers-chain l (path_down K ks) gK gJ))
    where
      by : (b : Bool) → both_go_on K J (length ks) ≡ b → (both_go_on K J (length ks) ≡ true
          → layers_of l K J (length (path_down K ks)) ≡ conflict_count K J l (path_down K ks))
          → cond b (suc (conflict_count K J l (path_down K ks))) 1 ≡ cond b (suc (layers_of l K J (suc (length ks)))) 1
      by true t ih = ap suc (sym (ih t) ∙ ap (layers_of l K J) (down-length K ks (length ks) refl))
      by false t ih = refl
