-- Entries of the layers where an empty layer goes: they stay right, list the same and use the same cells. Assumes nothing.
use mathlib.Core.List.{List, [], ◌∷◌, ◌++◌}
use mathlib.Core.Logic.{inr}
use mathlib.Core.Option.{Option, none, some}
use mathlib.Core.Path.{◌≡◌, refl, sym, ap, ◌∙◌}
use Prim.Native.Nat.{ℕ, Ordering, suc, ◌+◌}
use native.Mathlib.Omega.{arith}
use Rattle.order.specs.Lists.{total, flattened}
use Rattle.order.specs.Map.{All, a[], ◌a∷◌, alter, lookup, pick, put}
use Rattle.order.specs.Options.{worth}
use Rattle.order.proofs.Changes.{lookup-all, alter-sum}
use Rattle.order.proofs.Map.{alter-sorted}
use Rattle.trees.specs.Nodes.{IkeyClass, layer_order}
use Rattle.trees.specs.Entries.{RightLayer, EntryValue, value_listing, entry_listing, RightValue, cell_uses}
use Rattle.trees.proofs.Nodes.{layer-order}

-- what a value lists; nothing lists nothing
abbrev list_of : {W X : Type 0} → (W → List X) → Option W → List X
list_of f none = []
list_of f (some w) = f w

-- P holds of what is there, if anything is
abbrev IfThere : {W : Type 0} → (W → Type 0) → Option W → Type 0
IfThere P none = Unit {0}
IfThere P (some w) = P w

module _ {W : Type 0} (k : IkeyClass) (o : Option W) where
  -- where the value lists the same, so do all entries
  flat-same : {X : Type 0} (L : W → List X) (es : List (IkeyClass × W)) (w : W) → lookup layer_order k es ≡ some w → list_of L o ≡ L w
      → flattened (λ e. L e.1) (alter layer_order k (λ _. o) es) ≡ flattened (λ e. L e.1) es
  unfolding alter lookup
  flat-same L [] w q h = let z : ◌≡◌ {A = ℕ} 0 1 = cc in absurd (omega arith)
  flat-same L (e ∷ es) w q h = go (layer_order k e.0) q (flat-same L es w)
    where
      front : (o : Option W) → list_of L o ≡ L w → e.1 ≡ w
          → flattened (λ e. L e.1) (put k o es) ≡ L e.1 ++ flattened (λ e. L e.1) es
      front none h s = ap (λ (x : List _). x ++ flattened (λ e. L e.1) es) (h ∙ ap L (sym s))
      front (some v) h s = ap (λ (x : List _). x ++ flattened (λ e. L e.1) es) (h ∙ ap L (sym s))

      go : (c : Ordering) → pick c none (some e.1) (lookup layer_order k es) ≡ some w
          → (lookup layer_order k es ≡ some w → list_of L o ≡ L w
          → flattened (λ e. L e.1) (alter layer_order k (λ _. o) es) ≡ flattened (λ e. L e.1) es)
          → flattened (λ e. L e.1) (pick c (put k o (e ∷ es)) (put k o es) (e ∷ alter layer_order k (λ _. o) es))
          ≡ L e.1 ++ flattened (λ e. L e.1) es
      go Ordering.lt q ih = let z : ◌≡◌ {A = ℕ} 0 1 = cc in absurd (omega arith)
      go Ordering.eq q ih = front o h cc
      go Ordering.gt q ih = ap (λ (x : List _). L e.1 ++ x) (ih q h)

  -- where what is there instead is right, all entries are
  all_same : (P : IkeyClass → W → Type 0) → IfThere (P k) o → {es : List (IkeyClass × W)} → All (λ e. P e.0 e.1) es
      → All (λ e. P e.0 e.1) (alter layer_order k (λ _. o) es)
  unfolding alter
  all_same P h a[] = front o h a[]
    where
      front : (o : Option W) → IfThere (P k) o → {es : List (IkeyClass × W)} → All (λ e. P e.0 e.1) es
          → All (λ e. P e.0 e.1) (put k o es)
      front none h ps = ps
      front (some v) h ps = h a∷ ps
  all_same P h (◌a∷◌ {x = e} {xs = es} p ps) = go (layer_order k e.0) (all_same P h ps)
    where
      front : (o : Option W) → IfThere (P k) o → {es : List (IkeyClass × W)} → All (λ e. P e.0 e.1) es
          → All (λ e. P e.0 e.1) (put k o es)
      front none h ps = ps
      front (some v) h ps = h a∷ ps

      go : (c : Ordering) → All (λ e. P e.0 e.1) (alter layer_order k (λ _. o) es)
          → All (λ e. P e.0 e.1) (pick c (put k o (e ∷ es)) (put k o es) (e ∷ alter layer_order k (λ _. o) es))
      go Ordering.lt ih = front o h (p a∷ ps)
      go Ordering.eq ih = front o h ps
      go Ordering.gt ih = p a∷ ih

module _ (at : ℕ → List ℕ × ℕ) where
  -- other entries of a layer, which are right too, list the same and use the same cells
  pub record Alike (l : ℕ) (ks : List ℕ) (es ds : List (IkeyClass × EntryValue l)) : Type 0 where
    pub right : RightLayer at l ks ds
    pub listed : flattened (entry_listing at l) ds ≡ flattened (entry_listing at l) es
    pub used : (j : ℕ) → total (λ e. cell_uses l e.1 j) ds ≡ total (λ e. cell_uses l e.1 j) es

  -- one entry of a layer anew or gone, with the same keys and cells below it
  alike : (l : ℕ) (ks : List ℕ) (es : List (IkeyClass × EntryValue l)) (k : IkeyClass) → RightLayer at l ks es
      → (w : EntryValue l) → lookup layer_order k es ≡ some w → (o : Option (EntryValue l)) → IfThere (RightValue at l ks k) o
      → list_of (value_listing at l) o ≡ value_listing at l w → ((j : ℕ) → worth (λ v. cell_uses l v j) o ≡ cell_uses l w j)
      → Alike l ks es (alter layer_order k (λ _. o) es)
  alike l ks es k G w q o r s t = record {
    right = (alter-sorted layer-order k (λ _. o) G.0, all_same k o (RightValue at l ks) r G.1);
    listed = flat-same k o (value_listing at l) es w q s;
    used = λ j. omega (
      arith,
      alter-sum layer_order k (λ v. cell_uses l v j) (λ _. o) es,
      ap (worth (λ v. cell_uses l v j)) q,
      t j,
    );
  }

  -- an empty layer's entry goes
  pub alike-gone : (l : ℕ) (ks : List ℕ) (es : List (IkeyClass × EntryValue (suc l))) (k : IkeyClass) → RightLayer at (suc l) ks es
      → lookup layer_order k es ≡ some (inr []) → Alike (suc l) ks es (alter layer_order k (λ _. none) es)
  alike-gone l ks es k G q = alike (suc l) ks es k G (inr []) q none tt refl (λ j. refl)

  -- a layer's entries are others
  pub alike-below : (l : ℕ) (ks : List ℕ) (es : List (IkeyClass × EntryValue (suc l))) (k : IkeyClass) → RightLayer at (suc l) ks es
      → (xs ys : List (IkeyClass × EntryValue l)) → lookup layer_order k es ≡ some (inr xs) → Alike l (ks ++ k.0 ∷ []) xs ys
      → Alike (suc l) ks es (alter layer_order k (λ _. some (inr ys)) es)
  alike-below l ks es k G xs ys q A =
      let g = lookup-all layer_order k layer-order (RightValue at (suc l) ks) G.1 (inr xs) q in
      alike (suc l) ks es k G (inr xs) q (some (inr ys)) (g.0, A.right.0, A.right.1) A.listed A.used
