-- A key has one way from a layer down: whatever place a way ends at, it is the one that `meet` tells. Assumes nothing.
use mathlib.Core.Path.{◌≡◌, refl, sym, ap, ap₂, ◌∙◌, subst}
use mathlib.Core.Logic.{◌⊎◌, inl, inr}
use mathlib.Core.List.{List}
use mathlib.Core.Option.{none, some}
use Prim.Native.Nat.{ℕ, zero, suc, ◌*◌}
use native.Mathlib.Omega.{arith}
use lib.ListN.{length}
use Rattle.order.specs.Layer.{ikey_at, class_at}
use Rattle.leaf.specs.Search.{place_equal}
use Rattle.order.proofs.Lookup.{same_some}
use Rattle.arena.specs.Layout.{key_at}
use Rattle.arena.specs.Memory.{Memory}
use Rattle.forest.specs.Nodes.{entries_at}
use Rattle.model.specs.Meet.{number_word}
use Rattle.model.specs.declared.Met.{Met}
use Rattle.model.specs.declared.Met.TheVariants.{Stored, Conflict}
use Rattle.trees.specs.Paths.{path_down}
use Rattle.trees.specs.Layers.{Pointer, Layered, layered_cell}
use Rattle.places.proofs.Meets.{Entered, Way, missing, stored, conflict, below}

none-not-some : {A B : Type 0} {x : A} → none ≡ some x → B
none-not-some e = let z : ◌≡◌ {A = ℕ} 0 1 = cc in absurd (omega arith)

one_same : (l c d : ℕ) → layered_cell l c ≡ layered_cell l d → c ≡ d
one_same zero c d e = e
one_same (suc l) c d e = cc

link-same : {A B : Type 0} {x y : B} → ◌≡◌ {A = A ⊎ B} (inr x) (inr y) → x ≡ y
link-same e = cc

cell-not-link : {A B C : Type 0} {x : A} {y : B} → ◌≡◌ {A = A ⊎ B} (inl x) (inr y) → C
cell-not-link e = let z : ◌≡◌ {A = ℕ} 0 1 = cc in absurd (omega arith)

module _ (m : Memory) (K : List ℕ) where
  -- one leaf and one position
  entered-leaf : {root links lf p lf' p' : ℕ} {x y : Pointer} → Entered m K root links lf p x → Entered m K root links lf' p' y → lf ≡ lf'
  entered-leaf E F = E.leaf-is ∙ sym F.leaf-is

  entered-place : {root links lf p lf' p' : ℕ} {x y : Pointer} → Entered m K root links lf p x → Entered m K root links lf' p' y → p ≡ p'
  entered-place {links = links} E F =
      E.place_is ∙ ap (λ (n : ℕ). place_equal (ikey_at K (8 * links)) (class_at K (8 * links)) (entries_at m.nodes n)) (entered-leaf E F)
      ∙ sym F.place_is

  pub way-one : {l : ℕ} {v : Layered l} {ks : List ℕ} {holder : ℕ} {o o' : Met} → Way m K l v ks holder o → Way m K l v ks holder o'
      → o ≡ o'
  way-one (missing l v ks holder q) (missing _ _ _ _ r) = refl
  way-one (missing l v ks holder q) (stored _ _ _ _ lf p c r E w e) = none-not-some (sym q ∙ r)
  way-one (missing l v ks holder q) (conflict _ _ _ _ lf p c r E w n) = none-not-some (sym q ∙ r)
  way-one (missing _ v ks holder q) (below l _ _ _ lf p x o r E rest) = none-not-some (sym q ∙ r)
  way-one (stored l v ks holder lf p c q E w e) (missing _ _ _ _ r) = none-not-some (sym r ∙ q)
  way-one (stored l v ks holder lf p c q E w e) (stored _ _ _ _ lf' p' c' r F x f) =
      let cells = one_same l c c' (same_some (sym q ∙ r)) in
      let leaves = entered-leaf E F in
      let places = entered-place E F in
      λ i. Stored (leaves i) (places i) (cells i)
  way-one (stored l v ks holder lf p c q E w e) (conflict _ _ _ _ lf' p' c' r F x n) =
      absurd (n (ap (key_at m.cells m.bytes) (sym (one_same l c c' (same_some (sym q ∙ r)))) ∙ e))
  way-one (stored _ v ks holder lf p c q E w e) (below l _ _ _ lf' p' x o r F rest) = cell-not-link (same_some (sym q ∙ r))
  way-one (conflict l v ks holder lf p c q E w n) (missing _ _ _ _ r) = none-not-some (sym r ∙ q)
  way-one (conflict l v ks holder lf p c q E w n) (stored _ _ _ _ lf' p' c' r F x e) =
      absurd (n (ap (key_at m.cells m.bytes) (one_same l c c' (same_some (sym q ∙ r))) ∙ e))
  way-one (conflict l v ks holder lf p c q E w n) (conflict _ _ _ _ lf' p' c' r F x n') =
      let cells = one_same l c c' (same_some (sym q ∙ r)) in
      let leaves = entered-leaf E F in
      let places = entered-place E F in
      λ i. Conflict (leaves i) (places i) (cells i) (length ks)
  way-one (conflict _ v ks holder lf p c q E w n) (below l _ _ _ lf' p' x o r F rest) = cell-not-link (same_some (sym q ∙ r))
  way-one (below l v ks holder lf p x o q E rest) (missing _ _ _ _ r) = none-not-some (sym r ∙ q)
  way-one (below l v ks holder lf p x o q E rest) (stored _ _ _ _ lf' p' c r F w e) = cell-not-link (same_some (sym r ∙ q))
  way-one (below l v ks holder lf p x o q E rest) (conflict _ _ _ _ lf' p' c r F w n) = cell-not-link (same_some (sym r ∙ q))
  way-one (below l v ks holder lf p x o q E rest) (below _ _ _ _ lf' p' y o' r F rest') =
      let layers : y ≡ x = link-same (same_some (sym r ∙ q)) in
      let words : number_word m.nodes lf' p' ≡ number_word m.nodes lf p =
      ap₂ (number_word m.nodes) (entered-leaf F E) (entered-place F E) in
      way-one rest (subst (λ (n : ℕ). Way m K l x (path_down K ks) n o') words
      (subst (λ (z : Layered l). Way m K l z (path_down K ks) (number_word m.nodes lf' p') o') layers rest'))
