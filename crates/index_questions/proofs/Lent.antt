-- What a tree gives to whoever reads or writes it: right lent lengths, and where a key's place leads. Assumes nothing.
use mathlib.Core.Path.{◌≡◌, refl, sym, ◌∙◌}
use mathlib.Core.Bool.{Bool, true, false}
use mathlib.Core.List.{List, [], ◌∷◌}
use mathlib.Core.Logic.{inl, inr}
use Prim.Native.Nat.{ℕ, ◌+◌, ◌*◌, ◌≤◌, ◌<◌}
use native.Mathlib.Omega.{arith}
use denote.Enum.Declared.{tag_of}
use types.Run.{OneOf}
use borrow.Author.Rules.{rules}
use borrow.Author.Tests.{not-true, not-false}
use lib.ListN.{length}
use Rattle.arena.specs.Layout.{cell_start}
use Rattle.arena.specs.Memory.{memory, node_count, cell_count}
use Rattle.arena.proofs.Measures.{Right, and-true, right-means}
use Rattle.forest.specs.Walk.{is_tree}
use Rattle.model.specs.declared.Met.{Met}
use Rattle.model.specs.declared.Met.TheVariants.{Stored, Conflict, Missing}
use Rattle.model.specs.Calls.{is_stored}
use Rattle.model.specs.contracts.Met as met
use Rattle.seek.specs.Lengths.{NodesLent, CellsLent}
use Rattle.seek.specs.Within.{Within}
use Rattle.seek.proofs.Seeks.{stored-within}

module _ (nodes cells bytes : List ℕ) {t : Bool} (e : t ≡ is_tree (memory nodes cells bytes)) (y : t ≡ true) where
  pub right : Right (length nodes) (length cells) (length bytes) (node_count (length nodes)) (cell_count (length cells))
  unfolding is_tree
  right = right-means _ _ _ (and-true _ _ (sym e ∙ y)).0

  pub tree-root : 0 < length nodes
  tree-root = omega (arith, right.nodes-whole)

  pub tree-nodes : NodesLent (length nodes)
  tree-nodes = record { few = right.n-high; whole = right.nodes-whole }

  pub tree-cells : CellsLent (length cells) (length bytes)
  tree-cells = record { few = right.c-high; pairs = right.cells_whole; room = right.bytes_whole }

  pub tree-pairs : length cells ≡ cell_count (length cells) * 2
  tree-pairs = right.cells_whole

  -- what `seek` asks at the root
  pub tree-seek : {n : ℕ} → n ≤ 256 → (NodesLent (length nodes) × CellsLent (length cells) (length bytes)) × ((n ≤ 256) × (0 ≤ 31))
  tree-seek s = ((tree-nodes, tree-cells), (s, omega arith))

  -- where a stored key leads
  module _ {r : Met} (w : Within (node_count (length nodes)) (cell_count (length cells)) r) {leaf p c : ℕ} (s : r ≡ Stored leaf p c) where
    pub stored-words : cell_start c + 2 ≤ length cells
    stored-words = let h = stored-within _ _ w s in omega (arith, h.2, right.cells_whole)

-- by the tag: the key is stored, or not
module _ (r : Met) where
  pub tag-other : OneOf (1 ∷ 2 ∷ []) (tag_of met.the_type r) → is_stored r ≡ false
  tag-other h = by r h
    where
      by : (x : Met) → OneOf (1 ∷ 2 ∷ []) (tag_of met.the_type x) → is_stored x ≡ false
      by (Stored leaf p c) (inl g) = absurd (omega (arith, g))
      by (Stored leaf p c) (inr g) = absurd (omega (arith, g))
      by (Conflict leaf p c links) g = refl
      by (Missing holder root links) g = refl

pub ruleset lents = (rules, not-true, not-false, tree-root, tree-nodes, tree-cells, tree-pairs, stored-words)
