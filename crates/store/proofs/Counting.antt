-- What a put needs and lacks, and whether a cell is free: a law for each way in which the code returns. Assumes nothing.
use mathlib.Core.Path.{◌≡◌, refl, sym, ap, ◌∙◌}
use mathlib.Core.Bool.{true, false}
use mathlib.Core.List.{List}
use Prim.Native.Nat.{ℕ, ◌+◌, ◌*◌, ◌-◌, ◌/◌, ◌≤◌, ◌<◌}
use native.Mathlib.Numerals.{add-one}
use native.Mathlib.Omega.{arith}
use borrow.Author.Rules.{rules}
use borrow.Author.Tests.{le-leb}
use lib.ListN.{length}
use Rattle.std.specs.Prelude.{Option, Some, None}
use Rattle.lent_nodes.proofs.Counts.{lowest-first, lowest-none}
use Rattle.order.specs.Layer.{ikey_at}
use Rattle.arena.specs.Layout.{key_at}
use Rattle.arena.specs.Free.{free_nodes, free_cells, lowest}
use Rattle.arena.specs.Memory.{memory, node_count}
use Rattle.forest.specs.Walk.{height_at}
use Rattle.model.specs.declared.Met.{Met}
use Rattle.model.specs.declared.Met.TheVariants.{Conflict, Missing}
use Rattle.model.specs.Needed.{need_in, layers_of}
use Rattle.model.specs.Grow.{entry_for}
use Rattle.model.specs.Calls.{needed_at}
use Rattle.seek.specs.Lengths.{NodesLent}
use Rattle.store.specs.Places.{has_cell_in, lacking_at, Lent}

-- the node count by the code's own division
pub counted : (n : ℕ) → NodesLent n → n / 47 ≡ node_count n
counted n l = omega (arith, l.whole)

-- ---- what is needed

module _ (nodes cells bytes key : List ℕ) {met : Met} where
  pub need-conflict : {leaf p cell links r : ℕ} {other : List ℕ} → met ≡ Conflict leaf p cell links → other ≡ key_at cells bytes cell
      → r ≡ layers_of (31 - (links + 1)) key other (links + 1) → r ≡ needed_at (memory nodes cells bytes) key met
  need-conflict {links = links} q o e = rw (q, e, o, add-one links)

  pub need-missing : {holder root links height ikey r : ℕ} → met ≡ Missing holder root links → height ≡ height_at nodes 255 root
      → ikey ≡ ikey_at key (8 * links) → r ≡ need_in nodes height root ikey 1 → r ≡ needed_at (memory nodes cells bytes) key met
  unfolding entry_for
  need-missing q h i e = rw (q, e, h, i)

-- ---- what is free

module _ (cells : List ℕ) {r : Option ℕ} (e : r ≡ lowest (free_cells cells (length cells / 2))) where
  pub cell_free : {k : ℕ} → r ≡ Some k → true ≡ has_cell_in cells
  cell_free a =
      let (rest, q) = lowest-first (free_cells cells (length cells / 2)) (sym e ∙ a) in
      let h : 1 ≤ length (free_cells cells (length cells / 2)) = rw q (omega arith) in
      sym (le-leb 1 (length (free_cells cells (length cells / 2))) h)

  pub cell-none : r ≡ None → false ≡ has_cell_in cells
  cell-none a = rw (lowest-none (free_cells cells (length cells / 2)) (sym e ∙ a)) refl

module _ (nodes cells bytes key : List ℕ) (met : Met) (l : Lent nodes cells bytes met) {g need : ℕ}
    (eg : g ≡ length (free_nodes nodes (length nodes / 47))) (en : need ≡ needed_at (memory nodes cells bytes) key met) where
  free : g ≡ length (free_nodes nodes (node_count (length nodes)))
  free = eg ∙ ap (λ (n : ℕ). length (free_nodes nodes n)) (counted (length nodes) l.nodes-lent)

  pub none-lacking : need ≤ g → 0 ≡ lacking_at (memory nodes cells bytes) key met
  none-lacking d = rw (← en, ← free) (omega arith)

  pub some-lacking : g < need → need - g ≡ lacking_at (memory nodes cells bytes) key met
  some-lacking d = rw (← en, ← free) refl

pub ruleset counting = (rules, need-conflict, need-missing, cell_free, cell-none, none-lacking, some-lacking)
