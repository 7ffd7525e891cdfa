-- What right lent lengths give, and one law for each way in which `put_lent` returns. Assumes nothing.
use mathlib.Core.Path.{◌≡◌, ap}
use mathlib.Core.Bool.{Bool, true, false}
use mathlib.Core.List.{List, [], ◌∷◌}
use Prim.Native.Nat.{ℕ, ◌+◌, ◌≤◌, ◌<◌}
use native.Mathlib.Omega.{arith}
use denote.Enum.Declared.{tag_of}
use types.Run.{OneOf}
use borrow.Author.Rules.{rules}
use borrow.Author.Tests.{not-true, not-false, le-leb, lt-leb}
use lib.Dec.{leb}
use lib.ListN.{length, get_or}
use Rattle.refusal.specs.Answer.{accepted, refused}
use Rattle.refusal.specs.declared.Refusal.TheVariants as no
use Rattle.arena.specs.Free.{free_nodes}
use Rattle.arena.specs.Memory.{memory, did, right_lengths, node_count, cell_count}
use Rattle.arena.proofs.Measures.{right-means}
use Rattle.model.specs.declared.Met.{Met}
use Rattle.model.specs.declared.Met.TheVariants.{Stored}
use Rattle.model.specs.Meet.{meet}
use Rattle.model.specs.Calls.{needed_at, with_count, rests_passed, put_lent}
use Rattle.model.specs.contracts.Met as met-type
use Rattle.seek.specs.Lengths.{NodesLent, CellsLent}
use Rattle.seek.specs.Within.{Within}
use Rattle.store.specs.Places.{Lent, has_cell_in, lacking_at, with_at}
use Rattle.index_questions.proofs.Lent.{tag-other}
use Rattle.index_put.specs.Answers.{too_few_nodes}

-- ---- right lent lengths

module _ (n c b : ℕ) (y : right_lengths n c b ≡ true) where
  pub lent-root : 0 < n
  lent-root = let r = right-means _ _ _ y in omega (arith, r.nodes-whole)

  pub lent-count : 1 < n
  lent-count = let r = right-means _ _ _ y in omega (arith, r.nodes-whole)

  lent-nodes : NodesLent n
  lent-nodes = let r = right-means _ _ _ y in record { few = r.n-high; whole = r.nodes-whole }

  lent-cells : CellsLent c b
  lent-cells = let r = right-means _ _ _ y in record { few = r.c-high; pairs = r.cells_whole; room = r.bytes_whole }

  -- what `seek` asks at the root
  pub lent-seek : {k : ℕ} → k ≤ 256 → (NodesLent n × CellsLent c b) × ((k ≤ 256) × (0 ≤ 31))
  lent-seek s = ((lent-nodes, lent-cells), (s, omega arith))

-- what the counting and writing of a put ask
pub lent-place : (nodes cells bytes : List ℕ) → right_lengths (length nodes) (length cells) (length bytes) ≡ true
    → {r : Met} → Within (node_count (length nodes)) (cell_count (length cells)) r → Lent nodes cells bytes r
lent-place nodes cells bytes y w =
    let r = right-means _ _ _ y in
    record {
      nodes-lent = lent-nodes _ _ _ y;
      cells-lent = lent-cells _ _ _ y;
      one-node = r.n-low;
      one_cell = r.c-low;
      place-within = w;
    }

-- ---- how `put_lent` returns

module _ (nodes cells bytes key : List ℕ) (frame : ℕ) where
  pub lent-many : 255 < get_or nodes 1 0
      → did (refused no.Memory []) (memory nodes cells bytes) ≡ put_lent (memory nodes cells bytes) key frame
  unfolding put_lent
  lent-many h = rw (lt-leb (get_or nodes 1 0) 255 h)

  module _ (s : get_or nodes 1 0 ≤ 255) (r : Met) (w : r ≡ meet 31 (memory nodes cells bytes) key 0 0 (get_or nodes 0 0)) where
    pub lent-stored : {leaf p c : ℕ} → r ≡ Stored leaf p c
        → did (refused no.Stored []) (memory nodes cells bytes) ≡ put_lent (memory nodes cells bytes) key frame
    unfolding put_lent
    lent-stored q = rw (le-leb (get_or nodes 1 0) 255 s, ← w, q)

    module _ (h : OneOf (1 ∷ 2 ∷ []) (tag_of met-type.the_type r)) {cell : Bool} (d : cell ≡ has_cell_in cells) where
      pub lent-no-cell : cell ≡ false → did (refused no.Room []) (memory nodes cells bytes) ≡ put_lent (memory nodes cells bytes) key frame
      unfolding put_lent
      lent-no-cell f = rw (le-leb (get_or nodes 1 0) 255 s, ← w, tag-other r h, ← d, f)

      module _ (f : cell ≡ true) {n : ℕ} (l : n ≡ lacking_at (memory nodes cells bytes) key r) where
        abbrev need : ℕ
        need = needed_at (memory nodes cells bytes) key r

        abbrev free : ℕ
        free = length (free_nodes nodes (node_count (length nodes)))

        pub lent-few-nodes : 0 < n → did (too_few_nodes n) (memory nodes cells bytes) ≡ put_lent (memory nodes cells bytes) key frame
        unfolding put_lent
        lent-few-nodes g =
            let few : leb need free ≡ false = lt-leb need free (omega arith) in
            rw (le-leb (get_or nodes 1 0) 255 s, ← w, tag-other r h, ← d, f, few, ← l)

        pub lent-new : {n1 c1 b1 : List ℕ} {rest : ℕ} → n ≤ 0
            → memory n1 c1 b1 ≡ with_count (with_at (memory nodes cells bytes) key frame r) (get_or nodes 1 0 + 1)
            → rest ≡ rests_passed (memory nodes cells bytes) key r
            → did (accepted (rest ∷ [])) (memory n1 c1 b1) ≡ put_lent (memory nodes cells bytes) key frame
        unfolding put_lent
        lent-new {rest = rest} z g q =
            let enough : leb need free ≡ true = le-leb need free (omega arith) in
            rw (le-leb (get_or nodes 1 0) 255 s, ← w, tag-other r h, ← d, f, enough, ← q) (ap (did (accepted (rest ∷ []))) g)

pub ruleset lents = (rules, not-true, not-false, lent-root, lent-count, lent-seek, lent-place)
