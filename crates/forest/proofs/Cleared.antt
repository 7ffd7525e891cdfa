-- What `clear` leaves is a tree that lists nothing. Assumes nothing.
use mathlib.Core.Path.{◌≡◌, refl, sym, ap, ◌∙◌}
use mathlib.Core.Bool.{true}
use mathlib.Core.List.{List, [], ◌∷◌, ◌++◌, map}
use Prim.Native.Nat.{ℕ, zero, suc, ◌+◌, ◌-◌, ◌*◌, ◌≤◌, ◌<◌}
use native.Mathlib.Omega.{arith}
use lib.Dec.{eqb}
use lib.ListN.{length, get_or, length-replicate, replicate-append-replicate}
use Rattle.bank.specs.Lists.{count, each_once}
use Rattle.bank.specs.Bank.{valid}
use Rattle.bank.proofs.Tests.{and_both, holds}
use Rattle.order.specs.Map.{a[]}
use Rattle.leaf.specs.Lists.{every}
use Rattle.leaf.specs.Leaf.{rising}
use Rattle.leaf.proofs.Lists.{every_take, every_drop}
use Rattle.nibbles.specs.Nibbles.{nibbles}
use Rattle.nibbles.specs.Words.{valid_word}
use Rattle.arena.specs.Parts.{part, put_part, zeros}
use Rattle.arena.specs.Layout.{key_start, cell_start, leaf_words}
use Rattle.arena.specs.Memory.{cell_count, empty_leaf, emptied}
use Rattle.arena.proofs.Measures.{Right, right-if, counts-follow}
use Rattle.arena.proofs.Clears.{emptied-length, emptied-root, emptied-free}
use Rattle.forest.specs.Nodes.{all_zero, entries_at, rest_at, leaf_right, node_free}
use Rattle.forest.specs.Cells.{is_cell_free}
use Rattle.forest.specs.Trees.{seen_as, once, node_no}
use Rattle.forest.specs.IsTree.{Layers, listing, Forest, IsTree}
use Rattle.forest.proofs.Decides.{once-same, once-most}

-- ---- zeros

zeros-zero : (n : ℕ) → all_zero (zeros n) ≡ true
unfolding every
zeros-zero zero = refl
zeros-zero (suc n) = zeros-zero n

pub part-zero : (n at k : ℕ) → all_zero (part (zeros n) at k) ≡ true
unfolding part
part-zero n at k = every_take (λ x. eqb x 0) 0 k _ (every_drop (λ x. eqb x 0) 0 at (zeros n) (zeros-zero n))

-- ---- the empty leaf, whatever stands behind it

module _ (behind : List ℕ) where
  abbrev first : List ℕ
  first = 0 ∷ 0 ∷ (leaf_words empty_leaf ++ behind)

  empty_right : leaf_right first 0 ≡ true
  unfolding leaf_right entries_at rest_at every rising valid_word valid each_once count nibbles
  empty_right = refl

  empty-entries : map seen_as (entries_at first 0) ≡ []
  unfolding entries_at
  empty-entries = refl

module _ (n c : ℕ) (some-nodes : 1 ≤ n) (few-nodes : n ≤ 255) (some-cells : 1 ≤ c) (few-cells : c ≤ 255) where
  -- the header, the empty leaf, and zeros
  begins : (emptied n c).nodes ≡ first (zeros (n * 47 - 47))
  unfolding put_part
  begins =
      let e : 49 + (n * 47 - 47) ≡ 2 + n * 47 = omega arith in
      ap (λ (xs : List ℕ). put_part xs 2 (leaf_words empty_leaf))
      (ap zeros (sym e) ∙ sym (replicate-append-replicate 49 (n * 47 - 47) 0))

  right : Right (length (emptied n c).nodes) (length (zeros (c * 2))) (length (zeros (c * 256))) n c
  right = record {
    n-low = some-nodes;
    n-high = few-nodes;
    c-low = some-cells;
    c-high = few-cells;
    nodes-whole = emptied-length n c some-nodes;
    cells_whole = length-replicate (c * 2) 0;
    bytes_whole = length-replicate (c * 256) 0;
  }

  -- as many cells as were lent
  pub cells-lent : cell_count (length (emptied n c).cells) ≡ c
  cells-lent = (counts-follow right).1

  -- one empty leaf, in node 0
  abbrev pub nothing : Layers
  nothing = ((0, (0, [])), [])

  only-first : (k : ℕ) → once (node_no 0) (node_no k) + 0 ≡ 0 → 1 ≤ k
  only-first zero e = absurd (omega (arith, once-same 0))
  only-first (suc k) e = omega arith

  bare : Forest (emptied n c) nothing
  unfolding node_free is_cell_free
  bare = record {
    lent = holds (right-if _ _ _ n c right);
    rooted = emptied-root n c some-nodes;
    held = (rw begins (holds (empty_right _), empty-entries _), refl, a[]);
    in-edges = (a[], a[]);
    at-most-once = λ i. omega (arith, once-most (node_no 0) i);
    filed = a[];
    other-nodes = λ k h e.
        let inside : k < n = omega (arith, (counts-follow right).0) in
        holds (ap all_zero (emptied-free n c some-nodes k (only-first k e) inside) ∙ zeros-zero 47);
    other-cells = λ k h e.
        and_both (all_zero (part (zeros (c * 2)) (cell_start k) 2)) _ (holds (part-zero (c * 2) (cell_start k) 2))
        (holds (part-zero (c * 256) (key_start k) 256));
  }

  pub nothing_is : IsTree (emptied n c) nothing
  nothing_is = record { forest = bare; counted = ap (λ (xs : List ℕ). get_or xs 1 0) begins }

  -- after `clear`, memory is a tree with no entries
  pub cleared-tree : (v : Layers) × IsTree (emptied n c) v × (listing (emptied n c) v ≡ [])
  cleared-tree = (nothing, nothing_is, refl)
