-- One law for each return of `clear`, and what right lengths give to the store in between. Assumes nothing.
use mathlib.Core.Path.{◌≡◌, refl, ap, sym, ◌∙◌}
use mathlib.Core.Bool.{Bool, true, false, cond}
use mathlib.Core.List.{List, [], ◌∷◌}
use Prim.Native.Nat.{ℕ, ◌+◌, ◌*◌, ◌≤◌, ◌<◌}
use native.Mathlib.Omega.{arith}
use borrow.Author.Tests.{eq-eqb}
use lib.ListN.{length, length-replicate, get_or-replicate}
use Rattle.std.specs.Prelude.{Result, Ok, Err}
use Rattle.refusal.specs.Answer.{Answer, accepted, refused}
use Rattle.refusal.specs.declared.Refusal.{Refusal}
use Rattle.refusal.specs.Refusals.{number_of}
use Rattle.refusal.proofs.Laws.{number-pos}
use Rattle.arena.specs.declared.Fit.{Fit}
use Rattle.lent_words.specs.Parts.{put_part, zeros}
use Rattle.lent_nodes.specs.Layout.{node_start, cell_start, node_at, root_of, leaf_at, leaf_words, put_leaf, free_words, WholeLeaf}
use Rattle.lent_nodes.specs.Free.{free_nodes, free_cells}
use Rattle.arena.specs.Memory.{memory, did, node_count, cell_count, right_lengths, measured, said_measured, empty_leaf, emptied, cleared}
use Rattle.lent_words.proofs.Words.{zero-all, part_ext, part-all}
use Rattle.lent_nodes.proofs.Nodes.{nodes-length, head-kept, leaf-stored, node_kept, free-length}
use Rattle.lent_nodes.proofs.Frees.{all_pass}
use Rattle.lent_nodes.proofs.Counts.{nodes-fewer}
use Rattle.arena.proofs.Measures.{right-means, right-if, fit-means}

module _ (nodes cells bytes : List ℕ) {r : Result Fit Refusal} (e : said_measured r ≡ measured (length nodes) (length cells) (length bytes)) where
  fits : {fit : Fit} → r ≡ Ok fit → right_lengths (length nodes) (length cells) (length bytes) ≡ true
  fits {fit} f = right-if _ _ _ fit.nodes fit.cells (fit-means _ _ _ e f)

  -- there is a node 0, before and after the zeros are written
  pub one-node : (n1 : List ℕ) {fit : Fit} → r ≡ Ok fit → n1 ≡ put_part nodes 0 (zeros (length nodes)) → 49 ≤ length n1
  one-node n1 f en =
      let w = right-means _ _ _ (fits f) in
      let l : length n1 ≡ length nodes = ap length (en ∙ zero-all nodes) ∙ length-replicate (length nodes) 0 in
      omega (arith, w.n-low, w.nodes-whole)

  pub clear-refused : {why : Refusal} → r ≡ Err why
      → did (refused why []) (memory nodes cells bytes) ≡ cleared (memory nodes cells bytes)
  unfolding measured cleared
  clear-refused {why} f = by (right_lengths (length nodes) (length cells) (length bytes)) (ap said_measured (sym f) ∙ e)
    where
      by : (b : Bool) → refused why [] ≡ cond b (accepted (node_count (length nodes) ∷ cell_count (length cells) ∷ []))
          (record { number = 10; values = [] })
          → did (refused why []) (memory nodes cells bytes)
          ≡ cond b (did (accepted []) (emptied (node_count (length nodes)) (cell_count (length cells))))
          (did (record { number = 10; values = [] }) (memory nodes cells bytes))
      by true q = absurd (let z : number_of why ≡ 0 = ap (λ (a : Answer). a.number) q in omega (arith, number-pos why))
      by false q = ap (λ (a : Answer). did a (memory nodes cells bytes)) q

  pub clear-done : {fit : Fit} {n1 n2 c1 b1 : List ℕ} → r ≡ Ok fit → n1 ≡ put_part nodes 0 (zeros (length nodes))
      → c1 ≡ put_part cells 0 (zeros (length cells)) → b1 ≡ put_part bytes 0 (zeros (length bytes)) → n2 ≡ put_leaf n1 0 empty_leaf
      → did (accepted []) (memory n2 c1 b1) ≡ cleared (memory nodes cells bytes)
  unfolding cleared
  clear-done f en ec eb el =
      let t = fits f in
      let w = right-means _ _ _ t in
      rw (
        t,
        el,
        en ∙ zero-all nodes ∙ ap zeros w.nodes-whole,
        ec ∙ zero-all cells ∙ ap zeros w.cells_whole,
        eb ∙ zero-all bytes
            ∙ ap zeros w.bytes_whole,
      )

-- what `clear` names, so that a refusal needs no answer of its own
pub ruleset clearing = (one-node, clear-refused, clear-done)

-- ---- what `clear` leaves

module _ (n c : ℕ) (some : 1 ≤ n) where
  long : length (zeros (2 + n * 47)) ≡ 2 + n * 47
  long = length-replicate (2 + n * 47) 0

  first_fits : node_start 0 + 47 ≤ length (zeros (2 + n * 47))
  first_fits = rw long (omega arith)

  empty-whole : WholeLeaf empty_leaf
  empty-whole = record { ikeys-15 = refl; classes-15 = refl; refs-15 = refl }

  pub emptied-length : length (emptied n c).nodes ≡ 2 + n * 47
  emptied-length = nodes-length _ 0 first_fits (leaf_words empty_leaf) refl ∙ long

  pub emptied-root : root_of (emptied n c).nodes ≡ 0
  emptied-root = head-kept _ 0 first_fits (leaf_words empty_leaf) refl 0 (omega arith) ∙ get_or-replicate (2 + n * 47) 0 0 0 (omega arith)

  pub emptied-leaf : leaf_at (emptied n c).nodes 0 ≡ empty_leaf
  emptied-leaf = leaf-stored _ 0 first_fits empty_leaf empty-whole

  -- every other node is free
  pub emptied-free : (k : ℕ) → 1 ≤ k → k < n → node_at (emptied n c).nodes k ≡ free_words
  emptied-free k l h =
      node_kept _ 0 first_fits (leaf_words empty_leaf) refl k (rw long (omega arith)) (λ e. omega arith)
      ∙ part_ext _ free_words (node_start k) 0 47 (rw long (omega arith)) (omega (arith, free-length))
      (λ i j. get_or-replicate (2 + n * 47) (node_start k + i) 0 0 (omega arith) ∙ sym (get_or-replicate 47 (0 + i) 0 0 (omega arith)))
      ∙ part-all free_words 47 free-length

  -- all nodes but one are free, and all cells
  pub emptied-nodes : length (free_nodes (emptied n c).nodes n) + 1 ≡ n
  emptied-nodes =
      sym
      (nodes-fewer (zeros (2 + n * 47)) 0 first_fits n (leaf_words empty_leaf) refl (λ e. omega arith) some
      (get_or-replicate (2 + n * 47) (node_start 0) 0 0 (omega arith)))
      ∙ all_pass _ 0 n (λ j l h. eq-eqb _ _ (get_or-replicate (2 + n * 47) (node_start j) 0 0 (omega arith)))

  pub emptied-cells : length (free_cells (emptied n c).cells c) ≡ c
  emptied-cells = all_pass _ 0 c (λ j l h. eq-eqb _ _ (get_or-replicate (c * 2) (cell_start j) 0 0 (omega arith)))
