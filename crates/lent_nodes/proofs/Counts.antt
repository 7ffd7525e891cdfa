-- Free nodes and free cells: what the lowest is, and how a store and a freed number change them. Assumes nothing.
use mathlib.Core.Path.{◌≡◌, refl, ap}
use mathlib.Core.List.{List, [], ◌∷◌}
use mathlib.Core.Logic.{⊎_elim, ◌⊎◌, inl, inr}
use Prim.Native.Nat.{ℕ, ◌+◌, ◌≤◌, ◌<◌}
use native.Mathlib.Omega.{arith}
use lib.ListN.{length, get_or}
use borrow.Author.Tests.{eqb-true, eqb-false}
use Rattle.std.specs.Prelude.{Some, None}
use Rattle.lent_words.specs.Parts.{zeros}
use Rattle.lent_nodes.specs.Layout.{node_start, kind_at, put_node, freed_node, free_words, cell_start, mark_at, put_cell, freed_cell}
use Rattle.lent_nodes.specs.Free.{is_free, frees, free_nodes, free_cells, lowest}
use Rattle.lent_nodes.proofs.Nodes.{nodes-apart, free-length}
use Rattle.lent_nodes.proofs.Cells.{cells-apart}
use Rattle.lent_nodes.proofs.Frees.{first-passing, lowest-taken, fewer-free, more-free, as-free, all-used}

-- ---- the lowest free number

-- the lowest of a list is its first
pub lowest-first : (ks : List ℕ) {k : ℕ} → lowest ks ≡ Some k → (rest : List ℕ) × (ks ≡ k ∷ rest)
lowest-first [] e = absurd (let z : ◌≡◌ {A = ℕ} 0 1 = cc in omega arith)
lowest-first (j ∷ ks) {k} e = (ks, let q : j ≡ k = cc in ap (λ (i : ℕ). i ∷ ks) q)

pub lowest-none : (ks : List ℕ) → lowest ks ≡ None → ks ≡ []
lowest-none [] e = refl
lowest-none (j ∷ ks) e = absurd (let z : ◌≡◌ {A = ℕ} 0 1 = cc in omega arith)

-- it is free, it is one of the n, and every number below it is in use
pub record LowestFree (place : ℕ → ℕ) (xs : List ℕ) (n k : ℕ) : Type 0 where
  pub in-range : k < n
  pub is-free : get_or xs (place k) 0 ≡ 0
  pub below-used : (j : ℕ) → j < k → get_or xs (place j) 0 ≡ 0 → ⊥

pub lowest-free : (place : ℕ → ℕ) (xs : List ℕ) (n : ℕ) {k : ℕ} → lowest (frees place xs n) ≡ Some k → LowestFree place xs n k
lowest-free place xs n e =
    let r = first-passing (is_free place xs) 0 n (lowest-first (frees place xs n) e).1 in
    record {
      in-range = omega (arith, r.high);
      is-free = eqb-true _ _ r.passes;
      below-used = λ j l. eqb-false _ _ (r.none_below j (omega arith) l);
    }

-- where there is none, all n are in use
pub none_free : (place : ℕ → ℕ) (xs : List ℕ) (n : ℕ) → lowest (frees place xs n) ≡ None → (j : ℕ) → j < n → get_or xs (place j) 0 ≡ 0 → ⊥
none_free place xs n e j l = eqb-false _ _ (all-used (is_free place xs) 0 n (lowest-none _ e) j (omega arith) (omega arith))

-- ---- nodes; `ws` are the words stored

module _ (m : List ℕ) (k : ℕ) (fits : node_start k + 47 ≤ length m) (n : ℕ) where
  module _ (ws : List ℕ) (whole : length ws ≡ 47) where
    outside : (j : ℕ) → (j ≡ k → ⊥) → (node_start j < node_start k) ⊎ (node_start k + length ws ≤ node_start j)
    outside j ne = ⊎_elim (λ p. inl (omega arith)) (λ p. inr (omega arith)) (nodes-apart j k ne)

    pub node-taken : {ks : List ℕ} → (get_or ws 0 0 ≡ 0 → ⊥) → free_nodes m n ≡ k ∷ ks → free_nodes (put_node m k ws) n ≡ ks
    node-taken h e = lowest-taken node_start m k ws (rw whole fits) (omega arith) outside n e h

    pub nodes-fewer : (get_or ws 0 0 ≡ 0 → ⊥) → k < n → kind_at m k ≡ 0 → length (free_nodes m n) ≡ length (free_nodes (put_node m k ws) n) + 1
    nodes-fewer h l a = fewer-free node_start m k ws (rw whole fits) (omega arith) outside n l a h

    pub nodes-as-free : (get_or ws 0 0 ≡ 0 → ⊥) → (kind_at m k ≡ 0 → ⊥) → free_nodes (put_node m k ws) n ≡ free_nodes m n
    nodes-as-free h a = as-free node_start m k ws (rw whole fits) (omega arith) outside n a h

  pub nodes-more : k < n → (kind_at m k ≡ 0 → ⊥) → length (free_nodes (freed_node m k) n) ≡ length (free_nodes m n) + 1
  nodes-more l a = more-free node_start m k free_words (rw free-length fits) (omega (arith, free-length)) (outside free_words free-length) n l
      a refl

-- ---- cells

module _ (m : List ℕ) (k : ℕ) (fits : cell_start k + 2 ≤ length m) (n : ℕ) where
  apart : (j : ℕ) → (j ≡ k → ⊥) → (cell_start j < cell_start k) ⊎ (cell_start k + 2 ≤ cell_start j)
  apart j ne = ⊎_elim (λ p. inl (omega arith)) (λ p. inr (omega arith)) (cells-apart j k ne)

  module _ (len frame : ℕ) where
    marked : len + 1 ≡ 0 → ⊥
    marked e = omega arith

    pub cell-taken : {ks : List ℕ} → free_cells m n ≡ k ∷ ks → free_cells (put_cell m k len frame) n ≡ ks
    cell-taken e = lowest-taken cell_start m k ((len + 1) ∷ frame ∷ []) fits (omega arith) apart n e marked

    pub cells-fewer : k < n → mark_at m k ≡ 0 → length (free_cells m n) ≡ length (free_cells (put_cell m k len frame) n) + 1
    cells-fewer l a = fewer-free cell_start m k ((len + 1) ∷ frame ∷ []) fits (omega arith) apart n l a marked

    pub cells-as-free : (mark_at m k ≡ 0 → ⊥) → free_cells (put_cell m k len frame) n ≡ free_cells m n
    cells-as-free a = as-free cell_start m k ((len + 1) ∷ frame ∷ []) fits (omega arith) apart n a marked

  pub cells-more : k < n → (mark_at m k ≡ 0 → ⊥) → length (free_cells (freed_cell m k) n) ≡ length (free_cells m n) + 1
  cells-more l a = more-free cell_start m k (zeros 2) fits (omega arith) apart n l a refl
