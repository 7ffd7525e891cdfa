-- Free cells: the lowest taken, and one given back. Assumes nothing.
use mathlib.Core.List.{List, [], ◌∷◌}
use mathlib.Core.Logic.{◌≢◌}
use mathlib.Core.Option.{Option, none, some}
use mathlib.Core.Path.{◌≡◌, refl, sym, ap, ◌∙◌, subst}
use Prim.Native.Nat.{ℕ, ◌≤◌, ◌<◌, zero, suc, ◌+◌}
use native.Mathlib.Omega.{arith}
use lib.ListN.{get_or, length, set}
use lib.Seq.{get_or-set_same, get_or-set_other}
use Rattle.trees.specs.Nodes.{one_at}
use Rattle.trees.specs.FreeNumbers.{times_in}
use Rattle.trees.specs.Cells.{CellList, or_else, cell_at, free_cell_numbers}
use Rattle.trees.proofs.Nodes.{one_at-same}
use Rattle.trees.proofs.FreeNumbers.{heads}

free-cell-taken : (cs : CellList) (i r : ℕ) (fs : List ℕ) (x : List ℕ × ℕ) → free_cell_numbers i cs ≡ r ∷ fs
    → (n : ℕ) × (r ≡ i + n) × (n < length cs) × (free_cell_numbers i (set cs n (some x)) ≡ fs)
free-cell-taken [] i r fs x e = let z : ◌≡◌ {A = ℕ} 0 1 = cc in absurd (omega arith)
free-cell-taken (none ∷ cs) i r fs x e = (0, omega (arith, heads e), omega arith, cc)
free-cell-taken (some y ∷ cs) i r fs x e =
    let t = free-cell-taken cs (suc i) r fs x e in (suc t.0, omega (arith, t.1), omega (arith, t.2), t.3)

pub cell-taken : (cs : CellList) (r : ℕ) (fs : List ℕ) (x : List ℕ × ℕ) → free_cell_numbers 0 cs ≡ r ∷ fs
    → (r < length cs) × (free_cell_numbers 0 (set cs r (some x)) ≡ fs)
cell-taken cs r fs x e = let t = free-cell-taken cs 0 r fs x e in let q : t.0 ≡ r = omega (arith, t.1) in (rw q at t.2, rw q at t.3)

pub cell_same : (cs : CellList) (c : ℕ) (x : List ℕ × ℕ) → c < length cs → cell_at (set cs c (some x)) c ≡ x
cell_same cs c x h = ap (or_else ([], 0)) (get_or-set_same cs c (some x) none h)

pub cell_other : (cs : CellList) (c j : ℕ) (x : Option (List ℕ × ℕ)) → j ≢ c → cell_at (set cs c x) j ≡ cell_at cs j
cell_other cs c j x h = ap (or_else ([], 0)) (get_or-set_other cs c j x none h)

-- a cell given back
free-cell-given : (cs : CellList) (i n : ℕ) (x : List ℕ × ℕ) (j : ℕ) → get_or cs n none ≡ some x
    → times_in (free_cell_numbers i (set cs n none)) j ≡ one_at (i + n) j + times_in (free_cell_numbers i cs) j
free-cell-given [] i n x j e = let z : ◌≡◌ {A = ℕ} 0 1 = cc in absurd (omega arith)
free-cell-given (none ∷ cs) i zero x j e = let z : ◌≡◌ {A = ℕ} 0 1 = cc in absurd (omega arith)
free-cell-given (some y ∷ cs) i zero x j e = let z : i + 0 ≡ i = omega arith in rw z
free-cell-given (none ∷ cs) i (suc n) x j e =
    let z : i + suc n ≡ suc i + n = omega arith in omega (arith, free-cell-given cs (suc i) n x j e, ap (λ (k : ℕ). one_at k j) z)
free-cell-given (some y ∷ cs) i (suc n) x j e =
    let z : i + suc n ≡ suc i + n = omega arith in omega (arith, free-cell-given cs (suc i) n x j e, ap (λ (k : ℕ). one_at k j) z)

free-cell-there : (cs : CellList) (i n : ℕ) → n < length cs → get_or cs n none ≡ none → 1 ≤ times_in (free_cell_numbers i cs) (i + n)
free-cell-there [] i n h e = absurd (omega arith)
free-cell-there (none ∷ cs) i zero h e = let z : i + 0 ≡ i = omega arith in rw z (omega (arith, one_at-same i))
free-cell-there (some y ∷ cs) i zero h e = let z : ◌≡◌ {A = ℕ} 0 1 = cc in absurd (omega arith)
free-cell-there (none ∷ cs) i (suc n) h e =
    let z : i + suc n ≡ suc i + n = omega arith in
    subst (λ (k : ℕ). 1 ≤ times_in (free_cell_numbers i (none ∷ cs)) k) (sym z)
    (omega (arith, free-cell-there cs (suc i) n (omega arith) e))
free-cell-there (some y ∷ cs) i (suc n) h e =
    let z : i + suc n ≡ suc i + n = omega arith in rw z (free-cell-there cs (suc i) n (omega arith) e)

pub cell-given : (cs : CellList) (c : ℕ) → c < length cs → times_in (free_cell_numbers 0 cs) c ≡ 0 → (j : ℕ)
    → times_in (free_cell_numbers 0 (set cs c none)) j ≡ one_at c j + times_in (free_cell_numbers 0 cs) j
cell-given cs c h z j = go (get_or cs c none) refl
  where
    p : 0 + c ≡ c
    p = omega arith

    go : (o : Option (List ℕ × ℕ)) → get_or cs c none ≡ o
        → times_in (free_cell_numbers 0 (set cs c none)) j ≡ one_at c j + times_in (free_cell_numbers 0 cs) j
    go none e = absurd (omega (arith, free-cell-there cs 0 c h e, ap (times_in (free_cell_numbers 0 cs)) p))
    go (some x) e = free-cell-given cs 0 c x j e ∙ ap (λ (k : ℕ). one_at k j + times_in (free_cell_numbers 0 cs) j) p
