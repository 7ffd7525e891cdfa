-- On a tree, the entries and the free cells are together as many as the lent cells. Assumes nothing.
use mathlib.Core.Path.{◌≡◌, refl, sym, ap, ◌∙◌, subst}
use mathlib.Core.Bool.{Bool, true, false}
use mathlib.Core.Logic.{⊎_elim}
use mathlib.Core.List.{List, []}
use Prim.Native.Nat.{ℕ, zero, suc, ◌+◌, ◌<◌}
use native.Mathlib.Omega.{arith}
use lib.ListN.{length}
use borrow.Author.Tests.{eq-eqb, ne_eqb}
use Rattle.bank.specs.Lists.{one_more_if}
use Rattle.order.proofs.Sums.{sum_below}
use Rattle.arena.specs.Free.{cons_if, is_free, passing, free_cells}
use Rattle.arena.specs.Layout.{cell_start, mark_at}
use Rattle.arena.specs.Memory.{Memory}
use Rattle.forest.specs.Trees.{cell_no}
use Rattle.forest.specs.Layers.{reached}
use Rattle.forest.specs.IsTree.{Layers, Forest, IsTree, listing}
use Rattle.forest.proofs.Counts.{cells-counted}
use Rattle.model.specs.Calls.{count_of, cells_of}
use Rattle.views.proofs.Nodes.{free-mark, right-mark}
use Rattle.views.proofs.Counts.{cell-used, some_or_none}

-- ---- numbers that pass a test, and numbers that are counted

-- 1 where the test passes
abbrev one : Bool → ℕ
one b = one_more_if b 0

length-cons : (b : Bool) (i : ℕ) (ks : List ℕ) → length (cons_if b i ks) ≡ one b + length ks
length-cons true i ks = omega arith
length-cons false i ks = omega arith

sum_first : (n : ℕ) (f : ℕ → ℕ) → sum_below (suc n) f ≡ f 0 + sum_below n (λ k. f (suc k))
sum_first zero f = refl
sum_first (suc n) f = omega (arith, sum_first n f)

-- where each of n numbers is counted once or passes the test, and never both, the two together are n
counted-or-passing : (test : ℕ → Bool) (n i : ℕ) (count : ℕ → ℕ) → ((k : ℕ) → k < n → count k + one (test (i + k)) ≡ 1)
    → sum_below n count + length (passing test i n) ≡ n
unfolding passing
counted-or-passing test zero i count h = refl
counted-or-passing test (suc n) i count h =
    let here : i + 0 ≡ i = omega arith in
    let first : count 0 + one (test i) ≡ 1 = subst (λ (j : ℕ). count 0 + one (test j) ≡ 1) here (h 0 (omega arith)) in
    let later : (k : ℕ) → k < n → count (suc k) + one (test (suc i + k)) ≡ 1 = λ k l.
    let next : i + suc k ≡ suc i + k = omega arith in
    subst (λ (j : ℕ). count (suc k) + one (test j) ≡ 1) next (h (suc k) (omega arith)) in
    omega (
      arith,
      first,
      sum_first n count,
      length-cons (test i) i (passing test (suc i) n),
      counted-or-passing test n (suc i) (λ k. count (suc k)) later,
    )

-- ---- cells

module _ (m : Memory) (v : Layers) (t : Forest m v) where
  abbrev free : ℕ → Bool
  free c = is_free cell_start m.cells c

  -- a lent cell is reached once, or free
  cell-either : (c : ℕ) → c < cells_of m → reached 31 v (cell_no c) + one (free c) ≡ 1
  cell-either c h =
      ⊎_elim
      (λ r.
      let marked = right-mark m.cells m.bytes c (cell-used m.cells m.bytes 31 [] v t.filed c r) in
      rw (ne_eqb (mark_at m.cells c) 0 (λ z. omega (arith, marked.0))) (omega (arith, t.at-most-once (cell_no c))))
      (λ z. rw (eq-eqb (mark_at m.cells c) 0 (free-mark m.cells m.bytes c (t.other-cells c h z)), z) refl)
      (some_or_none (reached 31 v (cell_no c)))

  listed-and-free : length (listing m v) + length (free_cells m.cells (cells_of m)) ≡ cells_of m
  listed-and-free =
      let sum = counted-or-passing free (cells_of m) 0 (λ c. reached 31 v (cell_no c))
      (λ c h. let e : c ≡ 0 + c = omega arith in
      subst (λ (j : ℕ). reached 31 v (cell_no c) + one (free j) ≡ 1) e (cell-either c h)) in
      omega (arith, sum, cells-counted m v t)

-- stored and free cells are the lent cells
pub stored-and-free : (m : Memory) (v : Layers) → IsTree m v → count_of m + length (free_cells m.cells (cells_of m)) ≡ cells_of m
stored-and-free m v t = omega (arith, t.counted, listed-and-free m v t.forest)
