-- A tree reaches as many cells as it lists entries: each cell of an entry at its own number, and no node at the number of a cell.
-- Assumes nothing.
use mathlib.Core.Path.{◌≡◌, refl, sym, ap, ◌∙◌}
use mathlib.Core.Logic.{inl, inr}
use mathlib.Core.List.{List, [], ◌∷◌, ◌++◌}
use Prim.Native.Nat.{ℕ, zero, suc, ◌+◌, ◌*◌, ◌≤◌, ◌<◌}
use native.Mathlib.Omega.{arith}
use native.Mathlib.Decide.{ℕ_discrete}
use lib.Dec.{T, eqb}
use lib.ListN.{length, length-append}
use Rattle.bank.specs.Lists.{one_more_if}
use Rattle.bank.proofs.Tests.{is_true}
use Rattle.order.specs.Map.{All, a[], ◌a∷◌}
use Rattle.order.specs.Lists.{total, flattened}
use Rattle.order.proofs.Sums.{sum_below, sum-plus, sum-most}
use Rattle.arena.specs.Memory.{Memory, cell_count, right_lengths}
use Rattle.arena.proofs.Measures.{right-means}
use Rattle.forest.specs.Count.{how_many}
use Rattle.forest.specs.Cells.{filed}
use Rattle.forest.specs.Trees.{Key, Tree, node_no, cell_no, once, nodes_of}
use Rattle.forest.specs.Layers.{Value, Layer, reached_by, reached, FiledBy, Filed, listed_by, listed}
use Rattle.forest.specs.IsTree.{Layers, listing, Forest}
use Rattle.forest.proofs.Decides.{once-same, once-other}
use Rattle.forest.proofs.Inside.{filed-inside}

-- ---- sums and numbers of passes

sum-none : (n : ℕ) (f : ℕ → ℕ) → ((k : ℕ) → k < n → f k ≡ 0) → sum_below n f ≡ 0
sum-none zero f h = refl
sum-none (suc n) f h = omega (arith, h n (omega arith), sum-none n f (λ k l. h k (omega arith)))

one_more : (x n : ℕ) → x ≤ 1 → one_more_if (eqb x 1) n ≡ x + n
one_more zero n h = omega arith
one_more (suc zero) n h = omega arith
one_more (suc (suc x)) n h = absurd (omega arith)

-- marks of 0 or 1: those that are 1 are as many as their sum
pub as-many-marked : (n : ℕ) (mark count : ℕ → ℕ) → ((k : ℕ) → k < n → mark k ≡ count k) → ((k : ℕ) → k < n → count k ≤ 1)
    → how_many n (λ k. eqb (mark k) 1) ≡ sum_below n count
unfolding how_many
as-many-marked zero mark count e h = refl
as-many-marked (suc n) mark count e h =
    let q = e n (omega arith) in
    let few = h n (omega arith) in
    one_more (mark n) (how_many n (λ k. eqb (mark k) 1)) (omega arith)
    ∙ omega (arith, as-many-marked n mark count (λ k l. e k (omega arith)) (λ k l. h k (omega arith)))

-- ---- one cell

abbrev cell_once : ℕ → ℕ → ℕ
cell_once c j = once (cell_no c) (cell_no j)

other-cell : (c j : ℕ) → (j ≡ c → ⊥) → cell_once c j ≡ 0
other-cell c j ne = once-other (cell_no c) (cell_no j) (λ e. ne (omega arith))

sum-once : (n c : ℕ) → c < n → sum_below n (cell_once c) ≡ 1
sum-once zero c h = absurd (omega arith)
sum-once (suc n) c h = go (ℕ_discrete c n) (sum-once n c)
  where
    go : Dec (c ≡ n) → (c < n → sum_below n (cell_once c) ≡ 1) → cell_once c n + sum_below n (cell_once c) ≡ 1
    go (yes e) r =
        let here : cell_once c n ≡ 1 = ap (λ (j : ℕ). cell_once c j) (sym e) ∙ once-same (cell_no c) in
        omega (arith, here, sum-none n (cell_once c) (λ j l. other-cell c j (λ q. omega arith)))
    go (no ne) r = omega (arith, r (omega arith), other-cell c n (λ q. ne (sym q)))

-- ---- no node stands at the number of a cell

total-none : {A : Type 0} (f : A → ℕ) → ((x : A) → f x ≡ 0) → (xs : List A) → total f xs ≡ 0
total-none f h [] = refl
total-none f h (x ∷ xs) = omega (arith, h x, total-none f h xs)

nodes-none : (h : ℕ) (t : Tree h) (j : ℕ) → nodes_of h t (cell_no j) ≡ 0
nodes-none zero t j = once-other (node_no t.0) (cell_no j) (λ e. omega arith)
nodes-none (suc h) t j =
    omega (
      arith,
      once-other (node_no t.0) (cell_no j) (λ e. omega arith),
      total-none (λ p. nodes_of h p.1 (cell_no j)) (λ p. nodes-none h p.1 j) t.1,
    )

-- ---- layers

module _ (cells bytes : List ℕ) (C : ℕ) (whole : length cells ≡ C * 2) where
  abbrev ValueCounted : ℕ → Type 0
  ValueCounted l =
      (above : List ℕ) (k : Key) (v : Value l) → FiledBy cells bytes l above k v
      → length (listed_by cells bytes l v) ≡ sum_below C (λ j. reached_by l v (cell_no j))

  cell-counted : (above : List ℕ) (k : Key) (c : ℕ) → T (filed cells bytes above k.0 k.1 c) → 1 ≡ sum_below C (cell_once c)
  cell-counted above k c t = sym (sum-once C c (filed-inside cells bytes above k.0 k.1 c C whole t))

  entries-counted : (l : ℕ) → ValueCounted l → (above : List ℕ) {es : List (Key × Value l)}
      → All (λ e. FiledBy cells bytes l above e.0 e.1) es
      → length (flattened (λ e. listed_by cells bytes l e.1) es)
      ≡ sum_below C (λ j. total (λ e. reached_by l e.1 (cell_no j)) es)
  entries-counted l f above a[] = sym (sum-none C (λ j. 0) (λ j h. refl))
  entries-counted l f above (◌a∷◌ {x = e} {xs = es} t ts) =
      omega (
        arith,
        length-append (listed_by cells bytes l e.1) (flattened (λ e. listed_by cells bytes l e.1) es),
        f above e.0 e.1 t,
        entries-counted l f above ts,
        sum-plus C (λ j. reached_by l e.1 (cell_no j)) (λ j. total (λ e. reached_by l e.1 (cell_no j)) es),
      )

  layer-counted : (l : ℕ) → ValueCounted l → (above : List ℕ) (v : Layer l) → Filed cells bytes l above v
      → length (listed cells bytes l v) ≡ sum_below C (λ j. reached l v (cell_no j))
  layer-counted l f above v files =
      omega (
        arith,
        entries-counted l f above files,
        sum-plus C (λ j. nodes_of v.0.0 v.0.1 (cell_no j)) (λ j. total (λ e. reached_by l e.1 (cell_no j)) v.1),
        sum-none C (λ j. nodes_of v.0.0 v.0.1 (cell_no j)) (λ j h. nodes-none v.0.0 v.0.1 j),
      )

  value-counted : (l : ℕ) → ValueCounted l
  value-counted zero above k c files = cell-counted above k c files
  value-counted (suc l) above k (inl c) files = cell-counted above k c files
  value-counted (suc l) above k (inr v) files = layer-counted l (value-counted l) (above ++ k.0 ∷ []) v files

-- ---- the whole

module _ (m : Memory) (v : Layers) (t : Forest m v) where
  abbrev C : ℕ
  C = cell_count (length m.cells)

  -- as many entries are listed as cells are reached
  pub cells-counted : length (listing m v) ≡ sum_below C (λ j. reached 31 v (cell_no j))
  cells-counted =
      let right = right-means _ _ _ (is_true (right_lengths (length m.nodes) (length m.cells) (length m.bytes)) t.lent) in
      layer-counted m.cells m.bytes C right.cells_whole 31 (value-counted m.cells m.bytes C right.cells_whole 31) [] v
      t.filed

  -- no more keys than cells
  pub few-listed : length (listing m v) ≤ C
  few-listed =
      omega (arith, cells-counted, sum-most C (λ j. reached 31 v (cell_no j)) (λ j. t.at-most-once (cell_no j)))

  pub few-255 : length (listing m v) ≤ 255
  few-255 =
      let right = right-means _ _ _ (is_true (right_lengths (length m.nodes) (length m.cells) (length m.bytes)) t.lent) in
      omega (arith, few-listed, right.c-high)
