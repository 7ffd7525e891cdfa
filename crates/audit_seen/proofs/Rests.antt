-- Laws on what the walk leaves unseen: one for each way that the code returns. Assumes nothing.
use mathlib.Core.Path.{◌≡◌, refl, sym, ap, ◌∙◌}
use mathlib.Core.Bool.{Bool, true, false, ◌&&◌}
use mathlib.Core.List.{List}
use mathlib.Core.Option.{some}
use Prim.Native.Nat.{ℕ, zero, suc, ◌+◌, ◌*◌, ◌≤◌, ◌<◌}
use native.Mathlib.Numerals.{add-one}
use native.Mathlib.Decide.{dec_lt}
use native.Mathlib.Omega.{arith}
use borrow.Author.Rules.{rules}
use borrow.Author.Tests.{not-true, not-false, eq-eqb, ne_eqb}
use lib.Dec.{eqb}
use lib.ListN.{length, get_or}
use Rattle.arena.specs.Memory.{memory, node_count, cell_count}
use Rattle.forest.specs.Nodes.{node_free}
use Rattle.forest.specs.Cells.{is_cell_free}
use Rattle.bank.specs.Lists.{all_below}
use Rattle.forest.specs.Count.{count_of, how_many}
use Rattle.forest.specs.Walk.{Seen, rest_free, cells_seen, walked_well}
use Rattle.audit_seen.specs.Seen.{node_left, cell_left, cell_seen, LentAll}

-- ---- a test of every number below n

module _ (test : ℕ → Bool) where
  pub below-start : all_below 0 test ≡ true
  below-start = refl

  pub below_next : (k : ℕ) → all_below k test ≡ true → test k ≡ true → all_below (k + 1) test ≡ true
  below_next k e t = rw (add-one k, e, t)

  pub below_end : (n k : ℕ) → all_below k test ≡ true → k ≤ n → n ≤ k → true ≡ all_below n test
  below_end n k e a b = let q : n ≡ k = omega arith in rw q (sym e)

  and-false : (b : Bool) → (b && false) ≡ false
  and-false true = refl
  and-false false = refl

  pub below-not : (n k : ℕ) → k < n → test k ≡ false → false ≡ all_below n test
  below-not zero k h t = absurd (omega arith)
  below-not (suc n) k h t = by (dec_lt k n) (λ l. below-not n k l t)
    where
      by : Dec (k < n) → (k < n → false ≡ all_below n test) → false ≡ (test n && all_below n test)
      by (yes l) f = rw (← f l) (sym (and-false (test n)))
      by (no g) f = let q : n ≡ k = omega arith in rw (q, t)

-- ---- nodes and cells

module _ (nodes : List ℕ) (seen : Seen) (k : ℕ) where
  pub node_seen : get_or seen (2 * k) 0 ≡ 1 → node_left nodes seen k ≡ true
  unfolding node_left
  node_seen e = rw (eq-eqb _ _ e)

  module _ (e : get_or seen (2 * k) 0 ≡ 1 → ⊥) {r : Bool} (f : r ≡ node_free nodes k) where
    node-is : node_left nodes seen k ≡ r
    unfolding node_left
    node-is = rw (ne_eqb _ _ e) (sym f)

    node-free : r ≡ true → node_left nodes seen k ≡ true
    node-free t = node-is ∙ t

    pub nodes-next : all_below k (node_left nodes seen) ≡ true → r ≡ true → all_below (k + 1) (node_left nodes seen) ≡ true
    nodes-next b t = below_next (node_left nodes seen) k b (node-free t)

    pub node-not : r ≡ false → node_left nodes seen k ≡ false
    node-not t = node-is ∙ t

module _ (cells bytes : List ℕ) (seen : Seen) (k : ℕ) where
  pub cell-seen : get_or seen (2 * k + 1) 0 ≡ 1 → cell_left cells bytes seen k ≡ true
  unfolding cell_left
  cell-seen e = rw (eq-eqb _ _ e)

  module _ (e : get_or seen (2 * k + 1) 0 ≡ 1 → ⊥) {r : Bool} (f : r ≡ is_cell_free cells bytes k) where
    cell-is : cell_left cells bytes seen k ≡ r
    unfolding cell_left
    cell-is = rw (ne_eqb _ _ e) (sym f)

    cell_free : r ≡ true → cell_left cells bytes seen k ≡ true
    cell_free t = cell-is ∙ t

    pub cells-next : all_below k (cell_left cells bytes seen) ≡ true → r ≡ true → all_below (k + 1) (cell_left cells bytes seen) ≡ true
    cells-next b t = below_next (cell_left cells bytes seen) k b (cell_free t)

    pub cell-not : r ≡ false → cell_left cells bytes seen k ≡ false
    cell-not t = cell-is ∙ t

pub ruleset lefts = (
  rules,
  not-true,
  not-false,
  below-start,
  below_next,
  below_end,
  below-not,
  node_seen,
  nodes-next,
  node-not,
  cell-seen,
  cells-next,
  cell-not,
)

-- ---- the cells, and how many of them were seen

module _ (seen : Seen) where
  pub count-start : 0 ≡ how_many 0 (cell_seen seen)
  unfolding how_many
  count-start = refl

  pub count-seen : (k : ℕ) {many : ℕ} → get_or seen (2 * k + 1) 0 ≡ 1 → many ≡ how_many k (cell_seen seen)
      → many + 1 ≡ how_many (k + 1) (cell_seen seen)
  unfolding how_many
  count-seen k {many} e h = rw (add-one k, add-one many, eq-eqb _ _ e) (ap suc h)

  pub count-unseen : (k : ℕ) {many : ℕ} → (get_or seen (2 * k + 1) 0 ≡ 1 → ⊥) → many ≡ how_many k (cell_seen seen)
      → many ≡ how_many (k + 1) (cell_seen seen)
  unfolding how_many
  count-unseen k e h = rw (add-one k, ne_eqb _ _ e) h

module _ (cells bytes : List ℕ) (seen : Seen) (c count k : ℕ) where
  pub cells-not : k < c → cell_left cells bytes seen k ≡ false
      → false ≡ (all_below c (cell_left cells bytes seen) && eqb count (how_many c (cell_seen seen)))
  cells-not h f = rw (← below-not (cell_left cells bytes seen) c k h f)

  pub cells-end : {many : ℕ} → all_below k (cell_left cells bytes seen) ≡ true → k ≤ c → c ≤ k → many ≡ how_many k (cell_seen seen)
      → eqb count many ≡ (all_below c (cell_left cells bytes seen) && eqb count (how_many c (cell_seen seen)))
  cells-end {many} e a b h =
      let q : c ≡ k = omega arith in rw (q, e, ← h) refl

pub ruleset counts = (lefts, count-start, count-seen, count-unseen, cells-not, cells-end)

-- ---- both

module _ (nodes cells bytes : List ℕ) (seen : Seen) (n c : ℕ) (l : LentAll nodes cells bytes seen n c) where
  counted : (node_count (length nodes) ≡ n) × (cell_count (length cells) ≡ c)
  counted =
      (let e : length nodes ≡ 2 + n * 47 = l.nodes-all in omega arith, let e : length cells ≡ c * 2 = l.cells-all in omega arith)

  -- word 1 of the nodes stands in memory
  pub count-in : 1 < length nodes
  count-in = let e : length nodes ≡ 2 + n * 47 = l.nodes-all in omega arith

  rest-is : walked_well (memory nodes cells bytes) (some seen)
      ≡ ((all_below n (node_left nodes seen) && all_below c (cell_left cells bytes seen)) && eqb (get_or nodes 1 0) (how_many c (cell_seen seen)))
  unfolding rest_free cells_seen node_left cell_left
  rest-is = let (en, ec) = counted in rw (en, ec)

  module _ {r : Bool} (e : r ≡ all_below n (node_left nodes seen)) where
    pub rest-not : r ≡ false → false ≡ walked_well (memory nodes cells bytes) (some seen)
    rest-not f = rw (rest-is, ← e, f)

    pub rest-so : {q : Bool} → r ≡ true → q ≡ (all_below c (cell_left cells bytes seen) && eqb (get_or nodes 1 0) (how_many c (cell_seen seen)))
        → q ≡ walked_well (memory nodes cells bytes) (some seen)
    rest-so f g = rw (rest-is, ← e, f) g

pub ruleset rests = (rules, not-true, not-false, count-in, rest-not, rest-so)
