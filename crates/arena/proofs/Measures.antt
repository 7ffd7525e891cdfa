-- Laws on the lent lengths: which are right, and what each test of `measure` tells. Assumes nothing.
use mathlib.Core.Path.{◌≡◌, refl, sym, ap, ◌∙◌}
use mathlib.Core.Bool.{Bool, true, false, cond, ◌&&◌}
use mathlib.Core.List.{[], ◌∷◌}
use Prim.Native.Nat.{ℕ, ◌+◌, ◌-◌, ◌*◌, ◌/◌, ◌≤◌, ◌<◌}
use native.Mathlib.Nat.{mul-div_cancel}
use native.Mathlib.Omega.{arith}
use borrow.Author.Tests.{leb-true, eqb-true, le-leb, eq-eqb}
use lib.ListN.{get_or}
use Rattle.std.specs.Prelude.{Result, Ok}
use Rattle.refusal.specs.Answer.{Answer, accepted, refused}
use Rattle.refusal.specs.declared.Refusal.{Refusal}
use Rattle.refusal.specs.declared.Refusal.TheVariants.{Memory}
use Rattle.arena.specs.declared.Fit.{Fit}
use Rattle.lent_nodes.specs.Layout.{node_start, cell_start, key_start}
use Rattle.arena.specs.Memory.{said_measured, node_count, cell_count, right_lengths, measured}

pub and-true : (a b : Bool) → a && b ≡ true → (a ≡ true) × (b ≡ true)
and-true true b e = (refl, e)
and-true false b e = (e, absurd (let z : ◌≡◌ {A = ℕ} 0 1 = cc in omega arith))

-- what right lengths are: 2 + 47 N words, 2 C words, 256 C bytes
pub record Right (nodes cells bytes n c : ℕ) : Type 0 where
  pub n-low : 1 ≤ n
  pub n-high : n ≤ 255
  pub c-low : 1 ≤ c
  pub c-high : c ≤ 255
  pub nodes-whole : nodes ≡ 2 + n * 47
  pub cells_whole : cells ≡ c * 2
  pub bytes_whole : bytes ≡ c * 256

pub right-means : (nodes cells bytes : ℕ) → right_lengths nodes cells bytes ≡ true
    → Right nodes cells bytes (node_count nodes) (cell_count cells)
unfolding right_lengths
right-means nodes cells bytes e =
    let (e4, b) = and-true _ _ e in
    let (e3, c) = and-true _ _ e4 in
    let (e2, n) = and-true _ _ e3 in
    let (un, uc) = and-true _ _ e2 in
    let (n1, n2) = and-true _ _ un in
    let (c1, c2) = and-true _ _ uc in
    record {
      n-low = leb-true _ _ n1;
      n-high = leb-true _ _ n2;
      c-low = leb-true _ _ c1;
      c-high = leb-true _ _ c2;
      nodes-whole = eqb-true _ _ n;
      cells_whole = eqb-true _ _ c;
      bytes_whole = eqb-true _ _ b;
    }

-- any N and C from 1 to 255 have right lengths, and N and C follow from them
pub counts-follow : {nodes cells bytes n c : ℕ} → Right nodes cells bytes n c → (node_count nodes ≡ n) × (cell_count cells ≡ c)
counts-follow {nodes} {cells} {bytes} {n} {c} r =
    let e : nodes - 2 ≡ n * 47 = omega (arith, r.nodes-whole) in
    (ap (λ (x : ℕ). x / 47) e ∙ mul-div_cancel n (omega arith), ap (λ (x : ℕ). x / 2) r.cells_whole ∙ mul-div_cancel c (omega arith))

pub right-counts : (nodes cells bytes : ℕ) → Right nodes cells bytes (node_count nodes) (cell_count cells)
    → right_lengths nodes cells bytes ≡ true
unfolding right_lengths
right-counts nodes cells bytes r =
    rw (
      le-leb _ _ r.n-low,
      le-leb _ _ r.n-high,
      le-leb _ _ r.c-low,
      le-leb _ _ r.c-high,
      eq-eqb _ _ r.nodes-whole,
      eq-eqb _ _ r.cells_whole,
      eq-eqb _ _ r.bytes_whole,
    )

pub right-if : (nodes cells bytes n c : ℕ) → Right nodes cells bytes n c → right_lengths nodes cells bytes ≡ true
right-if nodes cells bytes n c r =
    let (en, ec) = counts-follow r in right-counts nodes cells bytes (rw (en, ec) r)

-- what a caller knows once `lengths` has told N and C
module _ (nodes cells bytes : ℕ) {r : Result Fit Refusal} (e : said_measured r ≡ measured nodes cells bytes) where
  pub fit-means : {fit : Fit} → r ≡ Ok fit → Right nodes cells bytes fit.nodes fit.cells
  unfolding measured
  fit-means {fit} f = by (right_lengths nodes cells bytes) refl (ap said_measured (sym f) ∙ e)
    where
      by : (b : Bool) → right_lengths nodes cells bytes ≡ b
          → accepted (fit.nodes ∷ fit.cells ∷ []) ≡ cond b (accepted (node_count nodes ∷ cell_count cells ∷ [])) (record { number = 10; values = [] })
          → Right nodes cells bytes fit.nodes fit.cells
      by true t q =
          let en : fit.nodes ≡ node_count nodes = ap (λ (a : Answer). get_or a.values 0 0) q in
          let ec : fit.cells ≡ cell_count cells = ap (λ (a : Answer). get_or a.values 1 0) q in
          rw (en, ec) (right-means nodes cells bytes t)
      by false t q = absurd (let z : 0 ≡ 10 = ap (λ (a : Answer). a.number) q in omega arith)

  -- where a number below N or C leads, and where all of them do
  module _ {fit : Fit} (f : r ≡ Ok fit) where
    pub all-nodes : node_start fit.nodes ≤ nodes
    all-nodes = let w = fit-means f in omega (arith, w.nodes-whole)

    pub all-cells : cell_start fit.cells ≤ cells
    all-cells = let w = fit-means f in omega (arith, w.cells_whole)

    pub node-in : (k : ℕ) → k < fit.nodes → node_start k + 47 ≤ nodes
    node-in k l = let w = fit-means f in omega (arith, w.nodes-whole)

    pub cell_in : (k : ℕ) → k < fit.cells → cell_start k + 2 ≤ cells
    cell_in k l = let w = fit-means f in omega (arith, w.cells_whole)

    pub key_in : (k : ℕ) → k < fit.cells → key_start k + 256 ≤ bytes
    key_in k l = let w = fit-means f in omega (arith, w.bytes_whole)

pub ruleset places = (all-nodes, all-cells, node-in, cell_in, key_in)

-- ---- one law for each return of `measure`

module _ (nodes cells bytes : ℕ) where
  pub not_right : (right_lengths nodes cells bytes ≡ true → ⊥) → right_lengths nodes cells bytes ≡ false
  not_right f = by (right_lengths nodes cells bytes) f
    where
      by : (b : Bool) → (b ≡ true → ⊥) → b ≡ false
      by true g = absurd (g refl)
      by false g = refl

  wrong : (Right nodes cells bytes (node_count nodes) (cell_count cells) → ⊥) → refused Memory [] ≡ measured nodes cells bytes
  unfolding measured
  wrong f = rw (not_right (λ e. f (right-means nodes cells bytes e)))

  pub too-few-words : nodes < 49 → refused Memory [] ≡ measured nodes cells bytes
  too-few-words h = wrong (λ r. let a = r.n-low in let b = r.nodes-whole in omega arith)

  pub too-many-nodes : 255 < node_count nodes → refused Memory [] ≡ measured nodes cells bytes
  too-many-nodes h = wrong (λ r. omega (arith, r.n-high))

  pub part-of-a-node : (nodes ≡ 2 + node_count nodes * 47 → ⊥) → refused Memory [] ≡ measured nodes cells bytes
  part-of-a-node h = wrong (λ r. h r.nodes-whole)

  pub no_cell : cell_count cells < 1 → refused Memory [] ≡ measured nodes cells bytes
  no_cell h = wrong (λ r. omega (arith, r.c-low))

  pub too-many-cells : 255 < cell_count cells → refused Memory [] ≡ measured nodes cells bytes
  too-many-cells h = wrong (λ r. omega (arith, r.c-high))

  pub part-of-a-cell : (cells ≡ cell_count cells * 2 → ⊥) → refused Memory [] ≡ measured nodes cells bytes
  part-of-a-cell h = wrong (λ r. h r.cells_whole)

  pub other-bytes : (bytes ≡ cell_count cells * 256 → ⊥) → refused Memory [] ≡ measured nodes cells bytes
  other-bytes h = wrong (λ r. h r.bytes_whole)

  pub all_right : 49 ≤ nodes → node_count nodes ≤ 255 → nodes ≡ 2 + node_count nodes * 47 → 1 ≤ cell_count cells
      → cell_count cells ≤ 255 → cells ≡ cell_count cells * 2 → bytes ≡ cell_count cells * 256
      → accepted (node_count nodes ∷ cell_count cells ∷ []) ≡ measured nodes cells bytes
  unfolding measured
  all_right h a b c d e f =
      rw (right-counts nodes cells bytes
      (record { n-low = omega arith; n-high = a; c-low = c; c-high = d; nodes-whole = b; cells_whole = e; bytes_whole = f }))

pub ruleset measuring = (too-few-words, too-many-nodes, part-of-a-node, no_cell, too-many-cells, part-of-a-cell, other-bytes, all_right)
