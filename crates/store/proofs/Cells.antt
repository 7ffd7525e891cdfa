-- The lowest free cell, and the key in a cell: a law for each way in which the code returns. Assumes nothing.
use mathlib.Core.Path.{◌≡◌, sym, ap, ◌∙◌}
use mathlib.Core.List.{List, []}
use Prim.Native.Nat.{ℕ, ◌+◌, ◌*◌, ◌-◌, ◌/◌, ◌≤◌, ◌<◌}
use native.Mathlib.Omega.{arith}
use borrow.Author.Rules.{rules}
use lib.ListN.{length, get_or, take, drop, length-drop, get_or-eq_default}
use lib.Seq.{take_all}
use Rattle.std.specs.Prelude.{Option, Some, None}
use Rattle.arena.specs.Parts.{part}
use Rattle.arena.specs.Layout.{cell_start, mark_at, key_at}
use Rattle.arena.specs.Free.{free_cells, lowest}
use Rattle.lent_nodes.proofs.Counts.{lowest-first, lowest-none, lowest-free}
use Rattle.seek.specs.Lengths.{CellsLent}

-- ---- the lowest free cell

module _ (cells : List ℕ) (n : ℕ) {r : Option ℕ} (e : r ≡ lowest (free_cells cells n)) where
  pub fresh_at : {k : ℕ} → r ≡ Some k → k ≡ get_or (free_cells cells n) 0 0
  fresh_at a =
      let (rest, q) = lowest-first (free_cells cells n) (sym e ∙ a) in sym (ap (λ (ks : List ℕ). get_or ks 0 0) q)

  pub fresh-none : r ≡ None → 0 ≡ get_or (free_cells cells n) 0 0
  fresh-none a = sym (ap (λ (ks : List ℕ). get_or ks 0 0) (lowest-none (free_cells cells n) (sym e ∙ a)))

  pub fresh-lt : {k : ℕ} → r ≡ Some k → k < n
  fresh-lt a = (lowest-free cell_start cells n (sym e ∙ a)).in-range

-- ---- the key in a cell

module _ (cells bytes : List ℕ) (c : ℕ) where
  pub key-beyond : CellsLent (length cells) (length bytes) → length cells / 2 ≤ c → [] ≡ key_at cells bytes c
  unfolding part
  key-beyond s l =
      let z : mark_at cells c ≡ 0 = get_or-eq_default cells 0 {n = cell_start c} (omega arith) in
      rw z

  pub key-none : get_or cells (c * 2) 0 < 1 → take (c * 256 - c * 256) (drop (c * 256) bytes) ≡ key_at cells bytes c
  unfolding part
  key-none l =
      let z : mark_at cells c - 1 ≡ 0 = omega arith in
      let y : c * 256 - c * 256 ≡ 0 = omega arith in
      rw (z, y)

  pub key-rest : length bytes - c * 256 ≤ get_or cells (c * 2) 0 - 1
      → take (length bytes - c * 256) (drop (c * 256) bytes) ≡ key_at cells bytes c
  unfolding part
  key-rest l =
      take_all (length bytes - c * 256) (drop (c * 256) bytes) (simp length-drop (omega arith))
      ∙ sym (take_all (mark_at cells c - 1) (drop (c * 256) bytes) (simp length-drop (omega arith)))

  pub key-part : take (c * 256 + (get_or cells (c * 2) 0 - 1) - c * 256) (drop (c * 256) bytes) ≡ key_at cells bytes c
  unfolding part
  key-part =
      let z : c * 256 + (mark_at cells c - 1) - c * 256 ≡ mark_at cells c - 1 = omega arith in
      rw z

pub ruleset tells = (rules, fresh_at, fresh-none, fresh-lt, key-beyond, key-none, key-rest, key-part)
