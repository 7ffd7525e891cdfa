-- What k-th tells of a cell: a law for each way in which the code returns. Assumes nothing.
use mathlib.Core.Path.{◌≡◌}
use mathlib.Core.List.{List}
use Prim.Native.Nat.{ℕ, ◌+◌, ◌*◌, ◌-◌, ◌/◌, ◌≤◌, ◌<◌}
use native.Mathlib.Omega.{arith}
use borrow.Author.Rules.{rules}
use lib.ListN.{length, get_or-eq_default}
use Rattle.arena.specs.Layout.{cell_start, mark_at, frame_at}
use Rattle.arena.specs.Memory.{cell_count}
use Rattle.index_questions.specs.declared.Listed.{Listed}
use Rattle.index_questions.specs.Answers.{listed_at}

abbrev listed : ℕ → ℕ → ℕ → Listed
listed cell length frame = record { cell = cell; length = length; frame = frame }

module _ (cells : List ℕ) (c : ℕ) where
  pub entry-beyond : length cells ≡ cell_count (length cells) * 2 → length cells / 2 ≤ c
      → listed c 0 0 ≡ listed_at cells c
  entry-beyond e l =
      let z : mark_at cells c ≡ 0 = get_or-eq_default cells 0 {n = cell_start c} (omega arith) in
      let f : frame_at cells c ≡ 0 = get_or-eq_default cells 0 {n = cell_start c + 1} (omega arith) in
      rw (z, f)

  module _ {mark frame : ℕ} (e : mark ≡ mark_at cells c) (f : frame ≡ frame_at cells c) where
    pub entry_free : mark < 1 → listed c 0 frame ≡ listed_at cells c
    entry_free l = let z : mark - 1 ≡ 0 = omega arith in rw (← e, ← f, z)

    pub entry-used : listed c (mark - 1) frame ≡ listed_at cells c
    entry-used = rw (← e, ← f)

pub ruleset tells = (rules, entry-beyond, entry_free, entry-used)
