-- Words of lent memory, whether or not they stand in it, and the entry in a slot. Assumes nothing.
use Prim.Native.Nat.{ℕ, ◌+◌, ◌*◌, ◌≤◌}
use mathlib.Core.Path.{◌≡◌, sym}
use mathlib.Core.List.{List}
use native.Mathlib.Omega.{arith}
use lib.ListN.{length, get_or-eq_default}
use borrow.Author.Rules.{rules}
use Rattle.leaf_entries.specs.declared.Entry.{Entry}
use Rattle.arena.specs.Layout.{node_start, word_at}
use Rattle.forest.specs.Nodes.{entry_at}

-- ---- one word

module _ (nodes : List ℕ) (n i : ℕ) where
  pub word-past : length nodes ≤ 2 + n * 47 + i → 0 ≡ word_at nodes n i
  word-past l = sym (get_or-eq_default nodes 0 {n = node_start n + i} l)

  pub word-beyond : length nodes ≤ 11987 → 255 ≤ n → 0 ≡ word_at nodes n i
  word-beyond h l = word-past (omega arith)

-- ---- the entry in a slot

pub entry-made : (nodes : List ℕ) (n slot : ℕ) {a b d : ℕ} → a ≡ word_at nodes n (2 + slot) → b ≡ word_at nodes n (17 + slot)
    → d ≡ word_at nodes n (32 + slot) → ◌≡◌ {A = Entry} (record { ikey = a; class = b; at = d }) (entry_at nodes n slot)
entry-made nodes n slot ea eb ed = rw (ea, eb, ed)

pub ruleset words = (rules, word-past, word-beyond, entry-made)
