-- A law for each way in which a word or an entry of a node is changed. Assumes nothing.
use Prim.Native.Nat.{ℕ, ◌+◌, ◌*◌, ◌≤◌, ◌<◌}
use mathlib.Core.Path.{◌≡◌, sym, ap, ◌∙◌}
use mathlib.Core.List.{List}
use lib.ListN.{length, get_or, set}
use lib.Seq.{set_out}
use borrow.Author.Rules.{rules}
use Rattle.bank.specs.Bank.{slot_at}
use Rattle.bank.specs.Calls.{remove}
use Rattle.permuter.specs.Words.{changed}
use Rattle.leaf_entries.specs.declared.Entry.{Entry}
use Rattle.leaf.specs.Leaf.{none, slots_of}
use Rattle.std.specs.Prelude.{Option, Some, None}
use Rattle.arena.specs.Layout.{word_at, node_start}
use Rattle.arena.specs.Free.{free_nodes, lowest}
use Rattle.lent_nodes.proofs.Counts.{lowest-first, lowest-none, lowest-free}
use Rattle.model.specs.Leaves.{fresh_node, entry_put, entry_taken}

-- a place past the end takes no word
pub put-past : (ws : List ℕ) (at w : ℕ) → length ws ≤ at → ws ≡ set ws at w
put-past ws at w h = sym (set_out ws at w h)

-- ---- the lowest free node

module _ (nodes : List ℕ) (count : ℕ) {r : Option ℕ} (e : r ≡ lowest (free_nodes nodes count)) where
  pub fresh_at : {k : ℕ} → r ≡ Some k → k ≡ fresh_node nodes count
  fresh_at a =
      let (rest, q) = lowest-first (free_nodes nodes count) (sym e ∙ a) in sym (ap (λ (ks : List ℕ). get_or ks 0 0) q)

  pub fresh-none : r ≡ None → 0 ≡ fresh_node nodes count
  fresh-none a = sym (ap (λ (ks : List ℕ). get_or ks 0 0) (lowest-none (free_nodes nodes count) (sym e ∙ a)))

  pub fresh-lt : {k : ℕ} → r ≡ Some k → k < count
  fresh-lt a = (lowest-free node_start nodes count (sym e ∙ a)).in-range

-- ---- entries

pub entry-put : (m : List ℕ) (k slot : ℕ) (e : Entry) {m1 m2 m3 : List ℕ} → m1 ≡ set m (2 + k * 47 + 2 + slot) e.ikey
    → m2 ≡ set m1 (2 + k * 47 + 17 + slot) e.class → m3 ≡ set m2 (2 + k * 47 + 32 + slot) e.at → m3 ≡ entry_put m k slot e
unfolding entry_put
entry-put m k slot e e1 e2 e3 = rw (e3, e2, e1)

pub entry-taken : (m : List ℕ) (k p : ℕ) {word slot less : ℕ} {m1 m2 : List ℕ} → word ≡ word_at m k 1 → slot ≡ slot_at p (slots_of word)
    → less ≡ get_or (changed 15 word (remove p)).values 0 0 → m1 ≡ set m (2 + k * 47 + 1) less → m2 ≡ entry_put m1 k slot none
    → m2 ≡ entry_taken m k p
unfolding entry_taken
entry-taken m k p e1 e2 e3 e4 e5 = rw (e5, e4, e3, e2, e1)

pub ruleset words = (rules, put-past, fresh_at, fresh-none, fresh-lt, entry-put, entry-taken)
