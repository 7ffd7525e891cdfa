-- A law for each way in which the layers of a conflict are made. Assumes nothing.
use Prim.Native.Nat.{ℕ, suc, ◌+◌, ◌*◌, ◌-◌, ◌≤◌, ◌<◌}
use mathlib.Core.Path.{◌≡◌, sym, ◌∙◌}
use mathlib.Core.Bool.{Bool, true, false}
use mathlib.Core.List.{List, [], ◌∷◌}
use native.Mathlib.Numerals.{add-one}
use native.Mathlib.Omega.{arith}
use lib.ListN.{length, set, take, drop, replicate}
use borrow.Author.Rules.{rules}
use borrow.Author.Tests.{not-true, not-false}
use Rattle.order.specs.Layer.{ikey_at, class_of}
use Rattle.leaf_entries.specs.declared.Entry.{Entry}
use Rattle.leaf.specs.Leaf.{less}
use Rattle.lent_nodes.specs.declared.inside.Leaf.{Leaf}
use Rattle.arena.specs.Layout.{put_leaf}
use Rattle.model.specs.Leaves.{fresh_node, leaf_with}
use Rattle.model.specs.Needed.{both_go_on}
use Rattle.model.specs.Grow.{entry_for, entries_in_order, link_for, both_put, layers_grown}

-- ---- entries

pub entry-for : (key : List ℕ) (cell links : ℕ) {left ikey class : ℕ} → left ≡ length key - 8 * links → ikey ≡ ikey_at key (8 * links)
    → class ≡ class_of left → ◌≡◌ {A = Entry} (record { ikey = ikey; class = class; at = cell }) (entry_for key cell links)
unfolding entry_for
entry-for key cell links l i d = rw (i, d, l)

module _ (a b : Entry) {r : Bool} (e : r ≡ less a b) where
  pub two-less : r ≡ true → take 2 (set (replicate 16 a) 1 b) ≡ entries_in_order a b
  two-less t = rw (sym e ∙ t)

  pub two-not : r ≡ false → take 2 (set (replicate 16 a) 0 b) ≡ entries_in_order a b
  two-not t = rw (sym e ∙ t)

-- ---- leaves

module _ (m : List ℕ) (k : ℕ) (key : List ℕ) (links : ℕ) {leaf : Leaf} {m1 : List ℕ} (f : m1 ≡ put_leaf m k leaf) where
  pub link-put : {ikey : ℕ} → ikey ≡ ikey_at key (8 * links)
      → leaf ≡ leaf_with (take 1 (drop 0 (replicate 16 (record { ikey = ikey; class = 10; at = 0 }))))
      → m1 ≡ put_leaf m k (leaf_with (link_for key links ∷ []))
  link-put i l = rw (f, l, i)

  pub both-put : (cell : ℕ) (other : List ℕ) (others : ℕ) {a b : Entry} (two : List Entry) → a ≡ entry_for key cell links
      → b ≡ entry_for other others links
      → take 2 two ≡ entries_in_order a b → leaf ≡ leaf_with (take 2 (drop 0 two))
      → m1 ≡ both_put m k (record { key = key; cell = cell }) (record { key = other; cell = others }) links
  both-put cell other others two ea eb t l = rw (f, l, t, ea, eb)

-- ---- layers

module _ (m : List ℕ) (count holder : ℕ) (key : List ℕ) (cell : ℕ) (other : List ℕ) (others links : ℕ) {k : ℕ} {m1 m2 : List ℕ}
    (ek : k ≡ fresh_node m count) (e1 : m1 ≡ set m holder k) where
  module _ (e2 : m2 ≡ both_put m1 k (record { key = key; cell = cell }) (record { key = other; cell = others }) links) where
    pub layers-last : 31 ≤ links → m2 ≡ layers_grown (31 - links) m count holder (record { key = key; cell = cell })
        (record { key = other; cell = others }) links
    unfolding layers_grown
    layers-last l =
        let z : 31 - links ≡ 0 = omega arith in
        rw (z, e2, e1, ek)

    pub layers-two : links < 31 → {go : Bool} → go ≡ both_go_on key other links → go ≡ false
        → m2 ≡ layers_grown (31 - links) m count holder (record { key = key; cell = cell }) (record { key = other; cell = others }) links
    unfolding layers_grown
    layers-two l g n =
        let z : 31 - links ≡ suc (31 - (links + 1)) = omega arith in
        let y : both_go_on key other links ≡ false = sym g ∙ n in
        rw (z, y, e2, e1, ek)

  pub layers-on : links < 31 → {go : Bool} {m3 : List ℕ} → go ≡ both_go_on key other links → go ≡ true
      → m2 ≡ put_leaf m1 k (leaf_with (link_for key links ∷ []))
      → m3 ≡ layers_grown (31 - (links + 1)) m2 count (2 + k * 47 + 32) (record { key = key; cell = cell })
      (record { key = other; cell = others }) (links + 1)
      → m3 ≡ layers_grown (31 - links) m count holder (record { key = key; cell = cell }) (record { key = other; cell = others }) links
  unfolding layers_grown
  layers-on l g n e2 e3 =
      let z : 31 - links ≡ suc (31 - (links + 1)) = omega arith in
      let y : both_go_on key other links ≡ true = sym g ∙ n in
      rw (z, y, ← ek, ← e1, ← e2, ← add-one links) e3

pub ruleset conflicts = (
  rules,
  not-true,
  not-false,
  entry-for,
  two-less,
  two-not,
  link-put,
  both-put,
  layers-last,
  layers-two,
  layers-on,
)
