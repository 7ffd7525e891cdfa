-- A word that holds the number of a layer's root: that of a link in a leaf. Assumes nothing.
use mathlib.Core.Path.{◌≡◌, refl, sym, ap, ap₂, ◌∙◌, subst}
use mathlib.Core.List.{List, ◌∷◌, ◌++◌}
use Prim.Native.Nat.{ℕ, suc, ◌+◌, ◌<◌, min}
use native.Mathlib.Omega.{arith}
use lib.Dec.{T, eqb}
use lib.ListN.{length, get_or, set, take, drop}
use lib.Seq.{get_or-set_same, get_or-set_other, set-get_or}
use Rattle.bank.specs.Bank.{slot_at}
use Rattle.leaf_entries.specs.declared.Entry.{Entry}
use Rattle.leaf.specs.Leaf as leaf
use Rattle.arena.specs.Layout.{node_start}
use Rattle.arena.specs.Free.{is_free, free_nodes}
use Rattle.arena.proofs.Frees.{passing-same}
use Rattle.forest.specs.Nodes.{entry_at, slots_at, entries_at, leaf_right}
use Rattle.trees.specs.Nodes.{Node, free, leaf, NodeList, node_in, InUse}
use Rattle.trees.specs.Layers.{Pointer}
use Rattle.model.specs.Leaves.{entry_put}
use Rattle.model.specs.Meet.{number_word}
use Rattle.growth.proofs.Frames.{view-leaf}
use Rattle.growth.proofs.Memory.{Nodes, View, view-at, view-length, Wrote, rewrote}
use Rattle.growth.proofs.LeafWrites.{entry_node}
use Rattle.growth.proofs.EntrySets.{slot<, entry-there, entry-changed}

-- the word `holder` of leaf k: whatever number it is given, the leaf is then X of it
pub record Holding (nodes : List ℕ) (n holder k : ℕ) (X : ℕ → Node Pointer) : Type 0 where
  pub within : k < n
  pub used : InUse (node_in (View nodes n) k)
  pub used-after : (v : ℕ) → InUse (X v)
  pub puts : (v : ℕ) → Wrote nodes (set nodes holder v) n k (X v)
  pub frees-kept : (v : ℕ) → free_nodes (set nodes holder v) n ≡ free_nodes nodes n

-- no node starts at an entry's number
pub frees-beside : (nodes : List ℕ) (n k slot v : ℕ) → slot < 15 → free_nodes (set nodes (node_start k + 32 + slot) v) n ≡ free_nodes nodes n
frees-beside nodes n k slot v h =
    passing-same (is_free node_start nodes) (is_free node_start (set nodes (node_start k + 32 + slot) v)) 0 n
    (λ j l. ap (λ (x : ℕ). eqb x 0) (get_or-set_other nodes (node_start k + 32 + slot) (node_start j) v 0 (λ e. absurd (omega arith))))

module _ (nodes : List ℕ) (k slot : ℕ) where
  abbrev e : Entry
  e = entry_at nodes k slot

  -- one word of an entry is the entry with that number
  number_put : (v : ℕ) → set nodes (node_start k + 32 + slot) v ≡ entry_put nodes k slot (record { ikey = e.ikey; class = e.class; at = v })
  unfolding entry_put
  number_put v =
      let a : node_start k + (2 + slot) ≡ node_start k + 2 + slot = omega arith in
      let b : node_start k + (17 + slot) ≡ node_start k + 17 + slot = omega arith in
      ap (λ (m : List ℕ). set m (node_start k + 32 + slot) v)
      (sym (ap₂ (λ (x y : ℕ). set (set nodes (node_start k + 2 + slot) (get_or nodes x 0)) (node_start k + 17 + slot) (get_or nodes y 0)) a b
      ∙ ap (λ (m : List ℕ). set m (node_start k + 17 + slot) (get_or nodes (node_start k + 17 + slot) 0))
      (set-get_or nodes (node_start k + 2 + slot) 0)
      ∙ set-get_or nodes (node_start k + 17 + slot) 0))

  class-put : (c : ℕ) → set nodes (node_start k + 17 + slot) c ≡ entry_put nodes k slot (record { ikey = e.ikey; class = c; at = e.at })
  unfolding entry_put
  class-put c =
      let a : node_start k + (2 + slot) ≡ node_start k + 2 + slot = omega arith in
      let b : node_start k + (32 + slot) ≡ node_start k + 32 + slot = omega arith in
      let m = set nodes (node_start k + 17 + slot) c in
      sym (ap₂ (λ (x y : ℕ). set (set (set nodes (node_start k + 2 + slot) (get_or nodes x 0)) (node_start k + 17 + slot) c)
      (node_start k + 32 + slot) (get_or nodes y 0)) a b
      ∙ ap (λ (l : List ℕ). set (set l (node_start k + 17 + slot) c) (node_start k + 32 + slot) (get_or nodes (node_start k + 32 + slot) 0))
      (set-get_or nodes (node_start k + 2 + slot) 0)
      ∙ ap (set m (node_start k + 32 + slot))
      (sym (get_or-set_other nodes (node_start k + 17 + slot) (node_start k + 32 + slot) c 0 (λ q. absurd (omega arith))))
      ∙ set-get_or m (node_start k + 32 + slot) 0)

-- a link of this ikey
abbrev pub link_of : ℕ → ℕ → Entry
link_of ikey v = record { ikey = ikey; class = 10; at = v }

module _ (nodes : List ℕ) (n : ℕ) (N : Nodes nodes n) (k : ℕ) (h : k < n) (t : T (leaf_right nodes k)) (p : ℕ)
    (p< : p < length (entries_at nodes k)) where
  abbrev es : List Entry
  es = entries_at nodes k

  abbrev old : Entry
  old = get_or es p leaf.none

  abbrev slot : ℕ
  slot = slot_at p (slots_at nodes k)

  -- the leaf with a link at position p
  abbrev pub linked_at : ℕ → Node Pointer
  linked_at v = entry_node (take p es ++ link_of old.ikey v ∷ drop (suc p) es)

  there : old ≡ entry_at nodes k slot
  there = entry-there nodes n N k h t p p<

  -- a link's number in its word
  pub link-holding : old.class ≡ 10 → Holding nodes n (number_word nodes k p) k linked_at
  link-holding c =
      let c10 : (entry_at nodes k slot).class ≡ 10 = ap (λ (x : Entry). x.class) (sym there) ∙ c in
      let ik : (entry_at nodes k slot).ikey ≡ old.ikey = ap (λ (x : Entry). x.ikey) (sym there) in
      record {
        within = h;
        used = subst InUse (sym (view-at nodes n k h ∙ view-leaf nodes k t)) tt;
        used-after = λ v. tt;
        puts = λ v.
            subst (λ (m : List ℕ). Wrote nodes m n k (linked_at v))
            (sym (number_put nodes k slot v ∙ ap₂ (λ (x y : ℕ). entry_put nodes k slot (record { ikey = x; class = y; at = v })) ik c10))
            (entry-changed nodes n N k h t p p< (link_of old.ikey v) tt refl (ap (min 9) (sym c)));
        frees-kept = λ v. frees-beside nodes n k slot v (slot< nodes n N k h t p p<);
      }

  -- an entry longer than eight bytes becomes a link
  pub becomes-link : old.class ≡ 9 → Wrote nodes (set nodes (node_start k + 17 + slot) 10) n k (linked_at old.at)
  becomes-link c =
      let ik : (entry_at nodes k slot).ikey ≡ old.ikey = ap (λ (x : Entry). x.ikey) (sym there) in
      let at : (entry_at nodes k slot).at ≡ old.at = ap (λ (x : Entry). x.at) (sym there) in
      subst (λ (m : List ℕ). Wrote nodes m n k (linked_at old.at))
      (sym (class-put nodes k slot 10 ∙ ap₂ (λ (x y : ℕ). entry_put nodes k slot (record { ikey = x; class = 10; at = y })) ik at))
      (entry-changed nodes n N k h t p p< (link_of old.ikey old.at) tt refl (ap (min 9) (sym c)))

  both-set : old.class ≡ 9 → (v : ℕ) → Wrote nodes (set (set nodes (node_start k + 17 + slot) 10) (number_word nodes k p) v) n k (linked_at v)
  unfolding entry_put
  both-set c v =
      let a : node_start k + (2 + slot) ≡ node_start k + 2 + slot = omega arith in
      let ik : get_or nodes (node_start k + 2 + slot) 0 ≡ old.ikey =
      ap (λ (i : ℕ). get_or nodes i 0) (sym a) ∙ ap (λ (x : Entry). x.ikey) (sym there) in
      subst (λ (m : List ℕ). Wrote nodes (set (set m (node_start k + 17 + slot) 10) (node_start k + 32 + slot) v) n k (linked_at v))
      (ap (set nodes (node_start k + 2 + slot)) (sym ik) ∙ set-get_or nodes (node_start k + 2 + slot) 0)
      (entry-changed nodes n N k h t p p< (link_of old.ikey v) tt refl (ap (min 9) (sym c)))

  -- and then its number in its word
  pub conflict-holding : old.class ≡ 9 → Holding (set nodes (node_start k + 17 + slot) 10) n (number_word nodes k p) k linked_at
  conflict-holding c =
      let m0 = set nodes (node_start k + 17 + slot) 10 in
      let W0 = becomes-link c in
      let s< = slot< nodes n N k h t p p< in
      let seen : node_in (View m0 n) k ≡ linked_at old.at =
      ap (λ (m : NodeList Pointer). node_in m k) W0.view
      ∙ get_or-set_same (View nodes n) k (linked_at old.at) free (omega (arith, view-length nodes n)) in
      record {
        within = h;
        used = subst InUse (sym seen) tt;
        used-after = λ v. tt;
        puts = λ v. rewrote nodes m0 (set m0 (number_word nodes k p) v) n k (linked_at old.at) (linked_at v) W0 (both-set c v);
        frees-kept = λ v. frees-beside m0 n k slot v s<;
      }
