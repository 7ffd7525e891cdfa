-- What a put writes: a law for each way in which the code returns. Assumes nothing.
use mathlib.Core.Path.{◌≡◌, refl, sym, ap, ◌∙◌}
use mathlib.Core.List.{List}
use Prim.Native.Nat.{ℕ, ◌+◌, ◌*◌, ◌-◌, ◌/◌, ◌≤◌, ◌<◌}
use native.Mathlib.Numerals.{add-one}
use native.Mathlib.Omega.{arith}
use borrow.Author.Rules.{rules}
use lib.ListN.{length, get_or, set, length-set}
use Rattle.bank.specs.Bank.{slot_at}
use Rattle.leaf_entries.specs.declared.Entry.{Entry}
use Rattle.leaf.specs.Leaf.{slots_of}
use Rattle.arena.specs.Layout.{node_start, key_at, put_cell, put_key}
use Rattle.arena.specs.Free.{free_cells}
use Rattle.arena.specs.Memory.{Memory, memory, cell_count}
use Rattle.forest.specs.Nodes.{slots_at}
use Rattle.model.specs.declared.Met.{Met}
use Rattle.model.specs.declared.Met.TheVariants.{Stored, Conflict, Missing}
use Rattle.model.specs.Meet.{number_word}
use Rattle.model.specs.Grow.{entry_for, layer_grown, layer_rests, layers_grown}
use Rattle.model.specs.Calls.{fresh_cell, nodes_with, with_count, rests_passed}
use Rattle.store.specs.Places.{with_at, rests_with, Lent}
use Rattle.store.proofs.Counting.{counted}

module _ (nodes : List ℕ) (leaf p : ℕ) {slot : ℕ} (s : slot ≡ slot_at p (slots_of (get_or nodes (2 + leaf * 47 + 1) 0))) where
  pub link-put : {n1 : List ℕ} → n1 ≡ set nodes (2 + leaf * 47 + 17 + slot) 10
      → n1 ≡ set nodes (node_start leaf + 17 + slot_at p (slots_at nodes leaf)) 10
  link-put e = rw (e, s)

  pub link-word : 2 + leaf * 47 + 32 + slot ≡ number_word nodes leaf p
  link-word = rw s

module _ (nodes cells bytes : List ℕ) {met : Met} (l : Lent nodes cells bytes met) where
  lent-all : node_start (length nodes / 47) ≡ length nodes
  lent-all = let w = l.nodes-lent in let z = counted (length nodes) w in omega (arith, w.whole)

  pub lent-kept : (at w : ℕ) (n1 : List ℕ) → n1 ≡ set nodes at w → node_start (length nodes / 47) ≡ length n1
  lent-kept at w n1 e = lent-all ∙ sym (ap length e ∙ length-set nodes at w)

  pub lent-some : 1 ≤ length nodes / 47
  lent-some = rw (counted (length nodes) l.nodes-lent) l.one-node

  pub lent-few : length nodes / 47 ≤ 255
  lent-few = rw (counted (length nodes) l.nodes-lent) l.nodes-lent.few

module _ (nodes cells bytes key : List ℕ) (c : ℕ) {met : Met} (l : Lent nodes cells bytes met) where
  pub put-conflict : {leaf p cell links holder : ℕ} {other n1 n2 : List ℕ} → met ≡ Conflict leaf p cell links
      → other ≡ key_at cells bytes cell
      → n1 ≡ set nodes (node_start leaf + 17 + slot_at p (slots_at nodes leaf)) 10 → holder ≡ number_word nodes leaf p
      → n2 ≡ layers_grown (31 - (links + 1)) n1 (length nodes / 47) holder (record { key = key; cell = c })
      (record { key = other; cell = cell }) (links + 1)
      → n2 ≡ nodes_with (memory nodes cells bytes) key c met
  put-conflict {links = links} q o e1 eh e2 = rw (q, e2, e1, eh, o, add-one links, counted (length nodes) l.nodes-lent)

  pub put-missing : {holder root links : ℕ} {d : Entry} {n1 : List ℕ} → met ≡ Missing holder root links → d ≡ entry_for key c links
      → n1 ≡ layer_grown nodes (length nodes / 47) holder root d → n1 ≡ nodes_with (memory nodes cells bytes) key c met
  put-missing q ed e = rw (q, e, ed, counted (length nodes) l.nodes-lent)

  pub put-stored-none : {leaf p cell : ℕ} → met ≡ Stored leaf p cell → nodes ≡ nodes_with (memory nodes cells bytes) key c met
  put-stored-none q = rw q

  pub rests-stored : {leaf p cell : ℕ} → met ≡ Stored leaf p cell → 0 ≡ rests_with (memory nodes cells bytes) key c met
  rests-stored q = rw q

  pub rests-conflict : {leaf p cell links : ℕ} → met ≡ Conflict leaf p cell links → 13 ≡ rests_with (memory nodes cells bytes) key c met
  rests-conflict q = rw q

  pub rests-missing : {holder root links : ℕ} {d : Entry} {r : ℕ} → met ≡ Missing holder root links → d ≡ entry_for key c links
      → r ≡ layer_rests nodes (length nodes / 47) root d → r ≡ rests_with (memory nodes cells bytes) key c met
  rests-missing q ed e = rw (q, e, ed, counted (length nodes) l.nodes-lent)

-- in the lowest free cell, what is passed up
rests-fresh : (m : Memory) (key : List ℕ) (met : Met) → rests_with m key (fresh_cell m) met ≡ rests_passed m key met
rests-fresh m key (Stored leaf p cell) = refl
rests-fresh m key (Conflict leaf p cell links) = refl
rests-fresh m key (Missing holder root links) = refl

pub rests-passed : (nodes cells bytes key : List ℕ) (met : Met) {c r : ℕ} → c ≡ get_or (free_cells cells (cell_count (length cells))) 0 0
    → r ≡ rests_with (memory nodes cells bytes) key c met → r ≡ rests_passed (memory nodes cells bytes) key met
rests-passed nodes cells bytes key met e q =
    q ∙ ap (λ (x : ℕ). rests_with (memory nodes cells bytes) key x met) e ∙ rests-fresh (memory nodes cells bytes) key met

module _ (nodes cells bytes key : List ℕ) (frame : ℕ) (met : Met) where
  pub put_all : {c : ℕ} {n1 c1 b1 : List ℕ} → c ≡ get_or (free_cells cells (cell_count (length cells))) 0 0
      → n1 ≡ nodes_with (memory nodes cells bytes) key c met → c1 ≡ put_cell cells c (length key) frame → b1 ≡ put_key bytes c key
      → memory n1 c1 b1 ≡ with_at (memory nodes cells bytes) key frame met
  put_all e en ec eb = rw (en, ec, eb, e)

  -- and one more counted
  pub put_count : {count : ℕ} {n1 c1 b1 n2 : List ℕ} → count ≡ get_or nodes 1 0
      → memory n1 c1 b1 ≡ with_at (memory nodes cells bytes) key frame met → n2 ≡ set n1 1 (count + 1)
      → memory n2 c1 b1 ≡ with_count (with_at (memory nodes cells bytes) key frame met) (get_or nodes 1 0 + 1)
  put_count {count} e em en = rw (en, e) (ap (λ (m : Memory). with_count m (get_or nodes 1 0 + 1)) em)

  -- word 1 stands in memory
  pub count-in : Lent nodes cells bytes met → 1 < length nodes
  count-in l = omega (arith, l.nodes-lent.whole, l.one-node)

pub ruleset writing = (rules, link-put, link-word, put-conflict, put-missing, put-stored-none, put_all)
