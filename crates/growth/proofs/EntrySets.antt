-- Another entry in a slot in use, of the same ikey and class; a link's number in its word. Assumes nothing.
use mathlib.Core.Path.{◌≡◌, refl, sym, ap, ap₂, ◌∙◌, subst}
use mathlib.Core.Logic.{◌≢◌}
use mathlib.Core.Bool.{true}
use mathlib.Core.List.{List, ◌∷◌, ◌++◌}
use Prim.Native.Nat.{ℕ, suc, ◌+◌, ◌%◌, ◌≤◌, ◌<◌}
use native.Mathlib.Omega.{arith}
use lib.Dec.{T, eqb}
use lib.ListN.{length, get_or, take, drop, length-take}
use lib.Seq.{get_or-take}
use Rattle.bank.specs.Lists.{count}
use Rattle.bank.specs.Bank.{slot_at}
use Rattle.bank.proofs.Tests.{and_left, and_right, and_both, is_true, holds}
use Rattle.bank.proofs.Counts.{count_at}
use Rattle.nibbles.specs.Words.{valid_word}
use Rattle.leaf_entries.specs.declared.Entry.{Entry}
use Rattle.leaf.specs.Lists.{every}
use Rattle.leaf.specs.Leaf as leaf
use Rattle.leaf.specs.Leaf.{slots_in_use, slots_of, entries_in_order, rank, rising}
use Rattle.leaf.proofs.Lists.{every_take, every_drop, every-join}
use Rattle.leaf.proofs.Leaves.{change-view}
use Rattle.leaf.proofs.Rises.{replaced-rises}
use Rattle.leaf.proofs.Views.{entry-in-order}
use Rattle.arena.specs.Layout.{node_start, word_at, kind_at}
use Rattle.forest.specs.Nodes.{entry_at, slots_at, entries_at, of_class, is_zero, leaf_right}
use Rattle.model.specs.Leaves.{entry_put}
use Rattle.growth.proofs.Frames.{slots-wide, slot-below, size-most, leaf-kind, sound-leaf, view-leaf}
use Rattle.growth.proofs.Memory.{Nodes, node-fits, Wrote, wrote}
use Rattle.growth.proofs.Columns.{fifteen, fifteen-at, entries-view, RestZero, rest-if, rest-means}
use Rattle.growth.proofs.LeafWrites.{entry_node, leaf-if}
use Rattle.growth.proofs.LeafSets.{at3, put_is, put3-length, put3-head, put3-elsewhere, put3-word, put3-kind, put3-beside}
use Rattle.growth.proofs.LeafSets.{put3-fifteen, rest-zero}
use Rattle.growth.proofs.LeafGrown.{leaf-valid, leaf-classes, leaf-length}

pub leaf-rises : (m : List ℕ) (k : ℕ) → T (leaf_right m k) → T (rising (entries_at m k))
unfolding leaf_right
leaf-rises m k t =
    and_left (rising (entries_at m k)) _ (and_right (every of_class (entries_at m k)) _
    (and_right (valid_word 15 (word_at m k 1)) _ (and_right (eqb (kind_at m k) 1) _ t)))

module _ (nodes : List ℕ) (n : ℕ) (N : Nodes nodes n) (k : ℕ) (h : k < n) (t : T (leaf_right nodes k)) (p : ℕ)
    (p< : p < length (entries_at nodes k)) where
  abbrev word : ℕ
  word = word_at nodes k 1

  abbrev es : List Entry
  es = entries_at nodes k

  abbrev pub slot : ℕ
  slot = slot_at p (slots_at nodes k)

  valid : valid_word 15 word ≡ true
  valid = leaf-valid nodes k t

  p-size : p < word % 16
  p-size = omega (arith, p<, leaf-length nodes k t)

  pub slot< : slot < 15
  slot< = slot-below word valid p (omega (arith, p-size, size-most word valid))

  fits : node_start k + 47 ≤ length nodes
  fits = node-fits nodes n N k h

  -- the entry at position p stands in its slot
  pub entry-there : get_or es p leaf.none ≡ entry_at nodes k slot
  entry-there =
      ap (λ (xs : List Entry). get_or xs p leaf.none) (entries-view nodes k valid) ∙ entry-in-order word valid (fifteen nodes k) p p-size refl
      ∙ fifteen-at nodes k slot slot<

  slot-used : 1 ≤ count slot (slots_in_use (slots_at nodes k))
  slot-used =
      let U = slots_in_use (slots_at nodes k) in
      let q : get_or U p 0 ≡ slot = get_or-take (word % 16) (slots_at nodes k).slots p 0 p-size in
      subst (λ (x : ℕ). 1 ≤ count x U) q (count_at U p
      (omega (arith, length-take (word % 16) (slots_at nodes k).slots, slots-wide word valid, size-most word valid, p-size)))

  module _ (e : Entry) (c : T (of_class e)) (ik : e.ikey ≡ (get_or es p leaf.none).ikey) (rk : rank e ≡ rank (get_or es p leaf.none)) where
    abbrev pub changed : List Entry
    changed = take p es ++ e ∷ drop (suc p) es

    abbrev after : List ℕ
    after = at3 nodes k slot e

    word_kept : word_at after k 1 ≡ word
    word_kept = put3-word nodes k slot e slot< fits

    after-valid : valid_word 15 (word_at after k 1) ≡ true
    after-valid = ap (valid_word 15) word_kept ∙ valid

    entries-changed : entries_at after k ≡ changed
    entries-changed =
        entries-view after k after-valid ∙ ap₂ entries_in_order word_kept (put3-fifteen nodes k slot e slot< fits)
        ∙ change-view word (fifteen nodes k) p e valid refl p-size
        ∙ ap (λ (xs : List Entry). take p xs ++ e ∷ drop (suc p) xs) (sym (entries-view nodes k valid))

    after-rest : RestZero after k after-valid
    after-rest s l z =
        let z' : count s (slots_in_use (slots_at nodes k)) ≡ 0 = sym (ap (λ (w : ℕ). count s (slots_in_use (slots_of w))) word_kept) ∙ z in
        let ne : s ≢ slot = λ q. absurd (omega (arith, slot-used, z', ap (λ (x : ℕ). count x (slots_in_use (slots_at nodes k))) q)) in
        subst (λ (x : Entry). T (is_zero x)) (sym (put3-beside nodes k slot e slot< fits s l ne))
        (rest-means nodes k valid (rest-zero nodes k t) s l z')

    changed-classes : T (every of_class changed)
    unfolding every
    changed-classes =
        let a = is_true _ (leaf-classes nodes k t) in
        holds (every-join of_class leaf.none (take p es) (e ∷ drop (suc p) es) (every_take of_class leaf.none p es a)
        (is_true (every of_class (e ∷ drop (suc p) es)) (and_both (of_class e) _ c (holds (every_drop of_class leaf.none (suc p) es a)))))

    pub entry-changed : Wrote nodes (entry_put nodes k slot e) n k (entry_node changed)
    entry-changed =
        let r : T (rising changed) = holds (replaced-rises es (is_true _ (leaf-rises nodes k t)) p e p< ik rk) in
        let right : T (leaf_right after k) =
        leaf-if after k (put3-kind nodes k slot e slot< fits ∙ leaf-kind nodes k t) after-valid
        (subst (λ (xs : List Entry). T (every of_class xs)) (sym entries-changed) changed-classes)
        (subst (λ (xs : List Entry). T (rising xs)) (sym entries-changed) r) (rest-if after k after-valid after-rest) in
        subst (λ (m : List ℕ). Wrote nodes m n k (entry_node changed)) (sym (put_is nodes k slot e slot< fits))
        (wrote nodes after n N k h (entry_node changed) (put3-length nodes k slot e slot< fits) (put3-head nodes k slot e slot< fits)
        (put3-elsewhere nodes k slot e slot< fits)
        (sound-leaf after k right) (view-leaf after k right ∙ ap entry_node entries-changed))
