-- A leaf with an entry more is the trees' leaf with that entry altered, in one node or in two. Assumes nothing.
use mathlib.Core.Path.{◌≡◌, refl, sym, ap, ap₂, ◌∙◌, subst}
use mathlib.Core.Logic.{◌≢◌, ⊎_elim}
use mathlib.Core.Bool.{Bool, true, false, cond}
use mathlib.Core.List.{List, [], ◌∷◌, ◌++◌, map}
use mathlib.Core.Option.{none}
use Prim.Native.Nat.{ℕ, suc, ◌+◌, ◌-◌, ◌%◌, ◌≤◌, ◌<◌}
use native.Mathlib.Omega.{arith}
use lib.Dec.{T, eqb, leb, ltb, le→leb, leb-suc-suc}
use lib.ListN.{length, get_or, set, take, drop, length-append, length-drop, length-map}
use lib.Seq.{length-take-le, take_all}
use borrow.Author.Tests.{lt-ltb, le-ltb}
use Rattle.refusal.specs.Answer.{accepted}
use Rattle.bank.specs.Bank.{slot_at, inserted_from_back}
use Rattle.bank.specs.Calls.{insert_from_back}
use Rattle.bank.proofs.Tests.{and_left, and_right, and_both, is_true, holds}
use Rattle.nibbles.specs.Nibbles.{nibbles}
use Rattle.nibbles.specs.Words.{valid_word, word_of}
use Rattle.permuter.specs.Words.{changed}
use Rattle.leaf_entries.specs.declared.Entry.{Entry}
use Rattle.leaf.specs.Lists.{every}
use Rattle.leaf.specs.Leaf as leaf
use Rattle.leaf.specs.Leaf.{slots_of, is_less, against, rank, rising}
use Rattle.leaf.specs.Search.{place_greater}
use Rattle.leaf.specs.Cut.{ikey_of, cut_of}
use Rattle.leaf.proofs.Lists.{every_take, every_drop, every-join, first-le, map-take, map-drop}
use Rattle.leaf.proofs.Views.{length-in-order}
use Rattle.leaf.proofs.Leaves.{put-accepted}
use Rattle.leaf.proofs.Rises.{take-rises, drop-rises}
use Rattle.leaf.proofs.Cuts.{cut-is}
use Rattle.arena.specs.Layout.{node_start, word_at, kind_at, put_leaf}
use Rattle.arena.specs.Free.{free_nodes}
use Rattle.arena.proofs.Words.{lt-or-ge}
use Rattle.forest.specs.Nodes.{entry_at, entries_at, of_class, leaf_right}
use Rattle.order.specs.Map.{alter, lookup, Sorted}
use Rattle.order.proofs.Map.{alter-sorted}
use Rattle.trees.specs.Nodes.{IkeyClass, layer_order, leaf, NodeList, node_in, one_at, leaf_entries}
use Rattle.trees.specs.FreeNumbers.{free_numbers, lowest_free}
use Rattle.trees.specs.TreePut.{low_of_entries, leaf_kept}
use Rattle.trees.specs.Cut.{cut_place}
use Rattle.trees.specs.PutInMemory.{write_or_split}
use Rattle.trees.specs.Layers.{Pointer}
use Rattle.trees.proofs.Nodes.{layer-order, one_at-other}
use Rattle.trees.proofs.NeededInLayer.{leb-is, leb-not}
use Rattle.model.specs.declared.Grown.{Grown}
use Rattle.model.specs.declared.Grown.TheVariants.{One, Two}
use Rattle.model.specs.Leaves.{fresh_node, entry_put, leaf_with, fifteen_at, leaf_split, entry_added, leaf_grown}
use Rattle.model.specs.Leaves.{rest_of, half_for, entry_rests, leaf_rests}
use Rattle.growth.proofs.Frames.{Same, slots-wide, slot-below, size-most, view-leaf}
use Rattle.growth.proofs.Memory.{Nodes, View, view-at, frees-view, free_of}
use Rattle.growth.proofs.Columns.{fifteen, entries-view}
use Rattle.growth.proofs.LeafWrites.{entry_node, leaf-put}
use Rattle.growth.proofs.LeafSets.{entry_inserted}
use Rattle.growth.proofs.Entries.{view_of, key_of, putting, altered, sorted_rises, cut-same, low-cut}

-- a node that grew as the trees have it: its low ikey beside its number, and the second one's
abbrev pub grown_pairs : ℕ → ℕ → Grown → List (ℕ × ℕ)
grown_pairs lo k One = (lo, k) ∷ []
grown_pairs lo k (Two ikey right) = (lo, k) ∷ (suc ikey, right) ∷ []

-- words and what grew are the trees' answer: pairs and memory; a node in use that is none of its own keeps its words
pub record Grows (own : ℕ → ℕ) (nodes : List ℕ) (n lo k : ℕ) (r : List ℕ × Grown) (b : List (ℕ × ℕ) × NodeList Pointer) : Type 0 where
  pub still : Nodes r.0 n
  pub pairs : grown_pairs lo k r.1 ≡ b.0
  pub view : View r.0 n ≡ b.1
  pub head : (i : ℕ) → i < 2 → get_or r.0 i 0 ≡ get_or nodes i 0
  pub kept : (j : ℕ) → own j ≡ 0 → kind_at nodes j ≢ 0 → Same nodes r.0 j

module _ (nodes : List ℕ) (k : ℕ) (t : T (leaf_right nodes k)) where
  pub leaf-valid : valid_word 15 (word_at nodes k 1) ≡ true
  unfolding leaf_right
  leaf-valid = is_true _ (and_left (valid_word 15 (word_at nodes k 1)) _ (and_right (eqb (kind_at nodes k) 1) _ t))

  pub leaf-classes : T (every of_class (entries_at nodes k))
  unfolding leaf_right
  leaf-classes = and_left (every of_class (entries_at nodes k)) _
      (and_right (valid_word 15 (word_at nodes k 1)) _ (and_right (eqb (kind_at nodes k) 1) _ t))

  pub leaf-length : length (entries_at nodes k) ≡ word_at nodes k 1 % 16
  leaf-length = ap length (entries-view nodes k leaf-valid) ∙ length-in-order (word_at nodes k 1) leaf-valid (fifteen nodes k)

module _ (nodes : List ℕ) (n : ℕ) (N : Nodes nodes n) (k : ℕ) (h : k < n) (t : T (leaf_right nodes k)) (e : Entry)
    (small : e.class ≤ 9) where
  abbrev es : List Entry
  es = entries_at nodes k

  abbrev p : ℕ
  p = place_greater e.ikey (rank e) es

  abbrev longer : List Entry
  longer = take p es ++ e ∷ drop p es

  abbrev word : ℕ
  word = word_at nodes k 1

  p-most : p ≤ length es
  p-most = first-le (λ d. is_less (against e.ikey (rank e) d)) leaf.none es

  longer-length : length longer ≡ suc (length es)
  longer-length = length-append (take p es) (e ∷ drop p es)
      ∙ (let z : length (take p es) + suc (length (drop p es))
      ≡ suc (length es) = omega (arith, length-take-le p es p-most, length-drop p es, p-most) in z)

  longer-classes : T (every of_class longer)
  unfolding every
  longer-classes =
      let c = is_true _ (leaf-classes nodes k t) in
      holds (every-join of_class leaf.none (take p es) (e ∷ drop p es) (every_take of_class leaf.none p es c)
      (is_true (every of_class (e ∷ drop p es)) (and_both (of_class e) _ (le→leb e.class 10 (omega arith))
      (holds (every_drop of_class leaf.none p es c)))))

  module _ (new : lookup layer_order (key_of e small) (map view_of es) ≡ none) (so : Sorted layer_order (map view_of es)) where
    abbrev A : List (IkeyClass × Pointer)
    A = alter layer_order (key_of e small) (putting e small) (map view_of es)

    A-is : A ≡ map view_of longer
    A-is = altered e small es (leaf-classes nodes k t) new

    A-length : length A ≡ suc (length es)
    A-length = ap length A-is ∙ length-map longer view_of ∙ longer-length

    longer-rises : T (rising longer)
    longer-rises = sorted_rises longer longer-classes
        (subst (Sorted layer_order) A-is (alter-sorted layer-order (key_of e small) (putting e small) so))

    -- ---- with room

    module _ (room : word % 16 < 15) where
      abbrev next : ℕ
      next = word_of (inserted_from_back p (slots_of word))

      abbrev slot : ℕ
      slot = slot_at 14 (slots_of word)

      -- as `insert_from_back` answers
      accepts : changed 15 word (insert_from_back p) ≡ accepted (next ∷ slot ∷ (15 - (word % 16 + 1)) ∷ [])
      unfolding nibbles
      accepts = put-accepted word p (leaf-valid nodes k t) (omega (arith, p-most, leaf-length nodes k t)) room

      room-is : leaf_grown nodes n k e ≡ (entry_put (set nodes (node_start k + 1) next) k slot e, One)
      unfolding leaf_grown entry_added
      room-is = rw (lt-ltb (word % 16) 15 room)

      grown-room : (lo : ℕ) → Grows (one_at k) nodes n lo k (leaf_grown nodes n k e)
          (write_or_split leaf low_of_entries 15 (cut_place A) lo k A (View nodes n))
      grown-room lo =
          let s< : slot < 15 = slot-below word (leaf-valid nodes k t) 14 (omega arith) in
          let W = entry_inserted nodes n N k h t p next slot s< accepts e longer-classes longer-rises in
          rw (room-is, leb-is (length A) 15 (omega (arith, A-length, leaf-length nodes k t))) (record {
            still = W.still;
            pairs = refl;
            view = W.view ∙ ap (λ (xs : List (IkeyClass × Pointer)). set (View nodes n) k (leaf xs)) (sym A-is);
            head = W.head;
            kept = λ j z u. W.others j (one_at-other k j z);
          })

      rests-room : leaf_rests nodes k e ≡ rest_of (length (leaf_kept Pointer 15 cut_place (suc e.ikey) A))
      unfolding leaf_rests entry_rests
      rests-room = rw (lt-ltb (word % 16) 15 room, leb-is (length A) 15 (omega (arith, A-length, leaf-length nodes k t)))
          (ap rest_of (let z : word % 16 + 1 ≡ length A = omega (arith, A-length, leaf-length nodes k t) in z))

    -- ---- without room

    module _ (full : 15 ≤ word % 16) where
      size-15 : word % 16 ≡ 15
      size-15 = omega (arith, size-most word (leaf-valid nodes k t))

      all_slots : fifteen_at nodes k ≡ es
      unfolding fifteen_at entries_at
      all_slots =
          ap (map (entry_at nodes k))
          (sym (take_all (slots_of word).size (slots_of word).slots (omega (arith, slots-wide word (leaf-valid nodes k t), size-15))))

      sixteen : length longer ≡ 16
      sixteen = longer-length ∙ ap suc (leaf-length nodes k t ∙ size-15)

      over : leb (length A) 15 ≡ false
      over = leb-not (length A) 15 (omega (arith, A-length, leaf-length nodes k t))

      abbrev c : ℕ
      c = cut_of longer

      cut-facts : (1 ≤ c) × (c ≤ 15)
      cut-facts = let cut = cut-is longer (is_true _ longer-rises) sixteen in (cut.least, cut.most)

      -- the halves as the trees have them, and the right one's lowest ikey
      cut-is' : cut_place A ≡ c
      cut-is' = ap cut_place A-is ∙ cut-same longer sixteen

      left-half : take (cut_place A) A ≡ map view_of (take c longer)
      left-half = ap₂ take cut-is' A-is ∙ sym (map-take view_of c longer)

      right-half : drop (cut_place A) A ≡ map view_of (drop c longer)
      right-half = ap₂ drop cut-is' A-is ∙ sym (map-drop view_of c longer)

      right-low : low_of_entries (drop (cut_place A) A) ≡ suc (ikey_of longer c)
      right-low = ap low_of_entries (ap₂ drop cut-is' A-is) ∙ low-cut longer c (omega (arith, sixteen, cut-facts))

      rests-full : leaf_rests nodes k e ≡ rest_of (length (leaf_kept Pointer 15 cut_place (suc e.ikey) A))
      unfolding leaf_rests entry_rests half_for
      rests-full =
          rw (le-ltb (word % 16) 15 full, all_slots, over, right-low, left-half, right-half, leb-suc-suc (suc e.ikey) (ikey_of longer c))
          (ap rest_of (by (ltb e.ikey (ikey_of longer c))))
        where
          by : (left : Bool) → length (cond left (take c longer) (drop c longer))
              ≡ length (cond left (map view_of (take c longer)) (map view_of (drop c longer)))
          by true = sym (length-map (take c longer) view_of)
          by false = sym (length-map (drop c longer) view_of)

      module _ {f : ℕ} {fs : List ℕ} (fe : free_nodes nodes n ≡ f ∷ fs) where
        full_is : leaf_grown nodes n k e ≡ leaf_split nodes n k longer
        unfolding leaf_grown entry_added
        full_is = rw (le-ltb (word % 16) 15 full, all_slots)

        grown-full : (lo : ℕ) → Grows (one_at k) nodes n lo k (leaf_grown nodes n k e)
            (write_or_split leaf low_of_entries 15 (cut_place A) lo k A (View nodes n))
        unfolding leaf_split
        grown-full lo =
            let r : rising longer ≡ true = is_true _ longer-rises in
            let cl : every of_class longer ≡ true = is_true _ longer-classes in
            let (c1, c15) = cut-facts in
            let lt : length (take c longer) ≡ c = length-take-le c longer (omega (arith, sixteen)) in
            let ld = length-drop c longer in
            let fr = free_of nodes n N fe in
            let f-is : fresh_node nodes n ≡ f = ap (λ (l : List ℕ). get_or l 0 0) fe in
            let m1 = put_leaf nodes k (leaf_with (take c longer)) in
            let W1 = leaf-put (take c longer) (omega arith) nodes n N k h (holds (every_take of_class leaf.none c longer cl))
            (holds (take-rises longer r c (omega (arith, sixteen)))) in
            let W2 = leaf-put (drop c longer) (omega (arith, sixteen)) m1 n W1.still f fr.0
            (holds (every_drop of_class leaf.none c longer cl)) (holds (drop-rises longer r c)) in
            let fresh-is : lowest_free (View nodes n) ≡ f = ap (λ (l : List ℕ). get_or l 0 0) (frees-view nodes n N ∙ fe) in
            rw (full_is, f-is, over, right-low, fresh-is, left-half, right-half) (record {
              still = W2.still;
              pairs = refl;
              view = W2.view ∙ ap (λ (m : NodeList Pointer). set m f (entry_node (drop c longer))) W1.view;
              head = λ i l. W2.head i l ∙ W1.head i l;
              kept = λ j z u i l. W2.others j (λ q. u (ap (kind_at nodes) q ∙ fr.1)) i l ∙ W1.others j (one_at-other k j z) i l;
            })

    -- ---- either

    leaf-grown-entries : (lo : ℕ) → cond (leb (length A) 15) 0 1 ≤ length (free_numbers 0 (View nodes n))
        → Grows (one_at k) nodes n lo k (leaf_grown nodes n k e) (write_or_split leaf low_of_entries 15 (cut_place A) lo k A (View nodes n))
    leaf-grown-entries lo enough = ⊎_elim (λ r. grown-room r lo) (λ g. with-free g (free_nodes nodes n) refl) (lt-or-ge (word % 16) 15)
      where
        with-free : 15 ≤ word % 16 → (fs : List ℕ) → free_nodes nodes n ≡ fs
            → Grows (one_at k) nodes n lo k (leaf_grown nodes n k e) (write_or_split leaf low_of_entries 15 (cut_place A) lo k A (View nodes n))
        with-free g [] fe =
            let q : ◌≡◌ {A = ℕ} (cond (leb (length A) 15) 0 1) 1 =
            ap (λ (b : Bool). cond {A = ℕ} b 0 1) (leb-not (length A) 15 (omega (arith, A-length, leaf-length nodes k t))) in
            absurd (omega (arith, enough, ap length (frees-view nodes n N ∙ fe)))
        with-free g (f ∷ fs) fe = grown-full g fe lo

  -- the entries of node k as the trees have them
  abbrev pub entries_of : List (IkeyClass × Pointer)
  entries_of = leaf_entries (node_in (View nodes n) k)

  entries-are : entries_of ≡ map view_of es
  entries-are = ap leaf_entries (view-at nodes n k h ∙ view-leaf nodes k t)

  pub leaf-grown : (lo : ℕ) → lookup layer_order (key_of e small) entries_of ≡ none → Sorted layer_order entries_of
      → cond (leb (length (alter layer_order (key_of e small) (putting e small) entries_of)) 15) 0 1 ≤ length (free_numbers 0 (View nodes n))
      → let xs = alter layer_order (key_of e small) (putting e small) entries_of in
      Grows (one_at k) nodes n lo k (leaf_grown nodes n k e) (write_or_split leaf low_of_entries 15 (cut_place xs) lo k xs (View nodes n))
  leaf-grown lo =
      subst (λ (es : List (IkeyClass × Pointer)). lookup layer_order (key_of e small) es ≡ none → Sorted layer_order es
      → cond (leb (length (alter layer_order (key_of e small) (putting e small) es)) 15) 0 1 ≤ length (free_numbers 0 (View nodes n))
      → Grows (one_at k) nodes n lo k (leaf_grown nodes n k e)
      (write_or_split leaf low_of_entries 15 (cut_place (alter layer_order (key_of e small) (putting e small) es)) lo k
      (alter layer_order (key_of e small) (putting e small) es) (View nodes n)))
      (sym entries-are) (λ new so enough. leaf-grown-entries new so lo enough)

  -- how many slots rest then, in the leaf or in the half of it where the entry is
  pub leaf-rests : lookup layer_order (key_of e small) entries_of ≡ none → Sorted layer_order entries_of
      → leaf_rests nodes k e
      ≡ rest_of (length (leaf_kept Pointer 15 cut_place (suc e.ikey) (alter layer_order (key_of e small) (putting e small) entries_of)))
  leaf-rests =
      subst (λ (es : List (IkeyClass × Pointer)). lookup layer_order (key_of e small) es ≡ none → Sorted layer_order es
      → leaf_rests nodes k e
      ≡ rest_of (length (leaf_kept Pointer 15 cut_place (suc e.ikey) (alter layer_order (key_of e small) (putting e small) es))))
      (sym entries-are) (λ new so. ⊎_elim (rests-room new so) (rests-full new so) (lt-or-ge (word % 16) 15))
