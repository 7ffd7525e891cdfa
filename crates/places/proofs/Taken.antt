-- An entry less in a leaf of lent memory: its slot is not in use any more, and zeroed; every other node is as it was. Assumes nothing.
use mathlib.Core.Path.{◌≡◌, refl, sym, ap, ap₂, ◌∙◌, subst}
use mathlib.Core.Logic.{◌≢◌}
use mathlib.Core.Bool.{true}
use mathlib.Core.List.{List, [], ◌∷◌, ◌++◌, map, map-append}
use Prim.Native.Nat.{ℕ, suc, ◌+◌, ◌%◌, ◌≤◌, ◌<◌}
use native.Mathlib.Numerals.{add-one}
use native.Mathlib.Omega.{arith}
use native.Mathlib.Decide.{ℕ_discrete}
use lib.Dec.{T, eqb}
use lib.ListN.{length, get_or, set, take, drop, length-set, take-append-drop}
use lib.Seq.{get_or-set_same, get_or-take, take_at, drop_at, drop-cons, length-take-le, drop-drop}
use Rattle.refusal.specs.Answer.{Answer, accepted}
use Rattle.bank.specs.Lists.{count}
use Rattle.bank.specs.Bank.{slot_at, removed}
use Rattle.bank.specs.Calls.{remove}
use Rattle.bank.proofs.Tests.{and_right, holds, is_true}
use Rattle.bank.proofs.Counts.{count-other, count-append}
use Rattle.nibbles.specs.Words.{valid_word, word_of}
use Rattle.permuter.specs.Words.{changed}
use Rattle.leaf_entries.specs.declared.Entry.{Entry}
use Rattle.leaf.specs.Lists.{every}
use Rattle.leaf.specs.Leaf.{none, slots_in_use, slots_of, entries_in_order, rising}
use Rattle.leaf.proofs.Leaves.{take-accepted, take-view, take-valid, change-view}
use Rattle.leaf.proofs.Lists.{map-take, map-drop, every-join, every_take, every_drop}
use Rattle.arena.specs.Layout.{node_start, word_at, kind_at}
use Rattle.forest.specs.Nodes.{entry_at, slots_at, entries_at, rest_at, of_class, is_zero, leaf_right}
use Rattle.model.specs.Leaves.{entry_put, entry_taken}
use Rattle.growth.proofs.Frames.{slot-below, slots-wide, size-most, leaf-kind, sound-leaf, view-leaf}
use Rattle.growth.proofs.Memory.{Nodes, node-fits, Wrote, wrote, tabled-same, tabled-length}
use Rattle.growth.proofs.Columns.{fifteen, fifteen-at, entries-view, RestZero, rest-if, rest-means, names, used-named}
use Rattle.growth.proofs.LeafWrites.{entry_node, leaf-if}
use Rattle.growth.proofs.LeafSets.{set_here, set-beside, set-elsewhere, set-kind, set-head, put_is, put3-length, put3-head, put3-elsewhere}
use Rattle.growth.proofs.LeafSets.{put3-word, put3-kind, put3-beside, put3-fifteen}
use Rattle.growth.proofs.LeafGrown.{leaf-valid, leaf-classes, leaf-length}

-- the list without its member at a position
abbrev pub without_at : {A : Type 0} → ℕ → List A → List A
without_at p xs = take p xs ++ drop (suc p) xs

-- what a change at the position does not matter to
without-changed : {A : Type 0} (p : ℕ) (xs : List A) (y : A) → p < length xs
    → without_at p (take p xs ++ y ∷ drop (suc p) xs) ≡ without_at p xs
without-changed p xs y h =
    let n : length (take p xs) ≡ p = length-take-le p xs (omega arith) in
    ap₂ ◌++◌ (take_at (take p xs) (y ∷ drop (suc p) xs) p n)
    (let e : p + 1 ≡ suc p = omega arith in ap (λ (i : ℕ). drop i (take p xs ++ y ∷ drop (suc p) xs)) (sym e)
    ∙ sym (drop-drop 1 p (take p xs ++ y ∷ drop (suc p) xs))
    ∙ ap (drop 1) (drop_at (take p xs) (y ∷ drop (suc p) xs) p n))

module _ (nodes : List ℕ) (n : ℕ) (N : Nodes nodes n) (k : ℕ) (h : k < n) (t : T (leaf_right nodes k)) (p : ℕ)
    (l : p < length (entries_at nodes k)) where
  valid : valid_word 15 (word_at nodes k 1) ≡ true
  valid = leaf-valid nodes k t

  in_use : p < word_at nodes k 1 % 16
  in_use = omega (arith, leaf-length nodes k t)

  abbrev next : ℕ
  next = word_of (removed p (slots_of (word_at nodes k 1)))

  accepts : changed 15 (word_at nodes k 1) (remove p) ≡ accepted (next ∷ [])
  accepts = take-accepted (word_at nodes k 1) p valid in_use

  abbrev slot : ℕ
  slot = slot_at p (slots_at nodes k)

  slot< : slot_at p (slots_at nodes k) < 15
  slot< = slot-below (word_at nodes k 1) valid p (omega (arith, in_use, size-most (word_at nodes k 1) valid))

  abbrev worded : List ℕ
  worded = set nodes (node_start k + 1) next

  fits : node_start k + 47 ≤ length nodes
  fits = node-fits nodes n N k h

  fits1 : node_start k + 47 ≤ length worded
  fits1 = omega (arith, fits, length-set nodes (node_start k + 1) next)

  abbrev after : List ℕ
  after = set (set (set worded (node_start k + (2 + slot)) 0) (node_start k + (17 + slot)) 0) (node_start k + (32 + slot)) 0

  taken_is : entry_taken nodes k p ≡ after
  unfolding entry_taken
  taken_is =
      ap (λ (a : Answer). entry_put (set nodes (node_start k + 1) (get_or a.values 0 0)) k slot none) accepts
      ∙ put_is worded k slot none slot< fits1

  entry_kept : (s : ℕ) → entry_at worded k s ≡ entry_at nodes k s
  entry_kept s =
      rw (
        set-beside nodes k 1 next (2 + s) (λ z. omega arith),
        set-beside nodes k 1 next (17 + s) (λ z. omega arith),
        set-beside nodes k 1 next (32 + s) (λ z. omega arith),
      )

  word_next : word_at after k 1 ≡ next
  word_next = put3-word worded k slot none slot< fits1 ∙ set_here nodes k 1 next (omega arith) fits

  next-valid : valid_word 15 (word_at after k 1) ≡ true
  next-valid = ap (valid_word 15) word_next ∙ take-valid (word_at nodes k 1) p accepts

  kept-fifteen : fifteen worded k ≡ fifteen nodes k
  kept-fifteen = tabled-same (entry_at nodes k) (entry_at worded k) (λ s. entry_kept s) 0 15

  in_order : entries_in_order (word_at nodes k 1) (fifteen nodes k) ≡ entries_at nodes k
  in_order = sym (entries-view nodes k valid)

  pub entries-taken : entries_at after k ≡ without_at p (entries_at nodes k)
  entries-taken =
      entries-view after k next-valid
      ∙ ap₂ entries_in_order word_next (put3-fifteen worded k slot none slot< fits1 ∙ ap (λ (xs : List Entry). set xs slot none) kept-fifteen)
      ∙ take-view (word_at nodes k 1) p accepts (set (fifteen nodes k) slot none)
      ∙ ap (λ (i : ℕ). take p view ++ drop i view) (add-one p)
      ∙ ap (without_at p)
      (change-view (word_at nodes k 1) (fifteen nodes k) p none valid refl in_use
      ∙ ap (λ (es : List Entry). take p es ++ none ∷ drop (suc p) es) in_order)
      ∙ without-changed p (entries_at nodes k) none l
    where
      view : List Entry
      view = entries_in_order (word_at nodes k 1) (set (fifteen nodes k) slot none)

  abbrev U : List ℕ
  U = slots_in_use (slots_at nodes k)

  used-after : slots_in_use (slots_at after k) ≡ without_at p U
  used-after =
      let g : Entry → ℕ = λ e. e.ikey in
      let O = entries_in_order (word_at nodes k 1) names in
      let u : map g O ≡ U = used-named (word_at nodes k 1) valid in
      ap (λ (w : ℕ). slots_in_use (slots_of w)) word_next ∙ sym (used-named next (take-valid (word_at nodes k 1) p accepts))
      ∙ ap (map g) (take-view (word_at nodes k 1) p accepts names ∙ ap (λ (i : ℕ). take p O ++ drop i O) (add-one p))
      ∙ map-append g (take p O) (drop (suc p) O)
      ∙ ap₂ (λ (x y : List ℕ). x ++ y) (map-take g p O ∙ ap (take p) u) (map-drop g (suc p) O ∙ ap (drop (suc p)) u)

  U-long : p < length U
  U-long = omega (
    arith,
    length-take-le (slots_at nodes k).size (slots_at nodes k).slots
        (omega (arith, size-most (word_at nodes k 1) valid, slots-wide (word_at nodes k 1) valid)),
    in_use,
  )

  U-parts : (s : ℕ) → slot ≢ s → count s (without_at p U) ≡ count s U
  U-parts s ne =
      let here : get_or U p 0 ≡ slot = get_or-take (slots_at nodes k).size (slots_at nodes k).slots p 0 in_use in
      count-append s (take p U) (drop (suc p) U)
      ∙ ap (λ (c : ℕ). count s (take p U) + c)
      (sym (ap (count s) (drop-cons U p 0 U-long) ∙ count-other (get_or U p 0) s (drop (suc p) U) (λ e. ne (sym here ∙ e))))
      ∙ sym (count-append s (take p U) (drop p U)) ∙ ap (count s) (take-append-drop p U)

  zeros : T (every is_zero (rest_at nodes k))
  unfolding leaf_right
  zeros =
      and_right (rising (entries_at nodes k)) _
      (and_right (every of_class (entries_at nodes k)) _
      (and_right (valid_word 15 (word_at nodes k 1)) _ (and_right (eqb (kind_at nodes k) 1) _ t)))

  zero-slot : entry_at after k slot ≡ none
  zero-slot =
      sym (fifteen-at after k slot slot<) ∙ ap (λ (es : List Entry). get_or es slot none) (put3-fifteen worded k slot none slot< fits1)
      ∙ get_or-set_same (fifteen worded k) slot none none (omega (arith, tabled-length (entry_at worded k) 0 15, slot<))

  after-rest : RestZero after k next-valid
  after-rest s b z = go (ℕ_discrete slot s)
    where
      go : Dec (slot ≡ s) → T (is_zero (entry_at after k s))
      go (yes e) = subst (λ (x : Entry). T (is_zero x)) (sym (ap (entry_at after k) (sym e) ∙ zero-slot)) tt
      go (no ne) =
          subst (λ (x : Entry). T (is_zero x)) (sym (put3-beside worded k slot none slot< fits1 s b (λ e. ne (sym e)) ∙ entry_kept s))
          (rest-means nodes k valid zeros s b (sym (U-parts s ne) ∙ ap (count s) (sym used-after) ∙ z))

  shorter-classes : T (every of_class (without_at p (entries_at nodes k)))
  shorter-classes =
      let all = is_true _ (leaf-classes nodes k t) in
      holds (every-join of_class none (take p (entries_at nodes k)) (drop (suc p) (entries_at nodes k))
      (every_take of_class none p (entries_at nodes k) all) (every_drop of_class none (suc p) (entries_at nodes k) all))

  -- where what is left rises, the node is a leaf with what is left
  pub entry-taken : (T (every of_class (without_at p (entries_at nodes k))) → T (rising (without_at p (entries_at nodes k))))
      → Wrote nodes (entry_taken nodes k p) n k (entry_node (without_at p (entries_at nodes k)))
  entry-taken r =
      let kind : kind_at after k ≡ 1 = put3-kind worded k slot none slot< fits1 ∙ set-kind nodes k 1 next (omega arith)
      ∙ leaf-kind nodes k t in
      let right : T (leaf_right after k) =
      leaf-if after k kind next-valid (subst (λ (xs : List Entry). T (every of_class xs)) (sym entries-taken) shorter-classes)
      (subst (λ (xs : List Entry). T (rising xs)) (sym entries-taken) (r shorter-classes)) (rest-if after k next-valid after-rest) in
      subst (λ (m : List ℕ). Wrote nodes m n k (entry_node (without_at p (entries_at nodes k)))) (sym taken_is)
      (wrote nodes after n N k h (entry_node (without_at p (entries_at nodes k)))
      (put3-length worded k slot none slot< fits1 ∙ length-set nodes (node_start k + 1) next)
      (λ i b. put3-head worded k slot none slot< fits1 i b ∙ set-head nodes k 1 next i b)
      (λ j ne i b. put3-elsewhere worded k slot none slot< fits1 j ne i b ∙ set-elsewhere nodes k 1 next (omega arith) j ne i b)
      (sound-leaf after k right) (view-leaf after k right ∙ ap entry_node entries-taken))
