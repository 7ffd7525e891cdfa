-- Down a layer: a law for each way in which a step returns. Assumes nothing.
use Prim.Native.Nat.{ℕ, suc, ◌+◌, ◌*◌, ◌-◌, ◌%◌, ◌≤◌, ◌<◌}
use mathlib.Core.Path.{◌≡◌, refl, sym, ap, ◌∙◌}
use mathlib.Core.Bool.{Bool, true, false}
use mathlib.Core.List.{List, [], ◌∷◌, ◌++◌}
use native.Mathlib.Numerals.{add-one}
use native.Mathlib.Omega.{arith}
use lib.Dec.{leb, compare_is_eq}
use lib.ListN.{length, get_or, drop, length-drop, drop_of_length-le, get_or-eq_default}
use lib.Seq.{take-suc, take_all, take-nil, get_or-drop}
use borrow.Author.Count.{below_more}
use borrow.Author.Tests.{le-leb, lt-leb}
use Rattle.bank.specs.Bank.{slot_at}
use Rattle.order.specs.Layer.{ikey_at, class_of, class_at}
use Rattle.std.specs.declared.cmp.Ordering.{Ordering as Ordered}
use Rattle.std.specs.declared.cmp.Ordering.TheVariants.{Less, Equal, Greater}
use Rattle.ikey.specs.Said.{order_of}
use Rattle.internode.specs.Lists.{one_more_or, after_last}
use Rattle.leaf_entries.specs.declared.Entry.{Entry}
use Rattle.leaf.specs.Leaf.{none, slots_of, against}
use Rattle.leaf.specs.Search.{place_equal}
use Rattle.leaf.proofs.Lists.{first-at, first-none}
use Rattle.arena.specs.Parts.{part}
use Rattle.arena.specs.Layout.{node_start, word_at}
use Rattle.arena.proofs.Words.{part_length, part_at}
use Rattle.forest.specs.Nodes.{entry_at, entries_at, ikeys_at, children_at}
use Rattle.forest.specs.Walk.{height_at}
use Rattle.forest.proofs.Heights.{height-most}
use Rattle.model.specs.Down.{child_for, leaf_for, leaf_in}
use Rattle.seek.specs.Places.{place_among}
use Rattle.seek.proofs.InUse.{entries-length, entry_here}
use Rattle.node_words.proofs.Words.{words}

-- ---- the place after the last ikey that is not above

module _ (test : ℕ → Bool) where
  last-skips : (xs : List ℕ) (x : ℕ) → test x ≡ false → after_last test (xs ++ x ∷ []) ≡ after_last test xs
  unfolding after_last
  last-skips [] x e = rw e
  last-skips (y ∷ xs) x e = ap (λ (n : ℕ). one_more_or n (test y)) (last-skips xs x e)

  last-takes : (xs : List ℕ) (x : ℕ) → test x ≡ true → after_last test (xs ++ x ∷ []) ≡ suc (length xs)
  unfolding after_last
  last-takes [] x e = rw e
  last-takes (y ∷ xs) x e = ap (λ (n : ℕ). one_more_or n (test y)) (last-takes xs x e)

part-more : (xs : List ℕ) (at i : ℕ) → at + i < length xs → part xs at (i + 1) ≡ part xs at i ++ get_or xs (at + i) 0 ∷ []
unfolding part
part-more xs at i l =
    let z : i < length (drop at xs) = rw (length-drop at xs) (omega arith) in
    rw (add-one i, ← get_or-drop at xs i 0) (take-suc (drop at xs) i 0 z)

module _ (nodes : List ℕ) (n ikey i : ℕ) where
  pub place-skip : {place : ℕ} → place ≡ place_among ikey (part nodes (2 + n * 47 + 2) i) → 2 + n * 47 + 2 + i < length nodes
      → ikey < get_or nodes (2 + n * 47 + 2 + i) 0 → place ≡ place_among ikey (part nodes (2 + n * 47 + 2) (i + 1))
  unfolding place_among
  place-skip e l h =
      let x : ℕ = get_or nodes (2 + n * 47 + 2 + i) 0 in
      e ∙ sym (ap (after_last (λ k. leb k ikey)) (part-more nodes (2 + n * 47 + 2) i l)
      ∙ last-skips (λ k. leb k ikey) (part nodes (2 + n * 47 + 2) i) x (lt-leb x ikey h))

  pub place-take : 2 + n * 47 + 2 + i < length nodes → get_or nodes (2 + n * 47 + 2 + i) 0 ≤ ikey
      → i + 1 ≡ place_among ikey (part nodes (2 + n * 47 + 2) (i + 1))
  unfolding place_among
  place-take l h =
      let x : ℕ = get_or nodes (2 + n * 47 + 2 + i) 0 in
      sym (ap (after_last (λ k. leb k ikey)) (part-more nodes (2 + n * 47 + 2) i l)
      ∙ last-takes (λ k. leb k ikey) (part nodes (2 + n * 47 + 2) i) x (le-leb x ikey h)
      ∙ ap suc (part_length nodes (2 + n * 47 + 2) i (omega arith)) ∙ sym (add-one i))

  module _ {place count : ℕ} (e : place ≡ place_among ikey (part nodes (2 + n * 47 + 2) i)) (w : count ≡ word_at nodes n 1) where
    pub place_end : i ≤ count → count ≤ i → place ≡ place_among ikey (ikeys_at nodes n)
    unfolding ikeys_at
    place_end h l =
        let z : i ≡ word_at nodes n 1 = omega arith in
        e ∙ ap (λ (k : ℕ). place_among ikey (part nodes (2 + n * 47 + 2) k)) z

    -- past the end of memory there are no more
    pub place-cut : i < count → length nodes ≤ 2 + n * 47 + 2 + i → place ≡ place_among ikey (ikeys_at nodes n)
    unfolding ikeys_at part
    place-cut h l =
        let rest : List ℕ = drop (2 + n * 47 + 2) nodes in
        let y : length rest ≤ i = rw (length-drop (2 + n * 47 + 2) nodes) (omega arith) in
        let z : length rest ≤ word_at nodes n 1 = omega arith in
        e ∙ ap (place_among ikey) (take_all i rest y ∙ sym (take_all (word_at nodes n 1) rest z))

pub place-first : (nodes : List ℕ) (n ikey : ℕ) → 0 ≡ place_among ikey (part nodes (2 + n * 47 + 2) 0)
unfolding place_among after_last part
place-first nodes n ikey = refl

-- ---- the child at that place

part_none : (xs : List ℕ) (at k : ℕ) → length xs ≤ at → part xs at k ≡ []
unfolding part
part_none xs at k h = rw (drop_of_length-le xs h) (take-nil k)

module _ (nodes : List ℕ) (n ikey : ℕ) where
  -- no child past the end of memory
  pub child-beyond : length nodes ≤ 11987 → 255 ≤ n → 0 ≡ child_for nodes n ikey
  unfolding child_for children_at
  child-beyond h l = rw (part_none nodes (node_start n + 17) (word_at nodes n 1 + 1) (omega arith))

  module _ {place : ℕ} (e : place ≡ place_among ikey (ikeys_at nodes n)) (few : place ≤ word_at nodes n 1) where
    pub child-here : get_or nodes (2 + n * 47 + 17 + place) 0 ≡ child_for nodes n ikey
    unfolding child_for children_at place_among
    child-here = rw (← e) (sym (part_at nodes (node_start n + 17) (word_at nodes n 1 + 1) place (omega arith)))

    pub child-past : length nodes ≤ 2 + n * 47 + 17 + place → 0 ≡ child_for nodes n ikey
    child-past l = sym (get_or-eq_default nodes 0 {n = 2 + n * 47 + 17 + place} l) ∙ child-here

-- ---- down to the leaf

module _ (nodes : List ℕ) (ikey h n : ℕ) {leaf : ℕ} (e : leaf ≡ leaf_for nodes h n ikey) where
  pub leaf-next : 0 < h → {child : ℕ} → child ≡ child_for nodes n ikey → leaf ≡ leaf_for nodes (h - 1) child ikey
  unfolding leaf_for
  leaf-next l d = rw (d) (e ∙ ap (λ (m : ℕ). leaf_for nodes m n ikey) (let z : h ≡ suc (h - 1) = omega arith in z))

  pub leaf-end : h ≤ 0 → n ≡ leaf
  unfolding leaf_for
  leaf-end l = sym (e ∙ ap (λ (m : ℕ). leaf_for nodes m n ikey) (let z : h ≡ 0 = omega arith in z))

-- ---- the entry of an ikey and a class

module _ (ikey len : ℕ) (e : Entry) (r : Ordered) (o : order_of r ≡ against ikey (class_of len) e) where
  pub same-less : r ≡ Less → false ≡ compare_is_eq (against ikey (class_of len) e)
  same-less q = rw (← o, q)

  pub same-equal : r ≡ Equal → true ≡ compare_is_eq (against ikey (class_of len) e)
  same-equal q = rw (← o, q)

  pub same-greater : r ≡ Greater → false ≡ compare_is_eq (against ikey (class_of len) e)
  same-greater q = rw (← o, q)

module _ (nodes : List ℕ) (n ikey len : ℕ) {word size : ℕ} (w : word ≡ word_at nodes n 1) (z : size ≡ word % 16) (i : ℕ)
    (f : (j : ℕ) → j < i → compare_is_eq (against ikey (class_of len) (get_or (entries_at nodes n) j none)) ≡ false) where
  pub equal-none : size ≤ i → size ≡ place_equal ikey (class_of len) (entries_at nodes n)
  equal-none l =
      z ∙ sym (entries-length nodes n word w)
      ∙ first-none (λ e. compare_is_eq (against ikey (class_of len) e)) none (entries_at nodes n)
      (λ j h. f j (omega (arith, entries-length nodes n word w)))

  module _ {slot : ℕ} {e : Entry} {r : Bool} (l : i < size) (s : slot ≡ slot_at i (slots_of word)) (d : e ≡ entry_at nodes n slot)
      (q : r ≡ compare_is_eq (against ikey (class_of len) e)) where
    same_here : compare_is_eq (against ikey (class_of len) (get_or (entries_at nodes n) i none)) ≡ r
    same_here = ap (λ (x : Entry). compare_is_eq (against ikey (class_of len) x)) (entry_here nodes n word w i (omega arith) s ∙ sym d) ∙ sym q

    pub equal-here : r ≡ true → i ≡ place_equal ikey (class_of len) (entries_at nodes n)
    equal-here t =
        first-at (λ e. compare_is_eq (against ikey (class_of len) e)) none (entries_at nodes n) i
        (omega (arith, entries-length nodes n word w)) f (same_here ∙ t)

    pub equal_next : r ≡ false → (j : ℕ) → j < i + 1
        → compare_is_eq (against ikey (class_of len) (get_or (entries_at nodes n) j none)) ≡ false
    equal_next t = below_more _ i f (same_here ∙ t)

-- ---- a layer's height, and the place of a key in it

pub height-small : (nodes : List ℕ) (root : ℕ) {h : ℕ} → h ≡ height_at nodes 255 root → h ≤ 255
height-small nodes root e = omega (arith, height-most nodes 255 root)

module _ (nodes key : List ℕ) (offset root : ℕ) {ikey : ℕ} (i : ikey ≡ ikey_at key offset) where
  pub leaf-in : {h leaf : ℕ} → h ≡ height_at nodes 255 root → leaf ≡ leaf_for nodes h root ikey
      → leaf ≡ leaf_in nodes root (ikey_at key offset)
  unfolding leaf_in
  leaf-in eh el = rw (← i, ← eh) el

  pub place-in-leaf : (leaf : ℕ) {left p : ℕ} → left ≡ length key - offset
      → p ≡ place_equal ikey (class_of left) (entries_at nodes leaf)
      → p ≡ place_equal (ikey_at key offset) (class_at key offset) (entries_at nodes leaf)
  place-in-leaf leaf el ep = rw (← i, ← el) ep

pub ruleset downs = (
  words,
  place-first,
  place-skip,
  place-take,
  place_end,
  place-cut,
  child-beyond,
  child-here,
  child-past,
  leaf-next,
  leaf-end,
  same-less,
  same-equal,
  same-greater,
  equal-none,
  equal-here,
  equal_next,
  height-small,
  leaf-in,
  place-in-leaf,
)
