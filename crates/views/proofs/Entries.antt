-- Entries seen as keys with a cell or a link: in a right leaf they rise, are at most fifteen, and each class is at most 9.
-- Assumes nothing.
use mathlib.Core.Path.{◌≡◌, refl, ap}
use mathlib.Core.Bool.{Bool, true, false, cond, ◌&&◌}
use mathlib.Core.List.{List, [], ◌∷◌, map}
use Prim.Native.Nat.compare
use Prim.Native.Nat.{Ordering}
use Prim.Native.Nat.{ℕ, suc, min, ◌≤◌}
use native.Mathlib.Omega.{arith}
use lib.Dec.{T, eqb, leb→le}
use lib.ListN.{length}
use borrow.Author.Tests.{eqb-true, eqb-false}
use Rattle.bank.proofs.Tests.{and_left, and_right, is_true}
use Rattle.order.specs.Map.{All, a[], ◌a∷◌, Sorted, ◌s∷◌, s[]}
use Rattle.nibbles.specs.Words.{valid_word}
use Rattle.leaf_entries.specs.declared.Entry.{Entry}
use Rattle.leaf.specs.Lists.{every}
use Rattle.leaf.specs.Leaf.{rank, less, rising}
use Rattle.leaf.proofs.Orders.{is-less}
use Rattle.arena.specs.Layout.{word_at, kind_at}
use Rattle.forest.specs.Nodes.{entries_at, rest_at, of_class, is_zero, leaf_right}
use Rattle.forest.specs.Trees.{Key, Ref, cell, link, seen_as}
use Rattle.forest.proofs.InUse.{entries-length, seen-ikey}
use Rattle.trees.specs.Nodes.{layer_order}
use Rattle.trees.specs.Layers.{Pointer}
use Rattle.trees.proofs.Nodes.{layer-order}
use Rattle.views.specs.Views.{key_view, ref_view, entry_view}
use Rattle.views.proofs.Lists.{map-exact}
use Rattle.order.proofs.Map.{all_map}

-- ---- a view tells entries apart

key-exact : (a b : Key) → key_view a ≡ key_view b → a ≡ b
key-exact a b e =
    let p : suc a.0 ≡ suc b.0 = ap (λ (k : ℕ × ℕ). k.0) e in
    let q : a.1 ≡ b.1 = ap (λ (k : ℕ × ℕ). k.1) e in
    let r : a.0 ≡ b.0 = omega arith in
    λ i. (r i, q i)

ref-exact : (a b : Ref) → ref_view a ≡ ref_view b → a ≡ b
ref-exact (cell a) (cell b) e = ap cell (cc)
ref-exact (cell a) (link b) e = let z : ◌≡◌ {A = ℕ} 0 1 = cc in absurd (omega arith)
ref-exact (link a) (cell b) e = let z : ◌≡◌ {A = ℕ} 0 1 = cc in absurd (omega arith)
ref-exact (link a) (link b) e = ap link (cc)

pub entry-exact : (a b : Key × Ref) → entry_view a ≡ entry_view b → a ≡ b
entry-exact a b e =
    let p : a.0 ≡ b.0 = key-exact a.0 b.0 (ap (λ (x : (ℕ × ℕ) × Pointer). x.0) e) in
    let q : a.1 ≡ b.1 = ref-exact a.1 b.1 (ap (λ (x : (ℕ × ℕ) × Pointer). x.1) e) in
    λ i. (p i, q i)

pub entries-exact : (es fs : List (Key × Ref)) → map entry_view es ≡ map entry_view fs → es ≡ fs
entries-exact es fs e = map-exact entry_view entry-exact es fs e

-- ---- the ikey and the class of an entry

seen-class : (e : Entry) → T (of_class e) → (seen_as e).0.1 ≡ rank e
unfolding seen_as
seen-class e t = go (eqb e.class 10) refl
  where
    few : e.class ≤ 10
    few = leb→le e.class 10 t

    go : (b : Bool) → eqb e.class 10 ≡ b
        → (cond {A = Key × Ref} b ((e.ikey, 9), link e.at) ((e.ikey, e.class), cell e.at)).0.1 ≡ min 9 e.class
    go true q = let ten : e.class ≡ 10 = eqb-true e.class 10 q in omega arith
    go false q =
        let nine : e.class ≤ 9 = most e.class few (eqb-false e.class 10 q) in
        omega arith
      where
        most : (c : ℕ) → c ≤ 10 → (c ≡ 10 → ⊥) → c ≤ 9
        most c h ne = omega arith

-- a link is of class 9
abbrev pub LinkNine : Key × Ref → Type 0
LinkNine e = (n : ℕ) → e.1 ≡ link n → e.0.1 ≡ 9

seen-link : (e : Entry) → LinkNine (seen_as e)
unfolding seen_as
seen-link e = go (eqb e.class 10)
  where
    go : (b : Bool) → LinkNine (cond {A = Key × Ref} b ((e.ikey, 9), link e.at) ((e.ikey, e.class), cell e.at))
    go true n q = refl
    go false n q = let z : ◌≡◌ {A = ℕ} 0 1 = cc in absurd (omega arith)

pub seen-links : (es : List Entry) → All LinkNine (map seen_as es)
seen-links [] = a[]
seen-links (e ∷ es) = seen-link e a∷ seen-links es

-- ---- order

abbrev seen_key : Entry → ℕ × ℕ
seen_key e = (entry_view (seen_as e)).0

less-view : (e d : Entry) → T (of_class e) → T (of_class d) → T (less e d) → layer_order (seen_key e) (seen_key d) ≡ Ordering.lt
unfolding layer_order
less-view e d s t l =
    rw (seen-ikey e, seen-ikey d, seen-class e s, seen-class d t, compare.suc-suc)
    (is-less (is_true (less e d) l))

abbrev seen_entry : Entry → (ℕ × ℕ) × Pointer
seen_entry e = entry_view (seen_as e)

first-less : (e d : Entry) (es : List Entry) → layer_order (seen_key e) (seen_key d) ≡ Ordering.lt
    → Sorted layer_order (map seen_entry (d ∷ es)) → All (λ x. layer_order (seen_key e) x.0 ≡ Ordering.lt) (map seen_entry (d ∷ es))
first-less e d es l (h s∷ s) = l a∷ all_map (λ x. layer-order.trans (seen_key e) (seen_key d) x.0 l) h

pub rising-sorted : (es : List Entry) → T (every of_class es) → T (rising es) → Sorted layer_order (map seen_entry es)
unfolding every rising
rising-sorted [] c r = s[]
rising-sorted (e ∷ []) c r = a[] s∷ s[]
rising-sorted (e ∷ d ∷ es) c r =
    let cs = and_right (of_class e) _ c in
    let later : Sorted layer_order (map seen_entry (d ∷ es)) = rising-sorted (d ∷ es) cs (and_right (less e d) _ r) in
    let l : layer_order (seen_key e) (seen_key d) ≡ Ordering.lt =
    less-view e d (and_left (of_class e) _ c) (and_left (of_class d) _ cs) (and_left (less e d) _ r) in
    (first-less e d es l later) s∷ later

-- a class of 0 to 9
pub classes-nine : (es : List Entry) → T (every of_class es) → All (λ x. x.0.1 ≤ 9) (map seen_entry es)
unfolding every
classes-nine [] c = a[]
classes-nine (e ∷ es) c =
    let q : (seen_as e).0.1 ≡ min 9 e.class = seen-class e (and_left (of_class e) _ c) in
    let few : (seen_as e).0.1 ≤ 9 = omega arith in
    few a∷ classes-nine es (and_right (of_class e) _ c)

-- ---- a right leaf

module _ (nodes : List ℕ) (k : ℕ) (right : T (leaf_right nodes k)) where
  after-kind : T (valid_word 15 (word_at nodes k 1)
      && (every of_class (entries_at nodes k) && (rising (entries_at nodes k) && every is_zero (rest_at nodes k))))
  unfolding leaf_right
  after-kind = and_right (eqb (kind_at nodes k) 1) _ right

  pub leaf-classes : T (every of_class (entries_at nodes k))
  leaf-classes = and_left (every of_class (entries_at nodes k)) _ (and_right (valid_word 15 (word_at nodes k 1)) _ after-kind)

  pub leaf-rising : T (rising (entries_at nodes k))
  leaf-rising =
      and_left (rising (entries_at nodes k)) _
      (and_right (every of_class (entries_at nodes k)) _ (and_right (valid_word 15 (word_at nodes k 1)) _ after-kind))

pub leaf-few : (nodes : List ℕ) (k : ℕ) → length (entries_at nodes k) ≤ 15
leaf-few nodes k = omega (arith, entries-length nodes k (word_at nodes k 1) refl)
