-- Put and remove keep the count: what they leave is a tree that counts its entries. Assumes nothing.
use mathlib.Core.Path.{◌≡◌, refl, sym, ap, ◌∙◌, subst}
use mathlib.Core.Bool.{Bool, true, false}
use mathlib.Core.List.{List, [], ◌∷◌}
use mathlib.Core.Option.{Option, none, some}
use Prim.Native.Nat.{ℕ, zero, suc, ◌+◌, ◌-◌, ◌≤◌, Ordering}
use native.Mathlib.Omega.{arith}
use lib.ListN.{length}
use Rattle.order.specs.Bytes.{Bytes, bytewise}
use Rattle.order.specs.Map.{Map, pick, lookup, alter, insert, delete}
use Rattle.arena.specs.Memory.{Memory}
use Rattle.forest.specs.IsTree.{Layers, Forest, IsTree, listing}
use Rattle.model.specs.Calls.{count_of, place, stored, has_room, with, without, with_count}
use Rattle.places.proofs.Found.{is_some, stored-lookup}
use Rattle.places.proofs.Removed.{removed-tree}
use Rattle.puts.proofs.Puts.{put-tree}
use Rattle.index_counted.proofs.Set.{count_set, count-is}

-- ---- a sorted map

-- a new key makes one entry more
pub length-insert : (key : List ℕ) (x : ℕ) (xs : Map) → lookup bytewise key xs ≡ none → length (insert bytewise key x xs) ≡ suc (length xs)
unfolding lookup alter
length-insert key x [] e = refl
length-insert key x (d ∷ xs) e = go (bytewise key d.0) e (length-insert key x xs)
  where
    go : (o : Ordering) → pick o none (some d.1) (lookup bytewise key xs) ≡ none
        → (lookup bytewise key xs ≡ none → length (insert bytewise key x xs) ≡ suc (length xs))
        → length (pick o ((key, x) ∷ d ∷ xs) ((key, x) ∷ xs) (d ∷ insert bytewise key x xs)) ≡ suc (suc (length xs))
    go Ordering.lt q rest = refl
    go Ordering.eq q rest = let z : ◌≡◌ {A = ℕ} 0 1 = cc in absurd (omega arith)
    go Ordering.gt q rest = ap suc (rest q)

-- a key that is taken away makes one less
pub length-delete : (key : List ℕ) (y : ℕ) (xs : Map) → lookup bytewise key xs ≡ some y → suc (length (delete bytewise key xs)) ≡ length xs
unfolding lookup alter
length-delete key y [] e = let z : ◌≡◌ {A = ℕ} 0 1 = cc in absurd (omega arith)
length-delete key y (d ∷ xs) e = go (bytewise key d.0) e (length-delete key y xs)
  where
    go : (o : Ordering) → pick o none (some d.1) (lookup bytewise key xs) ≡ some y
        → (lookup bytewise key xs ≡ some y → suc (length (delete bytewise key xs)) ≡ length xs)
        → suc (length (pick o (d ∷ xs) xs (d ∷ delete bytewise key xs))) ≡ suc (length xs)
    go Ordering.lt q rest = let z : ◌≡◌ {A = ℕ} 0 1 = cc in absurd (omega arith)
    go Ordering.eq q rest = refl
    go Ordering.gt q rest = ap suc (rest q)

not_there : (found : Option ℕ) → is_some found ≡ false → found ≡ none
not_there none e = refl
not_there (some y) e = let z : ◌≡◌ {A = ℕ} 0 1 = cc in absurd (omega arith)

there : (found : Option ℕ) → is_some found ≡ true → (y : ℕ) × (found ≡ some y)
there none e = let z : ◌≡◌ {A = ℕ} 0 1 = cc in absurd (omega arith)
there (some y) e = (y, refl)

-- ---- the tree, counted

-- memory that is a tree and lists these entries
abbrev pub Leaves : Memory → Map → Type 0
Leaves after xs = (u : Layers) × IsTree after u × (listing after u ≡ xs)

-- with as many counted as are listed, memory that has a tree is one
counted-tree : (m : Memory) (v : Layers) → Forest m v → Bytes m.bytes → (n : ℕ) → n ≡ length (listing m v)
    → Leaves (with_count m n) (listing m v)
counted-tree m v t bytes n e =
    let (u, U, l) = count_set m v n t bytes in (u, record { forest = U; counted = count-is m v n t ∙ e ∙ sym (ap length l) }, l)

module _ (m : Memory) (v : Layers) (t : IsTree m v) (bytes : Bytes m.bytes) (key : List ℕ) (b : Bytes key) where
  -- one entry more
  pub put-counted : length key ≤ 256 → (x : ℕ) → stored m key ≡ false → has_room m key ≡ true
      → Leaves (with_count (with m key x) (count_of m + 1)) (insert bytewise key x (listing m v)) × Bytes (with m key x).bytes
  put-counted short x absent room =
      let (w, W, l, c) = put-tree m v t.forest bytes key b short x absent room in
      let more = length-insert key x (listing m v)
      (not_there (lookup bytewise key (listing m v)) (sym (stored-lookup m v t.forest bytes key b) ∙ absent)) in
      let (u, U, e) = counted-tree (with m key x) w W c (count_of m + 1) (omega (arith, t.counted, more, ap length l)) in
      ((u, U, e ∙ l), c)

  -- one entry less
  pub remove-counted : stored m key ≡ true
      → Leaves (with_count (without m (place m key)) (count_of m - 1)) (delete bytewise key (listing m v))
      × Bytes (without m (place m key)).bytes
  remove-counted present =
      let (w, W, l, c) = removed-tree m v t.forest bytes key b present in
      let (y, found) = there (lookup bytewise key (listing m v)) (sym (stored-lookup m v t.forest bytes key b) ∙ present) in
      let less = length-delete key y (listing m v) found in
      let (u, U, e) = counted-tree (without m (place m key)) w W c (count_of m - 1) (omega (arith, t.counted, less, ap length l)) in
      ((u, U, e ∙ l), c)
