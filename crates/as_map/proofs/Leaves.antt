-- What each call leaves of memory that is a tree: a tree that lists what the sorted map leaves. A refused call leaves memory as it was.
use mathlib.Core.Path.{◌≡◌, refl, sym, ap, ◌∙◌, subst}
use mathlib.Core.Bool.{Bool, true, false, cond, not, ◌&&◌}
use mathlib.Core.List.{List, [], ◌∷◌}
use mathlib.Core.Option.{Option, none, some}
use Prim.Native.Nat.{ℕ, ◌+◌, ◌-◌, ◌*◌, ◌≤◌, Ordering}
use native.Mathlib.Omega.{arith}
use lib.Dec.{T, leb}
use lib.ListN.{length}
use borrow.Author.Tests.{leb-true}
use Rattle.bank.proofs.Tests.{is_true}
use Rattle.refusal.specs.Answer.{◌unless◌, ◌telling◌, answered}
use Rattle.order.specs.Bytes.{Bytes, bytewise}
use Rattle.order.specs.Map.{Map, All, a[], ◌a∷◌, pick, lookup, alter, insert, delete}
use Rattle.arena.specs.Memory.{Memory, node_count, cell_count, right_lengths, emptied, cleared}
use Rattle.arena.proofs.Measures.{right-means}
use Rattle.forest.specs.IsTree.{Layers, IsTree, listing}
use Rattle.forest.proofs.Cleared.{cleared-tree}
use Rattle.model.specs.GivenBack.{all_given_back}
use Rattle.model.specs.Calls.{count_of, stored, with, with_count, has_cell, has_nodes, has_room, lacking, rests_in, put_done}
use Rattle.model.specs.Calls.{when_accepted, remove_said, without_entry, removed}
use Rattle.places.proofs.Found.{is_some, stored-lookup}
use Rattle.index_counted.proofs.Kept.{put-counted, remove-counted}
use Rattle.index_given_back.proofs.All.{all_back}
use Rattle.places.proofs.FreedCells.{bytes-zeros}
use Rattle.as_map.specs.Calls.{Call, clear, put, find, remove, kth, count, OfBytes, left, left_before, left_after_before, room_for}
use Rattle.as_map.specs.Map.{whether, map_left}
use Rattle.as_map.proofs.Says.{accepted}

-- memory is a tree whose keys are bytes, and it lists these entries
abbrev pub Lists : Memory → Map → Type 0
Lists m xs = (v : Layers) × IsTree m v × Bytes m.bytes × (listing m v ≡ xs)

-- ---- clear

-- memory that was cleared lists nothing
pub cleared-lists : (n c : ℕ) → 1 ≤ n → n ≤ 255 → 1 ≤ c → c ≤ 255 → Lists (emptied n c) []
cleared-lists n c n-low n-high c-low c-high =
    let (v, t, e) = cleared-tree n c n-low n-high c-low c-high in (v, t, bytes-zeros (c * 256), e)

-- clear leaves that of any lent memory of right lengths
module _ (m : Memory) (lent : T (right_lengths (length m.nodes) (length m.cells) (length m.bytes))) where
  pub clear-left : (cleared m).after ≡ emptied (node_count (length m.nodes)) (cell_count (length m.cells))
  unfolding cleared
  clear-left = rw (is_true (right_lengths (length m.nodes) (length m.cells) (length m.bytes)) lent) refl

  pub clear-leaves : Lists (left m clear) []
  clear-leaves =
      let r = right-means _ _ _ (is_true _ lent) in
      subst (λ (after : Memory). Lists after []) (sym clear-left)
      (cleared-lists (node_count (length m.nodes)) (cell_count (length m.cells)) r.n-low r.n-high r.c-low r.c-high)

-- ---- remove and put

-- a key that is not there leaves nothing to delete
pub delete-missing : (key : List ℕ) (xs : Map) → lookup bytewise key xs ≡ none → delete bytewise key xs ≡ xs
unfolding lookup alter
delete-missing key [] e = refl
delete-missing key (x ∷ xs) e = go (bytewise key x.0) e (delete-missing key xs)
  where
    go : (o : Ordering) → pick o none (some x.1) (lookup bytewise key xs) ≡ none
        → (lookup bytewise key xs ≡ none → delete bytewise key xs ≡ xs)
        → pick o (x ∷ xs) xs (x ∷ delete bytewise key xs) ≡ x ∷ xs
    go Ordering.lt d rest = refl
    go Ordering.eq d rest = let z : ◌≡◌ {A = ℕ} 0 1 = cc in absurd (omega arith)
    go Ordering.gt d rest = ap (λ (ys : Map). x ∷ ys) (rest d)

-- ---- the rules of each call, once memory is a tree: `short` for a key of at most 256 bytes, `found` for what the map has

remove-left : (short there : Bool) (after before : Memory)
    → when_accepted (answered ((7 unless short) ∷ (10 unless true) ∷ (12 unless there) ∷ []) [] []) after before
    ≡ cond short (cond there after before) before
remove-left true true after before = refl
remove-left true false after before = refl
remove-left false there after before = refl

put-left : (short there cell nodes : Bool) (n : ℕ) (told : List ℕ) (after before : Memory)
    → when_accepted
    (answered
    ((7 unless short) ∷ (10 unless true) ∷ (11 unless not there) ∷ (13 unless cell) ∷ ((14 unless nodes) telling (n ∷ [])) ∷ []) told [])
    after before
    ≡ cond short (cond there before (cond (cell && nodes) after before)) before
put-left true true cell nodes n told after before = refl
put-left true false true true n told after before = refl
put-left true false true false n told after before = refl
put-left true false false nodes n told after before = refl
put-left false there cell nodes n told after before = refl

module _ (m : Memory) (v : Layers) (t : IsTree m v) (bytes : Bytes m.bytes) where
  -- a call that leaves memory as it was
  as_it_was : Lists m (listing m v)
  as_it_was = (v, t, bytes, refl)

  module _ (key : List ℕ) (b : Bytes key) where
    -- a removal that leaves this memory, which lists the rest
    module _ (less : Memory) (rest : stored m key ≡ true → Lists less (delete bytewise key (listing m v))) where
      less-left : Lists (when_accepted (remove_said m key) less m) (map_left (room_for m (remove key)) (listing m v) (remove key))
      less-left =
          rw (accepted m v t bytes, remove-left (leb (length key) 256) (stored m key) less m)
          (go (leb (length key) 256) (stored m key) (lookup bytewise key (listing m v)) (stored-lookup m v t.forest bytes key b) rest
          (delete-missing key (listing m v)))
        where
          go : (short there : Bool) (found : Option ℕ) → there ≡ is_some found
              → (there ≡ true → Lists less (delete bytewise key (listing m v)))
              → (found ≡ none → delete bytewise key (listing m v) ≡ listing m v)
              → Lists (cond short (cond there less m) m) (cond short (delete bytewise key (listing m v)) (listing m v))
          go false there found e rest same = as_it_was
          go true true found e rest same = rest refl
          go true false none e rest same = (v, t, bytes, sym (same refl))
          go true false (some x) e rest same = let z : ◌≡◌ {A = ℕ} 0 1 = cc in absurd (omega arith)

    -- without its entry
    entry_gone : stored m key ≡ true → Lists (without_entry m key) (delete bytewise key (listing m v))
    entry_gone e = let ((w, u, l), c) = remove-counted m v t bytes key b e in (w, u, c, l)

    -- and without the layers that this leaves empty
    layers-gone : stored m key ≡ true → Lists (all_given_back 31 (without_entry m key) key) (delete bytewise key (listing m v))
    layers-gone e =
        let (w, u, c, l) = entry_gone e in
        let back = all_back 31 (without_entry m key) w u c key b in
        (back.tree, back.is-tree, subst Bytes (sym back.same_bytes) c, back.same-listing ∙ l)

    remove-leaves : Lists (left m (remove key)) (map_left (room_for m (remove key)) (listing m v) (remove key))
    unfolding removed
    remove-leaves = less-left (all_given_back 31 (without_entry m key) key) layers-gone

    remove-left-before : Lists (left_before m (remove key)) (map_left (room_for m (remove key)) (listing m v) (remove key))
    unfolding removed
    remove-left-before = less-left (without_entry m key) entry_gone

    module _ (x : ℕ) where
      -- memory with the key, and one more counted
      abbrev more : Memory
      more = with_count (with m key x) (count_of m + 1)

      its-more : leb (length key) 256 ≡ true → stored m key ≡ false → has_room m key ≡ true
          → Lists more (insert bytewise key x (listing m v))
      its-more short e r = let ((w, u, l), c) = put-counted m v t bytes key b (leb-true (length key) 256 short) x e r in (w, u, c, l)

      put-leaves : Lists (left m (put key x)) (map_left (room_for m (put key x)) (listing m v) (put key x))
      unfolding put_done
      put-leaves =
          rw (
            accepted m v t bytes,
            put-left (leb (length key) 256) (stored m key) (has_cell m) (has_nodes m key) (lacking m key) (rests_in more key) more m,
          )
          (go (leb (length key) 256) (stored m key) (has_room m key) (lookup bytewise key (listing m v))
          (stored-lookup m v t.forest bytes key b) its-more)
        where
          go : (short there room : Bool) (found : Option ℕ) → there ≡ is_some found
              → (short ≡ true → there ≡ false → room ≡ true → Lists more (insert bytewise key x (listing m v)))
              → Lists (cond short (cond there m (cond room more m)) m)
              (cond short (whether (cond room (insert bytewise key x (listing m v)) (listing m v)) (λ y. listing m v) found) (listing m v))
          go false there room found e made = as_it_was
          go true true room (some y) e made = as_it_was
          go true false true none e made = made refl refl refl
          go true false false none e made = as_it_was
          go true true room none e made = let z : ◌≡◌ {A = ℕ} 0 1 = cc in absurd (omega arith)
          go true false room (some y) e made = let z : ◌≡◌ {A = ℕ} 0 1 = cc in absurd (omega arith)

  -- every call leaves what the map does
  pub leaves : (call : Call) → OfBytes call → Lists (left m call) (map_left (room_for m call) (listing m v) call)
  leaves clear b = clear-leaves m t.forest.lent
  leaves (put key x) b = put-leaves key b x
  leaves (find key) b = as_it_was
  leaves (remove key) b = remove-leaves key b
  leaves (kth k) b = as_it_was
  leaves count b = as_it_was

  -- and so it did before empty layers were given back
  pub leaves-before : (call : Call) → OfBytes call → Lists (left_before m call) (map_left (room_for m call) (listing m v) call)
  leaves-before clear b = leaves clear b
  leaves-before (put key x) b = leaves (put key x) b
  leaves-before (find key) b = as_it_was
  leaves-before (remove key) b = remove-left-before key b
  leaves-before (kth k) b = as_it_was
  leaves-before count b = as_it_was

-- any calls from before leave a tree
pub all-left-before : (m : Memory) (xs : Map) → Lists m xs → {calls : List Call} → All OfBytes calls
    → (ys : Map) × Lists (left_after_before m calls) ys
all-left-before m xs l a[] = (xs, l)
all-left-before m xs (v, t, bytes, e) (◌a∷◌ {x = call} b bs) =
    all-left-before (left_before m call) (map_left (room_for m call) (listing m v) call) (leaves-before m v t bytes call b) bs
