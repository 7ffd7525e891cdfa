-- The count after any calls: accepted puts less accepted removals since the last clear. Assumes nothing.
use mathlib.Core.Path.{◌≡◌, refl, sym, ap, ◌∙◌, subst}
use mathlib.Core.Bool.{Bool, true, false, cond, ◌&&◌}
use mathlib.Core.List.{List, [], ◌∷◌}
use mathlib.Core.Option.{Option, none, some}
use Prim.Native.Nat.{ℕ, suc, ◌+◌, ◌≤◌}
use native.Mathlib.Omega.{arith}
use lib.Dec.{leb}
use lib.ListN.{length}
use Rattle.order.specs.Bytes.{bytewise}
use Rattle.order.specs.Map.{Map, All, a[], ◌a∷◌, lookup, insert, delete}
use Rattle.arena.specs.Memory.{Memory, emptied}
use Rattle.model.specs.Calls.{count_of}
use Rattle.index_counted.proofs.Kept.{length-insert, length-delete}
use Rattle.as_map.specs.Calls.{Call, clear, put, find, remove, kth, count, OfBytes, Heard, done, counted, refusal, refused}
use Rattle.as_map.specs.Calls.{heard, left, left_after, answers, Room, is_cell_free, nodes_enough, nodes_lacking, room_for, rooms}
use Rattle.as_map.specs.Map.{whether, map_says, map_left, map_after}
use Rattle.as_map.specs.Tally.{was_accepted, puts_then, removals_then, puts_since, removals_since}
use Rattle.as_map.proofs.Leaves.{Lists, cleared-lists, delete-missing}
use Rattle.as_map.proofs.After.{one-heard, one_left, all_left}

-- ---- a sorted map: entries and removals are together the puts

-- one call keeps it so
map-tallied : (room : Room) (xs : Map) (call : Call) (puts removals : ℕ) → length xs + removals ≡ puts
    → length (map_left room xs call) + removals_then removals call (map_says room xs call) ≡ puts_then puts call (map_says room xs call)
map-tallied room xs clear puts removals e = refl
map-tallied room xs (put key x) puts removals e =
    go (leb (length key) 256) (lookup bytewise key xs) (is_cell_free room) (nodes_enough room) (nodes_lacking room) (length-insert key x xs)
  where
    go : (short : Bool) (found : Option ℕ) (cell nodes : Bool) (n : ℕ)
        → (found ≡ none → length (insert bytewise key x xs) ≡ suc (length xs))
        → length (cond short (whether (cond (cell && nodes) (insert bytewise key x xs) xs) (λ y. xs) found) xs) + removals
        ≡ cond (was_accepted
        (cond short (whether (cond cell (cond nodes done (refusal 14 (n ∷ []))) (refused 13)) (λ y. refused 11) found) (refused 7)))
        (suc puts) puts
    go true none true true n more = omega (arith, more refl)
    go true none true false n more = e
    go true none false nodes n more = e
    go true (some y) cell nodes n more = e
    go false found cell nodes n more = e
map-tallied room xs (find key) puts removals e = e
map-tallied room xs (remove key) puts removals e =
    go (leb (length key) 256) (lookup bytewise key xs) (delete-missing key xs) (λ y. length-delete key y xs)
  where
    go : (short : Bool) (found : Option ℕ) → (found ≡ none → delete bytewise key xs ≡ xs)
        → ((y : ℕ) → found ≡ some y → suc (length (delete bytewise key xs)) ≡ length xs)
        → length (cond short (delete bytewise key xs) xs)
        + cond (was_accepted (cond short (whether (refused 12) (λ y. done) found) (refused 7))) (suc removals) removals
        ≡ puts
    go true none same less = omega (arith, ap length (same refl))
    go true (some y) same less = omega (arith, less y refl)
    go false found same less = e
map-tallied room xs (kth k) puts removals e = e
map-tallied room xs count puts removals e = e

-- ---- one call after the other

all-tallied : (m : Memory) (xs : Map) → Lists m xs → {calls : List Call} → All OfBytes calls → (puts removals : ℕ)
    → length xs + removals ≡ puts
    → length (map_after (rooms m calls) xs calls) + removals_since removals calls (answers m calls) ≡ puts_since puts calls (answers m calls)
all-tallied m xs l a[] puts removals e = e
all-tallied m xs l (◌a∷◌ {x = call} b rest) puts removals e =
    all-tallied (left m call) (map_left (room_for m call) xs call) (one_left m xs l call b) rest
    (puts_then puts call (heard m call)) (removals_then removals call (heard m call))
    (subst (λ (h : Heard). length (map_left (room_for m call) xs call) + removals_then removals call h ≡ puts_then puts call h)
    (sym (one-heard m xs l call b)) (map-tallied (room_for m call) xs call puts removals e))

-- ---- after a clear

module _ (n c : ℕ) (n-low : 1 ≤ n) (n-high : n ≤ 255) (c-low : 1 ≤ c) (c-high : c ≤ 255) {calls : List Call}
    (of-bytes : All OfBytes calls) where
  empty : Lists (emptied n c) []
  empty = cleared-lists n c n-low n-high c-low c-high

  count-listed : count_of (left_after (emptied n c) calls) ≡ length (map_after (rooms (emptied n c) calls) [] calls)
  count-listed = let (v, t, b, e) = all_left (emptied n c) [] empty of-bytes in t.counted ∙ ap length e

  -- with the accepted removals, the count is the accepted puts
  pub count-of-calls : count_of (left_after (emptied n c) calls) + removals_since 0 calls (answers (emptied n c) calls)
      ≡ puts_since 0 calls (answers (emptied n c) calls)
  count-of-calls = omega (arith, count-listed, all-tallied (emptied n c) [] empty of-bytes 0 0 refl)

  -- and `count` tells it
  pub count-heard : heard (left_after (emptied n c) calls) count ≡ counted (count_of (left_after (emptied n c) calls))
  count-heard =
      one-heard (left_after (emptied n c) calls) (map_after (rooms (emptied n c) calls) [] calls)
      (all_left (emptied n c) [] empty of-bytes) count tt
      ∙ ap counted (sym count-listed)
