-- The index is a sorted map: what its caller hears after a clear, in the statements that an auditor reads.
use mathlib.Core.Path.{◌≡◌, refl, sym, ap, ◌∙◌, subst}
use mathlib.Core.Logic.{◌≢◌}
use mathlib.Core.List.{List, []}
use mathlib.Core.Option.{some}
use Prim.Native.Nat.{ℕ, ◌≤◌}
use lib.Dec.{T}
use lib.ListN.{length}
use Rattle.order.specs.Map as order
use Rattle.order.specs.Map.{Map, All, Rising}
use Rattle.order.proofs.Lookup.{kth-none}
use Rattle.arena.specs.Memory.{Memory, emptied}
use Rattle.forest.specs.Walk.{is_tree}
use Rattle.forest.specs.IsTree.{Layers, IsTree, listing}
use Rattle.forest.proofs.Accepts.{tree-accepted}
use Rattle.forest.proofs.One.{tree-one}
use Rattle.places.proofs.Found.{listing-rises}
use Rattle.as_map.specs.Calls.{Call, kth, OfBytes, entry, refusal, refused, heard, left_after, left_after_before}
use Rattle.as_map.specs.Calls.{room_for, rooms, answers}
use Rattle.as_map.specs.Map.{whether, map_says, map_answers, map_after}
use Rattle.as_map.proofs.Leaves.{Lists, cleared-lists, all-left-before}
use Rattle.as_map.proofs.After.{one-heard, all-heard, all_left, all-not-10}

-- ---- what is heard

-- after a clear, every list of calls hears what a sorted map says
pub index-is-map : (n c : ℕ) → 1 ≤ n → n ≤ 255 → 1 ≤ c → c ≤ 255 → {calls : List Call} → All OfBytes calls
    → answers (emptied n c) calls ≡ map_answers (rooms (emptied n c) calls) [] calls
index-is-map n c n-low n-high c-low c-high of-bytes =
    all-heard (emptied n c) [] (cleared-lists n c n-low n-high c-low c-high) of-bytes

-- ---- memory from before empty layers were given back

module _ (n c : ℕ) (n-low : 1 ≤ n) (n-high : n ≤ 255) (c-low : 1 ≤ c) (c-high : c ≤ 255) {old : List Call} (then : All OfBytes old) where
  -- it lists what it listed then
  before-lists : (ys : Map) × Lists (left_after_before (emptied n c) old) ys
  before-lists = all-left-before (emptied n c) [] (cleared-lists n c n-low n-high c-low c-high) then

  -- it is a tree
  pub before-tree : T (is_tree (left_after_before (emptied n c) old))
  before-tree = let (v, t, b, e) = before-lists.1 in tree-accepted (left_after_before (emptied n c) old) v t

  -- and calls now hear what the map of its listing says
  pub before-is-map : (v : Layers) → IsTree (left_after_before (emptied n c) old) v → {calls : List Call} → All OfBytes calls
      → answers (left_after_before (emptied n c) old) calls
      ≡ map_answers (rooms (left_after_before (emptied n c) old) calls) (listing (left_after_before (emptied n c) old) v) calls
  before-is-map v t of-bytes =
      let (w, u, b, e) = before-lists.1 in
      all-heard (left_after_before (emptied n c) old) (listing (left_after_before (emptied n c) old) v) (v, t, b, refl) of-bytes

-- ---- after a clear

module _ (n c : ℕ) (n-low : 1 ≤ n) (n-high : n ≤ 255) (c-low : 1 ≤ c) (c-high : c ≤ 255) {calls : List Call}
    (of-bytes : All OfBytes calls) where
  -- memory after these calls, and the map after them
  abbrev after : Memory
  after = left_after (emptied n c) calls

  abbrev entries : Map
  entries = map_after (rooms (emptied n c) calls) [] calls

  after-lists : Lists after entries
  after-lists = all_left (emptied n c) [] (cleared-lists n c n-low n-high c-low c-high) of-bytes

  -- whatever is called next hears what that map says
  pub next-heard : (call : Call) → OfBytes call → heard after call ≡ map_says (room_for after call) entries call
  next-heard call b = one-heard after entries after-lists call b

  -- ---- never refusal 10

  -- memory is a tree
  pub always-tree : T (is_tree after)
  always-tree = let (v, t, b, e) = after-lists in tree-accepted after v t

  -- no answer is refusal 10
  pub never-10 : All (λ h. (told : List ℕ) → h ≢ refusal 10 told) (answers (emptied n c) calls)
  never-10 =
      subst (All (λ h. (told : List ℕ) → h ≢ refusal 10 told)) (sym (index-is-map n c n-low n-high c-low c-high of-bytes))
      (all-not-10 (rooms (emptied n c) calls) [] calls)

  -- ---- the listing

  -- it is the map, of any tree that memory is
  pub listing-is-map : (v : Layers) → IsTree after v → listing after v ≡ entries
  listing-is-map v t = let (w, u, b, e) = after-lists in ap (listing after) (tree-one after v w t u) ∙ e

  -- and strictly rises by key
  pub map-rises : Rising entries
  map-rises = let (v, t, b, e) = after-lists in subst Rising e (listing-rises after v t.forest b)

  -- kth k hears its k-th entry
  pub kth-heard : (k : ℕ) (key : List ℕ) (x : ℕ) → order.kth k entries ≡ some (key, x) → heard after (kth k) ≡ entry key x
  kth-heard k key x e = next-heard (kth k) tt ∙ ap (whether (refused 12) (λ (d : List ℕ × ℕ). entry d.0 d.1)) e

  -- and 12 past the last
  pub kth-past : (k : ℕ) → length entries ≤ k → heard after (kth k) ≡ refused 12
  kth-past k h =
      next-heard (kth k) tt
      ∙ ap (whether (refused 12) (λ (d : List ℕ × ℕ). entry d.0 d.1)) (kth-none k entries h)
