-- Demand 2: keys of up to 256 bytes compare, layer by layer, as their bytes do; and after a clear the index answers any list of calls as a
-- sorted map from keys to frame numbers.
--
-- `compared_by_layers` uses the calls on keys alone, by what their contracts promise: both keys are made with `new`, compared at
-- their layer with `compare`, and while they are equal there and both longer, moved on with `shift`. `bytewise` is the plain
-- order: the first differing byte decides, else the shorter key is less. 0 stands for less, 1 for equal, 2 for greater.
use Rattle.std.specs.Prelude.{ℕ, ◌+◌, ◌≤◌, ◌≡◌, false, ◌≢◌, List, [], ◌∷◌, T, length}
use Rattle.std.proofs.Common.{sym, ap, ◌∙◌}
use Rattle.std.proofs.Math.Option.{none, some}
use Rattle.refusal.specs.Answer.{accepted}
use Rattle.order.specs.Bytes.{Bytes, bytewise}
use Rattle.ikey.specs.Said.{place, compare_keys_said}
use Rattle.key.specs.Layers.{compared_by_layers}
use Rattle.key.proofs.Layers as laws
use Rattle.order.specs.Map as map
use Rattle.order.specs.Map.{All, Rising}
use Rattle.arena.specs.Free.{free_cells}
use Rattle.arena.specs.Memory.{Memory, right_lengths, emptied}
use Rattle.forest.specs.IsTree.{Layers, IsTree, listing}
use Rattle.forest.specs.Walk.{is_tree}
use Rattle.model.specs.declared.Met.TheVariants.{Conflict}
use Rattle.model.specs.Calls as model
use Rattle.model.specs.Calls.{count_of, nodes_of, cells_of}
use Rattle.model.specs.GivenBack.{to_give_back, given_back}
use Rattle.puts.specs.Needed.{needed_nodes, lent_more}
use Rattle.index_given_back.specs.GaveBack.{missing_in, GaveBack}
use Rattle.index_given_back.proofs.Step as steps
use Rattle.as_map.specs.Calls.{Call, clear, put, remove, kth, count, done, entry, counted, refusal, refused}
use Rattle.as_map.specs.Calls.{heard, left, answers, left_after, left_after_before, OfBytes}
use Rattle.as_map.specs.Calls.{room_for, rooms, NoCell, FewNodes, Took, Resting}
use Rattle.as_map.specs.Map.{map_says, map_left, map_answers, map_after}
use Rattle.as_map.specs.Tally.{puts_since, removals_since}
use Rattle.places.proofs.Found as found
use Rattle.puts.proofs.Needed as needs
use Rattle.puts.proofs.MoreLent as more
use Rattle.as_map.proofs.Says as says
use Rattle.as_map.proofs.Leaves as leaves
use Rattle.as_map.proofs.Room as room
use Rattle.as_map.proofs.Index as index
use Rattle.as_map.proofs.Count as tally
use Rattle.index_counted.proofs.Cells as cells
use Rattle.map_loads.specs.Loads.{as_calls, NoRoom, done_each, FailsFirst, heard_as}
use Rattle.card_said.specs.Load.{read, entries_of, load_done}
use Rattle.card_said.proofs.Ruled as card

-- Layer by layer, as their bytes do.
pub keys-compare : (a b : List ℕ) → Bytes a → Bytes b → length a ≤ 256 → length b ≤ 256
    → compared_by_layers a b ≡ accepted (place (bytewise a b) ∷ [])
keys-compare a b p q h l = laws.by-layers a b h l p q

-- The comparison of two whole keys, which calls itself on the rest of both, says the same.
pub whole-keys-compare : (a b : List ℕ) → Bytes a → Bytes b → length a ≤ 256 → length b ≤ 256
    → compare_keys_said a b ≡ compared_by_layers a b
whole-keys-compare a b p q h l = sym (laws.whole-by-layers a b h l p q)

-- ---- the index
--
-- `heard m call` is what the caller of `clear`, `put`, `find`, `remove`, `kth` or `count` hears, by what their contracts promise
-- (crates/model/specs/Calls.antt), and `left m call` the memory that the call leaves; `emptied n c` is what clear leaves of n nodes and c
-- cells. `rooms m calls` is what each call finds free, and the nodes that it needs. `map_answers` and `map_after` are the same calls on a
-- sorted map from keys to frame numbers: of the memory the map is told no more than that.

-- Clear is accepted on any lent memory of right lengths, a bad one too, and leaves it empty and good, whatever stood there.
pub clears-any : (m : Memory) → T (right_lengths (length m.nodes) (length m.cells) (length m.bytes))
    → (heard m clear ≡ done) × (left m clear ≡ emptied (nodes_of m) (cells_of m))
clears-any m lent = (says.clear-says m lent, leaves.clear-left m lent)

-- After a clear, any list of calls, refused ones and clears among them, hears what a sorted map says.
pub index-is-map : (n c : ℕ) → 1 ≤ n → n ≤ 255 → 1 ≤ c → c ≤ 255 → {calls : List Call} → All OfBytes calls
    → answers (emptied n c) calls ≡ map_answers (rooms (emptied n c) calls) [] calls
index-is-map n c n-low n-high c-low c-high of-bytes = index.index-is-map n c n-low n-high c-low c-high of-bytes

module _ (n c : ℕ) (n-low : 1 ≤ n) (n-high : n ≤ 255) (c-low : 1 ≤ c) (c-high : c ≤ 255) {calls : List Call}
    (of-bytes : All OfBytes calls) where
  -- What clear and accepted calls leave is a tree by the rules,
  pub always-a-tree : T (is_tree (left_after (emptied n c) calls))
  always-a-tree = index.always-tree n c n-low n-high c-low c-high of-bytes

  -- and never gets refusal 10, whatever were told with it.
  pub never-10 : All (λ h. (told : List ℕ) → h ≢ refusal 10 told) (answers (emptied n c) calls)
  never-10 = index.never-10 n c n-low n-high c-low c-high of-bytes

  -- The listing is the whole map,
  pub listing-is-map : (v : Layers) → IsTree (left_after (emptied n c) calls) v
      → listing (left_after (emptied n c) calls) v ≡ map_after (rooms (emptied n c) calls) [] calls
  listing-is-map v t = index.listing-is-map n c n-low n-high c-low c-high of-bytes v t

  -- in the order of its keys, each once.
  pub map-rises : Rising (map_after (rooms (emptied n c) calls) [] calls)
  map-rises = index.map-rises n c n-low n-high c-low c-high of-bytes

  -- The k-th entry is the k-th of it,
  pub kth-of-map : (k : ℕ) (key : List ℕ) (x : ℕ) → map.kth k (map_after (rooms (emptied n c) calls) [] calls) ≡ some (key, x)
      → heard (left_after (emptied n c) calls) (kth k) ≡ entry key x
  kth-of-map k key x e = index.kth-heard n c n-low n-high c-low c-high of-bytes k key x e

  -- and 12 past the last.
  pub kth-past : (k : ℕ) → length (map_after (rooms (emptied n c) calls) [] calls) ≤ k
      → heard (left_after (emptied n c) calls) (kth k) ≡ refused 12
  kth-past k h = index.kth-past n c n-low n-high c-low c-high of-bytes k h

  -- ---- the count (document 02, A5): word 1 of the nodes, which document 01 keeps at zero, is the number of entries
  --
  -- Stored are accepted puts less accepted removals since the clear: with the removals, the count is the puts,
  pub count-of-calls : count_of (left_after (emptied n c) calls) + removals_since 0 calls (answers (emptied n c) calls)
      ≡ puts_since 0 calls (answers (emptied n c) calls)
  count-of-calls = tally.count-of-calls n c n-low n-high c-low c-high of-bytes

  -- and `count` tells it.
  pub count-told : heard (left_after (emptied n c) calls) count ≡ counted (count_of (left_after (emptied n c) calls))
  count-told = tally.count-heard n c n-low n-high c-low c-high of-bytes

module _ (m : Memory) (v : Layers) (t : IsTree m v) where
  -- On any tree, the count is the number of entries listed,
  pub count-is-entries : count_of m ≡ length (listing m v)
  count-is-entries = t.counted

  -- and stored cells plus free cells equal the lent cells.
  pub stored-and-free : count_of m + length (free_cells m.cells (cells_of m)) ≡ cells_of m
  stored-and-free = cells.stored-and-free m v t

-- ---- one call, on any lent memory that is a tree v, whatever was called before

module _ (m : Memory) (v : Layers) (t : IsTree m v) (bytes : Bytes m.bytes) (call : Call) (b : OfBytes call) where
  -- Any call on a tree hears what a sorted map with the entries of its listing says,
  pub one-call-says : heard m call ≡ map_says (room_for m call) (listing m v) call
  one-call-says = says.says m v t bytes call b

  -- and leaves a tree: good memory, whose listing is what that map leaves.
  pub one-call-leaves : (w : Layers) × IsTree (left m call) w × Bytes (left m call).bytes
      × (listing (left m call) w ≡ map_left (room_for m call) (listing m v) call)
  one-call-leaves = leaves.leaves m v t bytes call b

-- ---- empty layers are given back (document 02, A14)
--
-- Where document 01 lets an emptied leaf stay, a removal that empties a leaf that is the only node of a layer below the first frees that
-- node and takes the link to it away, and goes on upward while the same holds there (crates/model/specs/GivenBack.antt). What a sorted map
-- says does not change: all above keeps its text. The free nodes of `room_for`, and so those of the statements about room below, count the
-- nodes given back; which these are, exactly, is `removal-frees` of Meaning.

module _ (m : Memory) (v : Layers) (t : IsTree m v) (bytes : Bytes m.bytes) (key : List ℕ) (b : Bytes key) where
  -- One step, on any tree: where the layer in which a key is missing is empty, and below the first, memory without that layer is a tree
  -- that lists the same; its node more is free, and no other.
  pub step-gives-back : T (to_give_back m.nodes key (model.place m key))
      → GaveBack m v (missing_in (model.place m key) ∷ []) (given_back m key (model.place m key))
  step-gives-back e = (steps.step_back m v t bytes key b e).1.0

  -- A removal makes 31 such steps at most, and they are all: it leaves none to do.
  pub no-step-left : heard m (remove key) ≡ done
      → to_give_back (left m (remove key)).nodes key (model.place (left m (remove key)) key) ≡ false
  no-step-left = room.remove-none-left m v t bytes key b

-- Good memory from before stays good: what clear and any calls left then (`left_after_before`), emptied layers among it, is a tree by the
-- rules, which are the same,
module _ (n c : ℕ) (n-low : 1 ≤ n) (n-high : n ≤ 255) (c-low : 1 ≤ c) (c-high : c ≤ 255) {old : List Call} (then : All OfBytes old) where
  pub good-from-before : T (is_tree (left_after_before (emptied n c) old))
  good-from-before = index.before-tree n c n-low n-high c-low c-high then

  -- and any calls now, on that memory, hear what the sorted map of its listing says.
  pub map-from-before : (v : Layers) → IsTree (left_after_before (emptied n c) old) v → {calls : List Call} → All OfBytes calls
      → answers (left_after_before (emptied n c) old) calls
      ≡ map_answers (rooms (left_after_before (emptied n c) old) calls) (listing (left_after_before (emptied n c) old) v) calls
  map-from-before v t of-bytes = index.before-is-map n c n-low n-high c-low c-high then v t of-bytes

-- ---- room, on any lent memory that is a tree v, whatever was called before
--
-- `needed_nodes m v key` (crates/puts/specs/Needed.antt) counts the nodes as document 01 does: one per split node, one more for a new root
-- of that layer, one per new layer. It is a count on the tree and the keys in its cells alone. Document 01 gives 13 for too few cells and
-- for too few nodes; document 02 (A1) has the two apart: 13 for no free cell, 14 for too few nodes, and 13 where both hold.

module _ (m : Memory) (v : Layers) (t : IsTree m v) (bytes : Bytes m.bytes) (key : List ℕ) (b : Bytes key) (x : ℕ) where
  -- 13 is given exactly when the key is new and no cell is free.
  pub no-cell-exactly : (heard m (put key x) ≡ refused 13 → NoCell m v key) × (NoCell m v key → heard m (put key x) ≡ refused 13)
  no-cell-exactly = (room.put-no-cell m v t bytes key b x, room.no-cell-put m v t bytes key b x)

  -- 14 is given exactly when the key is new, a cell is free, and fewer nodes are free than are needed; n beside it is needed minus free.
  pub few-nodes-exactly : (n : ℕ) → (heard m (put key x) ≡ refusal 14 (n ∷ []) → FewNodes m v key n)
      × (FewNodes m v key n → heard m (put key x) ≡ refusal 14 (n ∷ []))
  few-nodes-exactly n = (room.put-few-nodes m v t bytes key b x n, room.few-nodes-put m v t bytes key b x n)

  -- An accepted put takes what is needed: the lowest free nodes, as many as that, and the lowest free cell, in which the key and its frame
  -- number stand then; all other cells are as they were.
  pub put-takes : heard m (put key x) ≡ done → Took m v key x (left m (put key x))
  put-takes e = room.put-took m v t bytes key b x e

  -- An accepted put tells how many slots rest (document 02, A7): after it the key stands in a leaf, and the number is 15 less the size of
  -- that leaf, which after a split is the half in which the entry landed.
  pub put-tells-rest : heard m (put key x) ≡ done
      → (n : ℕ) × ((model.put_done m key x).answer ≡ accepted (n ∷ [])) × Resting (left m (put key x)) key n
  put-tells-rest e = room.put-tells m v t bytes key b x e

  -- That is 13 after a conflict, which leaves two in a new leaf: the key's ikey and class were those of an entry with another key.
  pub thirteen-after-conflict : heard m (put key x) ≡ done → (leaf position cell links : ℕ)
      → model.place m key ≡ Conflict leaf position cell links → (model.put_done m key x).answer ≡ accepted (13 ∷ [])
  thirteen-after-conflict e leaf position cell links q = room.put-tells-13 m v t bytes key b x e leaf position cell links q

  module _ (short : length key ≤ 256) (new : map.lookup bytewise key (listing m v) ≡ none) where
    -- What the put counts on its one way down is that number.
    pub needed-as-said : (room_for m (put key x)).nodes-needed ≡ needed_nodes m v key
    needed-as-said =
        needs.needed-as-said m v t.forest bytes key b short (found.stored-lookup m v t.forest bytes key b ∙ ap found.is_some new)

    -- It does not depend on what is free: with more free nodes lent, memory is the same tree, and the need is the same.
    pub same-need : (k : ℕ) → nodes_of m + k ≤ 255
        → IsTree (lent_more m k) v × ((room_for (lent_more m k) (put key x)).nodes-needed ≡ (room_for m (put key x)).nodes-needed)
    same-need k few = (
      more.more-counted m v t.forest k few t.counted,
      more.same-need m v t.forest k few bytes key b short (found.stored-lookup m v t.forest bytes key b ∙ ap found.is_some new),
    )

-- So the first put after a clear is accepted, however little is lent.
pub first-put : (n c : ℕ) → 1 ≤ n → n ≤ 255 → 1 ≤ c → c ≤ 255 → (key : List ℕ) → Bytes key → length key ≤ 256 → (x : ℕ)
    → heard (emptied n c) (put key x) ≡ done
first-put n c n-low n-high c-low c-high key b short x = room.first-put n c n-low n-high c-low c-high key b short x

-- ---- an image that is read (document 02, A3) counts as a clear and its puts, or as a clear alone where a refusal empties the index
--
-- `load_done m image` is what `load` answers and leaves, by what its contract promises (crates/card_said/specs/Load.antt), and `as_calls es`
-- are a clear and a put of each entry, in order. So a list of calls with loads among them leaves what a list without leaves, and all of
-- the above holds behind it: the map, the count, a tree that never gets 10.

module _ (m : Memory) (image : List ℕ) (b : Bytes image) where
  -- Accepted, it leaves exactly what a clear and the puts of its entries leave, each put accepted, and its listing is these entries.
  pub load-counts-as : (load_done m image).answer.number ≡ 0
      → ((load_done m image).after ≡ left_after m (as_calls (entries_of (read image))))
      × (answers m (as_calls (entries_of (read image))) ≡ done_each (as_calls (entries_of (read image))))
      × ((v : Layers) → IsTree (load_done m image).after v → listing (load_done m image).after v ≡ entries_of (read image))
  load-counts-as z = card.load-counts-as m image b z

  -- Refused for want of room, it leaves what a clear leaves; 13, or 14 with its number, is what the first failing put hears behind the
  -- clear and the puts before it.
  pub load-refused-as : NoRoom (load_done m image).answer
      → ((load_done m image).after ≡ left m clear) × FailsFirst m as_calls (entries_of (read image)) (heard_as (load_done m image).answer)
  load-refused-as r = card.load-refused-as m image b r
