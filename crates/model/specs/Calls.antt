-- What each call of the index answers, and what it leaves in lent memory.
use Rattle.std.specs.Prelude.{ℕ, suc, ◌+◌, ◌-◌, Bool, true, false, cond, not, ◌&&◌, List, [], ◌∷◌, leb, ltb, eqb, length, get_or, set}
use Rattle.memory_layout.specs.Numbers.{classes_from, cell_bytes, most_lent}
use Rattle.refusal.specs.Answer.{Answer, Rule, ◌unless◌, ◌telling◌, answered}
use Rattle.arena.specs.Layout.{node_start, root_of, mark_at, frame_at, key_at, put_cell, put_key, freed_cell, freed_key}
use Rattle.arena.specs.Free.{free_nodes, free_cells}
use Rattle.arena.specs.Memory.{Memory, memory, node_count, cell_count, right_lengths, Did, did}
use Rattle.bank.specs.Bank.{slot_at}
use Rattle.order.specs.Layer.{ikey_at}
pub use Rattle.forest.specs.Count.{count_of}
use Rattle.forest.specs.Nodes.{slots_at}
use Rattle.forest.specs.Walk.{height_at, is_tree}
use Rattle.model.specs.declared.Met.{Met}
use Rattle.model.specs.declared.Met.TheVariants.{Stored, Conflict, Missing}
use Rattle.model.specs.Meet.{meet, number_word}
use Rattle.model.specs.Listed.{cells_of_layer}
use Rattle.model.specs.Leaves.{entry_taken, rest_of}
use Rattle.model.specs.GivenBack.{all_given_back}
use Rattle.model.specs.Needed.{need_in, layers_of}
use Rattle.model.specs.Grow.{Label, entry_for, layer_grown, layer_rests, layers_grown}

-- how many nodes are lent
abbrev pub nodes_of : Memory → ℕ
nodes_of m = node_count (length m.nodes)

-- how many cells are lent
abbrev pub cells_of : Memory → ℕ
cells_of m = cell_count (length m.cells)

-- where the key is, from the root down
abbrev pub place : Memory → List ℕ → Met
place m key = meet 31 m key 0 0 (root_of m.nodes)

-- the place of a stored key
abbrev pub is_stored : Met → Bool
is_stored (Stored leaf position cell) = true
is_stored (Conflict leaf position cell links) = false
is_stored (Missing holder root links) = false

-- the key is stored
abbrev pub stored : Memory → List ℕ → Bool
stored m key = is_stored (place m key)

-- refusals 7 and 10, of every call with a key
abbrev pub key_rules : Memory → List ℕ → List Rule → List Rule
key_rules m key rules = (7 unless leb (length key) cell_bytes) ∷ (10 unless is_tree m) ∷ rules

-- ---- find

-- the frame numbers of a place: that of its cell, where the key is stored
abbrev pub frame_of : Memory → Met → List ℕ
frame_of m (Stored leaf position cell) = frame_at m.cells cell ∷ []
frame_of m (Conflict leaf position cell links) = []
frame_of m (Missing holder root links) = []

-- find: 12 unless the key is stored; its frame number
unfoldable pub find_said : Memory → List ℕ → Answer
find_said m key = answered (key_rules m key ((12 unless stored m key) ∷ [])) (frame_of m (place m key)) []

-- ---- k-th

-- the cells, in key order
abbrev pub in_key_order : Memory → List ℕ
in_key_order m = cells_of_layer 31 m.nodes (root_of m.nodes)

-- a cell, the length of its key, and its frame number
abbrev pub entry_of : Memory → ℕ → List ℕ
entry_of m c = c ∷ (mark_at m.cells c - 1) ∷ frame_at m.cells c ∷ []

-- k-th: 12 unless k is below the number stored
unfoldable pub kth_said : Memory → ℕ → Answer
kth_said m k =
    answered ((10 unless is_tree m) ∷ (12 unless ltb k (length (in_key_order m))) ∷ []) (entry_of m (get_or (in_key_order m) k 0)) []

-- ---- the count of entries

-- count: the number as it is stored; 10 for wrong lent lengths only
unfoldable pub count_said : Memory → Answer
count_said m =
    answered ((10 unless right_lengths (length m.nodes) (length m.cells) (length m.bytes)) ∷ []) (count_of m ∷ []) []

-- memory with another number of entries stored
abbrev pub with_count : Memory → ℕ → Memory
with_count m n = memory (set m.nodes 1 n) m.cells m.bytes

-- ---- remove

-- memory without the entry at a place, and its cell free
abbrev pub without : Memory → Met → Memory
without m (Stored leaf position cell) =
    memory (entry_taken m.nodes leaf position) (freed_cell m.cells cell) (freed_key m.bytes cell)
without m (Conflict leaf position cell links) = m
without m (Missing holder root links) = m

-- memory after an accepted call; a refused one leaves it as it was
abbrev pub when_accepted : Answer → Memory → Memory → Memory
when_accepted a after before = cond (eqb a.number 0) after before

-- remove: 12 unless the key is stored
abbrev pub remove_said : Memory → List ℕ → Answer
remove_said m key = answered (key_rules m key ((12 unless stored m key) ∷ [])) [] []

-- memory without a stored key: without its entry, and one less counted
abbrev pub without_entry : Memory → List ℕ → Memory
without_entry m key = with_count (without m (place m key)) (count_of m - 1)

-- what remove answers, and the memory that it leaves: without the entry, and the layers given back that this leaves empty, from the key's
-- own upward; no key has more than 31 links
unfoldable pub removed : Memory → List ℕ → Did
removed m key = did (remove_said m key) (when_accepted (remove_said m key) (all_given_back 31 (without_entry m key) key) m)

-- ---- put

-- the nodes that a put needs at a place
abbrev pub needed_at : Memory → List ℕ → Met → ℕ
needed_at m key (Stored leaf position cell) = 0
needed_at m key (Conflict leaf position cell links) =
    layers_of (31 - suc links) key (key_at m.cells m.bytes cell) (suc links)
needed_at m key (Missing holder root links) =
    need_in m.nodes (height_at m.nodes 255 root) root (entry_for key 0 links).ikey 1

-- the nodes that a put of this key needs
abbrev pub needed : Memory → List ℕ → ℕ
needed m key = needed_at m key (place m key)

-- a cell is free
abbrev pub has_cell : Memory → Bool
has_cell m = leb 1 (length (free_cells m.cells (cells_of m)))

-- as many nodes are free as a put of this key needs
abbrev pub has_nodes : Memory → List ℕ → Bool
has_nodes m key = leb (needed m key) (length (free_nodes m.nodes (nodes_of m)))

-- a cell is free, and nodes enough are
abbrev pub has_room : Memory → List ℕ → Bool
has_room m key = has_cell m && has_nodes m key

-- the nodes that a put of this key lacks: those that it needs less those that are free
abbrev pub lacking : Memory → List ℕ → ℕ
lacking m key = needed m key - length (free_nodes m.nodes (nodes_of m))

-- the lowest free cell
abbrev pub fresh_cell : Memory → ℕ
fresh_cell m = get_or (free_cells m.cells (cells_of m)) 0 0

-- the nodes with the key's entry at a place: a conflict turns the entry there into a link
abbrev pub nodes_with : Memory → List ℕ → ℕ → Met → List ℕ
nodes_with m key c (Stored leaf position cell) = m.nodes
nodes_with m key c (Conflict leaf position cell links) =
    layers_grown (31 - suc links)
    (set m.nodes (node_start leaf + classes_from + slot_at position (slots_at m.nodes leaf)) 10)
    (nodes_of m)
    (number_word m.nodes leaf position)
    (record { key = key; cell = c })
    (record { key = key_at m.cells m.bytes cell; cell = cell })
    (suc links)
nodes_with m key c (Missing holder root links) =
    layer_grown m.nodes (nodes_of m) holder root (entry_for key c links)

-- memory with a new key and its frame number
abbrev pub with : Memory → List ℕ → ℕ → Memory
with m key frame =
    memory (nodes_with m key (fresh_cell m) (place m key))
    (put_cell m.cells (fresh_cell m) (length key) frame)
    (put_key m.bytes (fresh_cell m) key)

-- and one entry more counted
abbrev pub with_entry : Memory → List ℕ → ℕ → Memory
with_entry m key frame = with_count (with m key frame) (count_of m + 1)

-- how many slots rest in the leaf of a stored key
abbrev pub rests_at : Memory → Met → List ℕ
rests_at m (Stored leaf position cell) = rest_of (slots_at m.nodes leaf).size ∷ []
rests_at m (Conflict leaf position cell links) = []
rests_at m (Missing holder root links) = []

-- how many slots rest in the leaf where the key stands
abbrev pub rests_in : Memory → List ℕ → List ℕ
rests_in m key = rests_at m (place m key)

-- the same before the put, as it is passed up from the leaf that the entry goes into: after a conflict, a new leaf has two
abbrev pub rests_passed : Memory → List ℕ → Met → ℕ
rests_passed m key (Stored leaf position cell) = 0
rests_passed m key (Conflict leaf position cell links) = rest_of 2
rests_passed m key (Missing holder root links) = layer_rests m.nodes (nodes_of m) root (entry_for key (fresh_cell m) links)

-- refusals 11, 13 and 14, of a put: the key is stored; no cell is free; too few nodes are, with the number of nodes lacking
abbrev pub put_rules : Memory → List ℕ → List Rule
put_rules m key =
    (11 unless not (stored m key)) ∷ (13 unless has_cell m) ∷ ((14 unless has_nodes m key) telling (lacking m key ∷ [])) ∷ []

-- memory after an accepted put: with the entry, and one more counted
abbrev pub put_leaves : Answer → Memory → List ℕ → ℕ → Memory
put_leaves a m key frame = when_accepted a (with_entry m key frame) m

-- put: 7 and 10, then 11, 13 and 14; it tells how many slots rest, after it, in the leaf where the key stands
abbrev pub put_said : Memory → List ℕ → ℕ → Answer
put_said m key frame = answered (key_rules m key (put_rules m key)) (rests_in (with_entry m key frame) key) []

-- what put answers, and the memory that it leaves
unfoldable pub put_done : Memory → List ℕ → ℕ → Did
put_done m key frame = did (put_said m key frame) (put_leaves (put_said m key frame) m key frame)

-- a put on lent memory of right lengths, with a key of 256 bytes at most, that judges of memory its count alone: 10 where that is over
-- 255, then 11, 13 and 14; it tells the number that is passed up
abbrev pub lent_said : Memory → List ℕ → Answer
lent_said m key = answered ((10 unless leb (count_of m) most_lent) ∷ put_rules m key) (rests_passed m key (place m key) ∷ []) []

-- what it answers, and the memory that it leaves: where memory is a tree, those of put
unfoldable pub put_lent : Memory → List ℕ → ℕ → Did
put_lent m key frame = did (lent_said m key) (put_leaves (lent_said m key) m key frame)
