-- Calls on the index, what their caller hears, and what each finds free.
use Rattle.std.specs.Prelude.{ℕ, ◌+◌, ◌-◌, ◌≤◌, ◌≡◌, Bool, cond, List, [], ◌∷◌, leb, eqb, length, get_or, drop}
use Rattle.std.proofs.Math.Option.{none}
use Rattle.refusal.specs.Answer.{Answer}
use Rattle.order.specs.Bytes.{Bytes, bytewise}
use Rattle.order.specs.Map.{lookup}
use Rattle.arena.specs.Parts.{part}
use Rattle.arena.specs.Layout.{key_start, mark_at, key_at, freed_cell, freed_key, put_cell, put_key}
use Rattle.arena.specs.Free.{free_nodes, free_cells}
use Rattle.arena.specs.Memory.{Memory, cleared}
use Rattle.forest.specs.IsTree.{Layers, listing}
use Rattle.forest.specs.Nodes.{slots_at}
use Rattle.model.specs.declared.Met.TheVariants.{Stored}
use Rattle.model.specs.Calls.{nodes_of, cells_of, place, needed, find_said, kth_said, count_said, when_accepted, without_entry, removed, put_done}
use Rattle.trees.specs.FreeNumbers.{times_in}
use Rattle.puts.specs.Needed.{needed_nodes}

-- a call, with its key and frame number, or its k
pub data Call : Type 0 where
  clear : Call
  put : List ℕ → ℕ → Call
  find remove : List ℕ → Call
  kth : ℕ → Call
  count : Call

-- what a caller hears: done, a frame number, an entry with its key and frame number, a number of entries, or a refusal, by its number and
-- the numbers that it tells
pub data Heard : Type 0 where
  done : Heard
  frame : ℕ → Heard
  entry : List ℕ → ℕ → Heard
  counted : ℕ → Heard
  refusal : ℕ → List ℕ → Heard

-- a refusal that tells nothing beside its number
abbrev pub refused : ℕ → Heard
refused n = refusal n []

-- of an answer: its number and values where it is a refusal, else what its values tell. No call of the index hands anything back, so the
-- values of a refusal are what it tells.
abbrev pub heard_of : Answer → (List ℕ → Heard) → Heard
heard_of a tell = cond (eqb a.number 0) (tell a.values) (refusal a.number a.values)

-- the k-th entry: its key are the bytes of that length in that cell
abbrev pub key_told : Memory → List ℕ → List ℕ
key_told m values = part m.bytes (key_start (get_or values 0 0)) (get_or values 1 0)

-- what the index says to a call
abbrev pub heard : Memory → Call → Heard
heard m clear = heard_of (cleared m).answer (λ values. done)
heard m (put key x) = heard_of (put_done m key x).answer (λ values. done)
heard m (find key) = heard_of (find_said m key) (λ values. frame (get_or values 0 0))
heard m (remove key) = heard_of (removed m key).answer (λ values. done)
heard m (kth k) = heard_of (kth_said m k) (λ values. entry (key_told m values) (get_or values 2 0))
heard m count = heard_of (count_said m) (λ values. counted (get_or values 0 0))

-- and the memory that it leaves
abbrev pub left : Memory → Call → Memory
left m clear = (cleared m).after
left m (put key x) = (put_done m key x).after
left m (find key) = m
left m (remove key) = (removed m key).after
left m (kth k) = m
left m count = m

-- ---- room

-- what a call finds: how many cells and nodes are free, and how many nodes it needs
pub record Room : Type 0 where
  pub cells_free : ℕ
  pub nodes-free : ℕ
  pub nodes-needed : ℕ

-- a cell is free
abbrev pub is_cell_free : Room → Bool
is_cell_free room = leb 1 room.cells_free

-- as many nodes are free as are needed
abbrev pub nodes_enough : Room → Bool
nodes_enough room = leb room.nodes-needed room.nodes-free

-- how many nodes are lacking: those needed less those free
abbrev pub nodes_lacking : Room → ℕ
nodes_lacking room = room.nodes-needed - room.nodes-free

-- the nodes that a call needs: a put what document 01 counts, every other call none
abbrev pub nodes_for : Memory → Call → ℕ
nodes_for m clear = 0
nodes_for m (put key x) = needed m key
nodes_for m (find key) = 0
nodes_for m (remove key) = 0
nodes_for m (kth k) = 0
nodes_for m count = 0

-- what this call finds
abbrev pub room_for : Memory → Call → Room
room_for m call =
    record {
      cells_free = length (free_cells m.cells (cells_of m));
      nodes-free = length (free_nodes m.nodes (nodes_of m));
      nodes-needed = nodes_for m call;
    }

-- ---- before empty layers were given back

-- the memory that a call left before document 02's A14: a removal left the layers that it emptied
abbrev pub left_before : Memory → Call → Memory
left_before m clear = left m clear
left_before m (put key x) = left m (put key x)
left_before m (find key) = m
left_before m (remove key) = when_accepted (removed m key).answer (without_entry m key) m
left_before m (kth k) = m
left_before m count = m

-- and one call after the other
abbrev pub left_after_before : Memory → List Call → Memory
left_after_before m [] = m
left_after_before m (call ∷ calls) = left_after_before (left_before m call) calls

-- ---- one call after the other

-- what the index says to one call after the other
abbrev pub answers : Memory → List Call → List Heard
answers m [] = []
answers m (call ∷ calls) = heard m call ∷ answers (left m call) calls

-- and the memory that they leave
abbrev pub left_after : Memory → List Call → Memory
left_after m [] = m
left_after m (call ∷ calls) = left_after (left m call) calls

-- and what each of them finds
abbrev pub rooms : Memory → List Call → List Room
rooms m [] = []
rooms m (call ∷ calls) = room_for m call ∷ rooms (left m call) calls

-- keys are bytes
abbrev pub OfBytes : Call → Type 0
OfBytes clear = Unit {0}
OfBytes (put key x) = Bytes key
OfBytes (find key) = Bytes key
OfBytes (remove key) = Bytes key
OfBytes (kth k) = Unit {0}
OfBytes count = Unit {0}

-- ---- what a put lacks, what it takes, and what a removal frees, where memory is the tree v

-- a put of this key lacks a cell: the key is of 256 bytes at most, it is new, and no cell is free
pub record NoCell (m : Memory) (v : Layers) (key : List ℕ) : Type 0 where
  pub short : length key ≤ 256
  pub new : lookup bytewise key (listing m v) ≡ none
  pub no_cell : free_cells m.cells (cells_of m) ≡ []

-- a put of this key lacks n nodes and nothing else: the key is of 256 bytes at most, it is new, a cell is free, n is not 0, and n nodes
-- more are needed than are free
pub record FewNodes (m : Memory) (v : Layers) (key : List ℕ) (n : ℕ) : Type 0 where
  pub short : length key ≤ 256
  pub new : lookup bytewise key (listing m v) ≡ none
  pub cell_free : 1 ≤ length (free_cells m.cells (cells_of m))
  pub not_none : 1 ≤ n
  pub lacking : length (free_nodes m.nodes (nodes_of m)) + n ≡ needed_nodes m v key

-- a put of this key with frame number x took the lowest free nodes, as many as it needs, and the lowest free cell: the key and x stand in
-- it, and every other cell is as it was
pub record Took (m : Memory) (v : Layers) (key : List ℕ) (x : ℕ) (after : Memory) : Type 0 where
  pub nodes-taken : free_nodes after.nodes (nodes_of m) ≡ drop (needed_nodes m v key) (free_nodes m.nodes (nodes_of m))
  pub cell-taken : free_cells after.cells (cells_of m) ≡ drop 1 (free_cells m.cells (cells_of m))
  pub cell-written : after.cells ≡ put_cell m.cells (get_or (free_cells m.cells (cells_of m)) 0 0) (length key) x
  pub key-written : after.bytes ≡ put_key m.bytes (get_or (free_cells m.cells (cells_of m)) 0 0) key

-- The key stands in a leaf of memory, at a position, with its cell, and n of that leaf's 15 slots rest.
pub record Resting (after : Memory) (key : List ℕ) (n : ℕ) : Type 0 where
  pub leaf : ℕ
  pub position : ℕ
  pub cell : ℕ
  pub stands : place after key ≡ Stored leaf position cell
  pub rests : (slots_at after.nodes leaf).size + n ≡ 15

-- A removal freed cell c, which had the key: its words and bytes are zero, and every other cell is as it was. Beside the nodes that were
-- free these are free, and no other: each number is that much more often among the free ones.
pub record Freed (m : Memory) (key : List ℕ) (c : ℕ) (ns : List ℕ) (after : Memory) : Type 0 where
  pub in_use : 1 ≤ mark_at m.cells c
  pub its-key : key_at m.cells m.bytes c ≡ key
  pub cell-freed : after.cells ≡ freed_cell m.cells c
  pub key-freed : after.bytes ≡ freed_key m.bytes c
  pub nodes-freed : (n : ℕ) → times_in (free_nodes after.nodes (nodes_of m)) n ≡ times_in (free_nodes m.nodes (nodes_of m)) n + times_in ns n
