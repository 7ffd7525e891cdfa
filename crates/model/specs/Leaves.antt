-- A leaf of lent memory with an entry less, or with an entry more: in one node, or in two; and how many slots rest where that entry is.
use Rattle.std.specs.Prelude.{ℕ, ◌+◌, ◌-◌, cond, List, ◌∷◌, ◌++◌, map, ltb, length, get_or, set, take, drop}
use Rattle.memory_layout.specs.Numbers.{ikeys_from, classes_from, refs_from}
use Rattle.bank.specs.Bank.{slot_at, inserted_from_back}
use Rattle.bank.specs.Calls.{remove}
use Rattle.nibbles.specs.Words.{word_of}
use Rattle.forest.specs.OneLeaf.{changed, made_sorted}
use Rattle.forest.specs.OneLeaf.{Entry}
use Rattle.forest.specs.OneLeaf.{none, rank}
use Rattle.forest.specs.OneLeaf.{place_greater}
use Rattle.forest.specs.OneLeaf.{ikey_of, cut_of}
use Rattle.lent_nodes.specs.declared.inside.Leaf.{Leaf}
use Rattle.arena.specs.Parts.{zeros}
use Rattle.arena.specs.Layout.{node_start, word_at, put_leaf}
use Rattle.arena.specs.Free.{free_nodes}
use Rattle.forest.specs.Nodes.{entry_at, entries_at, slots_at}
use Rattle.model.specs.declared.Grown.{Grown}
use Rattle.model.specs.declared.Grown.TheVariants.{One, Two}

-- the lowest free node
abbrev pub fresh_node : List ℕ → ℕ → ℕ
fresh_node nodes count = get_or (free_nodes nodes count) 0 0

-- leaf k with another slot word
abbrev pub word_put : List ℕ → ℕ → ℕ → List ℕ
word_put nodes k word = set nodes (node_start k + 1) word

-- the three numbers of an entry in a slot of node k
unfoldable pub entry_put : List ℕ → ℕ → ℕ → Entry → List ℕ
entry_put nodes k slot e =
    set (set (set nodes (node_start k + ikeys_from + slot) e.ikey) (node_start k + classes_from + slot) e.class)
    (node_start k + refs_from + slot) e.at

-- an entry less: the word is what `remove` at its position hands back, and its slot is zeroed
unfoldable pub entry_taken : List ℕ → ℕ → ℕ → List ℕ
entry_taken nodes k p =
    entry_put (word_put nodes k (get_or (changed 15 (word_at nodes k 1) (remove p)).values 0 0)) k (slot_at p (slots_at nodes k)) none

-- a leaf with these entries in slots 0, 1, .., its word by `make_sorted`; places not in use are zero
unfoldable pub leaf_with : List Entry → Leaf
leaf_with es =
    record {
      word = get_or (made_sorted 15 (length es)).values 0 0;
      ikeys = map (λ e. e.ikey) es ++ zeros (15 - length es);
      classes = map (λ e. e.class) es ++ zeros (15 - length es);
      refs = map (λ e. e.at) es ++ zeros (15 - length es);
    }

-- the entries at all fifteen positions
unfoldable pub fifteen_at : List ℕ → ℕ → List Entry
fifteen_at nodes k = map (entry_at nodes k) (slots_at nodes k).slots

-- sixteen entries in two leaves: the left half keeps its number, the right half takes the lowest free one
unfoldable pub leaf_split : List ℕ → ℕ → ℕ → List Entry → List ℕ × Grown
leaf_split nodes count k es = (
  put_leaf (put_leaf nodes k (leaf_with (take (cut_of es) es))) (fresh_node nodes count) (leaf_with (drop (cut_of es) es)),
  Two (ikey_of es (cut_of es)) (fresh_node nodes count),
)

-- an entry more at a position: where a slot is free, the one at the back is put to use there, as `insert_from_back` does; a full leaf
-- is split
unfoldable pub entry_added : List ℕ → ℕ → ℕ → ℕ → Entry → List ℕ × Grown
entry_added nodes count k p e =
    cond (ltb (slots_at nodes k).size 15)
    (entry_put (word_put nodes k (word_of (inserted_from_back p (slots_at nodes k)))) k (slot_at 14 (slots_at nodes k)) e, One)
    (leaf_split nodes count k (take p (fifteen_at nodes k) ++ e ∷ drop p (fifteen_at nodes k)))

-- an entry more, where it belongs
unfoldable pub leaf_grown : List ℕ → ℕ → ℕ → Entry → List ℕ × Grown
leaf_grown nodes count k e = entry_added nodes count k (place_greater e.ikey (rank e) (entries_at nodes k)) e

-- ---- how many slots rest

-- so many slots rest in a leaf with so many entries: it has 15
abbrev pub rest_of : ℕ → ℕ
rest_of size = 15 - size

-- of sixteen entries in two leaves, the half in which an entry with this ikey is: the left one, where the right one begins above it
unfoldable pub half_for : List Entry → ℕ → List Entry
half_for es ikey = cond (ltb ikey (ikey_of es (cut_of es))) (take (cut_of es) es) (drop (cut_of es) es)

-- an entry more at a position: how many slots rest in the leaf with one entry more, or in the half in which the entry is
unfoldable pub entry_rests : List ℕ → ℕ → ℕ → Entry → ℕ
entry_rests nodes k p e =
    cond (ltb (slots_at nodes k).size 15) (rest_of ((slots_at nodes k).size + 1))
    (rest_of (length (half_for (take p (fifteen_at nodes k) ++ e ∷ drop p (fifteen_at nodes k)) e.ikey)))

-- an entry more, where it belongs
unfoldable pub leaf_rests : List ℕ → ℕ → Entry → ℕ
leaf_rests nodes k e = entry_rests nodes k (place_greater e.ikey (rank e) (entries_at nodes k)) e
