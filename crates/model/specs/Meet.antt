-- Where a key is, or where it would go: layer by layer, until an entry is no link.
use Rattle.std.specs.Prelude.{ℕ, zero, suc, ◌+◌, ◌*◌, Bool, cond, ◌&&◌, List, ltb, eqb, length, get_or}
use Rattle.memory_layout.specs.Numbers.{refs_from}
use Rattle.bank.specs.Bank.{slot_at}
use Rattle.order.specs.Layer.{ikey_at, class_at}
use Rattle.forest.specs.OneLeaf.{Entry}
use Rattle.forest.specs.OneLeaf.{none}
use Rattle.forest.specs.OneLeaf.{same_bytes, place_equal}
use Rattle.arena.specs.Parts.{part}
use Rattle.arena.specs.Layout.{node_start, key_start, mark_at}
use Rattle.arena.specs.Memory.{Memory}
use Rattle.forest.specs.Nodes.{entries_at, slots_at}
use Rattle.model.specs.Down.{leaf_in}
use Rattle.model.specs.declared.Met.{Met}
use Rattle.model.specs.declared.Met.TheVariants.{Stored, Conflict, Missing}

-- cell c has this key
unfoldable pub has_key : List ℕ → List ℕ → ℕ → List ℕ → Bool
has_key cells bytes c key =
    eqb (mark_at cells c) (length key + 1) && same_bytes (part bytes (key_start c) (length key)) key

-- the word of memory that holds the number of an entry: for a link, that of the root below
abbrev pub number_word : List ℕ → ℕ → ℕ → ℕ
number_word nodes leaf position = node_start leaf + refs_from + slot_at position (slots_at nodes leaf)

-- at the entry of the key's ikey and class: the layer below a link, the key itself, or another key that is longer too
unfoldable pub meet_entry : (ℕ → ℕ → ℕ → Met) → Memory → List ℕ → ℕ → ℕ → ℕ → Entry → Met
meet_entry below m key links leaf p e =
    cond (eqb e.class 10) (below (suc links) (number_word m.nodes leaf p) e.at)
    (cond (has_key m.cells m.bytes e.at key) (Stored leaf p e.at) (Conflict leaf p e.at links))

-- in the leaf that the key's ikey leads to
unfoldable pub meet_leaf : (ℕ → ℕ → ℕ → Met) → Memory → List ℕ → ℕ → ℕ → ℕ → ℕ → Met
meet_leaf below m key links holder root leaf =
    let p = place_equal (ikey_at key (8 * links)) (class_at key (8 * links)) (entries_at m.nodes leaf) in
    cond (ltb p (length (entries_at m.nodes leaf)))
    (meet_entry below m key links leaf p (get_or (entries_at m.nodes leaf) p none))
    (Missing holder root links)

-- in one layer: `holder` is the word of memory that holds its root's number
abbrev pub meet_one : (ℕ → ℕ → ℕ → Met) → Memory → List ℕ → ℕ → ℕ → ℕ → Met
meet_one below m key links holder root =
    meet_leaf below m key links holder root (leaf_in m.nodes root (ikey_at key (8 * links)))

-- from a layer down, below which l links more may follow
unfoldable pub meet : ℕ → Memory → List ℕ → ℕ → ℕ → ℕ → Met
meet zero m key links holder root = meet_one (λ links holder root. Missing holder root links) m key links holder root
meet (suc l) m key links holder root = meet_one (meet l m key) m key links holder root
