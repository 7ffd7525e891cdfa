-- Empty layers given back (document 02, A14): where a removed key is missing now, its layer may be one empty leaf. Its node is freed, and
-- the link to it goes; then the same is asked of the layer above.
use Rattle.std.specs.Prelude.{ℕ, zero, suc, ◌-◌, ◌*◌, ◌/◌, ◌%◌, Bool, false, cond, ◌&&◌, List, ltb, eqb}
use Rattle.memory_layout.specs.Numbers.{header_words, node_words}
use Rattle.order.specs.Layer.{ikey_at, class_at}
use Rattle.forest.specs.OneLeaf.{place_equal}
use Rattle.arena.specs.Layout.{word_at, root_of, freed_node}
use Rattle.arena.specs.Memory.{Memory, memory}
use Rattle.forest.specs.Nodes.{entries_at}
use Rattle.model.specs.declared.Met.{Met}
use Rattle.model.specs.declared.Met.TheVariants.{Stored, Conflict, Missing}
use Rattle.model.specs.Meet.{meet}
use Rattle.model.specs.Leaves.{entry_taken}

-- the node in which a word of memory stands
abbrev pub node_of_word : ℕ → ℕ
node_of_word word = (word - header_words) / node_words

-- node n is a leaf without entries
unfoldable pub empty_leaf : List ℕ → ℕ → Bool
empty_leaf nodes n = eqb (word_at nodes n 0) 1 && eqb (word_at nodes n 1 % 16) 0

-- the position, in a leaf of the layer above, of the link by which the key comes to a layer so many links down
abbrev pub link_place : List ℕ → List ℕ → ℕ → ℕ → ℕ
link_place nodes key leaf links =
    place_equal (ikey_at key (8 * (links - 1))) (class_at key (8 * (links - 1))) (entries_at nodes leaf)

-- The layer with this root is below the first, and one empty leaf. `holder` is the word that holds the root's number: the leaf in which
-- it stands has the key's link.
unfoldable pub empty_layer : List ℕ → List ℕ → ℕ → ℕ → ℕ → Bool
empty_layer nodes key holder root links =
    ltb 0 links
    && (empty_leaf nodes root
    && (ltb 1 holder
    && ltb (link_place nodes key (node_of_word holder) links) (word_at nodes (node_of_word holder) 1 % 16)))

-- the nodes without that layer: the entry of its link is taken out of the leaf above, as by a removal, and its node is free
unfoldable pub without_layer : List ℕ → List ℕ → ℕ → ℕ → ℕ → List ℕ
without_layer nodes key holder root links =
    freed_node (entry_taken nodes (node_of_word holder) (link_place nodes key (node_of_word holder) links)) root

-- the key is missing at this place, and its layer is empty
abbrev pub to_give_back : List ℕ → List ℕ → Met → Bool
to_give_back nodes key (Stored leaf position cell) = false
to_give_back nodes key (Conflict leaf position cell links) = false
to_give_back nodes key (Missing holder root links) = empty_layer nodes key holder root links

-- the nodes without the layer where the key is missing
abbrev pub nodes_given_back : List ℕ → List ℕ → Met → List ℕ
nodes_given_back nodes key (Stored leaf position cell) = nodes
nodes_given_back nodes key (Conflict leaf position cell links) = nodes
nodes_given_back nodes key (Missing holder root links) = without_layer nodes key holder root links

-- one step: memory without that layer
abbrev pub given_back : Memory → List ℕ → Met → Memory
given_back m key o = memory (nodes_given_back m.nodes key o) m.cells m.bytes

-- step after step upward, while the layer where the key is missing is empty, and so many steps at most
unfoldable pub all_given_back : ℕ → Memory → List ℕ → Memory
all_given_back zero m key = m
all_given_back (suc steps) m key =
    let o = meet 31 m key 0 0 (root_of m.nodes) in
    cond (to_give_back m.nodes key o) (all_given_back steps (given_back m key o) key) m
