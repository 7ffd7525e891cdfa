-- Nodes in lent memory: what stands in one, and the rules by which a leaf or an internode is judged alone.
use Rattle.std.specs.Prelude.{ℕ, ◌+◌, ◌-◌, Bool, true, false, ◌&&◌, List, map, leb, eqb, drop}
use Rattle.memory_layout.specs.Numbers.{ikeys_from, classes_from, refs_from, children_from}
use Rattle.bank.specs.Bank.{Bank}
use Rattle.nibbles.specs.Words.{valid_word}
use Rattle.internode.specs.Lists as internode
use Rattle.leaf.specs.Entries.{Entry}
use Rattle.leaf.specs.Lists.{every}
use Rattle.leaf.specs.Leaf.{slots_in_use, slots_of, rising}
use Rattle.arena.specs.Parts.{part}
use Rattle.arena.specs.Layout.{node_start, node_at, word_at, kind_at}

-- nothing but zeros
abbrev pub all_zero : List ℕ → Bool
all_zero xs = every (λ x. eqb x 0) xs

-- ---- leaves

-- the entry in slot s of node k: its ikey, class and number, from the three columns
abbrev pub entry_at : List ℕ → ℕ → ℕ → Entry
entry_at nodes k s =
    record { ikey = word_at nodes k (ikeys_from + s); class = word_at nodes k (classes_from + s); at = word_at nodes k (refs_from + s) }

-- the slots that are not in use
abbrev pub not_in_use : Bank → List ℕ
not_in_use b = drop b.size b.slots

-- the slots of leaf k
abbrev pub slots_at : List ℕ → ℕ → Bank
slots_at nodes k = slots_of (word_at nodes k 1)

-- the entries of leaf k, in order
unfoldable pub entries_at : List ℕ → ℕ → List Entry
entries_at nodes k = map (entry_at nodes k) (slots_in_use (slots_at nodes k))

-- what stands in its other slots
unfoldable pub rest_at : List ℕ → ℕ → List Entry
rest_at nodes k = map (entry_at nodes k) (not_in_use (slots_at nodes k))

-- an entry of a leaf: a length of 0 to 8 or longer (9) with a cell, or longer with a link (10)
abbrev pub of_class : Entry → Bool
of_class e = leb e.class 10

-- an entry of zeros
abbrev pub is_zero : Entry → Bool
is_zero e = eqb e.ikey 0 && (eqb e.class 0 && eqb e.at 0)

-- a leaf: its word is valid at width 15, its entries are strictly rising by ikey and class, and places not in use are zero
unfoldable pub leaf_right : List ℕ → ℕ → Bool
leaf_right nodes k =
    eqb (kind_at nodes k) 1
    && (valid_word 15 (word_at nodes k 1)
    && (every of_class (entries_at nodes k) && (rising (entries_at nodes k) && every is_zero (rest_at nodes k))))

-- ---- internodes

-- how many ikeys internode k has
abbrev pub count_at : List ℕ → ℕ → ℕ
count_at nodes k = word_at nodes k 1

-- its ikeys
unfoldable pub ikeys_at : List ℕ → ℕ → List ℕ
ikeys_at nodes k = part nodes (node_start k + 2) (count_at nodes k)

-- its children, one more than its ikeys
unfoldable pub children_at : List ℕ → ℕ → List ℕ
children_at nodes k = part nodes (node_start k + children_from) (count_at nodes k + 1)

-- an internode: 0 to 15 strictly rising ikeys and one child more, and places not in use are zero
unfoldable pub internode_right : List ℕ → ℕ → Bool
internode_right nodes k =
    eqb (kind_at nodes k) 2
    && (leb (count_at nodes k) 15
    && (internode.rising (ikeys_at nodes k)
    && (all_zero (part nodes (node_start k + 2 + count_at nodes k) (15 - count_at nodes k))
    && all_zero (part nodes (node_start k + 18 + count_at nodes k) (29 - count_at nodes k)))))

-- a free node: 47 zeros
unfoldable pub node_free : List ℕ → ℕ → Bool
node_free nodes k = all_zero (node_at nodes k)
