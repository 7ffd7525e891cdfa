-- A leaf: a slot word of width 15 and fifteen entries. Its entries in order, and what document 01 asks of them.
use Prim.Native.Nat.{ℕ, ◌-◌, Ordering}
use Rattle.std.specs.Prelude.{Bool, true, false, ◌&&◌, ◌||◌, List, [], ◌∷◌, ◌++◌, map, leb, eqb, length, get_or, take, replicate}
use Rattle.bank.specs.Bank.{Bank}
use Rattle.nibbles.specs.Words.{bank_of}
use Rattle.order.specs.Layer.{class_of, at_layer}
use Rattle.leaf_entries.specs.declared.Entry.{Entry}
use Rattle.lent_cells.specs.Cells.{cell_right}
use Rattle.leaf_entries.specs.Lists.{every}

-- what stands past the end of the entries
abbrev pub none : Entry
none = record { ikey = 0; class = 0; at = 0 }

-- the slots in use, in order
abbrev pub slots_in_use : Bank → List ℕ
slots_in_use b = take b.size b.slots

-- the view of a leaf: its entries in order, whatever holds the bank of its slots
unfoldable pub viewed : Bank → List Entry → List Entry
viewed b entries = map (λ slot. get_or entries slot none) (slots_in_use b)

-- the bank of a leaf's slot word
abbrev pub slots_of : ℕ → Bank
slots_of word = bank_of 15 word

-- the entries of a leaf in order
abbrev pub entries_in_order : ℕ → List Entry → List Entry
entries_in_order word entries = viewed (slots_of word) entries

-- fifteen entries: these in slots 0, 1, .., and nothing in the rest
abbrev pub laid : List Entry → List Entry
laid es = es ++ replicate (15 - length es) none

-- the class of an entry for the order: a length of 0 to 8, or 9 for longer, stored whole or a link
abbrev pub rank : Entry → ℕ
rank e = class_of e.class

-- an ikey and a class against an entry, at one layer: ikey, then length 0 to 8, then longer
abbrev pub against : ℕ → ℕ → Entry → Ordering
against ikey class e = at_layer ikey class e.ikey (rank e)

-- a comparison that says less
abbrev pub is_less : Ordering → Bool
is_less Ordering.lt = true
is_less Ordering.eq = false
is_less Ordering.gt = false

-- the first entry is less than the second
abbrev pub less : Entry → Entry → Bool
less e d = is_less (against e.ikey (rank e) d)

-- an entry is less than the first of those that follow it, if any does
abbrev pub less_than_first : Entry → List Entry → Bool
less_than_first e [] = true
less_than_first e (d ∷ es) = less e d

-- strictly rising by (ikey, class)
unfoldable pub rising : List Entry → Bool
rising [] = true
rising (e ∷ es) = less_than_first e es && rising es

-- an entry of the kind that a leaf holds: a length of 0 to 8 or longer (9) with a cell, or a link (10)
unfoldable pub of_kind : List ℕ → Entry → Bool
of_kind cells e = leb e.class 10 && (eqb e.class 10 || cell_right cells e.at)

-- entries in order as a leaf holds them
unfoldable pub good_entries : List ℕ → List Entry → Bool
good_entries cells es = every (of_kind cells) es && rising es
