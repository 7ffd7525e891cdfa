-- Demand 1: bad input gets its numbered refusal, exactly under the condition that document 01 states, the lowest number where
-- several apply; a refused call hands the word, the key or the node back unchanged.
--
-- That every call ends on any input needs no statement here: each function is proved to end, and no call of the table
-- requires anything. Below, each kind of call is listed with its rules, as in document 01's table: `4 unless leb n w` gives 4 unless
-- n ≤ W. `AsRuled rules values back answer` says: where no rule applies the answer is accepted with the values; else its number
-- is the lowest that applies, and what was given comes back, behind the numbers that the refusal tells (`telling`; most tell none).
-- `KeepsMemory` adds, for calls on lent memory, that a refused call leaves every word and byte as it was.
use Prim.Native.Nat.{ℕ, ◌+◌, ◌-◌, ◌*◌, ◌/◌, ◌%◌, ◌^◌, ◌≤◌, ◌<◌, compare}
use Rattle.std.specs.Prelude.{◌≡◌, refl, ◌⊎◌, ◌≢◌, cond, not, ◌&&◌, List, [], ◌∷◌, ◌++◌, leb, ltb, eqb, length, get_or, drop, replicate}
use Rattle.std.proofs.Common.{subst, sym}
use Rattle.refusal.specs.Answer.{Rule, ◌unless◌, ◌telling◌, accepted}
use Rattle.refusal.specs.Exactly.{listed_above, AsRuled, AsListed}
use Rattle.refusal.proofs.Exactly.{as-ruled, as-listed}
use Rattle.bank.specs.Bank.{sorted}
use Rattle.bank.specs.Calls.{Change, Question, insert_from_back, change_rules, after, told_beside, question_rules, told}
use Rattle.bank.specs.Holder.{changed_in, asked_in, made_sorted_in, made_empty_in}
use Rattle.bank.proofs.Rules.{changes-listed, questions-listed}
use Rattle.nibbles.specs.Words.{bank_of, word_of, good_width, valid_word, cleared_word}
use Rattle.permuter.specs.Words.{word_rules, changed, asked, made_sorted, made_empty}
use Rattle.permuter.proofs.History as words
use Rattle.slots_sorted.specs.Table.{table}
use Rattle.slots_sorted.proofs.Table.{table-ruled}
use Rattle.wide_bytes.specs.Wide as wide
use Rattle.wide_bank.specs.Wides as wides
use Rattle.wide_bank.proofs.History as wide-words
use Rattle.ikey.specs.Said.{place}
use Rattle.order.specs.Bytes.{Bytes}
use Rattle.order.specs.Layer.{class_at}
use Rattle.internode_places.specs.declared.Internode.{Internode}
use Rattle.internode.specs.Lists.{rising, inserted_at}
use Rattle.internode.specs.Node.{keys_of, good, insert_position, child_for, inserted, numbers}
use Rattle.internode.specs.Calls.{find_said, compare_said, child_said, insert_said}
use Rattle.leaf_entries.specs.declared.Entry.{Entry}
use Rattle.leaf.specs.Search.{search_rules, outcome, search_said, given_back}
use Rattle.lent_leaf.specs.Search.{lent_search_rules, lent_search_said}
use Rattle.arena.specs.Memory.{Memory, node_count, cell_count, right_lengths, measured, Did, cleared}
use Rattle.arena.proofs.Refused.{clear-says, clear_kept}
use Rattle.forest.specs.Walk.{is_tree}
use Rattle.audit_said.specs.Audited.{audited}
use Rattle.model.specs.Calls as index
use Rattle.model.proofs.Refused.{kept-if-refused}
use Rattle.as_map.specs.Calls.{clear, left}
use Rattle.card_stream.specs.Image.{blocks_for, image_of}
use Rattle.card_said.specs.Save.{entries_in, save_done}
use Rattle.card_said.specs.Load.{whole_blocks, bad_block, checks_good, read, as_written, wrong_at, entries_of, puts_said, load_done}
use Rattle.card_said.proofs.Ruled as card

-- ---- slot words

-- Request A4 amends document 01 here: a word from outside has its bits from 4(W+1) up cleared first (`cleared_word`) and is judged after, so
-- that 2 is given exactly where the cleared word is not valid; what a valid word is stays as it was (`valid_word`). "Unchanged" is the word
-- as given, stray bits and all; the bank of a call is in the bits that are left (`bank_of`), and no accepted call leaves a stray bit.

-- Calls that hand a word back (from_value, set_size, swap_free_slots, insert_from_back, insert_first_free, remove, remove_to_back,
-- remove_slot, exchange, rotate): 1 for the width, 2 for the cleared word, then what the call needs (`change_rules`: 4, 5 and 6).
-- Request A7 amends document 01 here: beside the word an accepted insert_from_back tells the slot that it hands out and then how many
-- rest, W minus the new size, and every other call nothing (`told_beside`). Refused, the word alone comes back: no such number is told.
pub word-changes : (w word : ℕ) (c : Change)
    → AsRuled (word_rules w word (change_rules c (bank_of w word))) (word_of (after c (bank_of w word)) ∷ told_beside c (bank_of w word))
    (word ∷ []) (changed w word c)
unfolding changed_in listed_above
word-changes w word c = as-ruled (changes-listed c (bank_of w word))

-- How many rest (A7), by the word that comes back: its size, which is in its low four bits, and what is told make up the width.
pub word-rest : (w word i : ℕ) {next slot resting : ℕ} → changed w word (insert_from_back i) ≡ accepted (next ∷ slot ∷ resting ∷ [])
    → next % 16 + resting ≡ w
word-rest = words.rest-told

-- Calls that tell a number of a word (size, get, back, back_at_offset): 1, 2, then 4 (`question_rules`).
pub word-questions : (w word : ℕ) (q : Question)
    → AsRuled (word_rules w word (question_rules q (bank_of w word))) (told q (bank_of w word) ∷ []) (word ∷ []) (asked w word q)
unfolding asked_in listed_above
word-questions w word q = as-ruled (questions-listed q (bank_of w word))

-- What an accepted call hands back has no bit from 4(W+1) up.
pub no-strays : (w word : ℕ) (c : Change) {next : ℕ} (told : List ℕ) → changed w word c ≡ accepted (next ∷ told)
    → next < 2 ^ (4 * (w + 1))
no-strays = words.no-strays

-- At width 15 nothing strays: clearing is the identity, so that leaf words, nodes and the index are judged as they were.
pub none-at-15 : (word : ℕ) → cleared_word 15 word ≡ word
none-at-15 word = refl

-- Words made anew have none to hand back: 1, and `make_sorted` 4.
pub sorted-words : (w n : ℕ)
    → AsRuled ((1 unless good_width w) ∷ (4 unless leb n w) ∷ []) (word_of (sorted w n) ∷ []) [] (made_sorted w n)
unfolding made_sorted_in listed_above
sorted-words w n = as-ruled tt

-- `empty` has 1 alone.
pub empty-words : (w : ℕ) → AsRuled ((1 unless good_width w) ∷ []) (word_of (sorted w 0) ∷ []) [] (made_empty w)
unfolding made_empty_in listed_above
empty-words w = as-ruled tt

-- The sorted words stand in a table of 240, which `make_sorted` and every split answer from (A2): the entry of a width and a size is the
-- sorted word by document 01's rule, and 0 where the size exceeds the width.
pub table-of-sorted-words : (w n : ℕ) → 1 ≤ w → w ≤ 15 → n ≤ 15
    → get_or table ((w - 1) * 16 + n) 0 ≡ cond (leb n w) (word_of (sorted w n)) 0
table-of-sorted-words = table-ruled

-- ---- wide banks: 25 bytes, widths 16 to 24 (A6)

-- Calls that hand a wide bank back (from_bytes, insert_from_back, insert_first_free, remove, remove_to_back, remove_slot, exchange,
-- rotate): 1 unless the width is 16 to 24, 2 for the bank, a byte past position W-1 that is not 0 among it, then what the call needs, by
-- the same rules as for a word (`change_rules`). Accepted, the same is told beside the bank as beside a word (`told_beside`, A7); refused,
-- the bank alone comes back, byte for byte.
pub wide-changes : (w : ℕ) (bank : List ℕ) (c : Change)
    → AsRuled (wides.wide_rules w bank (change_rules c (wide.bank_of w bank)))
    (wide.bytes_of (after c (wide.bank_of w bank)) ++ told_beside c (wide.bank_of w bank)) bank (wides.changed w bank c)
unfolding changed_in listed_above
wide-changes w bank c = as-ruled (changes-listed c (wide.bank_of w bank))

-- How many rest, by the bank that comes back: its size, which is its first byte, and what is told make up the width.
pub wide-rest : (w i : ℕ) (bank next : List ℕ) (slot resting : ℕ) → length bank ≡ 25 → length next ≡ 25
    → wides.changed w bank (insert_from_back i) ≡ accepted (next ++ slot ∷ resting ∷ []) → get_or next 0 0 + resting ≡ w
wide-rest = wide-words.rest-told

-- Calls that tell a number of a wide bank (size, get, back): 1, 2, then 4. Refused, the caller has the bank as it was.
pub wide-questions : (w : ℕ) (bank : List ℕ) (q : Question)
    → AsRuled (wides.wide_rules w bank (question_rules q (wide.bank_of w bank))) (told q (wide.bank_of w bank) ∷ []) bank
    (wides.asked w bank q)
unfolding asked_in listed_above
wide-questions w bank q = as-ruled (questions-listed q (wide.bank_of w bank))

-- Wide banks made anew have none to hand back, and 25 zeros stand there: 1, and `make_sorted` 4.
pub sorted-wides : (w n : ℕ)
    → AsRuled ((1 unless wide.good_width w) ∷ (4 unless leb n w) ∷ []) (wide.bytes_of (sorted w n)) (replicate 25 0) (wides.made_sorted w n)
unfolding made_sorted_in listed_above
sorted-wides w n = as-ruled tt

-- `empty` has 1 alone.
pub empty-wides : (w : ℕ)
    → AsRuled ((1 unless wide.good_width w) ∷ []) (wide.bytes_of (sorted w 0)) (replicate 25 0) (wides.made_empty w)
unfolding made_empty_in listed_above
empty-wides w = as-ruled tt

-- ---- keys: in `Demand1Keys.antt`; frame labels (document 02, A10): in `Labels.antt`

-- ---- one node

-- Calls on an internode: 3 for the node, then 4, 5 and 9; a refused insertion hands the node back, all that it holds.
pub internode-places : (x : Internode) (target : ℕ)
    → AsRuled ((3 unless good x) ∷ []) (insert_position x target ∷ []) [] (find_said x target)
unfolding find_said listed_above
internode-places x target = as-ruled tt

-- A comparison with the ikey at p: 3, then 4 unless p is below n.
pub internode-comparisons : (x : Internode) (ikey p : ℕ)
    → AsRuled ((3 unless good x) ∷ (4 unless ltb p x.n) ∷ []) (place (compare ikey (get_or x.ikeys p 0)) ∷ []) [] (compare_said x ikey p)
unfolding compare_said listed_above
internode-comparisons x ikey p = as-ruled tt

-- The child of a descent: 3 alone.
pub internode-children : (x : Internode) (target : ℕ)
    → AsRuled ((3 unless good x) ∷ []) (child_for x target ∷ []) [] (child_said x target)
unfolding child_said listed_above
internode-children x target = as-ruled tt

-- what an insertion needs: 3, 4, 5 and 9
abbrev pub insert_rules : Internode → ℕ → ℕ → List Rule
insert_rules x p ikey =
    (3 unless good x) ∷ (4 unless leb p x.n) ∷ (5 unless ltb x.n 15) ∷ (9 unless rising (inserted_at p ikey (keys_of x))) ∷ []

-- An insertion hands the node back, with the ikey and the child or as it was.
pub internode-insertions : (x : Internode) (p ikey child : ℕ)
    → AsRuled (insert_rules x p ikey) (numbers (inserted x p ikey child)) (numbers x) (insert_said x p ikey child)
unfolding insert_said listed_above
internode-insertions x p ikey child = as-ruled tt

-- The search of a leaf: 3 for the leaf, 7 for the key, 10 for the lent lengths (`search_rules`); refused, the word
-- and the key's three numbers come back.
pub leaf-searches : (word : ℕ) (entries : List Entry) (cells bytes key : List ℕ) (ikey shifts start : ℕ)
    → AsRuled (search_rules word entries cells bytes key ikey shifts start)
    (outcome word entries cells bytes key ikey (class_at key (8 * shifts)) start) (given_back word ikey shifts start)
    (search_said word entries cells bytes key ikey shifts start)
unfolding search_said listed_above
leaf-searches word entries cells bytes key ikey shifts start = as-ruled tt

-- The same over entries that are lent: another number of them than fifteen is a wrong lent length.
pub lent-leaf-searches : (word : ℕ) (entries : List Entry) (cells bytes key : List ℕ) (ikey shifts start : ℕ)
    → AsRuled (lent_search_rules word entries cells bytes key ikey shifts start)
    (outcome word entries cells bytes key ikey (class_at key (8 * shifts)) start) (given_back word ikey shifts start)
    (lent_search_said word entries cells bytes key ikey shifts start)
unfolding lent_search_said listed_above
lent-leaf-searches word entries cells bytes key ikey shifts start = as-ruled tt

-- ---- lent memory

-- The lent lengths, and the audit: 10.
pub lent-lengths : (nodes cells bytes : ℕ)
    → AsRuled ((10 unless right_lengths nodes cells bytes) ∷ []) (node_count nodes ∷ cell_count cells ∷ []) [] (measured nodes cells bytes)
unfolding measured listed_above
lent-lengths nodes cells bytes = as-ruled tt

-- The audit tells nothing but whether memory is a tree.
pub audits : (m : Memory) → AsRuled ((10 unless is_tree m) ∷ []) [] [] (audited m)
unfolding audited listed_above
audits m = as-ruled tt

-- the answer is as the rules say, and a refused call leaves memory as it was
pub record KeepsMemory (rules : List Rule) (values : List ℕ) (m : Memory) (d : Did) : Type 0 where
  pub ruled : AsRuled rules values [] d.answer
  pub kept : 0 < d.answer.number → d.after ≡ m

-- Clear, and count: 10 for wrong lent lengths only.
abbrev pub clear_rules : Memory → List Rule
clear_rules m = (10 unless right_lengths (length m.nodes) (length m.cells) (length m.bytes)) ∷ []

-- Refused, every word and byte is as it was.
pub clears : (m : Memory) → KeepsMemory (clear_rules m) [] m (cleared m)
unfolding listed_above
clears m = record { ruled = subst (AsRuled (clear_rules m) [] []) (sym (clear-says m)) (as-ruled tt); kept = clear_kept m }

-- ---- the index: what `is_tree`, `stored`, `frame_of` and `in_key_order` mean on any lent memory stands in Meaning.antt, and `has_cell`,
-- `has_nodes` and `lacking` in Demand2.antt

-- Find and the k-th entry change no byte: 7, 10, 12; and 10, 12.
abbrev pub find_rules : Memory → List ℕ → List Rule
find_rules m key = (7 unless leb (length key) 256) ∷ (10 unless is_tree m) ∷ (12 unless index.stored m key) ∷ []

-- Find tells the frame number.
pub finds : (m : Memory) (key : List ℕ) → AsRuled (find_rules m key) (index.frame_of m (index.place m key)) [] (index.find_said m key)
unfolding index.find_said listed_above
finds m key = as-ruled tt

-- what k-th needs: 10 and 12
abbrev pub kth_rules : Memory → ℕ → List Rule
kth_rules m k = (10 unless is_tree m) ∷ (12 unless ltb k (length (index.in_key_order m))) ∷ []

-- The k-th entry is told by its cell, the length of its key and its frame number.
pub kths : (m : Memory) (k : ℕ) → AsRuled (kth_rules m k) (index.entry_of m (get_or (index.in_key_order m) k 0)) [] (index.kth_said m k)
unfolding index.kth_said listed_above
kths m k = as-ruled tt

-- Count changes no byte: the number of entries as it is stored, 10 for wrong lent lengths only (document 02, A5).
pub counts : (m : Memory) → AsRuled (clear_rules m) (index.count_of m ∷ []) [] (index.count_said m)
unfolding index.count_said listed_above
counts m = as-ruled tt

-- Remove: as find.
pub removes : (m : Memory) (key : List ℕ) → KeepsMemory (find_rules m key) [] m (index.removed m key)
unfolding index.removed listed_above
removes m key = record { ruled = as-ruled tt; kept = kept-if-refused (index.remove_said m key) _ m }

-- Put: 7, 10, 11 for a stored key, 13 where no cell is free, and 14, with the number of nodes lacking, where more nodes are needed than
-- are free (document 02, A1; document 01 has 13 for both).
abbrev pub put_rules : Memory → List ℕ → List Rule
put_rules m key =
    (7 unless leb (length key) 256) ∷ (10 unless is_tree m) ∷ (11 unless not (index.stored m key)) ∷ (13 unless index.has_cell m)
    ∷ ((14 unless index.has_nodes m key) telling (index.lacking m key ∷ [])) ∷ []

-- Accepted, it tells how many slots rest, in the memory that it leaves, in the leaf where the key stands: 15 less the size of that leaf
-- (document 02, A7; document 01's put tells nothing). A refusal carries no such number; refused, every word and byte is as it was.
pub puts : (m : Memory) (key : List ℕ) (frame : ℕ)
    → KeepsMemory (put_rules m key) (index.rests_in (index.with_entry m key frame) key) m (index.put_done m key frame)
unfolding index.put_done listed_above
puts m key frame = record { ruled = as-ruled tt; kept = kept-if-refused (index.put_said m key frame) _ m }

-- ---- the card (document 02, A3): what it means that a block, a stream and an image are as written stands in Card.antt

-- Saving only reads the index: 10, then 18 where the buffer is shorter than all blocks.
abbrev pub save_rules : Memory → List ℕ → List Rule
save_rules m out = (10 unless is_tree m) ∷ (18 unless leb (512 * blocks_for (entries_in m)) (length out)) ∷ []

-- It tells the number of blocks. Accepted, the image stands at the start of the buffer and the bytes behind it stay; refused, all stay.
pub saves : (m : Memory) (out : List ℕ)
    → AsRuled (save_rules m out) (blocks_for (entries_in m) ∷ []) [] (save_done m out).1
    × ((save_done m out).1.number ≡ 0 → (save_done m out).0 ≡ image_of (entries_in m) ++ drop (512 * blocks_for (entries_in m)) out)
    × (0 < (save_done m out).1.number → (save_done m out).0 ≡ out)
unfolding save_done listed_above
saves m out = (as-ruled tt, card.save-written m out, card.save-kept m out)

-- Reading asks of lent memory its lengths alone. The order of its refusals is not that of their numbers: 10, 15 for the length of the
-- image, 16 with the first block whose check is bad, 17 with the place in the stream where the first wrong part starts; then 13, or 14
-- with its number, as the first failing put gives it. `AsListed` says of rules in any order what `AsRuled` says of rising ones.
abbrev pub load_rules : Memory → List ℕ → List Rule
load_rules m image =
    (10 unless right_lengths (length m.nodes) (length m.cells) (length m.bytes))
    ∷ (15 unless whole_blocks (length image))
    ∷ ((16 unless checks_good image) telling (bad_block image ∷ []))
    ∷ ((17 unless as_written (read image)) telling (wrong_at (read image) ∷ []))
    ∷ (13 unless not (eqb (puts_said m image).number 13))
    ∷ ((14 unless not (eqb (puts_said m image).number 14)) telling (puts_said m image).values)
    ∷ []

-- It tells the number of entries. Refused with 10, 15, 16 or 17, every word and byte is as it was. Document 02 amends the demand for 13
-- and 14 of this call: they leave the index empty and good, exactly what a clear leaves.
pub loads : (m : Memory) (image : List ℕ) → Bytes image
    → AsListed (load_rules m image) (length (entries_of (read image)) ∷ []) [] (load_done m image).answer
    × (0 < (load_done m image).answer.number → (load_done m image).answer.number ≢ 13 → (load_done m image).answer.number ≢ 14
    → (load_done m image).after ≡ m)
    × (((load_done m image).answer.number ≡ 13) ⊎ ((load_done m image).answer.number ≡ 14) → (load_done m image).after ≡ left m clear)
loads m image b = (
  subst (AsListed (load_rules m image) (length (entries_of (read image)) ∷ []) []) (sym (card.load-says m image b))
      (as-listed (load_rules m image) (length (entries_of (read image)) ∷ []) []),
  card.load_kept m image b,
  card.load-emptied m image b,
)
