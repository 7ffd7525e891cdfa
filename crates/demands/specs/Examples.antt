-- The examples of document 01 that are marked P: one table, and one claim about the definitions that the contracts cite; and one of a
-- call that came later.
use Rattle.std.specs.Prelude.{◌≡◌, refl, List, [], ◌∷◌, map, ℕ}
use Rattle.refusal.specs.Answer.{Answer, accepted}
use Rattle.bank.specs.Lists.{turned, count, each_once, listed}
use Rattle.bank.specs.Bank.{valid, sorted}
use Rattle.bank.specs.Calls.{insert_from_back, insert_first_free, remove, remove_to_back, rotate}
use Rattle.bank.specs.Holder.{changed_in, made_sorted_in, made_empty_in}
use Rattle.order.specs.Bytes.{bytewise}
use Rattle.order.specs.Layer.{big_endian, ikey_at}
use Rattle.ikey.specs.Said.{compare_keys_said}
use Rattle.key.specs.Keys.{numbers_at, new_said}
use Rattle.internode_places.specs.declared.Internode.{Internode}
use Rattle.internode.specs.Lists.{rising, first}
use Rattle.internode.specs.Node.{good}
use Rattle.internode.specs.Split.{node_of}
use Rattle.internode.specs.Calls.{find_said}
use Rattle.nibbles.specs.Nibbles.{pack, nibbles}
use Rattle.nibbles.specs.Words.{valid_word}
use Rattle.permuter.specs.Words.{changed, made_sorted, made_empty}

infix 5 ◌gives◌
-- what a call answers, and what document 01 says
pub record Example : Type 0 where
  pub ours : Answer
  pub theirs : Answer

-- the call is accepted with these values
abbrev pub ◌gives◌ : Answer → List ℕ → Example
a gives values = record { ours = a; theirs = accepted values }

-- an internode with three ikeys and four children
abbrev pub ten_twenty_thirty : Internode
ten_twenty_thirty = node_of (10 ∷ 20 ∷ 30 ∷ []) (1 ∷ 2 ∷ 3 ∷ 4 ∷ [])

-- P1 to P11. Request A7 amends P2, P3 and P7: an insertion from the back tells, behind the slot, how many rest.
abbrev pub table : List Example
table =
    -- P1: the empty word of width 15
    (made_empty 15 gives 0x0123456789ABCDE0 ∷ [])
    -- P2: insert at 0 hands out slot 0; 14 rest
    ∷ (changed 15 0x0123456789ABCDE0 (insert_from_back 0) gives 0x123456789ABCDE01 ∷ 0 ∷ 14 ∷ [])
    -- P3: again at 0, slot 1; 13 rest
    ∷ (changed 15 0x123456789ABCDE01 (insert_from_back 0) gives 0x23456789ABCDE012 ∷ 1 ∷ 13 ∷ [])
    -- P4: from P3, remove(0)
    ∷ (changed 15 0x23456789ABCDE012 (remove 0) gives 0x23456789ABCDE101 ∷ [])
    -- P5: from P3, remove_to_back(0) gives P2's word
    ∷ (changed 15 0x23456789ABCDE012 (remove_to_back 0) gives 0x123456789ABCDE01 ∷ [])
    -- P6: make_sorted(15)
    ∷ (made_sorted 15 15 gives 0xEDCBA9876543210F ∷ [])
    -- P7: width 3, insert at 1; 1 rests
    ∷ (changed 3 0x1201 (insert_from_back 1) gives 0x2102 ∷ 1 ∷ 1 ∷ [])
    -- P8: rotate(0, 1)
    ∷ (changed 3 0x2102 (rotate 0 1) gives 0x0212 ∷ [])
    -- P9: `61` and `6100` as new keys (ikey, shift count, suffix start), and the first is less
    ∷ (new_said (0x61 ∷ []) gives 0x6100000000000000 ∷ 0 ∷ 1 ∷ [])
    ∷ (new_said (0x61 ∷ 0x00 ∷ []) gives 0x6100000000000000 ∷ 0 ∷ 2 ∷ [])
    ∷ (compare_keys_said (0x61 ∷ []) (0x61 ∷ 0x00 ∷ []) gives 0 ∷ [])
    -- P10: the empty key
    ∷ (new_said [] gives 0 ∷ 0 ∷ 0 ∷ [])
    -- P11: ikeys 10, 20, 30
    ∷ (find_said ten_twenty_thirty 20 gives 1 ∷ [])
    ∷ (find_said ten_twenty_thirty 21 gives 2 ∷ [])
    ∷ (find_said ten_twenty_thirty 31 gives 3 ∷ [])
    ∷ []

-- each answer is the one that document 01 gives
pub as-document-01-says : map (λ (e : Example). e.ours) table ≡ map (λ (e : Example). e.theirs) table
unfolding turned count each_once listed valid sorted pack nibbles changed_in made_sorted_in made_empty_in valid_word bytewise big_endian ikey_at
    compare_keys_said numbers_at new_said rising first good find_said
as-document-01-says = refl

-- What P4 removed goes back to where it was: insert_first_free(0) gives P3's word.
pub p4-taken-back : changed 15 0x23456789ABCDE101 (insert_first_free 0) ≡ accepted (0x23456789ABCDE012 ∷ [])
unfolding turned count each_once valid pack nibbles changed_in valid_word
p4-taken-back = refl
