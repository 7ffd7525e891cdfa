-- What would look right and isn't, by example: `6100` stored and `61` searched; a leaf whose middle shares an ikey; a tie.
use Rattle.std.specs.Prelude.{ℕ, ◌≡◌, refl, List, [], ◌∷◌, ◌++◌, map, replicate}
use Rattle.refusal.specs.Answer.{Answer, accepted}
use Rattle.bank.specs.Lists.{count, each_once, listed}
use Rattle.bank.specs.Bank.{valid, sorted}
use Rattle.nibbles.specs.Nibbles.{pack, nibbles}
use Rattle.nibbles.specs.Words.{word_of, valid_word}
use Rattle.order.specs.Layer.{big_endian, ikey_at}
use Rattle.key_layer.specs.Keys.{suffix_at, fits, reached}
use Rattle.leaf_entries.specs.declared.Entry.{Entry}
use Rattle.leaf.specs.Lists.{every, first_where}
use Rattle.leaf.specs.Leaf.{viewed, laid, rising, lent_right, cell_right, of_kind, good_entries}
use Rattle.leaf.specs.Search.{found, not_found, met_with, outcome, search_said}
use Rattle.leaf.specs.Cut.{outward, cut_of}

-- a leaf with `6100` alone, in cell 0 of one that is lent, and a key searched in it at layer 0
abbrev pub searched_for : List ℕ → Answer
searched_for key =
    search_said (word_of (sorted 15 1)) (laid (record { ikey = 0x6100000000000000; class = 2; at = 0 } ∷ [])) (3 ∷ 7 ∷ [])
    (0x61 ∷ replicate 255 0) key 0x6100000000000000 0 (suffix_at key 0)

-- sixteen entries with these ikeys
abbrev pub with_ikeys : List ℕ → List Entry
with_ikeys ikeys = map (λ k. record { ikey = k; class = 0; at = 0 }) ikeys

-- `61` is not found, and belongs before `6100`
pub filed_before : searched_for (0x61 ∷ []) ≡ accepted (not_found 0)
unfolding search_said outcome every first_where viewed rising lent_right cell_right of_kind good_entries valid_word valid each_once count
    nibbles pack sorted listed fits reached ikey_at big_endian
filed_before = refl

-- `6100` is found, in slot 0
pub found-there : searched_for (0x61 ∷ 0x00 ∷ []) ≡ accepted (found 0)
unfolding search_said outcome met_with every first_where viewed rising lent_right cell_right of_kind good_entries valid_word valid each_once
    count nibbles pack sorted listed fits reached ikey_at big_endian
found-there = refl

-- seven, two and seven of an ikey: 7 and 9 are equally near, and the lower is the cut
pub tie-low : cut_of (with_ikeys (replicate 7 1 ++ (replicate 2 2 ++ replicate 7 3))) ≡ 7
unfolding outward
tie-low = refl

-- six and ten of an ikey: a cut at 8 would part the ten
pub not_through : cut_of (with_ikeys (replicate 6 1 ++ replicate 10 2)) ≡ 6
unfolding outward
not_through = refl
