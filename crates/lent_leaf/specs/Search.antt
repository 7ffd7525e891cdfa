-- The search of a leaf whose entries are lent: what it answers, by document 01's numbers.
use Rattle.std.specs.Prelude.{ℕ, ◌*◌, Bool, false, not, ◌&&◌, ◌||◌, List, [], ◌∷◌, eqb, length}
use Rattle.refusal.specs.Answer.{Answer, Rule, answered, ◌unless◌}
use Rattle.nibbles.specs.Words.{valid_word}
use Rattle.order.specs.Layer.{class_at}
use Rattle.key_layer.specs.Keys.{fits}
use Rattle.leaf_entries.specs.declared.Entry.{Entry}
use Rattle.leaf.specs.Leaf.{entries_in_order, lent_right, good_entries}
use Rattle.leaf.specs.Search.{outcome, given_back}

-- right lent lengths: fifteen entries, and cells and bytes that are right
abbrev pub all_right : List Entry → List ℕ → List ℕ → Bool
all_right entries cells bytes = eqb (length entries) 15 && lent_right cells bytes

-- refusals 3, 7 and 10: with wrong lent lengths only the word is judged for 3
abbrev pub lent_search_rules : ℕ → List Entry → List ℕ → List ℕ → List ℕ → ℕ → ℕ → ℕ → List Rule
lent_search_rules word entries cells bytes key ikey shifts start =
    (3 unless valid_word 15 word && (not (all_right entries cells bytes) || good_entries cells (entries_in_order word entries)))
    ∷ (7 unless fits key ikey shifts start)
    ∷ (10 unless all_right entries cells bytes)
    ∷ []

-- what a search answers
unfoldable pub lent_search_said : ℕ → List Entry → List ℕ → List ℕ → List ℕ → ℕ → ℕ → ℕ → Answer
lent_search_said word entries cells bytes key ikey shifts start =
    answered (lent_search_rules word entries cells bytes key ikey shifts start)
    (outcome word entries cells bytes key ikey (class_at key (8 * shifts)) start)
    (given_back word ikey shifts start)

-- the rules where the number of entries is not fifteen
unfoldable pub other_count_said : ℕ → List ℕ → ℕ → ℕ → ℕ → Answer
other_count_said word key ikey shifts start =
    answered ((3 unless valid_word 15 word) ∷ (7 unless fits key ikey shifts start) ∷ (10 unless false) ∷ []) []
    (given_back word ikey shifts start)
