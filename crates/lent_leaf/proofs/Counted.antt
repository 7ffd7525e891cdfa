-- What the search of lent entries answers, by their number: with fifteen it is the search over entries by value, with another number
-- the word, the key and the lengths are judged. Assumes nothing.
use Prim.Native.Nat.{ℕ}
use mathlib.Core.Path.{◌≡◌, refl, ap, ◌∙◌}
use mathlib.Core.Bool.{Bool, true, false, not, ◌&&◌}
use mathlib.Core.List.{List, [], ◌∷◌}
use lib.ListN.{length}
use borrow.Author.Tests.{eq-eqb, ne_eqb, not-true, not-false}
use Rattle.refusal.specs.Answer.{Answer, refused, answered, ◌unless◌}
use Rattle.refusal.specs.declared.Refusal.TheVariants.{Node}
use Rattle.nibbles.specs.Words.{valid_word}
use Rattle.key_layer.specs.Keys.{fits}
use Rattle.leaf_entries.specs.declared.Entry.{Entry}
use Rattle.leaf.specs.Search.{given_back, search_said, unlent_said}
use Rattle.lent_leaf.specs.Search.{lent_search_said, other_count_said}

and_yes : (b : Bool) → b && true ≡ b
and_yes true = refl
and_yes false = refl

module _ (word : ℕ) (entries : List Entry) (cells bytes key : List ℕ) (ikey shifts start : ℕ) where
  -- Fifteen entries: the search over entries by value.
  pub fifteen-said : length entries ≡ 15
      → lent_search_said word entries cells bytes key ikey shifts start ≡ search_said word entries cells bytes key ikey shifts start
  unfolding lent_search_said search_said
  fifteen-said e = rw (eq-eqb (length entries) 15 e)

  -- Another number: neither the entries nor the cells say anything.
  pub other-said : (length entries ≡ 15 → ⊥)
      → lent_search_said word entries cells bytes key ikey shifts start ≡ other_count_said word key ikey shifts start
  unfolding lent_search_said other_count_said
  other-said ne = rw (ne_eqb (length entries) 15 ne) (ap judging (and_yes (valid_word 15 word)))
    where
      judging : Bool → Answer
      judging valid = answered ((3 unless valid) ∷ (7 unless fits key ikey shifts start) ∷ (10 unless false) ∷ []) []
          (given_back word ikey shifts start)

-- a law for each way in which `unlent` returns
module _ (word : ℕ) (key : List ℕ) (ikey shifts start : ℕ) {v : Bool} (ev : v ≡ valid_word 15 word) where
  pub other_word : {x : Answer} → not v ≡ true → x ≡ refused Node (given_back word ikey shifts start) → x ≡ other_count_said word key ikey
      shifts start
  unfolding other_count_said
  other_word q e = e ∙ rw (← ev, not-true v q)

  pub other-rest : {x : Answer} → not v ≡ false → x ≡ unlent_said word key ikey shifts start → x ≡ other_count_said word key ikey shifts start
  unfolding other_count_said unlent_said
  other-rest q e = e ∙ rw (← ev, not-false v q)
