-- Laws on the check of a block: the loop over its words. Assumes nothing.
use Rattle.std.proofs.Common.{◌≡◌, ℕ, suc, ◌+◌, ◌-◌, ◌*◌, ◌<◌, ◌≤◌, eqb, List, drop, arith, drop-drop, eq-eqb, ne_eqb}
use Rattle.card_block.specs.declared.Sums.{Sums}
use Rattle.card_block.specs.Words.{little_endian, words_of}
use Rattle.card_block.specs.Check.{plus, through, check_of, good_block}

-- what the sums come to from word i on
unfoldable pub from_word : List ℕ → ℕ → Sums → Sums
from_word block i s = through s (words_of (126 - i) (drop (4 * i) block))

-- the loop of `checked`: before the first word, one word further, behind the last
module _ (block : List ℕ) (number : ℕ) where
  pub from_first : {a : ℕ} → a ≡ plus number 1 → from_word block 0 (record { a = a; b = 0 }) ≡ check_of number block
  unfolding from_word check_of
  from_first e = rw e

  pub from_next : (i a b : ℕ) {w a' b' : ℕ} → i < 126 → from_word block i (record { a = a; b = b }) ≡ check_of number block
      → w ≡ little_endian 4 (drop (4 * i) block) → a' ≡ plus a w → b' ≡ plus b a'
      → from_word block (i + 1) (record { a = a'; b = b' }) ≡ check_of number block
  unfolding from_word words_of through
  from_next i a b h e p q r =
      let n : 126 - i ≡ suc (126 - (i + 1)) = omega arith in
      let d : 4 * (i + 1) ≡ 4 * i + 4 = omega arith in
      rw (r, q, p, d, ← drop-drop 4 (4 * i) block) (rw n at e)

  pub from_last : {i a b : ℕ} → 126 ≤ i → from_word block i (record { a = a; b = b }) ≡ check_of number block
      → record { a = a; b = b } ≡ check_of number block
  unfolding from_word words_of through
  from_last {i} h e = let n : 126 - i ≡ 0 = omega arith in rw n at e

-- the two ways in which `is_good` answers: the first word is looked at, then the second
module _ (block : List ℕ) (number : ℕ) {s : Sums} {a : ℕ} (e : s ≡ check_of number block) (p : a ≡ little_endian 4 (drop 504 block)) where
  pub good-not : (a ≡ s.a → ⊥) → eqb a s.a ≡ good_block number block
  unfolding good_block
  good-not h = rw (← p, ← e, ne_eqb a s.a h)

  pub good-first : {b : ℕ} → b ≡ little_endian 4 (drop 508 block) → a ≡ s.a → eqb b s.b ≡ good_block number block
  unfolding good_block
  good-first q h = rw (← p, ← q, ← e, eq-eqb a s.a h)
