-- Slot words: a bank of width 1 to 15 in a u64.
use Rattle.std.specs.Prelude.{ℕ, ◌+◌, ◌*◌, ◌/◌, ◌%◌, ◌^◌, Bool, cond, ◌&&◌, [], ◌∷◌, get_or, ltb, leb, eqb, Result}
use Rattle.refusal.specs.declared.Refusal.{Refusal}
use Rattle.bank.specs.Bank.{Bank, valid}
use Rattle.bank.specs.Holder.{Holder}
use Rattle.bank.specs.Judged.{judged_in}
use Rattle.nibbles.specs.Nibbles.{pack, nibbles}

-- bits 0-3 hold the size; position i (0 to W-1) sits at bits 4i+4 to 4i+7
abbrev pub bank_of : ℕ → ℕ → Bank
bank_of w word = record { size = word % 16; slots = nibbles w (word / 16) }

-- the word that packs a bank
abbrev pub word_of : Bank → ℕ
word_of b = pack (b.size ∷ b.slots)

-- refusal 1: the width is 1 to 15
abbrev pub good_width : ℕ → Bool
good_width w = leb 1 w && leb w 15

-- refusal 2: the size and the positions are a valid bank's, and all higher bits are 0
unfoldable pub valid_word : ℕ → ℕ → Bool
valid_word w word = valid (bank_of w word) && eqb (word / 2 ^ (4 * (w + 1))) 0

-- A word from outside: its bits from 4(W+1) up never meant anything, and are cleared before it is judged. From width 15 on a u64 has
-- none.
abbrev pub cleared_word : ℕ → ℕ → ℕ
cleared_word w word = cond (ltb w 15) (word % 2 ^ (4 * (w + 1))) word

-- A slot word of width w is what holds a bank, and an answer tells it as one number. It may be used where the cleared word is valid; the
-- bank is in the bits that are left.
abbrev pub words : ℕ → Holder ℕ
words w =
    record {
      good_width = good_width w;
      valid = λ word. valid_word w (cleared_word w word);
      bank_of = bank_of w;
      held_of = word_of;
      values = λ word. word ∷ [];
      places = 1;
      read = λ values. get_or values 0 0;
    }

-- the judgement of a word: 1 unless the width is 1 to 15, 2 unless the cleared word is valid
abbrev pub judged : ℕ → ℕ → Result (Unit {0}) Refusal
judged w word = judged_in (words w) word
