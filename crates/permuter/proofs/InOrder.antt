-- The order of the slots handed out, from what `make_sorted` and `empty` answer, and from any word: the argument over any holder, read
-- off for words. Assumes nothing.
use mathlib.Core.Path.{◌≡◌, sym, ◌∙◌}
use mathlib.Core.List.{List, [], ◌∷◌, ◌++◌}
use Prim.Native.Nat.{ℕ, ◌-◌, ◌<◌}
use lib.ListN.{length, get_or, take}
use Rattle.refusal.specs.Answer.{accepted}
use Rattle.bank.specs.Lists.{up}
use Rattle.bank.specs.History.{Step, ran, free}
use Rattle.bank.proofs.Holder.{of-prefix}
use Rattle.bank.proofs.Making.{empty-sorted}
use Rattle.bank.proofs.Starts as starts
use Rattle.nibbles.specs.Words.{bank_of, cleared_word, words}
use Rattle.slot_answers.specs.Words.{made_sorted, made_empty}
use Rattle.permuter.specs.History.{word_does}
use Rattle.permuter.proofs.History as history

-- from any word, once it is cleared
pub kth-from-any : (w word : ℕ) (steps : List Step) (k : ℕ) → k < length (ran (word_does w) steps (cleared_word w word)).handed
    → (k < length (free (bank_of w word) ++ (ran (word_does w) steps (cleared_word w word)).released))
    × (get_or (ran (word_does w) steps (cleared_word w word)).handed k 0
    ≡ get_or (free (bank_of w word) ++ (ran (word_does w) steps (cleared_word w word)).released) k 0)
kth-from-any w word steps =
    of-prefix (ran (word_does w) steps (cleared_word w word)).handed
    (free (bank_of w word) ++ (ran (word_does w) steps (cleared_word w word)).released) (history.in_order w steps word)

module _ (w n start : ℕ) (e : made_sorted w n ≡ accepted (start ∷ [])) where
  pub free-when-sorted : free (bank_of w start) ≡ up n (w - n)
  free-when-sorted = starts.made-free (words w) w history.Any (history.encodes w) [] n start tt e

  pub in_order : (steps : List Step)
      → (ran (word_does w) steps start).handed ≡ take (length (ran (word_does w) steps start).handed)
      (up n (w - n) ++ (ran (word_does w) steps start).released)
  in_order = starts.made-in-order (words w) w history.Any (history.encodes w) [] n start tt e

  pub kth : (steps : List Step) (k : ℕ) → k < length (ran (word_does w) steps start).handed
      → (k < length (up n (w - n) ++ (ran (word_does w) steps start).released))
      × (get_or (ran (word_does w) steps start).handed k 0 ≡ get_or (up n (w - n) ++ (ran (word_does w) steps start).released) k 0)
  kth = starts.made-kth (words w) w history.Any (history.encodes w) [] n start tt e

-- the empty word is the sorted one with none taken
pub kth-from-empty : (w start : ℕ) → made_empty w ≡ accepted (start ∷ []) → (steps : List Step) (k : ℕ)
    → k < length (ran (word_does w) steps start).handed
    → (k < length (up 0 (w - 0) ++ (ran (word_does w) steps start).released))
    × (get_or (ran (word_does w) steps start).handed k 0 ≡ get_or (up 0 (w - 0) ++ (ran (word_does w) steps start).released) k 0)
kth-from-empty w start e = kth w 0 start (sym (empty-sorted (words w) w []) ∙ e)
