-- The order of the slots handed out, from what `make_sorted` and `empty` answer, and from any wide bank: the argument over any holder, read
-- off for 25 bytes. Assumes nothing.
use mathlib.Core.Path.{◌≡◌, sym, ap, ◌∙◌}
use mathlib.Core.List.{List, ◌++◌}
use Prim.Native.Nat.{ℕ, ◌-◌, ◌<◌}
use lib.ListN.{length, get_or, take, replicate}
use Rattle.refusal.specs.Answer.{accepted}
use Rattle.bank.specs.Lists.{up}
use Rattle.bank.specs.Bank.{sorted}
use Rattle.bank.specs.History.{Step, ran, free}
use Rattle.bank.proofs.Making.{started, empty-sorted}
use Rattle.bank.proofs.Holder as holders
use Rattle.bank.proofs.Starts as starts
use Rattle.wide_bytes.specs.Wide.{bank_of, wides}
use Rattle.wide_answers.specs.Wides.{made_sorted, made_empty}
use Rattle.wide_bank.specs.History.{wide_does}
use Rattle.wide_bank.proofs.History.{Whole}
use Rattle.wide_bank.proofs.History as history

-- from any 25 bytes
pub kth-from-any : (w : ℕ) (bytes : List ℕ) → Whole bytes → (steps : List Step) (k : ℕ)
    → k < length (ran (wide_does w) steps bytes).handed
    → (k < length (free (bank_of w bytes) ++ (ran (wide_does w) steps bytes).released))
    × (get_or (ran (wide_does w) steps bytes).handed k 0 ≡ get_or (free (bank_of w bytes) ++ (ran (wide_does w) steps bytes).released) k 0)
kth-from-any w bytes l = holders.kth (wides w) w Whole (history.encodes w) bytes l (history.own w bytes l)

module _ (w n : ℕ) (start : List ℕ) (e : made_sorted w n ≡ accepted start) where
  -- what is made is 25 bytes
  made-whole : Whole start
  made-whole =
      let s = started (wides w) w (replicate 25 0) n start e in
      ap length s.made ∙ ((history.encodes w).packed s.good (sorted w n) (starts.fits-sorted w n s.taken)).whole

  pub free-when-sorted : free (bank_of w start) ≡ up n (w - n)
  free-when-sorted = starts.made-free (wides w) w Whole (history.encodes w) (replicate 25 0) n start made-whole e

  pub in_order : (steps : List Step)
      → (ran (wide_does w) steps start).handed
      ≡ take (length (ran (wide_does w) steps start).handed) (up n (w - n) ++ (ran (wide_does w) steps start).released)
  in_order = starts.made-in-order (wides w) w Whole (history.encodes w) (replicate 25 0) n start made-whole e

  pub kth : (steps : List Step) (k : ℕ) → k < length (ran (wide_does w) steps start).handed
      → (k < length (up n (w - n) ++ (ran (wide_does w) steps start).released))
      × (get_or (ran (wide_does w) steps start).handed k 0 ≡ get_or (up n (w - n) ++ (ran (wide_does w) steps start).released) k 0)
  kth = starts.made-kth (wides w) w Whole (history.encodes w) (replicate 25 0) n start made-whole e

-- the empty bank is the sorted one with none taken
pub kth-from-empty : (w : ℕ) (start : List ℕ) → made_empty w ≡ accepted start → (steps : List Step) (k : ℕ)
    → k < length (ran (wide_does w) steps start).handed
    → (k < length (up 0 (w - 0) ++ (ran (wide_does w) steps start).released))
    × (get_or (ran (wide_does w) steps start).handed k 0 ≡ get_or (up 0 (w - 0) ++ (ran (wide_does w) steps start).released) k 0)
kth-from-empty w start e = kth w 0 start (sym (empty-sorted (wides w) w (replicate 25 0)) ∙ e)
