-- A history from what `make_sorted` or `empty` answers, whatever holds the bank. Assumes nothing.
use mathlib.Core.Path.{◌≡◌, sym, ap, ◌∙◌, subst}
use mathlib.Core.List.{List, [], ◌++◌}
use Prim.Native.Nat.{ℕ, ◌-◌, ◌≤◌, ◌<◌}
use lib.ListN.{length, get_or, take}
use Rattle.refusal.specs.Answer.{accepted}
use Rattle.bank.specs.Lists.{up}
use Rattle.bank.specs.Bank.{sorted}
use Rattle.bank.specs.History.{Step, ran, free}
use Rattle.bank.specs.Holder.{Holder, held_does, made_sorted_in}
use Rattle.bank.proofs.Sorted.{sorted-size, sorted-width, sorted-once}
use Rattle.bank.proofs.Kept.{Fits}
use Rattle.bank.proofs.History.{free-sorted}
use Rattle.bank.proofs.Holder.{Encodes, Packed, in_order, of-prefix}
use Rattle.bank.proofs.Making.{Started, started}

-- the sorted bank is a valid one of its width
pub fits-sorted : (w n : ℕ) → n ≤ w → Fits w (sorted w n)
fits-sorted w n l = record { wide = sorted-width w n l; sized = rw (sorted-size w n l) l; once = sorted-once w n l }

module _ {Held : Type 0} (h : Holder Held) (w : ℕ) (Whole : Held → Type 0) (encodes : Encodes h w Whole)
    (missing : List ℕ) (n : ℕ) (start : Held) (whole : Whole start) (made : made_sorted_in h w n missing ≡ accepted (h.values start)) where
  told : Started h w missing n (h.values start)
  told = started h w missing n (h.values start) made

  packed : Packed h w Whole (sorted w n)
  packed = encodes.packed told.good (sorted w n) (fits-sorted w n told.taken)

  is-start : h.held_of (sorted w n) ≡ start
  is-start =
      sym (encodes.read_again (h.held_of (sorted w n)) [] packed.whole)
      ∙ ap (λ (l : List ℕ). h.read (l ++ [])) (sym told.made)
      ∙ encodes.read_again start [] whole

  held-sorted : h.bank_of start ≡ sorted w n
  held-sorted = ap h.bank_of (sym is-start) ∙ packed.unpacked

  -- its free slots, from the back forward: n, n+1, .., W-1
  pub made-free : free (h.bank_of start) ≡ up n (w - n)
  made-free = ap free held-sorted ∙ free-sorted w n told.taken

  -- so those go out first, and then the released ones
  pub made-in-order : (steps : List Step)
      → (ran (held_does h) steps start).handed
      ≡ take (length (ran (held_does h) steps start).handed) (up n (w - n) ++ (ran (held_does h) steps start).released)
  made-in-order steps =
      subst (λ (due : List ℕ). (ran (held_does h) steps start).handed
      ≡ take (length (ran (held_does h) steps start).handed) (due ++ (ran (held_does h) steps start).released))
      made-free
      (in_order h w Whole encodes start whole (λ e. ap h.held_of held-sorted ∙ is-start) steps)

  pub made-kth : (steps : List Step) (k : ℕ) → k < length (ran (held_does h) steps start).handed
      → (k < length (up n (w - n) ++ (ran (held_does h) steps start).released))
      × (get_or (ran (held_does h) steps start).handed k 0 ≡ get_or (up n (w - n) ++ (ran (held_does h) steps start).released) k 0)
  made-kth steps =
      of-prefix (ran (held_does h) steps start).handed (up n (w - n) ++ (ran (held_does h) steps start).released) (made-in-order steps)
