-- A wide bank goes through a history as the bank that it packs does: the argument over any holder, read off for 25 bytes. Assumes
-- nothing.
use mathlib.Core.Path.{◌≡◌, ap, ◌∙◌}
use mathlib.Core.Bool.{true}
use mathlib.Core.List.{List, [], ◌∷◌, ◌++◌}
use Prim.Native.Nat.{ℕ, suc, ◌+◌, ◌-◌, ◌≤◌}
use native.Mathlib.Omega.{arith}
use native.Mathlib.Numerals.{add-one}
use lib.ListN.{length, get_or, take, drop, replicate, length-append, length-replicate}
use lib.Seq.{take_at, drop_at}
use lib.Dec.{leb, leb→le}
use borrow.Author.Tests.{le-leb}
use Rattle.refusal.specs.Answer.{accepted}
use Rattle.bank.specs.Lists.{each_once}
use Rattle.bank.specs.Bank.{Bank, width, valid}
use Rattle.bank.specs.Calls.{insert_from_back}
use Rattle.bank.specs.History.{Call, as_change, Step, without_bursts, withdrawn, ran, free}
use Rattle.bank.proofs.Tests.{is_true, and_right, holds}
use Rattle.bank.proofs.Kept.{Fits}
use Rattle.bank.proofs.History.{opposite}
use Rattle.bank.proofs.Holder as holders
use Rattle.wide_bytes.specs.Wide.{bank_of, bytes_of, all_zero, valid_bytes, wides}
use Rattle.wide_bytes.proofs.Judging.{slots_length}
use Rattle.wide_bytes.proofs.Bytes.{Good, good-valid, bytes-again, zeros-zero}
use Rattle.wide_answers.specs.Wides.{changed}
use Rattle.wide_bank.specs.History.{wide_does}

-- 25 bytes, good or not
abbrev pub Whole : List ℕ → Type 0
Whole bytes = length bytes ≡ 25

-- ---- every valid bank of a good width is packed in valid bytes

module _ (w : ℕ) (most : w ≤ 24) (b : Bank) (f : Fits w b) where
  long : length (b.slots ++ replicate (24 - width b) 0) ≡ 24
  long = length-append b.slots (replicate (24 - width b) 0) ∙ omega (arith, length-replicate {A = ℕ} (24 - width b) 0, f.wide)

  read-bank : bank_of w (bytes_of b) ≡ b
  read-bank = ap (λ (ps : List ℕ). bank b.size ps) (take_at b.slots (replicate (24 - width b) 0) w f.wide)
    where
      bank : ℕ → List ℕ → Bank
      bank n ps = record { size = n; slots = ps }

  clear_behind : drop (w + 1) (bytes_of b) ≡ replicate (24 - width b) 0
  clear_behind = ap (λ (n : ℕ). drop n (bytes_of b)) (add-one w) ∙ drop_at b.slots (replicate (24 - width b) 0) w f.wide

  fits-valid : valid b ≡ true
  unfolding valid
  fits-valid = rw (f.wide, le-leb b.size w f.sized, is_true (each_once b.slots) f.once)

  pub packed : holders.Packed (wides w) w Whole b
  unfolding valid_bytes
  packed =
      record {
        whole = ap suc long;
        valid = rw (
          ap valid read-bank ∙ fits-valid,
          clear_behind,
          is_true (all_zero (replicate (24 - width b) 0)) (zeros-zero (24 - width b)),
        );
        unpacked = read-bank;
      }

module _ (w : ℕ) where
  good-bytes : (bytes : List ℕ) → Whole bytes → holders.Fine (wides w) bytes → Good w bytes
  good-bytes bytes l f = good-valid w bytes l f.good f.valid

  pub encodes : holders.Encodes (wides w) w Whole
  encodes =
      record {
        read_again = λ bytes more l. take_at bytes more 25 l;
        rest = λ bytes more l. drop_at bytes more 25 l;
        fits = λ bytes l f.
            let g = good-bytes bytes l f in
            record { wide = slots_length w bytes (omega (arith, g.most)); sized = g.sized; once = g.once };
        packed = λ good b f. packed w (leb→le w 24 (and_right (leb 16 w) (leb w 24) (holds good))) b f;
      }

  -- valid bytes pack their own bank
  pub own : (bytes : List ℕ) → Whole bytes → holders.Fine (wides w) bytes → bytes_of (bank_of w bytes) ≡ bytes
  own bytes l f = bytes-again w bytes l (good-bytes bytes l f)

  -- how many rest after an accepted insertion from the back, and the size of the bank that it leaves, make up the width
  pub rest-told : (i : ℕ) (bytes next : List ℕ) (slot resting : ℕ) → Whole bytes → Whole next
      → changed w bytes (insert_from_back i) ≡ accepted (next ++ slot ∷ resting ∷ []) → get_or next 0 0 + resting ≡ w
  rest-told i bytes next slot resting l t e = holders.rest-told (wides w) w Whole encodes bytes l i next slot resting t e

  -- ---- demand 3, for any 25 bytes at any width

  module _ (bytes : List ℕ) (l : Whole bytes) where
    -- an accepted call, withdrawn by its opposite
    pub withdrawal : (c : Call) (next told : List ℕ) → Whole next → changed w bytes (as_change c) ≡ accepted (next ++ told)
        → changed w next (opposite c (bank_of w bytes)) ≡ accepted bytes
    withdrawal = holders.withdrawal (wides w) w Whole encodes bytes l bytes (own bytes l)

    -- a run of calls, withdrawn last first, gives any bank back byte for byte
    pub withdrawn-run : (run : List Call) → withdrawn (wide_does w) run bytes ≡ bytes
    withdrawn-run = holders.withdrawn-run (wides w) w Whole encodes bytes l (own bytes l)

    -- and the history goes on as if the run had not been
    pub as-if-no-burst : (steps : List Step) → ran (wide_does w) steps bytes ≡ ran (wide_does w) (without_bursts steps) bytes
    as-if-no-burst = holders.as-if-not (wides w) w Whole encodes bytes l (own bytes l)

    -- the free slots of the bank go out first, from the back forward, and then the released ones
    pub in_order : (steps : List Step)
        → (ran (wide_does w) steps bytes).handed
        ≡ take (length (ran (wide_does w) steps bytes).handed) (free (bank_of w bytes) ++ (ran (wide_does w) steps bytes).released)
    in_order = holders.in_order (wides w) w Whole encodes bytes l (own bytes l)
