-- Demand 3 for wide banks (A6): the same statements of 25 bytes that hold a bank of width 16 to 24, from the same argument over whatever
-- holds a bank. Bytes from outside are judged as they are, so that nothing is cleared here. All calls of one history name one width.
use Rattle.std.specs.Prelude.{ℕ, ◌-◌, ◌<◌, ◌≡◌, List, ◌++◌, length, get_or, take}
use Rattle.refusal.specs.Answer.{accepted}
use Rattle.bank.specs.Lists.{up}
use Rattle.bank.specs.Bank.{place_in_use}
use Rattle.bank.specs.Calls.{insert_from_back, insert_first_free, remove, remove_to_back, remove_slot}
use Rattle.bank.specs.History.{Done, Call, inserting, removing, removing_slot, Step, without_bursts, withdrawn, ran, free}
use Rattle.wide_bytes.specs.Wide.{bank_of}
use Rattle.wide_bank.specs.Wides.{changed, made_sorted, made_empty}
use Rattle.wide_bank.specs.History.{wide_does}
use Rattle.wide_bank.proofs.InOrder as order
use Rattle.wide_bank.proofs.History as wides

-- what a history on a bank of width W does
abbrev pub history : ℕ → List Step → List ℕ → Done (List ℕ)
history width steps start = ran (wide_does width) steps start

-- what is due from a bank: its free slots from the back forward, then the released slots in order of release
abbrev pub due_from : ℕ → List Step → List ℕ → List ℕ
due_from width steps bank = free (bank_of width bank) ++ (history width steps bank).released

-- what is due from a sorted bank with n slots taken: n, n+1, .., W-1, then the released slots in order of release
abbrev pub due : ℕ → ℕ → List Step → List ℕ → List ℕ
due width n steps start = up n (width - n) ++ (history width steps start).released

-- From any 25 bytes, whatever is called: the slots handed out are the first of those that are due. Where the width or the bank is
-- refused, none is.
pub in-order-from-any : (width : ℕ) (bank : List ℕ) → length bank ≡ 25 → (steps : List Step)
    → (history width steps bank).handed ≡ take (length (history width steps bank).handed) (due_from width steps bank)
in-order-from-any = wides.in_order

-- The k-th slot handed out is the k-th that is due.
pub kth-from-any : (width : ℕ) (bank : List ℕ) → length bank ≡ 25 → (steps : List Step) (k : ℕ)
    → k < length (history width steps bank).handed
    → (k < length (due_from width steps bank)) × (get_or (history width steps bank).handed k 0 ≡ get_or (due_from width steps bank) k 0)
kth-from-any = order.kth-from-any

-- The free slots of a sorted bank with n slots taken, from the back forward, are n, n+1, .., W-1.
pub free-when-sorted : (width n : ℕ) (start : List ℕ) → made_sorted width n ≡ accepted start → free (bank_of width start) ≡ up n (width - n)
free-when-sorted = order.free-when-sorted

-- From a sorted bank with n slots taken, whatever is called: the slots handed out are the first of those that are due.
pub in_order : (width n : ℕ) (start : List ℕ) → made_sorted width n ≡ accepted start → (steps : List Step)
    → (history width steps start).handed ≡ take (length (history width steps start).handed) (due width n steps start)
in_order = order.in_order

-- The k-th slot handed out is the k-th that is due.
pub kth : (width n : ℕ) (start : List ℕ) → made_sorted width n ≡ accepted start → (steps : List Step) (k : ℕ)
    → k < length (history width steps start).handed
    → (k < length (due width n steps start)) × (get_or (history width steps start).handed k 0 ≡ get_or (due width n steps start) k 0)
kth = order.kth

-- From the empty bank the same holds, with none taken.
pub kth-from-empty : (width : ℕ) (start : List ℕ) → made_empty width ≡ accepted start → (steps : List Step) (k : ℕ)
    → k < length (history width steps start).handed
    → (k < length (due width 0 steps start)) × (get_or (history width steps start).handed k 0 ≡ get_or (due width 0 steps start) k 0)
kth-from-empty = order.kth-from-empty

-- An accepted insertion, whatever it tells beside the bank, is taken back by remove_to_back at its position: accepted, and the bank of
-- before byte for byte.
pub withdrawal : (width i : ℕ) (bank next told : List ℕ) → length bank ≡ 25 → length next ≡ 25
    → changed width bank (insert_from_back i) ≡ accepted (next ++ told) → changed width next (remove_to_back i) ≡ accepted bank
withdrawal width i bank next told whole same e = wides.withdrawal width bank whole (inserting i) next told same e

-- An accepted removal is taken back by insert_first_free at its position.
pub removal-withdrawn : (width i : ℕ) (bank next told : List ℕ) → length bank ≡ 25 → length next ≡ 25
    → changed width bank (remove i) ≡ accepted (next ++ told) → changed width next (insert_first_free i) ≡ accepted bank
removal-withdrawn width i bank next told whole same e = wides.withdrawal width bank whole (removing i) next told same e

-- The removal of a slot is taken back by insert_first_free at the position that the slot had.
pub slot-removal-withdrawn : (width slot : ℕ) (bank next told : List ℕ) → length bank ≡ 25 → length next ≡ 25
    → changed width bank (remove_slot slot) ≡ accepted (next ++ told)
    → changed width next (insert_first_free (place_in_use slot (bank_of width bank))) ≡ accepted bank
slot-removal-withdrawn width slot bank next told whole same e =
    wides.withdrawal width bank whole (removing_slot slot) next told same e

-- So is any run of these calls, refused ones among them, on any 25 bytes at any width: withdrawn last first it gives the bank back byte for
-- byte.
pub withdrawn-calls : (width : ℕ) (bank : List ℕ) → length bank ≡ 25 → (run : List Call) → withdrawn (wide_does width) run bank ≡ bank
withdrawn-calls = wides.withdrawn-run

-- And the history goes on as if the runs had not been: the same bank, the same slots handed out, the same released.
pub as-if-not : (width : ℕ) (bank : List ℕ) → length bank ≡ 25 → (steps : List Step)
    → history width steps bank ≡ history width (without_bursts steps) bank
as-if-not = wides.as-if-no-burst
