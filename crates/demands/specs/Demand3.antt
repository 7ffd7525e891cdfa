-- Demand 3: slots go out in the order of their rest, and a withdrawn run leaves no trace.
--
-- A history is any list of steps on one word of width W: calls of insert_from_back, remove and remove_slot, accepted or refused, and
-- runs of such calls that are withdrawn again, last first, each by its opposite (`opposites_of`): insert_from_back by remove_to_back at
-- its position, remove by insert_first_free at its position, remove_slot by insert_first_free at the position that the slot had.
-- `word_does` is one call, read off the answer that the call's contract promises; `ran` is the history. All calls of one history name one
-- width.
--
-- Request A13 amends document 01 here: a step may be a run of all three calls where it was one of insertions alone, and what is due
-- counts only what was not withdrawn. Request A4 amends it too: a history starts from the cleared word (`cleared_word`: the bits from
-- 4(W+1) up are 0), whatever it is. What is due are then its free slots from the back forward, and the released ones; where `empty` or
-- `make_sorted` gave the word, those are n, n+1, .., W-1 (`free-when-sorted`), so that the statements on sorted words and on the empty
-- one, which stand as they stood, are its cases. Withdrawal gives back the cleared word bit for bit, which is the word as given where
-- nothing strayed. The argument is made in `bank` over whatever holds a bank, and read off for words here, and for wide banks in
-- `Demand3Wide.antt` (A6).
use Rattle.std.specs.Prelude.{ℕ, ◌-◌, ◌<◌, ◌≡◌, List, [], ◌∷◌, ◌++◌, map, length, get_or, take}
use Rattle.refusal.specs.Answer.{accepted}
use Rattle.bank.specs.Lists.{up}
use Rattle.bank.specs.Bank.{place_in_use}
use Rattle.bank.specs.Calls.{insert_from_back, insert_first_free, remove, remove_to_back, remove_slot}
use Rattle.bank.specs.History.{Done, Call, inserting, removing, removing_slot, Step, without_bursts, withdrawn, withdrawn_run, ran, free}
use Rattle.nibbles.specs.Words.{bank_of, cleared_word}
use Rattle.permuter.specs.Words.{changed, made_sorted, made_empty}
use Rattle.permuter.specs.History.{word_does}
use Rattle.permuter.proofs.InOrder as order
use Rattle.permuter.proofs.History as words

-- what a history on a word of width W does: the word now, the slots handed out, the slots released, and the calls that take it back
abbrev pub history : ℕ → List Step → ℕ → Done ℕ
history width steps start = ran (word_does width) steps start

-- what is due: n, n+1, .., W-1, then the released slots in order of release
abbrev pub due : ℕ → ℕ → List Step → ℕ → List ℕ
due width n steps start = up n (width - n) ++ (history width steps start).released

-- what is due from a word: its free slots from the back forward, then the released slots in order of release
abbrev pub due_from : ℕ → List Step → ℕ → List ℕ
due_from width steps word = free (bank_of width word) ++ (history width steps (cleared_word width word)).released

-- From any word, once it is cleared, whatever is called: the slots handed out are the first of those that are due. Where the width or the
-- cleared word is refused, none is.
pub in-order-from-any : (width word : ℕ) (steps : List Step)
    → (history width steps (cleared_word width word)).handed
    ≡ take (length (history width steps (cleared_word width word)).handed) (due_from width steps word)
in-order-from-any width word steps = words.in_order width steps word

-- The k-th slot handed out is the k-th that is due.
pub kth-from-any : (width word : ℕ) (steps : List Step) (k : ℕ) → k < length (history width steps (cleared_word width word)).handed
    → (k < length (due_from width steps word))
    × (get_or (history width steps (cleared_word width word)).handed k 0 ≡ get_or (due_from width steps word) k 0)
kth-from-any = order.kth-from-any

-- A history that is given the word with its stray bits hands out and releases what the one from the cleared word does.
pub strays-leave-no-trace : (width word : ℕ) (steps : List Step)
    → ((history width steps word).handed ≡ (history width steps (cleared_word width word)).handed)
    × ((history width steps word).released ≡ (history width steps (cleared_word width word)).released)
strays-leave-no-trace width word steps = let d = words.as-cleared width steps word in (d.handed, d.released)

-- The free slots of a sorted word with n slots taken, from the back forward, are n, n+1, .., W-1.
pub free-when-sorted : (width n start : ℕ) → made_sorted width n ≡ accepted (start ∷ []) → free (bank_of width start) ≡ up n (width - n)
free-when-sorted = order.free-when-sorted

-- From a sorted word with n slots taken, whatever is called: the slots handed out are the first of those that are due.
pub in_order : (width n start : ℕ) → made_sorted width n ≡ accepted (start ∷ []) → (steps : List Step)
    → (history width steps start).handed ≡ take (length (history width steps start).handed) (due width n steps start)
in_order = order.in_order

-- The k-th slot handed out is the k-th that is due.
pub kth : (width n start : ℕ) → made_sorted width n ≡ accepted (start ∷ []) → (steps : List Step) (k : ℕ)
    → k < length (history width steps start).handed
    → (k < length (due width n steps start)) × (get_or (history width steps start).handed k 0 ≡ get_or (due width n steps start) k 0)
kth = order.kth

-- From the empty word the same holds, with none taken.
pub kth-from-empty : (width start : ℕ) → made_empty width ≡ accepted (start ∷ []) → (steps : List Step) (k : ℕ)
    → k < length (history width steps start).handed
    → (k < length (due width 0 steps start)) × (get_or (history width steps start).handed k 0 ≡ get_or (due width 0 steps start) k 0)
kth-from-empty = order.kth-from-empty

-- An accepted insertion, whatever it tells beside the word, is taken back by remove_to_back at its position: accepted, and the cleared word
-- of before bit for bit.
pub withdrawal : (width word i : ℕ) {next : ℕ} (told : List ℕ) → changed width word (insert_from_back i) ≡ accepted (next ∷ told)
    → changed width next (remove_to_back i) ≡ accepted (cleared_word width word ∷ [])
withdrawal width word i told e = words.withdrawal width word (inserting i) told e

-- An accepted removal is taken back by insert_first_free at its position.
pub removal-withdrawn : (width word i : ℕ) {next : ℕ} → changed width word (remove i) ≡ accepted (next ∷ [])
    → changed width next (insert_first_free i) ≡ accepted (cleared_word width word ∷ [])
removal-withdrawn width word i e = words.withdrawal width word (removing i) [] e

-- The removal of a slot is taken back by insert_first_free at the position that the slot had.
pub slot-removal-withdrawn : (width word slot : ℕ) {next : ℕ} → changed width word (remove_slot slot) ≡ accepted (next ∷ [])
    → changed width next (insert_first_free (place_in_use slot (bank_of width word))) ≡ accepted (cleared_word width word ∷ [])
slot-removal-withdrawn width word slot e = words.withdrawal width word (removing_slot slot) [] e

-- So is any run of these calls, refused ones among them, on any word at any width: withdrawn last first it gives the cleared word back bit
-- for bit.
pub withdrawn-calls : (width : ℕ) (run : List Call) (word : ℕ)
    → withdrawn (word_does width) run (cleared_word width word) ≡ cleared_word width word
withdrawn-calls = words.withdrawn-run

-- Of it a case: any run of insertions, refused ones among them, on any word at any width.
pub withdrawn-run : (width : ℕ) (positions : List ℕ) (word : ℕ)
    → withdrawn_run (word_does width) positions (cleared_word width word) ≡ cleared_word width word
withdrawn-run width positions word = words.withdrawn-run width (map inserting positions) word

-- And the history goes on as if the runs had not been: the same word, the same slots handed out, the same released.
pub as-if-not : (width : ℕ) (steps : List Step) (word : ℕ)
    → history width steps (cleared_word width word) ≡ history width (without_bursts steps) (cleared_word width word)
as-if-not = words.as-if-no-burst
