-- One law for each way in which a call on a judged word returns. Assumes nothing.
use mathlib.Core.Path.{◌≡◌, refl, sym, ◌∙◌, subst}
use mathlib.Core.Bool.{Bool, true, false, not}
use mathlib.Core.Logic.{◌⊎◌}
use mathlib.Core.List.{[], ◌∷◌}
use Prim.Native.Nat.{ℕ, suc, ◌+◌, ◌-◌, ◌*◌, ◌/◌, ◌%◌, ◌^◌, ◌≤◌, ◌<◌}
use native.Mathlib.Omega.{arith}
use native.Mathlib.Numerals.{add-one}
use lib.ListN.{length}
use borrow.Author.Rules.{rules}
use borrow.Author.Tests.{lt-leb, le-leb, le-ltb, not-true, not-false}
use Rattle.std.specs.Prelude.{Option, Result, Ok, Err, unwrap_or}
use Rattle.std.specs.Result.{result_err}
use Rattle.refusal.specs.Answer.{accepted, refused, ◌unless◌}
use Rattle.refusal.specs.Refusals.{number_of}
use Rattle.refusal.specs.declared.Refusal.{Refusal}
use Rattle.refusal.specs.declared.Refusal.TheVariants.{Width, Word, Position, Full}
use Rattle.bank.specs.Bank.{width, slot_at, inserted_from_back}
use Rattle.bank.specs.Calls.{insert_from_back, rotate, swap_free_slots}
use Rattle.bank.specs.Holder.{changed_in}
use Rattle.bank.specs.Judged.{judged_in}
use Rattle.bank.proofs.Tried.{went_on}
use Rattle.bank.proofs.Judged.{go_on, refused-held}
use Rattle.bank.proofs.Returns.{returns, rotate-out, swap-out, insert-so}
use Rattle.nibbles.specs.Nibbles.{nibbles}
use Rattle.nibbles.specs.Words.{bank_of, word_of, valid_word, cleared_word, words, judged}
use Rattle.nibbles.proofs.Nibbles.{length-nibbles, pack-whole}
use Rattle.nibbles.proofs.Words.{slot-here, size-cleared}
use Rattle.slot_answers.specs.declared.Refused.{Refused}
use Rattle.slot_answers.specs.Words.{with_word, judged_back, changed, refused_by}
use Rattle.slot_answers.proofs.Judgement.{word_width, word-valid, good, word-asked, word-changed}

-- a word with no stray bits packs its own bank
pub word-again : (w word : ℕ) → word < 2 ^ (4 * (w + 1)) → word_of (bank_of w word) ≡ word
unfolding nibbles
word-again w word h = pack-whole (suc w) word (subst (λ (k : ℕ). word < 2 ^ (4 * k)) (add-one w) h)

-- ---- what the laws of returns ask of a word that was judged

pub wide_word : (w word : ℕ) → length (nibbles w (word / 16)) ≡ w
wide_word w word = length-nibbles w (word / 16)

module _ (w word : ℕ) {v : Result (Unit {0}) Refused} (e : v ≡ judged_back w word) (f : v ≡ Ok tt) where
  -- the slot at a position, at the back, and before the back
  pub slot-word : {slot : ℕ} (i : ℕ) → i < w → slot ≡ word / 2 ^ (4 * (i + 1)) % 16 → slot ≡ slot_at i (bank_of w word)
  slot-word i l d = d ∙ sym (slot-here w word i l)

  pub back-word : {slot : ℕ} → slot ≡ word / 2 ^ (4 * w) % 16 → slot ≡ slot_at (width (bank_of w word) - 1) (bank_of w word)
  back-word d =
      let l = (good w word e f).least in
      rw (wide_word w word, slot-here w word (w - 1) (omega arith), d, let z : w - 1 + 1 ≡ w = omega arith in z)

  pub offset_word : {n slot : ℕ} (k : ℕ) → n ≡ word % 16 → k < w - n → slot ≡ word / 2 ^ (4 * (w - k)) % 16
      → slot ≡ slot_at (w - 1 - k) (bank_of w word)
  offset_word k s l d =
      rw (slot-here w word (w - 1 - k) (omega arith), d, let z : w - 1 - k + 1 ≡ w - k = omega arith in z)

  -- positions out of range, where several tests refuse alike
  pub rotate-word : (i j : ℕ) → (j < i) ⊎ ((i ≤ j) × (w < j)) → refused Position (word ∷ []) ≡ changed w word (rotate i j)
  rotate-word i j l = rotate-out (words w) word (word_width w word e f) (word-valid w word e f) refl (wide_word w word) i j l

  pub swap-word : {n : ℕ} (i j : ℕ) → n ≡ word % 16
      → (i < n) ⊎ (((n ≤ i) × (w ≤ i)) ⊎ (((n ≤ i) × (i < w) × (j < n)) ⊎ ((n ≤ i) × (i < w) × (n ≤ j) × (w ≤ j))))
      → refused Position (word ∷ []) ≡ changed w word (swap_free_slots i j)
  swap-word i j s l = swap-out (words w) word (word_width w word e f) (word-valid w word e f) refl (wide_word w word) s i j l

-- ---- an insertion, whose own rules are tried first

module _ (w word : ℕ) where
  module _ (r : Refused) {n : ℕ} (i : ℕ) (s : n ≡ word % 16) where
    pub insert-outside : n < i → refused r.why (r.word ∷ []) ≡ refused_by w word Position
        → refused r.why (r.word ∷ []) ≡ changed w word (insert_from_back i)
    unfolding changed_in
    insert-outside l d = rw (lt-leb i (word % 16) (omega arith)) d

    pub insert-full : i ≤ n → w ≤ n → refused r.why (r.word ∷ []) ≡ refused_by w word Full
        → refused r.why (r.word ∷ []) ≡ changed w word (insert_from_back i)
    unfolding changed_in
    insert-full l m d =
        rw (le-leb i (word % 16) (omega arith), length-nibbles, le-ltb (word % 16) w (omega arith)) d

  module _ {n : ℕ} (i : ℕ) (s : n ≡ word % 16) (m : n < w) where
    pub insert-wide : 15 < w → refused Width (word ∷ []) ≡ changed w word (insert_from_back i)
    unfolding changed_in
    insert-wide o = rw (le-leb 1 w (omega arith), lt-leb w 15 o)

    module _ (o : w ≤ 15) {v : Bool} (e : v ≡ valid_word w (cleared_word w word)) where
      pub insert-wrong : not v ≡ true → refused Word (word ∷ []) ≡ changed w word (insert_from_back i)
      unfolding changed_in
      insert-wrong h = rw (le-leb 1 w (omega arith), le-leb w 15 o, ← e, not-true v h)

      module _ (h : not v ≡ false) where
        fine : Ok tt ≡ judged_back w word
        unfolding judged_in
        fine = rw (le-leb 1 w (omega arith), le-leb w 15 o, ← e, not-false v h)

        pub insert-right : {r q k : ℕ} → i ≤ n → r ≡ word_of (inserted_from_back i (bank_of w word))
            → q ≡ word / 2 ^ (4 * w) % 16 → k ≡ w - (n + 1) → accepted (r ∷ q ∷ k ∷ []) ≡ changed w word (insert_from_back i)
        insert-right l d b k =
            insert-so (words w) word (word_width w word fine refl) (word-valid w word fine refl) i (wide_word w word) s l m d
            (back-word w word fine refl b) k refl

-- ---- any call that breaks a rule of its own, after the judgement

module _ (w word : ℕ) (own : Refusal) where
  first : (j : Result (Unit {0}) Refusal) → j ≡ judged w word → (o : Option Refused) (r : Refused)
      → o ≡ result_err (with_word word j) → r ≡ unwrap_or o (record { why = own; word = word })
      → refused r.why (r.word ∷ []) ≡ refused_by w word own
  first (Ok done) e o r m d = rw (d, m) (sym (go_on (words w) word e refl ((number_of own unless false) ∷ []) [] (word ∷ [])))
  first (Err why) e o r m d = rw (d, m) (refused-held (words w) word e refl ((number_of own unless false) ∷ []) [] (word ∷ []))

  pub refused-first : {v : Result (Unit {0}) Refused} (o : Option Refused) (r : Refused) → v ≡ judged_back w word
      → o ≡ result_err v → r ≡ unwrap_or o (record { why = own; word = word })
      → refused r.why (r.word ∷ []) ≡ refused_by w word own
  refused-first o r e m d = first (judged w word) refl o r (rw e at m) d

-- ---- what the functions inside ask, of a word that was judged

module _ (w word : ℕ) {v : Result (Unit {0}) Refused} (e : v ≡ judged_back w word) (f : v ≡ Ok tt) where
  pub width-here : w ≤ 15
  width-here = (good w word e f).most

  pub place-near : w < 16
  place-near = omega (arith, (good w word e f).most)

  pub below-width : {i : ℕ} → i < w → i + 1 < 16
  below-width l = omega (arith, (good w word e f).most)

  pub before-width : (i : ℕ) → w - i < 16
  before-width i = omega (arith, (good w word e f).most)

  pub size_word : word % 16 ≤ w
  size_word = omega (arith, (good w word e f).sized, size-cleared w word)

  pub size-here : {n : ℕ} → n ≡ word % 16 → n ≤ w
  size-here s = omega (arith, size_word)

  pub next_here : {n i : ℕ} → n ≡ word % 16 → i < n → i + 1 ≤ w
  next_here s l = omega (arith, size_word)

  pub new-size : {n : ℕ} → n ≤ w → n < 16
  new-size l = omega (arith, (good w word e f).most)

pub ruleset calls = (went_on, returns, word-asked, word-changed, word_width, word-valid, wide_word, size_word, slot-word, back-word, offset_word, rotate-word, swap-word)

pub ruleset asks = (rules, went_on, width-here, place-near, below-width, before-width, size-here, next_here, size_word, new-size)

pub ruleset inserts = (rules, insert-outside, insert-full, insert-wide, insert-wrong, insert-right)
