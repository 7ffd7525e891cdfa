-- The entries of a leaf in order, by positions of its slot word. Assumes nothing.
use Prim.Native.Nat.{ℕ, ◌+◌, ◌*◌, ◌/◌, ◌%◌, ◌^◌, ◌≤◌, ◌<◌}
use mathlib.Core.Path.{◌≡◌, refl, sym, ap, ◌∙◌, subst}
use mathlib.Core.Bool.{Bool, true, false, cond}
use mathlib.Core.List.{List, [], ◌∷◌}
use native.Mathlib.Omega.{arith}
use lib.ListN.{length, get_or, length-map}
use lib.Seq.{length-take-le, get_or-take}
use borrow.Author.Rules.{rules}
use Rattle.refusal.specs.Answer.{Answer, accepted, refused}
use Rattle.refusal.specs.declared.Refusal.{Refusal}
use Rattle.refusal.proofs.Laws.{number-pos}
use Rattle.bank.specs.Bank.{Bank, width, slot_at}
use Rattle.bank.specs.Calls.{from_value}
use Rattle.bank.specs.Holder.{changed_in}
use Rattle.bank.proofs.Counts.{slot_lt}
use Rattle.std.specs.Prelude.{Result, Ok, Err, is_ok}
use Rattle.slot_answers.specs.declared.Refused.{Refused}
use Rattle.permuter.specs.Answers.{said_changed}
use Rattle.nibbles.specs.Nibbles.{nibbles}
use Rattle.nibbles.specs.Words.{bank_of, word_of, valid_word}
use Rattle.permuter.specs.Words.{changed}
use Rattle.nibbles.proofs.Nibbles.{length-nibbles}
use Rattle.nibbles.proofs.Words.{slot-here}
use Rattle.permuter.proofs.Judgement.{Good, good-valid}
use Rattle.leaf_entries.specs.declared.Entry.{Entry}
use Rattle.leaf_entries.specs.Leaf.{none, slots_in_use, viewed, slots_of, entries_in_order}
use Rattle.leaf_entries.proofs.Lists.{get_d_map}

-- ---- whatever holds the bank

module _ (b : Bank) (entries : List Entry) (h : b.size ≤ width b) where
  pub length-viewed : length (viewed b entries) ≡ b.size
  unfolding viewed
  length-viewed = length-map (slots_in_use b) (λ slot. get_or entries slot none) ∙ length-take-le b.size b.slots h

  pub viewed-at : (i : ℕ) → i < b.size → get_or (viewed b entries) i none ≡ get_or entries (slot_at i b) none
  unfolding viewed
  viewed-at i l =
      get_d_map (λ slot. get_or entries slot none) (slots_in_use b) i 0 none
      (let z : i < length (slots_in_use b) = rw (length-take-le b.size b.slots h) l in z)
      ∙ ap (λ (s : ℕ). get_or entries s none) (get_or-take b.size b.slots i 0 l)

-- ---- a leaf's slot word

-- the judgement of the word
pub valid-ok : (word : ℕ) (r : Result ℕ Refused) {b : Bool} → said_changed r ≡ changed 15 word from_value → b ≡ is_ok r
    → b ≡ valid_word 15 word
unfolding changed_in
valid-ok word (Ok x) e d = d ∙ by (valid_word 15 word) e
  where
    by : (p : Bool) → accepted (x ∷ []) ≡ cond p (accepted (word_of (bank_of 15 word) ∷ [])) (record { number = 2; values = word ∷ [] })
        → true ≡ p
    by true d = refl
    by false d = absurd (let z : ◌≡◌ {A = ℕ} 0 2 = ap (λ (a : Answer). a.number) d in omega arith)
valid-ok word (Err r) e d = d ∙ by (valid_word 15 word) e
  where
    by : (p : Bool)
        → refused r.why (r.word ∷ []) ≡ cond p (accepted (word_of (bank_of 15 word) ∷ [])) (record { number = 2; values = word ∷ [] })
        → false ≡ p
    by true d = absurd (omega (arith, ap (λ (a : Answer). a.number) d, number-pos r.why))
    by false d = refl

-- the slot at a position
pub slot-in-word : (word i : ℕ) → i < 15 → {slot : ℕ} → slot ≡ word / 2 ^ (4 * (i + 1)) % 16 → slot ≡ slot_at i (slots_of word)
slot-in-word word i l e = e ∙ sym (slot-here 15 word i l)

module _ (word : ℕ) (v : valid_word 15 word ≡ true) where
  pub good-word : Good 15 word
  good-word = good-valid 15 word refl v

  pub size-in-width : word % 16 ≤ width (slots_of word)
  size-in-width = rw (length-nibbles 15 (word / 16)) good-word.sized

  pub slot-fifteen : (i : ℕ) → i < 15 → {slot : ℕ} → slot ≡ slot_at i (slots_of word) → slot < 15
  slot-fifteen i l e =
      rw e
      (let z : slot_at i (slots_of word) < 15
      = subst (λ (n : ℕ). slot_at i (slots_of word) < n) (length-nibbles 15 (word / 16))
      (slot_lt (nibbles 15 (word / 16)) good-word.once i (omega (arith, length-nibbles 15 (word / 16)))) in
      z)

  module _ (entries : List Entry) where
    pub length-in-order : length (entries_in_order word entries) ≡ word % 16
    length-in-order = length-viewed (slots_of word) entries size-in-width

    -- the entry at a position is the one in the slot there
    pub entry-in-order : (i : ℕ) → i < word % 16 → {slot : ℕ} → slot ≡ slot_at i (slots_of word)
        → get_or (entries_in_order word entries) i none ≡ get_or entries slot none
    entry-in-order i l e =
        viewed-at (slots_of word) entries size-in-width i l ∙ ap (λ (s : ℕ). get_or entries s none) (sym e)

pub ruleset words = (rules, valid-ok, slot-in-word, slot-fifteen)
