-- A word goes through a history as the bank that it packs does: the argument over any holder, read off for words. Assumes nothing.
use mathlib.Core.Path.{◌≡◌, refl, sym, ap, ap₂, ◌∙◌, subst}
use mathlib.Core.Bool.{true}
use mathlib.Core.List.{List, [], ◌∷◌, ◌++◌}
use Prim.Native.Nat.{ℕ, zero, suc, ◌+◌, ◌-◌, ◌*◌, ◌/◌, ◌%◌, ◌^◌, ◌≤◌, ◌<◌}
use native.Mathlib.Nat.{div-eq_of_lt}
use native.Mathlib.Omega.{arith}
use lib.ListN.{length, get_or, take}
use lib.Arith.{digits_mod, digits_div}
use lib.Dec.{T, leb, leb→le}
use borrow.Author.Tests.{le-leb, eq-eqb}
use Rattle.refusal.specs.Answer.{accepted}
use Rattle.bank.specs.Lists.{each_once}
use Rattle.bank.specs.Bank.{Bank, width, valid, inserted_from_back}
use Rattle.bank.specs.Calls.{Change, insert_from_back, after}
use Rattle.bank.specs.History.{Call, as_change, Step, without_bursts, withdrawn, ran, free}
use Rattle.bank.proofs.Tests.{is_true, and_left, and_right, holds}
use Rattle.bank.proofs.Counts.{slot_lt}
use Rattle.bank.proofs.Moves.{length-turned, once-turned}
use Rattle.bank.proofs.History.{opposite}
use Rattle.bank.proofs.Holder as holders
use Rattle.bank.proofs.Alike as alike
use Rattle.nibbles.specs.Nibbles.{pack, nibbles}
use Rattle.nibbles.specs.Words.{bank_of, word_of, good_width, valid_word, cleared_word, words}
use Rattle.nibbles.proofs.Nibbles.{length-nibbles, pack-lt, nibbles-pack}
use Rattle.nibbles.proofs.Words.{size-cleared, slots-cleared, bank-cleared, cleared-small, cleared-again}
use Rattle.slot_answers.specs.Words.{changed}
use Rattle.slot_answers.proofs.Judgement.{Good, good-valid}
use Rattle.slot_answers.proofs.Calls.{word-again}
use Rattle.permuter.specs.History.{word_does}

-- ---- a bank that a word of width w can hold, packed and read again

pub record Fit (w : ℕ) (b : Bank) : Type 0 where
  pub least : 1 ≤ w
  pub most : w ≤ 15
  pub wide : width b ≡ w
  pub sized : b.size ≤ w
  pub once : T (each_once b.slots)

module _ (w : ℕ) (b : Bank) (f : Fit w b) where
  small : (i : ℕ) → i < length b.slots → get_or b.slots i 0 < 16
  small i l = omega (arith, slot_lt b.slots f.once i l)

  pub size-packed : word_of b % 16 ≡ b.size
  unfolding pack
  size-packed = digits_mod (pack b.slots) (let l : b.size < 16 = omega arith in l)

  pub slots-packed : nibbles w (word_of b / 16) ≡ b.slots
  unfolding pack
  slots-packed =
      ap₂ nibbles (sym f.wide) (digits_div (pack b.slots) (let l : b.size < 16 = omega arith in l))
      ∙ nibbles-pack b.slots small

  packed_lt : word_of b < 2 ^ (4 * (w + 1))
  packed_lt =
      subst (λ (k : ℕ). word_of b < 2 ^ (4 * k)) (let e : suc (length b.slots) ≡ w + 1 = omega arith in e)
      (pack-lt (b.size ∷ b.slots) digits)
    where
      digits : (i : ℕ) → i < suc (length b.slots) → get_or (b.size ∷ b.slots) i 0 < 16
      digits zero l = omega arith
      digits (suc i) l = small i (omega arith)

  pub width-packed : good_width w ≡ true
  width-packed = rw (le-leb 1 w f.least, le-leb w 15 f.most)

  pub valid-packed : valid_word w (word_of b) ≡ true
  unfolding valid_word valid
  valid-packed =
      rw (
        size-packed,
        slots-packed,
        f.wide,
        le-leb b.size w f.sized,
        is_true (each_once b.slots) f.once,
        eq-eqb
            (word_of b / 2 ^ (4 * (w + 1))) 0 (div-eq_of_lt packed_lt),
      )

pub fit-inserted : (w i : ℕ) (b : Bank) → Fit w b → i ≤ b.size → b.size < w → Fit w (inserted_from_back i b)
fit-inserted w i b f p q =
    record {
      least = f.least;
      most = f.most;
      wide = length-turned i (width b - 1) (width b) b.slots (omega arith) (omega arith) ∙ f.wide;
      sized = omega arith;
      once = once-turned i (width b - 1) (width b) b.slots (omega arith) (omega arith) f.once;
    }

-- ---- a word as a holder of a bank

-- every number is a word, good or not
abbrev pub Any : ℕ → Type 0
Any word = Unit {0}

-- a word that passes the judgement: the cleared one is valid
good-word : (w word : ℕ) → holders.Fine (words w) word → Good w (cleared_word w word)
good-word w word f = good-valid w (cleared_word w word) f.good f.valid

least : (w : ℕ) → good_width w ≡ true → 1 ≤ w
least w e = leb→le 1 w (and_left (leb 1 w) (leb w 15) (holds e))

most : (w : ℕ) → good_width w ≡ true → w ≤ 15
most w e = leb→le w 15 (and_right (leb 1 w) (leb w 15) (holds e))

module _ (w : ℕ) where
  -- every valid bank of a good width is packed in a valid word
  pub packed : (b : Bank) → Fit w b → holders.Packed (words w) w Any b
  packed b f =
      record {
        whole = tt;
        valid = ap (valid_word w) (cleared-small w (word_of b) (packed_lt w b f)) ∙ valid-packed w b f;
        unpacked = rw (size-packed w b f, slots-packed w b f);
      }

  pub encodes : holders.Encodes (words w) w Any
  encodes =
      record {
        read_again = λ word more t. refl;
        rest = λ word more t. refl;
        fits = λ word t f.
            let g = good-word w word f in
            record {
              wide = length-nibbles w (word / 16);
              sized = omega (arith, g.sized, size-cleared w word);
              once = subst (λ (ps : List ℕ). T (each_once ps)) (slots-cleared w word) g.once;
            };
        packed = λ good b f.
            packed b (record { least = least w good; most = most w good; wide = f.wide; sized = f.sized; once = f.once });
      }

  -- a word that passes packs its bank once it is cleared
  again : (word : ℕ) → holders.Fine (words w) word → word_of (bank_of w word) ≡ cleared_word w word
  again word f = ap word_of (sym (bank-cleared w word)) ∙ word-again w (cleared_word w word) (good-word w word f).clear

  own : (word : ℕ) → holders.Fine (words w) (cleared_word w word) → word_of (bank_of w (cleared_word w word)) ≡ cleared_word w word
  own word f = again (cleared_word w word) f ∙ cleared-again w word

  -- what an accepted call leaves has no stray bits
  pub no-strays : (word : ℕ) (c : Change) {next : ℕ} (told : List ℕ) → changed w word c ≡ accepted (next ∷ told) → next < 2 ^ (4 * (w + 1))
  no-strays word c {next} told e =
      let a = holders.accepted-so (words w) w Any encodes word c next told tt tt e in
      rw a.is-next
      (packed_lt w (after c (bank_of w word))
      (record {
        least = least w a.fine.good;
        most = most w a.fine.good;
        wide = a.fits.wide;
        sized = a.fits.sized;
        once = a.fits.once;
      }))

  -- how many rest after an accepted insertion from the back, and the size of the word that it leaves, make up the width
  pub rest-told : (word i : ℕ) {next slot resting : ℕ} → changed w word (insert_from_back i) ≡ accepted (next ∷ slot ∷ resting ∷ [])
      → next % 16 + resting ≡ w
  rest-told word i {next} {slot} {resting} e = holders.rest-told (words w) w Any encodes word tt i next slot resting tt e

  -- ---- demand 3, for any word at any width, once it is cleared

  -- an accepted call, withdrawn by its opposite
  pub withdrawal : (word : ℕ) (c : Call) {next : ℕ} (told : List ℕ) → changed w word (as_change c) ≡ accepted (next ∷ told)
      → changed w next (opposite c (bank_of w word)) ≡ accepted (cleared_word w word ∷ [])
  withdrawal word c {next} told e =
      holders.withdrawal (words w) w Any encodes word tt (cleared_word w word) (again word) c next told tt e

  -- a run of calls, withdrawn last first, gives any cleared word back bit for bit
  pub withdrawn-run : (run : List Call) (word : ℕ) → withdrawn (word_does w) run (cleared_word w word) ≡ cleared_word w word
  withdrawn-run run word = holders.withdrawn-run (words w) w Any encodes (cleared_word w word) tt (own word) run

  -- and the history goes on as if the run had not been
  pub as-if-no-burst : (steps : List Step) (word : ℕ)
      → ran (word_does w) steps (cleared_word w word) ≡ ran (word_does w) (without_bursts steps) (cleared_word w word)
  as-if-no-burst steps word = holders.as-if-not (words w) w Any encodes (cleared_word w word) tt (own word) steps

  -- the free slots of the word go out first, from the back forward, and then the released ones
  pub in_order : (steps : List Step) (word : ℕ)
      → (ran (word_does w) steps (cleared_word w word)).handed
      ≡ take (length (ran (word_does w) steps (cleared_word w word)).handed)
      (free (bank_of w word) ++ (ran (word_does w) steps (cleared_word w word)).released)
  in_order steps word =
      subst (λ (b : Bank). (ran (word_does w) steps (cleared_word w word)).handed
      ≡ take (length (ran (word_does w) steps (cleared_word w word)).handed)
      (free b ++ (ran (word_does w) steps (cleared_word w word)).released))
      (bank-cleared w word)
      (holders.in_order (words w) w Any encodes (cleared_word w word) tt (own word) steps)

  -- a word as given goes through a history as the cleared one does
  pub as-cleared : (steps : List Step) (word : ℕ)
      → alike.DoneAlike (words w) w Any encodes (ran (word_does w) steps word) (ran (word_does w) steps (cleared_word w word))
  as-cleared steps word =
      alike.alike-ran (words w) w Any encodes steps word (cleared_word w word)
      (record {
        judged = ap (valid_word w) (sym (cleared-again w word));
        bank = sym (bank-cleared w word);
        first = tt;
        second = tt;
      })
