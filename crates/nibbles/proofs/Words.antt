-- A bank in a word: its slots by masks and shifts, and the rule of a valid word. Assumes nothing.
use mathlib.Core.Path.{◌≡◌, refl, sym, ap, ap₂, ◌∙◌, subst}
use mathlib.Core.Bool.{Bool, true, false, ◌&&◌}
use mathlib.Core.Logic.{◌⊎◌, inl, inr}
use mathlib.Core.List.{List, ◌++◌}
use Prim.Native.Nat.{ℕ, zero, suc, ◌+◌, ◌-◌, ◌*◌, ◌/◌, ◌%◌, ◌^◌, ◌≤◌, ◌<◌}
use native.Mathlib.Nat.{mod-lt, mod-eq_of_lt, add-zero, zero-mul, zero-add, div-eq_of_lt, div-div-eq-div-mul, mul_comm}
use native.Mathlib.Decide.{dec_lt}
use native.Mathlib.Numerals.{add-one}
use native.Mathlib.Omega.{arith}
use lib.ListN.{length, get_or}
use lib.Bits.{differ, bit_xor, xor_step, xor_lt, xor_block, xor_shr, xor_zero_l}
use lib.Pow.{split, pow-add, pow_pos, pow_mono, field, mod-mod-pow, shr_le}
use borrow.Author.Rules.{rules}
use borrow.Author.Tests.{eq-eqb, le-leb, lt-leb, lt-ltb, le-ltb}
use Rattle.bank.specs.Lists.{each_once, up}
use Rattle.bank.specs.Bank.{valid}
use Rattle.bank.proofs.Sorted.{drop-up, once-filled}
use Rattle.bank.proofs.Judged.{judging}
use Rattle.nibbles.specs.Nibbles.{nibbles}
use Rattle.nibbles.specs.Words.{bank_of, valid_word, cleared_word, good_width}
use Rattle.nibbles.proofs.Nibbles.{pow_step, length-nibbles, get_d-nibbles, drop-nibbles, nibbles-join, nibbles-low}

-- ---- reading a word

pub slot-here : (w word i : ℕ) → i < w → get_or (nibbles w (word / 16)) i 0 ≡ word / 2 ^ (4 * (i + 1)) % 16
slot-here w word i h =
    get_d-nibbles w (word / 16) i h ∙ rw (add-one i, pow_step, div-div-eq-div-mul, mul_comm 16)

-- ---- a word without its stray bits

module _ (w word : ℕ) where
  -- the size and the positions are in the nibbles up to the width
  size_low : word % 2 ^ (4 * w + 4) % 16 ≡ word % 16
  size_low = mod-mod-pow word (4 * w) 4

  slots-low : nibbles w (word % 2 ^ (4 * w + 4) / 16) ≡ nibbles w (word / 16)
  slots-low = ap (nibbles w) (field word (4 * w) 4) ∙ nibbles-low w (word / 16)

  pub bank-low : bank_of w (word % 2 ^ (4 * (w + 1))) ≡ bank_of w word
  bank-low =
      ap (λ (n : ℕ). bank_of w (word % 2 ^ n)) (let e : 4 * (w + 1) ≡ 4 * w + 4 = omega arith in e)
      ∙ ap₂ (λ (n : ℕ) (ps : List ℕ). record { size = n; slots = ps }) size_low slots-low

  cleared-narrow : w < 15 → cleared_word w word ≡ word % 2 ^ (4 * w + 4)
  cleared-narrow h = rw (lt-ltb w 15 h, let e : 4 * (w + 1) ≡ 4 * w + 4 = omega arith in e)

  -- from width 15 on it is the word itself
  pub cleared-wide : 15 ≤ w → cleared_word w word ≡ word
  cleared-wide h = rw (le-ltb w 15 h)

  -- the size and the positions are those of the word as given
  pub size-cleared : cleared_word w word % 16 ≡ word % 16
  size-cleared =
      elim (dec_lt w 15) [
        | yes h ↦ ap (λ (x : ℕ). x % 16) (cleared-narrow h) ∙ size_low
        | no h ↦ ap (λ (x : ℕ). x % 16) (cleared-wide (omega arith))
      ]

  pub slots-cleared : nibbles w (cleared_word w word / 16) ≡ nibbles w (word / 16)
  slots-cleared =
      elim (dec_lt w 15) [
        | yes h ↦ ap (λ (x : ℕ). nibbles w (x / 16)) (cleared-narrow h) ∙ slots-low
        | no h ↦ ap (λ (x : ℕ). nibbles w (x / 16)) (cleared-wide (omega arith))
      ]

  pub bank-cleared : bank_of w (cleared_word w word) ≡ bank_of w word
  bank-cleared = ap₂ (λ (n : ℕ) (ps : List ℕ). record { size = n; slots = ps }) size-cleared slots-cleared

  -- a word with no stray bits is as it was, and so is one that was cleared
  pub cleared-small : word < 2 ^ (4 * (w + 1)) → cleared_word w word ≡ word
  cleared-small f =
      elim (dec_lt w 15) [
        | yes h ↦ rw (lt-ltb w 15 h) (mod-eq_of_lt f)
        | no h ↦ cleared-wide (omega arith)
      ]

  pub cleared-again : cleared_word w (cleared_word w word) ≡ cleared_word w word
  cleared-again =
      elim (dec_lt w 15) [
        | yes h ↦ rw (lt-ltb w 15 h) (mod-eq_of_lt (mod-lt word (pow_pos (4 * (w + 1)))))
        | no h ↦ rw (le-ltb w 15 (let l : 15 ≤ w = omega arith in l))
      ]

  -- and nothing stands above them
  pub cleared-lt : w ≤ 15 → word < 2 ^ 64 → cleared_word w word < 2 ^ (4 * (w + 1))
  cleared-lt m f =
      elim (dec_lt w 15) [
        | yes h ↦ rw (lt-ltb w 15 h) (mod-lt word (pow_pos (4 * (w + 1))))
        | no h ↦
            let e : 64 ≡ 4 * (w + 1) = omega arith in
            rw (cleared-wide (omega arith)) (subst (λ (n : ℕ). word < 2 ^ n) e f)
      ]

-- ---- the rule of a valid word

-- the numbers from w on, as the places above the width hold them
filled : (w : ℕ) → w ≤ 16 → nibbles (16 - w) (0xFEDCBA9876543210 / 2 ^ (4 * w)) ≡ up w (16 - w)
unfolding nibbles up
filled w h =
    sym (drop-nibbles w 16 0xFEDCBA9876543210 h) ∙ drop-up 0 w 16 h ∙ ap (λ (s : ℕ). up s (16 - w)) (zero-add w)

-- where two numbers differ, and the second again: the first
differ-twice : (p q : ℕ) → p < 2 → q < 2 → (differ p q < 2) × (differ (differ p q) q ≡ p)
differ-twice zero zero h l = (omega arith, refl)
differ-twice zero (suc zero) h l = (omega arith, refl)
differ-twice (suc zero) zero h l = (omega arith, refl)
differ-twice (suc zero) (suc zero) h l = (omega arith, refl)
differ-twice zero (suc (suc q)) h l = absurd (omega arith)
differ-twice (suc zero) (suc (suc q)) h l = absurd (omega arith)
differ-twice (suc (suc p)) q h l = absurd (omega arith)

xor-twice : (k a b : ℕ) → a < 2 ^ k → b < 2 ^ k → bit_xor (bit_xor a b) b ≡ a
xor-twice zero a b h l =
    ap₂ (λ (x y : ℕ). bit_xor (bit_xor x y) y) (let e : a ≡ 0 = omega arith in e) (let e : b ≡ 0 = omega arith in e)
    ∙ (let e : 0 ≡ a = omega arith in e)
xor-twice (suc k) a b h l =
    let p : 2 ^ suc k ≡ 2 ^ k * 2 = ap (λ (j : ℕ). 2 ^ j) (sym (add-one k)) ∙ pow-add 2 k 1 in
    let d = differ-twice (a % 2) (b % 2) (omega arith) (omega arith) in
    let half : bit_xor a b / 2 ≡ bit_xor (a / 2) (b / 2) = omega (arith, xor_step a b, d.0) in
    let odd : bit_xor a b % 2 ≡ differ (a % 2) (b % 2) = omega (arith, xor_step a b, d.0) in
    xor_step (bit_xor a b) b
    ∙ ap₂ (λ (x y : ℕ). x * 2 + y)
    (ap (λ (x : ℕ). bit_xor x (b / 2)) half ∙ xor-twice k (a / 2) (b / 2) (omega arith) (omega arith))
    (ap (λ (x : ℕ). differ x (b % 2)) odd ∙ d.1)
    ∙ (let e : a / 2 * 2 + a % 2 ≡ a = omega arith in e)

-- what is shifted down is no more than it was, and neither is it shifted up again
lifted-lt : (x t : ℕ) → x < 2 ^ 64 → x / 2 ^ t * 2 ^ t < 2 ^ 64
lifted-lt x t h = omega (arith, split x t)

lowered-lt : (x t : ℕ) → x < 2 ^ 64 → x / 2 ^ t < 2 ^ 64
lowered-lt x t h = omega (arith, shr_le x t)

-- the word's positions below them, whatever strays above
pub filling : (w word : ℕ) {above slots : ℕ} → word < 2 ^ 64 → slots ≡ word / 16
    → above ≡ bit_xor 0xFEDCBA9876543210 slots / 2 ^ (4 * w)
    → bit_xor ((above * 2 ^ (4 * w)) % 2 ^ 64) slots
    ≡ 0xFEDCBA9876543210 / 2 ^ (4 * w) * 2 ^ (4 * w) + word / 16 % 2 ^ (4 * w)
filling w word {above} {slots} f s e =
    rw (e, s)
    (ap (λ (x : ℕ). bit_xor x y)
    (mod-eq_of_lt (lifted-lt (bit_xor r y) t (xor_lt 64 r y (omega arith) small)) ∙ sym (add-zero (bit_xor r y / 2 ^ t * 2 ^ t)))
    ∙ ap (bit_xor (bit_xor r y / 2 ^ t * 2 ^ t + 0)) (sym (split y t))
    ∙ xor_block t (bit_xor r y / 2 ^ t) (y / 2 ^ t) 0 (y % 2 ^ t) (pow_pos t) (mod-lt y (pow_pos t))
    ∙ ap₂ (λ (a b : ℕ). a * 2 ^ t + b)
    (ap (λ (x : ℕ). bit_xor x (y / 2 ^ t)) (xor_shr r y t)
    ∙ xor-twice 64 (r / 2 ^ t) (y / 2 ^ t) (lowered-lt r t (omega arith)) (lowered-lt y t small))
    (xor_zero_l (y % 2 ^ t)))
  where
    t : ℕ
    t = 4 * w

    r : ℕ
    r = 0xFEDCBA9876543210

    y : ℕ
    y = word / 16

    small : word / 16 < 2 ^ 64
    small = omega arith

-- the highest of the sixteen is 15 at every width
pub highest : {x : ℕ} (w y : ℕ) → w ≤ 15 → x ≡ 0xFEDCBA9876543210 / 2 ^ (4 * w) * 2 ^ (4 * w) + y → 2 ^ 60 ≤ x
highest w y h e =
    let m : 0xFEDCBA9876543210 % 2 ^ (4 * w) < 2 ^ (4 * w) = mod-lt 0xFEDCBA9876543210 (pow_pos (4 * w)) in
    let p : 2 ^ (4 * w) ≤ 2 ^ 60 = pow_mono (let n : 4 * w ≤ 60 = omega arith in n) in
    omega (arith, e, m, p, split 0xFEDCBA9876543210 (4 * w))

pub below-if-none : (x k : ℕ) → x / 2 ^ k ≡ 0 → x < 2 ^ k
below-if-none x k e =
    subst (λ (y : ℕ). y < 2 ^ k) (ap (λ (q : ℕ). q * 2 ^ k + x % 2 ^ k) (sym e) ∙ split x k)
    (rw (zero-mul, zero-add) (mod-lt x (pow_pos k)))

module _ (w word : ℕ) {size : ℕ} (s : size ≡ word % 16) where
  pub valid-size : w < size → false ≡ valid_word w (cleared_word w word)
  unfolding valid_word valid
  valid-size h = rw (length-nibbles, size-cleared w word, lt-leb (word % 16) w (omega arith))

  -- sixteen nibbles, those above the width with their own numbers
  pub valid-once : {x : ℕ} {r : Bool} → size ≤ w → w ≤ 15 → word < 2 ^ 64
      → x ≡ 0xFEDCBA9876543210 / 2 ^ (4 * w) * 2 ^ (4 * w) + word / 16 % 2 ^ (4 * w) → r ≡ each_once (nibbles 16 x)
      → r ≡ valid_word w (cleared_word w word)
  unfolding valid_word valid
  valid-once {x} h m f e g =
      rw (
        length-nibbles,
        size-cleared w word,
        slots-cleared w word,
        le-leb (word % 16) w (omega arith),
        eq-eqb
            (cleared_word w word / 2 ^ (4 * (w + 1))) 0 (div-eq_of_lt (cleared-lt w word m f)),
      )
      (g ∙ ap each_once all ∙ once-filled (nibbles w (word / 16)) (16 - w) ∙ and-true (each_once (nibbles w (word / 16))))
    where
      and-true : (b : Bool) → b ≡ b && true
      and-true true = refl
      and-true false = refl

      all : nibbles 16 x ≡ nibbles w (word / 16) ++ up (length (nibbles w (word / 16))) (16 - w)
      all =
          ap₂ nibbles (let n : 16 ≡ w + (16 - w) = omega arith in n) e
          ∙ nibbles-join w (16 - w) (0xFEDCBA9876543210 / 2 ^ (4 * w)) (word / 16 % 2 ^ (4 * w)) (mod-lt (word / 16) (pow_pos (4 * w)))
          ∙ ap₂ ◌++◌ (nibbles-low w (word / 16)) (filled w (omega arith))
          ∙ ap (λ (n : ℕ). nibbles w (word / 16) ++ up n (16 - w)) (sym (length-nibbles w (word / 16)))

-- ---- the rule of a width, and the judgement

module _ (w : ℕ) where
  pub wrong_width : (w < 1) ⊎ ((1 ≤ w) × (15 < w)) → good_width w ≡ false
  wrong_width (inl h) = rw (lt-leb 1 w h)
  wrong_width (inr h) = rw (le-leb 1 w h.0, lt-leb w 15 h.1)

  pub wide_enough : 1 ≤ w → w ≤ 15 → good_width w ≡ true
  wide_enough h l = rw (le-leb 1 w h, le-leb w 15 l)

pub ruleset validity = (rules, highest, valid-size, valid-once)

pub ruleset judges = (rules, judging, wrong_width, wide_enough)
