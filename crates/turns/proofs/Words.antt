-- Moves of a bank in a word: its size and its positions, by masks and shifts. Assumes nothing.
use mathlib.Core.Path.{◌≡◌, refl, sym, ap, ap₂, ◌∙◌, subst}
use mathlib.Core.List.{List, ◌∷◌}
use Prim.Native.Nat.{ℕ, suc, ◌+◌, ◌-◌, ◌*◌, ◌/◌, ◌%◌, ◌^◌, ◌≤◌, ◌<◌}
use native.Mathlib.Nat.{mod-lt, mod-eq_of_lt, zero-lt-suc, add-mul, mul_assoc, mul_comm}
use native.Mathlib.Numerals.{add-one}
use native.Mathlib.Omega.{arith}
use lib.ListN.{length, get_or, take, set}
use lib.Seq.{length-take-le, get_or-take}
use lib.Pow.{shl_exact, split, shr_lt, shr-shr, pow_pos, field, mod-mod-pow, mod-pow-add}
use borrow.Author.Rules.{rules}
use Rattle.bank.specs.Lists.{swapped}
use Rattle.bank.specs.Bank.{Bank, inserted_from_back, resized, place_in_use}
use Rattle.bank.proofs.Counts.{place_at, place_none}
use Rattle.nibbles.specs.Nibbles.{pack, nibbles}
use Rattle.nibbles.specs.Words.{bank_of, word_of}
use Rattle.nibbles.proofs.Nibbles.{pow_step, low-lt, high_lt, join-lt, wider, length-nibbles, get_d-nibbles, pack-nibbles, nibbles-pack}
use Rattle.nibbles.proofs.Nibbles.{nibbles-low}
use Rattle.nibbles.proofs.Words.{slot-here, bank-low}
use Rattle.turns.proofs.Moves.{pack-inserted, small-set, length-put}

-- ---- reading a word

slots-lt : (w word : ℕ) → word < 2 ^ (4 * (w + 1)) → word / 16 < 2 ^ (4 * w)
slots-lt w word h = shr_lt (4 * w) 4 (subst (λ (n : ℕ). word < 2 ^ n) (let e : 4 * (w + 1) ≡ 4 * w + 4 = omega arith in e) h)

-- the position in use that holds a slot, or the size: i positions are passed
module _ (w word slot : ℕ) (h : word % 16 ≤ w) where
  in-use-at : (k : ℕ) → k < word % 16 → get_or (take (word % 16) (nibbles w (word / 16))) k 0 ≡ word / 2 ^ (4 * (k + 1)) % 16
  in-use-at k l = get_or-take (word % 16) (nibbles w (word / 16)) k 0 l ∙ slot-here w word k (omega arith)

  in-use-length : length (take (word % 16) (nibbles w (word / 16))) ≡ word % 16
  in-use-length = length-take-le (word % 16) (nibbles w (word / 16)) (omega (arith, length-nibbles w (word / 16)))

  pub place_here : (i : ℕ) → i < word % 16 → ((k : ℕ) → k < i → word / 2 ^ (4 * (k + 1)) % 16 ≡ slot → ⊥)
      → word / 2 ^ (4 * (i + 1)) % 16 ≡ slot → i ≡ place_in_use slot (bank_of w word)
  place_here i l f e =
      place_at slot (take (word % 16) (nibbles w (word / 16))) i (omega (arith, in-use-length))
      (λ k m q. f k m (sym (in-use-at k (omega arith)) ∙ q))
      (in-use-at i l ∙ e)

  pub place-nowhere : ((k : ℕ) → k < word % 16 → word / 2 ^ (4 * (k + 1)) % 16 ≡ slot → ⊥)
      → word % 16 ≡ place_in_use slot (bank_of w word)
  place-nowhere f =
      sym in-use-length
      ∙ place_none slot (take (word % 16) (nibbles w (word / 16)))
      (λ k l q. let m : k < word % 16 = omega (arith, in-use-length) in f k m (sym (in-use-at k m) ∙ q))

-- ---- moves of a word: the positions packed, and the size below them

-- the size, and the positions below i
below_at : (w word i : ℕ) → i < w → word % 2 ^ (4 * w) % 2 ^ (4 * (i + 1)) ≡ word / 16 % 2 ^ (4 * i) * 16 + word % 16
below_at w word i l =
    ap (λ (n : ℕ). word % 2 ^ n % 2 ^ (4 * (i + 1))) (let e : 4 * w ≡ 4 * (w - 1 - i) + 4 * (i + 1) = omega arith in e)
    ∙ mod-mod-pow word (4 * (w - 1 - i)) (4 * (i + 1))
    ∙ ap (λ (n : ℕ). word % 2 ^ n) (let e : 4 * (i + 1) ≡ 4 * i + 4 = omega arith in e)
    ∙ mod-pow-add word (4 * i) 4

-- one more in use does not reach into the positions
pub next-size-lt : {kept below : ℕ} (w word i : ℕ) → i < w → word % 16 < 15 → kept ≡ word % 2 ^ (4 * w) → below ≡ kept % 2 ^ (4 * (i + 1))
    → below + 1 < 2 ^ (4 * (i + 1))
next-size-lt {kept} {below} w word i l m e d =
    let b : below ≡ word / 16 % 2 ^ (4 * i) * 16 + word % 16 = d ∙ ap (λ (x : ℕ). x % 2 ^ (4 * (i + 1))) e ∙ below_at w word i l in
    let p : 2 ^ (4 * (i + 1)) ≡ 2 ^ (4 * i) * 16 = ap (λ (k : ℕ). 2 ^ (4 * k)) (add-one i) ∙ pow_step i in
    omega (arith, mod-lt (word / 16) (pow_pos (4 * i)))

-- the positions without what strays above them
module _ (w word : ℕ) {slots : ℕ} (e : slots ≡ word / 16 % 2 ^ (4 * w)) where
  pub positions-lt : slots < 2 ^ (4 * w)
  positions-lt = low-lt (word / 16) w e

  pub positions-fit : w ≤ 15 → slots < 2 ^ 60
  positions-fit m = wider w 15 m positions-lt

  pub positions-here : nibbles w slots ≡ nibbles w (word / 16)
  positions-here = ap (nibbles w) e ∙ nibbles-low w (word / 16)

  pub resized-here : (n : ℕ) → slots * 16 + n ≡ word_of (resized n (bank_of w word))
  unfolding pack
  resized-here n = rw (pack-nibbles, e)

-- an insertion into a word with no stray bits
module _ (w word : ℕ) (h : word < 2 ^ (4 * (w + 1))) where
  inserted-slots : (i : ℕ) → i < w
      → ((word / 16 / 2 ^ (4 * i) % 2 ^ (4 * (w - 1 - i)) * 16 + word / 16 / 2 ^ (4 * (w - 1))) * 2 ^ (4 * i) + word / 16 % 2 ^
      (4 * i)) * 16
      + (word % 16 + 1) ≡ word_of (inserted_from_back i (bank_of w word))
  unfolding pack
  inserted-slots i l = rw (length-nibbles, pack-inserted w (word / 16) i l (slots-lt w word h))

  -- the same by the nibbles of the word: those below i, the one at the back, and those from i to the one before it
  inserted-here : (i : ℕ) → i < w
      → (word % 2 ^ (4 * w) / 2 ^ (4 * (i + 1)) * 16 + word / 2 ^ (4 * w)) * 2 ^ (4 * (i + 1)) +
      (word % 2 ^ (4 * w) % 2 ^ (4 * (i + 1)) + 1)
      ≡ word_of (inserted_from_back i (bank_of w word))
  inserted-here i l = rw (later, below_at w word i l, top) (grouped _ _ ∙ inserted-slots i l)
    where
      whole : 4 * w ≡ 4 * (w - 1 - i) + 4 * (i + 1)
      whole = omega arith

      later : word % 2 ^ (4 * w) / 2 ^ (4 * (i + 1)) ≡ word / 16 / 2 ^ (4 * i) % 2 ^ (4 * (w - 1 - i))
      later =
          ap (λ (n : ℕ). word % 2 ^ n / 2 ^ (4 * (i + 1))) whole
          ∙ field word (4 * (w - 1 - i)) (4 * (i + 1))
          ∙ ap (λ (n : ℕ). word / 2 ^ n % 2 ^ (4 * (w - 1 - i))) (let e : 4 * (i + 1) ≡ 4 + 4 * i = omega arith in e)
          ∙ ap (λ (x : ℕ). x % 2 ^ (4 * (w - 1 - i))) (sym (shr-shr word 4 (4 * i)))

      top : word / 2 ^ (4 * w) ≡ word / 16 / 2 ^ (4 * (w - 1))
      top =
          ap (λ (n : ℕ). word / 2 ^ n) (let e : 4 * w ≡ 4 + 4 * (w - 1) = omega arith in e) ∙ sym (shr-shr word 4 (4 * (w - 1)))

      grouped : (x y : ℕ) → x * 2 ^ (4 * (i + 1)) + (y * 16 + word % 16 + 1) ≡ (x * 2 ^ (4 * i) + y) * 16 + (word % 16 + 1)
      grouped x y =
          let p : x * 2 ^ (4 * (i + 1)) ≡ x * 2 ^ (4 * i) * 16
          = ap (λ (k : ℕ). x * 2 ^ (4 * k)) (add-one i) ∙ ap (λ (z : ℕ). x * z) (pow_step i) ∙ sym (mul_assoc x (2 ^ (4 * i)) 16) in
          omega arith

-- and into any word: what strays above the width is not among its nibbles
inserted-any : (w word i : ℕ) → i < w
    → (word % 2 ^ (4 * w) / 2 ^ (4 * (i + 1)) * 16 + word / 2 ^ (4 * w) % 16) * 2 ^ (4 * (i + 1)) +
    (word % 2 ^ (4 * w) % 2 ^ (4 * (i + 1)) + 1)
    ≡ word_of (inserted_from_back i (bank_of w word))
inserted-any w word i l =
    ap₂ (λ (a b : ℕ). (a / 2 ^ (4 * (i + 1)) * 16 + b) * 2 ^ (4 * (i + 1)) + (a % 2 ^ (4 * (i + 1)) + 1)) (sym below) (sym back)
    ∙ inserted-here w (word % 2 ^ (4 * (w + 1))) (mod-lt word (pow_pos (4 * (w + 1)))) i l
    ∙ ap (λ (b : Bank). word_of (inserted_from_back i b)) (bank-low w word)
  where
    whole : 4 * (w + 1) ≡ 4 + 4 * w
    whole = omega arith

    below : word % 2 ^ (4 * (w + 1)) % 2 ^ (4 * w) ≡ word % 2 ^ (4 * w)
    below = ap (λ (n : ℕ). word % 2 ^ n % 2 ^ (4 * w)) whole ∙ mod-mod-pow word 4 (4 * w)

    back : word % 2 ^ (4 * (w + 1)) / 2 ^ (4 * w) ≡ word / 2 ^ (4 * w) % 16
    back = ap (λ (n : ℕ). word % 2 ^ n / 2 ^ (4 * w)) whole ∙ field word 4 (4 * w)

-- what stands below the width, by a difference
module _ (w word : ℕ) {upper : ℕ} (f : word < 2 ^ 64) (e : upper ≡ word / 2 ^ (4 * w)) where
  lifted : (upper * 2 ^ (4 * w)) % 2 ^ 64 ≡ word / 2 ^ (4 * w) * 2 ^ (4 * w)
  lifted =
      ap (λ (x : ℕ). (x * 2 ^ (4 * w)) % 2 ^ 64) e
      ∙ mod-eq_of_lt (let z : word / 2 ^ (4 * w) * 2 ^ (4 * w) < 2 ^ 64 = omega (arith, split word (4 * w)) in z)

  pub below-fits : (upper * 2 ^ (4 * w)) % 2 ^ 64 ≤ word
  below-fits = omega (arith, lifted, split word (4 * w))

  pub below-is : word - (upper * 2 ^ (4 * w)) % 2 ^ 64 ≡ word % 2 ^ (4 * w)
  below-is = omega (arith, lifted, split word (4 * w))

pub ruleset belows = (rules, below-fits, below-is)

-- an insertion as one sum: what moves up by a nibble is added fifteen times more, and the slot at the back once
module _ (w word i : ℕ) (m : w ≤ 15) (o : i ≤ word % 16) (f : word % 16 < w)
    {kept upper last later : ℕ} (ek : kept ≡ word % 2 ^ (4 * w)) (eu : upper ≡ word / 2 ^ (4 * w)) (el : last ≡ upper % 16)
    (et : later ≡ kept / 2 ^ (4 * (i + 1))) where
  last-lt : last < 16
  last-lt = rw el (mod-lt upper (zero-lt-suc 15))

  later-lt : later < 2 ^ (4 * (w - i - 1))
  later-lt = high_lt kept (i + 1) w (w - i - 1) et (low-lt word w ek) (omega arith)

  widened : 2 ^ (4 * (w - i)) ≡ 2 ^ (4 * (w - i - 1)) * 16
  widened = ap (λ (k : ℕ). 2 ^ (4 * k)) (let e : w - i ≡ suc (w - i - 1) = omega arith in e) ∙ pow_step (w - i - 1)

  gain-lt : 15 * later + last < 2 ^ (4 * (w - i))
  gain-lt = omega (arith, last-lt, later-lt, widened)

  pub gain-fits : 15 * later + last < 2 ^ 64
  gain-fits = wider (w - i) 16 (omega arith) gain-lt

  pub times-fits : 15 * later < 2 ^ 64
  times-fits = omega (arith, gain-fits)

  shifted : ((15 * later + last) * 2 ^ (4 * (i + 1))) % 2 ^ 64 ≡ (15 * later + last) * 2 ^ (4 * (i + 1))
  shifted = shl_exact (4 * (w - i)) (4 * (i + 1)) 64 gain-lt (omega arith)

  sum : kept + ((15 * later + last) * 2 ^ (4 * (i + 1))) % 2 ^ 64 + 1
      ≡ (later * 16 + last) * 2 ^ (4 * (i + 1)) + (kept % 2 ^ (4 * (i + 1)) + 1)
  sum =
      ap (λ (x : ℕ). kept + x + 1) shifted
      ∙ grouped (2 ^ (4 * (i + 1))) (kept % 2 ^ (4 * (i + 1)))
      (sym (split kept (4 * (i + 1))) ∙ ap (λ (x : ℕ). x * 2 ^ (4 * (i + 1)) + kept % 2 ^ (4 * (i + 1))) (sym et))
    where
      grouped : (p below : ℕ) → kept ≡ later * p + below → kept + (15 * later + last) * p + 1 ≡ (later * 16 + last) * p + (below + 1)
      grouped p below e = omega (arith, add-mul (15 * later) last p, add-mul (later * 16) last p, mul_assoc 15 later p, times later p)
        where
          times : (x y : ℕ) → x * 16 * y ≡ x * y * 16
          times x y = mul_assoc x 16 y ∙ ap (λ (z : ℕ). x * z) (mul_comm 16 y) ∙ sym (mul_assoc x y 16)

  pub sum_fits : kept + ((15 * later + last) * 2 ^ (4 * (i + 1))) % 2 ^ 64 + 1 < 2 ^ 64
  sum_fits =
      join-lt (w - i) (i + 1) 16 sum (omega (arith, last-lt, later-lt, widened))
      (next-size-lt w word i (omega arith) (omega arith) ek (let z : kept % 2 ^ (4 * (i + 1)) ≡ kept % 2 ^ (4 * (i + 1)) = refl in z))
      (omega arith)

  pub shift_fits : kept + ((15 * later + last) * 2 ^ (4 * (i + 1))) % 2 ^ 64 < 2 ^ 64
  shift_fits = omega (arith, sum_fits)

  pub inserted-sum : kept + ((15 * later + last) * 2 ^ (4 * (i + 1))) % 2 ^ 64 + 1 ≡ word_of (inserted_from_back i (bank_of w word))
  inserted-sum = sum ∙ rw (et, ek, el, eu) (inserted-any w word i (omega arith))

pub ruleset inserts = (times-fits, gain-fits, shift_fits, sum_fits, inserted-sum)

pub moved_here : {r : ℕ} (n : ℕ) (ps : List ℕ) → r ≡ pack ps → r * 16 + n ≡ pack (n ∷ ps)
unfolding pack
moved_here n ps e = rw e

-- two positions set, one after the other
module _ (w p i j : ℕ) (hi : i < w) (hj : j < w) where
  pub swapped_here : {r q : ℕ} → q ≡ pack (set (nibbles w p) i (p / 2 ^ (4 * j) % 16))
      → r ≡ pack (set (nibbles w q) j (p / 2 ^ (4 * i) % 16)) → r ≡ pack (swapped i j (nibbles w p))
  unfolding swapped
  swapped_here e d =
      d
      ∙ rw (e, get_d-nibbles w p i hi, get_d-nibbles w p j hj)
      (ap (λ (l : List ℕ). pack (set l j (p / 2 ^ (4 * i) % 16)))
      (ap (λ (n : ℕ). nibbles n (pack first)) (sym (length-put w p i (p / 2 ^ (4 * j) % 16)))
      ∙ nibbles-pack first (small-set w p i (p / 2 ^ (4 * j) % 16) hi (mod-lt (p / 2 ^ (4 * j)) (zero-lt-suc 15)))))
    where
      first : List ℕ
      first = set (nibbles w p) i (p / 2 ^ (4 * j) % 16)
