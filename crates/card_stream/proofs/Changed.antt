-- A change confined to one aligned word of a good block is found in that block. Assumes nothing.
use Prim.Native.Nat.{ℕ, zero, suc, ◌+◌, ◌*◌, ◌-◌, ◌<◌, ◌≤◌, min}
use mathlib.Core.Path.{◌≡◌, refl, sym, ap, ◌∙◌}
use mathlib.Core.Bool.{Bool, true, false, cond}
use mathlib.Core.List.{List, ◌++◌, append_assoc}
use mathlib.Core.Logic.{⊎_elim, ◌⊎◌, inl, inr}
use native.Mathlib.Omega.{arith}
use lib.ListN.{length, take, drop, take-append-drop}
use lib.Seq.{take-add, drop-drop}
use Rattle.order.specs.Bytes.{Bytes}
use Rattle.order.proofs.Bytes.{bytes_take, bytes_drop}
use Rattle.lent_words.specs.Parts.{part, put_part}
use Rattle.lent_words.proofs.Words.{lt-or-ge, part_length, put-length, part-kept, put_same}
use Rattle.card_block.specs.Check.{good_block}
use Rattle.card_block.proofs.OneWord.{one-word-tells}
use Rattle.card_stream.specs.Payload.{first_bad, changed}

-- the first bad block of c from i on is not before i, and not past the one behind them
within : (b : Bool) (x i c : ℕ) → (i + 1 ≤ x) × (x ≤ i + 1 + c) → (i ≤ cond b x i) × (cond b x i ≤ i + suc c)
within true x i c h = (omega arith, omega arith)
within false x i c h = (omega arith, omega arith)

bad-within : (i c : ℕ) (image : List ℕ) → (i ≤ first_bad i c image) × (first_bad i c image ≤ i + c)
unfolding first_bad
bad-within i zero image = (omega arith, omega arith)
bad-within i (suc c) image = within (good_block i (part image (512 * i) 512)) _ i c (bad-within (i + 1) c image)

-- no first bad block lies past the one behind the last
pub first-bad-most : (n : ℕ) (image : List ℕ) → first_bad 0 n image ≤ n
first-bad-most n image = omega (arith, (bad-within 0 n image).1)

-- where the first bad of some blocks is the one behind them, the first is good, and so are the others
passed : (b : Bool) (x i c : ℕ) → cond b x i ≡ i + suc c → (b ≡ true) × (x ≡ i + 1 + c)
passed true x i c e = (refl, omega arith)
passed false x i c e = absurd (omega arith)

all-good : (i c : ℕ) (image : List ℕ) → first_bad i c image ≡ i + c
    → (j : ℕ) → i ≤ j → j < i + c → good_block j (part image (512 * j) 512) ≡ true
unfolding first_bad
all-good i zero image e j h k = absurd (omega arith)
all-good i (suc c) image e j h k =
    let (p, q) = passed _ _ i c e in
    ⊎_elim
    (λ (l : i < j). all-good (i + 1) c image q j (omega arith) (omega arith))
    (λ (l : j ≤ i). let d : j ≡ i = omega arith in rw d p)
    (lt-or-ge i j)

none-bad : (i c : ℕ) (image : List ℕ)
    → ((j : ℕ) → i ≤ j → j < i + c → good_block j (part image (512 * j) 512) ≡ true) → first_bad i c image ≡ i + c
unfolding first_bad
none-bad i zero image f = omega arith
none-bad i (suc c) image f =
    let r : first_bad (i + 1) c image ≡ i + 1 + c = none-bad (i + 1) c image (λ j h k. f j (omega arith) (omega arith)) in
    rw (f i (omega arith) (omega arith)) (omega arith)

-- where no check is bad, each block is good
pub first-bad-good : (n : ℕ) (image : List ℕ) → first_bad 0 n image ≡ n
    → (j : ℕ) → j < n → good_block j (part image (512 * j) 512) ≡ true
first-bad-good n image e j h = all-good 0 n image (omega arith) j (omega arith) (omega arith)

-- and where each block is good, no check is bad
pub good-first-bad : (n : ℕ) (image : List ℕ)
    → ((j : ℕ) → j < n → good_block j (part image (512 * j) 512) ≡ true) → first_bad 0 n image ≡ n
good-first-bad n image f =
    let r : first_bad 0 n image ≡ 0 + n = none-bad 0 n image (λ j h k. f j (omega arith)) in omega arith

-- two images whose blocks are good alike but for block i, which is good in the one and bad in the other
module _ (image other : List ℕ) (i : ℕ) where
  one_on : (b : Bool) (x y s : ℕ) → s < i → x ≡ min i y → cond b x s ≡ min i (cond b y s)
  one_on true x y s h e = e
  one_on false x y s h e = omega arith

  found_from : (s c : ℕ) → s ≤ i → i < s + c
      → ((j : ℕ) → j < s + c → (j ≡ i → ⊥) → good_block j (part other (512 * j) 512) ≡ good_block j (part image (512 * j) 512))
      → good_block i (part image (512 * i) 512) ≡ true → good_block i (part other (512 * i) 512) ≡ false
      → first_bad s c other ≡ min i (first_bad s c image)
  unfolding first_bad
  found_from s zero h k f g b = absurd (omega arith)
  found_from s (suc c) h k f g b =
      ⊎_elim
      (λ (l : s < i).
      rw (f s (omega arith) (λ e. omega arith))
      (one_on (good_block s (part image (512 * s) 512)) _ _ s l
      (found_from (s + 1) c (omega arith) (omega arith) (λ j m. f j (omega arith)) g b)))
      (λ (l : i ≤ s). let e : s ≡ i = omega arith in rw (e, g, b) (omega (arith, (bad-within (i + 1) c image).0)))
      (lt-or-ge s i)

-- what is not true is false
not_good : (b : Bool) → (b ≡ true → ⊥) → b ≡ false
not_good true h = absurd (h refl)
not_good false h = refl

-- two parts one behind the other are one, and a part written over itself changes nothing
part-add : (xs : List ℕ) (at m n : ℕ) → part xs at (m + n) ≡ part xs at m ++ part xs (at + m) n
unfolding part
part-add xs at m n = rw (take-add m n (drop at xs), drop-drop m at xs)

put_back : (xs : List ℕ) (at n : ℕ) → at + n ≤ length xs → put_part xs at (part xs at n) ≡ xs
unfolding put_part part
put_back xs at n h =
    let e : length (take n (drop at xs)) ≡ n = part_length xs at n h in
    rw (e, ← drop-drop n at xs, append_assoc (take at xs) (take n (drop at xs)) (drop n (drop at xs)), take-append-drop n (drop at xs))
    (take-append-drop at xs)

-- a part of bytes is bytes
pub bytes-part : {xs : List ℕ} (at n : ℕ) → Bytes xs → Bytes (part xs at n)
unfolding part
bytes-part at n b = bytes_take n (bytes_drop at b)

-- where these bytes are one word
module _ (image : List ℕ) (n i k : ℕ) (word : List ℕ)
    (l : length image ≡ 512 * n) (h : i < n) (g : k < 128) (lw : length word ≡ 4) where
  inside : 512 * i + 4 * k + length word ≤ length image
  inside = omega arith

  -- as many bytes as before
  pub changed-length : length (changed image i k word) ≡ 512 * n
  changed-length = put-length image (512 * i + 4 * k) word inside ∙ l

  kept : (at m : ℕ) → at + m ≤ length image → (at + m ≤ 512 * i + 4 * k) ⊎ (512 * i + 4 * k + length word ≤ at)
      → part (changed image i k word) at m ≡ part image at m
  kept at m = part-kept image (512 * i + 4 * k) word inside at m

  -- every other block is as it was
  pub other-blocks-kept : (j : ℕ) → j < n → (j ≡ i → ⊥) → part (changed image i k word) (512 * j) 512 ≡ part image (512 * j) 512
  other-blocks-kept j m d =
      kept (512 * j) 512 (omega arith)
      (⊎_elim
      (λ (o : j < i). inl (omega arith))
      (λ (o : i ≤ j). inr (omega arith))
      (lt-or-ge j i))

  -- block i in three parts: what stands before the word, the word, and what stands behind it
  three : (xs : List ℕ)
      → part xs (512 * i) 512 ≡ part xs (512 * i) (4 * k) ++ (part xs (512 * i + 4 * k) 4 ++ part xs (512 * i + 4 * k + 4) (508 - 4 * k))
  three xs =
      let e : 512 ≡ 4 * k + (4 + (508 - 4 * k)) = omega arith in
      ap (part xs (512 * i)) e ∙ part-add xs (512 * i) (4 * k) (4 + (508 - 4 * k))
      ∙ ap (λ (r : List ℕ). part xs (512 * i) (4 * k) ++ r) (part-add xs (512 * i + 4 * k) 4 (508 - 4 * k))

  block-changed : part (changed image i k word) (512 * i) 512
      ≡ part image (512 * i) (4 * k) ++ (word ++ part image (512 * i + 4 * k + 4) (508 - 4 * k))
  block-changed =
      three (changed image i k word)
      ∙ rw (
        kept (512 * i) (4 * k) (omega arith) (inl (omega arith)),
        put_same image (512 * i + 4 * k) word 4 (omega arith) lw,
        kept (512 * i + 4 * k + 4) (508 - 4 * k) (omega arith) (inr (omega arith)),
      )

  module _ (bi : Bytes image) (bw : Bytes word)
      (good : good_block i (part image (512 * i) 512) ≡ true) (d : changed image i k word ≡ image → ⊥) where
    -- the changed block is bad
    pub changed-is-bad : good_block i (part (changed image i k word) (512 * i) 512) ≡ false
    changed-is-bad =
        not_good (good_block i (part (changed image i k word) (512 * i) 512))
        (λ e.
        let f : List ℕ = part image (512 * i + 4 * k) 4 in
        let lf : length f ≡ 4 = part_length image (512 * i + 4 * k) 4 (omega arith) in
        let w : f ≡ word =
        one-word-tells i k (part image (512 * i) (4 * k)) f word (part image (512 * i + 4 * k + 4) (508 - 4 * k))
        (bytes-part (512 * i + 4 * k) 4 bi) bw (part_length image (512 * i) (4 * k) (omega arith)) lf lw
        (rw (three image) at good) (rw block-changed at e) g in
        d (ap (put_part image (512 * i + 4 * k)) (sym w) ∙ put_back image (512 * i + 4 * k) 4 (omega arith)))

    -- and it is the first bad one, unless one before it was bad
    pub changed-found : first_bad 0 n (changed image i k word) ≡ min i (first_bad 0 n image)
    changed-found =
        found_from image (changed image i k word) i 0 n (omega arith) (omega arith)
        (λ j m o. ap (good_block j) (other-blocks-kept j (omega arith) o)) good changed-is-bad
