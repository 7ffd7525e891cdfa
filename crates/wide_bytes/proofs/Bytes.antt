-- The bytes of a wide bank that passed the judgement are its size, its positions, and zeros. Assumes nothing.
use mathlib.Core.Path.{◌≡◌, refl, sym, ap, ap₂, ◌∙◌}
use mathlib.Core.Bool.{true, ◌&&◌}
use mathlib.Core.List.{List, [], ◌∷◌, ◌++◌, append_assoc}
use Prim.Native.Nat.{ℕ, zero, suc, ◌+◌, ◌-◌, ◌≤◌, ◌<◌}
use native.Mathlib.Omega.{arith}
use native.Mathlib.Numerals.{add-one}
use lib.ListN.{length, get_or, take, drop, set, replicate, length-drop, take-append-drop, get_or-append, length-set}
use lib.Seq.{drop-drop, take-append-le, drop-append-le, set-append_left}
use lib.Dec.{T, leb, eqb, leb→le, eqb→eq}
use Rattle.bank.specs.Lists.{each_once, turned, swapped, part}
use Rattle.bank.specs.Bank.{Bank, valid}
use Rattle.bank.proofs.Tests.{and_left, and_right, holds}
use Rattle.bank.proofs.Moves.{length-turned, length-swapped}
use Rattle.wide_bytes.specs.Wide.{bank_of, bytes_of, good_width, all_zero, valid_bytes}
use Rattle.wide_bytes.proofs.Judging.{slots_length}

-- what the judgement says of the bytes
pub record Good (w : ℕ) (bytes : List ℕ) : Type 0 where
  pub least : 16 ≤ w
  pub most : w ≤ 24
  pub sized : get_or bytes 0 0 ≤ w
  pub once : T (each_once (take w (drop 1 bytes)))
  pub clear : T (all_zero (drop (w + 1) bytes))

pub good-valid : (w : ℕ) (bytes : List ℕ) → length bytes ≡ 25 → good_width w ≡ true → valid_bytes w bytes ≡ true → Good w bytes
unfolding valid_bytes valid
good-valid w bytes l p q =
    let slots = take w (drop 1 bytes) in
    let most : w ≤ 24 = leb→le w 24 (and_right (leb 16 w) (leb w 24) (holds p)) in
    let rule = leb (get_or bytes 0 0) (length slots) && each_once slots in
    let bank : T rule = and_left rule (all_zero (drop (w + 1) bytes)) (holds q) in
    let size : get_or bytes 0 0 ≤ length slots = leb→le (get_or bytes 0 0) (length slots)
    (and_left (leb (get_or bytes 0 0) (length slots)) (each_once slots) bank) in
    record {
      least = leb→le 16 w (and_left (leb 16 w) (leb w 24) (holds p));
      most = most;
      sized = omega (arith, slots_length w bytes (omega arith));
      once = and_right (leb (get_or bytes 0 0) (length slots)) (each_once slots) bank;
      clear = and_right rule (all_zero (drop (w + 1) bytes)) (holds q);
    }

-- ---- zeros, and lists in front of them

zeros : (xs : List ℕ) → T (all_zero xs) → xs ≡ replicate (length xs) 0
zeros [] t = refl
zeros (x ∷ xs) t =
    ap₂ (λ (y : ℕ) (l : List ℕ). y ∷ l) (eqb→eq x 0 (and_left (eqb x 0) (all_zero xs) t)) (zeros xs (and_right (eqb x 0) (all_zero xs) t))

pub zeros-zero : (n : ℕ) → T (all_zero (replicate n 0))
zeros-zero zero = tt
zeros-zero (suc n) = zeros-zero n

turned-append : (a b c : ℕ) (ps zs : List ℕ) → a ≤ b → b ≤ c → c ≤ length ps → turned a b c (ps ++ zs) ≡ turned a b c ps ++ zs
unfolding turned
turned-append a b c ps zs h k l =
    rw (
      take-append-le a ps zs (omega arith),
      drop-append-le b ps zs (omega arith),
      drop-append-le a ps zs (omega arith),
      drop-append-le c ps zs l,
      take-append-le (c - b) (drop b ps) zs (rw length-drop (omega arith)),
      take-append-le (b - a) (drop a ps) zs (rw length-drop (omega arith)),
    )
    (ap (λ (r : List ℕ). take a ps ++ (part b c ps ++ r)) (sym (append_assoc (part a b ps) (drop c ps) zs))
    ∙ ap (λ (r : List ℕ). take a ps ++ r) (sym (append_assoc (part b c ps) (part a b ps ++ drop c ps) zs))
    ∙ sym (append_assoc (take a ps) (part b c ps ++ (part a b ps ++ drop c ps)) zs))

swapped-append : (i j : ℕ) (ps zs : List ℕ) → i < length ps → j < length ps → swapped i j (ps ++ zs) ≡ swapped i j ps ++ zs
unfolding swapped
swapped-append i j ps zs h l =
    rw (
      get_or-append ps zs 0 j l,
      get_or-append ps zs 0 i h,
      set-append_left ps zs i (get_or ps j 0) h,
    )
    (set-append_left (set ps i (get_or ps j 0)) zs j (get_or ps i 0) (rw length-set l))

swapped-suc : (i j x : ℕ) (xs : List ℕ) → swapped (i + 1) (j + 1) (x ∷ xs) ≡ x ∷ swapped i j xs
unfolding swapped
swapped-suc i j x xs = rw (add-one i, add-one j)

-- ---- the bytes of a good bank are its size, its positions, and zeros

abbrev bank : ℕ → List ℕ → Bank
bank n ps = record { size = n; slots = ps }

module _ (w : ℕ) (bytes : List ℕ) (l : length bytes ≡ 25) (g : Good w bytes) where
  wide : length (take w (drop 1 bytes)) ≡ w
  wide = slots_length w bytes (omega (arith, g.most))

  behind-size : drop 1 bytes ≡ take w (drop 1 bytes) ++ replicate (24 - w) 0
  behind-size =
      sym (take-append-drop w (drop 1 bytes))
      ∙ ap (λ (r : List ℕ). take w (drop 1 bytes) ++ r)
      (drop-drop w 1 bytes
      ∙ ap (λ (n : ℕ). drop n bytes) (let e : 1 + w ≡ w + 1 = omega arith in e)
      ∙ zeros (drop (w + 1) bytes) g.clear
      ∙ ap (λ (n : ℕ). replicate n 0) (let e : length (drop (w + 1) bytes) ≡ 24 - w = rw length-drop (omega arith) in e))

  -- a list of positions as long as the width, with a size, packed
  packed-as : (n : ℕ) (ps qs : List ℕ) → length ps ≡ w → qs ≡ ps ++ replicate (24 - w) 0 → n ∷ qs ≡ bytes_of (bank n ps)
  packed-as n ps qs d e =
      ap (λ (r : List ℕ). n ∷ r) e ∙ ap (λ (k : ℕ). n ∷ (ps ++ replicate (24 - k) 0)) (sym d)

  pub bytes-again : bytes_of (bank_of w bytes) ≡ bytes
  bytes-again = sym (whole bytes (omega arith) ∙ packed-as (get_or bytes 0 0) (take w (drop 1 bytes)) (drop 1 bytes) wide behind-size)
    where
      whole : (xs : List ℕ) → 1 ≤ length xs → xs ≡ get_or xs 0 0 ∷ drop 1 xs
      whole [] h = absurd (omega arith)
      whole (x ∷ xs) h = refl

  pub moved-again : (a b c n : ℕ) → a ≤ b → b ≤ c → c ≤ w
      → n ∷ turned a b c (drop 1 bytes) ≡ bytes_of (bank n (turned a b c (take w (drop 1 bytes))))
  moved-again a b c n h k m =
      packed-as n (turned a b c (take w (drop 1 bytes))) (turned a b c (drop 1 bytes))
      (length-turned a b c (take w (drop 1 bytes)) h k ∙ wide)
      (ap (turned a b c) behind-size ∙ turned-append a b c (take w (drop 1 bytes)) (replicate (24 - w) 0) h k (omega (arith, wide)))

  pub swapped-again : (i j : ℕ) → i < w → j < w
      → swapped (i + 1) (j + 1) bytes ≡ bytes_of (bank (get_or bytes 0 0) (swapped i j (take w (drop 1 bytes))))
  swapped-again i j h k =
      first bytes (omega arith)
      ∙ packed-as (get_or bytes 0 0) (swapped i j (take w (drop 1 bytes))) (swapped i j (drop 1 bytes))
      (length-swapped i j (take w (drop 1 bytes)) (omega (arith, wide)) (omega (arith, wide)) ∙ wide)
      (ap (swapped i j) behind-size
      ∙ swapped-append i j (take w (drop 1 bytes)) (replicate (24 - w) 0) (omega (arith, wide)) (omega (arith, wide)))
    where
      first : (xs : List ℕ) → 1 ≤ length xs → swapped (i + 1) (j + 1) xs ≡ get_or xs 0 0 ∷ swapped i j (drop 1 xs)
      first [] h = absurd (omega arith)
      first (x ∷ xs) h = swapped-suc i j x xs
