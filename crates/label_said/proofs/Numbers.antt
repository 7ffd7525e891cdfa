-- A number and its bytes, the highest first, decide each other, and have one order. Assumes nothing.
use Prim.Native.Nat.{ℕ, zero, suc, ◌+◌, ◌*◌, ◌/◌, ◌%◌, ◌^◌, ◌≤◌, ◌<◌, compare, Ordering}
use mathlib.Core.Path.{◌≡◌, refl, sym, ap, ap₂, ◌∙◌}
use mathlib.Core.List.{List, [], ◌∷◌, ◌++◌}
use native.Mathlib.Nat.{mod-lt, div-add-mod', div-lt_iff_lt-mul, pow-suc, not-suc-le-zero, le_of_suc-le-suc}
use native.Mathlib.Omega.{arith}
use lib.Arith.{digits_div, digits_mod}
use lib.ListN.{length, take}
use Rattle.order.specs.Bytes.{Bytes, none, more, then, bytewise}
use Rattle.order.specs.Layer.{big_endian}
use Rattle.order.proofs.Compare.{then-assoc, compare-digits}
use Rattle.order.proofs.Layer.{big_endian-lt}
use Rattle.label_said.specs.Label.{high_first}

power-positive : (n : ℕ) → 0 < 256 ^ n
power-positive zero = omega arith
power-positive (suc n) = rw pow-suc (omega (arith, power-positive n))

-- the order of numbers is that of their bytes, and where they are equal, what follows decides
pub order-of-bytes : (n x y : ℕ) (xs ys : List ℕ) → x < 256 ^ n → y < 256 ^ n
    → bytewise (high_first n x ++ xs) (high_first n y ++ ys) ≡ then (compare x y) (bytewise xs ys)
unfolding high_first bytewise
order-of-bytes zero x y xs ys hx hy =
    ap (λ (o : Ordering). then o (bytewise xs ys))
    (sym (ap₂ compare (let z : x ≡ 0 = omega arith in z) (let z : y ≡ 0 = omega arith in z)))
order-of-bytes (suc n) x y xs ys hx hy =
    let p = 256 ^ n in
    let kx = mod-lt x (power-positive n) in
    let ky = mod-lt y (power-positive n) in
    ap (then (compare (x / p) (y / p))) (order-of-bytes n (x % p) (y % p) xs ys kx ky)
    ∙ sym (then-assoc (compare (x / p) (y / p)) (compare (x % p) (y % p)) (bytewise xs ys))
    ∙ ap (λ (o : Ordering). then o (bytewise xs ys))
    (sym (compare-digits p (x / p) (y / p) (x % p) (y % p) kx ky) ∙ ap₂ compare (div-add-mod' x p) (div-add-mod' y p))

-- the number of bytes that were made of it
pub number-of-bytes : (n x : ℕ) (xs : List ℕ) → x < 256 ^ n → big_endian n (high_first n x ++ xs) ≡ x
unfolding big_endian high_first
number-of-bytes zero x xs h = omega arith
number-of-bytes (suc n) x xs h =
    ap (λ (r : ℕ). x / 256 ^ n * 256 ^ n + r) (number-of-bytes n (x % 256 ^ n) xs (mod-lt x (power-positive n)))
    ∙ div-add-mod' x (256 ^ n)

-- the bytes of a number that was read from them
pub bytes-of-number : (n : ℕ) {l : List ℕ} → Bytes l → n ≤ length l → high_first n (big_endian n l) ≡ take n l
unfolding big_endian high_first
bytes-of-number zero c h = refl
bytes-of-number (suc n) none h = absurd (not-suc-le-zero h)
bytes-of-number (suc n) (more {x} {xs} k c) h =
    let r : big_endian n xs < 256 ^ n = big_endian-lt n c in
    ap₂ (λ (a : ℕ) (l : List ℕ). a ∷ l) (digits_div x r) (ap (high_first n) (digits_mod x r) ∙ bytes-of-number n c (le_of_suc-le-suc h))

-- each of them is below 256
pub high-bytes : (n x : ℕ) → x < 256 ^ n → Bytes (high_first n x)
unfolding high_first
high-bytes zero x h = none
high-bytes (suc n) x h =
    let b : x < 256 * 256 ^ n = let k = rw pow-suc at h in omega (arith, k) in
    more ((div-lt_iff_lt-mul (power-positive n)).1 b) (high-bytes n (x % 256 ^ n) (mod-lt x (power-positive n)))
