-- A number by its nibbles: what masks, shifts and joins do to the list. Assumes nothing.
use mathlib.Core.Path.{◌≡◌, refl, sym, ap, ap₂, ◌∙◌}
use mathlib.Core.List.{List, [], ◌∷◌, ◌++◌}
use Prim.Native.Nat.{ℕ, zero, suc, ◌+◌, ◌-◌, ◌*◌, ◌/◌, ◌%◌, ◌^◌, ◌≤◌, ◌<◌}
use native.Mathlib.Nat.{le_of_suc-le-suc, not-suc-le-zero, add_assoc, add-mul, mul_assoc, mul-one, mul-suc, mod-eq_of_lt, mod-lt, mod-one}
use native.Mathlib.Nat.{div-one, sub-zero, suc-sub-suc, div-div-eq-div-mul, mul_comm, add-zero, one-mul, lt_of_lt_of_le, le_trans, le_of_eq}
use native.Mathlib.Nat.{zero-lt-suc, zero-add, suc-add}
use native.Mathlib.Omega.{arith}
use lib.ListN.{length, get_or, take, drop}
use lib.Arith.{mod-mul, digits_lt, digits_div, digits_mod}
use lib.Bits.{bit_and, bit_or, and_mask, or_shifted}
use lib.Pow.{pow-add, pow_pos, pow_mono, pow-lt, shr_lt, shl_exact, mod-pow-add}
use Rattle.nibbles.specs.Nibbles.{pack, nibbles}

pub pow_step : (k : ℕ) → 2 ^ (4 * suc k) ≡ 2 ^ (4 * k) * 16
pow_step k = ap (λ (x : ℕ). 2 ^ x) (mul-suc 4 k) ∙ pow-add 2 (4 * k) 4

-- ---- a run of nibbles, and parts of it

pub length-nibbles : (k v : ℕ) → length (nibbles k v) ≡ k
unfolding nibbles
length-nibbles zero v = refl
length-nibbles (suc k) v = ap suc (length-nibbles k (v / 16))

pub get_d-nibbles : (k v j : ℕ) → j < k → get_or (nibbles k v) j 0 ≡ v / 2 ^ (4 * j) % 16
unfolding nibbles
get_d-nibbles zero v j h = absurd (not-suc-le-zero h)
get_d-nibbles (suc k) v zero h = ap (λ (x : ℕ). x % 16) (sym (div-one v))
get_d-nibbles (suc k) v (suc j) h =
    get_d-nibbles k (v / 16) j (le_of_suc-le-suc h) ∙ rw (pow_step, div-div-eq-div-mul, mul_comm 16)

pub take-nibbles : (j k v : ℕ) → j ≤ k → take j (nibbles k v) ≡ nibbles j v
unfolding nibbles
take-nibbles zero k v h = refl
take-nibbles (suc j) zero v h = absurd (not-suc-le-zero h)
take-nibbles (suc j) (suc k) v h = ap (λ (l : List ℕ). v % 16 ∷ l) (take-nibbles j k (v / 16) (le_of_suc-le-suc h))

pub drop-nibbles : (j k v : ℕ) → j ≤ k → drop j (nibbles k v) ≡ nibbles (k - j) (v / 2 ^ (4 * j))
unfolding nibbles
drop-nibbles zero k v h = rw (sub-zero, div-one)
drop-nibbles (suc j) zero v h = absurd (not-suc-le-zero h)
drop-nibbles (suc j) (suc k) v h =
    drop-nibbles j k (v / 16) (le_of_suc-le-suc h) ∙ rw (suc-sub-suc, pow_step, div-div-eq-div-mul, mul_comm 16)

-- ---- packed again

pub pack-append : (xs ys : List ℕ) → pack (xs ++ ys) ≡ pack ys * 2 ^ (4 * length xs) + pack xs
unfolding pack
pack-append [] ys = sym (add-zero (pack ys * 1) ∙ mul-one (pack ys))
pack-append (x ∷ xs) ys = rw (pack-append xs ys, pow_step (length xs), add-mul, mul_assoc, add_assoc)

pub pack-nibbles : (k v : ℕ) → pack (nibbles k v) ≡ v % 2 ^ (4 * k)
unfolding pack nibbles
pack-nibbles zero v = sym (mod-one v)
pack-nibbles (suc k) v = rw (pack-nibbles k (v / 16), pow_step k) (sym (mod-mul v (pow_pos (4 * k)) (pow_pos 4)))

pub pack-whole : (m v : ℕ) → v < 2 ^ (4 * m) → pack (nibbles m v) ≡ v
pack-whole m v h = pack-nibbles m v ∙ mod-eq_of_lt h

-- a list of numbers below 16 is what its packed number's nibbles are
abbrev pub Small : List ℕ → Type 0
Small ds = (i : ℕ) → i < length ds → get_or ds i 0 < 16

pub small-nibbles : (k v : ℕ) → Small (nibbles k v)
small-nibbles k v i h =
    rw (get_d-nibbles k v i (let l : i < k = omega (arith, length-nibbles k v) in l)) (mod-lt (v / 2 ^ (4 * i)) (zero-lt-suc 15))

pub pack-lt : (ds : List ℕ) → Small ds → pack ds < 2 ^ (4 * length ds)
unfolding pack
pack-lt [] h = zero-lt-suc 0
pack-lt (d ∷ ds) h =
    rw (pow_step (length ds)) (digits_lt (pack-lt ds (λ i l. h (suc i) (omega arith))) (h 0 (omega arith)))

pub nibbles-pack : (ds : List ℕ) → Small ds → nibbles (length ds) (pack ds) ≡ ds
unfolding pack nibbles
nibbles-pack [] h = refl
nibbles-pack (d ∷ ds) h =
    let l : d < 16 = h 0 (omega arith) in
    rw (digits_mod (pack ds) l, digits_div (pack ds) l, nibbles-pack ds (λ i m. h (suc i) (omega arith)))

-- what stands above k nibbles is not among them
pub nibbles-low : (k v : ℕ) → nibbles k (v % 2 ^ (4 * k)) ≡ nibbles k v
unfolding nibbles
nibbles-low zero v = refl
nibbles-low (suc k) v =
    let m : v % 2 ^ (4 * suc k) ≡ v / 16 % 2 ^ (4 * k) * 16 + v % 16 = ap (λ (n : ℕ). v % 2 ^ n) (mul-suc 4 k)
    ∙ mod-pow-add v (4 * k) 4 in
    let head : v % 2 ^ (4 * suc k) % 16 ≡ v % 16 = omega arith in
    let rest : v % 2 ^ (4 * suc k) / 16 ≡ v / 16 % 2 ^ (4 * k) = omega arith in
    ap₂ (λ (d : ℕ) (l : List ℕ). d ∷ l) head (ap (nibbles k) rest ∙ nibbles-low k (v / 16))

-- nibbles above others
pub nibbles-join : (j k above below : ℕ) → below < 2 ^ (4 * j)
    → nibbles (j + k) (above * 2 ^ (4 * j) + below) ≡ nibbles j below ++ nibbles k above
unfolding nibbles
nibbles-join zero k above below h = ap₂ nibbles (zero-add k) (let e : above * 1 + below ≡ above = omega arith in e)
nibbles-join (suc j) k above below h =
    let p : above * 2 ^ (4 * suc j) ≡ above * 2 ^ (4 * j) * 16 = ap (λ (x : ℕ). above * x) (pow_step j)
    ∙ sym (mul_assoc above (2 ^ (4 * j)) 16) in
    let lt : below < 2 ^ (4 * j) * 16 = rw (pow_step j) at h in
    let head : (above * 2 ^ (4 * suc j) + below) % 16 ≡ below % 16 = omega arith in
    let rest : (above * 2 ^ (4 * suc j) + below) / 16 ≡ above * 2 ^ (4 * j) + below / 16 = omega arith in
    ap (λ (n : ℕ). nibbles n (above * 2 ^ (4 * suc j) + below)) (suc-add j k)
    ∙ ap₂ (λ (d : ℕ) (l : List ℕ). d ∷ l) head (ap (nibbles (j + k)) rest ∙ nibbles-join j k above (below / 16) (omega arith))

-- ---- the code's masks, shifts and joins

pub one_shl : (k : ℕ) → k < 16 → (1 * 2 ^ (4 * k)) % 2 ^ 64 ≡ 2 ^ (4 * k)
one_shl k h =
    ap (λ (x : ℕ). x % 2 ^ 64) (one-mul (2 ^ (4 * k))) ∙ mod-eq_of_lt (pow-lt (let l : 4 * k < 64 = omega arith in l))

pub mask_low : (x k : ℕ) → k < 16 → bit_and x ((1 * 2 ^ (4 * k)) % 2 ^ 64 - 1) ≡ x % 2 ^ (4 * k)
mask_low x k h = ap (λ (m : ℕ). bit_and x (m - 1)) (one_shl k h) ∙ and_mask x (4 * k)

pub or-join : (above below k : ℕ) → k < 16 → below < 2 ^ (4 * k) → above < 2 ^ (4 * (16 - k))
    → bit_or ((above * 2 ^ (4 * k)) % 2 ^ 64) below ≡ above * 2 ^ (4 * k) + below
or-join above below k h l f =
    ap (λ (x : ℕ). bit_or x below)
    (shl_exact (4 * (16 - k)) (4 * k) 64 f (let e : 4 * (16 - k) + 4 * k ≤ 64 = omega arith in e))
    ∙ or_shifted above (4 * k) below l

-- ---- bounds, from what `low`, `high` and `join` ensure

pub low-lt : {r : ℕ} (x k : ℕ) → r ≡ x % 2 ^ (4 * k) → r < 2 ^ (4 * k)
low-lt x k e = rw e (mod-lt x (pow_pos (4 * k)))

pub wider : {r : ℕ} (k n : ℕ) → k ≤ n → r < 2 ^ (4 * k) → r < 2 ^ (4 * n)
wider k n h l = lt_of_lt_of_le l (pow_mono (let e : 4 * k ≤ 4 * n = omega arith in e))

pub high_lt : {r : ℕ} (x k m n : ℕ) → r ≡ x / 2 ^ (4 * k) → x < 2 ^ (4 * m) → m ≤ n + k → r < 2 ^ (4 * n)
high_lt x k m n e h l =
    rw e (shr_lt (4 * n) (4 * k) (lt_of_lt_of_le h (pow_mono (let i : 4 * m ≤ 4 * n + 4 * k = omega arith in i))))

pub join-lt : {r above below : ℕ} (j k n : ℕ) → r ≡ above * 2 ^ (4 * k) + below → above < 2 ^ (4 * j) → below < 2 ^ (4 * k)
    → j + k ≤ n → r < 2 ^ (4 * n)
join-lt j k n e h l i =
    rw e
    (lt_of_lt_of_le (digits_lt h l)
    (le_trans (le_of_eq (sym (pow-add 2 (4 * j) (4 * k)))) (pow_mono (let m : 4 * j + 4 * k ≤ 4 * n = omega arith in m))))
