-- Parts of a list with one more, and lists with zeros behind them. Assumes nothing.
use mathlib.Core.Path.{◌≡◌, refl, ◌∙◌, ap, ap₂}
use mathlib.Core.List.{List, [], ◌∷◌, ◌++◌}
use Prim.Native.Nat.{ℕ, zero, suc, ◌+◌, ◌-◌, ◌≤◌, ◌<◌}
use native.Mathlib.Nat.{not-suc-le-zero, sub-zero}
use native.Mathlib.Omega.{arith}
use native.Mathlib.Numerals.{add-one}
use lib.ListN.{length, get_or, set, take, drop, replicate, length-drop}
use lib.Seq.{paste, drop-cons, length-take-le, take-append_seam, drop-append-add}
use Rattle.internode_places.specs.Lists.{inserted_at}
use Rattle.internode_inserts.specs.Insert.{inserted_among}

-- ---- the front and the rest of a list with one more

pub take-inserted-low : (p m v : ℕ) (xs : List ℕ) → p ≤ m → take (suc m) (inserted_at p v xs) ≡ inserted_at p v (take m xs)
unfolding inserted_at
take-inserted-low zero m v xs h = refl
take-inserted-low (suc p) zero v xs h = absurd (not-suc-le-zero h)
take-inserted-low (suc p) (suc m) v [] h = refl
take-inserted-low (suc p) (suc m) v (x ∷ xs) h = ap (λ (l : List ℕ). x ∷ l) (take-inserted-low p m v xs (omega arith))

pub take-inserted-high : (p m v : ℕ) (xs : List ℕ) → m ≤ p → p ≤ length xs → take m (inserted_at p v xs) ≡ take m xs
unfolding inserted_at
take-inserted-high p zero v xs h l = refl
take-inserted-high zero (suc m) v xs h l = absurd (not-suc-le-zero h)
take-inserted-high (suc p) (suc m) v [] h l = absurd (not-suc-le-zero l)
take-inserted-high (suc p) (suc m) v (x ∷ xs) h l = ap (λ (y : List ℕ). x ∷ y) (take-inserted-high p m v xs (omega arith) (omega arith))

pub drop-inserted-low : (p m v : ℕ) (xs : List ℕ) → p ≤ m → p ≤ length xs → drop (suc m) (inserted_at p v xs) ≡ drop m xs
unfolding inserted_at
drop-inserted-low zero m v xs h l = refl
drop-inserted-low (suc p) zero v xs h l = absurd (not-suc-le-zero h)
drop-inserted-low (suc p) (suc m) v [] h l = absurd (not-suc-le-zero l)
drop-inserted-low (suc p) (suc m) v (x ∷ xs) h l = drop-inserted-low p m v xs (omega arith) (omega arith)

pub drop-inserted-high : (p m v : ℕ) (xs : List ℕ) → m ≤ p → p ≤ length xs → drop m (inserted_at p v xs) ≡ inserted_at (p - m) v (drop m xs)
unfolding inserted_at
drop-inserted-high p zero v xs h l = rw (sub-zero p)
drop-inserted-high zero (suc m) v xs h l = absurd (not-suc-le-zero h)
drop-inserted-high (suc p) (suc m) v [] h l = absurd (not-suc-le-zero l)
drop-inserted-high (suc p) (suc m) v (x ∷ xs) h l =
    let e : suc p - suc m ≡ p - m = omega arith in rw e (drop-inserted-high p m v xs (omega arith) (omega arith))

-- ---- zeros behind a list

pub drop-zeros : (k n : ℕ) → drop {A = ℕ} k (replicate n 0) ≡ replicate (n - k) 0
drop-zeros zero n = rw (sub-zero n)
drop-zeros (suc k) zero = let z : 0 - suc k ≡ 0 = omega arith in rw z
drop-zeros (suc k) (suc n) = let z : suc n - suc k ≡ n - k = omega arith in rw z (drop-zeros k n)

-- moving up over a zero
pub moved-zeros : (p k v : ℕ) (xs : List ℕ) → p ≤ length xs → 0 < k
    → inserted_among p (length xs) v (xs ++ replicate k 0) ≡ inserted_at p v xs ++ replicate (k - 1) 0
unfolding inserted_among
moved-zeros p k v xs h z =
    ap₂ (λ (l r : List ℕ). inserted_at p v l ++ r) (take-append_seam xs (replicate k 0))
    (drop-append-add xs (replicate k 0) 1 ∙ drop-zeros 1 k)

-- so many from a place on, before zeros: the copy into an empty array
pub paste-zeros : (w from count : ℕ) (xs : List ℕ) → from + count ≤ length xs
    → paste (replicate w 0) 0 (drop from xs) count ≡ take count (drop from xs) ++ replicate (w - length (take count (drop from xs))) 0
paste-zeros w from count xs h =
    let e : length (take count (drop from xs)) ≡ count = length-take-le count (drop from xs) (simp length-drop (omega arith)) in
    let z : 0 + count ≡ count = omega arith in
    rw (e, z) (ap (λ (l : List ℕ). take count (drop from xs) ++ l) (drop-zeros count w))

-- the same with the one before them at the first place
pub paste-first : (w from count : ℕ) (xs : List ℕ) → from + count < length xs
    → paste (set (replicate (suc w) 0) 0 (get_or xs from 0)) (0 + 1) (drop (from + 1) xs) count
    ≡ take (count + 1) (drop from xs) ++ replicate (suc w - length (take (count + 1) (drop from xs))) 0
paste-first w from count xs h =
    let e : length (take (count + 1) (drop from xs)) ≡ count + 1 =
    length-take-le (count + 1) (drop from xs) (simp length-drop (omega arith)) in
    let z : suc w - (count + 1) ≡ w - count = omega arith in
    let o : 0 + 1 + count ≡ suc count = omega arith in
    rw (e, z, o, add-one count, add-one from, drop-cons xs from 0 (omega arith))
    (ap (λ (l : List ℕ). get_or xs from 0 ∷ (take count (drop (suc from) xs) ++ l)) (drop-zeros count w))
