-- Laws on little-endian numbers and on the words of a list of bytes. Assumes nothing.
use Rattle.std.proofs.Common.{◌≡◌, ℕ, zero, suc, ◌+◌, ◌*◌, ◌/◌, ◌%◌, ◌^◌, ◌<◌, ◌≤◌, List, [], ◌∷◌, ◌++◌, length, get_or, take, drop, sym, refl, ap, ◌∙◌, ap₂, add-zero, suc-add, zero-add, arith, take-append-drop, length-take-le, get_or-drop}
use native.Mathlib.Nat.{one-le-pow}
use Rattle.std.specs.Int.{w32, from_le_bytes}
use Rattle.order.proofs.Bytes.{bytes_take}
use Rattle.order.specs.Bytes.{Bytes, none, more}
use Rattle.card_block.specs.Words.{little_endian, low_first, words_of}

-- past the end there are zeros
little-nil : (n : ℕ) → little_endian n [] ≡ 0
unfolding little_endian
little-nil zero = refl
little-nil (suc n) = refl

-- one byte after the other
little-more : (n : ℕ) (l : List ℕ) → little_endian (suc n) l ≡ get_or l 0 0 + 256 * little_endian n (drop 1 l)
unfolding little_endian
little-more n [] = omega (arith, little-nil n)
little-more n (x ∷ xs) = refl

four_bytes : (l : List ℕ) → get_or l 0 0 + get_or l 1 0 * 0x100 + get_or l 2 0 * 0x10000 + get_or l 3 0 * 0x1000000 ≡ little_endian 4 l
unfolding little_endian
four_bytes [] = refl
four_bytes (a ∷ []) = omega arith
four_bytes (a ∷ b ∷ []) = omega arith
four_bytes (a ∷ b ∷ c ∷ []) = omega arith
four_bytes (a ∷ b ∷ c ∷ d ∷ l) = omega arith

-- what four bytes from a place on come to is the word there
pub word-is : (l : List ℕ) (at : ℕ) {n : ℕ}
    → n ≡ from_le_bytes w32 (get_or l at 0 ∷ get_or l (at + 1) 0 ∷ get_or l (at + 2) 0 ∷ get_or l (at + 3) 0 ∷ [])
    → n ≡ little_endian 4 (drop at l)
word-is l at {n} p =
    let q : n ≡ get_or l at 0 + get_or l (at + 1) 0 * 0x100 + get_or l (at + 2) 0 * 0x10000 + get_or l (at + 3) 0 * 0x1000000 = p in
    q ∙ (rw (get_or-drop at l 0 0, add-zero at, get_or-drop at l 1 0, get_or-drop at l 2 0, get_or-drop at l 3 0) at (four_bytes (drop at l)))

-- a number of n bytes is below 256^n
pub little-below : (n : ℕ) {l : List ℕ} → Bytes l → little_endian n l < 256 ^ n
unfolding little_endian
little-below zero b = omega arith
little-below (suc n) none = omega (arith, one-le-pow (suc n) 256 (omega arith))
little-below (suc n) (more h b) = omega (arith, little-below n b)

-- the same number, the same bytes
pub little-same : (n : ℕ) {f g : List ℕ} → Bytes f → Bytes g → length f ≡ n → length g ≡ n → little_endian n f ≡ little_endian n g → f ≡ g
unfolding little_endian
little-same n none none p q e = refl
little-same n none (more h b) p q e = absurd (omega arith)
little-same n (more h b) none p q e = absurd (omega arith)
little-same zero (more h b) (more i d) p q e = absurd (omega arith)
little-same (suc n) (more h b) (more i d) p q e = ap₂ ◌∷◌ (omega arith) (little-same n b d (omega arith) (omega arith) (omega arith))

-- bytes of a number, and the number again
pub low-length : (n x : ℕ) → length (low_first n x) ≡ n
unfolding low_first
low-length zero x = refl
low-length (suc n) x = ap suc (low-length n (x / 256))

pub low-bytes : (n x : ℕ) → Bytes (low_first n x)
unfolding low_first
low-bytes zero x = none
low-bytes (suc n) x = more {x = x % 256} (omega arith) (low-bytes n (x / 256))

pub little-low : (n x : ℕ) (l : List ℕ) → x < 256 ^ n → little_endian n (low_first n x ++ l) ≡ x
unfolding little_endian low_first
little-low zero x l h = omega arith
little-low (suc n) x l h = omega (arith, little-low n (x / 256) l (omega arith))

pub low-little : (n : ℕ) {l : List ℕ} → Bytes l → length l ≡ n → low_first n (little_endian n l) ≡ l
unfolding little_endian low_first
low-little zero none e = refl
low-little (suc n) none e = absurd (omega arith)
low-little zero (more h b) e = absurd (omega arith)
low-little (suc n) (more {x} {xs} h b) e =
    ap₂ ◌∷◌ (omega arith) (ap (low_first n) (omega arith) ∙ low-little n b (omega arith))

-- the words of two lists, one behind the other
pub words_append : (k m : ℕ) (p q : List ℕ) → length p ≡ 4 * k → words_of (k + m) (p ++ q) ≡ words_of k p ++ words_of m q
unfolding little_endian words_of
words_append zero m [] q e = rw zero-add
words_append zero m (a ∷ p) q e = absurd (omega arith)
words_append (suc k) m [] q e = absurd (omega arith)
words_append (suc k) m (a ∷ []) q e = absurd (omega arith)
words_append (suc k) m (a ∷ b ∷ []) q e = absurd (omega arith)
words_append (suc k) m (a ∷ b ∷ c ∷ []) q e = absurd (omega arith)
words_append (suc k) m (a ∷ b ∷ c ∷ d ∷ p) q e =
    rw (suc-add k m) (ap (λ (l : List ℕ). (a + 256 * (b + 256 * (c + 256 * (d + 256 * 0)))) ∷ l) (words_append k m p q (omega arith)))

-- and of the first of them alone
pub words-before : (n : ℕ) (p r s : List ℕ) → 4 * n ≤ length p → words_of n (p ++ r) ≡ words_of n (p ++ s)
unfolding little_endian words_of
words-before zero p r s h = refl
words-before (suc n) [] r s h = absurd (omega arith)
words-before (suc n) (a ∷ []) r s h = absurd (omega arith)
words-before (suc n) (a ∷ b ∷ []) r s h = absurd (omega arith)
words-before (suc n) (a ∷ b ∷ c ∷ []) r s h = absurd (omega arith)
words-before (suc n) (a ∷ b ∷ c ∷ d ∷ p) r s h =
    ap (λ (l : List ℕ). (a + 256 * (b + 256 * (c + 256 * (d + 256 * 0)))) ∷ l) (words-before n p r s (omega arith))

pub little-front : (n : ℕ) (f q : List ℕ) → length f ≡ n → little_endian n (f ++ q) ≡ little_endian n f
unfolding little_endian
little-front zero f q e = refl
little-front (suc n) [] q e = absurd (omega arith)
little-front (suc n) (x ∷ f) q e = ap (λ (y : ℕ). x + 256 * y) (little-front n f q (omega arith))

-- the bytes of the number that the first n bytes are
pub low-take : (n : ℕ) {l : List ℕ} → Bytes l → n ≤ length l → low_first n (little_endian n l) ≡ take n l
low-take n {l} b h =
    let e : length (take n l) ≡ n = length-take-le n l h in
    ap (λ (k : List ℕ). low_first n (little_endian n k)) (sym (take-append-drop n l))
    ∙ ap (low_first n) (little-front n (take n l) (drop n l) e)
    ∙ low-little n (bytes_take n b) e
