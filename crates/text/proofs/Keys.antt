-- Laws on words and keys: bytes that are the same, hex digits, pairs of them. Assumes nothing.
use Prim.Native.Nat.{ℕ, zero, suc, ◌+◌, ◌-◌, ◌*◌, ◌/◌, ◌%◌, ◌≤◌, ◌<◌}
use mathlib.Core.Path.{◌≡◌, refl, ap, sym, ◌∙◌}
use mathlib.Core.Bool.{Bool, true, false, ◌&&◌, ◌||◌}
use mathlib.Core.List.{List, [], ◌∷◌}
use mathlib.Core.Logic.{◌⊎◌, inl, inr, ⊎_elim}
use native.Mathlib.Numerals.{add-one}
use native.Mathlib.Nat.{zero-add}
use native.Mathlib.Omega.{arith}
use lib.Dec.{eqb, leb, ltb}
use Rattle.std.specs.Prelude.{bytes_eq, MatchBool}
use Rattle.std.specs.List.{AllWithin, HoldsAt}
use lib.ListN.{length, get_or, set, drop}
use lib.Seq.{drop-cons, drop-length}
use borrow.Author.Tests.{eq-eqb, ne_eqb, le-leb, lt-leb, lt-ltb, leb-true}
use Rattle.arena.specs.Parts.{part, put_part}
use Rattle.arena.proofs.Words.{copy-none, copy_more, part-all}
use Rattle.text.specs.Fields.{every, same, is_hex, hex_value, pairs, dash, is_pairs, is_key, key_in}

-- a test that holds, or one that does not
pub both : (a b : Bool) → (a && b) ≡ true → (a ≡ true) × (b ≡ true)
both true b h = (refl, h)
both false b h = let z : ◌≡◌ {A = ℕ} 0 1 = cc in absurd (omega arith)

pub decide : {P : Type 0} (t : Bool) → (t ≡ true → P) → (t ≡ false → P) → P
decide true f g = f refl
decide false f g = g refl

-- ---- the same bytes

pub same_is : (xs ys : List ℕ) → bytes_eq xs ys ≡ same xs ys
unfolding same
same_is [] [] = refl
same_is [] (y ∷ ys) = refl
same_is (x ∷ xs) [] = refl
same_is (x ∷ xs) (y ∷ ys) = ap (λ (t : Bool). eqb x y && t) (same_is xs ys)

-- ---- every byte

module _ (test : ℕ → Bool) (s : List ℕ) (i : ℕ) (h : i < length s) where
  pub every-no : test (get_or s i 0) ≡ false → every test (drop i s) ≡ false
  unfolding every
  every-no e = rw (drop-cons s i 0 h, e)

  pub every_more : test (get_or s i 0) ≡ true → every test (drop i s) ≡ every test (drop (i + 1) s)
  unfolding every
  every_more e = rw (add-one i, drop-cons s i 0 h, e)

pub every-end : (test : ℕ → Bool) (s : List ℕ) (i : ℕ) → i ≡ length s → every test (drop i s) ≡ true
unfolding every
every-end test s i e = rw (e, drop-length)

pub every-at : (test : ℕ → Bool) (s : List ℕ) (i : ℕ) → every test s ≡ true → i < length s → test (get_or s i 0) ≡ true
unfolding every
every-at test [] i e h = absurd (omega arith)
every-at test (b ∷ bs) zero e h = (both (test b) (every test bs) e).0
every-at test (b ∷ bs) (suc i) e h = every-at test bs i (both (test b) (every test bs) e).1 (omega arith)

every-all : (test : ℕ → Bool) (s : List ℕ) → ((k : ℕ) → k < length s → test (get_or s k 0) ≡ true) → every test s ≡ true
unfolding every
every-all test [] f = refl
every-all test (b ∷ bs) f = rw (f 0 (omega arith)) (every-all test bs (λ k l. f (suc k) (omega arith)))

-- what is told of a test of all bytes
abbrev pub EachTold : (ℕ → Bool) → List ℕ → Bool → Type 0
EachTold test s r =
    MatchBool r (AllWithin (λ b. test b ≡ true) s 0 (length s)) ((k : ℕ) × (k < length s) × HoldsAt (λ b. test b ≡ false) s k)

each_told : (test : ℕ → Bool) (s : List ℕ) (r : Bool) → EachTold test s r → r ≡ every test s
each_told test s true h = sym (every-all test s (λ k l. h k 0 (omega arith) l))
each_told test s false h =
    decide (every test s)
    (λ e.
    let p = every-at test s h.0 e h.1 in
    let q = h.2 0 in
    let z : ◌≡◌ {A = ℕ} 0 1 = cc in
    absurd (omega arith))
    (λ e. sym e)

-- ---- hex digits

module _ (b : ℕ) where
  pub hex-low : b < 48 → false ≡ is_hex b
  unfolding is_hex
  hex-low h = rw (lt-leb 48 b h, lt-leb 97 b (omega arith))

  pub hex-digit : 48 ≤ b → b < 58 → true ≡ is_hex b
  unfolding is_hex
  hex-digit h k = rw (le-leb 48 b h, le-leb b 57 (omega arith))

  pub hex-middle : 57 < b → b < 97 → false ≡ is_hex b
  unfolding is_hex
  hex-middle h k = rw (lt-leb b 57 h, lt-leb 97 b k, le-leb 48 b (omega arith))

  pub hex-letter : 97 ≤ b → b < 103 → true ≡ is_hex b
  unfolding is_hex
  hex-letter h k = rw (lt-leb b 57 (omega arith), le-leb 97 b h, le-leb 48 b (omega arith), le-leb b 102 (omega arith))

  pub hex-high : 102 < b → false ≡ is_hex b
  unfolding is_hex
  hex-high h = rw (lt-leb b 57 (omega arith), le-leb 97 b (omega arith), le-leb 48 b (omega arith), lt-leb b 102 h)

  hex-tests : (l m n o : Bool) → leb 48 b ≡ l → leb b 57 ≡ m → leb 97 b ≡ n → leb b 102 ≡ o → ((l && m) || (n && o)) ≡ true
      → ((48 ≤ b) × (b ≤ 57)) ⊎ ((97 ≤ b) × (b ≤ 102))
  hex-tests true true n o p q r s h = inl (leb-true 48 b p, leb-true b 57 q)
  hex-tests true false true true p q r s h = inr (leb-true 97 b r, leb-true b 102 s)
  hex-tests false m true true p q r s h = inr (leb-true 97 b r, leb-true b 102 s)
  hex-tests true false true false p q r s h = let z : ◌≡◌ {A = ℕ} 0 1 = cc in absurd (omega arith)
  hex-tests true false false o p q r s h = let z : ◌≡◌ {A = ℕ} 0 1 = cc in absurd (omega arith)
  hex-tests false m true false p q r s h = let z : ◌≡◌ {A = ℕ} 0 1 = cc in absurd (omega arith)
  hex-tests false m false o p q r s h = let z : ◌≡◌ {A = ℕ} 0 1 = cc in absurd (omega arith)

  pub hex-range : is_hex b ≡ true → ((48 ≤ b) × (b ≤ 57)) ⊎ ((97 ≤ b) × (b ≤ 102))
  unfolding is_hex
  hex-range h = hex-tests (leb 48 b) (leb b 57) (leb 97 b) (leb b 102) refl refl refl refl h

  pub value-digit : 48 ≤ b → b ≤ 57 → hex_value b ≡ b - 48
  unfolding hex_value
  value-digit h k = rw (le-leb b 57 k)

  pub value-letter : 57 < b → hex_value b ≡ b - 87
  unfolding hex_value
  value-letter h = rw (lt-leb b 57 h)

-- ---- pairs

pub pairs-low : (s : List ℕ) → 2 * length (pairs s) ≤ length s
unfolding pairs
pairs-low [] = omega arith
pairs-low (a ∷ []) = omega arith
pairs-low (a ∷ b ∷ rest) = let h = pairs-low rest in omega arith

pub pairs-high : (s : List ℕ) → length s ≤ 2 * length (pairs s) + 1
unfolding pairs
pairs-high [] = omega arith
pairs-high (a ∷ []) = omega arith
pairs-high (a ∷ b ∷ rest) = let h = pairs-high rest in omega arith

pairs-from : (s : List ℕ) (i j : ℕ) → j ≡ 2 * i → suc j < length s
    → get_or (pairs s) i 0 ≡ hex_value (get_or s j 0) * 16 + hex_value (get_or s (suc j) 0)
unfolding pairs
pairs-from [] i j e h = absurd (omega arith)
pairs-from (a ∷ []) i j e h = absurd (omega arith)
pairs-from (a ∷ b ∷ rest) zero zero e h = refl
pairs-from (a ∷ b ∷ rest) zero (suc j) e h = absurd (omega arith)
pairs-from (a ∷ b ∷ rest) (suc i) zero e h = absurd (omega arith)
pairs-from (a ∷ b ∷ rest) (suc i) (suc zero) e h = absurd (omega arith)
pairs-from (a ∷ b ∷ rest) (suc i) (suc (suc j)) e h = pairs-from rest i j (omega arith) (omega arith)

pairs-at : (s : List ℕ) (i : ℕ) → 2 * i + 1 < length s
    → get_or (pairs s) i 0 ≡ hex_value (get_or s (2 * i) 0) * 16 + hex_value (get_or s (2 * i + 1) 0)
pairs-at s i h = rw (add-one (2 * i)) (pairs-from s i (2 * i) refl (omega arith))

module _ (d s : List ℕ) where
  pub pairs-none : d ≡ put_part d 0 (part (pairs s) 0 0)
  pairs-none = copy-none d 0 (pairs s) 0

  pub pairs-more : (i : ℕ) {key : List ℕ} {high low : ℕ} → key ≡ put_part d 0 (part (pairs s) 0 i) → 2 * i + 1 < length s
      → length s ≤ 2 * length d
      → high ≡ hex_value (get_or s (2 * i) 0) → low ≡ hex_value (get_or s (2 * i + 1) 0)
      → set key i (high * 16 + low) ≡ put_part d 0 (part (pairs s) 0 (i + 1))
  pairs-more i e h k eh el =
      let high = pairs-high s in
      let m = copy_more d 0 (pairs s) 0 i (omega arith) (omega arith) in
      rw (e, eh, el, ← pairs-at s i h) (rw zero-add at m)

  pub pairs-done : {i : ℕ} {key : List ℕ} → key ≡ put_part d 0 (part (pairs s) 0 i) → i ≡ length s / 2
      → (length s / 2 ≡ length (pairs s)) × (key ≡ put_part d 0 (pairs s))
  pairs-done {i} f h =
      let e : length (pairs s) ≡ i = omega (arith, pairs-low s, pairs-high s) in
      (sym (e ∙ h), f ∙ rw (part-all (pairs s) i e) refl)

-- ---- fields that are keys

module _ (s : List ℕ) where
  pub pairs-empty : length s ≡ 0 → false ≡ is_pairs s
  unfolding is_pairs
  pairs-empty e = rw e

  pub pairs-odd : (length s % 2 ≡ 0 → ⊥) → false ≡ is_pairs s
  unfolding is_pairs
  pairs-odd e = rw (ne_eqb (length s % 2) 0 e) (no_middle (ltb 0 (length s)) (every is_hex s))
    where
      no_middle : (a b : Bool) → false ≡ (a && false && b)
      no_middle true b = refl
      no_middle false b = refl

  pub pairs-right : {r : Bool} → (length s ≡ 0 → ⊥) → length s % 2 ≡ 0 → EachTold is_hex s r → r ≡ is_pairs s
  unfolding is_pairs
  pairs-right n m e = rw (lt-ltb 0 (length s) (omega arith), eq-eqb (length s % 2) 0 m) (each_told is_hex s _ e)

  hex-at : {i : ℕ} → is_pairs s ≡ true → i < length s → is_hex (get_or s i 0) ≡ true
  unfolding is_pairs
  hex-at {i} p h =
      every-at is_hex s i (both (ltb 0 (length s) && eqb (length s % 2) 0) (every is_hex s) p).1 h

  pub hex-even : (i : ℕ) → is_pairs s ≡ true → 2 * i + 1 < length s → is_hex (get_or s (2 * i) 0) ≡ true
  hex-even i p h = hex-at p (omega arith)

  pub hex-odd : (i : ℕ) → is_pairs s ≡ true → 2 * i + 1 < length s → is_hex (get_or s (2 * i + 1) 0) ≡ true
  hex-odd i p h = hex-at p h

module _ (s : List ℕ) {r : Bool} (e : r ≡ same s dash) where
  pub key-dash : r ≡ true → true ≡ is_key s
  unfolding is_key
  key-dash t = rw (← e, t)

  pub key-pairs : {q : Bool} → r ≡ false → q ≡ is_pairs s → q ≡ is_key s
  unfolding is_key
  key-pairs t f = rw (← e, t) f

  pub dash-length : r ≡ true → 0 ≡ length (key_in s)
  unfolding key_in
  dash-length t = rw (← e, t)

  pub dash-bytes : (d : List ℕ) → r ≡ true → d ≡ put_part d 0 (key_in s)
  unfolding key_in put_part
  dash-bytes d t = rw (← e, t)

  pub only-pairs : r ≡ false → is_key s ≡ true → is_pairs s ≡ true
  unfolding is_key
  only-pairs t k = rw (← e, t) at k

  pub key-length : {n : ℕ} → r ≡ false → n ≡ length (pairs s) → n ≡ length (key_in s)
  unfolding key_in
  key-length t f = rw (← e, t) f

  pub key-bytes : (d : List ℕ) {d' : List ℕ} → r ≡ false → d' ≡ put_part d 0 (pairs s) → d' ≡ put_part d 0 (key_in s)
  unfolding key_in
  key-bytes d t f = rw (← e, t) f

-- ---- the value of a hex digit

module _ {b : ℕ} (h : is_hex b ≡ true) where
  pub hex-from : 48 ≤ b
  hex-from = ⊎_elim (λ w. omega arith) (λ w. omega arith) (hex-range b h)

  pub letter-from : 57 < b → 97 ≤ b
  letter-from k = ⊎_elim (λ w. omega arith) (λ w. omega arith) (hex-range b h)

  pub digit-said : b ≤ 57 → (b - 48 ≡ hex_value b) × (b - 48 < 16)
  digit-said k = (sym (value-digit b (omega (arith, hex-from)) k), omega (arith, hex-from))

  pub letter-said : 57 < b → (b - 97 + 10 ≡ hex_value b) × (b - 97 + 10 < 16)
  letter-said k =
      let to : b ≤ 102 = ⊎_elim (λ w. omega arith) (λ w. omega arith) (hex-range b h) in
      (omega (arith, value-letter b k, letter-from k), omega (arith, letter-from k))
