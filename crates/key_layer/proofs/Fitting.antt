-- When a key fits, and what that shows. Assumes nothing.
use Prim.Native.Nat.{ℕ, zero, suc, ◌+◌, ◌-◌, ◌*◌, ◌/◌, ◌%◌, ◌≤◌, ◌<◌, min}
use mathlib.Core.Path.{◌≡◌, refl, sym, ◌∙◌}
use mathlib.Core.Bool.{Bool, true, false, not, ◌&&◌, ◌||◌}
use mathlib.Core.List.{List, [], ◌∷◌}
use native.Mathlib.Omega.{arith}
use mir.Syntax.{w64}
use mir.Val.{Fits}
use lib.Dec.{ltb, eqb, eqb-suc-zero}
use lib.ListN.{length}
use borrow.Author.Tests.{lt-ltb, le-ltb, le-leb, lt-leb, eq-eqb, ne_eqb, ltb-true, ltb-false, leb-true, eqb-true, not-true, not-false}
use Rattle.order.specs.Layer.{ikey_at}
use Rattle.key_layer.specs.Keys.{suffix_at, numbers_at, reached, fits, allows, shiftable}

-- ---- a layer that there is

module _ (bytes : List ℕ) (s : ℕ) where
  pub reached-first : s ≡ 0 → eqb s 0 ≡ reached bytes s
  unfolding reached
  reached-first e = rw (eq-eqb s 0 e)

  pub reached-later : (s ≡ 0 → ⊥) → {n : ℕ} → n ≡ length bytes - 8 * s → ltb 0 n ≡ reached bytes s
  unfolding reached
  reached-later h {n} e = rw (ne_eqb s 0 h, e) (go (ltb (8 * s) (length bytes)) refl)
    where
      go : (t : Bool) → ltb (8 * s) (length bytes) ≡ t → ltb 0 (length bytes - 8 * s) ≡ t
      go true q = lt-ltb 0 (length bytes - 8 * s) (omega (arith, ltb-true (8 * s) (length bytes) q))
      go false q = le-ltb 0 (length bytes - 8 * s) (omega (arith, ltb-false (8 * s) (length bytes) q))

  pub reached-within : reached bytes s ≡ true → 8 * s ≤ length bytes
  unfolding reached
  reached-within h = go (eqb s 0) refl h
    where
      go : (t : Bool) → eqb s 0 ≡ t → t || ltb (8 * s) (length bytes) ≡ true → 8 * s ≤ length bytes
      go true q h = omega (arith, eqb-true s 0 q)
      go false q h = omega (arith, ltb-true (8 * s) (length bytes) h)

  pub reached-told : {r : Bool} → r ≡ reached bytes s → not r ≡ false → 8 * s ≤ length bytes
  reached-told {r} e h = reached-within (sym e ∙ not-false r h)

-- ---- the numbers of a layer

module _ (l : List ℕ) (s : ℕ) {k : ℕ} (e : k ≡ ikey_at l (8 * s)) where
  pub layer-short : 8 * s ≤ length l → length l - 8 * s < 8 → k ∷ s ∷ length l ∷ [] ≡ numbers_at l s
  unfolding numbers_at
  layer-short w h = let m : length l ≡ min (8 * s + 8) (length l) = omega arith in rw (e, ← m)

  pub layer-long : 8 * s ≤ length l → 8 ≤ length l - 8 * s → k ∷ s ∷ (8 * s + 8) ∷ [] ≡ numbers_at l s
  unfolding numbers_at
  layer-long w h = let m : 8 * s + 8 ≡ min (8 * s + 8) (length l) = omega arith in rw (e, ← m)

-- ---- the judgement

module _ (bytes : List ℕ) (i s p : ℕ) where
  pub fits-long : 256 < length bytes → false ≡ fits bytes i s p
  unfolding fits
  fits-long h = rw (lt-leb (length bytes) 256 h)

  module _ (h : length bytes ≤ 256) {r : Bool} (e : r ≡ reached bytes s) where
    pub fits-beyond : not r ≡ true → false ≡ fits bytes i s p
    unfolding fits
    fits-beyond q = rw (le-leb (length bytes) 256 h, ← e, not-true r q)

    module _ (q : not r ≡ false) {j t n : ℕ} (l : j ∷ t ∷ n ∷ [] ≡ numbers_at bytes s) where
      same_word : j ≡ ikey_at bytes (8 * s)
      unfolding numbers_at
      same_word = cc

      same_start : n ≡ suffix_at bytes s
      unfolding numbers_at
      same_start = cc

      pub fits-other : (j ≡ i → ⊥) → eqb j i ≡ fits bytes i s p
      unfolding fits
      fits-other d = rw (le-leb (length bytes) 256 h, ← e, not-false r q, ← same_word, ne_eqb j i d)

      pub fits_last : j ≡ i → eqb n p ≡ fits bytes i s p
      unfolding fits
      fits_last d = rw (le-leb (length bytes) 256 h, ← e, not-false r q, ← same_word, ← same_start, eq-eqb j i d)

-- ---- shifts one after the other

or-true : (b : Bool) → b || true ≡ true
or-true true = refl
or-true false = refl

-- they are allowed if the bytes do not end before the last
pub allows-is : (n : ℕ) (bytes : List ℕ) (s : ℕ) → allows n bytes s ≡ eqb n 0 || ltb (8 * n) (length bytes - 8 * s)
unfolding allows
allows-is zero bytes s = refl
allows-is (suc n) bytes s = rw (allows-is n bytes (s + 1), eqb-suc-zero n) (go (ltb (8 * suc n) (length bytes - 8 * s)) refl)
  where
    short : (t : Bool) → ltb 8 (length bytes - 8 * s) ≡ t → length bytes - 8 * s ≤ 8 * suc n
        → t && (eqb n 0 || ltb (8 * n) (length bytes - 8 * (s + 1))) ≡ false
    short false e h = refl
    short true e h =
        let l : 8 < length bytes - 8 * s = ltb-true 8 (length bytes - 8 * s) e in
        rw (ne_eqb n 0 (λ z. omega arith), le-ltb (8 * n) (length bytes - 8 * (s + 1)) (omega arith))

    go : (t : Bool) → ltb (8 * suc n) (length bytes - 8 * s) ≡ t
        → ltb 8 (length bytes - 8 * s) && (eqb n 0 || ltb (8 * n) (length bytes - 8 * (s + 1))) ≡ t
    go true e =
        let l : 8 * suc n < length bytes - 8 * s = ltb-true (8 * suc n) (length bytes - 8 * s) e in
        rw (lt-ltb 8 (length bytes - 8 * s) (omega arith), lt-ltb (8 * n) (length bytes - 8 * (s + 1)) (omega arith)) (or-true (eqb n 0))
    go false e = short (ltb 8 (length bytes - 8 * s)) refl (omega (arith, ltb-false (8 * suc n) (length bytes - 8 * s) e))

-- what a key that fits is
pub record Fitting (bytes : List ℕ) (i s p : ℕ) : Type 0 where
  pub most : length bytes ≤ 256
  pub within : 8 * s ≤ length bytes
  pub word : ikey_at bytes (8 * s) ≡ i
  pub start : p ≡ min (8 * s + 8) (length bytes)

pub and-true : (a b : Bool) → a && b ≡ true → (a ≡ true) × (b ≡ true)
and-true true b e = (refl, e)
and-true false b e = (e, absurd (let z : ◌≡◌ {A = ℕ} 0 1 = cc in omega arith))

module _ (bytes : List ℕ) (i s p : ℕ) {r : Bool} (e : r ≡ fits bytes i s p) (q : r ≡ true) where
  pub fitting : Fitting bytes i s p
  unfolding fits
  fitting =
      let (a, b) = and-true _ _ (sym e ∙ q) in
      let (c, d) = and-true _ _ b in
      let (f, g) = and-true _ _ d in
      record {
        most = leb-true (length bytes) 256 a;
        within = reached-within bytes s c;
        word = eqb-true (ikey_at bytes (8 * s)) i f;
        start = sym (eqb-true (suffix_at bytes s) p g);
      }

  pub suffix_within : p ≤ length bytes
  suffix_within = omega (arith, fitting.start)

  pub here-within : 8 * s ≤ length bytes
  here-within = fitting.within

  pub back-within : (k : ℕ) → 8 * (s - k) ≤ length bytes
  back-within k = omega (arith, fitting.within)

  pub shifts-within : s ≤ length bytes
  shifts-within = omega (arith, fitting.within)

  module _ (by : ℕ) {a : Bool} (f : a ≡ shiftable bytes s by) (h : a ≡ true) where
    pub shiftable-within : 8 * (s + by / 8) ≤ length bytes
    unfolding shiftable
    shiftable-within =
        let (m, l) = and-true (eqb (by % 8) 0) (allows (by / 8) bytes s) (sym f ∙ h) in
        go (eqb (by / 8) 0) refl (sym (allows-is (by / 8) bytes s) ∙ l)
      where
        go : (z : Bool) → eqb (by / 8) 0 ≡ z → z || ltb (8 * (by / 8)) (length bytes - 8 * s) ≡ true → 8 * (s + by / 8) ≤ length bytes
        go true z k = omega (arith, eqb-true (by / 8) 0 z, fitting.within)
        go false z k = omega (arith, ltb-true (8 * (by / 8)) (length bytes - 8 * s) k)

    pub shiftable-fits : Fits w64 (s + by / 8)
    shiftable-fits = record { fits = omega (arith, shiftable-within, fitting.most) }

-- the same, where the judgement has passed
module _ (bytes : List ℕ) (i s p : ℕ) (e : true ≡ fits bytes i s p) where
  pub judged-suffix : p ≤ length bytes
  judged-suffix = suffix_within bytes i s p e refl

  pub judged-here : 8 * s ≤ length bytes
  judged-here = here-within bytes i s p e refl

  pub judged-back : (k : ℕ) → 8 * (s - k) ≤ length bytes
  judged-back k = back-within bytes i s p e refl k

  pub judged-by : (by : ℕ) {a : Bool} → a ≡ shiftable bytes s by → a ≡ true → 8 * (s + by / 8) ≤ length bytes
  judged-by by f h = shiftable-within bytes i s p e refl by f h

  pub judged-by_fits : (by : ℕ) {a : Bool} → a ≡ shiftable bytes s by → a ≡ true → Fits w64 (s + by / 8)
  judged-by_fits by f h = shiftable-fits bytes i s p e refl by f h

pub ruleset fittings = (reached-first, reached-later, reached-told, fits-long, fits-beyond, fits-other, fits_last, layer-short, layer-long)

pub ruleset withins = (suffix_within, here-within, back-within, shifts-within, shiftable-within, shiftable-fits)

pub ruleset judged-withins = (judged-suffix, judged-here, judged-back, judged-by, judged-by_fits)
