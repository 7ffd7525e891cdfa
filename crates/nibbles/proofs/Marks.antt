-- One mark for each number that stands among sixteen nibbles: all sixteen marks are set exactly where each number stands
-- once. Assumes nothing.
use mathlib.Core.Path.{◌≡◌, sym, ap, ap₂, ◌∙◌, subst}
use mathlib.Core.List.{List, [], ◌∷◌, ◌++◌}
use Prim.Native.Nat.{ℕ, zero, suc, ◌+◌, ◌-◌, ◌*◌, ◌/◌, ◌%◌, ◌^◌, ◌≤◌, ◌<◌, min, max}
use native.Mathlib.Nat.{zero-div, div-one, div-div-eq-div-mul, mod-lt, mod-eq_of_lt, zero-lt-suc, one-mul, mul_comm}
use native.Mathlib.Omega.{arith}
use native.Mathlib.Decide.{ℕ_discrete, dec_lt}
use native.Mathlib.Numerals.{add-one}
use lib.ListN.{length, take-append-drop}
use lib.Bits.{bit_and, bit_or, and_mask, or_lt}
use lib.Pow.{pow_pos, pow_mono, pow-lt, shl-shr, shr-shr, field, mod-mod-pow}
use lib.Dec.{T, eqb, ltb, eqb→eq, leb→le, le→leb}
use Rattle.bank.specs.Lists.{count, each_once, all_below}
use Rattle.bank.proofs.Tests.{at, same_test}
use Rattle.bank.proofs.Counts.{count_none, count_same, count-other, count-append, once, once-if-all}
use Rattle.bank.proofs.Marks.{bit, bit-or, bit-same, bit-other, ones, marked-one, more-marks}
use Rattle.nibbles.specs.Nibbles.{nibbles}
use Rattle.nibbles.proofs.Nibbles.{pow_step, take-nibbles, drop-nibbles}
use Rattle.nibbles.proofs.Words.{below-if-none}

-- a bit of what is shifted down, and of the lower sixteen bits
bit-shr : (x k s : ℕ) → bit (x / 2 ^ k) s ≡ bit x (k + s)
bit-shr x k s = ap (λ (z : ℕ). z % 2) (shr-shr x k s)

bit-low : (x s : ℕ) → s < 16 → bit (x % 2 ^ 16) s ≡ bit x s
bit-low x s h =
    ap (λ (n : ℕ). x % 2 ^ n / 2 ^ s % 2) (let e : 16 ≡ 15 - s + 1 + s = omega arith in e)
    ∙ ap (λ (z : ℕ). z % 2) (field x (15 - s + 1) s)
    ∙ mod-mod-pow (x / 2 ^ s) (15 - s) 1

-- ---- the marks of a list, in two copies

-- mark s, in whichever of the two copies it is set
abbrev over : ℕ → ℕ → ℕ
over marks s = max (bit marks s) (bit marks (16 + s))

over-or : (x y s : ℕ) → over (bit_or x y) s ≡ max (over x s) (over y s)
over-or x y s = omega (arith, bit-or x y s, bit-or x y (16 + s))

-- a number below 32 marks its lower nibble
over-one : (p s : ℕ) → p < 32 → s < 16 → over (2 ^ p) s ≡ count s (p % 16 ∷ [])
over-one p s h l =
    elim (ℕ_discrete (p % 16) s) [
      | yes e ↦
          subst (λ (x : ℕ). over (2 ^ p) x ≡ count x (p % 16 ∷ [])) e
          (marks-it ∙ sym (count_same (p % 16) [] ∙ ap suc (count_none (p % 16))))
      | no e ↦ omega (
        arith,
        bit-other p s (λ d. e (omega arith)),
        bit-other p (16 + s) (λ d. e (omega arith)),
        count-other (p % 16) s [] e,
        count_none s,
      )
    ]
  where
    at_copy : (t : ℕ) → p ≡ t → bit (2 ^ p) t ≡ 1
    at_copy t d = ap (bit (2 ^ p)) (sym d) ∙ bit-same p

    marks-it : over (2 ^ p) (p % 16) ≡ 1
    marks-it =
        elim (ℕ_discrete (p / 16) 0) [
          | yes d ↦ omega (arith, at_copy (p % 16) (omega arith))
          | no d ↦ omega (arith, at_copy (16 + p % 16) (omega arith))
        ]

-- mark s is set in some copy exactly where s stands in the list
pub record Marked (marks : ℕ) (ps : List ℕ) : Type 0 where
  pub set : (s : ℕ) → s < 16 → over marks s ≡ min 1 (count s ps)

pub marked-none : Marked 0 []
marked-none = record { set = λ s h. rw (zero-div, zero-div, count_none) }

pub marked_more : {marks : ℕ} {ps : List ℕ} (p : ℕ) → p < 32 → Marked marks ps
    → Marked (bit_or marks ((1 * 2 ^ p) % 2 ^ 32)) (ps ++ p % 16 ∷ [])
marked_more {marks} {ps} p h m =
    rw shifted
    (record {
      set = λ s l.
          over-or marks (2 ^ p) s
          ∙ more-marks (over marks s) (over (2 ^ p) s) (count s ps) (count s (p % 16 ∷ [])) (m.set s l) (over-one p s h l)
          (rw (← marked-one (p % 16) s) (mod-lt (2 ^ (p % 16) / 2 ^ s) (zero-lt-suc 1)))
          ∙ ap (min 1) (sym (count-append s ps (p % 16 ∷ [])));
    })
  where
    shifted : (1 * 2 ^ p) % 2 ^ 32 ≡ 2 ^ p
    shifted = ap (λ (x : ℕ). x % 2 ^ 32) (one-mul (2 ^ p)) ∙ mod-eq_of_lt (pow-lt h)

-- the copies laid over each other, in the upper sixteen bits
folded : (marks s : ℕ) → s < 16 → bit (bit_or marks ((marks * 2 ^ 16) % 2 ^ 32) / 2 ^ 16) s ≡ over marks s
folded marks s h =
    bit-shr (bit_or marks ((marks * 2 ^ 16) % 2 ^ 32)) 16 s
    ∙ bit-or marks ((marks * 2 ^ 16) % 2 ^ 32) (16 + s)
    ∙ ap (max (bit marks (16 + s))) lifted
    ∙ max_comm (bit marks (16 + s)) (bit marks s)
  where
    max_comm : (a b : ℕ) → max a b ≡ max b a
    max_comm a b = omega arith

    lifted : bit ((marks * 2 ^ 16) % 2 ^ 32) (16 + s) ≡ bit marks s
    lifted =
        sym (bit-shr ((marks * 2 ^ 16) % 2 ^ 32) 16 s)
        ∙ ap (λ (z : ℕ). bit z s) (field (marks * 2 ^ 16) 16 16 ∙ ap (λ (z : ℕ). z % 2 ^ 16) (shl-shr marks 16))
        ∙ bit-low marks s h

all_set : T (all_below 16 (λ s. eqb (bit 0xFFFF s) 1))
all_set = tt

-- sixteen numbers, and every mark is set: none is missing, so none stands twice
pub marked_all : {marks : ℕ} (ps : List ℕ) → length ps ≡ 16 → Marked marks ps → marks < 2 ^ 32
    → ltb 0xFFFEFFFF (bit_or marks ((marks * 2 ^ 16) % 2 ^ 32)) ≡ each_once ps
marked_all {marks} ps l m f = same_test (ltb 0xFFFEFFFF (bit_or marks ((marks * 2 ^ 16) % 2 ^ 32))) (each_once ps) there back
  where
    bits : (s : ℕ) → s < 16 → bit (bit_or marks ((marks * 2 ^ 16) % 2 ^ 32) / 2 ^ 16) s ≡ min 1 (count s ps)
    bits s h = folded marks s h ∙ m.set s h

    small : bit_or marks ((marks * 2 ^ 16) % 2 ^ 32) < 2 ^ 32
    small = or_lt 32 marks ((marks * 2 ^ 16) % 2 ^ 32) f (mod-lt (marks * 2 ^ 16) (pow_pos 32))

    there : T (ltb 0xFFFEFFFF (bit_or marks ((marks * 2 ^ 16) % 2 ^ 32))) → T (each_once ps)
    there t =
        let whole : bit_or marks ((marks * 2 ^ 16) % 2 ^ 32) / 2 ^ 16 ≡ 0xFFFF
        = omega (arith, small, leb→le 0xFFFF0000 (bit_or marks ((marks * 2 ^ 16) % 2 ^ 32)) t) in
        once-if-all ps (λ s h.
        let full : bit (bit_or marks ((marks * 2 ^ 16) % 2 ^ 32) / 2 ^ 16) s ≡ 1 = ap (λ (x : ℕ). bit x s) whole
        ∙ eqb→eq (bit 0xFFFF s) 1 (at 16 (λ k. eqb (bit 0xFFFF k) 1) all_set s (omega arith)) in
        omega (arith, bits s (omega arith)))

    back : T (each_once ps) → T (ltb 0xFFFEFFFF (bit_or marks ((marks * 2 ^ 16) % 2 ^ 32)))
    back t =
        let whole : bit_or marks ((marks * 2 ^ 16) % 2 ^ 32) / 2 ^ 16 + 1 ≡ 2 ^ 16
        = ones 16 (bit_or marks ((marks * 2 ^ 16) % 2 ^ 32) / 2 ^ 16) (omega (arith, small))
        (λ s h. bits s h ∙ omega (arith, once ps t s (omega arith))) in
        le→leb 0xFFFF0000 (bit_or marks ((marks * 2 ^ 16) % 2 ^ 32)) (omega (arith, whole))

-- ---- the nibbles of a number, one after the other

more : (k v : ℕ) → nibbles (suc k) v ≡ nibbles k v ++ v / 2 ^ (4 * k) % 16 ∷ []
unfolding nibbles
more zero v = rw div-one
more (suc k) v =
    ap (λ (l : List ℕ). v % 16 ∷ l) (more k (v / 16))
    ∙ rw (pow_step, div-div-eq-div-mul, mul_comm 16)

pub nibbles-more : (k v : ℕ) → nibbles (k + 1) v ≡ nibbles k v ++ v / 2 ^ (4 * k) % 16 ∷ []
nibbles-more k v = rw (add-one k) (more k v)

-- one turn of the loop: the next nibble is passed
pub rest-next : (x k : ℕ) {rest : ℕ} → rest ≡ x / 2 ^ (4 * k) → rest / 16 ≡ x / 2 ^ (4 * (k + 1))
rest-next x k e =
    ap (λ (r : ℕ). r / 16) e
    ∙ shr-shr x (4 * k) 4
    ∙ ap (λ (n : ℕ). x / 2 ^ n) (let z : 4 * k + 4 ≡ 4 * (k + 1) = omega arith in z)

-- ---- two halves, side by side

marked-same : {marks : ℕ} {ps qs : List ℕ} → Marked marks ps → ((s : ℕ) → count s ps ≡ count s qs) → Marked marks qs
marked-same m e = record { set = λ s l. m.set s l ∙ ap (min 1) (e s) }

marked-one-more : {marks : ℕ} {ps : List ℕ} (r : ℕ) → Marked marks ps
    → Marked (bit_or marks ((1 * 2 ^ bit_and r 31) % 2 ^ 32)) (ps ++ r % 16 ∷ [])
marked-one-more r m =
    rw (and_mask r 5, let z : r % 16 ≡ r % 32 % 16 = omega arith in z) (marked_more (r % 32) (mod-lt r (zero-lt-suc 31)) m)

one-more-lt : {marks : ℕ} (r : ℕ) → marks < 2 ^ 32 → bit_or marks ((1 * 2 ^ bit_and r 31) % 2 ^ 32) < 2 ^ 32
one-more-lt {marks} r h = or_lt 32 marks ((1 * 2 ^ bit_and r 31) % 2 ^ 32) h (mod-lt (1 * 2 ^ bit_and r 31) (pow_pos 32))

counted : (s : ℕ) (a b p q : List ℕ) → count s (((a ++ b) ++ p) ++ q) ≡ count s ((a ++ q) ++ (b ++ p))
counted s a b p q =
    omega (
      arith,
      count-append s ((a ++ b) ++ p) q,
      count-append s (a ++ b) p,
      count-append s a b,
      count-append s (a ++ q) (b ++ p),
      count-append s a q,
      count-append s b p,
    )

-- after k turns: k nibbles of each half are passed, and marked
pub record Halves (x marks low high : ℕ) : Type 0 where
  pub k : ℕ
  pub most : k ≤ 8
  pub low-is : low ≡ x / 2 ^ (4 * k)
  pub high_is : high ≡ x / 2 ^ 32 / 2 ^ (4 * k)
  pub small : marks < 2 ^ 32
  pub marked : Marked marks (nibbles k x ++ nibbles k (x / 2 ^ 32))

pub halves-none : (x : ℕ) → Halves x 0 x (x / 2 ^ 32)
unfolding nibbles
halves-none x =
    record {
      k = 0;
      most = omega arith;
      low-is = sym (div-one x);
      high_is = sym (div-one (x / 2 ^ 32));
      small = omega arith;
      marked = marked-none;
    }

module _ {x marks low high : ℕ} (v : Halves x marks low high) where
  left_over : x < 2 ^ 64 → (high ≡ 0 → ⊥) → v.k < 8
  left_over f h =
      elim (dec_lt v.k 8) [
        | yes l ↦ l
        | no l ↦ absurd (h
            (v.high_is
            ∙ ap (λ (j : ℕ). x / 2 ^ 32 / 2 ^ (4 * j)) (let e : v.k ≡ 8 = omega (arith, v.most) in e)
            ∙ (let z : x / 2 ^ 32 / 2 ^ 32 ≡ 0 = omega arith in z)))
      ]

  pub halves-next : x < 2 ^ 64 → (high ≡ 0 → ⊥)
      → Halves x (bit_or (bit_or marks ((1 * 2 ^ bit_and high 31) % 2 ^ 32)) ((1 * 2 ^ bit_and low 31) % 2 ^ 32)) (low / 16) (high / 16)
  halves-next f h =
      record {
        k = v.k + 1;
        most = omega (arith, left_over f h);
        low-is = rest-next x v.k v.low-is;
        high_is = rest-next (x / 2 ^ 32) v.k v.high_is;
        small = one-more-lt low (one-more-lt high v.small);
        marked = marked-same (marked-one-more low (marked-one-more high v.marked))
            (λ s.
            counted s (nibbles v.k x) (nibbles v.k (x / 2 ^ 32)) (high % 16 ∷ []) (low % 16 ∷ [])
            ∙ ap (count s) (ap₂ ◌++◌ (longer x v.low-is) (longer (x / 2 ^ 32) v.high_is)));
      }
    where
      longer : (y : ℕ) {r : ℕ} → r ≡ y / 2 ^ (4 * v.k) → nibbles v.k y ++ r % 16 ∷ [] ≡ nibbles (v.k + 1) y
      longer y e = ap (λ (z : ℕ). nibbles v.k y ++ z % 16 ∷ []) e ∙ sym (nibbles-more v.k y)

  -- the highest nibble is not 0: where nothing is left of the upper half, all sixteen are marked
  pub halves-all : 2 ^ 60 ≤ x → high ≡ 0 → Marked marks (nibbles 16 x)
  halves-all f h =
      subst (Marked marks)
      (ap (λ (j : ℕ). nibbles j x ++ nibbles j (x / 2 ^ 32)) eight
      ∙ sym (ap₂ ◌++◌ (take-nibbles 8 16 x (omega arith)) (drop-nibbles 8 16 x (omega arith)))
      ∙ take-append-drop 8 (nibbles 16 x))
      v.marked
    where
      eight : v.k ≡ 8
      eight =
          elim (dec_lt v.k 8) [
            | yes l ↦ absurd (
                let b : x / 2 ^ 32 < 2 ^ (4 * v.k) = below-if-none (x / 2 ^ 32) (4 * v.k) (sym v.high_is ∙ h) in
                let m : 2 ^ (4 * v.k) ≤ 2 ^ 28 = pow_mono (let n : 4 * v.k ≤ 28 = omega arith in n) in
                omega (arith, b, m))
            | no l ↦ omega (arith, v.most)
          ]
